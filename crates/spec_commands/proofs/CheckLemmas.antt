-- What lines say, some after others.
use Rattle.std.proofs.Common.{◌≡◌}
use Rattle.spec_text.specs.declared.line.Line.TheVariants.{End}
use Rattle.spec_mps.specs.Steps as text
use Rattle.spec_certificate.specs.Text.{step_by}
use Rattle.spec_server.specs.Said.{On}
use Rattle.spec_commands.specs.CheckOut.{Stage, InText, InCertificate, check_step}

-- at the end of the input `check` says something, in the text as well as in the certificate
pub end_says : (stage next : Stage) → check_step stage End ≡ On next → ⊥
unfolding check_step text.step step_by
end_says (InText style s n) next e = cc
end_says (InCertificate m so_far n) next e = cc
