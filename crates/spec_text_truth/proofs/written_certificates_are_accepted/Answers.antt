use Rattle.spec_text_truth.proofs.AcceptedTexts.{solve_accepted, presolve_accepted, basis_accepted}
use Rattle.spec_text_truth.proofs.written_certificates_are_accepted.Goals as goal

pub returns : goal.returns
returns c = record {
  solve = λ style lines m after written begins out. solve_accepted style lines m after begins written out;
  basis = basis_accepted;
  presolve = λ style lines m after written begins out. presolve_accepted style lines m after begins written out;
}
