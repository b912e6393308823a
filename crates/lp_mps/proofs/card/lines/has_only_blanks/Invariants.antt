use Rattle.std.proofs.Common.{◌≡◌, true, take}
use Rattle.std.specs.List.{list_all}
use Rattle.spec_text.specs.Words.{is_blank}
use Rattle.lp_mps.proofs.card.lines.has_only_blanks.Given as goal

abbrev pub invariant-loop-b : goal.invariant-loop-b
invariant-loop-b l = list_all is_blank (take l.b-index l.line) ≡ true
