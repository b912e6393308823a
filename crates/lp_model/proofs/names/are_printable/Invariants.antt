use Rattle.std.proofs.Common.{◌≡◌, true, take}
use Rattle.std.specs.List.{list_all}
use Rattle.spec_model.specs.Kept.{is_printable}
use Rattle.lp_model.proofs.names.are_printable.Given as goal

abbrev pub invariant-loop-b : goal.invariant-loop-b
invariant-loop-b l = list_all is_printable (take l.b-index l.text) ≡ true
