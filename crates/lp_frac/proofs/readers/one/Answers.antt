use Rattle.std.proofs.Common.{pos, ◌∙◌, sym}
use Rattle.spec_exact.specs.Quotients.{one_lowest}
use Rattle.spec_exact.proofs.Field.{whole_over}
use Rattle.lp_frac.proofs.readers.one.Goals as goal

pub make-requires-clause-lowest : goal.make-requires-clause-lowest
make-requires-clause-lowest c = one_lowest 1

pub returns : goal.returns
returns c = c.make.ensures ∙ sym (whole_over (pos 1))
