-- By the sign of the numerator.
use Rattle.std.proofs.Common.{pos, int_lt, ap, ◌∙◌, rules}
use Rattle.std.specs.Int.{w128}
use Rattle.std.proofs.lemmas.Int.{to_z-of_z}
use Rattle.spec_exact.proofs.FractionSigns.{positive_test}
use Rattle.lp_frac.proofs.readers.is_positive.Goals as goal

pub returns : goal.returns
returns c =
    ap (int_lt (pos 0)) (to_z-of_z w128 c.top.result (search rules) ∙ c.top.ensures.value) ∙ positive_test c.args.v
