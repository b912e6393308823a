-- By the sign of the numerator.
use Rattle.std.proofs.Common.{pos, int_lt, ap, ◌∙◌, rules}
use Rattle.std.specs.Int.{w128}
use Rattle.std.proofs.lemmas.Int.{to_z-of_z}
use Rattle.spec_exact.proofs.FractionSigns.{negative_test}
use Rattle.lp_frac.proofs.readers.is_negative.Goals as goal

pub returns : goal.returns
returns c =
    ap (λ z. int_lt z (pos 0)) (to_z-of_z w128 c.top.result (search rules) ∙ c.top.ensures.value)
    ∙ negative_test c.args.v
