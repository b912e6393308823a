use Rattle.std.proofs.Common.{◌≡◌, ◌<◌, ℕ, List, length, ap, ◌∙◌, subst, IfOk}
use Rattle.spec_exact.specs.Fraction.{ℚ}
use Rattle.spec_model.specs.Model.{part}
use Rattle.lp_ratio.specs.Multiple.{multiple}
use Rattle.lp_check.proofs.Scaled.{divided_are}
use Rattle.lp_check.proofs.wide.sums.divided_sums.Goals as goal

pub returns-clause-len : goal.returns-clause-len
returns-clause-len c =
    subst (λ k. IfOk c.all_divided.result (λ r. length r ≡ k))
    (ap length c.deref.ensures.value ∙ c.in_ok-sums.ensures.0)
    c.all_divided.ensures.len

pub returns-clause-value : goal.returns-clause-value
returns-clause-value c =
    divided_are c.args.model.now c.args.numbers.now c.in_ok-sums.sums.items c.args.by.now c.all_divided.result
    c.in_ok-sums.ensures
    (subst (λ (ws : List ℚ). IfOk c.all_divided.result
    (λ r. (i : ℕ) → i < length ws → multiple c.args.by.now (part r i) ≡ part ws i))
    c.deref.ensures.value c.all_divided.ensures.value)
