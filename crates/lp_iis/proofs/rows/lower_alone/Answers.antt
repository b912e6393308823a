use Rattle.std.proofs.Common.{◌≡◌, sym, ◌∙◌, subst}
use Rattle.std.specs.Prelude.{IfOk}
use Rattle.lp_iis.proofs.OneMore.{lower_single, lower_copy, lower_none}
use Rattle.lp_iis.proofs.rows.lower_alone.Goals as goal

pub returns-else-is_limited_above-clause-value : goal.returns-else-is_limited_above-clause-value
returns-else-is_limited_above-clause-value c =
    subst (λ x. IfOk c.copy-else-is_limited_above.result (λ r. r ≡ x))
    (lower_copy c.args.row.now (sym c.is_limited_above.ensures ∙ c.if-is_limited_above.false))
    c.copy-else-is_limited_above.ensures.value

pub returns-in-Some-clause-value : goal.returns-in-Some-clause-value
returns-in-Some-clause-value c =
    subst (λ x. IfOk c.single.result (λ r. r ≡ x))
    (lower_single c.args.row.now c.in-Some.low (sym c.lower_limit.ensures ∙ c.in-Some.is)
    (sym c.is_limited_above.ensures ∙ c.if-is_limited_above.true)) c.single.ensures.value

pub returns-in-None-clause-value : goal.returns-in-None-clause-value
returns-in-None-clause-value c =
    subst (λ x. IfOk c.copy.result (λ r. r ≡ x))
    (lower_none c.args.row.now (sym c.lower_limit.ensures ∙ c.in-None.is)) c.copy.ensures.value
