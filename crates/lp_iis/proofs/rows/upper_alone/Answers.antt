use Rattle.std.proofs.Common.{◌≡◌, sym, ◌∙◌, subst}
use Rattle.std.specs.Prelude.{IfOk}
use Rattle.lp_iis.proofs.OneMore.{upper_single, upper_copy, upper_none}
use Rattle.lp_iis.proofs.rows.upper_alone.Goals as goal

pub returns-else-is_limited_below-clause-value : goal.returns-else-is_limited_below-clause-value
returns-else-is_limited_below-clause-value c =
    subst (λ x. IfOk c.copy-else-is_limited_below.result (λ r. r ≡ x))
    (upper_copy c.args.row.now (sym c.is_limited_below.ensures ∙ c.if-is_limited_below.false))
    c.copy-else-is_limited_below.ensures.value

pub returns-in-Some-clause-value : goal.returns-in-Some-clause-value
returns-in-Some-clause-value c =
    subst (λ x. IfOk c.single.result (λ r. r ≡ x))
    (upper_single c.args.row.now c.in-Some.high (sym c.upper_limit.ensures ∙ c.in-Some.is)
    (sym c.is_limited_below.ensures ∙ c.if-is_limited_below.true)) c.single.ensures.value

pub returns-in-None-clause-value : goal.returns-in-None-clause-value
returns-in-None-clause-value c =
    subst (λ x. IfOk c.copy.result (λ r. r ≡ x))
    (upper_none c.args.row.now (sym c.upper_limit.ensures ∙ c.in-None.is)) c.copy.ensures.value
