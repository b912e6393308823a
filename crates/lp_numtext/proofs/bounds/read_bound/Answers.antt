use Rattle.std.proofs.Common.{sym, ap, ◌∙◌}
use Rattle.spec_mps.specs.BoundText.{bound_answer}
use Rattle.spec_mps.specs.BoundText as bound
use Rattle.lp_numtext.specs.Seen.{parts_seen}
use Rattle.lp_numtext.proofs.ValueSteps.{infinite_word, no_bound, infinite_number, finite_number, seen_proper}
use Rattle.lp_numtext.proofs.bounds.read_bound.Goals as goal

pub returns-then-is_infinity : goal.returns-then-is_infinity
returns-then-is_infinity c =
    c.infinity.ensures
    ∙ ap (λ n. bound_answer (bound.infinity n)) c.is_negative.ensures
    ∙ ap bound_answer (sym (infinite_word c.args.text.now c.in_default.ensures
    (ap bound.is_infinity (sym c.without_sign.ensures) ∙ sym c.is_infinity.ensures ∙ c.if-is_infinity.true)))

pub returns-in_default : goal.returns-in_default
returns-in_default c =
    ap bound_answer (sym (no_bound c.args.text.now c.in_default.ensures
    (ap bound.is_infinity (sym c.without_sign.ensures) ∙ sym c.is_infinity.ensures ∙ c.if-is_infinity.false)))

pub returns-then-is_huge : goal.returns-then-is_huge
returns-then-is_huge c =
    c.infinity-then-is_huge.ensures
    ∙ ap (λ n. bound_answer (bound.infinity n)) c.is_negative-then-is_huge.ensures
    ∙ ap bound_answer (sym (infinite_number c.args.text.now (parts_seen c.in-Some.parts) c.in-Some.ensures
    (seen_proper c.in-Some.parts) (sym c.is_huge.ensures ∙ c.if-is_huge.true)))

pub returns : goal.returns
returns c =
    c.finite.ensures
    ∙ ap bound_answer (sym (finite_number c.args.text.now (parts_seen c.in-Some.parts) c.in-Some.ensures
    (seen_proper c.in-Some.parts) (sym c.is_huge.ensures ∙ c.if-is_huge.false)))
