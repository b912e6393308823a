use Rattle.std.proofs.Common.{Some, sym, ap, subst, ◌∙◌}
use Rattle.lp_solve.specs.Standing.{ColumnStandsWith}
use Rattle.lp_solve.proofs.Standing.{stands_if}
use Rattle.lp_solve.proofs.stands.column_stands.Goals as goal

pub returns-in_ok-lower-in-AtLower : goal.returns-in_ok-lower-in-AtLower
returns-in_ok-lower-in-AtLower c =
    stands_if c.stands_at.result _ _ c.stands_at.ensures (λ e.
    subst (ColumnStandsWith c.args.model.now c.args.x.now c.args.j c.args.reduced.now) (sym c.in-AtLower.is)
    (sym (c.in_ok-lower-in-AtLower.ensures ∙ ap (λ k. k.lower) c.col.ensures) ∙ e ∙ ap Some c.part.ensures))

pub returns-in_ok-upper-in-AtUpper : goal.returns-in_ok-upper-in-AtUpper
returns-in_ok-upper-in-AtUpper c =
    stands_if c.stands_at-in-AtUpper.result _ _ c.stands_at-in-AtUpper.ensures (λ e.
    subst (ColumnStandsWith c.args.model.now c.args.x.now c.args.j c.args.reduced.now) (sym c.in-AtUpper.is)
    (sym (c.in_ok-upper-in-AtUpper.ensures ∙ ap (λ k. k.upper) c.col-in-AtUpper.ensures) ∙ e
    ∙ ap Some c.part-in-AtUpper.ensures))
