-- The first column, a column that stops, one column more, and the end.
use Rattle.std.proofs.Common.{◌+◌, sym, subst₂, ◌∙◌, Some, arith}
use Rattle.std.proofs.lemmas.Result.{err_from_is_err_and}
use Rattle.spec_exact.specs.Narrow.{number_limit}
use Rattle.lp_tableau.proofs.EliminatedColumns.{Solving, solving_begins, solving_passes}
use Rattle.lp_tableau.proofs.EliminatedColumns.{solving_goes_on, solving_stops, solving_ends}
use Rattle.lp_tableau.proofs.solve.eliminate.Goals as goal
use Rattle.lp_tableau.proofs.solve.eliminate.Goals.{then-is_basic_at+in_ok-solve, else-is_basic_at}

pub loop-j-init : goal.loop-j-init
loop-j-init c = solving_begins (Some number_limit) c.args.form.now c.args.basis.now _ _ c.requires.rows
    c.requires.places

pub returns-in_err-solve-clause-solved : goal.returns-in_err-solve-clause-solved
returns-in_err-solve-clause-solved c =
    let p = err_from_is_err_and c.from_residual.result c.from_residual.ensures.1 in
    rw (p.1, p.2)
    (solving_stops (Some number_limit) c.args.form.now c.args.basis.now c.loop-j.j _ _ c.loop-j.invariant _
    (omega (arith, c.loop-j-test.true, c.cols.ensures.value, c.rows.ensures.value))
    (sym c.is_basic_at.ensures ∙ c.if-is_basic_at.true) c.in_err-solve.ensures.solved)

pub loop-j-preserved : goal.loop-j-preserved
loop-j-preserved c =
    elim c.if-is_basic_at.branch [
      | then-is_basic_at+in_ok-solve w ↦
          subst₂ (λ rows basic. Solving (Some number_limit) c.args.form.now c.args.basis.now (c.loop-j.j + 1) rows
          basic)
          (sym w.grid-is) (sym w.basic-is)
          (solving_goes_on (Some number_limit) c.args.form.now c.args.basis.now c.loop-j.j _ _ c.loop-j.invariant _ _
          (sym c.is_basic_at.ensures ∙ w.if-is_basic_at.true)
          w.in_ok-solve.ensures.solved w.in_ok-solve.ensures.shape
          w.in_ok-solve.ensures.places w.in_ok-solve.ensures.inside)
      | else-is_basic_at w ↦
          subst₂ (λ rows basic. Solving (Some number_limit) c.args.form.now c.args.basis.now (c.loop-j.j + 1) rows
          basic)
          (sym w.grid-is) (sym w.basic-is)
          (solving_passes (Some number_limit) c.args.form.now c.args.basis.now c.loop-j.j _ _ c.loop-j.invariant
          (sym c.is_basic_at.ensures ∙ w.if-is_basic_at.false))
    ]

pub returns-clause-solved : goal.returns-clause-solved
returns-clause-solved c =
    solving_ends (Some number_limit) c.args.form.now c.args.basis.now c.loop-j.j _ _ c.loop-j.invariant
    (omega (arith, c.loop-j-test.false, c.loop-j.auto.j-end, c.cols.ensures.value, c.rows.ensures.value))
