-- No position is open, and the column has its position.
use Rattle.std.proofs.Common.{Some, sym, ap₂, subst₂, ◌∙◌, arith}
use Rattle.spec_exact.specs.Narrow.{number_limit}
use Rattle.spec_simplex.specs.Step.{turned_run}
use Rattle.lp_tableau.specs.Grid.{IsGrid}
use Rattle.lp_tableau.proofs.EliminatedColumns.{is_singular, is_solved, one_inside}
use Rattle.lp_tableau.proofs.solve.solve.Goals as goal

pub returns-in_default-clause-solved : goal.returns-in_default-clause-solved
returns-in_default-clause-solved c =
    is_singular (Some number_limit) c.args.form.now c.args.grid.now c.args.basic.now c.args.j c.in_default.ensures.least

pub turn-requires-clause-shape : goal.turn-requires-clause-shape
turn-requires-clause-shape c =
    subst₂ (λ m n. IsGrid m n c.args.grid.now) (sym c.rows.ensures.value) (sym c.width.ensures.value) c.requires.shape

pub turn-requires-clause-column : goal.turn-requires-clause-column
turn-requires-clause-column c = omega (arith, c.requires.column, c.width.ensures.value)

pub returns-clause-solved : goal.returns-clause-solved
returns-clause-solved c =
    is_solved (Some number_limit) c.args.form.now c.args.grid.now c.args.basic.now c.args.j c.in-Some.p
    c.in-Some.ensures.least _
    (ap₂ (λ m n. turned_run (Some number_limit) m n c.args.grid.now c.in-Some.p c.args.j)
    (sym c.rows.ensures.value) (sym c.width.ensures.value) ∙ c.in_ok-turn.ensures.rows)

pub returns-clause-inside : goal.returns-clause-inside
returns-clause-inside c = one_inside _ c.args.basic.now _ c.args.j c.requires.inside c.requires.column

pub open-requires-clause-shape : goal.open-requires-clause-shape
open-requires-clause-shape c = c.requires.shape

pub returns-in_default-clause-shape : goal.returns-in_default-clause-shape
returns-in_default-clause-shape c = c.requires.shape

pub returns-in_default-clause-inside : goal.returns-in_default-clause-inside
returns-in_default-clause-inside c = c.requires.inside

pub returns-in_err-turn-clause-inside : goal.returns-in_err-turn-clause-inside
returns-in_err-turn-clause-inside c = c.requires.inside
