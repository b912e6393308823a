-- The rows of all columns.
use Rattle.std.proofs.Common.{◌≡◌, ◌+◌, ◌∙◌, length, sym, subst, arith}
use Rattle.lp_rows.specs.Shows.{width}
use Rattle.lp_rows.proofs.SameNumbers.{of_some}
use Rattle.lp_row_runs.specs.Rows.{IsComplete, IsSolvedBelow}
use Rattle.lp_row_runs.specs.declared.elimination.Elimination.{Elimination}
use Rattle.lp_row_runs.proofs.SolvedRows.{done_of}
use Rattle.lp_row_runs.proofs.BasisRows.{shows_basis}
use Rattle.lp_row_runs.proofs.based.solved.Goals as goal

pub run-requires-clause-complete : goal.run-requires-clause-complete
run-requires-clause-complete g c =
    of_some (IsComplete g.T.Words.value) c.in_ok-elimination.field-0 c.in-Some.elimination c.in-Some.is
    c.in_ok-elimination.ensures.complete

pub run-requires-clause-all : goal.run-requires-clause-all
run-requires-clause-all g c =
    c.requires.all
    ∙ sym (of_some
    (λ (e : Elimination g.row.T.Denot). width e.tab ≡ c.args.form.now.cols + c.args.form.now.rows)
    c.in_ok-elimination.field-0 c.in-Some.elimination c.in-Some.is c.in_ok-elimination.ensures.size)

pub returns-in-Done-clause-whole : goal.returns-in-Done-clause-whole
returns-in-Done-clause-whole g c =
    let complete : IsComplete g.T.Words.value c.run.new.self = done_of _ _ c.in-Done.is c.run.ensures.complete in
    let basis = c.args.basis.now in
    let solved : IsSolvedBelow g.T.Words.value c.args.form.now basis (length basis) c.run.new.self =
    done_of _ _ c.in-Done.is c.run.ensures.solved c.args.form.now
    (of_some _ c.in_ok-elimination.field-0 c.in-Some.elimination c.in-Some.is c.in_ok-elimination.ensures.begun) in
    record { whole = complete.whole; rows = sym solved.rows.len; cols = sym solved.form.cols }

pub returns-in-Done-clause-shown : goal.returns-in-Done-clause-shown
returns-in-Done-clause-shown g c = λ proper.
    shows_basis g.T.Words.value c.args.form.now c.args.basis.now c.run.new.self proper c.requires
    (omega (arith, c.rows.ensures.kept.all_costs))
    (subst (λ n. IsSolvedBelow g.T.Words.value c.args.form.now c.args.basis.now n c.run.new.self) c.requires.all
    (done_of _ _ c.in-Done.is c.run.ensures.solved c.args.form.now
    (of_some _ c.in_ok-elimination.field-0 c.in-Some.elimination c.in-Some.is c.in_ok-elimination.ensures.begun)))
