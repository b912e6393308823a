-- One column after the other.
use Rattle.std.proofs.Common.{◌≡◌, ◌∙◌, length, subst, arith}
use Rattle.lp_row_runs.specs.Rows.{IsSolvedBelow}
use Rattle.lp_row_runs.proofs.SolvedRows.{done_of}
use Rattle.lp_row_runs.proofs.elimination.Elimination.run.Goals as goal

pub loop-j-preserved : goal.loop-j-preserved
loop-j-preserved g c = record {
  complete = done_of _ _ c.in-Done.is c.take.ensures.complete;
  size = done_of _ _ c.in-Done.is c.take.ensures.size ∙ c.loop-j.invariant.size;
  solved = λ f s. done_of _ _ c.in-Done.is c.take.ensures.solved f (c.loop-j.invariant.solved f s);
}

pub returns-clause-solved : goal.returns-clause-solved
returns-clause-solved g c = λ f s.
    let all : c.loop-j.j ≡ length c.args.basis.now = omega (arith, c.loop-j-test.false, c.loop-j.auto.j-end) in
    subst (λ j. IsSolvedBelow g.T.Words.value f c.args.basis.now j c.loop-j.self) all (c.loop-j.invariant.solved f s)
