-- The workers so far, the last one first.
use Rattle.std.proofs.Common.{◌≡◌, ◌+◌, vec_len, vec_capacity}
use Rattle.std.specs.Prelude.{All}
use Rattle.basis_board.specs.Rule.{Consistent}
use Rattle.lp_workers.specs.declared.hiring.Worker.{Worker}
use Rattle.lp_workers.specs.Passes.{IsFresh, part_of}
use Rattle.lp_workers.specs.Turns.{jobs_of}
use Rattle.lp_workers.proofs.Gathering.{AreSplit}
use Rattle.lp_workers.proofs.hiring.hire.Given as goal

abbrev pub invariant-loop-job : goal.invariant-loop-job
invariant-loop-job g l =
    record {
      board : l.first.board ≡ l.fn.first.board;
      rest : l.first.view ≡ part_of l.fn.first.view l.first.view.share;
      consistent : Consistent l.first.view;
      share : l.first.view.share + vec_len l.hired ≡ l.fn.first.view.share;
      jobs : AreSplit l.fn.jobs.items l.jobs.items (jobs_of l.hired.items);
      len : vec_len l.hired + vec_len l.jobs ≡ vec_len l.fn.jobs;
      room : vec_capacity l.hired ≡ vec_len l.fn.jobs;
      kept : vec_capacity l.jobs ≡ vec_capacity l.fn.jobs;
      fresh : All (λ (w : Worker g.row.T.Denot). IsFresh l.board w.pass) l.hired.items;
    }

abbrev pub decreases-loop-job : goal.decreases-loop-job
decreases-loop-job g l = vec_len l.jobs
