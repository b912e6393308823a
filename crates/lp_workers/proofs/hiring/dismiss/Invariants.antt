-- The passes that were met so far, and the jobs, the last one first.
use Rattle.std.proofs.Common.{◌≡◌, ◌+◌, ◌++◌, vec_len, vec_capacity}
use Rattle.std.specs.Prelude.{All}
use Rattle.std.specs.List.Sorted.{IsPermutation}
use Rattle.basis_board.specs.Known.{notes_of}
use Rattle.basis_board.specs.Moments.{IsOneLog}
use Rattle.basis_board.specs.Rule.{Consistent}
use Rattle.basis_board.specs.PassReads.{reads_of}
use Rattle.lp_workers.specs.Passes.{IsUsed, KnowsWhole, notes_of_all, reads_of_all}
use Rattle.lp_workers.specs.Turns.{jobs_of, passes_of}
use Rattle.lp_workers.proofs.Gathering.{AreSplit}
use Rattle.lp_workers.proofs.hiring.dismiss.Given as goal

abbrev pub invariant-loop-worker : goal.invariant-loop-worker
invariant-loop-worker g l =
    record {
      jobs : AreSplit (jobs_of l.fn.workers.items) (jobs_of l.workers.items) l.jobs.items;
      len : vec_len l.jobs + vec_len l.workers ≡ vec_len l.fn.workers;
      room : vec_capacity l.jobs ≡ vec_capacity l.fn.jobs;
      board : l.first.board ≡ l.fn.first.board;
      consistent : Consistent l.first.view;
      share : l.first.view.share + vec_len l.workers ≡ l.fn.first.view.share + vec_len l.fn.workers;
      whole : l.first.view.share ≡ 64 → KnowsWhole l.first.view;
      used : All (IsUsed l.board) (passes_of l.workers.items);
      reads : IsPermutation (reads_of l.fn.first.view ++ reads_of_all (passes_of l.fn.workers.items))
          (reads_of l.first.view ++ reads_of_all (passes_of l.workers.items));
      log : l.first.view.share ≡ 64 → IsOneLog (notes_of l.first);
      notes : notes_of_all (passes_of l.workers.items) ++ notes_of l.first
          ≡ notes_of_all (passes_of l.fn.workers.items) ++ notes_of l.fn.first;
    }

abbrev pub decreases-loop-worker : goal.decreases-loop-worker
decreases-loop-worker g l = vec_len l.workers
