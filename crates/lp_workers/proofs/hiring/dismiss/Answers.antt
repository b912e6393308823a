-- One more job, and one more pass is met.
use Rattle.std.proofs.Common.{[], ◌∷◌, Some, ap, sym, ◌∙◌, subst, arith}
use Rattle.std.proofs.lemmas.List.{map-append}
use Rattle.std.proofs.lemmas.List.Elements.{All-pop}
use Rattle.basis_board.specs.declared.seats.View.{View}
use Rattle.lp_workers.specs.declared.hiring.Worker.{Worker}
use Rattle.lp_workers.specs.Passes.{IsUsed}
use Rattle.lp_workers.specs.Turns.{jobs_of, passes_of}
use Rattle.lp_workers.proofs.Gathering.{AreSplit, split_next, gathered_more, gathered_notes}
use Rattle.lp_workers.proofs.hiring.dismiss.Goals as goal

pub meet-first-requires : goal.meet-first-requires
meet-first-requires g c =
    let so = c.loop-worker.invariant in
    let w = c.in-Some.worker in
    let rest = c.pop.new.self.items in
    let left = c.loop-worker.workers.items in
    let passes = ap passes_of c.in-Some.ensures.items
    ∙ map-append (λ (x : Worker g.row.T.Denot). x.pass) rest (w ∷ []) in
    let used = All-pop (IsUsed c.args.board.now) (passes_of left) (passes_of rest) (Some w.pass) passes so.used in
    record { board = (so.board ∙ c.requires.board, used.1.of_board) }

pub loop-worker-preserved : goal.loop-worker-preserved
loop-worker-preserved g c =
    let so = c.loop-worker.invariant in
    let w = c.in-Some.worker in
    let rest = c.pop.new.self.items in
    let left = c.loop-worker.workers.items in
    let meets = c.meet-first.ensures in
    let passes = ap passes_of c.in-Some.ensures.items
    ∙ map-append (λ (x : Worker g.row.T.Denot). x.pass) rest (w ∷ []) in
    let used = All-pop (IsUsed c.args.board.now) (passes_of left) (passes_of rest) (Some w.pass) passes so.used in
    let share = ap (λ (x : View). x.share) meets.view.view in
    let one = used.1.share in
    record {
      jobs = subst (AreSplit (jobs_of c.args.workers.items) (jobs_of rest)) (sym c.push_reserved.ensures.items)
          (split_next (jobs_of c.args.workers.items) (jobs_of left) (jobs_of rest) c.loop-worker.jobs.items w.job
          so.jobs
          (ap jobs_of c.in-Some.ensures.items ∙ map-append (λ (x : Worker g.row.T.Denot). x.job) rest (w ∷ [])));
      len = omega (arith, so.len, c.in-Some.ensures.cases, c.push_reserved.ensures.len);
      room = c.push_reserved.ensures.capacity ∙ so.room;
      board = meets.board ∙ sym c.requires.board;
      consistent = meets.consistent;
      share = omega (arith, share, one, so.share, c.in-Some.ensures.cases);
      whole = meets.view.whole;
      used = used.0;
      reads = gathered_more _ c.loop-worker.first.view c.meet-first.result.view (passes_of rest) w.pass
          meets.view.view (passes_of left) passes so.reads;
      log = meets.log;
      notes = gathered_notes c.loop-worker.first c.meet-first.result (passes_of rest) w.pass meets.view.view
          meets.moments used.1.were_true (passes_of left) passes ∙ so.notes;
    }
