-- One more worker, and all of them in their order.
use Rattle.std.proofs.Common.{[], ◌∷◌, ap, sym, ◌∙◌, subst, arith}
use Rattle.std.specs.List.{All}
use Rattle.std.proofs.lemmas.List.{map-append}
use Rattle.std.proofs.lemmas.List.Elements.{All-push}
use Rattle.std.proofs.lemmas.List.Sorted.{All-permutation}
use Rattle.basis_board.specs.declared.seats.View.{View}
use Rattle.basis_board.specs.Board.{cut_left}
use Rattle.lp_workers.specs.declared.hiring.Worker.{Worker}
use Rattle.lp_workers.specs.Passes.{IsFresh, part_of}
use Rattle.lp_workers.specs.Turns.{jobs_of}
use Rattle.lp_workers.proofs.Gathering.{AreSplit, split_next, split_all, none_left, map_reverse, cut_is_fresh}
use Rattle.lp_workers.proofs.hiring.hire.Goals as goal

pub loop-job-preserved : goal.loop-job-preserved
loop-job-preserved g c =
    let so = c.loop-job.invariant in
    let cut = c.split-pass.ensures in
    let share = ap (λ (x : View). x.share) cut.old.1 in
    let rest = c.pop.new.self.items in
    let hired = c.loop-job.hired.items in
    let w : Worker g.row.T.Denot = record { job = c.in-Some.job; pass = c.split-pass.result } in
    let pushed = c.push_reserved.ensures.items in
    let is_fresh = (λ (x : Worker g.row.T.Denot). IsFresh c.args.board.now x.pass) in
    record {
      board = cut.old.0 ∙ so.board;
      rest = cut.old.1 ∙ ap cut_left so.rest ∙ ap (part_of c.args.first.now.view) (sym share);
      consistent = cut.consistent.0;
      share = omega (
        arith,
        c.push_reserved.ensures.len,
        share,
        so.share,
        so.len,
        c.requires.share,
        c.in-Some.ensures.cases,
      );
      jobs = subst (AreSplit c.args.jobs.now.items rest)
          (sym (ap jobs_of pushed ∙ map-append (λ (x : Worker g.row.T.Denot). x.job) hired (w ∷ [])))
          (split_next c.args.jobs.now.items c.loop-job.jobs.items rest (jobs_of hired) c.in-Some.job so.jobs
          c.in-Some.ensures.items);
      len = omega (arith, so.len, c.in-Some.ensures.cases, c.push_reserved.ensures.len);
      room = c.push_reserved.ensures.capacity ∙ so.room;
      kept = c.in-Some.ensures.capacity ∙ so.kept;
      fresh = subst (All is_fresh) (sym pushed)
          (All-push is_fresh hired w so.fresh
          (cut_is_fresh c.args.board.now w.pass c.loop-job.first.view (cut.new.0 ∙ so.board ∙ c.requires.board.0)
          cut.new.1 (ap (λ (x : View). x.places) so.rest ∙ c.requires.board.1) cut.consistent.1 cut.moments.1));
    }

pub returns-clause-jobs : goal.returns-clause-jobs
returns-clause-jobs g c =
    let none = none_left c.loop-job.jobs.items c.loop-job.jobs.len c.loop-job.jobs.ok.0 c.in_default.ensures.cases.0 in
    ap jobs_of c.reverse.ensures.items
    ∙ map_reverse (λ (x : Worker g.row.T.Denot). x.job) c.loop-job.hired.items
    ∙ split_all c.args.jobs.now.items c.loop-job.jobs.items (jobs_of c.loop-job.hired.items)
    c.loop-job.invariant.jobs none

pub returns-clause-fresh : goal.returns-clause-fresh
returns-clause-fresh g c =
    All-permutation (λ (x : Worker g.row.T.Denot). IsFresh c.args.board.now x.pass) c.loop-job.hired.items
    c.reverse.new.self.items c.reverse.ensures.permutation c.loop-job.invariant.fresh
