-- All turns were taken, and all passes met.
use Rattle.std.proofs.Common.{◌≡◌, length, ap, sym, ◌∙◌, arith}
use Rattle.std.proofs.lemmas.List.{length-map}
use Rattle.basis_board.specs.declared.seats.View.{View}
use Rattle.lp_workers.specs.declared.hiring.Worker.{Worker}
use Rattle.lp_workers.specs.Turns.{passes_of}
use Rattle.lp_workers.proofs.Gathering.{one_log}
use Rattle.lp_workers.proofs.Together.{all_ready, all_backed, used_each}
use Rattle.lp_workers.proofs.threads.on_threads.Goals as goal

pub take_all_turns-requires-after_bounds : goal.take_all_turns-requires-after_bounds
take_all_turns-requires-after_bounds g c = λ lives bounds.
    all_ready g.T.Turn.is_ready g.T.Turn.took c.args.shared.now c.in_ok-board.board c.args.jobs.now.items
    c.in_ok-workers.workers.items c.in_ok-workers.ensures.jobs c.requires.ready c.in_ok-workers.ensures.fresh

pub dismiss-whole-requires-clause-whole : goal.dismiss-whole-requires-clause-whole
dismiss-whole-requires-clause-whole g c = λ e.
    absurd
    (let parts = ap (λ (x : View). x.share) c.in_ok-board.ensures.2 in
    let cut = c.in_ok-workers.ensures.share in
    omega (arith, e, parts, cut, c.in_ok-workers.ensures.len, c.requires.some))

pub dismiss-whole-requires-clause-log : goal.dismiss-whole-requires-clause-log
dismiss-whole-requires-clause-log g c = λ e.
    absurd
    (let parts = ap (λ (x : View). x.share) c.in_ok-board.ensures.2 in
    let cut = c.in_ok-workers.ensures.share in
    omega (arith, e, parts, cut, c.in_ok-workers.ensures.len, c.requires.some))

pub returns-clause-len : goal.returns-clause-len
returns-clause-len g c =
    let back = ap length c.dismiss-whole.ensures.jobs in
    let new = c.take_all_turns.new.workers in
    omega (
      arith,
      c.dismiss-whole.new.jobs.ok.0,
      back,
      length-map new.items (λ (w : Worker g.row.T.Denot). w.job),
      c.take_all_turns.ensures.many,
      c.in_ok-workers.workers.ok.0,
      c.in_ok-workers.ensures.len,
    )

pub returns-clause-turns : goal.returns-clause-turns
returns-clause-turns g c =
    let made = c.in_ok-board.ensures in
    let old = c.in_ok-workers.workers.items in
    let new = c.take_all_turns.new.workers in
    let turns = c.take_all_turns.ensures in
    let met = c.dismiss-whole.ensures in
    let unread = ap (λ (x : View). x.reads) c.hire.ensures.rest ∙ ap (λ (x : View). x.reads) made.2 in
    let parts = ap (λ (x : View). x.share) made.2 in
    let share : c.dismiss-whole.result.view.share ≡ 64 = omega (
      arith,
      parts,
      c.in_ok-workers.ensures.share,
      met.share,
      turns.many,
      c.in_ok-workers.workers.ok.0,
      new.ok.0,
    ) in
    record {
      board = c.in_ok-board.board;
      before = old;
      after = new.items;
      places_so = made.0;
      jobs_before = c.in_ok-workers.ensures.jobs;
      jobs_after = sym met.jobs;
      many = turns.many;
      turns = turns.turns;
      one_log = one_log c.hire.new.first c.dismiss-whole.result (passes_of new.items) unread met.notes (met.log share);
      backed = all_backed c.in_ok-board.board c.hire.new.first.view c.dismiss-whole.result.view (passes_of new.items) unread
          met.consistent (met.whole share)
          (used_each g.T.Turn.is_ready g.T.Turn.took c.args.shared.now c.in_ok-board.board old new.items turns.many
          turns.turns) met.reads;
    }
