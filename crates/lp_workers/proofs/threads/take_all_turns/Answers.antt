-- The workers stand in their list again.
use Rattle.std.proofs.Common.{length, take, drop, ◌++◌, sym, subst}
use Rattle.std.specs.List.{All}
use Rattle.std.proofs.lemmas.List.Elements.{All-from_recursion}
use Rattle.lp_workers.specs.Passes.{IsUsed}
use Rattle.lp_workers.specs.Turns.{IsReady, passes_of}
use Rattle.lp_workers.proofs.Together.{taken_now, used_each}
use Rattle.lp_workers.proofs.threads.take_all_turns.Goals as goal

pub take_turns-requires-after_bounds : goal.take_turns-requires-after_bounds
take_turns-requires-after_bounds g c = λ lives bounds.
    subst (All (IsReady g.T.Turn.is_ready g.T.Turn.took c.args.shared.now c.args.board.now))
    (sym c.as_mut_slice.ensures.value) c.requires

pub returns : goal.returns
returns g c =
    let board = c.args.board.now in
    let list = c.args.workers.now in
    let old = list.items in
    let so = taken_now g.T.Turn.is_ready g.T.Turn.took c.args.shared.now board list.len old
    c.as_mut_slice.result.now c.take_turns.new.workers list.ok.0 c.as_mut_slice.ensures.value
    c.take_turns.auto.workers c.take_turns.ensures in
    let now = take list.len (c.take_turns.new.workers ++ drop (length c.take_turns.new.workers) old) in record {
      many = so.0;
      turns = so.1;
      used = All-from_recursion (IsUsed board) (passes_of now)
          (used_each g.T.Turn.is_ready g.T.Turn.took c.args.shared.now board old now so.0 so.1);
    }
