-- The publishers so far, and the pass that others are cut off.
use Rattle.std.proofs.Common.{◌≡◌, ◌+◌}
use Rattle.std.specs.Prelude.{All}
use Rattle.basis_board.specs.Id.{id_of}
use Rattle.lp_tests.proofs.full_board.publishers.Given as goal

-- all publishers so far and the first pass are of the board, and one pass fewer can be split off the first for each of
-- them
abbrev pub invariant-loop-index : goal.invariant-loop-index
invariant-loop-index l =
    record {
      board : l.first.board ≡ id_of l.board;
      share : l.first.view.share + l.index ≡ 65;
      boards : All (λ one. one.pass.board ≡ id_of l.board) l.all.items;
    }
