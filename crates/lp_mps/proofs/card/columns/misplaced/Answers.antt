use Rattle.std.proofs.Common.{◌∙◌, sym, drop, arith}
use Rattle.lp_mps.proofs.TextEnds.{past_columns, misplaced_here, misplaced_later}
use Rattle.lp_mps.proofs.card.columns.misplaced.Goals as goal

pub returns-then-column-gt-LAST_COLUMN : goal.returns-then-column-gt-LAST_COLUMN
returns-then-column-gt-LAST_COLUMN c =
    sym (past_columns c.loop-byte.column (drop c.loop-byte.byte-index c.args.line.now) (omega arith))
    ∙ c.loop-byte.invariant.so_far

pub returns-then-is_misplaced : goal.returns-then-is_misplaced
returns-then-is_misplaced c =
    misplaced_here c.args.line.now c.loop-byte.byte-index c.loop-byte.column c.loop-byte-test.true
    c.if-is_misplaced.ensures
    ∙ c.loop-byte.invariant.so_far

pub loop-byte-preserved : goal.loop-byte-preserved
loop-byte-preserved c =
    record {
      so_far =
          misplaced_later c.args.line.now c.loop-byte.byte-index c.loop-byte.column c.loop-byte-test.true
          c.if-is_misplaced.ensures
          ∙ c.loop-byte.invariant.so_far;
      small = omega arith;
    }
