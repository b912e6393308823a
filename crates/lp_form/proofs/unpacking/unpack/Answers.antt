-- As many columns are basic as there are rows.
use Rattle.std.proofs.Common.{sym, ◌∙◌, arith}
use Rattle.lp_form.proofs.WordLists.{basics_unpacked}
use Rattle.lp_form.proofs.unpacking.unpack.Goals as goal

pub from_vec-requires : goal.from_vec-requires
from_vec-requires c =
    basics_unpacked c.args.words.now c.loop-c.c c.loop-c.statuses.items c.loop-c.invariant
    (omega (
      arith,
      c.loop-c-test.false,
      c.loop-c.auto.c-end,
      c.cols_of.ensures,
      c.rows_of.ensures,
      c.requires.few_rows,
      c.requires.few_columns,
    )) c.requires.count
    ∙ sym c.rows_of-2.ensures
