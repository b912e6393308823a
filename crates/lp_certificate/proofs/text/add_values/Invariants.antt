-- The loop over the columns, or over the rows.
use Rattle.std.proofs.Common.{◌≡◌, ◌++◌}
use Rattle.spec_certificate.specs.TextWritten.{lines_below_by}
use Rattle.lp_certificate.specs.Letters.{name_at}
use Rattle.lp_certificate.proofs.text.add_values.Given as goal

-- the lines are the old ones and then those of the first k numbers that are not 0
abbrev pub invariant-loop-k : goal.invariant-loop-k
invariant-loop-k g l =
    l.lines ≡ l.fn.lines ++ lines_below_by g.N.Number.writing l.letter (name_at l.model l.letter) l.values l.k
