use Rattle.std.proofs.Common.{◌≡◌}
use Rattle.spec_exact.specs.Run.{made}
use Rattle.spec_iis.specs.Only.{only_column_at}
use Rattle.lp_iis.proofs.columns.columns.Given as goal

-- the list has the first j columns, each with its listed bounds and its entries in the rows that stay
abbrev pub invariant-loop-j : goal.invariant-loop-j
invariant-loop-j l = l.columns.items ≡ made l.j (only_column_at l.model l.sides)
