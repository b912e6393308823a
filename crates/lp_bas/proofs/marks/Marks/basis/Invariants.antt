use Rattle.std.proofs.Common.{◌≡◌}
use Rattle.spec_exact.specs.Run.{made}
use Rattle.spec_bas.specs.Steps.{status_of}
use Rattle.lp_bas.proofs.marks.Marks.basis.Given as goal

-- the statuses listed so far are those of the columns before column k
abbrev pub invariant-loop-k : goal.invariant-loop-k
invariant-loop-k l = l.items.items ≡ made l.k (status_of l.form l.self)
