-- A bound that is given, or else the one before.
use Rattle.std.proofs.Common.{Option, Some, None}
use Rattle.spec_exact.specs.Fraction.{ℚ}
use Rattle.spec_model.specs.Kept.{IsBound}
use Rattle.spec_presolve.specs.Reduce.{or_old}

-- where two bounds are ones that a model may have, so is the first if it is there, or else the second
pub bound_or_old : (o old : Option ℚ) → IsBound o → IsBound old → IsBound (or_old o old)
bound_or_old None old h k = k
bound_or_old (Some q) old h k = h
