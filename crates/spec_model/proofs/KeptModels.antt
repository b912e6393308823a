-- What may be kept: the bound 0, a column over more rows, and a model within greater limits.
--
-- `zero_bound`: a bound may be 0.
-- `kept_higher`: a column that may be kept over some rows may be kept over more.
-- `kept_within_more`: a model that is kept within limits is kept within limits that are no less.
-- `usual_below_large`: the limits of usual models are at most those of large ones.
-- `usual_from_within`: a model that is kept within the usual limits is one that sessions may hold.
-- `within_from_usual`: a model that sessions may hold is kept within the usual limits.
use Rattle.std.proofs.Common.{Some, arith, ℕ, ◌<◌, ◌≤◌}
use Rattle.std.proofs.lemmas.Int.{ints}
use Rattle.std.proofs.lemmas.List.Elements.{All-weaker}
use Rattle.spec_exact.specs.Fraction.{0ℚ, whole}
use Rattle.spec_model.specs.declared.parts.SizeLimits.{SizeLimits}
use Rattle.spec_model.specs.Kept.{IsBound, IsKeptColumn, AreAtMost, IsModelWithin, IsUsualModel, usual_limits}
use Rattle.spec_model.specs.Kept.{large_limits}
use Rattle.spec_model.specs.Model.{Model, ExactColumn}

pub zero_bound : IsBound (Some 0ℚ)
unfolding whole
zero_bound = record { below = omega (arith, ints) }

pub kept_higher : (n m : ℕ) → n ≤ m → (c : ExactColumn) → IsKeptColumn n c → IsKeptColumn m c
kept_higher n m l c k =
    record {
      name = k.name;
      lower = k.lower;
      upper = k.upper;
      entries = record {
        inside = All-weaker (λ e. e.0 < n) (λ e. e.0 < m) (λ e f. omega arith) c.entries k.entries.inside;
        ascending = k.entries.ascending;
        not_zero = k.entries.not_zero;
      };
    }

-- a model that is kept within limits is so within greater ones
pub kept_within_more : (few many : SizeLimits) (m : Model) → AreAtMost few many → IsModelWithin few m →
    IsModelWithin many m
kept_within_more few many m most k =
    record {
      few =
          record {
            few_rows = omega (arith, k.few.few_rows, most.rows);
            few_columns = omega (arith, k.few.few_columns, most.columns);
          };
      name = k.name;
      objective = k.objective;
      rows = k.rows;
      ranges = k.ranges;
      columns = k.columns;
      rows_distinct = k.rows_distinct;
      columns_distinct = k.columns_distinct;
      offset = k.offset;
      narrow_rows = k.narrow_rows;
      narrow_columns = k.narrow_columns;
    }

pub usual_below_large : AreAtMost usual_limits large_limits
usual_below_large = record { rows = omega arith; columns = omega arith }

pub usual_from_within : (m : Model) → IsModelWithin usual_limits m → IsUsualModel m
usual_from_within m k = (kept_within_more usual_limits large_limits m usual_below_large k, k.few)

pub within_from_usual : (m : Model) → IsUsualModel m → IsModelWithin usual_limits m
within_from_usual m k =
    record {
      few = k.1;
      name = k.0.name;
      objective = k.0.objective;
      rows = k.0.rows;
      ranges = k.0.ranges;
      columns = k.0.columns;
      rows_distinct = k.0.rows_distinct;
      columns_distinct = k.0.columns_distinct;
      offset = k.0.offset;
      narrow_rows = k.0.narrow_rows;
      narrow_columns = k.0.narrow_columns;
    }
