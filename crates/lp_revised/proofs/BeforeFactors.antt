-- The state that a form begins with, before it has factors.
use Rattle.std.proofs.Common.{◌≡◌, ℕ, ◌+◌, List, [], ◌++◌, length, map, replicate, Option, Some, sym, subst, arith}
use Rattle.spec_exact.specs.Fraction.{ℚ, 0ℚ}
use Rattle.spec_pivot.specs.declared.status.Status.{Status}
use Rattle.spec_simplex.specs.declared.ends.RowStart.{RowStart}
use Rattle.spec_simplex.specs.Form.{Form, IsForm}
use Rattle.spec_exact.specs.Run.{made}
use Rattle.spec_simplex.specs.Start.{start_basic, start_value, start_status, artificial_upper, begun}
use Rattle.spec_simplex.specs.Tableau.{Tableau, IsTableauShape}
use Rattle.spec_factor.specs.Factors.{Pair}
use Rattle.spec_factor.specs.Revised.{bare_of}
use Rattle.lp_tableau.proofs.TableauParts.{begun_shape}
use Rattle.lp_revised.specs.State.{IsState, state_of}

module _ (f : Form) (starts : List (RowStart ℚ)) where
  -- where sizes, basic columns, values, statuses and bounds are those that the rows' starts give, their state is the
  -- bare one with which the form begins
  pub begun_is : (rows cols : ℕ) (basic : List ℕ) (value : List ℚ) (status : List Status)
      (lower upper : List (Option ℚ)) →
      rows ≡ f.rows → cols ≡ f.cols → basic ≡ made f.rows (start_basic f starts) →
      value ≡ made (f.cols + f.rows + f.rows) (start_value f starts) →
      status ≡ made (f.cols + f.rows + f.rows) (start_status f starts) → lower ≡ f.lower ++ replicate f.rows (Some 0ℚ) →
      upper ≡ f.upper ++ map artificial_upper starts →
      (state_of rows cols basic value status lower upper [] 0).bare ≡ bare_of (begun f starts)
  begun_is rows cols basic value status lower upper a b c d e g h = cc

  -- the bare state with which a form begins, with any pairs, is a state over as many places as the form has rows
  pub begun_state : (t : Tableau) (pairs : List Pair) (places : ℕ) → IsForm f → length starts ≡ f.rows →
      t ≡ bare_of (begun f starts) → places ≡ f.rows →
      IsState places (record { bare = t; pairs = pairs; replaced = 0 })
  begun_state t pairs places k l e p =
      subst (λ t. IsState places (record { bare = t; pairs = pairs; replaced = 0 })) (sym e)
      (by (begun_shape f starts k l))
    where
      by : IsTableauShape (begun f starts) → IsState places
          (record { bare = bare_of (begun f starts); pairs = pairs; replaced = 0 })
      by g = record {
        few_rows = g.few_rows;
        few_columns = g.few_columns;
        all_basic = g.all_basic;
        in_range = g.in_range;
        all_values = g.all_values;
        all_statuses = g.all_statuses;
        all_lower = g.all_lower;
        all_upper = g.all_upper;
        all_places = p;
        few_replaced = omega arith;
      }
