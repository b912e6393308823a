-- The ranges that are read off the start from a basis.
--
-- `moved_entry`: a column that limits the range of the cost at position p has an entry there that is not 0.
-- `suits`: the tableau of a basis that keeps a model has the model's size, and each basic column has a position.
use Rattle.std.proofs.Common.{◌≡◌, ◌≢◌, ℕ, ◌+◌, ◌<◌, List, length, Option, Some, None, Result, Ok, Err, Bool}
use Rattle.std.proofs.Common.{true, false, not, ◌||◌, IfOk, refl, sym, ap, ◌∙◌, subst}
use Rattle.spec_exact.specs.Fraction.{ℚ, 0ℚ, eq_ℚ}
use Rattle.spec_exact.specs.Narrow.{number_limit}
use Rattle.spec_exact.specs.Run.{Run, ◌>>=◌, refused_as}
use Rattle.spec_exact.proofs.Results.{ok_same, ok_not_err}
use Rattle.spec_exact.proofs.Same.{eq_test}
use Rattle.spec_model.specs.Model.{Model, width, height, cost, row}
use Rattle.spec_model.specs.Truth.{IsOptimal}
use Rattle.spec_edit.specs.Changes.{with_cost, with_rhs}
use Rattle.spec_pivot.specs.declared.status.Status.{Status}
use Rattle.spec_simplex.specs.declared.ends.StartStop.{StartStop}
use Rattle.spec_simplex.specs.declared.ends.StartStop.TheVariants as stops
use Rattle.spec_simplex.specs.Form.{Form, form_of}
use Rattle.spec_simplex.specs.Tableau.{Tableau, entry_at, status_at, lower_at, upper_at, is_basic, is_fixed}
use Rattle.spec_simplex.specs.Eliminate.{IsBasisOf, start_from}
use Rattle.spec_runs.proofs.LimitSteps.{from_agrees}
use Rattle.spec_range.specs.declared.range.Range.{Range}
use Rattle.spec_range.specs.Span.{Keeps, IsRange}
use Rattle.spec_range.specs.Rule.{is_moved, cost_run, side_run, cost_range, side_range}
use Rattle.spec_range.proofs.CostRange.{cost_range_is}
use Rattle.spec_range.proofs.SideRange.{side_range_is}
use Rattle.spec_range.proofs.Exists.{form_without}
use Rattle.std.proofs.Common.{⊎_elim}
use Rattle.lp_range.specs.Answer.{Start, IsFrom}
use Rattle.lp_range.proofs.Seated.{Suited, suited}

-- where none of three tests holds, the last one does not hold
last_false : (x y z : Bool) → not (x || (y || z)) ≡ true → z ≡ false
last_false true y z e = let o : false ≡ true = e in cc
last_false false true z e = let o : false ≡ true = e in cc
last_false false false true e = let o : false ≡ true = e in cc
last_false false false false e = refl

pub moved_entry : (t : Tableau) (p k : ℕ) → is_moved t p k ≡ true → entry_at t p k ≢ 0ℚ
moved_entry t p k e z =
    let o : false ≡ true =
    sym (last_false (is_basic (status_at t k)) (is_fixed (lower_at t k) (upper_at t k)) (eq_ℚ (entry_at t p k) 0ℚ) e)
    ∙ eq_test (entry_at t p k) 0ℚ z in cc

module _ (limit : Option ℕ) (m : Model) (f : Form) (basis : List Status) (formed : form_of limit m ≡ Ok f)
    (keeps : Keeps m basis) where
  -- the form of a model that the basis keeps is the one at the limit
  same_form : keeps.form ≡ f
  same_form = ok_same keeps.form f (sym keeps.formed ∙ form_without limit m f formed)

  -- a basis that keeps a model has a status for each column and row of its form
  pub all_statuses : length basis ≡ f.cols + f.rows
  all_statuses = (subst (λ f. IsBasisOf f basis) same_form keeps.fits).all

  -- a basis that keeps a model has a tableau in its form without a limit
  started : start_from None f basis ≡ Ok keeps.tableau
  started = ap (λ f. start_from None f basis) (sym same_form) ∙ keeps.started

  -- the start from a basis that keeps a model is never singular
  pub never_singular : start_from limit f basis ≢ Err stops.Singular
  never_singular e =
      ⊎_elim
      (λ z. ok_not_err keeps.tableau stops.Singular (sym started ∙ sym z ∙ e))
      (λ p. let y : ◌≡◌ {A = Result Tableau (StartStop ℚ)} (Err stops.Singular) (Err (stops.Past p.0)) = sym e ∙ p.1 in
      let x : ◌≡◌ {A = StartStop ℚ} stops.Singular (stops.Past p.0) = cc in cc)
      (from_agrees limit f basis).same

-- the sizes of the tableau, where there is one
pub suits : (m : Model) (start : Start) → ((f : Form) × (basis : List Status) × IsFrom m f basis start) → (t : Tableau) →
    start ≡ Ok t → Suited m t
suits m start (f, basis, from) t e =
    suited (Some number_limit) m f basis t from.formed from.keeps (from.is_start ∙ ap (refused_as stops.Past) e)

-- renaming the refusal of a start, and then that of the range from it, is renaming that of both in turn
refused_on : (run : Tableau → Run (Range ℚ)) (start : Start) →
    (refused_as stops.Past start >>= λ t. refused_as stops.Past (run t)) ≡ refused_as stops.Past (start >>= run)
refused_on run (Ok t) = refl
refused_on run (Err p) = refl

-- a range that is read off the start of the code is the range that the stated start from the basis gives
read_off : (run : Tableau → Run (Range ℚ)) (m : Model) (f : Form) (basis : List Status) (start : Start) (result : Run (Range ℚ)) →
    IsFrom m f basis start → result ≡ (start >>= run) →
    (start_from (Some number_limit) f basis >>= λ t. refused_as stops.Past (run t)) ≡ refused_as stops.Past result
read_off run m f basis start result from is =
    ap (λ o. o >>= λ t. refused_as stops.Past (run t)) from.is_start
    ∙ refused_on run start
    ∙ ap (refused_as stops.Past) (sym is)

module _ (m : Model) (start : Start) (at : ℕ) (result : Run (Range ℚ)) where
  module _ (is : result ≡ (start >>= λ t. cost_run (Some number_limit) m t at)) where
    -- where a result is the range of a cost by the start from a basis, the stated range of this cost from the basis is
    -- the result
    pub cost_value : (f : Form) (basis : List Status) → IsFrom m f basis start →
        cost_range (Some number_limit) m f basis at ≡ refused_as stops.Past result
    unfolding cost_range
    cost_value f basis from = read_off (λ t. cost_run (Some number_limit) m t at) m f basis start result from is

    -- the range of a cost that a start from an optimal basis gives is the whole range in which the basis stays optimal
    pub cost_spans : at < width m →
        IfOk result (λ r. (f : Form) (basis : List Status) → IsFrom m f basis start → (v : ℚ) → IsOptimal m v →
        IsRange (with_cost m at) basis (cost m at) v r)
    cost_spans l = by result refl
      where
        by : (o : Run (Range ℚ)) → result ≡ o →
            IfOk o (λ r. (f : Form) (basis : List Status) → IsFrom m f basis start → (v : ℚ) → IsOptimal m v →
            IsRange (with_cost m at) basis (cost m at) v r)
        by (Ok r) e = λ f basis from v optimal.
            cost_range_is (Some number_limit) m f basis at r v from.formed l from.keeps optimal
            (cost_value f basis from ∙ ap (refused_as stops.Past) e)
        by (Err p) e = tt

  module _ (is : result ≡ (start >>= λ t. side_run (Some number_limit) m t at)) where
    -- where a result is the range of a right side by the start from a basis, the stated range of this right side from
    -- the basis is the result
    pub side_value : (f : Form) (basis : List Status) → IsFrom m f basis start →
        side_range (Some number_limit) m f basis at ≡ refused_as stops.Past result
    unfolding side_range
    side_value f basis from = read_off (λ t. side_run (Some number_limit) m t at) m f basis start result from is

    -- the range of a right side that a start from an optimal basis gives is the whole range in which the basis stays
    -- optimal
    pub side_spans : at < height m →
        IfOk result (λ r. (f : Form) (basis : List Status) → IsFrom m f basis start → (v : ℚ) → IsOptimal m v →
        IsRange (with_rhs m at) basis (row m at).rhs v r)
    side_spans l = by result refl
      where
        by : (o : Run (Range ℚ)) → result ≡ o →
            IfOk o (λ r. (f : Form) (basis : List Status) → IsFrom m f basis start → (v : ℚ) → IsOptimal m v →
            IsRange (with_rhs m at) basis (row m at).rhs v r)
        by (Ok r) e = λ f basis from v optimal.
            side_range_is (Some number_limit) m f basis at r v from.formed l from.keeps optimal
            (side_value f basis from ∙ ap (refused_as stops.Past) e)
        by (Err p) e = tt
