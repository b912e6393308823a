-- The place that a column takes: the least one that is open for it.
--
-- `open_next`: where no place below i is open and place i is not, no place below i + 1 is open.
-- `open_here`: where no place below i is open and place i is, place i is the least of n that is open.
-- `opened`: where a place is open for the list v, the item of v there is not 0.
-- `free_is`: a place that no column has taken is open for the column of list `v` just where `v` is not 0 there.
use Rattle.std.proofs.Common.{◌≡◌, ◌≢◌, ℕ, zero, suc, ◌+◌, ◌-◌, ◌<◌, List, length, get_or}
use Rattle.std.proofs.Common.{slice_get, Option, Some, None, is_none, Result, Ok, Err, Bool, true}
use Rattle.std.proofs.Common.{false, not, ◌&&◌, cond, refl, sym, ap, ap₂, ◌∙◌, subst, arith, add-one}
use Rattle.std.proofs.lemmas.Option.{get_or_from_slice_get}
use Rattle.std.specs.Prelude.{IsTrue, ◌↔◌}
use Rattle.spec_exact.specs.Fraction.{ℚ, 0ℚ, eq_ℚ}
use Rattle.spec_exact.proofs.Same.{eq_test, eq_if}
use Rattle.spec_pivot.specs.declared.status.Status.{Status}
use Rattle.spec_exact.specs.Run.{◌>>=◌, steps}
use Rattle.spec_exact.proofs.RunsInOrder.{steps_more, steps_stop}
use Rattle.spec_exact.specs.Narrow.{number_limit}
use Rattle.spec_simplex.specs.Tableau.{is_basic}
use Rattle.spec_simplex.specs.Form.{Form}
use Rattle.lp_frac.specs.declared.stop.Stop.{Stop}
use Rattle.lp_form.specs.declared.stop.Singular.{Singular}
use Rattle.lp_frac.specs.declared.stop.Stop.TheVariants as stop
use Rattle.lp_revised.specs.FactorAnswer.{Chooses, MakesFactors}
use Rattle.spec_simplex.specs.Eliminate.{basis_at}
use Rattle.spec_factor.specs.declared.stop.NoFactors.{NoFactors}
use Rattle.spec_factor.specs.declared.stop.NoFactors.TheVariants as cause
use Rattle.spec_factor.specs.Factors.{Chosen, is_open, or_open, open_place}
use Rattle.spec_factor.specs.Factors.{choose_run, none_chosen, choose_all, factors_of, factor_run}

-- the column of each place, none where a place has none
abbrev pub Columns : Type 0
Columns = List (Option ℕ)

pub open_next : (columns : Columns) (v : List ℚ) (i : ℕ) → open_place columns v i ≡ None → is_open columns v i ≡ false →
    open_place columns v (i + 1) ≡ None
open_next columns v i h e = ap (open_place columns v) (add-one i) ∙ ap₂ (λ o c. or_open o i c) h e

-- where p is the least open place among the first i, it is the least among the first i + n
stays : (columns : Columns) (v : List ℚ) (i p n : ℕ) → open_place columns v i ≡ Some p →
    open_place columns v (i + n) ≡ Some p
stays columns v i p zero h = (let z : i + 0 ≡ i = omega arith in ap (open_place columns v) z) ∙ h
stays columns v i p (suc n) h =
    (let z : i + suc n ≡ suc (i + n) = omega arith in ap (open_place columns v) z)
    ∙ ap (λ o. or_open o (i + n) (is_open columns v (i + n))) (stays columns v i p n h)

pub open_here : (columns : Columns) (v : List ℚ) (i n : ℕ) → open_place columns v i ≡ None →
    is_open columns v i ≡ true → i < n → Some i ≡ open_place columns v n
open_here columns v i n h e l =
    let z : suc i + (n - suc i) ≡ n = omega (arith, l) in
    sym (ap (open_place columns v) (sym z) ∙ stays columns v (suc i) i (n - suc i) (ap₂ (λ o c. or_open o i c) h e))

-- what is known of a place that is open
pub opened : (columns : Columns) (v : List ℚ) (i : ℕ) → is_open columns v i ≡ true → get_or v i 0ℚ ≢ 0ℚ
opened columns v i h e = by (get_or columns i None) h
  where
    by : (o : Option ℕ) → is_none o && not (eq_ℚ (get_or v i 0ℚ) 0ℚ) ≡ true → ⊥
    by None h = let z : false ≡ true = sym (ap not (eq_test (get_or v i 0ℚ) 0ℚ e)) ∙ h in cc
    by (Some k) h = let z : false ≡ true = h in cc

pub free_is : (columns : Columns) (v : List ℚ) (i : ℕ) (x : ℚ) (c : Bool) → get_or columns i None ≡ None →
    slice_get v i ≡ Some x → (IsTrue c ↔ (x ≡ 0ℚ)) → not c ≡ is_open columns v i
free_is columns v i x c e g h =
    sym (ap (λ o. is_none o && not (eq_ℚ (get_or v i 0ℚ) 0ℚ)) e
    ∙ ap (λ y. not (eq_ℚ y 0ℚ)) (get_or_from_slice_get v i x 0ℚ g) ∙ ap not (by (eq_ℚ x 0ℚ) c refl h))
  where
    by : (d c : Bool) → eq_ℚ x 0ℚ ≡ d → (IsTrue c ↔ (x ≡ 0ℚ)) → eq_ℚ x 0ℚ ≡ c
    by true true e h = e
    by false false e h = e
    by true false e h = let z : false ≡ true = h.1 (eq_if x 0ℚ e) in cc
    by false true e h = let z : true ≡ false = sym (eq_test x 0ℚ (h.0 refl)) ∙ e in cc

-- ---- the basic columns one by one
-- the basic ones of the first n columns have their places, and s are the factors in the making then, with one place for
-- each row
pub record ChosenTo (f : Form) (basis : List Status) (n : ℕ) (s : Chosen) : Type 0 where
  pub done : steps n (λ k s. cond (is_basic (basis_at basis k)) (choose_run (Some number_limit) f k s) (Ok s))
      (none_chosen f) ≡ Ok s
  pub all : length s.columns ≡ f.rows

module _ (f : Form) (basis : List Status) where
  abbrev at : ℕ → Chosen → Result Chosen (NoFactors ℚ)
  at k s = cond (is_basic (basis_at basis k)) (choose_run (Some number_limit) f k s) (Ok s)

  -- the status that is read at k is that of column k in the basis
  pub status_read : (k : ℕ) (s : Status) → slice_get basis k ≡ Some s → basis_at basis k ≡ s
  status_read k s e = get_or_from_slice_get basis k s _ e

  -- where places are chosen for the basic columns below k, and column k is basic and gets one, they are chosen for
  -- those below k + 1
  pub one_more : (k : ℕ) (s u : Chosen) (status : Status) → ChosenTo f basis k s → slice_get basis k ≡ Some status →
      is_basic status ≡ true → choose_run (Some number_limit) f k s ≡ Ok u → length u.columns ≡ length s.columns →
      ChosenTo f basis (k + 1) u
  one_more k s u status d e b h l = record {
    done =
        steps_more k at (none_chosen f) s u d.done
        (ap (λ x. cond (is_basic x) (choose_run (Some number_limit) f k s) (Ok s)) (status_read k status e)
        ∙ ap (λ c. cond c (choose_run (Some number_limit) f k s) (Ok s)) b ∙ h);
    all = l ∙ d.all;
  }

  -- where places are chosen for the basic columns below k, and column k is not basic, they are chosen for those below k
  -- + 1
  pub passed_by : (k : ℕ) (s u : Chosen) (status : Status) → ChosenTo f basis k s → slice_get basis k ≡ Some status →
      is_basic status ≡ false → u ≡ s → ChosenTo f basis (k + 1) u
  passed_by k s u status d e b same = subst (ChosenTo f basis (k + 1)) (sym same) (record {
    done =
        steps_more k at (none_chosen f) s s d.done
        (ap (λ x. cond (is_basic x) (choose_run (Some number_limit) f k s) (Ok s)) (status_read k status e)
        ∙ ap (λ c. cond c (choose_run (Some number_limit) f k s) (Ok s)) b);
    all = d.all;
  })

  -- where places are chosen for the basic columns below k, and choosing one for the basic column k fails, there are no
  -- factors, for the same reason
  pub factor_stops : (k : ℕ) (s : Chosen) (status : Status) (x : NoFactors ℚ) → k < f.cols + f.rows →
      ChosenTo f basis k s → slice_get basis k ≡ Some status → is_basic status ≡ true →
      choose_run (Some number_limit) f k s ≡ Err x → factor_run (Some number_limit) f basis ≡ Err x
  unfolding factor_run choose_all
  factor_stops k s status x l d e b h =
      ap (λ o. o >>= λ s. Ok (factors_of s)) (steps_stop k (f.cols + f.rows) at (none_chosen f) s x l d.done
      (ap (λ x. cond (is_basic x) (choose_run (Some number_limit) f k s) (Ok s)) (status_read k status e)
      ∙ ap (λ c. cond c (choose_run (Some number_limit) f k s) (Ok s)) b ∙ h))

  -- where places are chosen for all basic columns, the factors are those of these places
  pub factor_gives : (n : ℕ) (s : Chosen) → n ≡ f.cols + f.rows → ChosenTo f basis n s →
      factor_run (Some number_limit) f basis ≡ Ok (factors_of s)
  unfolding factor_run choose_all
  factor_gives n s e d =
      ap (λ n. steps n at (none_chosen f) >>= λ s. Ok (factors_of s)) (sym e)
      ∙ ap (λ o. o >>= λ s. Ok (factors_of s)) d.done

  -- where choosing a place for the basic column k stops the code, making the factors stops for the same reason
  pub factor_refused : (k : ℕ) (s u : Chosen) (status : Status) (e : Stop Singular) → k < f.cols + f.rows →
      ChosenTo f basis k s → slice_get basis k ≡ Some status → is_basic status ≡ true →
      Chooses (choose_run (Some number_limit) f k s) u (Err e)
      → MakesFactors (factor_run (Some number_limit) f basis) (Err e)
  factor_refused k s u status (stop.Cause why) l d e b h = factor_stops k s status cause.Singular l d e b h
  factor_refused k s u status (stop.Past p) l d e b h = factor_stops k s status (cause.Past p) l d e b h
  factor_refused k s u status stop.NoMemory l d e b h = tt
