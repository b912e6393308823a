-- Phase two begins with the values, rows and statuses of phase one's end, where each artificial column is 0.
--
-- `some_of`: where some item of a list passes a test, there is an index whose item passes it.
-- `stands_zero`: a nonbasic value is 0 where the lower bound is 0 and the upper bound is absent or 0.
-- `zeroed_before`: fixing m bounds from n on at 0 changes no bound before n.
-- `zeroed_after`: fixing m bounds from n on at 0 makes each of these 0.
-- `second_phase`: where no artificial is stuck above 0, phase two's start is a tableau within bounds, with the form's
--   costs.
use Rattle.std.proofs.Common.{◌≡◌, ◌⊎◌, inr, ⊎_elim, ℕ, zero, suc, ◌+◌, ◌<◌, ◌≤◌, List, []}
use Rattle.std.proofs.Common.{◌∷◌, length, get_or, Option, Some, None, Ok, Bool, true, false}
use Rattle.std.proofs.Common.{not, ◌&&◌, ◌||◌, refl, sym, ap, ap₂, ◌∙◌, subst, subst₂, arith}
use Rattle.std.specs.List.{list_any}
use Rattle.std.proofs.lemmas.List.Folds.{list_any_at}
use Rattle.std.proofs.lemmas.Bool.{le-leb, lt-leb}
use Rattle.std.proofs.lemmas.List.{length-set, get_or-set_same, get_or-set_other}
use Rattle.spec_exact.specs.Fraction.{ℚ, 0ℚ, eq_ℚ}
use Rattle.spec_exact.proofs.Order.{≤ℚ_refl}
use Rattle.spec_exact.proofs.Same.{eq_if}
use Rattle.spec_pivot.specs.declared.status.Status.{Status}
use Rattle.spec_pivot.specs.declared.status.Status.TheVariants.{Basic, AtLower, AtUpper, AtZero}
use Rattle.spec_pivot.specs.Tableau.{Matrix, Spans, IsUnit}
use Rattle.spec_pivot.specs.Simplex.{Bounds, IsInside, Stands, AgreesWith}
use Rattle.spec_pivot.proofs.Pivot.{by_eq}
use Rattle.spec_pivot.proofs.Values.{by_basic}
use Rattle.spec_simplex.specs.Form.{Form}
use Rattle.spec_simplex.specs.Start.{cost_at, priced_run, with_reduced}
use Rattle.spec_simplex.specs.Tableau.{Tableau, form_columns, all_columns, is_artificial, basic_at}
use Rattle.spec_simplex.specs.Tableau.{entry_at, value_at, reduced_at, status_at, lower_at, upper_at}
use Rattle.spec_simplex.specs.Phases.{fixed_at_zero, without_artificials, phase_two_run, is_stuck}
use Rattle.spec_simplex.specs.Tables.{bounds_of, IsTableauOf, IsWithinBounds}
use Rattle.spec_simplex.proofs.RunParts.{then_ok}
use Rattle.spec_simplex.proofs.ListIndices.{by_lt, past_row}
use Rattle.spec_simplex.proofs.Priced.{priced_length, priced_agrees}

-- ---- where nothing is stuck, each artificial is 0

-- where no element of a list passes a test, the element at each place fails it
none_of : {A : Type 0} (p : A → Bool) (xs : List A) → list_any p xs ≡ false → (i : ℕ) (d : A) → i < length xs →
    p (get_or xs i d) ≡ false
none_of p xs h i d l = by (p (get_or xs i d)) refl
  where
    by : (c : Bool) → p (get_or xs i d) ≡ c → p (get_or xs i d) ≡ false
    by true e = let z : true ≡ false = sym (list_any_at p xs i d l e) ∙ h in cc
    by false e = e

-- where some item passes, there is one by its index
pub some_of : {A : Type 0} (p : A → Bool) (xs : List A) (d : A) → list_any p xs ≡ true →
    (i : ℕ) × (i < length xs) × (p (get_or xs i d) ≡ true)
some_of p [] d h = let z : false ≡ true = h in cc
some_of p (x ∷ xs) d h = by (p x) refl h (λ h. some_of p xs d h)
  where
    by : (c : Bool) → p x ≡ c → c || list_any p xs ≡ true →
        (list_any p xs ≡ true → (i : ℕ) × (i < length xs) × (p (get_or xs i d) ≡ true)) →
        (i : ℕ) × (i < length (x ∷ xs)) × (p (get_or (x ∷ xs) i d) ≡ true)
    by true e h more = (0, omega arith, e)
    by false e h more = let o = more h in (suc o.0, omega (arith, o.1), o.2)

pub stands_zero : (s : Status) (l u : Option ℚ) (v : ℚ) → l ≡ Some 0ℚ → (u ≡ None) ⊎ (u ≡ Some 0ℚ) → ¬ (s ≡ Basic) →
    Stands s l u v → v ≡ 0ℚ
stands_zero Basic l u v a b n s = absurd (n refl)
stands_zero AtLower l u v a b n s = let e : Some 0ℚ ≡ Some v = sym a ∙ s in cc
stands_zero AtUpper l u v a b n s =
    ⊎_elim (λ z. let e : None ≡ Some v = sym z ∙ s in cc) (λ z. let e : Some 0ℚ ≡ Some v = sym z ∙ s in cc) b
stands_zero AtZero l u v a b n s = s.2

-- ---- bounds that are set to 0

-- a list of bounds is as long as before once those of the artificial columns are 0
zeroed_length : (n m : ℕ) (bounds : List (Option ℚ)) → length (fixed_at_zero n m bounds) ≡ length bounds
zeroed_length n zero bounds = refl
zeroed_length n (suc m) bounds = length-set (fixed_at_zero n m bounds) (n + m) (Some 0ℚ) ∙ zeroed_length n m bounds

pub zeroed_before : (n m : ℕ) (bounds : List (Option ℚ)) (k : ℕ) → k < n →
    get_or (fixed_at_zero n m bounds) k None ≡ get_or bounds k None
zeroed_before n zero bounds k h = refl
zeroed_before n (suc m) bounds k h =
    get_or-set_other (fixed_at_zero n m bounds) (n + m) k (Some 0ℚ) None (λ e. let z : ⊥ = omega (arith, h, e) in z)
    ∙ zeroed_before n m bounds k h

pub zeroed_after : (n m : ℕ) (bounds : List (Option ℚ)) → n + m ≤ length bounds → (k : ℕ) → n ≤ k → k < n + m →
    get_or (fixed_at_zero n m bounds) k None ≡ Some 0ℚ
zeroed_after n zero bounds all k h l = absurd (let z : ⊥ = omega (arith, h, l) in z)
zeroed_after n (suc m) bounds all k h l =
    by_eq k (n + m)
    (λ e. ap (λ k. get_or (fixed_at_zero n (suc m) bounds) k None) e
    ∙ get_or-set_same (fixed_at_zero n m bounds) (n + m) (Some 0ℚ) None (omega (arith, zeroed_length n m bounds, all)))
    (λ d. get_or-set_other (fixed_at_zero n m bounds) (n + m) k (Some 0ℚ) None d
    ∙ zeroed_after n m bounds (omega (arith, all)) k h (omega (arith, l, d)))

-- ---- where a tableau of phase one has all artificials at 0
module _ (m n : ℕ) (f : Matrix) (cost : ℕ → ℚ) (b : Bounds) (t : Tableau) (s : IsTableauOf m n f cost b t) where
  -- a column below n + m + m is a column of the tableau t
  in_all : (k : ℕ) → k < n + m + m → k < all_columns t
  in_all k l = omega (arith, l, s.rows, s.cols)

  -- a column below n + m is structural or logical in the tableau t
  before_all : (k : ℕ) → k < n + m → k < form_columns t
  before_all k l = omega (arith, l, s.rows, s.cols)

  -- a column from n + m on is not structural or logical in the tableau t
  after_all : (k : ℕ) → n + m ≤ k → form_columns t ≤ k
  after_all k l = omega (arith, l, s.rows, s.cols)

  -- where no artificial is stuck, each artificial column has the value 0
  not_stuck_zero : is_stuck t ≡ false → (k : ℕ) → n + m ≤ k → k < n + m + m → value_at t k ≡ 0ℚ
  not_stuck_zero h k l l' =
      by_basic (status_at t k)
      (λ e. let p = s.tableau.placed k l' e in
      subst (λ k. value_at t k ≡ 0ℚ) p.2
      (zero (basic_at t p.0) (eq_ℚ (value_at t (basic_at t p.0)) 0ℚ)
      (ap (is_artificial t) p.2 ∙ le-leb (form_columns t) k (after_all k l)) refl
      (none_of (λ k. is_artificial t k && not (eq_ℚ (value_at t k) 0ℚ)) t.basic h p.0 0
      (omega (arith, p.1, s.whole.all_basic, s.rows)))))
      (λ e. stands_zero (status_at t k) (b.lower k) (b.upper k)
      (value_at t k) (s.bounds.zero k (after_all k l) (in_all k l'))
      (s.bounds.top k (after_all k l) (in_all k l')) e (s.tableau.stands k l'))
    where
      zero : (k : ℕ) (d : Bool) → is_artificial t k ≡ true → eq_ℚ (value_at t k) 0ℚ ≡ d →
          is_artificial t k && not (eq_ℚ (value_at t k) 0ℚ) ≡ false → value_at t k ≡ 0ℚ
      zero k true a e h = eq_if (value_at t k) 0ℚ e
      zero k false a e h = let z : true ≡ false = sym (ap₂ (λ a d. a && not d) a e) ∙ h in cc

  -- the bounds of phase two
  module _ (reduced : List ℚ) where
    -- the tableau t with its artificials fixed at 0 and these reduced costs
    abbrev u : Tableau
    u = with_reduced (without_artificials t) reduced

    -- fixing the artificials at 0 leaves the bounds of structural and logical columns
    read_before : (bounds : List (Option ℚ)) → length bounds ≡ all_columns t → (k : ℕ) → k < form_columns t →
        get_or (fixed_at_zero (form_columns t) t.rows bounds) k None ≡ get_or bounds k None
    read_before bounds h k l = zeroed_before (form_columns t) t.rows bounds k l

    -- fixing the artificials at 0 makes each bound of theirs 0
    read_after : (bounds : List (Option ℚ)) → length bounds ≡ all_columns t → (k : ℕ) → form_columns t ≤ k →
        k < all_columns t → get_or (fixed_at_zero (form_columns t) t.rows bounds) k None ≡ Some 0ℚ
    read_after bounds h k l l' = zeroed_after (form_columns t) t.rows bounds (omega (arith, h)) k l l'

    -- fixing the artificials at 0 leaves as many bounds as there are columns
    read_length : (bounds : List (Option ℚ)) → length bounds ≡ all_columns t →
        length (fixed_at_zero (form_columns t) t.rows bounds) ≡ all_columns t
    read_length bounds h = zeroed_length (form_columns t) t.rows bounds ∙ h

    -- in phase two each structural and logical column has its lower bound from before
    lower_same : (k : ℕ) → k < form_columns t → lower_at u k ≡ b.lower k
    lower_same k l = read_before t.lower s.whole.all_lower k l ∙ s.bounds.lower k (omega (arith, l))

    -- in phase two each structural and logical column has its upper bound from before
    upper_same : (k : ℕ) → k < form_columns t → upper_at u k ≡ b.upper k
    upper_same k l = read_before t.upper s.whole.all_upper k l ∙ s.bounds.upper k l

    module _ (zero : (k : ℕ) → n + m ≤ k → k < n + m + m → value_at t k ≡ 0ℚ)
        (reduced_length : length reduced ≡ all_columns t) (costs : ℕ → ℚ)
        (agrees : AgreesWith m f (basic_at t) costs (reduced_at u)) where
      zero_stands : (x : Status) (l r : Option ℚ) (v : ℚ) → l ≡ Some 0ℚ → v ≡ 0ℚ → Stands x l r v →
          Stands x (Some 0ℚ) (Some 0ℚ) v
      zero_stands Basic l r v e z h = tt
      zero_stands AtLower l r v e z h = ap Some (sym z)
      zero_stands AtUpper l r v e z h = ap Some (sym z)
      zero_stands AtZero l r v e z h = let y : None ≡ Some 0ℚ = sym h.0 ∙ e in cc

      -- at the beginning of phase two each column stands where its status says
      stands : (k : ℕ) → k < n + m + m → Stands (status_at t k) (lower_at u k) (upper_at u k) (value_at t k)
      stands k l =
          by_lt k (n + m)
          (λ h. subst₂ (λ x y. Stands (status_at t k) x y (value_at t k))
          (sym (lower_same k (before_all k h))) (sym (upper_same k (before_all k h))) (s.tableau.stands k l))
          (λ h. subst₂ (λ x y. Stands (status_at t k) x y (value_at t k))
          (sym (read_after t.lower s.whole.all_lower k (after_all k h) (in_all k l)))
          (sym (read_after t.upper s.whole.all_upper k (after_all k h) (in_all k l)))
          (zero_stands (status_at t k) (b.lower k) (b.upper k) (value_at t k)
          (s.bounds.zero k (after_all k h) (in_all k l)) (zero k h l) (s.tableau.stands k l)))

      -- where each value of t is within the bounds b, each value of u is within its own bounds
      inside : IsWithinBounds m n b t → IsWithinBounds m n (bounds_of u) u
      inside within k l =
          by_lt k (n + m)
          (λ h. subst₂ (λ x y. IsInside x y (value_at t k)) (sym (lower_same k (before_all k h)))
          (sym (upper_same k (before_all k h))) (within k l))
          (λ h. subst₂ (λ x y. IsInside x y (value_at t k))
          (sym (read_after t.lower s.whole.all_lower k (after_all k h) (in_all k l)))
          (sym (read_after t.upper s.whole.all_upper k (after_all k h) (in_all k l)))
          (subst (IsInside (Some 0ℚ) (Some 0ℚ)) (sym (zero k h l)) (record { lower = ≤ℚ_refl 0ℚ; upper = ≤ℚ_refl 0ℚ })))

      -- phase two begins with a tableau of the equations and the form's costs
      second : IsTableauOf m n f costs (bounds_of u) u
      second = record {
        rows = s.rows;
        cols = s.cols;
        whole = record {
          all_rows = s.whole.all_rows;
          whole_rows = s.whole.whole_rows;
          all_basic = s.whole.all_basic;
          all_values = s.whole.all_values;
          all_reduced = reduced_length;
          all_statuses = s.whole.all_statuses;
          all_lower = read_length t.lower s.whole.all_lower;
          all_upper = read_length t.upper s.whole.all_upper;
        };
        tableau = record {
          in_range = s.tableau.in_range;
          forth = s.tableau.forth;
          back = s.tableau.back;
          units = s.tableau.units;
          costs = agrees;
          marked = s.tableau.marked;
          placed = s.tableau.placed;
          stands = stands;
          solves = s.tableau.solves;
        };
        bounds = record {
          lower = λ k l. refl;
          upper = λ k l. refl;
          entering = λ k l. lt-leb (form_columns t) k l;
          barred = λ k l. le-leb (form_columns t) k l;
          zero = λ k l h. read_after t.lower s.whole.all_lower k l h;
          top = λ k l h. inr (read_after t.upper s.whole.all_upper k l h);
          basic = λ k l e. refl;
          fixed = λ k l h e. read_after t.upper s.whole.all_upper k l h;
        };
      }

-- u is a start of phase two: a tableau of the equations f and of these costs, with values within its own bounds. These
-- are b's for structural and logical columns, and 0 for artificial ones.
pub record IsSecond (m n : ℕ) (f : Matrix) (costs : List ℚ) (b : Bounds) (u : Tableau) : Type 0 where
  pub tableau : IsTableauOf m n f (cost_at costs) (bounds_of u) u
  pub within : IsWithinBounds m n (bounds_of u) u
  pub lower : (k : ℕ) → k < n + m → lower_at u k ≡ b.lower k
  pub upper : (k : ℕ) → k < n + m → upper_at u k ≡ b.upper k
  pub zero : (k : ℕ) → n + m ≤ k → k < n + m + m → (lower_at u k ≡ Some 0ℚ) × (upper_at u k ≡ Some 0ℚ)

pub second_phase : (limit : Option ℕ) (form : Form) (m n : ℕ) (f : Matrix) (cost : ℕ → ℚ) (b : Bounds) (t u : Tableau) →
    IsTableauOf m n f cost b t → IsWithinBounds m n b t → is_stuck t ≡ false
    → length form.cost ≤ n + m + m → phase_two_run limit form t ≡ Ok u → IsSecond m n f form.cost b u
unfolding phase_two_run
second_phase limit form m n f cost b t u s within free few h =
    let o = then_ok (priced_run limit (without_artificials t) form.cost) _ u h in
    let z : with_reduced (without_artificials t) o.0 ≡ u = cc in
    let zero = not_stuck_zero m n f cost b t s free in
    let length = priced_length limit (without_artificials t) form.cost o.0 o.1 in
    let agrees : AgreesWith m f (basic_at t) (cost_at form.cost) (λ k. get_or o.0 k 0ℚ) =
    subst (λ m. AgreesWith m f (basic_at t) (cost_at form.cost) (λ k. get_or o.0 k 0ℚ)) s.rows
    (priced_agrees limit (without_artificials t) form.cost o.0 o.1 (omega (arith, few, s.rows, s.cols))
    (λ i k l q. past_row t.entries i k (all_columns t) (s.whole.whole_rows i l) q) f
    (subst (λ m. Spans m (entry_at t) f) (sym s.rows) s.tableau.forth)
    (subst (λ m. IsUnit m (entry_at t) (basic_at t)) (sym s.rows) s.tableau.units)
    (λ i l. in_all m n f cost b t s (basic_at t i) (s.tableau.in_range i (omega (arith, l, s.rows))))) in
    subst (IsSecond m n f form.cost b) z (record {
      tableau = second m n f cost b t s o.0 zero length (cost_at form.cost) agrees;
      within = inside m n f cost b t s o.0 zero length (cost_at form.cost) agrees within;
      lower = λ k l. lower_same m n f cost b t s o.0 k (before_all m n f cost b t s k l);
      upper = λ k l. upper_same m n f cost b t s o.0 k (before_all m n f cost b t s k l);
      zero =
          λ k l q. (
            read_after m n f cost b t s o.0 t.lower s.whole.all_lower k
                (after_all m n f cost b t s k l) (in_all m n f cost b t s k q),
            read_after m n f cost b t s o.0 t.upper s.whole.all_upper k
                (after_all m n f cost b t s k l) (in_all m n f cost b t s k q),
          );
    })
