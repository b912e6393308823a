-- Rows with the same numbers in other words show the same tableaus.
use Rattle.std.proofs.Common.{◌≡◌, ℕ, zero, suc, ◌+◌, ◌*◌, ◌<◌, ℤ, List, [], ◌∷◌, length, map, get_or, Option, Some}
use Rattle.std.proofs.Common.{None, option_map, Bool, false, refl, sym, ap, ap₂, subst, subst₂, ◌∙◌}
use Rattle.std.proofs.Common.{arith}
use Rattle.std.specs.Prelude.{All, IfSome}
use Rattle.std.proofs.lemmas.List.{length-map}
use Rattle.std.proofs.Math.ListN.{get_or-map}
use Rattle.std.proofs.lemmas.List.Elements.{All-nil, All-cons, All-head, All-tail}
use Rattle.spec_exact.specs.Fraction.{ℚ, 0ℚ, over}
use Rattle.spec_simplex.specs.Tableau.{Tableau, form_columns}
use Rattle.lp_natural.specs.declared.words.signed.Signed.{Signed}
use Rattle.lp_rows.specs.declared.fractions.Row.{Row}
use Rattle.lp_rows.specs.Row.{fractions, fraction_at}
use Rattle.lp_rows.specs.Ratio.{bound_of}
use Rattle.lp_rows.specs.declared.tableau.tableau.RowTableau.{RowTableau}
use Rattle.lp_rows.specs.Shows.{IsRow, IsWhole, Shows, row_at, height, width, all_width}
use Rattle.lp_rows.specs.Held.{whole_of, wholes, whole_bounds, whole_row, AreSameNumbers}

-- an optional item that is there has the property that holds of the item if it is there
pub of_some : {A : Type 0} (P : A → Type 0) (o : Option A) (a : A) → o ≡ Some a → IfSome o P → P a
of_some P o a e h = subst (λ o. IfSome o P) e h

-- ---- by the whole numbers alone

-- the fractions of numbers on d are their whole numbers, each over d
fractions_wholes : {T : Type 0} (value : T → ℕ) (xs : List (Signed T)) (d : ℕ) →
    fractions value xs d ≡ map (λ z. over z d) (wholes value xs)
unfolding fractions
fractions_wholes value [] d = refl
fractions_wholes value (x ∷ xs) d = ap (λ ys. over (whole_of value x) d ∷ ys) (fractions_wholes value xs d)

-- the entry of row i in column k, of rows of whole numbers with a denominator each that d multiplies; else 0
row_in : ℕ → List (List ℤ × ℕ) → ℕ → ℕ → ℚ
row_in d [] i k = 0ℚ
row_in d (r ∷ rows) zero k = get_or (map (λ z. over z (d * r.1)) r.0) k 0ℚ
row_in d (r ∷ rows) (suc i) k = row_in d rows i k

-- the entry of row i in column k depends on the whole numbers and denominators of the rows alone
row_at-in : {T : Type 0} (value : T → ℕ) (d : ℕ) (rows : List (Row T)) (i k : ℕ) →
    row_at value d rows i k ≡ row_in d (map (whole_row value) rows) i k
unfolding row_in
row_at-in value d [] i k = refl
row_at-in value d (r ∷ rows) zero k =
    ap (λ xs. get_or xs k 0ℚ) (fractions_wholes value r.numbers.items (d * value r.denominator))
row_at-in value d (r ∷ rows) (suc i) k = row_at-in value d rows i k

-- a bound on d is its whole number over d, where there is a bound
bound_in : {T : Type 0} (value : T → ℕ) (d : ℕ) (o : Option (Signed T)) →
    bound_of value d o ≡ option_map (λ z. over z d) (option_map (whole_of value) o)
bound_in value d None = refl
bound_in value d (Some b) = refl

-- the bound of column k on d is the whole number of bound k over d, where there is a bound
bound_at-in : {T : Type 0} (value : T → ℕ) (d : ℕ) (xs : List (Option (Signed T))) (k : ℕ) →
    bound_of value d (get_or xs k None) ≡ option_map (λ z. over z d) (get_or (whole_bounds value xs) k None)
bound_at-in value d xs k =
    bound_in value d (get_or xs k None)
    ∙ ap (option_map (λ z. over z d)) (sym (get_or-map (option_map (whole_of value)) xs k None))

-- ---- two tableaus
module _ {T U : Type 0} (value : T → ℕ) (wide : U → ℕ) where
  same_row : (n : ℕ) (x : Row T) (y : Row U) → whole_row wide y ≡ whole_row value x → IsRow value n x → IsRow wide n y
  same_row n x y e is =
      record {
        numbers =
            sym (length-map y.numbers.items (whole_of wide))
            ∙ ap (λ (p : List ℤ × ℕ). length p.0) e
            ∙ length-map x.numbers.items (whole_of value) ∙ is.numbers;
        positive = subst (λ n. 0 < n) (sym (ap (λ (p : List ℤ × ℕ). p.1) e)) is.positive;
      }

  same_rows : (n : ℕ) (xs : List (Row T)) (ys : List (Row U)) → map (whole_row wide) ys ≡ map (whole_row value) xs →
      All (IsRow value n) xs → All (IsRow wide n) ys
  same_rows n [] [] e all = All-nil (IsRow wide n)
  same_rows n [] (y ∷ ys) e all = cc
  same_rows n (x ∷ xs) [] e all = cc
  same_rows n (x ∷ xs) (y ∷ ys) e all =
      let first : whole_row wide y ≡ whole_row value x = cc in
      let others : map (whole_row wide) ys ≡ map (whole_row value) xs = cc in
      All-cons (IsRow wide n) y ys (same_row n x y first (All-head (IsRow value n) x xs all))
      (same_rows n xs ys others (All-tail (IsRow value n) x xs all))

  module _ (r : RowTableau T) (s : RowTableau U) (same : AreSameNumbers value wide r s) where
    -- tableaus with the same numbers have as many positions
    pub same_height : height s ≡ height r
    same_height =
        sym (length-map s.rows.items (whole_row wide)) ∙ ap (λ (xs : List (List ℤ × ℕ)). length xs) same.rows
        ∙ length-map r.rows.items (whole_row value)

    same_width : width s ≡ width r
    same_width = ap₂ (λ a b. a + b) same.cols same_height

    same_all : all_width s ≡ all_width r
    same_all = ap₂ (λ a b. a + b) same_width same_height

    same_bounds : (xs : List (Option (Signed T))) (ys : List (Option (Signed U))) →
        whole_bounds wide ys ≡ whole_bounds value xs → length xs ≡ all_width r → length ys ≡ all_width s
    same_bounds xs ys e l =
        sym (length-map ys (option_map (whole_of wide))) ∙ ap (λ (zs : List (Option ℤ)). length zs) e
        ∙ length-map xs (option_map (whole_of value)) ∙ l ∙ sym same_all

    -- rows with the same numbers in other words are a whole tableau of rows where the first are
    pub same_whole : IsWhole value r → IsWhole wide s
    same_whole w = record {
      few_rows = omega (arith, same_height, w.few_rows);
      few_columns = omega (arith, same.cols, w.few_columns);
      each_row = same_rows (width s) r.rows.items s.rows.items same.rows
          (subst (λ n. All (IsRow value n) r.rows.items) (sym same_width) w.each_row);
      costs = same_row (width s) r.costs s.costs same.costs
          (subst (λ n. IsRow value n r.costs) (sym same_width) w.costs);
      all_basic = ap (λ (ks : List ℕ). length ks) same.basic ∙ w.all_basic ∙ sym same_height;
      in_range =
          subst₂ (λ n (ks : List ℕ). All (λ k. k < n) ks) (sym same_all) (sym same.basic) w.in_range;
      all_statuses = ap (λ ss. length ss) same.status ∙ w.all_statuses ∙ sym same_all;
      all_lower = same_bounds r.lower.items s.lower.items same.lower w.all_lower;
      all_upper = same_bounds r.upper.items s.upper.items same.upper w.all_upper;
      all_fixed = ap (λ (bs : List Bool). length bs) same.fixed ∙ w.all_fixed ∙ sym same_width;
      positive = subst (λ n. 0 < n) (sym same.denominator) w.positive;
    }

    same_entry : (d i k : ℕ) → row_at value d r.rows.items i k ≡ row_at wide d s.rows.items i k
    same_entry d i k =
        row_at-in value d r.rows.items i k
        ∙ ap (λ rows. row_in d rows i k) (sym same.rows) ∙ sym (row_at-in wide d s.rows.items i k)

    same_bound : (xs : List (Option (Signed T))) (ys : List (Option (Signed U))) (k : ℕ) →
        whole_bounds wide ys ≡ whole_bounds value xs →
        bound_of value (value r.denominator) (get_or xs k None) ≡ bound_of wide (wide s.denominator) (get_or ys k None)
    same_bound xs ys k e =
        bound_at-in value (value r.denominator) xs k
        ∙ ap₂ (λ d zs. option_map (λ z. over z d) (get_or zs k None)) (sym same.denominator) (sym e)
        ∙ sym (bound_at-in wide (wide s.denominator) ys k)

    same_cost : (k : ℕ) →
        fraction_at value r.costs.numbers.items (value r.costs.denominator) k ≡
        fraction_at wide s.costs.numbers.items (wide s.costs.denominator) k
    same_cost k =
        ap (λ xs. get_or xs k 0ℚ) (fractions_wholes value r.costs.numbers.items (value r.costs.denominator))
        ∙ ap (λ (p : List ℤ × ℕ). get_or (map (λ z. over z p.1) p.0) k 0ℚ) (sym same.costs)
        ∙ sym (ap (λ xs. get_or xs k 0ℚ) (fractions_wholes wide s.costs.numbers.items (wide s.costs.denominator)))

    -- rows with the same numbers in other words show each tableau that the first show
    pub same_shown : (t : Tableau) → Shows value r t → Shows wide s t
    same_shown t shown = record {
      rows = same_height ∙ shown.rows;
      cols = same.cols ∙ shown.cols;
      basic = same.basic ∙ shown.basic;
      status = same.status ∙ shown.status;
      entries = λ i k p q. shown.entries i k p q ∙ same_entry 1 i k;
      values = λ i p. shown.values i p ∙ same_entry (value r.denominator) i (form_columns t)
          ∙ ap (λ d. row_at wide d s.rows.items i (form_columns t)) (sym same.denominator);
      reduced = λ k l. shown.reduced k l ∙ same_cost k;
      lower = λ k l. shown.lower k l ∙ same_bound r.lower.items s.lower.items k same.lower;
      upper = λ k l. shown.upper k l ∙ same_bound r.upper.items s.upper.items k same.upper;
      fixed = λ k l. shown.fixed k l ∙ ap (λ bs. get_or bs k false) (sym same.fixed);
      stands = shown.stands;
    }

-- end of SameNumbers
