-- The form of a model: its parts are the model's, and no bounds clash.
--
-- `form_is`: the form of a model has the model's columns and the limits of its rows, and no bounds clash.
-- `form_proper`: the form of a model has a bound or none for each column, and no bounds clash.
use Rattle.std.proofs.Common.{◌≡◌, ℕ, ◌+◌, ◌-◌, ◌<◌, List, ◌++◌, length, get_or, map, replicate}
use Rattle.std.proofs.Common.{Option, Some, None, false, Result, Ok, Err, refl, sym, ap, ap₂, ◌∙◌, subst, subst₂, arith}
use Rattle.std.specs.declared.cmp.Ordering.{Ordering}
use Rattle.std.specs.declared.cmp.Ordering.TheVariants.{Less, Equal, Greater}
use Rattle.std.proofs.Math.ListN.{get_or-map}
use Rattle.std.proofs.lemmas.List.{length-append, length-map, length-replicate, get_or_append_left}
use Rattle.std.proofs.lemmas.List.{get_or-append-add, get_or-replicate, get_or_past}
use Rattle.spec_exact.specs.Fraction.{ℚ, 0ℚ, ◌≤ℚ◌}
use Rattle.spec_exact.specs.Limit.{order}
use Rattle.spec_exact.proofs.Compare.{order_less, order_equal}
use Rattle.spec_exact.proofs.Order.{≤ℚ_refl, <ℚ-le}
use Rattle.spec_model.specs.declared.parts.Sense.{Sense}
use Rattle.spec_model.specs.declared.parts.Sense.TheVariants.{Min, Max}
use Rattle.spec_model.specs.Model.{Model, Limits, ExactRow, ExactColumn, no_column, width}
use Rattle.spec_model.specs.Model.{height, row, column, bounds, limits, cost, coefficient}
use Rattle.spec_pivot.specs.Simplex.{Bounds}
use Rattle.spec_pivot.proofs.Pivot.{by_eq}
use Rattle.spec_simplex.specs.declared.ends.FormFault.{FormFault}
use Rattle.spec_simplex.specs.declared.ends.FormFault.TheVariants as fault
use Rattle.spec_exact.specs.Run.{◌>>=◌, refused_as, order_run, steps, list_run}
use Rattle.spec_simplex.specs.Form.{Form, form_entry, form_lower, form_upper, form_cost, limits_run}
use Rattle.spec_simplex.specs.Form.{clash_by, bounds_clash, column_clash, least_cost, formed, form_of}
use Rattle.spec_simplex.specs.Begins.{IsProper}
use Rattle.spec_simplex.proofs.RunParts.{then_ok, refused_ok, order_ok, steps_ok, IsListOf, list_ok}
use Rattle.spec_simplex.proofs.ListIndices.{by_lt}
use Rattle.spec_simplex.proofs.FormRowLimits.{AreLimits, limits_ok, limits_ordered}

-- the lower and the upper limit of a row, each of which may be absent
abbrev Pair : Type 0
Pair = Option ℚ × Option ℚ

-- the limits of a row that has none
abbrev no_limits : Pair
no_limits = (None, None)

-- ls are the lower and upper limits of all rows of the model m, in order, and no lower bound of a column of m is above
-- its upper one
pub record Limited (m : Model) (ls : List (Option ℚ × Option ℚ)) : Type 0 where
  pub all : length ls ≡ height m
  pub each : (i : ℕ) → i < height m → AreLimits (limits m i) (get_or ls i no_limits)
  pub ordered : (j : ℕ) (l u : ℚ) → j < width m → (bounds m j).lower ≡ Some l → (bounds m j).upper ≡ Some u → l ≤ℚ u

module _ (m : Model) (ls : List (Option ℚ × Option ℚ)) (h : Limited m ls) where
  -- the form of the model m by the limits of its rows
  abbrev f : Form
  f = formed m ls

  -- the coefficient of structural column j in row i of the form is that of the model
  pub entry_is : (i j : ℕ) → form_entry f i j ≡ coefficient m i j
  entry_is i j =
      ap (λ es. Rattle.spec_model.specs.Model.entry_of es i)
      (get_or-map (λ (c : ExactColumn). c.entries) m.columns j no_column)

  -- the lower bound of structural column j of the form is that of the model
  pub lower_structural : (j : ℕ) → j < width m → form_lower f j ≡ (bounds m j).lower
  lower_structural j l =
      get_or_append_left (map (λ (c : ExactColumn). c.lower) m.columns) (map (λ (p : Pair). p.0) ls) None j
      (omega (arith, l, length-map m.columns (λ (c : ExactColumn). c.lower)))
      ∙ get_or-map (λ (c : ExactColumn). c.lower) m.columns j no_column

  -- the upper bound of structural column j of the form is that of the model
  pub upper_structural : (j : ℕ) → j < width m → form_upper f j ≡ (bounds m j).upper
  upper_structural j l =
      get_or_append_left (map (λ (c : ExactColumn). c.upper) m.columns) (map (λ (p : Pair). p.1) ls) None j
      (omega (arith, l, length-map m.columns (λ (c : ExactColumn). c.upper)))
      ∙ get_or-map (λ (c : ExactColumn). c.upper) m.columns j no_column

  -- the lower bound of the logical column of row i is the row's lower limit
  pub lower_logical : (i : ℕ) → i < height m → form_lower f (width m + i) ≡ (limits m i).lower
  lower_logical i l =
      ap (λ k. get_or (map (λ (c : ExactColumn). c.lower) m.columns ++ map (λ (p : Pair). p.0) ls) (k + i) None)
      (sym (length-map m.columns (λ (c : ExactColumn). c.lower)))
      ∙ get_or-append-add (map (λ (c : ExactColumn). c.lower) m.columns) (map (λ (p : Pair). p.0) ls) i None
      ∙ get_or-map (λ (p : Pair). p.0) ls i no_limits ∙ (h.each i l).lower

  -- the upper bound of the logical column of row i is the row's upper limit
  pub upper_logical : (i : ℕ) → i < height m → form_upper f (width m + i) ≡ (limits m i).upper
  upper_logical i l =
      ap (λ k. get_or (map (λ (c : ExactColumn). c.upper) m.columns ++ map (λ (p : Pair). p.1) ls) (k + i) None)
      (sym (length-map m.columns (λ (c : ExactColumn). c.upper)))
      ∙ get_or-append-add (map (λ (c : ExactColumn). c.upper) m.columns) (map (λ (p : Pair). p.1) ls) i None
      ∙ get_or-map (λ (p : Pair). p.1) ls i no_limits ∙ (h.each i l).upper

  -- `least_cost` of the cost 0 is 0
  least_zero : (s : Sense) → least_cost s 0ℚ ≡ 0ℚ
  least_zero Min = refl
  least_zero Max = Rattle.spec_exact.proofs.Ruleset.neg-zero

  -- the cost of structural column j is `least_cost` of the model's cost
  pub least_structural : (j : ℕ) → j < width m → form_cost f j ≡ least_cost m.sense (cost m j)
  least_structural j l =
      get_or_append_left (map (λ (c : ExactColumn). least_cost m.sense c.cost) m.columns) (replicate (height m) 0ℚ) 0ℚ j
      (omega (arith, l, length-map m.columns (λ (c : ExactColumn). least_cost m.sense c.cost)))
      ∙ ap (get_or (map (λ (c : ExactColumn). least_cost m.sense c.cost) m.columns) j) (sym (least_zero m.sense))
      ∙ get_or-map (λ (c : ExactColumn). least_cost m.sense c.cost) m.columns j no_column

  -- the form has a cost for each structural and each logical column
  pub cost_length : length f.cost ≡ width m + height m
  cost_length =
      length-append (map (λ (c : ExactColumn). least_cost m.sense c.cost) m.columns) (replicate (height m) 0ℚ)
      ∙ ap₂ ◌+◌ (length-map m.columns (λ (c : ExactColumn). least_cost m.sense c.cost)) (length-replicate (height m) 0ℚ)

  -- each logical column of the form has the cost 0, as has each column past these
  pub cost_other : (i : ℕ) → form_cost f (width m + i) ≡ 0ℚ
  cost_other i =
      by_lt i (height m)
      (λ l. ap (λ k. get_or (map (λ (c : ExactColumn). least_cost m.sense c.cost) m.columns ++ replicate (height m) 0ℚ)
      (k + i) 0ℚ) (sym (length-map m.columns (λ (c : ExactColumn). least_cost m.sense c.cost)))
      ∙ get_or-append-add (map (λ (c : ExactColumn). least_cost m.sense c.cost) m.columns)
      (replicate (height m) 0ℚ) i 0ℚ
      ∙ get_or-replicate (height m) i 0ℚ 0ℚ l)
      (λ l. get_or_past f.cost (width m + i) 0ℚ (omega (arith, l, cost_length)))

  -- the form of the model is proper: it has a bound or none for each column, and none clash
  pub formed_proper : IsProper f
  formed_proper = record {
    all_lower =
        length-append (map (λ (c : ExactColumn). c.lower) m.columns) (map (λ (p : Pair). p.0) ls)
        ∙ ap₂ ◌+◌ (length-map m.columns (λ (c : ExactColumn). c.lower)) (length-map ls (λ (p : Pair). p.0) ∙ h.all);
    all_upper =
        length-append (map (λ (c : ExactColumn). c.upper) m.columns) (map (λ (p : Pair). p.1) ls)
        ∙ ap₂ ◌+◌ (length-map m.columns (λ (c : ExactColumn). c.upper)) (length-map ls (λ (p : Pair). p.1) ∙ h.all);
    ordered = λ k l u k_in p q.
        by_lt k (width m)
        (λ z. h.ordered k l u z (sym (lower_structural k z) ∙ p) (sym (upper_structural k z) ∙ q))
        (λ z. let e : k ≡ width m + (k - width m) = omega (arith, z) in
        let i_in : k - width m < height m = omega (arith, z, k_in) in
        let r : ExactRow = row m (k - width m) in
        limits_ordered r.kind r.rhs r.range l u (sym (lower_logical (k - width m) i_in) ∙ ap (form_lower f) (sym e) ∙ p)
        (sym (upper_logical (k - width m) i_in) ∙ ap (form_upper f) (sym e) ∙ q));
  }

-- b has the bounds of the form f for structural and logical columns, and bars none of them from entering; of artificial
-- ones nothing is said
pub record HasBounds (f : Form) (b : Bounds) : Type 0 where
  pub lower : (k : ℕ) → k < f.cols + f.rows → b.lower k ≡ form_lower f k
  pub upper : (k : ℕ) → k < f.cols + f.rows → b.upper k ≡ form_upper f k
  pub entering : (k : ℕ) → k < f.cols + f.rows → b.barred k ≡ false

-- ---- the run

-- where the run finds no clash of two bounds, the lower one is at most the upper one
clash_free : (limit : Option ℕ) (j : ℕ) (l u : Option ℚ) → bounds_clash limit j l u ≡ Ok tt → (a c : ℚ) → l ≡ Some a →
    u ≡ Some c → a ≤ℚ c
clash_free limit j None u h a c p q = let z : None ≡ Some a = p in cc
clash_free limit j (Some l) None h a c p q = let z : None ≡ Some c = q in cc
clash_free limit j (Some l) (Some u) h a c p q =
    let o = then_ok (refused_as fault.Past (order_run limit l u)) (λ o. clash_by j o) tt h in
    let e : l ≡ a = cc in
    let f : u ≡ c = cc in
    subst₂ ◌≤ℚ◌ e f (go o.0 (order_ok limit l u o.0 (refused_ok fault.Past (order_run limit l u) o.0 o.1)) o.2)
  where
    go : (o : Ordering) → o ≡ order l u → clash_by j o ≡ Ok tt → l ≤ℚ u
    go Less e h = <ℚ-le l u ((order_less l u).0 (sym e))
    go Equal e h = subst (λ a. l ≤ℚ a) ((order_equal l u).0 (sym e)) (≤ℚ_refl l)
    go Greater e h = let z : ◌≡◌ {A = Result (Unit {0}) (FormFault ℚ)} (Err (fault.Clash j)) (Ok tt) = h in cc

-- each value of the unit type is its one value
unit_is : (x : Unit {0}) → x ≡ tt
unit_is x = refl

pub form_is : (limit : Option ℕ) (m : Model) (f : Form) → form_of limit m ≡ Ok f →
    (ls : List (Option ℚ × Option ℚ)) × Limited m ls × (formed m ls ≡ f)
unfolding form_of
form_is limit m f h =
    let o =
    then_ok (refused_as fault.Past (list_run (height m) (λ i. limits_run limit (row m i))))
    (λ ls. steps (width m) (λ j _. column_clash limit m j) tt >>= λ _. Ok (formed m ls)) f h in
    let p = then_ok (steps (width m) (λ j _. column_clash limit m j) tt) (λ _. Ok (formed m o.0)) f o.2 in
    let l : IsListOf (height m) (λ i. limits_run limit (row m i)) no_limits o.0 =
    list_ok (height m) (λ i. limits_run limit (row m i)) no_limits o.0
    (refused_ok fault.Past (list_run (height m) (λ i. limits_run limit (row m i))) o.0 o.1) in
    let free : (j : ℕ) → j < width m → column_clash limit m j ≡ Ok tt =
    steps_ok (λ n x. (j : ℕ) → j < n → column_clash limit m j ≡ Ok tt)
    (width m) (λ j _. column_clash limit m j) tt p.0 p.1
    (λ j l. absurd (let z : ⊥ = omega (arith, l) in z))
    (λ i x y i_in was is j l. by_eq j i (λ e. ap (column_clash limit m) e ∙ is ∙ ap Ok (unit_is y))
    (λ d. was j (omega (arith, l, d)))) in (
      o.0,
      record {
        all = l.all;
        each = λ i i_in. limits_ok limit (row m i) (get_or o.0 i no_limits) (l.each i i_in);
        ordered = λ j a c j_in. clash_free limit j (column m j).lower (column m j).upper (free j j_in) a c;
      },
      let z : formed m o.0 ≡ f = cc in z,
    )

pub form_proper : (limit : Option ℕ) (m : Model) (f : Form) → form_of limit m ≡ Ok f → IsProper f
form_proper limit m f h = let o = form_is limit m f h in subst IsProper o.2 (formed_proper m o.0 o.1)
