-- A model that differs in one number from another: the basis keeps it where the other's tableau, with values and
-- reduced costs that are moved along, is good for it.
use Rattle.std.proofs.Common.{◌≡◌, ◌↔◌, ℕ, ◌+◌, ◌<◌, List, get_or, replicate, ◌++◌, Option, Some, None, IfSome, Ok}
use Rattle.std.proofs.Common.{sym, ap, ◌∙◌, subst, subst₂, arith}
use Rattle.spec_exact.specs.Fraction.{ℚ, ◌+ℚ◌, ◌-ℚ◌, ◌*ℚ◌, ◌≤ℚ◌}
use Rattle.spec_exact.specs.Sums.{sum_below}
use Rattle.spec_exact.proofs.Sums.{sum_below_same}
use Rattle.spec_model.specs.Model.{Model, width, height, bounds, cost, value_of}
use Rattle.spec_model.specs.Truth.{IsOptimal}
use Rattle.spec_check.proofs.Sound.{optimal_holds}
use Rattle.spec_pivot.specs.declared.status.Status.{Status}
use Rattle.spec_pivot.specs.declared.status.Status.TheVariants.{Basic, AtLower}
use Rattle.spec_pivot.specs.Tableau.{Matrix}
use Rattle.spec_pivot.specs.Simplex.{Bounds, Table, IsFixed, IsInside, IsTableau, Stands, SameStatuses, SameTableau}
use Rattle.spec_pivot.proofs.Same.{one_tableau}
use Rattle.spec_simplex.specs.Form.{Form, form_of, formed}
use Rattle.spec_simplex.specs.Start.{cost_at}
use Rattle.spec_simplex.specs.Tableau.{Tableau}
use Rattle.spec_simplex.specs.Eliminate.{IsBasisOf, start_from}
use Rattle.spec_simplex.specs.Tables.{table_of}
use Rattle.spec_simplex.proofs.FormOfModel.{Limited, form_is}
use Rattle.spec_runs.specs.Cold.{point, multipliers}
use Rattle.spec_pivot.specs.Dual.{Suits}
use Rattle.spec_runs.specs.Based.{equations}
use Rattle.spec_range.specs.Span.{Keeps}
use Rattle.spec_range.proofs.RangedTableau.{form_bounds}
use Rattle.spec_range.proofs.Checked.{IsGood, parts, tableau, x_at, checks_good}
use Rattle.spec_range.proofs.Exists.{skeleton, start_exists, form_exists}

-- b and c have the same lower and upper bounds of the first n columns
pub record SameBounds (n : ℕ) (b c : Bounds) : Type 0 where
  pub lower : (k : ℕ) → k < n → b.lower k ≡ c.lower k
  pub upper : (k : ℕ) → k < n → b.upper k ≡ c.upper k

-- where b has the same bounds as c, c has the same bounds as b
pub swapped : (n : ℕ) (b c : Bounds) → SameBounds n b c → SameBounds n c b
swapped n b c s = record { lower = λ k h. sym (s.lower k h); upper = λ k h. sym (s.upper k h) }

-- a column that is fixed by bounds is fixed by the same bounds of another model
same_fixed : (n : ℕ) (b c : Bounds) → SameBounds n b c → (k : ℕ) → k < n → IsFixed b k → IsFixed c k
same_fixed n b c s k h f = (f.0, sym (s.lower k h) ∙ f.1, sym (s.upper k h) ∙ f.2)

-- a tableau of some costs and bounds is one of equal costs and of the same bounds
renamed : (m n : ℕ) (f : Matrix) (c d : ℕ → ℚ) (b e : Bounds) (t : Table) → IsTableau m n f c b t →
    ((k : ℕ) → c k ≡ d k) → SameBounds n b e → IsTableau m n f d e t
renamed m n f c d b e t g same bounds =
    record {
      in_range = g.in_range;
      forth = g.forth;
      back = g.back;
      units = g.units;
      costs =
          record {
            weights = g.costs.weights;
            less = λ k. g.costs.less k ∙ ap (λ a. a -ℚ sum_below m (λ r. g.costs.weights r *ℚ f r k)) (same k);
            at_basic = g.costs.at_basic;
          };
      marked = g.marked;
      placed = g.placed;
      stands = λ k h. subst₂ (λ l u. Stands (t.status k) l u (t.value k)) (bounds.lower k h) (bounds.upper k h) (g.stands k h);
      solves = g.solves;
    }

-- a table with the statuses, values and reduced costs of a good one is good for the same bounds
good_same : (n : ℕ) (b c : Bounds) (t u : Table) → SameBounds n b c → SameStatuses n t u →
    ((k : ℕ) → k < n → t.value k ≡ u.value k) → ((k : ℕ) → t.reduced k ≡ u.reduced k) → IsGood n b t → IsGood n c u
good_same n b c t u bounds status value reduced g = record {
  inside = λ k h s. inside_at k h (g.inside k h (status k h ∙ s));
  suits = λ k h f. subst₂ Suits (status k h) (reduced k)
      (g.suits k h (λ z. f (same_fixed n b c bounds k h z)));
}
  where
    -- what is within the bounds of b by the one table is within those of c by the other
    inside_at : (k : ℕ) → k < n → IsInside (b.lower k) (b.upper k) (t.value k) →
        IsInside (c.lower k) (c.upper k) (u.value k)
    inside_at k h i = record {
      lower = subst₂ (λ o v. IfSome o (λ l. l ≤ℚ v)) (bounds.lower k h) (value k h) i.lower;
      upper = subst₂ (λ o v. IfSome o (λ l. v ≤ℚ l)) (bounds.upper k h) (value k h) i.upper;
    }

module _ (m other : Model) (ls : List (Option ℚ × Option ℚ)) (basis : List Status)
    (fits : IsBasisOf (formed m ls) basis) (h : Limited m ls) (t : Tableau)
    (ok : start_from None (formed m ls) basis ≡ Ok t) where
  -- the form of the first model
  abbrev f : Form
  f = formed m ls

  -- the count of the form's columns, with the logical and artificial ones
  abbrev n : ℕ
  n = f.cols + f.rows + f.rows

  -- What is to be known of the other model: it has the same rows, columns and entries, its costs and its bounds are
  -- these, and the basis fits its form. And of a table: it is one of the same rows and of these costs and bounds.
  pub record IsMoved (cost' : ℕ → ℚ) (b : Bounds) (u : Table) : Type 0 where
    pub skeleton : (l : List (Option ℚ × Option ℚ)) → skeleton (formed m ls) ≡ skeleton (formed other l)
    pub ordered : (j : ℕ) (l u : ℚ) → j < width other → (bounds other j).lower ≡ Some l →
        (bounds other j).upper ≡ Some u → l ≤ℚ u
    pub costs : (l : List (Option ℚ × Option ℚ)) → Limited other l → (k : ℕ) → cost_at (formed other l).cost k ≡ cost' k
    pub bounds : (l : List (Option ℚ × Option ℚ)) → Limited other l →
        SameBounds ((formed m ls).cols + (formed m ls).rows + (formed m ls).rows) (form_bounds (formed other l)) b
    pub still_fits : (l : List (Option ℚ × Option ℚ)) → Limited other l → IsBasisOf (formed other l) basis
    pub status : (k : ℕ) → u.status k ≡ (table_of t).status k
    pub tableau : IsTableau (formed m ls).rows ((formed m ls).cols + (formed m ls).rows + (formed m ls).rows)
        (equations (formed m ls)) cost' b u

  module _ (cost' : ℕ → ℚ) (b : Bounds) (u : Table) (s : IsMoved cost' b u) where
    -- a tableau of the other model beside the table
    module _ (l : List (Option ℚ × Option ℚ)) (k : Limited other l) (x : Tableau)
        (started : start_from None (formed other l) basis ≡ Ok x) where
      moved_for : IsTableau f.rows n (equations f) cost' b (table_of x)
      moved_for =
          renamed f.rows n (equations f) (cost_at (formed other l).cost) cost' (form_bounds (formed other l)) b
          (table_of x)
          (subst (λ (s : Form). IsTableau s.rows (s.cols + s.rows + s.rows) (equations s)
          (cost_at (formed other l).cost) (form_bounds (formed other l)) (table_of x)) (sym (s.skeleton l))
          (tableau None other l k basis (s.still_fits l k) x started))
          (s.costs l k) (s.bounds l k)

      same_status : SameStatuses n u (table_of x)
      same_status k_ k_in =
          s.status k_
          ∙ ap (λ (l : List Status). get_or l k_ Basic)
          ((parts None m ls h basis fits t ok).status
          ∙ ap (λ (s : Form). basis ++ replicate s.rows AtLower) (s.skeleton l)
          ∙ sym (parts None other l k basis (s.still_fits l k) x started).status)

      same : SameTableau f.rows n u (table_of x)
      same = one_tableau f.rows n (equations f) cost' b u (table_of x) s.tableau moved_for same_status

      good_other : IsGood n b u ↔
          IsGood (width other + height other + height other) (form_bounds (formed other l)) (table_of x)
      good_other = (
        λ g. subst (λ (z : Form). IsGood (z.cols + z.rows + z.rows) (form_bounds (formed other l)) (table_of x))
            (s.skeleton l)
            (good_same n b (form_bounds (formed other l)) u (table_of x)
            (swapped n (form_bounds (formed other l)) b (s.bounds l k)) same_status same.values same.reduced g),
        λ g. good_same n (form_bounds (formed other l)) b (table_of x) u (s.bounds l k)
            (λ k_ k_in. sym (same_status k_ k_in)) (λ k_ k_in. sym (same.values k_ k_in)) (λ k_. sym (same.reduced k_))
            (subst (λ (z : Form). IsGood (z.cols + z.rows + z.rows) (form_bounds (formed other l)) (table_of x))
            (sym (s.skeleton l)) g),
      )

      value_same : value_of other (point x)
          ≡ sum_below (width other) (λ j. cost other j *ℚ u.value j) +ℚ other.offset
      value_same =
          ap (λ a. a +ℚ other.offset) (sum_below_same (width other) _ _ (λ j p. ap (λ a. cost other j *ℚ a)
          (x_at None other l k basis (s.still_fits l k) x started j p
          ∙ sym (same.values j (inside j p)))))
        where
          inside : (j : ℕ) → j < width other → j < n
          inside j p =
              let e : width other ≡ f.cols = ap (λ (z : Form). z.cols) (sym (s.skeleton l)) in
              omega (arith, p, e)

    -- the other model has a form, whose limits are those of its rows, and the basis has a tableau there
    record Other : Type 0 where
      limits : List (Option ℚ × Option ℚ)
      limited : Limited other limits
      formed_ : form_of None other ≡ Ok (formed other limits)
      tableau : Tableau
      started : start_from None (formed other limits) basis ≡ Ok tableau

    -- the other model has a form in which the basis has a tableau
    exists : Other
    exists =
        let a = form_exists other s.ordered in
        let p = form_is None other a.0 a.1 in
        let q = start_exists f (formed other p.0) basis t (s.skeleton p.0) ok in
        record { limits = p.0; limited = p.1; formed_ = a.1 ∙ ap Ok (sym p.2); tableau = q.0; started = q.1 }

    -- where the moved table is good for its bounds, the basis keeps the other model
    pub good_keeps : IsGood ((formed m ls).cols + (formed m ls).rows + (formed m ls).rows) b u → Keeps other basis
    good_keeps g =
        let o = exists in
        record {
          form = formed other o.limits;
          formed = o.formed_;
          fits = s.still_fits o.limits o.limited;
          tableau = o.tableau;
          started = o.started;
          checks =
              (checks_good None other o.limits o.limited basis (s.still_fits o.limits o.limited) o.tableau o.started).1
              ((good_other o.limits o.limited o.tableau o.started).0 g);
        }

    -- where the moved table is good for its bounds, the other model's optimal value is that of the table's values
    pub good_optimal : IsGood ((formed m ls).cols + (formed m ls).rows + (formed m ls).rows) b u →
        IsOptimal other (sum_below (width other) (λ j. cost other j *ℚ u.value j) +ℚ other.offset)
    good_optimal g =
        let o = exists in
        subst (IsOptimal other) (value_same o.limits o.limited o.tableau o.started)
        (optimal_holds other (point o.tableau) (multipliers o.tableau)
        ((checks_good None other o.limits o.limited basis (s.still_fits o.limits o.limited) o.tableau o.started).1
        ((good_other o.limits o.limited o.tableau o.started).0 g)))

    -- where the basis keeps the other model, the moved table is good for its bounds
    pub keeps_good : Keeps other basis → IsGood ((formed m ls).cols + (formed m ls).rows + (formed m ls).rows) b u
    keeps_good k =
        let p = form_is None other k.form k.formed in
        let started : start_from None (formed other p.0) basis ≡ Ok k.tableau =
        ap (λ g. start_from None g basis) p.2 ∙ k.started in
        (good_other p.0 p.1 k.tableau started).1
        ((checks_good None other p.0 p.1 basis (s.still_fits p.0 p.1) k.tableau started).0 k.checks)
