-- A model with another right side of one row, and where the basis keeps it.
use Rattle.std.proofs.Common.{◌≡◌, ◌≢◌, ℕ, ◌+◌, ◌<◌, List, [], ◌++◌, get_or, map, replicate}
use Rattle.std.proofs.Common.{Option, Some, None, Ok, Bool, true, false, cond, nat_eq}
use Rattle.std.proofs.Common.{refl, sym, ap, ◌∙◌, subst, subst₂, arith, eq-eqb, ne_eqb}
use Rattle.std.proofs.lemmas.List.{length-set, get_or-set_same, get_or-set_other}
use Rattle.spec_exact.specs.Fraction.{ℚ, ◌+ℚ◌, ◌-ℚ◌, 0ℚ, abs_ℚ, lt_ℚ}
use Rattle.spec_exact.proofs.Ruleset.{ring}
use Rattle.spec_model.specs.declared.parts.Kind.{Kind}
use Rattle.spec_model.specs.declared.parts.Kind.TheVariants.{L, G, E, N}
use Rattle.spec_model.specs.declared.parts.RowLimit.TheVariants.{Given, Sum}
use Rattle.spec_model.specs.Model.{Model, ExactRow, ExactColumn, Limits, no_row, width, height, row, limits, limit_of, limits_by}
use Rattle.spec_edit.specs.Changes.{with_rhs}
use Rattle.spec_pivot.specs.declared.status.Status.{Status}
use Rattle.spec_pivot.specs.declared.status.Status.TheVariants.{Basic, AtLower, AtUpper, AtZero}
use Rattle.spec_pivot.specs.Simplex.{Bounds, Table, IsFixed, IsTableau, Stands}
use Rattle.spec_pivot.proofs.Pivot.{by_eq}
use Rattle.spec_simplex.specs.Form.{least_cost, formed}
use Rattle.spec_simplex.specs.Start.{cost_at}
use Rattle.spec_simplex.specs.Tableau.{Tableau, value_at, status_at}
use Rattle.spec_simplex.specs.Eliminate.{CanStand, IsBasisOf, basis_at, start_from}
use Rattle.spec_simplex.specs.Tables.{table_of}
use Rattle.spec_simplex.proofs.FormOfModel.{Limited, formed_proper}
use Rattle.spec_runs.specs.Based.{equations}
use Rattle.spec_range.proofs.Bounds.{structural_low, structural_high, logical_low, logical_high}
use Rattle.spec_range.proofs.Bounds.{artificial_low, artificial_high, bounds_by, fits_other}
use Rattle.spec_range.proofs.Checked.{tableau}
use Rattle.spec_range.proofs.Compared.{SameBounds, IsMoved}
use Rattle.spec_range.proofs.Exists.{skeleton}
use Rattle.spec_range.proofs.MovedNumbers.{rebounded_is, carried, carried_is}
use Rattle.spec_range.proofs.RangedTableau.{form_bounds, bounded}

-- ---- limits

-- a bound, if it is there, with v added
abbrev pub shifted : ℚ → Option ℚ → Option ℚ
shifted v None = None
shifted v (Some l) = Some (l +ℚ v)

-- the limits k are the limits l, each with v added if it is there
record IsShifted (v : ℚ) (l k : Limits) : Type 0 where
  lower : k.lower ≡ shifted v l.lower
  upper : k.upper ≡ shifted v l.upper

-- x is b plus what x is more than b
along : (b x : ℚ) → x ≡ b +ℚ (x -ℚ b)
along b x = simp ring

-- x less r is b less r, plus what x is more than b
along_less : (b x r : ℚ) → x -ℚ r ≡ (b -ℚ r) +ℚ (x -ℚ b)
along_less b x r = simp ring

-- x plus r is b plus r, plus what x is more than b
along_more : (b x r : ℚ) → x +ℚ r ≡ (b +ℚ r) +ℚ (x -ℚ b)
along_more b x r = simp ring

-- as a row's right side goes from b to x, its limits move by what x is more than b
limits_along : (k : Kind) (range : Option ℚ) (b x : ℚ) → IsShifted (x -ℚ b) (limits_by k b range) (limits_by k x range)
limits_along L None b x = record { lower = refl; upper = ap Some (along b x) }
limits_along L (Some r) b x = record { lower = ap Some (along_less b x (abs_ℚ r)); upper = ap Some (along b x) }
limits_along G None b x = record { lower = ap Some (along b x); upper = refl }
limits_along G (Some r) b x = record { lower = ap Some (along b x); upper = ap Some (along_more b x (abs_ℚ r)) }
limits_along N range b x = record { lower = refl; upper = refl }
limits_along E None b x = record { lower = ap Some (along b x); upper = ap Some (along b x) }
limits_along E (Some r) b x = by (lt_ℚ r 0ℚ)
  where
    by : (c : Bool) → IsShifted (x -ℚ b)
        (record { lower = limit_of (cond c (Sum b r) (Given b)); upper = limit_of (cond c (Given b) (Sum b r)) })
        (record { lower = limit_of (cond c (Sum x r) (Given x)); upper = limit_of (cond c (Given x) (Sum x r)) })
    by true = record { lower = ap Some (along_more b x r); upper = ap Some (along b x) }
    by false = record { lower = ap Some (along b x); upper = ap Some (along_more b x r) }

-- ---- the other model
module _ (m : Model) (i : ℕ) (i_in : i < height m) (x : ℚ) where
  -- row i with the right side x
  abbrev changed : ExactRow
  changed = record (row m i) { rhs = x }

  -- the model with another right side of row i has as many rows as the model
  other_height : height (with_rhs m i x) ≡ height m
  other_height = length-set m.rows i (record (row m i) { rhs = x })

  -- with the right side x row i has its limits moved by what x is above the old right side
  limits_there : IsShifted (x -ℚ (row m i).rhs) (limits m i) (limits (with_rhs m i x) i)
  limits_there =
      subst (λ (r : ExactRow). IsShifted (x -ℚ (row m i).rhs) (limits m i) (limits_by r.kind r.rhs r.range))
      (sym (get_or-set_same m.rows i changed no_row i_in))
      (limits_along (row m i).kind (row m i).range (row m i).rhs x)

  -- each other row than i has its old limits in the model with another right side of row i
  limits_elsewhere : (k : ℕ) → k ≢ i → limits (with_rhs m i x) k ≡ limits m k
  limits_elsewhere k z =
      ap (λ (r : ExactRow). limits_by r.kind r.rhs r.range) (get_or-set_other m.rows i k changed no_row z)

  -- the forms of the model and of that with another right side differ in bounds and costs alone
  pub skeleton_same : (ls l : List (Option ℚ × Option ℚ)) →
      skeleton (formed m ls) ≡ skeleton (formed (with_rhs m i x) l)
  skeleton_same ls l =
      ap (λ (n : ℕ). record {
        rows = n;
        cols = width m;
        entries = map (λ (c : ExactColumn). c.entries) m.columns;
        lower = [];
        upper = [];
        cost = [];
      })
      (sym other_height)

  -- the forms of the model and of that with another right side have the same costs
  costs_same : (ls l : List (Option ℚ × Option ℚ)) (k : ℕ) →
      cost_at (formed (with_rhs m i x) l).cost k ≡ cost_at (formed m ls).cost k
  costs_same ls l k =
      ap (λ n. get_or (map (λ (c : ExactColumn). least_cost m.sense c.cost) m.columns ++ replicate n 0ℚ) k 0ℚ)
      other_height

module _ (m : Model) (ls : List (Option ℚ × Option ℚ)) (h : Limited m ls) (basis : List Status)
    (fits : IsBasisOf (formed m ls) basis) (t : Tableau) (ok : start_from None (formed m ls) basis ≡ Ok t)
    (i : ℕ) (i_in : i < height m) where
  -- the count of the model's columns
  abbrev w : ℕ
  w = width m

  -- the count of the model's rows
  abbrev r : ℕ
  r = height m

  -- the count of the form's columns, with the logical and artificial ones
  abbrev n : ℕ
  n = w + r + r

  -- the number of row i's logical column
  abbrev s : ℕ
  s = w + i

  -- the bounds of the model's form
  abbrev b : Bounds
  b = form_bounds (formed m ls)

  -- what x is above the right side of row i
  abbrev by : ℚ → ℚ
  by x = x -ℚ (row m i).rhs

  -- the basis's tableau is one of the form's equations, costs and bounds
  pub g : IsTableau (height m) (width m + height m + height m) (equations (formed m ls))
      (cost_at (formed m ls).cost) (form_bounds (formed m ls)) (table_of t)
  g = tableau None m ls h basis fits t ok

  -- the form's bounds with those of row i's logical moved by what x is above the old right side
  abbrev pub bounds_with : ℚ → Bounds
  bounds_with x =
      record {
        lower = λ k. cond (nat_eq k s) (shifted (by x) (b.lower k)) (b.lower k);
        upper = λ k. cond (nat_eq k s) (shifted (by x) (b.upper k)) (b.upper k);
        barred = b.barred;
      }

  -- with the right side x the lower bound of row i's logical is moved by what x is above the old right side
  pub low_there : (x : ℚ) → (bounds_with x).lower (width m + i)
      ≡ shifted (x -ℚ (row m i).rhs) ((form_bounds (formed m ls)).lower (width m + i))
  low_there x = rw (eq-eqb s s refl) refl

  -- with the right side x the upper bound of row i's logical is moved by what x is above the old right side
  pub high_there : (x : ℚ) → (bounds_with x).upper (width m + i)
      ≡ shifted (x -ℚ (row m i).rhs) ((form_bounds (formed m ls)).upper (width m + i))
  high_there x = rw (eq-eqb s s refl) refl

  -- each other column than row i's logical keeps its lower bound
  pub low_elsewhere : (x : ℚ) (k : ℕ) → k ≢ width m + i →
      (bounds_with x).lower k ≡ (form_bounds (formed m ls)).lower k
  low_elsewhere x k z = rw (ne_eqb k s z) refl

  -- each other column than row i's logical keeps its upper bound
  pub high_elsewhere : (x : ℚ) (k : ℕ) → k ≢ width m + i →
      (bounds_with x).upper k ≡ (form_bounds (formed m ls)).upper k
  high_elsewhere x k z = rw (ne_eqb k s z) refl

  -- the form of the model with the right side x has the form's bounds with those of the logical moved
  bounds_are : (x : ℚ) (l : List (Option ℚ × Option ℚ)) → Limited (with_rhs m i x) l →
      SameBounds n (form_bounds (formed (with_rhs m i x) l)) (bounds_with x)
  bounds_are x l hl =
      bounds_by (with_rhs m i x) l hl w r refl (other_height m i i_in x) (bounds_with x)
      (λ k q. let z : k ≢ s = λ e. (let y : ⊥ = omega (arith, q, e) in y) in (
        sym (low_elsewhere x k z ∙ structural_low m ls h k q),
        sym (high_elsewhere x k z ∙ structural_high m ls h k q),
      ))
      (λ k q. by_eq k i
      (λ z. subst (λ k. ((limits (with_rhs m i x) k).lower ≡ (bounds_with x).lower (w + k))
      × ((limits (with_rhs m i x) k).upper ≡ (bounds_with x).upper (w + k))) (sym z) (
        (limits_there m i i_in x).lower ∙ ap (shifted (by x)) (sym (logical_low m ls h i i_in)) ∙ sym (low_there x),
        (limits_there m i i_in x).upper ∙ ap (shifted (by x)) (sym (logical_high m ls h i i_in)) ∙ sym (high_there x),
      ))
      (λ z. let y : w + k ≢ s = λ e. (z (omega (arith, e))) in (
        ap (λ (l : Limits). l.lower) (limits_elsewhere m i i_in x k z) ∙ sym (logical_low m ls h k q)
            ∙ sym (low_elsewhere x (w + k) y),
        ap (λ (l : Limits). l.upper) (limits_elsewhere m i i_in x k z) ∙ sym (logical_high m ls h k q)
            ∙ sym (high_elsewhere x (w + k) y),
      )))
      (λ k q. let z : w + r + k ≢ s = λ e. (let y : ⊥ = omega (arith, i_in, e) in y) in (
        low_elsewhere x (w + r + k) z ∙ artificial_low m ls h k q,
        high_elsewhere x (w + r + k) z ∙ artificial_high m ls h k q,
      ))

  -- where a status can stand at bounds, it can stand at them with v added
  can_shift : (st : Status) (v : ℚ) (l u : Option ℚ) → CanStand st l u → CanStand st (shifted v l) (shifted v u)
  can_shift Basic v l u c = tt
  can_shift AtLower v l u c = (c.0 +ℚ v, ap (shifted v) c.1)
  can_shift AtUpper v l u c = (c.0 +ℚ v, ap (shifted v) c.1)
  can_shift AtZero v l u c = (ap (shifted v) c.0, ap (shifted v) c.1)

  -- the basis fits the form of the model with another right side
  fits_still : (x : ℚ) (l : List (Option ℚ × Option ℚ)) → Limited (with_rhs m i x) l →
      IsBasisOf (formed (with_rhs m i x) l) basis
  fits_still x l hl =
      fits_other (formed m ls) (formed (with_rhs m i x) l) basis refl (sym (other_height m i i_in x))
      (λ k q c. let y = bounded (formed m ls) (formed_proper m ls h) in
      let z = bounded (formed (with_rhs m i x) l) (formed_proper (with_rhs m i x) l hl) in
      let q' : k < w + height (with_rhs m i x) = omega (arith, q, other_height m i i_in x) in
      let o = bounds_are x l hl in
      subst₂ (CanStand (basis_at basis k))
      (sym (o.lower k (omega (arith, q))) ∙ z.lower k q') (sym (o.upper k (omega (arith, q))) ∙ z.upper k q')
      (by_eq k s
      (λ e. subst (λ k. CanStand (basis_at basis k) ((bounds_with x).lower k) ((bounds_with x).upper k)) (sym e)
      (subst₂ (CanStand (basis_at basis s)) (sym (low_there x)) (sym (high_there x))
      (can_shift (basis_at basis s) (by x) (b.lower s) (b.upper s)
      (subst (λ k. CanStand (basis_at basis k) (b.lower k) (b.upper k)) e
      (subst₂ (CanStand (basis_at basis k)) (sym (y.lower k q)) (sym (y.upper k q)) c)))))
      (λ e. subst₂ (CanStand (basis_at basis k)) (sym (y.lower k q) ∙ sym (low_elsewhere x k e))
      (sym (y.upper k q) ∙ sym (high_elsewhere x k e)) c)))
      fits

  -- a tableau with the same statuses, for the moved bounds, is one of the model with the right side x
  moved_by : (x : ℚ) (u : Table) → ((k : ℕ) → u.status k ≡ status_at t k) →
      IsTableau r n (equations (formed m ls)) (cost_at (formed m ls).cost) (bounds_with x) u →
      IsMoved m (with_rhs m i x) ls basis fits h t ok (cost_at (formed m ls).cost) (bounds_with x) u
  moved_by x u status is = record {
    skeleton = skeleton_same m i i_in x ls;
    ordered = h.ordered;
    costs = λ l _. costs_same m i i_in x ls l;
    bounds = bounds_are x;
    still_fits = fits_still x;
    status = status;
    tableau = is;
  }

  -- where row i's logical is basic, the tableau itself is one of the model with the right side x: no value moves
  pub still_moved : status_at t (width m + i) ≡ Basic → (x : ℚ) →
      IsMoved m (with_rhs m i x) ls basis fits h t ok (cost_at (formed m ls).cost) (bounds_with x) (table_of t)
  still_moved basic x =
      moved_by x (table_of t) (λ k. refl)
      (rebounded_is r n (equations (formed m ls)) (cost_at (formed m ls).cost) b (table_of t) g (bounds_with x)
      (λ k q free. let z : k ≢ s = λ e. free (ap (status_at t) e ∙ basic) in
      subst₂ (λ l u. Stands (status_at t k) l u (value_at t k)) (sym (low_elsewhere x k z)) (sym (high_elsewhere x k z))
      (g.stands k q)))

  -- where row i's logical is nonbasic and stands at its moved bounds once it rises by v, the table with the values that
  -- follow is one of the model with the right side x
  pub carried_moved : ¬ (status_at t (width m + i) ≡ Basic) → (x v : ℚ) →
      Stands (status_at t (width m + i)) (shifted (x -ℚ (row m i).rhs) ((form_bounds (formed m ls)).lower (width m + i)))
      (shifted (x -ℚ (row m i).rhs) ((form_bounds (formed m ls)).upper (width m + i)))
      (value_at t (width m + i) +ℚ v) →
      IsMoved m (with_rhs m i x) ls basis fits h t ok (cost_at (formed m ls).cost) (bounds_with x)
      (carried (height m) (table_of t) (width m + i) v)
  carried_moved free x v stands =
      moved_by x (carried r (table_of t) s v) (λ k. refl)
      (carried_is r n (equations (formed m ls)) (cost_at (formed m ls).cost) b (table_of t) g s v (bounds_with x)
      (omega (arith, i_in)) free
      (subst₂ (λ l u. Stands (status_at t s) l u (value_at t s +ℚ v)) (sym (low_there x)) (sym (high_there x)) stands)
      (λ k q z. (low_elsewhere x k z, high_elsewhere x k z)))

  -- a column that is fixed stays so with each right side of row i
  pub fixed_still : (x : ℚ) (k : ℕ) → IsFixed (form_bounds (formed m ls)) k → IsFixed (bounds_with x) k
  fixed_still x k f =
      by_eq k s
      (λ e. subst (IsFixed (bounds_with x)) (sym e)
      (let f' : IsFixed b s = subst (IsFixed b) e f in
      (f'.0 +ℚ by x, low_there x ∙ ap (shifted (by x)) f'.1, high_there x ∙ ap (shifted (by x)) f'.2)))
      (λ e. (f.0, low_elsewhere x k e ∙ f.1, high_elsewhere x k e ∙ f.2))
