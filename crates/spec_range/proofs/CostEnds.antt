-- The ends of a cost: between them each reduced cost has the sign of its column's status, and nowhere else.
use Rattle.std.proofs.Common.{◌≡◌, ◌≢◌, ◌↔◌, ℕ, suc, ◌<◌, Option, Ok, Bool, true, false}
use Rattle.std.proofs.Common.{not, ◌||◌, cond, refl, sym, ap, ap₂, ◌∙◌, subst, arith}
use Rattle.std.proofs.lemmas.Bool.{not-true, or_parts}
use Rattle.spec_exact.specs.Fraction.{ℚ, ◌+ℚ◌, ◌-ℚ◌, ◌*ℚ◌, neg_ℚ, 0ℚ, 1ℚ, ◌<ℚ◌, inverse, eq_ℚ}
use Rattle.spec_exact.specs.Run.{◌>>=◌, sum_run, quotient_run}
use Rattle.spec_exact.proofs.Field.{*ℚ_inverse}
use Rattle.spec_exact.proofs.Ruleset.{ring, neg-zero, neg-neg}
use Rattle.spec_exact.proofs.Same.{eq_if, eq_test}
use Rattle.spec_exact.proofs.Strict.{zero-lt-one, <ℚ_irrefl}
use Rattle.spec_model.specs.declared.parts.Sense.{Sense}
use Rattle.spec_model.specs.declared.parts.Sense.TheVariants.{Min, Max}
use Rattle.spec_pivot.specs.declared.status.Status.{Status}
use Rattle.spec_pivot.specs.declared.status.Status.TheVariants.{Basic, AtLower, AtUpper, AtZero}
use Rattle.spec_pivot.specs.Tableau.{delta}
use Rattle.spec_pivot.specs.Simplex.{Bounds, IsFixed}
use Rattle.spec_pivot.proofs.Pivot.{by_eq, delta_same, delta_other}
use Rattle.spec_simplex.specs.Form.{least_cost}
use Rattle.spec_simplex.specs.Tableau.{Tableau, all_columns, entry_at, reduced_at, status_at}
use Rattle.spec_simplex.specs.Tableau.{lower_at, upper_at, is_basic, is_fixed}
use Rattle.spec_simplex.proofs.Statuses.{basic_if}
use Rattle.spec_simplex.specs.Tables.{table_of}
use Rattle.spec_simplex.proofs.Enters.{fixed_means, fixed_test}
use Rattle.spec_simplex.proofs.RunParts.{then_ok, steps_ok, sum_ok, difference_ok, quotient_ok}
use Rattle.spec_runs.proofs.Counts.{basic_test}
use Rattle.spec_pivot.specs.Dual.{Suits}
use Rattle.spec_range.specs.declared.range.Ends.{Ends}
use Rattle.spec_range.specs.Span.{IsIn}
use Rattle.spec_range.specs.Rule.{no_ends, ends_by, falls_by, own_number, own_ends, is_moved, moved_ends, basic_ends}
use Rattle.spec_range.proofs.SignsAlong.{ends_ok}
use Rattle.spec_range.proofs.Checked.{IsGood}

-- ---- signs of the sense

-- a number that is not 0 is not 0 with the sign of the sense
sense_not_zero : (s : Sense) (a : ℚ) → a ≢ 0ℚ → least_cost s a ≢ 0ℚ
sense_not_zero Min a n = n
sense_not_zero Max a n = λ e. n (sym (neg-neg a) ∙ ap neg_ℚ e ∙ neg-zero)

-- the number -1 is not 0
one_not_zero : neg_ℚ 1ℚ ≢ 0ℚ
one_not_zero e = <ℚ_irrefl 0ℚ (subst (λ a. 0ℚ <ℚ a) (sym (neg-neg 1ℚ) ∙ ap neg_ℚ e ∙ neg-zero) zero-lt-one)

-- as a basic column's cost goes from c to v, the reduced cost of a column with the entry a becomes a, with the sign of
-- the sense, times what its end is above v
moved_is : (s : Sense) (d a c v : ℚ) → a ≢ 0ℚ →
    d +ℚ (least_cost s v -ℚ least_cost s c) *ℚ (0ℚ -ℚ a)
    ≡ least_cost s a *ℚ ((c +ℚ least_cost s d *ℚ inverse a) -ℚ v)
moved_is s d a c v n = by s (inverse a) (*ℚ_inverse a n)
  where
    least : (d a c v i : ℚ) → a *ℚ ((c +ℚ d *ℚ i) -ℚ v) ≡ (a *ℚ i) *ℚ d +ℚ (v -ℚ c) *ℚ (0ℚ -ℚ a)
    least d a c v i = simp ring

    greatest : (d a c v i : ℚ) →
        neg_ℚ a *ℚ ((c +ℚ neg_ℚ d *ℚ i) -ℚ v) ≡ (a *ℚ i) *ℚ d +ℚ (neg_ℚ v -ℚ neg_ℚ c) *ℚ (0ℚ -ℚ a)
    greatest d a c v i = simp ring

    one : (d x : ℚ) → d +ℚ x ≡ 1ℚ *ℚ d +ℚ x
    one d x = simp ring

    by : (s : Sense) (i : ℚ) → a *ℚ i ≡ 1ℚ →
        d +ℚ (least_cost s v -ℚ least_cost s c) *ℚ (0ℚ -ℚ a) ≡ least_cost s a *ℚ ((c +ℚ least_cost s d *ℚ i) -ℚ v)
    by Min i e =
        one d ((v -ℚ c) *ℚ (0ℚ -ℚ a)) ∙ ap (λ x. x *ℚ d +ℚ (v -ℚ c) *ℚ (0ℚ -ℚ a)) (sym e) ∙ sym (least d a c v i)
    by Max i e =
        one d ((neg_ℚ v -ℚ neg_ℚ c) *ℚ (0ℚ -ℚ a))
        ∙ ap (λ x. x *ℚ d +ℚ (neg_ℚ v -ℚ neg_ℚ c) *ℚ (0ℚ -ℚ a)) (sym e) ∙ sym (greatest d a c v i)

-- as a nonbasic column's cost goes from c to v, its own reduced cost becomes what v is above its end, with the sign of
-- the sense
own_is : (s : Sense) (d c v : ℚ) →
    d +ℚ (least_cost s v -ℚ least_cost s c) *ℚ (1ℚ -ℚ 0ℚ) ≡ least_cost s (neg_ℚ 1ℚ) *ℚ ((c -ℚ least_cost s d) -ℚ v)
own_is Min d c v = least d c v
  where
    least : (d c v : ℚ) → d +ℚ (v -ℚ c) *ℚ (1ℚ -ℚ 0ℚ) ≡ neg_ℚ 1ℚ *ℚ ((c -ℚ d) -ℚ v)
    least d c v = simp ring
own_is Max d c v = greatest d c v
  where
    greatest : (d c v : ℚ) → d +ℚ (neg_ℚ v -ℚ neg_ℚ c) *ℚ (1ℚ -ℚ 0ℚ) ≡ neg_ℚ (neg_ℚ 1ℚ) *ℚ ((c -ℚ neg_ℚ d) -ℚ v)
    greatest d c v = simp ring

-- a reduced cost that moves by a multiple of 0 stays
still_is : (d x : ℚ) → d ≡ d +ℚ x *ℚ (0ℚ -ℚ 0ℚ)
still_is d x = simp ring

module _ (limit : Option ℕ) (s : Sense) (c : ℚ) (t : Tableau) (n : ℕ) (n_is : all_columns t ≡ n) (b : Bounds)
    (low : (k : ℕ) → lower_at t k ≡ b.lower k) (high : (k : ℕ) → upper_at t k ≡ b.upper k)
    (good : IsGood n b (table_of t)) (j : ℕ) (j_in : j < n) where
  -- by how much the form's cost grows as the model's goes from c to v: v less c, negated where the sense is Max
  abbrev growth : ℚ → ℚ
  growth v = least_cost s v -ℚ least_cost s c

  -- the reduced cost that column k has with the cost v, where e is the row of column j or 0, suits its status, unless k
  -- is fixed
  abbrev Wants : (ℕ → ℚ) → ℚ → ℕ → Type 0
  Wants e v k = ¬ (IsFixed b k) → Suits (status_at t k) (reduced_at t k +ℚ growth v *ℚ (delta j k -ℚ e k))

  -- a column that tests as fixed is fixed by the bounds
  fixed_is : (k : ℕ) → is_fixed (lower_at t k) (upper_at t k) ≡ true → IsFixed b k
  fixed_is k e =
      let v = fixed_means (lower_at t k) (upper_at t k) e in (v.0, sym (low k) ∙ v.1, sym (high k) ∙ v.2)

  -- a column that does not test as fixed is not fixed by the bounds
  free_is : (k : ℕ) → is_fixed (lower_at t k) (upper_at t k) ≡ false → ¬ (IsFixed b k)
  free_is k e v =
      let z : false ≡ true = sym e ∙ fixed_test (lower_at t k) (upper_at t k) v.0 (low k ∙ v.1) (high k ∙ v.2) in cc

  -- each cost v suits a column whose reduced cost does not move
  still_wants : (e : ℕ → ℚ) (v : ℚ) (k : ℕ) → k < n → delta j k ≡ 0ℚ → e k ≡ 0ℚ → Wants e v k
  still_wants e v k k_in p q f =
      subst (Suits (status_at t k))
      (still_is (reduced_at t k) (growth v) ∙ ap₂ (λ x y. reduced_at t k +ℚ growth v *ℚ (x -ℚ y)) (sym p) (sym q))
      (good.suits k k_in f)

  -- ---- column j is basic, at position p
  module _ (basic : status_at t j ≡ Basic) (p : ℕ) where
    -- the reduced cost that column k has with the cost v of the basic column j suits its status, unless k is fixed
    abbrev wants : ℚ → ℕ → Type 0
    wants v k = Wants (entry_at t p) v k

    -- a nonbasic column is another one than the basic column j
    elsewhere : (k : ℕ) → ¬ (status_at t k ≡ Basic) → delta j k ≡ 0ℚ
    elsewhere k free = delta_other j k (λ z. free (ap (status_at t) (sym z) ∙ basic))

    -- the ends e have exactly the costs that suit all columns before column i
    abbrev Meant : ℕ → Ends ℚ → Type 0
    Meant i e = (v : ℚ) → IsIn e v ↔ ((k : ℕ) → k < i → wants v k)

    -- each cost suits a column whose reduced cost does not move, or that is basic or fixed
    unmoved : (k : ℕ) → k < n → is_moved t p k ≡ false → (v : ℚ) → Wants (entry_at t p) v k
    unmoved k k_in q v =
        by (is_basic (status_at t k)) (is_fixed (lower_at t k) (upper_at t k)) (eq_ℚ (entry_at t p k) 0ℚ) refl refl refl q
      where
        by : (x y z : Bool) → is_basic (status_at t k) ≡ x → is_fixed (lower_at t k) (upper_at t k) ≡ y →
            eq_ℚ (entry_at t p k) 0ℚ ≡ z → not (x || (y || z)) ≡ false → Wants (entry_at t p) v k
        by true y z a d e o f =
            subst (λ s. Suits s (reduced_at t k +ℚ growth v *ℚ (delta j k -ℚ entry_at t p k)))
            (sym (basic_if (status_at t k) a)) tt
        by false true z a d e o f = absurd (f (fixed_is k d))
        by false false true a d e o f =
            still_wants (entry_at t p) v k k_in
            (elsewhere k (λ i. let z : false ≡ true = sym a ∙ basic_test (status_at t k) i in cc))
            (eq_if (entry_at t p k) 0ℚ e) f
        by false false false a d e o f = let z : true ≡ false = o in cc

    -- the ends with those of a column whose reduced cost moves have the costs from before that suit this column
    moved_ok : (k : ℕ) (e x : Ends ℚ) → is_moved t p k ≡ true → moved_ends limit s c t p k e ≡ Ok x →
        (v : ℚ) → IsIn x v ↔ (IsIn e v × wants v k)
    moved_ok k e x q h v =
        let a = not-true _ q in
        let o = or_parts (is_basic (status_at t k)) _ a in
        let i = or_parts (is_fixed (lower_at t k) (upper_at t k)) (eq_ℚ (entry_at t p k) 0ℚ) o.1 in
        let nz : entry_at t p k ≢ 0ℚ = λ z. (let y : false ≡ true = sym i.1 ∙ eq_test (entry_at t p k) 0ℚ z in cc) in
        let zero : delta j k ≡ 0ℚ =
        elsewhere k (λ z. let y : false ≡ true = sym o.0 ∙ basic_test (status_at t k) z in cc) in
        let u = then_ok (quotient_run limit (least_cost s (reduced_at t k)) (entry_at t p k)) _ x h in
        let y = then_ok (sum_run limit c u.0) _ x u.2 in
        let cuts = ends_ok limit (status_at t k) (least_cost s (entry_at t p k)) y.0 e x
        (sense_not_zero s (entry_at t p k) nz) y.2 in
        let number : y.0 ≡ c +ℚ least_cost s (reduced_at t k) *ℚ inverse (entry_at t p k) =
        sum_ok limit c u.0 y.0 y.1
        ∙ ap (λ z. c +ℚ z) (quotient_ok limit (least_cost s (reduced_at t k)) (entry_at t p k) u.0 u.1) in
        let same : least_cost s (entry_at t p k) *ℚ (y.0 -ℚ v)
        ≡ reduced_at t k +ℚ growth v *ℚ (delta j k -ℚ entry_at t p k) =
        ap (λ z. least_cost s (entry_at t p k) *ℚ (z -ℚ v)) number
        ∙ sym (moved_is s (reduced_at t k) (entry_at t p k) c v nz)
        ∙ ap (λ z. reduced_at t k +ℚ growth v *ℚ (z -ℚ entry_at t p k)) (sym zero) in (
          λ r. let z = (cuts v).0 r in (z.0, λ f. subst (Suits (status_at t k)) same z.1),
          λ r. (cuts v).1 (r.0, subst (Suits (status_at t k)) (sym same) (r.1 (free_is k i.0))),
        )

    -- ends that have the costs which suit all columns before k have, with those of column k, the costs which suit k too
    step : (k : ℕ) (x y : Ends ℚ) → k < n → Meant k x →
        cond (is_moved t p k) (moved_ends limit s c t p k x) (Ok x) ≡ Ok y → Meant (suc k) y
    step k x y k_in was h v = by (is_moved t p k) refl h
      where
        join : (Q : Type 0) → (IsIn y v ↔ (IsIn x v × Q)) → (Q ↔ wants v k) →
            IsIn y v ↔ ((i : ℕ) → i < suc k → wants v i)
        join Q a d = (
          λ r i i_in. let o = a.0 r in
              by_eq i k (λ z. subst (wants v) (sym z) (d.0 o.1))
              (λ z. (was v).0 o.0 i (omega (arith, i_in, z))),
          λ r. a.1 ((was v).1 (λ i i_in. r i (omega (arith, i_in))), d.1 (r k (omega arith))),
        )

        by : (o : Bool) → is_moved t p k ≡ o → cond o (moved_ends limit s c t p k x) (Ok x) ≡ Ok y →
            IsIn y v ↔ ((i : ℕ) → i < suc k → wants v i)
        by true q h = join (wants v k) (moved_ok k x y q h v) (λ z. z, λ z. z)
        by false q h =
            let z : x ≡ y = cc in
            join (Unit {0}) (subst (λ y. IsIn y v ↔ (IsIn x v × Unit {0})) z (λ r. (r, tt), λ r. r.0))
            (λ _. unmoved k k_in q v, λ _. tt)

    -- the ends for the cost of a basic column have exactly the costs with which the reduced cost of each column that is
    -- not fixed suits its status
    pub basic_ok : (x : Ends ℚ) → basic_ends limit s c t p ≡ Ok x → (v : ℚ) →
        IsIn x v ↔ ((k : ℕ) → k < n → ¬ (IsFixed b k) →
        Suits (status_at t k) (reduced_at t k +ℚ (least_cost s v -ℚ least_cost s c) *ℚ (delta j k -ℚ entry_at t p k)))
    basic_ok x h =
        subst (λ n. (v : ℚ) → IsIn x v ↔ ((k : ℕ) → k < n → wants v k)) n_is
        (steps_ok Meant (all_columns t)
        (λ k e. cond (is_moved t p k) (moved_ends limit s c t p k e) (Ok e)) no_ends x h
        (λ v. (λ _ k l. absurd (let z : ⊥ = omega (arith, l) in z), λ _. record { lower = tt; upper = tt }))
        (λ k x y l. step k x y (omega (arith, l, n_is))))

  -- ---- column j is not basic
  module _ (free : ¬ (status_at t j ≡ Basic)) where
    -- the reduced cost that column k has with the cost v of the nonbasic column j suits its status, unless k is fixed
    abbrev own_wants : ℚ → ℕ → Type 0
    own_wants v k = Wants (λ _. 0ℚ) v k

    -- each cost of the nonbasic column j suits each other column
    elsewhere_own : (v : ℚ) (k : ℕ) → k < n → k ≢ j → own_wants v k
    elsewhere_own v k k_in z = still_wants (λ _. 0ℚ) v k k_in (delta_other j k (λ y. z (sym y))) refl

    -- where column j is not fixed, the cost at which its reduced cost is 0 is c less this, with the sign of the sense
    number_ok : (st : Status) → status_at t j ≡ st → ¬ (IsFixed b j) → (x : ℚ) →
        own_number limit s c st (reduced_at t j) ≡ Ok x → x ≡ c -ℚ least_cost s (reduced_at t j)
    number_ok Basic e f x h = absurd (free e)
    number_ok AtLower e f x h = difference_ok limit c (least_cost s (reduced_at t j)) x h
    number_ok AtUpper e f x h = difference_ok limit c (least_cost s (reduced_at t j)) x h
    number_ok AtZero e f x h =
        let d : reduced_at t j ≡ 0ℚ = subst (λ s. Suits s (reduced_at t j)) e (good.suits j j_in f) in
        let z : c ≡ x = cc in
        sym z ∙ none s ∙ ap (λ d. c -ℚ least_cost s d) (sym d)
      where
        none : (s : Sense) → c ≡ c -ℚ least_cost s 0ℚ
        none Min = simp ring
        none Max = simp ring

    -- the ends for the cost of a nonbasic column have exactly the costs with which the reduced cost of each column that
    -- is not fixed suits its status
    pub own_ok : (x : Ends ℚ) → own_ends limit s c t j ≡ Ok x → (v : ℚ) →
        IsIn x v ↔ ((k : ℕ) → k < n → ¬ (IsFixed b k) →
        Suits (status_at t k) (reduced_at t k +ℚ (least_cost s v -ℚ least_cost s c) *ℚ (delta j k -ℚ 0ℚ)))
    own_ok x h v = by (is_fixed (lower_at t j) (upper_at t j)) refl h
      where
        by : (o : Bool) → is_fixed (lower_at t j) (upper_at t j) ≡ o →
            cond o (Ok no_ends) (own_number limit s c (status_at t j) (reduced_at t j) >>= λ v.
            ends_by limit (status_at t j) (falls_by s (neg_ℚ 1ℚ)) v no_ends) ≡ Ok x →
            IsIn x v ↔ ((k : ℕ) → k < n → own_wants v k)
        by true q h =
            let z : no_ends ≡ x = cc in
            subst (λ x. IsIn x v ↔ ((k : ℕ) → k < n → own_wants v k)) z (
              λ _ k k_in. by_eq k j
                  (λ z f. absurd (f (subst (IsFixed b) (sym z) (fixed_is j q)))) (elsewhere_own v k k_in),
              λ _. record { lower = tt; upper = tt },
            )
        by false q h =
            let o = then_ok (own_number limit s c (status_at t j) (reduced_at t j)) _ x h in
            let f : ¬ (IsFixed b j) = free_is j q in
            let cuts = ends_ok limit (status_at t j) (least_cost s (neg_ℚ 1ℚ)) o.0 no_ends x
            (sense_not_zero s (neg_ℚ 1ℚ) one_not_zero) o.2 in
            let same : least_cost s (neg_ℚ 1ℚ) *ℚ (o.0 -ℚ v)
            ≡ reduced_at t j +ℚ growth v *ℚ (delta j j -ℚ 0ℚ) =
            ap (λ z. least_cost s (neg_ℚ 1ℚ) *ℚ (z -ℚ v)) (number_ok (status_at t j) refl f o.0 o.1)
            ∙ sym (own_is s (reduced_at t j) c v)
            ∙ ap (λ z. reduced_at t j +ℚ growth v *ℚ (z -ℚ 0ℚ)) (sym (delta_same j)) in (
              λ r k k_in. by_eq k j
                  (λ z. subst (own_wants v) (sym z)
                  (λ _. subst (Suits (status_at t j)) same ((cuts v).0 r).1)) (elsewhere_own v k k_in),
              λ r. (cuts v).1 (
                record { lower = tt; upper = tt },
                subst (Suits (status_at t j)) (sym same) (r j j_in f),
              ),
            )
