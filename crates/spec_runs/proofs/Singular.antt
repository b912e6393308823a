-- Where elimination finds no position for a basic column, this depends on the basic columns before it.
use Rattle.std.proofs.Common.{◌≡◌, ◌≢◌, ℕ, zero, suc, ◌+◌, ◌<◌, ◌⊎◌, List, get_or, Option}
use Rattle.std.proofs.Common.{Some, None, Result, Ok, Err, Bool, true, false, not, ◌&&◌}
use Rattle.std.proofs.Common.{cond, inl, inr, ⊎_elim, refl, sym, ap, ap₂, ◌∙◌, subst, arith}
use Rattle.std.proofs.lemmas.Bool.{true≢false}
use Rattle.spec_exact.specs.Fraction.{ℚ, ◌-ℚ◌, ◌*ℚ◌, 0ℚ, 1ℚ, eq_ℚ}
use Rattle.spec_exact.specs.Sums.{sum_below}
use Rattle.spec_exact.proofs.Field.{+ℚ_neg, *ℚ_comm, *ℚ_zero}
use Rattle.spec_exact.proofs.Ruleset.{ring, zero-*ℚ}
use Rattle.spec_exact.proofs.Same.{eq_if}
use Rattle.spec_exact.proofs.Sums.{sum_below_same, sum_below_none, sum_below-sub}
use Rattle.spec_exact.proofs.Sums.{*ℚ-sum_below, sum_below_swap, sum_below-*ℚ}
use Rattle.spec_pivot.specs.declared.status.Status.{Status}
use Rattle.spec_pivot.specs.declared.status.Status.TheVariants.{Basic}
use Rattle.spec_pivot.specs.Tableau.{delta}
use Rattle.spec_pivot.proofs.Pivot.{by_eq, delta_same, delta_other, sum_below-delta}
use Rattle.spec_pivot.proofs.Values.{combined}
use Rattle.spec_pivot.proofs.Ray.{delta_sym}
use Rattle.spec_simplex.specs.Form.{Form}
use Rattle.spec_exact.specs.Run.{Run, ◌>>=◌, refused_as, steps}
use Rattle.spec_simplex.specs.Tableau.{at_place}
use Rattle.spec_simplex.specs.Tableau.{is_basic}
use Rattle.spec_simplex.specs.declared.ends.StartStop.{StartStop}
use Rattle.spec_simplex.specs.declared.ends.StartStop.TheVariants as stop
use Rattle.spec_runs.specs.Based.{equations, IsDependent}
use Rattle.spec_simplex.specs.Eliminate.{basis_at, Elimination, unsolved, has_none, is_open}
use Rattle.spec_simplex.specs.Eliminate.{or_place, open_below, solved_at, solved_by, solved_run}
use Rattle.spec_simplex.specs.Eliminate.{eliminate_run, or_first, with_basis, filled_run, start_from}
use Rattle.spec_simplex.proofs.Statuses.{basic_if}
use Rattle.spec_runs.proofs.Counts.{some_is}
use Rattle.spec_runs.proofs.Eliminated.{Solving, eliminated_below}
use Rattle.spec_exact.proofs.Results.{ok_not_err, err_same}

-- ---- no position is open

-- where the search finds no open position among the first n, none of them is open
none_open : (e : Elimination) (j n : ℕ) → open_below e j n ≡ None → (i : ℕ) → i < n → is_open e j i ≡ false
none_open e j zero h i l = absurd (let z : ⊥ = omega (arith, l) in z)
none_open e j (suc n) h i l = by (open_below e j n) (is_open e j n) refl h (none_open e j n)
  where
    by : (o : Option ℕ) (c : Bool) → is_open e j n ≡ c → or_place o n c ≡ None →
        (o ≡ None → (i : ℕ) → i < n → is_open e j i ≡ false) → is_open e j i ≡ false
    by (Some p) c q h more = let z : Some p ≡ None = h in cc
    by None true q h more = let z : Some n ≡ None = h in cc
    by None false q h more = by_eq i n (λ z. ap (is_open e j) z ∙ q) (λ z. more refl i (omega (arith, l, z)))

-- a position that is not open has a column, or the entry 0
closed : (e : Elimination) (j i : ℕ) → is_open e j i ≡ false →
    (has_none (get_or e.basic i None) ≡ false) ⊎ (at_place e.rows i j ≡ 0ℚ)
closed e j i h = by (has_none (get_or e.basic i None)) (eq_ℚ (at_place e.rows i j) 0ℚ) refl refl h
  where
    by : (c d : Bool) → has_none (get_or e.basic i None) ≡ c → eq_ℚ (at_place e.rows i j) 0ℚ ≡ d → c && not d ≡ false →
        (has_none (get_or e.basic i None) ≡ false) ⊎ (at_place e.rows i j ≡ 0ℚ)
    by false d p q h = inl p
    by true true p q h = inr (eq_if (at_place e.rows i j) 0ℚ q)
    by true false p q h = absurd (true≢false h)

module _ (limit : Option ℕ) (f : Form) (basis : List Status) (j : ℕ)
    (j_in : j < f.cols + f.rows) (b : basis_at basis j ≡ Basic) (e : Elimination)
    (s : Solving limit f basis j e) (none : open_below e j f.rows ≡ None) where
  abbrev m : ℕ
  m = f.rows

  abbrev n : ℕ
  n = f.cols + f.rows + f.rows

  abbrev E : ℕ → ℕ → ℚ
  E = at_place e.rows

  abbrev column : ℕ → ℕ
  column i = or_first (get_or e.basic i None)

  -- what follows where position i has a column before j that is basic, and what follows where its entry in column j is
  -- 0, holds
  by_position : {P : Type 0} (i : ℕ) → i < m →
      ((column i < j) → basis_at basis (column i) ≡ Basic → get_or e.basic i None ≡ Some (column i) → P) →
      (E i j ≡ 0ℚ → P) → P
  by_position i h f g =
      ⊎_elim
      (λ p. let o = some_is (get_or e.basic i None) p in
      let at : get_or e.basic i None ≡ Some (column i) = o.1 ∙ ap Some (sym (ap or_first o.1)) in
      let w = s.only i (column i) h at in f w.0 w.1 at)
      g
      (closed e j i (none_open e j m none i h))

  -- 1 in column j, and in each basic column before it what column j has in its position, negated
  solution : ℕ → ℚ
  solution k = delta j k -ℚ sum_below m (λ i. delta (column i) k *ℚ E i j)

  no_part : (k : ℕ) → ((i : ℕ) → i < m → column i < j → basis_at basis (column i) ≡ Basic → column i ≢ k) →
      sum_below m (λ i. delta (column i) k *ℚ E i j) ≡ 0ℚ
  no_part k apart =
      sum_below_none m _ (λ i h. by_position i h
      (λ l p at. ap (λ a. a *ℚ E i j) (delta_other (column i) k (apart i h l p)) ∙ zero-*ℚ (E i j))
      (λ z. ap (λ a. delta (column i) k *ℚ a) z ∙ *ℚ_zero _))

  whole : (a : ℚ) → a -ℚ 0ℚ ≡ a
  whole a = simp ring

  own : solution j ≡ 1ℚ
  unfolding solution
  own = ap₂ ◌-ℚ◌ (delta_same j) (no_part j (λ i h l p z. let y : ⊥ = omega (arith, l, z) in y)) ∙ whole 1ℚ

  -- `solution` is 0 for each column but j and the basic ones before it
  others : (k : ℕ) → k ≢ j → ¬ ((k < j) × (basis_at basis k ≡ Basic)) → solution k ≡ 0ℚ
  unfolding solution
  others k o free =
      ap₂ ◌-ℚ◌ (delta_other j k (λ z. o (sym z)))
      (no_part k (λ i h l p z. free (subst (λ k. k < j) z l, ap (basis_at basis) (sym z) ∙ p))) ∙ whole 0ℚ

  inside : (i : ℕ) → i < m → column i < n
  inside i h = by (get_or e.basic i None) refl
    where
      by : (o : Option ℕ) → get_or e.basic i None ≡ o → column i < n
      by None p = subst (λ k. k < n) (sym (ap or_first p)) (omega (arith, j_in))
      by (Some k) p = subst (λ k. k < n) (sym (ap or_first p)) (let w = s.only i k h p in omega (arith, w.0, j_in))

  -- the numbers `solution` solve row r: the sum of its entries times them is 0
  row_solved : (r : ℕ) → r < m → sum_below n (λ k. E r k *ℚ solution k) ≡ 0ℚ
  unfolding solution
  row_solved r h =
      sum_below_same n _ (λ k. delta j k *ℚ E r k -ℚ sum_below m (λ i. E i j *ℚ (delta (column i) k *ℚ E r k)))
      (λ k _. turn (E r k) (delta j k) (sum_below m (λ i. delta (column i) k *ℚ E i j))
      ∙ ap (λ a. delta j k *ℚ E r k -ℚ a)
      (sum_below-*ℚ m _ (E r k) ∙ sum_below_same m _ _ (λ i _. order (delta (column i) k) (E i j) (E r k))))
      ∙ sum_below-sub n _ _
      ∙ ap₂ ◌-ℚ◌ (sum_below-delta n j (λ k. E r k) (omega (arith, j_in)))
      (sym (sum_below_swap m n (λ i k. E i j *ℚ (delta (column i) k *ℚ E r k)))
      ∙ sum_below_same m _ (λ i. delta r i *ℚ E i j)
      (λ i l. sym (*ℚ-sum_below (E i j) n (λ k. delta (column i) k *ℚ E r k))
      ∙ ap (λ a. E i j *ℚ a) (sum_below-delta n (column i) (λ k. E r k) (inside i l)) ∙ unit i l)
      ∙ sum_below-delta m r (λ i. E i j) h)
      ∙ +ℚ_neg (E r j)
    where
      turn : (a d p : ℚ) → a *ℚ (d -ℚ p) ≡ d *ℚ a -ℚ p *ℚ a
      turn a d p = simp ring

      order : (d a c : ℚ) → d *ℚ a *ℚ c ≡ a *ℚ (d *ℚ c)
      order d a c = simp ring

      unit : (i : ℕ) → i < m → E i j *ℚ E r (column i) ≡ delta r i *ℚ E i j
      unit i l =
          by_position i l
          (λ q p at. ap (λ a. E i j *ℚ a) (s.units i (column i) r l h at ∙ delta_sym i r) ∙ *ℚ_comm (E i j) (delta r i))
          (λ z. ap (λ a. a *ℚ E r (column i)) z ∙ zero-*ℚ _ ∙ sym (ap (λ a. delta r i *ℚ a) z ∙ *ℚ_zero _))

  -- column j depends on the basic columns before it, by `solution`
  depends : IsDependent f basis j solution
  depends = record {
    inside = j_in;
    basic = b;
    own = own;
    others = others;
    solves = combined m n (equations f) (at_place e.rows) s.back solution row_solved;
  }

-- ---- the run

-- where n steps end in an error, some step stops with it, and those before it gave a result
stops_at : {A E : Type 0} (n : ℕ) (f : ℕ → A → Result A E) (a : A) (e : E) → steps n f a ≡ Err e →
    (i : ℕ) × (i < n) × (x : A) × (steps i f a ≡ Ok x) × (f i x ≡ Err e)
stops_at zero f a e h = ok_not_err a e h
stops_at {A} {E} (suc n) f a e h = by (steps n f a) refl h (λ h. stops_at n f a e h)
  where
    by : (o : Result A E) → steps n f a ≡ o → (o >>= λ b. f n b) ≡ Err e →
        (steps n f a ≡ Err e → (i : ℕ) × (i < n) × (x : A) × (steps i f a ≡ Ok x) × (f i x ≡ Err e)) →
        (i : ℕ) × (i < suc n) × (x : A) × (steps i f a ≡ Ok x) × (f i x ≡ Err e)
    by (Ok x) p h more = (n, omega arith, x, p, h)
    by (Err d) p h more = let o = more (p ∙ h) in (o.0, omega (arith, o.1), o.2, o.3, o.4)

-- an operation that is refused is not singular
never_singular : {A : Type 0} (o : Run A) → ¬ (refused_as stop.Past o ≡ Err stop.Singular)
never_singular (Ok a) h = ok_not_err {E = StartStop ℚ} a stop.Singular h
never_singular {A} (Err p) h =
    let z : ◌≡◌ {A = Result A (StartStop ℚ)} (Err (stop.Past p)) (Err stop.Singular) = h in
    let y : stop.Past p ≡ stop.Singular = cc in cc

-- where solving for a column ends as singular, no position was open for the column
no_place : (limit : Option ℕ) (f : Form) (e : Elimination) (j : ℕ) (o : Option ℕ) →
    solved_by limit f e j o ≡ Err stop.Singular → o ≡ None
no_place limit f e j None h = refl
no_place limit f e j (Some p) h = absurd (never_singular (solved_at limit f e j p) h)

-- where elimination ends as singular, some basic column depends on the basic ones before it
eliminate_singular : (limit : Option ℕ) (f : Form) (basis : List Status) →
    eliminate_run limit f basis ≡ Err stop.Singular → (j : ℕ) × (x : ℕ → ℚ) × IsDependent f basis j x
unfolding eliminate_run
eliminate_singular limit f basis h =
    let o =
    stops_at (f.cols + f.rows) (λ j e. cond (is_basic (basis_at basis j)) (solved_run limit f e j) (Ok e))
    (unsolved f) stop.Singular h in
    by o.0 o.1 o.2 (eliminated_below limit f basis o.0 o.2 o.3) (is_basic (basis_at basis o.0)) refl o.4
  where
    by : (j : ℕ) → j < f.cols + f.rows → (e : Elimination) → Solving limit f basis j e → (c : Bool) →
        is_basic (basis_at basis j) ≡ c → cond c (solved_run limit f e j) (Ok e) ≡ Err stop.Singular →
        (j : ℕ) × (x : ℕ → ℚ) × IsDependent f basis j x
    by j l e s true c h = (
      j,
      solution limit f basis j l (basic_if (basis_at basis j) c) e s (no_place limit f e j (open_below e j f.rows) h),
      depends limit f basis j l (basic_if (basis_at basis j) c) e s (no_place limit f e j (open_below e j f.rows) h),
    )
    by j l e s false c h = ok_not_err {E = StartStop ℚ} e stop.Singular h

-- where the start from a basis is singular, some basic column depends on the basic ones before it
pub start_singular : (limit : Option ℕ) (f : Form) (basis : List Status) →
    start_from limit f basis ≡ Err stop.Singular → (j : ℕ) × (x : ℕ → ℚ) × IsDependent f basis j x
unfolding start_from
start_singular limit f basis h = by (eliminate_run limit f basis) refl h
  where
    by : (o : Result Elimination (StartStop ℚ)) → eliminate_run limit f basis ≡ o →
        (o >>= λ e. refused_as stop.Past (filled_run limit f (with_basis f basis e))) ≡ Err stop.Singular →
        (j : ℕ) × (x : ℕ → ℚ) × IsDependent f basis j x
    by (Ok e) p h = absurd (never_singular (filled_run limit f (with_basis f basis e)) h)
    by (Err d) p h = eliminate_singular limit f basis (p ∙ ap Err (err_same d stop.Singular h))
