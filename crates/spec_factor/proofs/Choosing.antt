-- Factoring anew: the columns that were taken are unit vectors, and a column that finds no place is a combination of
-- them.
--
-- `filled`: how many of the first n places have a column.
-- `filled_all`: where the count of the first n places that have a column is n, each of them has one.
use Rattle.std.proofs.Common.{◌≡◌, ◌≢◌, ℕ, zero, suc, ◌+◌, ◌<◌, ◌≤◌, List, length, get_or, set}
use Rattle.std.proofs.Common.{replicate, Option, Some, None, is_none, is_some, Result, Ok, Err, Bool}
use Rattle.std.proofs.Common.{true, false, not, ◌&&◌, cond, refl, sym, ap, ap₂, ◌∙◌, subst, arith}
use Rattle.std.specs.Prelude.{All}
use Rattle.std.proofs.lemmas.List.{length-set, length-replicate, get_or-set_same, get_or-set_other, get_or-replicate}
use Rattle.std.proofs.lemmas.List.Elements.{All-nil}
use Rattle.spec_exact.specs.Fraction.{ℚ, ◌*ℚ◌, 0ℚ, eq_ℚ}
use Rattle.spec_exact.specs.Sums.{sum_below}
use Rattle.spec_exact.proofs.Field.{*ℚ_comm, *ℚ_zero}
use Rattle.spec_exact.proofs.Same.{eq_if, eq_test}
use Rattle.spec_exact.proofs.Sums.{sum_below_same, sum_below_none, exchange}
use Rattle.spec_pivot.specs.declared.status.Status.{Status}
use Rattle.spec_pivot.specs.declared.status.Status.TheVariants.{Basic, AtLower, AtUpper, AtZero}
use Rattle.spec_pivot.specs.Tableau.{Matrix, delta}
use Rattle.spec_pivot.proofs.Pivot.{by_eq, delta_other, sum_below-delta}
use Rattle.spec_pivot.proofs.Values.{by_basic}
use Rattle.spec_pivot.proofs.Ray.{delta_sym}
use Rattle.spec_exact.specs.Run.{refused_as}
use Rattle.spec_simplex.specs.Form.{Form}
use Rattle.spec_exact.proofs.RunsInOrder.{length-made, get_or-made}
use Rattle.spec_simplex.specs.Tableau.{is_basic}
use Rattle.spec_simplex.proofs.RunParts.{then_ok, refused_ok, steps_ok}
use Rattle.spec_simplex.proofs.ListIndices.{by_lt}
use Rattle.spec_simplex.specs.Eliminate.{basis_at, basics_below}
use Rattle.spec_factor.specs.declared.stop.NoFactors.{NoFactors}
use Rattle.spec_factor.specs.declared.stop.NoFactors.TheVariants as stop
use Rattle.spec_factor.specs.Factors.{Pair, Chosen, column_entry, column_of, ftran_run, is_open, or_open}
use Rattle.spec_factor.specs.Factors.{open_place, with_pair, chosen_at, choose_run, none_chosen, choose_all}
use Rattle.spec_factor.specs.Basis.{forward, IsPair, AreDependent}
use Rattle.spec_factor.proofs.Forward.{forward_same, forward_combines, forward_apart}
use Rattle.spec_factor.proofs.RunLists.{read, ftran_ok}
use Rattle.spec_factor.proofs.Solves.{sound_with, with_own, with_other}

abbrev pub chosen_column : List (Option ℕ) → ℕ → Option ℕ
chosen_column columns p = get_or columns p None

-- ---- the place that a column finds
pub record IsOpen (columns : List (Option ℕ)) (v : List ℚ) (p : ℕ) : Type 0 where
  pub free : chosen_column columns p ≡ None
  pub not_zero : read v p ≢ 0ℚ

module _ (columns : List (Option ℕ)) (v : List ℚ) where
  open_means : (p : ℕ) → is_open columns v p ≡ true → IsOpen columns v p
  open_means p h = by (chosen_column columns p) (eq_ℚ (read v p) 0ℚ) refl refl h
    where
      by : (o : Option ℕ) (c : Bool) → chosen_column columns p ≡ o → eq_ℚ (read v p) 0ℚ ≡ c →
          is_none o && not c ≡ true → IsOpen columns v p
      by None false e z h =
          record { free = e; not_zero = λ y. let x : true ≡ false = sym (eq_test (read v p) 0ℚ y) ∙ z in cc }
      by None true e z h = let y : false ≡ true = h in cc
      by (Some k) c e z h = let y : false ≡ true = h in cc

  closed_means : (p : ℕ) → is_open columns v p ≡ false → chosen_column columns p ≡ None → read v p ≡ 0ℚ
  closed_means p h e = by (eq_ℚ (read v p) 0ℚ) refl (sym (ap (λ o. is_none o && not (eq_ℚ (read v p) 0ℚ)) e) ∙ h)
    where
      by : (c : Bool) → eq_ℚ (read v p) 0ℚ ≡ c → not c ≡ false → read v p ≡ 0ℚ
      by true z h = eq_if (read v p) 0ℚ z
      by false z h = let y : true ≡ false = h in cc

  pub place_found : (n p : ℕ) → open_place columns v n ≡ Some p → (p < n) × IsOpen columns v p
  place_found zero p h = let z : None ≡ Some p = h in cc
  place_found (suc n) p h = by (open_place columns v n) (is_open columns v n) refl refl h (λ e. place_found n p e)
    where
      by : (o : Option ℕ) (c : Bool) → open_place columns v n ≡ o → is_open columns v n ≡ c → or_open o n c ≡ Some p →
          (open_place columns v n ≡ Some p → (p < n) × IsOpen columns v p) → (p < suc n) × IsOpen columns v p
      by (Some q) c e z h before = let w = before (e ∙ h) in (omega (arith, w.0), w.1)
      by None true e z h before =
          let y : n ≡ p = cc in subst (λ p. (p < suc n) × IsOpen columns v p) y (omega arith, open_means n z)
      by None false e z h before = let y : None ≡ Some p = h in cc

  pub none_found : (n : ℕ) → open_place columns v n ≡ None → (p : ℕ) → p < n → chosen_column columns p ≡ None →
      read v p ≡ 0ℚ
  none_found zero h p l e = absurd (let z : ⊥ = omega (arith, l) in z)
  none_found (suc n) h p l e =
      by (open_place columns v n) (is_open columns v n) refl refl h (λ y q. none_found n y p q e)
    where
      by : (o : Option ℕ) (c : Bool) → open_place columns v n ≡ o → is_open columns v n ≡ c → or_open o n c ≡ None →
          (open_place columns v n ≡ None → p < n → read v p ≡ 0ℚ) → read v p ≡ 0ℚ
      by (Some q) c y z h before = let x : Some q ≡ None = h in cc
      by None true y z h before = let x : Some n ≡ None = h in cc
      by None false y z h before = by_eq p n
          (λ d. closed_means p (ap (is_open columns v) d ∙ z) e)
          (λ d. before y (omega (arith, l, d)))

-- ---- how many places have a column
pub filled : List (Option ℕ) → ℕ → ℕ
filled columns zero = 0
filled columns (suc n) = cond (is_some (chosen_column columns n)) (suc (filled columns n)) (filled columns n)

-- of the first n places at most n have a column
filled_least : (columns : List (Option ℕ)) (n : ℕ) → filled columns n ≤ n
unfolding filled
filled_least columns zero = omega arith
filled_least columns (suc n) = by (is_some (chosen_column columns n)) (filled_least columns n)
  where
    by : (c : Bool) → filled columns n ≤ n → cond c (suc (filled columns n)) (filled columns n) ≤ suc n
    by true h = omega (arith, h)
    by false h = omega (arith, h)

-- where no place has a column, none of the first n places has one
filled_none : (m n : ℕ) → n ≤ m → filled (replicate m None) n ≡ 0
unfolding filled
filled_none m zero h = refl
filled_none m (suc n) h =
    ap (λ o. cond (is_some o) (suc (filled (replicate m None) n)) (filled (replicate m None) n))
    (get_or-replicate m n None None (omega (arith, h)))
    ∙ filled_none m n (omega (arith, h))

-- giving place p a column does not change how many places before it have one
filled_before : (columns : List (Option ℕ)) (p k n : ℕ) → n ≤ p → filled (set columns p (Some k)) n ≡ filled columns n
unfolding filled
filled_before columns p k zero h = refl
filled_before columns p k (suc n) h =
    ap₂ (λ o a. cond (is_some o) (suc a) a)
    (get_or-set_other columns p n (Some k) None (λ d. let z : ⊥ = omega (arith, h, d) in z))
    (filled_before columns p k n (omega (arith, h)))

-- giving a column to a place without one makes one place more that has a column
filled_more : (columns : List (Option ℕ)) (p k n : ℕ) → chosen_column columns p ≡ None → p < length columns → p < n →
    filled (set columns p (Some k)) n ≡ suc (filled columns n)
unfolding filled
filled_more columns p k zero e l h = absurd (let z : ⊥ = omega (arith, h) in z)
filled_more columns p k (suc n) e l h =
    by_eq n p
    (λ d. ap₂ (λ o a. cond (is_some o) (suc a) a)
    (ap (chosen_column (set columns p (Some k))) d ∙ get_or-set_same columns p (Some k) None l)
    (filled_before columns p k n (omega (arith, d)))
    ∙ sym (ap (λ o. suc (cond (is_some o) (suc (filled columns n)) (filled columns n)))
    (ap (chosen_column columns) d ∙ e)))
    (λ d. ap₂ (λ o a. cond (is_some o) (suc a) a) (get_or-set_other columns p n (Some k) None d)
    (filled_more columns p k n e l (omega (arith, h, d)))
    ∙ by (is_some (chosen_column columns n)))
  where
    by : (c : Bool) →
        cond c (suc (suc (filled columns n))) (suc (filled columns n))
        ≡ suc (cond c (suc (filled columns n)) (filled columns n))
    by true = refl
    by false = refl

pub filled_all : (columns : List (Option ℕ)) (n : ℕ) → filled columns n ≡ n → (p : ℕ) → p < n →
    (k : ℕ) × (chosen_column columns p ≡ Some k)
unfolding filled
filled_all columns zero h p l = absurd (let z : ⊥ = omega (arith, l) in z)
filled_all columns (suc n) h p l = by (chosen_column columns n) refl h (λ e q. filled_all columns n e p q)
  where
    by : (o : Option ℕ) → chosen_column columns n ≡ o →
        cond (is_some o) (suc (filled columns n)) (filled columns n) ≡ suc n →
        (filled columns n ≡ n → p < n → (k : ℕ) × (chosen_column columns p ≡ Some k)) →
        (k : ℕ) × (chosen_column columns p ≡ Some k)
    by None e h more =
        absurd (let z : filled columns n ≤ n = filled_least columns n in let y : ⊥ = omega (arith, z, h) in y)
    by (Some k) e h more =
        by_eq p n (λ d. (k, ap (chosen_column columns) d ∙ e)) (λ d. more (omega (arith, h)) (omega (arith, l, d)))

-- ---- the columns that were taken
module _ (f : Form) (basis : List Status) where
  abbrev m : ℕ
  m = f.rows

  abbrev column : ℕ → ℕ → ℚ
  column k r = column_entry f r k

  -- of the first n columns the basic ones have places
  pub record Took (n : ℕ) (s : Chosen) : Type 0 where
    pub all : length s.columns ≡ m
    pub sound : All (IsPair m) s.pairs
    pub marked : (p k : ℕ) → p < m → chosen_column s.columns p ≡ Some k → (k < n) × (basis_at basis k ≡ Basic)
    pub placed : (k : ℕ) → k < n → basis_at basis k ≡ Basic → (p : ℕ) × (p < m) × (chosen_column s.columns p ≡ Some k)
    pub units : (p k i : ℕ) → p < m → i < m → chosen_column s.columns p ≡ Some k →
        forward s.pairs (column k) i ≡ delta p i
    pub count : filled s.columns m ≡ basics_below basis n

  pub took_none : Took 0 (none_chosen f)
  took_none = record {
    all = length-replicate f.rows None;
    sound = All-nil (IsPair m);
    marked = λ p k l e. none p k l e;
    placed = λ k l e. absurd (let z : ⊥ = omega (arith, l) in z);
    units = λ p k i l q e. none p k l e;
    count = filled_none m m (omega arith);
  }
    where
      none : {P : Type 0} (p k : ℕ) → p < m → chosen_column (replicate f.rows None) p ≡ Some k → P
      none p k l e = let z : ◌≡◌ {A = Option ℕ} None (Some k) = sym (get_or-replicate f.rows p None None l) ∙ e in cc

  column_length : (k : ℕ) → length (column_of f k) ≡ m
  column_length k = length-made f.rows (λ i. column_entry f i k)

  column_read : (k i : ℕ) → i < m → read (column_of f k) i ≡ column k i
  column_read k i l = get_or-made f.rows (λ i. column_entry f i k) i 0ℚ l

  -- the column after ftran
  pub solved : (limit : Option ℕ) (pairs : List Pair) (k : ℕ) (v : List ℚ) → All (IsPair m) pairs →
      ftran_run limit m pairs (column_of f k) ≡ Ok v → (i : ℕ) → i < m → read v i ≡ forward pairs (column k) i
  solved limit pairs k v sound h i l =
      (ftran_ok limit m pairs (column_of f k) v sound (column_length k) h).each i l
      ∙ forward_same m pairs (read (column_of f k)) (column k) sound (column_read k) i l

  counted : (n : ℕ) → basis_at basis n ≡ Basic → basics_below basis (suc n) ≡ suc (basics_below basis n)
  counted n e =
      let z : basics_below basis n + 1 ≡ suc (basics_below basis n) = omega arith in
      ap (λ s. basics_below basis n + cond (is_basic s) 1 0) e ∙ z

  pub took_one : (limit : Option ℕ) (n : ℕ) (s u : Chosen) → basis_at basis n ≡ Basic → Took n s →
      choose_run limit f n s ≡ Ok u → Took (suc n) u
  took_one limit n s u is_b t h =
      let a =
      then_ok (refused_as stop.Past (ftran_run limit m s.pairs (column_of f n)))
      (λ v. chosen_at s n v (open_place s.columns v m)) u h in
      by a.0
      (solved limit s.pairs n a.0 t.sound (refused_ok stop.Past (ftran_run limit m s.pairs (column_of f n)) a.0 a.1))
      (open_place s.columns a.0 m) refl a.2
    where
      by : (v : List ℚ) → ((i : ℕ) → i < m → read v i ≡ forward s.pairs (column n) i) → (o : Option ℕ) →
          open_place s.columns v m ≡ o → chosen_at s n v o ≡ Ok u → Took (suc n) u
      by v is None e h = let z : ◌≡◌ {A = Result Chosen (NoFactors ℚ)} (Err stop.Singular) (Ok u) = h in cc
      by v is (Some p) e h =
          let found = place_found s.columns v m p e in
          let inside : p < length s.columns = subst (λ n. p < n) (sym t.all) found.0 in
          let z : ◌≡◌ {A = Chosen} (record { pairs = with_pair s.pairs p v; columns = set s.columns p (Some n) }) u =
          cc in
          subst (Took (suc n)) z (record {
            all = length-set s.columns p (Some n) ∙ t.all;
            sound = sound_with m s.pairs p v t.sound found.0 found.1.not_zero;
            marked = λ q k l x. by_eq q p
                (λ d. let y : Some n ≡ Some k = sym (get_or-set_same s.columns p (Some n) None inside)
                ∙ sym (ap (λ q. get_or (set s.columns p (Some n)) q None) d) ∙ x in
                let w : n ≡ k = cc in subst (λ k. (k < suc n) × (basis_at basis k ≡ Basic)) w (omega arith, is_b))
                (λ d. let w = t.marked q k l (sym (get_or-set_other s.columns p q (Some n) None d) ∙ x) in
                (omega (arith, w.0), w.1));
            placed = λ k l b. by_eq k n
                (λ d. (p, found.0, get_or-set_same s.columns p (Some n) None inside ∙ ap Some (sym d)))
                (λ d. let w = t.placed k (omega (arith, l, d)) b in (
                  w.0,
                  w.1,
                  get_or-set_other s.columns p w.0 (Some n) None
                      (λ y. let x : None ≡ Some k = sym found.1.free ∙ ap (chosen_column s.columns) (sym y) ∙ w.2 in cc)
                      ∙ w.2,
                ));
            units = λ q k i l r x. by_eq q p
                (λ d. let y : Some n ≡ Some k = sym (get_or-set_same s.columns p (Some n) None inside)
                ∙ sym (ap (λ q. get_or (set s.columns p (Some n)) q None) d) ∙ x in
                let w : n ≡ k = cc in
                subst (λ k. forward (with_pair s.pairs p v) (column k) i ≡ delta q i) w
                (with_own m s.pairs p v t.sound found.0 found.1.not_zero (column n) is i r
                ∙ ap (λ q. delta q i) (sym d)))
                (λ d. let w : chosen_column s.columns q ≡ Some k =
                sym (get_or-set_other s.columns p q (Some n) None d) ∙ x in
                with_other m s.pairs p v t.sound found.0 found.1.not_zero
                (column k) q (λ y. d (sym y)) (λ i g. t.units q k i l g w) i r);
            count = filled_more s.columns p n m found.1.free inside found.0 ∙ ap suc t.count ∙ sym (counted n is_b);
          })

  pub basic_if : (s : Status) → is_basic s ≡ true → s ≡ Basic
  basic_if Basic h = refl
  basic_if AtLower h = let z : false ≡ true = h in cc
  basic_if AtUpper h = let z : false ≡ true = h in cc
  basic_if AtZero h = let z : false ≡ true = h in cc

  pub not_basic_if : (s : Status) → is_basic s ≡ false → ¬ (s ≡ Basic)
  not_basic_if s h e = let z : true ≡ false = sym (ap is_basic e) ∙ h in cc

  pub took_step : (limit : Option ℕ) (n : ℕ) (s u : Chosen) → Took n s →
      cond (is_basic (basis_at basis n)) (choose_run limit f n s) (Ok s) ≡ Ok u → Took (suc n) u
  took_step limit n s u t h = by (is_basic (basis_at basis n)) refl h
    where
      by : (c : Bool) → is_basic (basis_at basis n) ≡ c → cond c (choose_run limit f n s) (Ok s) ≡ Ok u →
          Took (suc n) u
      by true e h = took_one limit n s u (basic_if (basis_at basis n) e) t h
      by false e h =
          let z : s ≡ u = cc in
          subst (Took (suc n)) z (record {
            all = t.all;
            sound = t.sound;
            marked = λ p k l x. let w = t.marked p k l x in (omega (arith, w.0), w.1);
            placed =
                λ k l b. t.placed k
                (by_eq k n (λ d. absurd (not_basic_if (basis_at basis n) e (sym (ap (basis_at basis) d) ∙ b)))
                (λ d. omega (arith, l, d))) b;
            units = t.units;
            count =
                let z : basics_below basis n ≡ basics_below basis n + 0 = omega arith in
                t.count ∙ z ∙ sym (ap (λ c. basics_below basis n + cond c 1 0) e);
          })

  pub took_all : (limit : Option ℕ) (n : ℕ) (s : Chosen) → choose_all limit f basis n ≡ Ok s → Took n s
  unfolding choose_all
  took_all limit n s h = steps_ok Took n _ (none_chosen f) s h took_none (λ i x y _ t k. took_step limit i x y t k)

  -- ---- a column that finds no place
  mark : Option ℕ → ℕ → ℚ
  mark None k = 0ℚ
  mark (Some c) k = delta c k

  module _ (n : ℕ) (s : Chosen) (t : Took n s) (inside : n < f.cols + m)
      (v : List ℚ) (is : (i : ℕ) → i < m → read v i ≡ forward s.pairs (column n) i)
      (closed : (p : ℕ) → p < m → chosen_column s.columns p ≡ None → read v p ≡ 0ℚ) where
    weights : ℕ → ℚ
    weights k = sum_below m (λ p. read v p *ℚ mark (chosen_column s.columns p) k)

    -- the column at place p, and nothing where there is none
    at_place : Matrix
    at_place r p = sum_below (f.cols + m) (λ k. mark (chosen_column s.columns p) k *ℚ column k r)

    at_place_is : (p : ℕ) → p < m → (o : Option ℕ) → chosen_column s.columns p ≡ o → (i : ℕ) → i < m →
        forward s.pairs (λ r. at_place r p) i *ℚ read v p ≡ delta i p *ℚ read v p
    unfolding at_place mark
    at_place_is p l None e i q =
        ap (λ a. forward s.pairs (λ r. at_place r p) i *ℚ a) (closed p l e) ∙ *ℚ_zero _
        ∙ sym (ap (λ a. delta i p *ℚ a) (closed p l e) ∙ *ℚ_zero _)
    at_place_is p l (Some k) e i q =
        ap (λ a. a *ℚ read v p)
        (forward_same m s.pairs (λ r. at_place r p) (column k) t.sound
        (λ r _. ap (λ o. sum_below (f.cols + m) (λ k. mark o k *ℚ column k r)) e
        ∙ sum_below-delta (f.cols + m) k (λ k. column k r) (omega (arith, (t.marked p k l e).0, inside))) i q
        ∙ t.units p k i l q e ∙ delta_sym p i)

    by_places : (r : ℕ) → r < m → column n r ≡ sum_below m (λ p. at_place r p *ℚ read v p)
    by_places =
        forward_apart m s.pairs (column n) (λ r. sum_below m (λ p. at_place r p *ℚ read v p)) t.sound
        (λ i l. sym (is i l)
        ∙ sym (forward_combines m m s.pairs at_place (read v)
        (λ r. sum_below m (λ p. at_place r p *ℚ read v p)) t.sound (λ r _. refl) i l
        ∙ sum_below_same m _ _ (λ p q. at_place_is p q (chosen_column s.columns p) refl i l)
        ∙ sum_below-delta m i (read v) l))

    combined : (r : ℕ) → r < m → column n r ≡ sum_below (f.cols + m) (λ k. weights k *ℚ column k r)
    unfolding weights at_place
    combined r l =
        by_places r l
        ∙ sum_below_same m _ _ (λ p _. *ℚ_comm (at_place r p) (read v p))
        ∙ exchange m (f.cols + m) (read v) (λ k. column k r) (λ p k. mark (chosen_column s.columns p) k)
        ∙ sum_below_same (f.cols + m) _ _ (λ k _. *ℚ_comm (column k r) (weights k))

    no_weight : (k : ℕ) → ((p : ℕ) → p < m → chosen_column s.columns p ≢ Some k) → weights k ≡ 0ℚ
    unfolding weights mark
    no_weight k h = sum_below_none m _ (λ p l. by p l (chosen_column s.columns p) refl)
      where
        by : (p : ℕ) → p < m → (o : Option ℕ) → chosen_column s.columns p ≡ o → read v p *ℚ mark o k ≡ 0ℚ
        by p l None e = *ℚ_zero _
        by p l (Some c) e = ap (λ a. read v p *ℚ a) (delta_other c k (λ d. h p l (e ∙ ap Some d))) ∙ *ℚ_zero _

    pub dependent : basis_at basis n ≡ Basic → AreDependent f basis
    dependent b = record {
      column = n;
      in_range = inside;
      basic = b;
      weights = weights;
      others = λ k w. by_lt k n
          (λ l. by_basic (basis_at basis k) (λ e. (l, e))
          (λ e. absurd (w (no_weight k (λ p q x. e ((t.marked p k q x).1))))))
          (λ l.
          absurd (w (no_weight k (λ p q x. let y = (t.marked p k q x).0 in let z : ⊥ = omega (arith, l, y) in z))));
      combines = combined;
    }
