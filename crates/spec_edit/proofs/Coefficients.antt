-- The coefficient in a row, after a change of a column's entries.
--
-- `none_at`: where no entry is of row k, the coefficient in row k is 0.
-- `entry_of-with_entry`: setting the entry of row i to v makes the coefficient in row i v, and leaves those in all
--   other rows.
-- `entry_of-without_entry`: after row i is removed, row k has the coefficient of the row that it was before: of row k
--   before row i, and else of row k + 1.
use Rattle.std.proofs.Common.{◌≡◌, ◌≢◌, ℕ, ◌+◌, ◌-◌, ◌<◌, ◌≤◌, Bool, true, false, not, cond, eqb, ltb, List, []}
use Rattle.std.proofs.Common.{◌∷◌, ◌++◌, map, All, refl, sym, ap, ◌∙◌, subst, arith, ⊎_elim, eq-eqb, ne_eqb}
use borrow.Author.Tests.{ltb-true, ltb-false, lt-ltb, eqb-true, eqb-false}
use Rattle.std.specs.List.{filter}
use Rattle.std.proofs.lemmas.Bool.{cases_order}
use Rattle.std.proofs.lemmas.List.Elements.{All-head, All-tail, All-append, All-weaker}
use Rattle.spec_exact.specs.Fraction.{ℚ, 0ℚ, eq_ℚ}
use Rattle.spec_exact.proofs.Same.{eq_if}
use Rattle.spec_model.specs.Model.{entry_of}
use Rattle.spec_edit.specs.Changes.{entry_if, with_entry, renumbered, without_entry}
use Rattle.spec_edit.specs.Meaning.{skipping}
use Rattle.spec_edit.proofs.EntryLemmas.{filtered_below, filtered_above, entry_if-row}

-- ---- where entries stand

pub none_at : (k : ℕ) (es : List (ℕ × ℚ)) → All (λ e. e.0 ≢ k) es → entry_of es k ≡ 0ℚ
none_at k [] h = refl
none_at k (e ∷ es) h =
    rw (ne_eqb e.0 k (All-head (λ e. e.0 ≢ k) e es h)) (none_at k es (All-tail (λ e. e.0 ≢ k) e es h))

-- entries of other rows before a list of entries leave the coefficient in row k
behind_others : (k : ℕ) (xs ys : List (ℕ × ℚ)) → All (λ e. e.0 ≢ k) xs → entry_of (xs ++ ys) k ≡ entry_of ys k
behind_others k [] ys h = refl
behind_others k (e ∷ xs) ys h =
    rw (ne_eqb e.0 k (All-head (λ e. e.0 ≢ k) e xs h)) (behind_others k xs ys (All-tail (λ e. e.0 ≢ k) e xs h))

-- entries of other rows behind a list of entries leave the coefficient in row k
before_others : (k : ℕ) (xs ys : List (ℕ × ℚ)) → All (λ e. e.0 ≢ k) ys → entry_of (xs ++ ys) k ≡ entry_of xs k
before_others k [] ys h = none_at k ys h
before_others k (e ∷ xs) ys h = ap (cond (eqb e.0 k) e.1) (before_others k xs ys h)

-- a filter by rows keeps what stands at a row that passes
passes_at : (p : ℕ → Bool) (k : ℕ) → p k ≡ true → (es : List (ℕ × ℚ)) →
    entry_of (filter (λ e. p e.0) es) k ≡ entry_of es k
passes_at p k h [] = refl
passes_at p k h (e ∷ es) = by (p e.0) refl (passes_at p k h es)
  where
    other : p e.0 ≡ false → e.0 ≢ k
    other f q = let g : p e.0 ≡ true = ap p q ∙ h in cc

    by : (t : Bool) → p e.0 ≡ t → entry_of (filter (λ e. p e.0) es) k ≡ entry_of es k →
        entry_of (cond t (e ∷ filter (λ e. p e.0) es) (filter (λ e. p e.0) es)) k ≡ cond (eqb e.0 k) e.1 (entry_of es k)
    by true f rest = ap (cond (eqb e.0 k) e.1) rest
    by false f rest = rw (ne_eqb e.0 k (other f)) rest

-- ---- an entry that is put

-- the entry v in row i, or none where v is 0, gives v in row i
entry_if-own : (i : ℕ) (v : ℚ) → entry_of (entry_if i v) i ≡ v
entry_if-own i v = by (eq_ℚ v 0ℚ) refl
  where
    by : (t : Bool) → eq_ℚ v 0ℚ ≡ t → entry_of (cond t [] ((i, v) ∷ [])) i ≡ v
    by true e = sym (eq_if v 0ℚ e)
    by false e = rw (eq-eqb i i refl) refl

pub entry_of-with_entry : (i : ℕ) (v : ℚ) (es : List (ℕ × ℚ)) (k : ℕ) →
    entry_of (with_entry i v es) k ≡ cond (eqb k i) v (entry_of es k)
unfolding with_entry
entry_of-with_entry i v es k = ⊎_elim at (⊎_elim lower higher) (cases_order k i)
  where
    below : List (ℕ × ℚ)
    below = filter (λ e. ltb e.0 i) es

    above : List (ℕ × ℚ)
    above = filter (λ e. ltb i e.0) es

    is-put : ℚ → Type 0
    is-put a = entry_of ((below ++ entry_if i v) ++ above) k ≡ a

    not_here : k ≢ i → All (λ e. e.0 ≢ k) (entry_if i v)
    not_here n = All-weaker (λ e. e.0 ≡ i) (λ e. e.0 ≢ k) (λ e p q. n (sym q ∙ p)) (entry_if i v) (entry_if-row i v)

    not_below : i ≤ k → All (λ e. e.0 ≢ k) below
    not_below l = All-weaker (λ e. e.0 < i) (λ e. e.0 ≢ k) (λ e m q. absurd (omega arith)) below (filtered_below i es)

    not_above : k ≤ i → All (λ e. e.0 ≢ k) above
    not_above l = All-weaker (λ e. i < e.0) (λ e. e.0 ≢ k) (λ e m q. absurd (omega arith)) above (filtered_above i es)

    at : k ≡ i → is-put (cond (eqb k i) v (entry_of es k))
    at q =
        let e : entry_of (entry_if i v) k ≡ v = ap (entry_of (entry_if i v)) q ∙ entry_if-own i v in
        before_others k (below ++ entry_if i v) above (not_above (omega arith))
        ∙ behind_others k below (entry_if i v) (not_below (omega arith))
        ∙ e
        ∙ rw (eq-eqb k i q) refl

    lower : k < i → is-put (cond (eqb k i) v (entry_of es k))
    lower l =
        let n : k ≢ i = omega arith in
        before_others k (below ++ entry_if i v) above (not_above (omega arith))
        ∙ before_others k below (entry_if i v) (not_here n)
        ∙ passes_at (λ a. ltb a i) k (lt-ltb k i l) es
        ∙ rw (ne_eqb k i n) refl

    higher : i < k → is-put (cond (eqb k i) v (entry_of es k))
    higher l =
        let n : k ≢ i = omega arith in
        behind_others k (below ++ entry_if i v) above
        (All-append (λ e. e.0 ≢ k) below (entry_if i v) (not_below (omega arith)) (not_here n))
        ∙ passes_at (λ a. ltb i a) k (lt-ltb i k l) es
        ∙ rw (ne_eqb k i n) refl

-- ---- a row that is gone

-- the tests of two equations agree where each equation follows from the other
same_tests : (a b c d : ℕ) → (a ≡ b → c ≡ d) → (c ≡ d → a ≡ b) → eqb a b ≡ eqb c d
same_tests a b c d f g = by (eqb a b) refl
  where
    by : (t : Bool) → eqb a b ≡ t → t ≡ eqb c d
    by true e = sym (eq-eqb c d (f (eqb-true a b e)))
    by false e = sym (ne_eqb c d (λ q. eqb-false a b e (g q)))

-- what has a number once number i is removed had an old number other than i
skipping-other : (i k : ℕ) → i ≢ skipping i k
skipping-other i k = by (ltb k i) refl
  where
    by : (t : Bool) → ltb k i ≡ t → i ≢ cond t k (k + 1)
    by true e q = let l : k < i = ltb-true k i e in absurd (omega arith)
    by false e q = let l : i ≤ k = ltb-false k i e in absurd (omega arith)

-- once number i is removed, another number a becomes k just where a is the old number of k
renumbered-skipping : (i a k : ℕ) → a ≢ i → eqb (renumbered i a) k ≡ eqb a (skipping i k)
renumbered-skipping i a k n = by (ltb i a) (ltb k i) refl refl
  where
    by : (s t : Bool) → ltb i a ≡ s → ltb k i ≡ t → eqb (cond s (a - 1) a) k ≡ eqb a (cond t k (k + 1))
    by true true e f =
        let l : i < a = ltb-true i a e in let m : k < i = ltb-true k i f in
        same_tests (a - 1) k a k (λ q. omega arith) (λ q. omega arith)
    by true false e f =
        let l : i < a = ltb-true i a e in let m : i ≤ k = ltb-false k i f in
        same_tests (a - 1) k a (k + 1) (λ q. omega arith) (λ q. omega arith)
    by false true e f = refl
    by false false e f =
        let l : a ≤ i = ltb-false i a e in let m : i ≤ k = ltb-false k i f in
        same_tests a k a (k + 1) (λ q. absurd (omega arith)) (λ q. absurd (omega arith))

pub entry_of-without_entry : (i : ℕ) (es : List (ℕ × ℚ)) (k : ℕ) →
    entry_of (without_entry i es) k ≡ entry_of es (skipping i k)
unfolding without_entry
entry_of-without_entry i [] k = refl
entry_of-without_entry i (e ∷ es) k = by (eqb e.0 i) refl (entry_of-without_entry i es k)
  where
    others : List (ℕ × ℚ)
    others = filter (λ e. not (eqb e.0 i)) es

    moved : ℕ × ℚ → ℕ × ℚ
    moved e = (renumbered i e.0, e.1)

    by : (t : Bool) → eqb e.0 i ≡ t → entry_of (map moved others) k ≡ entry_of es (skipping i k) →
        entry_of (map moved (cond (not t) (e ∷ others) others)) k
        ≡ cond (eqb e.0 (skipping i k)) e.1 (entry_of es (skipping i k))
    by true f rest =
        rw (ne_eqb e.0 (skipping i k) (subst (λ a. a ≢ skipping i k) (sym (eqb-true e.0 i f)) (skipping-other i k)))
        rest
    by false f rest = rw (renumbered-skipping i e.0 k (eqb-false e.0 i f), rest) refl
