-- A column's entries before, at and behind a row, and what setting the row's entry or taking the row out makes of them.
use Rattle.std.proofs.Common.{◌≡◌, ◌≢◌, ℕ, ◌+◌, ◌-◌, ◌<◌, Bool, true, false, not, cond, eqb, ltb, List}
use Rattle.std.proofs.Common.{[], ◌∷◌, ◌++◌, map, length, get_or, set, take, drop, All, refl, sym, ap, ap₂}
use Rattle.std.proofs.Common.{◌∙◌, arith, eq-eqb, ne_eqb, add-one, drop-cons, append_assoc, append-nil}
use borrow.Author.Tests.{lt-ltb, le-ltb}
use Rattle.std.specs.List.{filter, insert, remove}
use Rattle.std.proofs.lemmas.List.{take-append-drop, take-set, drop-set, map-append}
use Rattle.std.proofs.lemmas.List.Elements.{All-nil, All-cons, All-head, All-tail, All-weaker, filter-append}
use Rattle.std.proofs.lemmas.List.Folds.{map_fixed}
use Rattle.spec_exact.specs.Fraction.{ℚ, 0ℚ, eq_ℚ}
use Rattle.spec_exact.proofs.Same.{eq_test, eq_if}
use Rattle.spec_edit.specs.Changes.{entry_if, with_entry, renumbered, without_entry}
use Rattle.lp_model.specs.Place.{IsSplit, StandsAt, BelongsAt}

-- entries of a column: pairs of a row's number and a coefficient
abbrev pub Entries : Type 0
Entries = List (ℕ × ℚ)

-- an entry with its row's number less one
abbrev pub lower : ℕ × ℚ → ℕ × ℚ
lower e = (e.0 - 1, e.1)

-- ---- filters that keep all, or nothing

-- a filter that all items pass leaves the list as it is
filter-all : {X : Type 0} (p : X → Bool) (xs : List X) → All (λ x. p x ≡ true) xs → filter p xs ≡ xs
filter-all p [] h = refl
filter-all p (x ∷ xs) h =
    rw (All-head (λ x. p x ≡ true) x xs h) (ap (λ ys. x ∷ ys) (filter-all p xs (All-tail (λ x. p x ≡ true) x xs h)))

-- a filter that no item passes leaves an empty list
filter-none : {X : Type 0} (p : X → Bool) (xs : List X) → All (λ x. p x ≡ false) xs → filter p xs ≡ []
filter-none p [] h = refl
filter-none p (x ∷ xs) h =
    rw (All-head (λ x. p x ≡ false) x xs h) (filter-none p xs (All-tail (λ x. p x ≡ false) x xs h))

-- two functions that give the same for each item of a list map the list to the same
map-same : {X Y : Type 0} (f g : X → Y) (xs : List X) → All (λ x. f x ≡ g x) xs → map f xs ≡ map g xs
map-same f g [] h = refl
map-same f g (x ∷ xs) h =
    ap₂ ◌∷◌ (All-head (λ x. f x ≡ g x) x xs h) (map-same f g xs (All-tail (λ x. f x ≡ g x) x xs h))

-- a filter leaves of three lists together what it leaves of each, in turn
three : {X : Type 0} (p : X → Bool) (xs ys zs us vs ws : List X) → filter p xs ≡ us → filter p ys ≡ vs →
    filter p zs ≡ ws → filter p (xs ++ (ys ++ zs)) ≡ us ++ (vs ++ ws)
three p xs ys zs us vs ws e f g = filter-append p xs (ys ++ zs) ∙ ap₂ ◌++◌ e (filter-append p ys zs ∙ ap₂ ◌++◌ f g)

module _ (i : ℕ) (front own back : Entries) (own_row : All (λ e. e.0 ≡ i) own) (split : IsSplit i front back) where
  -- of entries before, at and behind row i, those of earlier rows are the ones before
  below : filter (λ e. ltb e.0 i) (front ++ (own ++ back)) ≡ front
  below =
      three (λ e. ltb e.0 i) front own back front [] []
      (filter-all (λ e. ltb e.0 i) front
      (All-weaker (λ e. e.0 < i) (λ e. ltb e.0 i ≡ true) (λ e l. lt-ltb e.0 i l) front split.before))
      (filter-none (λ e. ltb e.0 i) own
      (All-weaker (λ e. e.0 ≡ i) (λ e. ltb e.0 i ≡ false) (λ e q. le-ltb e.0 i (omega arith)) own own_row))
      (filter-none (λ e. ltb e.0 i) back
      (All-weaker (λ e. i < e.0) (λ e. ltb e.0 i ≡ false) (λ e l. le-ltb e.0 i (omega arith)) back split.behind))
      ∙ append-nil front

  -- of entries before, at and behind row i, those of later rows are the ones behind
  above : filter (λ e. ltb i e.0) (front ++ (own ++ back)) ≡ back
  above =
      three (λ e. ltb i e.0) front own back [] [] back
      (filter-none (λ e. ltb i e.0) front
      (All-weaker (λ e. e.0 < i) (λ e. ltb i e.0 ≡ false) (λ e l. le-ltb i e.0 (omega arith)) front split.before))
      (filter-none (λ e. ltb i e.0) own
      (All-weaker (λ e. e.0 ≡ i) (λ e. ltb i e.0 ≡ false) (λ e q. le-ltb i e.0 (omega arith)) own own_row))
      (filter-all (λ e. ltb i e.0) back
      (All-weaker (λ e. i < e.0) (λ e. ltb i e.0 ≡ true) (λ e l. lt-ltb i e.0 l) back split.behind))

  -- of entries before, at and behind row i, those of other rows are the ones before and behind
  others : filter (λ e. not (eqb e.0 i)) (front ++ (own ++ back)) ≡ front ++ back
  others =
      three (λ e. not (eqb e.0 i)) front own back front [] back
      (filter-all (λ e. not (eqb e.0 i)) front (All-weaker (λ e. e.0 < i) (λ e. not (eqb e.0 i) ≡ true)
      (λ e l. ap not (ne_eqb e.0 i (λ q. omega arith))) front split.before))
      (filter-none (λ e. not (eqb e.0 i)) own
      (All-weaker (λ e. e.0 ≡ i) (λ e. not (eqb e.0 i) ≡ false) (λ e q. ap not (eq-eqb e.0 i q)) own own_row))
      (filter-all (λ e. not (eqb e.0 i)) back (All-weaker (λ e. i < e.0) (λ e. not (eqb e.0 i) ≡ true)
      (λ e l. ap not (ne_eqb e.0 i (λ q. omega arith))) back split.behind))

  -- setting the entry of row i to v leaves the entries before and behind it, with one of v between if v is not 0
  with_entry-parts : (v : ℚ) → with_entry i v (front ++ (own ++ back)) ≡ front ++ (entry_if i v ++ back)
  unfolding with_entry
  with_entry-parts v = ap₂ (λ xs ys. (xs ++ entry_if i v) ++ ys) below above ∙ append_assoc front (entry_if i v) back

  -- taking row i out leaves the entries before it, and those behind it with their rows less one
  without_entry-parts : without_entry i (front ++ (own ++ back)) ≡ front ++ map lower back
  unfolding without_entry
  without_entry-parts =
      ap (map (λ e. (renumbered i e.0, e.1))) others ∙ map-append (λ e. (renumbered i e.0, e.1)) front back
      ∙ ap₂ ◌++◌
      (map_fixed (λ e. (renumbered i e.0, e.1)) front (All-weaker (λ e. e.0 < i)
      (λ e. (renumbered i e.0, e.1) ≡ e) (λ e l. rw (le-ltb i e.0 (omega arith)) refl) front split.before))
      (map-same (λ e. (renumbered i e.0, e.1)) lower back (All-weaker (λ e. i < e.0)
      (λ e. (renumbered i e.0, e.1) ≡ lower e) (λ e l. rw (lt-ltb i e.0 l) refl) back split.behind))

-- ---- the entry that is put

-- a column gets no entry for a coefficient that is 0
put-zero : (i : ℕ) (v : ℚ) → v ≡ 0ℚ → entry_if i v ≡ []
put-zero i v e = rw (eq_test v 0ℚ e) refl

-- a column gets one entry for a coefficient other than 0
put-other : (i : ℕ) (v : ℚ) → v ≢ 0ℚ → entry_if i v ≡ (i, v) ∷ []
put-other i v n = by (eq_ℚ v 0ℚ) refl
  where
    by : (t : Bool) → eq_ℚ v 0ℚ ≡ t → cond {A = Entries} t [] ((i, v) ∷ []) ≡ (i, v) ∷ []
    by true e = absurd (n (eq_if v 0ℚ e))
    by false e = refl

-- ---- at a place

-- the entries before place k, the one there and those behind it are together all entries
pub parts_around : (es : Entries) (k : ℕ) (d : ℕ × ℚ) → k < length es →
    take k es ++ ((get_or es k d ∷ []) ++ drop (k + 1) es) ≡ es
parts_around es k d l = rw (add-one, ← drop-cons es k d) (take-append-drop k es)

-- a list whose item k is set is the items before it, the new one and those behind
set-parts : {X : Type 0} (xs : List X) (k : ℕ) (x : X) → k < length xs → set xs k x ≡ take k xs ++ (x ∷ drop (k + 1) xs)
set-parts xs k x l = sym (take-append-drop k (set xs k x)) ∙ ap₂ ◌++◌ (take-set xs k x) (drop-set xs k x l)

module _ (i k : ℕ) (es : Entries) (stands : StandsAt i k es) where
  -- the entries before place k, the one there and those behind it are together all entries
  around : take k es ++ ((get_or es k (i, 0ℚ) ∷ []) ++ drop (k + 1) es) ≡ es
  around = parts_around es k (i, 0ℚ) stands.inside

  -- the entry at place k, where that of row i stands, is of row i
  own : All (λ e. e.0 ≡ i) (get_or es k (i, 0ℚ) ∷ [])
  own = All-cons (λ e. e.0 ≡ i) (get_or es k (i, 0ℚ)) [] (stands.here (i, 0ℚ)) (All-nil (λ e. e.0 ≡ i))

  -- where the entry of row i stands at k, setting it to v leaves the others, with one of v between if v is not 0
  put : (v : ℚ) → with_entry i v es ≡ take k es ++ (entry_if i v ++ drop (k + 1) es)
  put v =
      ap (with_entry i v) (sym around)
      ∙ with_entry-parts i (take k es) (get_or es k (i, 0ℚ) ∷ []) (drop (k + 1) es) own stands.split v

  -- removing the entry of row i is setting it to 0
  pub remove-put : (v : ℚ) → v ≡ 0ℚ → remove es k ≡ with_entry i v es
  remove-put v e = sym (put v ∙ ap (λ xs. take k es ++ (xs ++ drop (k + 1) es)) (put-zero i v e) ∙ rw add-one refl)

  -- setting the entry at the place of row i to v, which is not 0, is setting row i to v
  pub set-put : (v : ℚ) → v ≢ 0ℚ → set es k (i, v) ≡ with_entry i v es
  set-put v n =
      set-parts es k (i, v) stands.inside
      ∙ sym (put v ∙ ap (λ xs. take k es ++ (xs ++ drop (k + 1) es)) (put-other i v n))

  -- taking row i out removes its entry at k and lowers the rows behind it by one
  pub without-own : without_entry i es ≡ take k es ++ map lower (drop (k + 1) es)
  without-own =
      ap (without_entry i) (sym around)
      ∙ without_entry-parts i (take k es) (get_or es k (i, 0ℚ) ∷ []) (drop (k + 1) es) own stands.split

module _ (i k : ℕ) (es : Entries) (belongs : BelongsAt i k es) where
  -- where row i has no entry and belongs at k, setting it to v puts one of v there, if v is not 0
  put_between : (v : ℚ) → with_entry i v es ≡ take k es ++ (entry_if i v ++ drop k es)
  put_between v =
      ap (with_entry i v) (sym (take-append-drop k es))
      ∙ with_entry-parts i (take k es) [] (drop k es) (All-nil (λ e. e.0 ≡ i)) belongs.split v

  -- where row i has no entry, setting it to 0 leaves the entries
  pub same-put : (v : ℚ) → v ≡ 0ℚ → es ≡ with_entry i v es
  same-put v e =
      sym (put_between v ∙ ap (λ xs. take k es ++ (xs ++ drop k es)) (put-zero i v e) ∙ take-append-drop k es)

  -- where row i has no entry and belongs at k, inserting v there, which is not 0, is setting row i to v
  pub insert-put : (v : ℚ) → v ≢ 0ℚ → insert es k (i, v) ≡ with_entry i v es
  insert-put v n = sym (put_between v ∙ ap (λ xs. take k es ++ (xs ++ drop k es)) (put-other i v n))

  -- where row i has no entry, taking it out lowers the rows from its place on by one
  pub without-none : without_entry i es ≡ take k es ++ map lower (drop k es)
  without-none =
      ap (without_entry i) (sym (take-append-drop k es))
      ∙ without_entry-parts i (take k es) [] (drop k es) (All-nil (λ e. e.0 ≡ i)) belongs.split
