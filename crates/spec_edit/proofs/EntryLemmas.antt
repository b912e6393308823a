-- The entries of a column, after a change: they are in the order of their rows, and their numbers have 127 bits.
--
-- `filtered_below`: the entries that pass the test of being before row i are before it.
-- `filtered_above`: the entries that pass the test of being after row i are after it.
-- `entry_if-row`: the entry for row i, where there is one, is of row i.
-- `with_entry-kept`: setting the entry of one of the first n rows keeps the entries of a column in order.
-- `with_entry-narrow`: setting an entry to a number of 127 bits keeps entries of 127 bits within 127 bits.
-- `without_entry-kept`: entries of the first n rows, in order, are once one of these rows is removed entries of the
--   first n - 1, in order.
-- `without_entry-narrow`: entries of 127 bits stay so when a row is removed.
use Rattle.std.proofs.Common.{◌≡◌, ◌≢◌, ℕ, suc, ◌-◌, ◌<◌, ◌≤◌, Bool, true, false, not, cond}
use Rattle.std.proofs.Common.{eqb, ltb, List, [], ◌∷◌, ◌++◌, All, refl, sym, subst, arith}
use borrow.Author.Tests.{ltb-true, ltb-false, eqb-false}
use Rattle.std.specs.List.{filter}
use Rattle.std.proofs.lemmas.Bool.{not-true}
use Rattle.std.proofs.lemmas.List.Elements.{All-nil, All-cons, All-append, All-weaker}
use Rattle.std.proofs.lemmas.List.Elements.{All-map, All-filter, filter_passes}
use Rattle.std.proofs.lemmas.List.Kept.{AllPairs-filter}
use Rattle.spec_exact.specs.Fraction.{ℚ, 0ℚ, eq_ℚ}
use Rattle.spec_exact.specs.Narrow.{IsNarrow}
use Rattle.spec_exact.proofs.Same.{eq_test}
use Rattle.spec_model.specs.Kept.{AreEntries}
use Rattle.spec_model.proofs.Pairs.{AllPairs-weaker, AllPairs-map, AllPairs-append}
use Rattle.spec_edit.specs.Changes.{entry_if, with_entry, renumbered, without_entry}

-- entries in order below row i, then entries in order from it on, are in order
joined : (n i : ℕ) (xs ys : List (ℕ × ℚ)) → AreEntries n xs → AreEntries n ys → All (λ e. e.0 < i) xs →
    All (λ e. i ≤ e.0) ys → AreEntries n (xs ++ ys)
joined n i xs ys h k below above =
    record {
      inside = All-append (λ e. e.0 < n) xs ys h.inside k.inside;
      ascending =
          AllPairs-append (λ d e. d.0 < e.0) xs ys h.ascending k.ascending
          (All-weaker (λ d. d.0 < i) (λ d. All (λ e. d.0 < e.0) ys)
          (λ d l. All-weaker (λ e. i ≤ e.0) (λ e. d.0 < e.0) (λ e m. omega arith) ys above) xs below);
      not_zero = All-append (λ e. e.1 ≢ 0ℚ) xs ys h.not_zero k.not_zero;
    }

-- entries in order stay in order where a test takes some of them out
filtered : (n : ℕ) (p : ℕ × ℚ → Bool) (es : List (ℕ × ℚ)) → AreEntries n es → AreEntries n (filter p es)
filtered n p es h =
    record {
      inside = All-filter p (λ e. e.0 < n) es h.inside;
      ascending = AllPairs-filter (λ d e. d.0 < e.0) p es h.ascending;
      not_zero = All-filter p (λ e. e.1 ≢ 0ℚ) es h.not_zero;
    }

-- ---- an entry that is put

-- two fractions that the test finds different are different
differs : (v w : ℚ) → eq_ℚ v w ≡ false → v ≢ w
differs v w e g = let h : eq_ℚ v w ≡ true = eq_test v w g in cc

pub filtered_below : (i : ℕ) (es : List (ℕ × ℚ)) → All (λ e. e.0 < i) (filter (λ e. ltb e.0 i) es)
filtered_below i es =
    All-weaker (λ e. ltb e.0 i ≡ true) (λ e. e.0 < i) (λ e t. ltb-true e.0 i t)
    (filter (λ e. ltb e.0 i) es) (filter_passes (λ e. ltb e.0 i) es)

pub filtered_above : (i : ℕ) (es : List (ℕ × ℚ)) → All (λ e. i < e.0) (filter (λ e. ltb i e.0) es)
filtered_above i es =
    All-weaker (λ e. ltb i e.0 ≡ true) (λ e. i < e.0) (λ e t. ltb-true i e.0 t)
    (filter (λ e. ltb i e.0) es) (filter_passes (λ e. ltb i e.0) es)

pub entry_if-row : (i : ℕ) (v : ℚ) → All (λ e. e.0 ≡ i) (entry_if i v)
entry_if-row i v = by (eq_ℚ v 0ℚ)
  where
    by : (t : Bool) → All (λ (e : ℕ × ℚ). e.0 ≡ i) (cond t [] ((i, v) ∷ []))
    by true = All-nil (λ e. e.0 ≡ i)
    by false = All-cons (λ e. e.0 ≡ i) (i, v) [] refl (All-nil (λ e. e.0 ≡ i))

-- the entry v in row i, or none where v is 0, is in order where i exists
entry_if-kept : (n i : ℕ) (v : ℚ) → i < n → AreEntries n (entry_if i v)
entry_if-kept n i v l = by (eq_ℚ v 0ℚ) refl
  where
    by : (t : Bool) → eq_ℚ v 0ℚ ≡ t → AreEntries n (cond t [] ((i, v) ∷ []))
    by true e =
        record {
          inside = All-nil (λ e. e.0 < n);
          ascending = λ i j d l k. absurd (omega arith);
          not_zero = All-nil (λ e. e.1 ≢ 0ℚ);
        }
    by false e =
        record {
          inside = All-cons (λ e. e.0 < n) (i, v) [] l (All-nil (λ e. e.0 < n));
          ascending = λ i j d l k. absurd (omega arith);
          not_zero = All-cons (λ e. e.1 ≢ 0ℚ) (i, v) [] (differs v 0ℚ e) (All-nil (λ e. e.1 ≢ 0ℚ));
        }

pub with_entry-kept : (n i : ℕ) (v : ℚ) (es : List (ℕ × ℚ)) → AreEntries n es → i < n → AreEntries n (with_entry i v es)
unfolding with_entry
with_entry-kept n i v es h l =
    joined n (suc i) (below ++ entry_if i v) above
    (joined n i below (entry_if i v) (filtered n (λ e. ltb e.0 i) es h)
    (entry_if-kept n i v l) (filtered_below i es) (here (λ k. i ≤ k) (omega arith)))
    (filtered n (λ e. ltb i e.0) es h)
    (All-append (λ e. e.0 < suc i) below (entry_if i v)
    (All-weaker (λ e. e.0 < i) (λ e. e.0 < suc i) (λ e m. omega arith) below (filtered_below i es))
    (here (λ k. k < suc i) (omega arith)))
    (All-weaker (λ e. i < e.0) (λ e. suc i ≤ e.0) (λ e m. m) above (filtered_above i es))
  where
    below : List (ℕ × ℚ)
    below = filter (λ e. ltb e.0 i) es

    above : List (ℕ × ℚ)
    above = filter (λ e. ltb i e.0) es

    here : (P : ℕ → Type 0) → P i → All (λ e. P e.0) (entry_if i v)
    here P p = All-weaker (λ e. e.0 ≡ i) (λ e. P e.0) (λ e q. subst P (sym q) p) (entry_if i v) (entry_if-row i v)

-- the entry v in row i, or none where v is 0, has 127 bits where v has them
entry_if-narrow : (i : ℕ) (v : ℚ) → IsNarrow v → All (λ e. IsNarrow e.1) (entry_if i v)
entry_if-narrow i v h = by (eq_ℚ v 0ℚ)
  where
    by : (t : Bool) → All (λ (e : ℕ × ℚ). IsNarrow e.1) (cond t [] ((i, v) ∷ []))
    by true = All-nil (λ e. IsNarrow e.1)
    by false = All-cons (λ e. IsNarrow e.1) (i, v) [] h (All-nil (λ e. IsNarrow e.1))

pub with_entry-narrow : (i : ℕ) (v : ℚ) (es : List (ℕ × ℚ)) → All (λ e. IsNarrow e.1) es → IsNarrow v →
    All (λ e. IsNarrow e.1) (with_entry i v es)
unfolding with_entry
with_entry-narrow i v es h k =
    All-append (λ e. IsNarrow e.1) (filter (λ e. ltb e.0 i) es ++ entry_if i v) (filter (λ e. ltb i e.0) es)
    (All-append (λ e. IsNarrow e.1) (filter (λ e. ltb e.0 i) es) (entry_if i v)
    (All-filter (λ e. ltb e.0 i) (λ e. IsNarrow e.1) es h) (entry_if-narrow i v k))
    (All-filter (λ e. ltb i e.0) (λ e. IsNarrow e.1) es h)

-- ---- a row that is gone

-- once row i of n rows is removed, another row's number is below n - 1
renumbered-< : (n i k : ℕ) → k < n → k ≢ i → i < n → renumbered i k < n - 1
renumbered-< n i k l ne m = by (ltb i k) refl
  where
    by : (t : Bool) → ltb i k ≡ t → cond t (k - 1) k < n - 1
    by true e = let f : i < k = ltb-true i k e in omega arith
    by false e = let f : k ≤ i = ltb-false i k e in omega arith

-- once row i is removed, two other rows keep their order
renumbered-mono : (i j k : ℕ) → j ≢ i → k ≢ i → j < k → renumbered i j < renumbered i k
renumbered-mono i j k p q l = by (ltb i j) (ltb i k) refl refl
  where
    by : (s t : Bool) → ltb i j ≡ s → ltb i k ≡ t → cond s (j - 1) j < cond t (k - 1) k
    by true true e f = let g : i < j = ltb-true i j e in omega arith
    by true false e f = let g : i < j = ltb-true i j e in let h : k ≤ i = ltb-false i k f in omega arith
    by false true e f = let g : j ≤ i = ltb-false i j e in let h : i < k = ltb-true i k f in omega arith
    by false false e f = l

pub without_entry-kept : (n i : ℕ) (es : List (ℕ × ℚ)) → AreEntries n es → i < n →
    AreEntries (n - 1) (without_entry i es)
unfolding without_entry
without_entry-kept n i es h l =
    record {
      inside =
          All-map (λ (e : ℕ × ℚ). e.0 < n - 1) moved others
          (λ k d m. renumbered-< n i _ (kept.inside k d m) (apart k d m) l);
      ascending =
          AllPairs-map (λ (d e : ℕ × ℚ). d.0 < e.0) moved others
          (AllPairs-weaker (λ e. e.0 ≢ i) (λ d e. d.0 < e.0) (λ d e. renumbered i d.0 < renumbered i e.0)
          (λ d e p q m. renumbered-mono i d.0 e.0 p q m) others apart kept.ascending);
      not_zero = All-map (λ (e : ℕ × ℚ). e.1 ≢ 0ℚ) moved others kept.not_zero;
    }
  where
    moved : ℕ × ℚ → ℕ × ℚ
    moved e = (renumbered i e.0, e.1)

    others : List (ℕ × ℚ)
    others = filter (λ e. not (eqb e.0 i)) es

    kept : AreEntries n others
    kept = filtered n (λ e. not (eqb e.0 i)) es h

    apart : All (λ e. e.0 ≢ i) others
    apart =
        All-weaker (λ e. not (eqb e.0 i) ≡ true) (λ e. e.0 ≢ i) (λ e t. eqb-false e.0 i (not-true (eqb e.0 i) t)) others
        (filter_passes (λ e. not (eqb e.0 i)) es)

pub without_entry-narrow : (i : ℕ) (es : List (ℕ × ℚ)) → All (λ e. IsNarrow e.1) es →
    All (λ e. IsNarrow e.1) (without_entry i es)
unfolding without_entry
without_entry-narrow i es h =
    All-map (λ (e : ℕ × ℚ). IsNarrow e.1) (λ e. (renumbered i e.0, e.1)) (filter (λ e. not (eqb e.0 i)) es)
    (All-filter (λ e. not (eqb e.0 i)) (λ e. IsNarrow e.1) es h)
