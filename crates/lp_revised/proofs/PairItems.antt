-- The items of a list that are not 0, gathered in order as the entries of a pair.
--
-- `skip_item`: where item n is 0, the entries of the first n items are those of the first n + 1.
-- `push_item`: where item n has at most 127 bits and is not 0, pushing it gives the entries of the first n + 1 items.
-- `pair_is`: the eta pair of the entries of a list is the eta pair of the list itself.
use Rattle.std.proofs.Common.{◌≡◌, ◌≢◌, ℕ, ◌+◌, ◌<◌, List, [], ◌∷◌, ◌++◌, length, get_or, slice_get}
use Rattle.std.proofs.Common.{All, Some, cond, nat_eq, refl, sym, ap, ◌∙◌, subst, arith, eq-eqb, ne_eqb}
use Rattle.std.proofs.lemmas.List.{ext_get_or}
use Rattle.std.proofs.lemmas.List.Elements.{All-push, All-get_or, All-weaker, All-head, All-tail}
use Rattle.std.proofs.lemmas.List.Quantifiers.{all_pairs_push}
use Rattle.std.proofs.lemmas.Option.{get_or_from_slice_get}
use Rattle.spec_exact.specs.Fraction.{ℚ, 0ℚ}
use Rattle.spec_exact.specs.Narrow.{IsNarrow}
use Rattle.spec_model.specs.Model.{entry_of}
use Rattle.spec_pivot.proofs.Pivot.{by_eq}
use Rattle.spec_exact.specs.Run.{made}
use Rattle.spec_exact.proofs.RunsInOrder.{length-made, get_or-made}
use Rattle.spec_edit.proofs.Coefficients.{none_at}
use Rattle.lp_revised.specs.Eta.{AreItems, pair_of}
use Rattle.lp_revised.proofs.Gaps.{Entries}

-- entries whose places are below n have places below n + 1
wider : (n : ℕ) (es : Entries) → All (λ e. e.0 < n) es → All (λ e. e.0 < n + 1) es
wider n es h = All-weaker (λ (e : ℕ × ℚ). e.0 < n) (λ e. e.0 < n + 1) (λ e l. omega (arith, l)) es h

-- entries whose places are below n have no entry at n
others : (n : ℕ) (es : Entries) → All (λ e. e.0 < n) es → All (λ e. e.0 ≢ n) es
others n es h = All-weaker (λ (e : ℕ × ℚ). e.0 < n) (λ e. e.0 ≢ n) (λ e l z. let y : ⊥ = omega (arith, l, z) in y) es h

-- pushing an entry at place n leaves what the entries have at each other place i
pushed_other : (es : Entries) (n i : ℕ) (v : ℚ) → n ≢ i → entry_of (es ++ (n, v) ∷ []) i ≡ entry_of es i
pushed_other [] n i v d = rw (ne_eqb n i d) refl
pushed_other (e ∷ es) n i v d = ap (cond (nat_eq e.0 i) e.1) (pushed_other es n i v d)

-- where no entry stands at place n, pushing v there makes the item at n be v
pushed_own : (es : Entries) (n : ℕ) (v : ℚ) → All (λ e. e.0 ≢ n) es → entry_of (es ++ (n, v) ∷ []) n ≡ v
pushed_own [] n v h = rw (eq-eqb n n refl) refl
pushed_own (e ∷ es) n v h =
    rw (ne_eqb e.0 n (All-head (λ (e : ℕ × ℚ). e.0 ≢ n) e es h))
    (pushed_own es n v (All-tail (λ (e : ℕ × ℚ). e.0 ≢ n) e es h))

pub skip_item : (n : ℕ) (column : List ℚ) (es : Entries) (x : ℚ) → AreItems n column es → slice_get column n ≡ Some x →
    x ≡ 0ℚ → AreItems (n + 1) column es
skip_item n column es x h e z = record {
  entries =
      record { inside = wider n es h.entries.inside; ascending = h.entries.ascending; not_zero = h.entries.not_zero };
  read = λ i l. by_eq i n
      (λ d. subst (λ i. entry_of es i ≡ get_or column i 0ℚ) (sym d)
      (none_at n es (others n es h.entries.inside) ∙ sym (get_or_from_slice_get column n x 0ℚ e ∙ z)))
      (λ d. h.read i (omega (arith, l, d)));
  narrow = h.narrow;
}

pub push_item : (n : ℕ) (column : List ℚ) (es now : Entries) (x : ℚ) → AreItems n column es →
    slice_get column n ≡ Some x → x ≢ 0ℚ → IsNarrow x → now ≡ es ++ (n, x) ∷ [] → AreItems (n + 1) column now
push_item n column es now x h e z small same = subst (AreItems (n + 1) column) (sym same) (record {
  entries = record {
    inside = All-push (λ (e : ℕ × ℚ). e.0 < n + 1) es (n, x) (wider n es h.entries.inside) (omega arith);
    ascending =
        all_pairs_push (λ (d e : ℕ × ℚ). d.0 < e.0) es (n, x) h.entries.ascending
        (λ k d l. All-get_or (λ (e : ℕ × ℚ). e.0 < n) es k d l h.entries.inside);
    not_zero = All-push (λ (e : ℕ × ℚ). e.1 ≢ 0ℚ) es (n, x) h.entries.not_zero z;
  };
  read = λ i l. by_eq i n
      (λ d. subst (λ i. entry_of (es ++ (n, x) ∷ []) i ≡ get_or column i 0ℚ) (sym d)
      (pushed_own es n x (others n es h.entries.inside) ∙ sym (get_or_from_slice_get column n x 0ℚ e)))
      (λ d. pushed_other es n i x (λ y. d (sym y)) ∙ h.read i (omega (arith, l, d)));
  narrow = All-push (λ (e : ℕ × ℚ). IsNarrow e.1) es (n, x) h.narrow small;
})

-- the pair of these items is that of the list
pub pair_is : (n place : ℕ) (column : List ℚ) (es : Entries) → AreItems n column es → n ≡ length column →
    pair_of n place es ≡ record { place = place; column = column }
pair_is n place column es h e =
    ap (λ c. record { place = place; column = c })
    (ext_get_or 0ℚ (made n (λ i. entry_of es i)) column (length-made n (λ i. entry_of es i) ∙ e)
    (λ i l. let l' : i < n = subst (λ k. i < k) (length-made n (λ i. entry_of es i)) l in
    get_or-made n (λ i. entry_of es i) i 0ℚ l' ∙ h.read i l'))
