-- Lowering by one the rows of the entries from a place on takes a row out.
--
-- `lowered-own`: removing the entry of row i and lowering the rows behind it gives the entries without row i.
-- `lowered-none`: where row i has no entry, lowering the rows behind its place gives the entries without row i.
use Rattle.std.proofs.Common.{◌≡◌, ℕ, suc, ◌+◌, ◌-◌, ◌<◌, ◌≤◌, Some, [], ◌∷◌, ◌++◌, map, length}
use Rattle.std.proofs.Common.{get_or, set, take, drop, All, refl, sym, ap, ap₂, ◌∙◌, subst}
use Rattle.std.proofs.Common.{arith, add-one, append_assoc, length-take, length-drop, get_or-drop}
use Rattle.std.specs.List.{slice_get, remove}
use Rattle.std.proofs.Math.Seq.{take-append_seam, drop-append_seam}
use Rattle.std.proofs.lemmas.List.{take_more, take_more_set, drop-set-lt, drop-append-le}
use Rattle.std.proofs.lemmas.List.{drop-drop, map-append, length-set, length-take-le}
use Rattle.std.proofs.lemmas.Option.{get_or_from_slice_get}
use Rattle.spec_exact.specs.Fraction.{ℚ}
use Rattle.spec_edit.specs.Changes.{without_entry}
use Rattle.lp_model.specs.Place.{StandsAt, BelongsAt}
use Rattle.lp_model.proofs.Splits.{Entries, lower, without-own, without-none}

-- of the entries from `place` on, those before `at` have their rows lowered by one, and those from `at` on are the old
-- ones
pub record AreLowered (place at : ℕ) (old es : Entries) : Type 0 where
  pub done : take at es ≡ take place old ++ map lower (drop place (take at old))
  pub left : drop at es ≡ drop at old
  pub long : length es ≡ length old

module _ (place at : ℕ) (old es : Entries) (so_far : AreLowered place at old es) (x : ℕ × ℚ)
    (behind : place ≤ at) (within : at < length old) (read : slice_get es at ≡ Some x) where
  -- the entry at `at` that is read is the old one there
  read_old : (d : ℕ × ℚ) → get_or old at d ≡ x
  read_old d =
      let e : get_or (drop at es) 0 d ≡ get_or es (at + 0) d = get_or-drop at es 0 d in
      let f : get_or (drop at old) 0 d ≡ get_or old (at + 0) d = get_or-drop at old 0 d in
      let g : at + 0 ≡ at = omega arith in
      sym (ap (λ n. get_or old n d) g) ∙ sym f ∙ sym (ap (λ xs. get_or xs 0 d) so_far.left)
      ∙ e ∙ ap (λ n. get_or es n d) g ∙ get_or_from_slice_get es at x d read

  -- the row of the entry at `at` is above 0, where those of all old entries from `place` on are
  pub row-above : All (λ e. 0 < e.0) (drop place old) → 0 < x.0
  row-above h =
      let e : get_or (drop place old) (at - place) x ≡ get_or old (place + (at - place)) x =
      get_or-drop place old (at - place) x in
      let f : place + (at - place) ≡ at = omega arith in
      subst (λ (e : ℕ × ℚ). 0 < e.0) (e ∙ ap (λ n. get_or old n x) f ∙ read_old x)
      (h (at - place) x (omega (arith, length-drop place old)))

  -- lowering the row of the entry at `at` too leaves the entries lowered up to the next place
  pub lowered-more : AreLowered place (at + 1) old (set es at (lower x))
  lowered-more =
      let inside : at < length es = omega (arith, so_far.long) in
      let e : take (at + 1) old ≡ take at old ++ x ∷ [] =
      take_more old at x within ∙ ap (λ y. take at old ++ y ∷ []) (read_old x) in
      record {
        done =
            take_more_set es at (lower x) inside ∙ ap (λ xs. xs ++ lower x ∷ []) so_far.done
            ∙ append_assoc (take place old) (map lower (drop place (take at old))) (lower x ∷ [])
            ∙ ap (λ xs. take place old ++ xs)
            (sym (ap (λ xs. map lower (drop place xs)) e
            ∙ ap (map lower) (drop-append-le place (take at old) (x ∷ []) (omega (arith, length-take at old)))
            ∙ map-append lower (drop place (take at old)) (x ∷ [])));
        left =
            drop-set-lt (at + 1) es at (lower x) (omega arith)
            ∙ sym (drop-drop 1 at es) ∙ ap (drop 1) so_far.left ∙ drop-drop 1 at old;
        long = length-set es at (lower x) ∙ so_far.long;
      }

-- ---- a row that is taken out

-- removing item k leaves the first k items as they are
take-remove : (es : Entries) (k : ℕ) → k < length es → take k (remove es k) ≡ take k es
take-remove es k l =
    let e : length (take k es) ≡ k = length-take-le k es (omega arith) in
    ap (λ n. take n (remove es k)) (sym e) ∙ take-append_seam (take k es) (drop (suc k) es)

-- the items from place k on, once item k is removed, are those that were behind it
drop-remove : (es : Entries) (k : ℕ) → k < length es → drop k (remove es k) ≡ drop (k + 1) es
drop-remove es k l =
    let e : length (take k es) ≡ k = length-take-le k es (omega arith) in
    ap (λ n. drop n (remove es k)) (sym e) ∙ drop-append_seam (take k es) (drop (suc k) es) ∙ sym (rw add-one refl)

-- its entry was removed, and the rows from there on were lowered
pub lowered-own : (i k : ℕ) (es less new : Entries) → StandsAt i k es → less ≡ remove es k →
    new ≡ take k less ++ map lower (drop k less) → new ≡ without_entry i es
lowered-own i k es less new h e f =
    f ∙ ap (λ xs. take k xs ++ map lower (drop k xs)) e
    ∙ ap₂ (λ xs ys. xs ++ map lower ys) (take-remove es k h.inside) (drop-remove es k h.inside)
    ∙ sym (without-own i k es h)

-- where row i has no entry, lowering the rows of the entries from its place on takes the row out
pub lowered-none : (i k : ℕ) (es new : Entries) → BelongsAt i k es → new ≡ take k es ++ map lower (drop k es) →
    new ≡ without_entry i es
lowered-none i k es new h f = f ∙ sym (without-none i k es h)
