-- A text in which the objective alone is of type N.
use Rattle.std.proofs.Common.{◌≡◌, ℕ, ◌<◌, Bool, true, false, not, cond, List, [], ◌∷◌, map, All}
use Rattle.std.proofs.Common.{refl, sym, ap, ◌∙◌, subst, arith}
use Rattle.std.specs.List.{filter}
use Rattle.std.proofs.lemmas.List.{length-map}
use Rattle.std.proofs.lemmas.List.Elements.{All-nil, All-cons}
use Rattle.std.proofs.Math.ListN.{get_or-map}
use Rattle.spec_model.specs.declared.parts.SizeLimits.{SizeLimits}
use Rattle.spec_model.specs.declared.parts.Kind.{Kind}
use Rattle.spec_model.specs.Model.{Model, Name, ExactRow, no_row, row, height, is_free}
use Rattle.spec_mps.specs.declared.section.Section.TheVariants as section
use Rattle.spec_mps.specs.declared.style.Style.{Style}
use Rattle.spec_mps.specs.Steps.{SpellsWithin}
use Rattle.spec_mps.specs.NumberCards.{IsTheRange, texts_for, used_pairs}
use Rattle.spec_mps.specs.RowCards.{Labels, typed_rows, but_first_free, free_names, limited}
use Rattle.spec_mps.specs.TextCards.{Lines, cards_in}
use Rattle.spec_mps.proofs.RangesKept.{range_said}
use Rattle.spec_mps.proofs.RowsKept.{rows_said}

-- where no row is of type N, all rows are of the other types
none_free : (rows : Labels) → free_names rows ≡ [] → limited rows ≡ rows
none_free [] h = refl
none_free (r ∷ rows) h = go (is_free r.0) h (none_free rows)
  where
    go : (b : Bool) →
        map (λ (r : Kind × Name). r.1) (cond b (r ∷ filter (λ r. is_free r.0) rows) (filter (λ r. is_free r.0) rows)) ≡ []
        → (free_names rows ≡ [] → limited rows ≡ rows) → cond (not b) (r ∷ limited rows) (limited rows) ≡ r ∷ rows
    go true h f = absurd (cc)
    go false h f = ap (λ l. r ∷ l) (f h)

-- two equal lists have equal tails
same_tail : (a b : Name) (xs ys : List Name) → a ∷ xs ≡ b ∷ ys → xs ≡ ys
same_tail a b xs ys h = cc

-- where one row alone is of type N, the others are those of the other types
one_free : (rows : Labels) (name : Name) → free_names rows ≡ name ∷ [] → but_first_free rows ≡ limited rows
one_free [] name h = refl
one_free (r ∷ rows) name h = go (is_free r.0) h (one_free rows name)
  where
    go : (b : Bool) →
        map (λ (r : Kind × Name). r.1) (cond b (r ∷ filter (λ r. is_free r.0) rows) (filter (λ r. is_free r.0) rows))
        ≡ name ∷ [] → (free_names rows ≡ name ∷ [] → but_first_free rows ≡ limited rows) →
        cond b rows (r ∷ but_first_free rows) ≡ cond (not b) (r ∷ limited rows) (limited rows)
    go true h f = sym (none_free rows (same_tail r.1 name (free_names rows) [] h))
    go false h f = ap (λ l. r ∷ l) (f h)

-- each of the rows of other types than N is of another type
all_limited : (rows : Labels) → All (λ (r : Kind × Name). is_free r.0 ≡ false) (limited rows)
all_limited [] = All-nil (λ (r : Kind × Name). is_free r.0 ≡ false)
all_limited (r ∷ rows) = go (is_free r.0) refl (all_limited rows)
  where
    go : (b : Bool) → is_free r.0 ≡ b → All (λ (r : Kind × Name). is_free r.0 ≡ false) (limited rows) →
        All (λ (r : Kind × Name). is_free r.0 ≡ false) (cond (not b) (r ∷ limited rows) (limited rows))
    go true e f = f
    go false e f = All-cons (λ (r : Kind × Name). is_free r.0 ≡ false) r (limited rows) e f

module _ (limits : SizeLimits) (style : Style) (lines : Lines) (m : Model) (h : SpellsWithin limits style lines m)
    (one : free_names (typed_rows (cards_in style section.Rows lines)) ≡ m.objective ∷ []) where
  -- where the objective alone is of type N, the rows of a spelled model are those of the other types on the cards, in
  -- order
  pub rows_limited : map (λ r. (r.kind, r.name)) m.rows ≡ limited (typed_rows (cards_in style section.Rows lines))
  rows_limited = sym (rows_said limits style lines m h) ∙ one_free (typed_rows (cards_in style section.Rows lines))
      m.objective one

  row_limited : (i : ℕ) → i < height m → is_free (row m i).kind ≡ false
  row_limited i l =
      ap (λ (x : Kind × Name). is_free x.0) (sym (get_or-map (λ (r : ExactRow). (r.kind, r.name)) m.rows i no_row))
      ∙ subst (All (λ (r : Kind × Name). is_free r.0 ≡ false)) (sym rows_limited)
      (all_limited (typed_rows (cards_in style section.Rows lines))) i (no_row.kind, no_row.name)
      (omega (arith, l, length-map m.rows (λ (r : ExactRow). (let x : Kind × Name = (r.kind, r.name) in x))))

  -- where the objective alone is of type N, the range of each row of a spelled model is what the cards of RANGES give
  -- its name
  pub ranges_all : (i : ℕ) → i < height m →
      IsTheRange (texts_for (row m i).name (used_pairs (cards_in style section.Ranges lines))) (row m i).range
  ranges_all i l = range_said limits style lines m h i l (row_limited i l)
