-- The rows of type N are the objective and the free rows of the model.
use Rattle.std.proofs.Common.{◌≡◌, Bool, true, false, not, cond, [], ◌∷◌, map, Option, Some}
use Rattle.std.proofs.Common.{refl, sym, ap, ◌∙◌}
use Rattle.std.specs.List.{filter}
use Rattle.spec_model.specs.declared.parts.SizeLimits.{SizeLimits}
use Rattle.spec_model.specs.declared.parts.Kind.{Kind}
use Rattle.spec_model.specs.Model.{Model, Name, is_free}
use Rattle.spec_mps.specs.declared.section.Section.TheVariants as section
use Rattle.spec_mps.specs.declared.style.Style.{Style}
use Rattle.spec_mps.specs.Steps.{SpellsWithin}
use Rattle.spec_mps.specs.RowCards.{Labels, typed_rows, first_free, but_first_free, free_names, limited}
use Rattle.spec_mps.specs.TextCards.{Lines, cards_in}
use Rattle.spec_mps.proofs.RowsKept.{rows_said, objective_said}

-- a row of type N in front adds its name to the names of type N
free_own : (r : Kind × Name) (rows : Labels) → is_free r.0 ≡ true → free_names (r ∷ rows) ≡ r.1 ∷ free_names rows
free_own r rows e =
    ap (λ b. map (λ (r : Kind × Name). r.1)
    (cond b (r ∷ filter (λ r. is_free r.0) rows) (filter (λ r. is_free r.0) rows))) e

-- a row of another type in front leaves the names of type N
free_other : (r : Kind × Name) (rows : Labels) → is_free r.0 ≡ false → free_names (r ∷ rows) ≡ free_names rows
free_other r rows e =
    ap (λ b. map (λ (r : Kind × Name). r.1)
    (cond b (r ∷ filter (λ r. is_free r.0) rows) (filter (λ r. is_free r.0) rows))) e

-- a row of another type than N in front is one more row of such types
limited_own : (r : Kind × Name) (rows : Labels) → is_free r.0 ≡ false → limited (r ∷ rows) ≡ r ∷ limited rows
limited_own r rows e = ap (λ b. cond (not b) (r ∷ limited rows) (limited rows)) e

-- a row of type N in front leaves the rows of the other types
limited_other : (r : Kind × Name) (rows : Labels) → is_free r.0 ≡ true → limited (r ∷ rows) ≡ limited rows
limited_other r rows e = ap (λ b. cond (not b) (r ∷ limited rows) (limited rows)) e

-- two names that are there and are equal as options are equal
first_free_name : (a b : Name) → ◌≡◌ {A = Option Name} (Some a) (Some b) → a ≡ b
first_free_name a b e = cc

-- the names of type N are the first such name, and then those of the rows without it
names_first : (rows : Labels) (name : Name) → first_free rows ≡ Some name →
    free_names rows ≡ name ∷ free_names (but_first_free rows)
names_first [] name h = absurd (cc)
names_first (r ∷ rows) name h = go (is_free r.0) refl h (names_first rows name)
  where
    go : (b : Bool) → is_free r.0 ≡ b → cond b (Some r.1) (first_free rows) ≡ Some name →
        (first_free rows ≡ Some name → free_names rows ≡ name ∷ free_names (but_first_free rows)) →
        free_names (r ∷ rows) ≡ name ∷ free_names (cond b rows (r ∷ but_first_free rows))
    go true e h f = free_own r rows e ∙ ap (λ name. name ∷ free_names rows) (first_free_name r.1 name h)
    go false e h f =
        free_other r rows e ∙ f h ∙ ap (λ names. name ∷ names) (sym (free_other r (but_first_free rows) e))

-- the rows of other types than N are the same without the first row of type N
limited_first : (rows : Labels) → limited rows ≡ limited (but_first_free rows)
limited_first [] = refl
limited_first (r ∷ rows) = go (is_free r.0) refl (limited_first rows)
  where
    go : (b : Bool) → is_free r.0 ≡ b → limited rows ≡ limited (but_first_free rows) →
        limited (r ∷ rows) ≡ limited (cond b rows (r ∷ but_first_free rows))
    go true e f = limited_other r rows e
    go false e f =
        limited_own r rows e ∙ ap (λ rows. r ∷ rows) f ∙ sym (limited_own r (but_first_free rows) e)

module _ (limits : SizeLimits) (style : Style) (lines : Lines) (m : Model) (h : SpellsWithin limits style lines m) where
  -- the names of the rows of type N on the cards of a spelled model are its objective and then its free rows, in order
  pub free_said : free_names (typed_rows (cards_in style section.Rows lines))
      ≡ m.objective ∷ free_names (map (λ r. (r.kind, r.name)) m.rows)
  free_said =
      names_first (typed_rows (cards_in style section.Rows lines)) m.objective (objective_said limits style lines m h)
      ∙ ap (λ (rows : Labels). m.objective ∷ free_names rows) (rows_said limits style lines m h)

  -- the rows of other types than N on the cards of a spelled model are its rows of other types, in order
  pub limited_said : limited (typed_rows (cards_in style section.Rows lines))
      ≡ limited (map (λ r. (r.kind, r.name)) m.rows)
  limited_said =
      limited_first (typed_rows (cards_in style section.Rows lines)) ∙ ap limited (rows_said limits style lines m h)
