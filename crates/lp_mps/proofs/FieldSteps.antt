-- Fields of a card that are put into a line in turn.
--
-- `puts_done`: where the first n fields were written, none of them too wide, and there are no more fields, all fields
--   are written.
-- `card_stops`: a stop that names the first too wide field of a card names that of the card's line.
-- `card_done`: where all fields of a card were written into an empty line, the text with that line has the card added.
use Rattle.std.proofs.Common.{◌≡◌, ℕ, ◌+◌, ◌<◌, ◌≤◌, true, false, Some, None, List, [], ◌∷◌}
use Rattle.std.proofs.Common.{◌++◌, length, take, drop, get_or, refl, sym, ◌∙◌, ap, map, Bor}
use Rattle.std.specs.Prelude.{option_map, find}
use Rattle.std.proofs.lemmas.List.{take_all, take_more, take-append-drop, map-append, append-nil}
use Rattle.std.proofs.lemmas.List.Folds.{find-append}
use Rattle.spec_mps.specs.declared.style.Style.{Style}
use Rattle.spec_mps.specs.declared.style.Style.TheVariants.{Free, Fixed}
use Rattle.spec_mps.specs.Fields.{Field, Fields}
use Rattle.spec_mps.specs.Written.{Data, with_fields, padded}
use Rattle.lp_mps.specs.declared.write.stop.WriteStop.{WriteStop}
use Rattle.lp_mps.specs.declared.write.stop.WriteStop.TheVariants.{TooWide, NoMemory}
use Rattle.lp_mps.specs.Adds.{IsAdded, Names, fields_of, is_wide_in, wide_field, wide_in}
use Rattle.lp_mps.proofs.AddSteps.{first_none, first_some}

-- a line with two lists of fields is the line with the first and then with the second
with_fields-append : (style : Style) (line : List ℕ) (fs gs : Fields) →
    with_fields style line (fs ++ gs) ≡ with_fields style (with_fields style line fs) gs
with_fields-append style line [] gs = refl
with_fields-append style line (f ∷ fs) gs = with_fields-append style (padded style f.number line ++ f.text) fs gs

-- where no field of a first list is wide, the wide field of both lists is that of the second
wide_behind : (style : Style) (fs gs : Fields) → wide_field style fs ≡ None →
    wide_field style (fs ++ gs) ≡ wide_field style gs
wide_behind style fs gs h =
    ap (option_map (λ f. f.text)) (find-append (is_wide_in style) fs gs)
    ∙ first_none (find (is_wide_in style) fs) (find (is_wide_in style) gs) h

-- the wide field of a first list is the wide field of both lists
wide_first : (style : Style) (fs gs : Fields) (item : List ℕ) → wide_field style fs ≡ Some item →
    wide_field style (fs ++ gs) ≡ Some item
wide_first style fs gs item h =
    ap (option_map (λ f. f.text)) (find-append (is_wide_in style) fs gs)
    ∙ first_some (find (is_wide_in style) fs) (find (is_wide_in style) gs) item h

-- a field that tests as wide is the wide field of the list with it alone
wide_one : (style : Style) (f : Field) → is_wide_in style f ≡ true → wide_field style (f ∷ []) ≡ Some f.text
wide_one style f h = rw h refl

-- where a field does not test as wide, the list with it alone has no wide field
narrow_one : (style : Style) (f : Field) → is_wide_in style f ≡ false → wide_field style (f ∷ []) ≡ None
narrow_one style f h = rw h refl

abbrev pub seen : (ℕ × Bor (List ℕ)) → Field
seen f = record { number = f.0; text = f.1.now }

module _ (style : Style) (fs : List (ℕ × Bor (List ℕ))) (i : ℕ)
    (d : ℕ × Bor (List ℕ)) (inside : i < length fs) where
  -- the first i + 1 fields are the first i and then field i
  fields_next : fields_of (take (i + 1) fs) ≡ fields_of (take i fs) ++ seen (get_or fs i d) ∷ []
  fields_next = ap (map seen) (take_more fs i d inside) ∙ map-append seen (take i fs) (get_or fs i d ∷ [])

  -- where the first i fields are in the line, and field i is not too wide, padding the line and adding field i puts the
  -- first i + 1 in
  pub puts_next : (start line next : List ℕ) → wide_field style (fields_of (take i fs)) ≡ None →
      line ≡ with_fields style start (fields_of (take i fs))
      → is_wide_in style (seen (get_or fs i d)) ≡ false →
      next ≡ padded style (get_or fs i d).0 line ++ (get_or fs i d).1.now
      → (wide_field style (fields_of (take (i + 1) fs)) ≡ None)
      × (next ≡ with_fields style start (fields_of (take (i + 1) fs)))
  puts_next start line next narrow here room put = (
    ap (wide_field style) fields_next ∙ wide_behind style (fields_of (take i fs)) (seen (get_or fs i d) ∷ []) narrow
        ∙ narrow_one style (seen (get_or fs i d)) room,
    put ∙ ap (λ l. padded style (get_or fs i d).0 l ++ (get_or fs i d).1.now) here
        ∙ sym (with_fields-append style start (fields_of (take i fs)) (seen (get_or fs i d) ∷ []))
        ∙ ap (with_fields style start) (sym fields_next),
  )

  -- all fields are the first i + 1 and then the others
  fields_all : fields_of fs ≡ fields_of (take (i + 1) fs) ++ fields_of (drop (i + 1) fs)
  fields_all = ap (map seen) (sym (take-append-drop (i + 1) fs)) ∙ map-append seen (take (i + 1) fs) (drop (i + 1) fs)

  -- where none of the first i fields is too wide, and field i is, it is the wide field of all
  pub puts_stops : wide_field style (fields_of (take i fs)) ≡ None → is_wide_in style (seen (get_or fs i d)) ≡ true →
      wide_field style (fields_of fs) ≡ Some (get_or fs i d).1.now
  puts_stops narrow wide =
      ap (wide_field style) fields_all
      ∙ wide_first style (fields_of (take (i + 1) fs)) (fields_of (drop (i + 1) fs)) (get_or fs i d).1.now
      (ap (wide_field style) fields_next ∙ wide_behind style (fields_of (take i fs)) (seen (get_or fs i d) ∷ []) narrow
      ∙ wide_one style (seen (get_or fs i d)) wide)

pub puts_done : (style : Style) (fs : List (ℕ × Bor (List ℕ))) (n : ℕ) (start line : List ℕ) → length fs ≤ n
    → wide_field style (fields_of (take n fs)) ≡ None → line ≡ with_fields style start (fields_of (take n fs))
    → (wide_field style (fields_of fs) ≡ None) × (line ≡ with_fields style start (fields_of fs))
puts_done style fs n start line all narrow here = (
  ap (λ gs. wide_field style (fields_of gs)) (sym (take_all n fs all)) ∙ narrow,
  here ∙ ap (λ gs. with_fields style start (fields_of gs)) (take_all n fs all),
)

-- ---- a card of fields

-- in the free style no field is wide
free_narrow : (fs : Fields) → wide_field Free fs ≡ None
free_narrow [] = refl
free_narrow (f ∷ fs) = free_narrow fs

-- the wide field of a card alone is the wide field among its fields
wide_card : (style : Style) (fs : Fields) → wide_in style (Data fs ∷ []) ≡ wide_field style fs
wide_card Free fs = sym (free_narrow fs)
wide_card Fixed fs = ap (λ gs. wide_field Fixed gs) (append-nil fs)

pub card_stops : (style : Style) (fs : Fields) (stop : WriteStop) → Names (wide_field style fs) stop →
    Names (wide_in style (Data fs ∷ [])) stop
card_stops style fs (TooWide item) h = wide_card style fs ∙ h
card_stops style fs NoMemory h = tt

pub card_done : (style : Style) (fs : Fields) (start line text next : List ℕ)
    → (wide_field style fs ≡ None) × (line ≡ with_fields style start fs) →
    start ≡ [] → next ≡ text ++ (line ++ 10 ∷ []) → IsAdded style (Data fs ∷ []) text next
card_done style fs start line text next puts empty put =
    record {
      narrow = wide_card style fs ∙ puts.0;
      text =
          put
          ∙ ap (λ t. text ++ t) (ap (λ l. l ++ 10 ∷ []) (puts.1 ∙ ap (λ l. with_fields style l fs) empty)
          ∙ sym (append-nil (with_fields style [] fs ++ 10 ∷ [])));
    }
