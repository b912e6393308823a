-- What the cards of ROWS and of OBJSENSE say.
use Rattle.std.specs.Prelude.{ℕ, ◌≡◌, ◌⊎◌, codes, not, Option, Some, None, List, [], ◌∷◌, ◌++◌, map, if◌then◌else◌}
use Rattle.std.specs.List.{filter, filter_map}
use Rattle.spec_text.specs.Words.{has_bytes}
use Rattle.spec_model.specs.declared.parts.Kind.{Kind}
use Rattle.spec_model.specs.declared.parts.Sense.{Sense}
use Rattle.spec_model.specs.declared.parts.Sense.TheVariants.{Min, Max}
use Rattle.spec_model.specs.Model.{Name, is_free}
use Rattle.spec_mps.specs.Fields.{Fields, text_at}
use Rattle.spec_mps.specs.Shapes.{row_type_of}

-- ---- ROWS: the type in field 1 and the name in field 2

-- rows by their kinds and names
abbrev pub Labels : Type 0
Labels = List (Kind × Name)

-- a row's kind and name; none where its kind is unknown
abbrev pub typed : Option Kind → Name → Option (Kind × Name)
typed None name = None
typed (Some kind) name = Some (kind, name)

-- the kinds and names of the rows on cards of ROWS, the objective too, in the order of the cards; a card of an unknown
-- kind counts for nothing
unfoldable pub typed_rows : List Fields → Labels
typed_rows cards = filter_map (λ card. typed (row_type_of (text_at 1 card)) (text_at 2 card)) cards

-- the name of the first row of type N; none where there is none
abbrev pub first_free : Labels → Option Name
first_free [] = None
first_free (r ∷ rows) = if is_free r.0 then Some r.1 else first_free rows

-- all rows but the first of type N, in order
abbrev pub but_first_free : Labels → Labels
but_first_free [] = []
but_first_free (r ∷ rows) = if is_free r.0 then rows else r ∷ but_first_free rows

-- the names of the rows of type N, in order
abbrev pub free_names : Labels → List Name
free_names rows = map (λ r. r.1) (filter (λ r. is_free r.0) rows)

-- the rows of the other types than N, in order
abbrev pub limited : Labels → Labels
limited rows = filter (λ r. not (is_free r.0)) rows

-- ---- OBJSENSE: the sense stands beside the word, or on a card

-- the second word of a heading, if there is one; else no bytes
abbrev pub second_word : Option Fields → List ℕ
second_word None = []
second_word (Some words) = text_at 2 words

-- the words that say a sense: that beside OBJSENSE, if there is one, and the first of each card below it
unfoldable pub sense_words : Option Fields → List Fields → List (List ℕ)
sense_words title cards = filter has_bytes (second_word title ∷ []) ++ map (text_at 1) cards

-- the word says this sense: MIN or MINIMIZE, MAX or MAXIMIZE
abbrev pub IsSenseWord : Sense → List ℕ → Type 0
IsSenseWord Min word = (word ≡ codes "MIN") ⊎ (word ≡ codes "MINIMIZE")
IsSenseWord Max word = (word ≡ codes "MAX") ⊎ (word ≡ codes "MAXIMIZE")

-- these words say this sense: a lone word is a word for it; where there is no word, the sense is to minimize; more
-- words than one say no sense
abbrev pub IsSenseOf : List (List ℕ) → Sense → Type 0
IsSenseOf [] sense = sense ≡ Min
IsSenseOf (word ∷ []) sense = IsSenseWord sense word
IsSenseOf (word ∷ other ∷ more) sense = ⊥
