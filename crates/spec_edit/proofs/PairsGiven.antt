-- A new column has in each row the number that its pairs give to the row's name.
use Rattle.std.proofs.Common.{length-append, ◌≡◌, ℕ, ◌<◌, true, false, cond, eqb, Ok, List}
use Rattle.std.proofs.Common.{[], ◌∷◌, ◌++◌, refl, sym, ap, ◌∙◌, ⊎_elim, eq-eqb, ne_eqb}
use Rattle.std.proofs.lemmas.Bool.{cases_eq, both_ways, false_from_ne_true, or_left, or_right}
use Rattle.std.proofs.lemmas.List.{get_or_push}
use Rattle.std.proofs.lemmas.List.Folds.{list_any-append}
use Rattle.spec_text.specs.Words.{same}
use Rattle.spec_text.proofs.WordLemmas.{same_true, same-refl}
use Rattle.spec_exact.specs.Fraction.{ℚ, 0ℚ}
use Rattle.spec_model.specs.Model.{Model, Name, ExactColumn, no_column, width, height, row, entry_of, coefficient}
use Rattle.spec_model.specs.Kept.{IsModel}
use Rattle.spec_edit.specs.Changes.{with_entry}
use Rattle.spec_edit.specs.Edited.{Pairs, is_given, entries_of, column_of, new_column}
use Rattle.spec_edit.specs.Meaning.{given_to, IsWithPairs}
use Rattle.spec_model.proofs.NamePlaces.{row_known}
use Rattle.spec_edit.proofs.NameLemmas.{one_row}
use Rattle.spec_edit.proofs.Searches.{same_ok}
use Rattle.spec_edit.proofs.NewColumns.{puts_pair, new_column-ok}
use Rattle.spec_edit.proofs.Coefficients.{entry_of-with_entry}

-- the number that pairs give to a name; d where they give none
abbrev given_or : ℚ → Name → Pairs → ℚ
given_or d name [] = d
given_or d name (p ∷ pairs) = cond (same p.0 name) p.1 (given_or d name pairs)

-- what pairs give to a name, 0 if nothing, is the number that they give to it
given_or-zero : (name : Name) (pairs : Pairs) → given_or 0ℚ name pairs ≡ given_to name pairs
given_or-zero name [] = refl
given_or-zero name (p ∷ pairs) = ap (cond (same p.0 name) p.1) (given_or-zero name pairs)

-- ---- names of pairs

-- a name that pairs have is one that these pairs with more behind them have
given_more : (name : Name) (before more : Pairs) → is_given name before ≡ true → is_given name (before ++ more) ≡ true
given_more name before more h =
    list_any-append (λ (p : Name × ℚ). same p.0 name) before more
    ∙ or_left (is_given name before) (is_given name more) h

-- a name counts as given where the last of the pairs has it
given_last : (name : Name) (before : Pairs) (p : Name × ℚ) → same p.0 name ≡ true →
    is_given name (before ++ p ∷ []) ≡ true
given_last name before p h =
    list_any-append (λ (p : Name × ℚ). same p.0 name) before (p ∷ [])
    ∙ or_right (is_given name before) (is_given name (p ∷ [])) (or_left (same p.0 name) false h)

-- where further pairs give entries, none of them has a name that a pair before them has
not_again : (m : Model) (name : Name) (d : ℚ) (before pairs : Pairs) (es out : List (ℕ × ℚ)) →
    is_given name before ≡ true → entries_of m before pairs es ≡ Ok out → given_or d name pairs ≡ d
not_again m name d before [] es out g h = refl
not_again m name d before (p ∷ pairs) es out g h =
    let s = puts_pair m before p pairs es out h in
    let other : same p.0 name ≡ false = apart s.first in
    let rest =
    not_again m name d (before ++ p ∷ []) pairs (with_entry s.place p.1 es) out
    (given_more name before (p ∷ []) g) s.rest in
    rw other rest
  where
    apart : is_given p.0 before ≡ false → same p.0 name ≡ false
    apart f =
        false_from_ne_true (same p.0 name)
        (λ t. let e : is_given p.0 before ≡ true = ap (λ n. is_given n before) (same_true p.0 name t) ∙ g in
        both_ways _ f e)

-- ---- the entries

-- an entry is what the pairs give to its row's name, or else the old one
pairs_stand : (m : Model) → IsModel m → (before pairs : Pairs) (es out : List (ℕ × ℚ)) →
    entries_of m before pairs es ≡ Ok out → (i : ℕ) → i < height m →
    entry_of out i ≡ given_or (entry_of es i) (row m i).name pairs
pairs_stand m k before [] es out h i l = ap (λ es. entry_of es i) (sym (same_ok es out h))
pairs_stand m k before (p ∷ pairs) es out h i l =
    let s = puts_pair m before p pairs es out h in
    let known = row_known m p.0 s.place s.names in
    let put = entry_of-with_entry s.place p.1 es i in
    let rest = pairs_stand m k (before ++ p ∷ []) pairs (with_entry s.place p.1 es) out s.rest i l in
    rest ∙ ap (λ d. given_or d (row m i).name pairs) put
    ∙ ⊎_elim (here s.place known.1 s.rest) (there s.place known) (cases_eq i s.place)
  where
    IsPut : ℕ → Type 0
    IsPut place =
        given_or (cond (eqb i place) p.1 (entry_of es i)) (row m i).name pairs
        ≡ cond (same p.0 (row m i).name) p.1 (given_or (entry_of es i) (row m i).name pairs)

    here : (place : ℕ) → (row m place).name ≡ p.0 →
        entries_of m (before ++ p ∷ []) pairs (with_entry place p.1 es) ≡ Ok out → i ≡ place → IsPut place
    here place named rest e =
        let own : same p.0 (row m i).name ≡ true = ap (same p.0) (ap (λ a. (row m a).name) e ∙ named) ∙ same-refl p.0 in
        let once =
        not_again m (row m i).name p.1 (before ++ p ∷ []) pairs
        (with_entry place p.1 es) out (given_last (row m i).name before p own) rest in
        rw (eq-eqb i place e, own) once

    there : (place : ℕ) → (place < height m) × ((row m place).name ≡ p.0) → (i ≡ place → ⊥) → IsPut place
    there place known n =
        let other : same p.0 (row m i).name ≡ false =
        false_from_ne_true (same p.0 (row m i).name)
        (λ t. n (one_row m i place k l known.0 (sym (same_true p.0 (row m i).name t) ∙ sym known.1))) in
        rw (ne_eqb i place n, other) refl

-- ---- the column

-- a new column goes last, with the numbers that its pairs give to the rows
pub column-with_pairs : (m n : Model) (name : Name) (cost : ℚ) (pairs : Pairs) → IsModel m →
    new_column m name cost pairs ≡ Ok n → IsWithPairs m n pairs
column-with_pairs m n name cost pairs k h =
    let s = new_column-ok m n name cost pairs h in
    let c = column_of name cost s.entries in
    record {
      last = ap width (sym s.model) ∙ length-append m.columns (c ∷ []);
      coefficients = λ i l.
          ap (λ (o : Model). coefficient o i (width m)) (sym s.model)
          ∙ ap (λ (c : ExactColumn). entry_of c.entries i) (get_or_push m.columns c no_column (width m) refl)
          ∙ pairs_stand m k [] pairs [] s.entries s.given i l
          ∙ given_or-zero (row m i).name pairs;
    }
