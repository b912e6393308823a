-- The names of a kept model's objective and rows are found at their places, and its numbers are read from their texts.
--
-- `number_is_in`: the text of a number within 127 bits is taken as that number.
-- `same_itself`: a name is the same as itself.
-- `objective_place`: where a model's rows are read, its objective's name stands for the objective.
-- `row_place`: where a model's rows are read, the name of row i stands for row i.
use Rattle.std.proofs.Common.{◌≡◌, ◌≢◌, ℕ, zero, suc, ◌<◌, true, Some, Ok}
use Rattle.std.proofs.Common.{List, [], ◌∷◌, length, map, get_or, refl, sym, ap, ◌∙◌, arith}
use Rattle.std.specs.List.{AllPairs, position, position_or_len}
use Rattle.std.proofs.lemmas.List.{length-map}
use Rattle.std.proofs.Math.ListN.{get_or-map}
use borrow.Author.Tests.{lt-ltb}
use Rattle.spec_text.specs.Words.{same}
use Rattle.spec_text.proofs.WordLemmas.{same_is_equal}
use Rattle.spec_exact.specs.Fraction.{ℚ}
use Rattle.spec_exact.specs.Narrow.{IsNarrow}
use Rattle.spec_model.specs.Model.{Model, Name, ExactRow, no_row, row}
use Rattle.spec_model.specs.Kept.{IsModel}
use Rattle.spec_model.proofs.NamePlaces.{not_same}
use Rattle.spec_model.proofs.Pairs.{AllPairs-tail}
use Rattle.spec_mps.specs.declared.target.Target.TheVariants.{Objective, Row}
use Rattle.spec_mps.specs.Checks.{coded}
use Rattle.spec_mps.specs.NumberText.{answer}
use Rattle.spec_mps.specs.NumberWritten.{number_text}
use Rattle.spec_mps.specs.Reader.{State, place_of, number_in}
use Rattle.spec_mps.proofs.WrittenSteps.{bare_row}
use Rattle.spec_mps.proofs.RoundTrip.{read_written}
use Rattle.spec_mps.proofs.WrittenRows.{names_of}

-- ---- numbers

pub number_is_in : (q : ℚ) → IsNarrow q → number_in (number_text q) ≡ Ok q
unfolding number_in
number_is_in q h = ap (λ reading. coded (answer reading)) (read_written q h.top h.bottom)

-- ---- names

pub same_itself : (name : Name) → same name name ≡ true
same_itself name = (same_is_equal name name).1 refl

-- a first name that differs from all behind it differs from the name of the row at each place
names_differ : (rows : List ExactRow) (first : Name) (i : ℕ) → AllPairs (λ x y. x ≢ y) (first ∷ names_of rows) →
    i < length rows → first ≢ (get_or rows i no_row).name
names_differ rows first i h l e =
    h 0 (suc i) [] (omega arith) (omega (arith, length-map rows (λ (r : ExactRow). r.name)))
    (e ∙ sym (get_or-map (λ (r : ExactRow). r.name) rows i no_row))

-- among rows of distinct names, the first place of a row's name is that row's place
passed : (rows : List ExactRow) (i : ℕ) → AllPairs (λ x y. x ≢ y) (names_of rows) → i < length rows →
    position_or_len (λ r. same r.name (get_or rows i no_row).name) (map bare_row rows) ≡ i
passed [] i h l = absurd (omega arith)
passed (r ∷ rows) zero h l = rw (same_itself r.name) refl
passed (r ∷ rows) (suc i) h l =
    let less : i < length rows = omega arith in
    rw (
      not_same r.name (get_or rows i no_row).name (names_differ rows r.name i h less),
      passed rows i (AllPairs-tail (λ x y. x ≢ y) r.name (names_of rows) h) less,
    ) (omega arith)

-- among rows of distinct names, a search for a row's name finds that row's place
position_of : (rows : List ExactRow) (i : ℕ) → AllPairs (λ x y. x ≢ y) (names_of rows) → i < length rows →
    position (λ r. same r.name (get_or rows i no_row).name) (map bare_row rows) ≡ Some i
position_of rows i h l = rw (passed rows i h l, length-map rows bare_row, lt-ltb i (length rows) l) refl

-- ---- what names stand for

-- the state has the model's objective, and its rows without right sides and ranges
pub record HasRowsOf (m : Model) (s : State) : Type 0 where
  pub objective : s.objective ≡ Some m.objective
  pub rows : s.rows ≡ map bare_row m.rows

pub objective_place : (m : Model) (s : State) → HasRowsOf m s → place_of s m.objective ≡ Some Objective
unfolding place_of
objective_place m s h = rw (h.objective, same_itself m.objective) refl

pub row_place : (m : Model) (s : State) (i : ℕ) → IsModel m → HasRowsOf m s → i < length m.rows →
    place_of s (row m i).name ≡ Some (Row i)
unfolding place_of
row_place m s i kept h l =
    rw (
      h.objective,
      not_same m.objective (row m i).name (names_differ m.rows m.objective i kept.rows_distinct l),
      h.rows,
      position_of m.rows i (AllPairs-tail (λ x y. x ≢ y) m.objective (names_of m.rows) kept.rows_distinct) l,
    ) refl
