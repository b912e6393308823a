-- Names that stand for a row or a column, and names that stand for none.
--
-- `row_names-changed`: a change of a row that leaves its name leaves the names of all rows.
-- `column_names-changed`: a change of a column that leaves its name leaves the names of all columns.
-- `row_new`: a name that is not taken for a row differs from those of the objective and all rows.
-- `column_new`: a name that is not taken for a column differs from those of all columns.
-- `one_row`: in a kept model two rows with one name are one row.
use Rattle.std.proofs.Common.{◌≡◌, ◌≢◌, ℕ, ◌<◌, ◌≤◌, Bool, true, false, cond, ltb, Some, None}
use Rattle.std.proofs.Common.{List, ◌∷◌, length, All, refl, sym, arith, ⊎_elim}
use borrow.Author.Tests.{ltb-false}
use Rattle.std.specs.Prelude.{is_some}
use Rattle.std.specs.List.{position, position_or_len}
use Rattle.std.proofs.lemmas.Bool.{or_parts, cases_order}
use Rattle.std.proofs.lemmas.List.Elements.{All-cons, All-map, All-weaker}
use Rattle.std.proofs.lemmas.List.Sums.{fails_before_first}
use Rattle.spec_text.specs.Words.{same}
use Rattle.spec_text.proofs.WordLemmas.{same_false}
use Rattle.spec_model.specs.Model.{Model, Name, ExactRow, ExactColumn, no_row, no_column, width, height, row, column}
use Rattle.spec_model.specs.Kept.{IsModel, row_names, column_names, row_place, column_place}
use Rattle.spec_model.proofs.NamePlaces.{rows_differ}
use Rattle.spec_edit.specs.Changes.{changed_row, changed_column}
use Rattle.spec_edit.specs.Edited.{is_row_taken, is_column_taken}
use Rattle.spec_edit.proofs.ListLemmas.{map-set_unseen}

-- where a search finds no position, no element of the list passes the test
position-None : {X : Type 0} (p : X → Bool) (xs : List X) → is_some (position p xs) ≡ false → All (λ x. p x ≡ false) xs
position-None p xs h = λ k d l. fails_before_first p xs k d (by (ltb (position_or_len p xs) (length xs)) refl h k l)
  where
    by : (t : Bool) → ltb (position_or_len p xs) (length xs) ≡ t →
        is_some (cond t (Some (position_or_len p xs)) None) ≡ false → (k : ℕ) → k < length xs → k < position_or_len p xs
    by true e f k l = absurd (cc)
    by false e f k l = let g : length xs ≤ position_or_len p xs = ltb-false _ _ e in omega arith

-- ---- names after a change

pub row_names-changed : (m : Model) (i : ℕ) (change : ExactRow → ExactRow) → i < height m →
    (change (row m i)).name ≡ (row m i).name → row_names (changed_row change m i) ≡ row_names m
row_names-changed m i change l e = map-set_unseen (λ (r : ExactRow). r.name) m.rows i no_row (change (row m i)) l e

pub column_names-changed : (m : Model) (j : ℕ) (change : ExactColumn → ExactColumn) → j < width m →
    (change (column m j)).name ≡ (column m j).name → column_names (changed_column change m j) ≡ column_names m
column_names-changed m j change l e =
    map-set_unseen (λ (c : ExactColumn). c.name) m.columns j no_column (change (column m j)) l e

-- ---- names that are taken

pub row_new : (m : Model) (name : Name) → is_row_taken m name ≡ false → All (λ x. x ≢ name) (m.objective ∷ row_names m)
unfolding row_place
row_new m name h =
    let p = or_parts (same m.objective name) (is_some (row_place m name)) h in
    All-cons (λ x. x ≢ name) m.objective (row_names m) (same_false m.objective name p.0)
    (All-map (λ x. x ≢ name) (λ (r : ExactRow). r.name) m.rows
    (All-weaker (λ (r : ExactRow). same r.name name ≡ false) (λ r. r.name ≢ name)
    (λ r. same_false r.name name) m.rows (position-None (λ (r : ExactRow). same r.name name) m.rows p.1)))

pub column_new : (m : Model) (name : Name) → is_column_taken m name ≡ false → All (λ x. x ≢ name) (column_names m)
unfolding column_place
column_new m name h =
    All-map (λ x. x ≢ name) (λ (c : ExactColumn). c.name) m.columns
    (All-weaker (λ (c : ExactColumn). same c.name name ≡ false) (λ c. c.name ≢ name)
    (λ c. same_false c.name name) m.columns (position-None (λ (c : ExactColumn). same c.name name) m.columns h))

-- a name is that of one row
pub one_row : (m : Model) (i j : ℕ) → IsModel m → i < height m → j < height m → (row m i).name ≡ (row m j).name → i ≡ j
one_row m i j k p q e =
    ⊎_elim (λ same. same)
    (⊎_elim (λ l. absurd (apart i j l p q e)) (λ l. absurd (apart j i l q p (sym e)))) (cases_order i j)
  where
    apart : (a b : ℕ) → a < b → a < height m → b < height m → (row m a).name ≡ (row m b).name → ⊥
    apart a b l p q e = same_false (row m a).name (row m b).name (rows_differ m k a b l q) e
