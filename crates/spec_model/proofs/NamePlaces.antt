-- In a kept model the name of each row and column leads back to its number, and no name is there twice.
--
-- `not_same`: names that are not equal fail the test of equality.
-- `columns_differ`: two columns of a kept model have different names.
-- `rows_differ`: two rows of a kept model have different names.
-- `column_at`: in a kept model the name of column j leads to j.
-- `row_at`: in a kept model the name of row i leads to i.
-- `row_known`: a name that leads to row i is the name of row i, and i is the number of a row.
-- `row_inside`: what the name of a row leads to is the number of a row.
-- `column_inside`: what the name of a column leads to is the number of a column.
-- `row_one`: two names that lead to one row are equal.
-- `column_one`: two names that lead to one column are equal.
use Rattle.std.proofs.Common.{◌≡◌, ◌≢◌, ℕ, suc, ◌<◌, Bool, true, false, cond, ltb, Some, None, List, []}
use Rattle.std.proofs.Common.{length, map, get_or, refl, sym, ap, ◌∙◌, subst₂, arith}
use Rattle.std.specs.List.{AllPairs, position}
use Rattle.std.proofs.lemmas.List.{get_or-map, length-map}
use Rattle.std.proofs.lemmas.List.Quantifiers.{position-Some}
use Rattle.std.proofs.lemmas.List.Sums.{position_or_len_is}
use borrow.Author.Tests.{lt-ltb}
use Rattle.spec_text.specs.Words.{same}
use Rattle.spec_text.proofs.WordLemmas.{same-refl, same_true}
use Rattle.spec_model.specs.Model.{Model, Name, ExactRow, ExactColumn, no_row, no_column, width, height, row, column}
use Rattle.spec_model.specs.Kept.{IsModel, row_place, column_place}

-- the name of column j of a model; empty where it has fewer columns
abbrev pub column_name : Model → ℕ → Name
column_name m j = (column m j).name

-- the name of row i of a model; empty where it has fewer rows
abbrev pub row_name : Model → ℕ → Name
row_name m i = (row m i).name

pub not_same : (a b : Name) → a ≢ b → same a b ≡ false
not_same a b h = by (same a b) refl
  where
    by : (t : Bool) → same a b ≡ t → same a b ≡ false
    by true e = absurd (h (same_true a b e))
    by false e = e

-- things with names of which no two are the same
module _ {A : Type 0} (name : A → Name) (xs : List A) (d : A) (once : AllPairs (λ x y. x ≢ y) (map name xs)) where
  -- of things with names of which no two are the same, two at different places have different names
  differ : (i k : ℕ) → i < k → k < length xs → same (name (get_or xs i d)) (name (get_or xs k d)) ≡ false
  differ i k p q =
      not_same (name (get_or xs i d)) (name (get_or xs k d))
      (subst₂ ◌≢◌ (get_or-map name xs i d [] (omega arith)) (get_or-map name xs k d [] q)
      (once i k [] p (omega (arith, length-map xs name))))

  -- of things with names of which no two are the same, the first one with the name of thing i is thing i
  place_at : (i : ℕ) → i < length xs → position (λ x. same (name x) (name (get_or xs i d))) xs ≡ Some i
  place_at i p =
      ap (λ n. cond (ltb n (length xs)) (Some n) None)
      (position_or_len_is (λ x. same (name x) (name (get_or xs i d))) xs i d (omega arith)
      (λ k l. differ k i l p) (λ l. same-refl (name (get_or xs i d))))
      ∙ rw (lt-ltb i (length xs) p) refl

-- names of rows differ from each other too, and not from that of the objective alone
rows_once : (m : Model) → IsModel m → AllPairs (λ x y. x ≢ y) (map (λ (r : ExactRow). r.name) m.rows)
rows_once m h = λ i k d p q. h.rows_distinct (suc i) (suc k) d (omega arith) (omega arith)

pub columns_differ : (m : Model) → IsModel m → (i k : ℕ) → i < k → k < width m →
    same (column_name m i) (column_name m k) ≡ false
columns_differ m h = differ (λ (c : ExactColumn). c.name) m.columns no_column h.columns_distinct

pub rows_differ : (m : Model) → IsModel m → (i k : ℕ) → i < k → k < height m →
    same (row_name m i) (row_name m k) ≡ false
rows_differ m h = differ (λ (r : ExactRow). r.name) m.rows no_row (rows_once m h)

pub column_at : (m : Model) → IsModel m → (j : ℕ) → j < width m → column_place m (column_name m j) ≡ Some j
unfolding column_place
column_at m h = place_at (λ (c : ExactColumn). c.name) m.columns no_column h.columns_distinct

pub row_at : (m : Model) → IsModel m → (i : ℕ) → i < height m → row_place m (row_name m i) ≡ Some i
unfolding row_place
row_at m h = place_at (λ (r : ExactRow). r.name) m.rows no_row (rows_once m h)

-- ---- names that are known

pub row_known : (m : Model) (name : Name) (i : ℕ) → row_place m name ≡ Some i → (i < height m) × ((row m i).name ≡ name)
unfolding row_place
row_known m name i h =
    let p = position-Some (λ (r : ExactRow). same r.name name) m.rows i no_row h in
    (p.0, same_true (row m i).name name p.1)

-- a name that leads to column j is the name of column j, and j is the number of a column
column_known : (m : Model) (name : Name) (j : ℕ) → column_place m name ≡ Some j →
    (j < width m) × ((column m j).name ≡ name)
unfolding column_place
column_known m name j h =
    let p = position-Some (λ (c : ExactColumn). same c.name name) m.columns j no_column h in
    (p.0, same_true (column m j).name name p.1)

pub row_inside : (m : Model) (name : Name) (i : ℕ) → row_place m name ≡ Some i → i < height m
row_inside m name i h = (row_known m name i h).0

pub column_inside : (m : Model) (name : Name) (j : ℕ) → column_place m name ≡ Some j → j < width m
column_inside m name j h = (column_known m name j h).0

-- one name has the place
pub row_one : (m : Model) (a b : Name) (i : ℕ) → row_place m a ≡ Some i → row_place m b ≡ Some i → a ≡ b
row_one m a b i p q = sym (row_known m a i p).1 ∙ (row_known m b i q).1

pub column_one : (m : Model) (a b : Name) (j : ℕ) → column_place m a ≡ Some j → column_place m b ≡ Some j → a ≡ b
column_one m a b j p q = sym (column_known m a j p).1 ∙ (column_known m b j q).1
