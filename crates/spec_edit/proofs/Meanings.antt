-- What changes of a model mean, row by row, column by column and coefficient by coefficient.
--
-- `with_coefficient-means`: after a coefficient of a column becomes v, it is v, and all others are as they were.
-- `column-lowered`: after row i is removed, column j has its entries without that row.
-- `without_row-means`: after row i is removed, the later rows fall by one and each keeps its coefficients.
-- `new_coefficient`: a new row of a kept model has the coefficient 0 in each column.
use Rattle.std.proofs.Common.{◌≡◌, ◌≢◌, ℕ, ◌+◌, ◌<◌, ◌≤◌, Bool, true, false, ◌&&◌, cond}
use Rattle.std.proofs.Common.{eqb, ltb, set, get_or, refl, sym, ap, ap₂, ◌∙◌, arith, ⊎_elim}
use borrow.Author.Tests.{ltb-true, ltb-false, eqb-true, eqb-false}
use Rattle.std.proofs.Math.ListN.{get_or-map}
use Rattle.std.proofs.lemmas.Bool.{cases_lt, and_right}
use Rattle.std.proofs.lemmas.List.{get_or-set_same, get_or-set_other, get_or_past}
use Rattle.std.proofs.lemmas.List.Edits.{length-remove, get_or-remove_below, get_or-remove_above}
use Rattle.std.proofs.lemmas.List.Elements.{All-weaker}
use Rattle.spec_exact.specs.Fraction.{ℚ, 0ℚ}
use Rattle.spec_model.specs.Model.{Model, ExactRow, ExactColumn, no_row, no_column}
use Rattle.spec_model.specs.Model.{width, height, row, column, entry_of, coefficient}
use Rattle.spec_model.specs.Kept.{IsModel}
use Rattle.spec_edit.specs.Changes.{with_entry, without_entry, with_row, without_row}
use Rattle.spec_edit.specs.Meaning.{skipping, IsWithCoefficient, IsWithoutRow}
use Rattle.spec_edit.proofs.Keeping.{lowered}
use Rattle.spec_edit.proofs.Coefficients.{none_at, entry_of-with_entry, entry_of-without_entry}

-- ---- a coefficient

-- a test, and true, is that test
and_true : (t : Bool) → t && true ≡ t
and_true true = refl
and_true false = refl

pub with_coefficient-means : (m : Model) (i j : ℕ) (v : ℚ) → j < width m → IsWithCoefficient m i j v
with_coefficient-means m i j v l a b = by (eqb b j) refl
  where
    changed : ExactColumn
    changed = record (column m j) { entries = with_entry i v (column m j).entries }

    by : (t : Bool) → eqb b j ≡ t →
        entry_of (get_or (set m.columns j changed) b no_column).entries a
        ≡ cond (eqb a i && eqb b j) v (coefficient m a b)
    by true e =
        ap (λ k. entry_of (get_or (set m.columns j changed) k no_column).entries a) (eqb-true b j e)
        ∙ ap (λ (c : ExactColumn). entry_of c.entries a) (get_or-set_same m.columns j changed no_column l)
        ∙ entry_of-with_entry i v (column m j).entries a
        ∙ sym (ap₂ (λ t k. cond t v (coefficient m a k))
        (ap (λ t. eqb a i && t) e ∙ and_true (eqb a i)) (eqb-true b j e))
    by false e =
        ap (λ (c : ExactColumn). entry_of c.entries a)
        (get_or-set_other m.columns j b changed no_column (eqb-false b j e))
        ∙ sym (ap (λ t. cond t v (coefficient m a b)) (ap (λ t. eqb a i && t) e ∙ and_right (eqb a i) false refl))

-- ---- a row that is gone, and a new one

pub column-lowered : (m : Model) (i j : ℕ) → column (without_row m i) j ≡ lowered i (column m j)
unfolding without_entry
column-lowered m i j = get_or-map (lowered i) m.columns j no_column

-- once row i is removed, each row is the one that had its old number
others : (m : Model) (i a : ℕ) → i < height m → row (without_row m i) a ≡ row m (skipping i a)
others m i a l = by (ltb a i) refl
  where
    by : (t : Bool) → ltb a i ≡ t → row (without_row m i) a ≡ row m (cond t a (a + 1))
    by true e = get_or-remove_below m.rows i no_row a (ltb-true a i e) l
    by false e = get_or-remove_above m.rows i no_row a (ltb-false a i e) l

pub without_row-means : (m : Model) (i : ℕ) → i < height m → IsWithoutRow m i
without_row-means m i l =
    record {
      height = sym (length-remove m.rows i l);
      rows = λ a. others m i a l;
      coefficients =
          λ a j. ap (λ (c : ExactColumn). entry_of c.entries a) (column-lowered m i j)
          ∙ entry_of-without_entry i (column m j).entries a;
    }

pub new_coefficient : (m : Model) (r : ExactRow) (j : ℕ) → IsModel m → coefficient (with_row m r) (height m) j ≡ 0ℚ
new_coefficient m r j k = ⊎_elim known past (cases_lt j (width m))
  where
    known : j < width m → entry_of (column m j).entries (height m) ≡ 0ℚ
    known l =
        none_at (height m) (column m j).entries
        (All-weaker (λ e. e.0 < height m) (λ e. e.0 ≢ height m) (λ e p q. absurd (omega arith))
        (column m j).entries (k.columns j no_column l).entries.inside)

    past : width m ≤ j → entry_of (column m j).entries (height m) ≡ 0ℚ
    past l = ap (λ (c : ExactColumn). entry_of c.entries (height m)) (get_or_past m.columns j no_column l)
