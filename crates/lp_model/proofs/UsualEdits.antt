-- An edit of a usual model leaves a usual one.
use Rattle.std.proofs.Common.{◌≡◌, ℕ, ◌<◌, not, leb, Result, Ok, Err, sym, subst, arith, length-append, ⊎_elim, []}
use Rattle.std.proofs.Common.{◌∷◌, set}
use Rattle.std.specs.Bool.{⊤}
use borrow.Author.Tests.{leb-false}
use Rattle.std.proofs.lemmas.List.{length-set, length-map}
use Rattle.std.proofs.lemmas.List.Edits.{length-remove}
use Rattle.spec_exact.specs.Fraction.{ℚ, neg_ℚ}
use Rattle.spec_model.specs.declared.parts.SizeLimits.{SizeLimits}
use Rattle.spec_model.specs.Model.{Model, Name, ExactRow, ExactColumn, height, width, row, column}
use Rattle.spec_model.specs.Kept.{IsWithin, IsUsual, usual_limits, is_row_name, row_limit}
use Rattle.spec_edit.specs.declared.edit.Edit.TheVariants.{AddRow, DelRow, AddCol, DelCol, SetCost}
use Rattle.spec_edit.specs.declared.edit.Edit.TheVariants.{SetCoef, SetRhs, SetRange, SetBound, SetSense}
use Rattle.spec_edit.specs.declared.edit.EditFault.TheVariants.{FreeRow}
use Rattle.spec_edit.specs.Changes.{with_row, without_row, without_column}
use Rattle.spec_edit.specs.Changes.{with_cost, with_coefficient, with_bounds, with_offset}
use Rattle.spec_edit.specs.Changes.{with_sense}
use Rattle.spec_edit.specs.Edited.{ExactEdit, Pairs, is_row_taken, is_ranged_free, column_of, new_row, new_column}
use Rattle.spec_edit.specs.Edited.{with_right_side, edited}
use Rattle.spec_edit.proofs.Keeping.{lowered}
use Rattle.spec_edit.proofs.Searches.{test_ok, same_ok, at_row, at_column, at_entry, right_side-ok, range-ok}
use Rattle.spec_edit.proofs.NewColumns.{new_column-ok}
use Rattle.lp_model.specs.declared.edit.EditError.{EditError}
use Rattle.lp_model.specs.declared.edit.EditError.TheVariants.{Fault, NoMemory}
use Rattle.lp_model.specs.Answer.{Applies}

module _ (limits : SizeLimits) (m : Model) (k : IsWithin limits m) where
  -- a model within limits of size is within them without row i
  without_row-within : (i : ℕ) → i < height m → IsWithin limits (without_row m i)
  without_row-within i l =
      record {
        few_rows = omega (arith, length-remove m.rows i l, k.few_rows);
        few_columns = omega (arith, length-map m.columns (lowered i), k.few_columns);
      }

  -- a model within limits of size is within them without column j
  without_column-within : (j : ℕ) → j < width m → IsWithin limits (without_column m j)
  without_column-within j l =
      record { few_rows = k.few_rows; few_columns = omega (arith, length-remove m.columns j l, k.few_columns) }

  -- a model within limits of size is within them with another row i
  row_set-within : (i : ℕ) (r : ExactRow) → IsWithin limits (record m { rows = set m.rows i r })
  row_set-within i r =
      record { few_rows = omega (arith, length-set m.rows i r, k.few_rows); few_columns = k.few_columns }

  -- a model within limits of size is within them with another column j
  column_set-within : (j : ℕ) (c : ExactColumn) → IsWithin limits (record m { columns = set m.columns j c })
  column_set-within j c =
      record { few_rows = k.few_rows; few_columns = omega (arith, length-set m.columns j c, k.few_columns) }

  -- a model within limits of size is within them with another offset
  with_offset-within : (v : ℚ) → IsWithin limits (with_offset m v)
  with_offset-within v = record { few_rows = k.few_rows; few_columns = k.few_columns }

-- ---- edits

-- a usual model with a new row, where that is allowed, is usual
new_row-usual : (m n : Model) (r : ExactRow) → IsUsual m → new_row m r ≡ Ok n → IsUsual n
unfolding new_row
new_row-usual m n r k h =
    let a = test_ok (not (is_row_name r.name)) _ _ n h in
    let b = test_ok (is_row_taken m r.name) _ _ n a.1 in
    let c = test_ok (leb row_limit (height m)) _ _ n b.1 in
    let d = test_ok (is_ranged_free r.kind r.range) (FreeRow r.name) (Ok (with_row m r)) n c.1 in
    subst IsUsual (same_ok (with_row m r) n d.1)
    (record {
      few_rows = omega (arith, length-append m.rows (r ∷ []), leb-false row_limit (height m) c.0);
      few_columns = k.few_columns;
    })

-- a usual model with a new column, where that is allowed, is usual
new_column-usual : (m n : Model) (name : Name) (cost : ℚ) (pairs : Pairs) → IsUsual m →
    new_column m name cost pairs ≡ Ok n → IsUsual n
new_column-usual m n name cost pairs k h =
    let s = new_column-ok m n name cost pairs h in
    subst IsUsual s.model
    (record {
      few_rows = k.few_rows;
      few_columns = omega (arith, length-append m.columns (column_of name cost s.entries ∷ []), s.few);
    })

-- a usual model with another right side of a row, where that is allowed, is usual
right_side-usual : (m n : Model) (name : Name) (v : ℚ) → IsUsual m → with_right_side m name v ≡ Ok n → IsUsual n
right_side-usual m n name v k h =
    ⊎_elim
    (λ e. subst IsUsual e (with_offset-within usual_limits m k (neg_ℚ v)))
    (λ s. subst IsUsual s.model (row_set-within usual_limits m k s.place _))
    (right_side-ok m n name v h)

-- a usual model after an edit that is allowed is usual
edited-usual : (m n : Model) (e : ExactEdit) → IsUsual m → edited m e ≡ Ok n → IsUsual n
unfolding edited
edited-usual m n (AddRow name kind rhs range) k h =
    new_row-usual m n (record { name = name; kind = kind; rhs = rhs; range = range }) k h
edited-usual m n (DelRow name) k h =
    let s = at_row m n name (λ i. without_row m i) h in
    subst IsUsual s.model (without_row-within usual_limits m k s.place s.inside)
edited-usual m n (AddCol name cost pairs) k h = new_column-usual m n name cost pairs k h
edited-usual m n (DelCol name) k h =
    let s = at_column m n name (λ j. without_column m j) h in
    subst IsUsual s.model (without_column-within usual_limits m k s.place s.inside)
edited-usual m n (SetCost name v) k h =
    let s = at_column m n name (λ j. with_cost m j v) h in
    subst IsUsual s.model (column_set-within usual_limits m k s.place _)
edited-usual m n (SetCoef row column v) k h =
    let s = at_entry m n row column (λ i j. with_coefficient m i j v) h in
    subst IsUsual s.model (column_set-within usual_limits m k s.column _)
edited-usual m n (SetRhs name v) k h = right_side-usual m n name v k h
edited-usual m n (SetRange name range) k h =
    let s = range-ok m n name range h in subst IsUsual s.model (row_set-within usual_limits m k s.place _)
edited-usual m n (SetBound name bounds) k h =
    let s = at_column m n name (λ j. with_bounds m j bounds) h in
    subst IsUsual s.model (column_set-within usual_limits m k s.place _)
edited-usual m n (SetSense sense) k h =
    subst IsUsual (same_ok (with_sense m sense) n h) (record { few_rows = k.few_rows; few_columns = k.few_columns })

-- a usual model is usual after an edit, whatever the edit is answered
pub still_usual : (m n : Model) (e : ExactEdit) (result : Result ⊤ EditError) → IsUsual m → Applies m e n result →
    IsUsual n
still_usual m n e (Ok done) k h = edited-usual m n e k h
still_usual m n e (Err (Fault fault)) k h = subst IsUsual (sym h.1) k
still_usual m n e (Err NoMemory) k h = subst IsUsual (sym h.1) k
