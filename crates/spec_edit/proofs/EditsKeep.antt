-- An edit of a model that is kept leaves one that may be kept.
use Rattle.std.proofs.Common.{◌≡◌, not, leb, Ok, subst, ⊎_elim}
use borrow.Author.Tests.{leb-false}
use Rattle.std.proofs.lemmas.Bool.{not-false}
use Rattle.spec_exact.specs.Fraction.{ℚ, neg_ℚ}
use Rattle.spec_exact.specs.Narrow.{IsNarrow}
use Rattle.spec_exact.proofs.Narrow.{neg_narrow}
use Rattle.spec_model.specs.Model.{Model, Name, ExactRow, height}
use Rattle.spec_model.specs.Kept.{IsModelWithin, IsNarrowRow, is_row_name, row_limit, usual_limits}
use Rattle.spec_edit.specs.declared.edit.Edit.TheVariants.{AddRow, DelRow, AddCol, DelCol, SetCost}
use Rattle.spec_edit.specs.declared.edit.Edit.TheVariants.{SetCoef, SetRhs, SetRange, SetBound, SetSense}
use Rattle.spec_edit.specs.declared.edit.EditFault.TheVariants.{FreeRow}
use Rattle.spec_edit.specs.Changes.{with_row, without_row, without_column, with_cost}
use Rattle.spec_edit.specs.Changes.{with_coefficient, with_bounds, with_sense}
use Rattle.spec_edit.specs.Edited.{ExactEdit, IsKeptEdit, is_row_taken, is_ranged_free, new_row, with_right_side, edited}
use Rattle.spec_edit.proofs.Searches.{test_ok, same_ok, at_row, at_column, at_entry, right_side-ok, range-ok, fits}
use Rattle.spec_edit.proofs.Keeping.{with_row-kept, without_row-kept, without_column-kept}
use Rattle.spec_edit.proofs.Keeping.{with_cost-kept, with_coefficient-kept, with_bounds-kept, with_rhs-kept}
use Rattle.spec_edit.proofs.Keeping.{with_range-kept, with_offset-kept, with_sense-kept}
use Rattle.spec_edit.proofs.NewColumns.{new_column-kept}

-- a new row of numbers of 127 bits that is not refused keeps a model within the usual limits
new_row-kept : (m n : Model) (r : ExactRow) → IsModelWithin usual_limits m → IsNarrowRow r → new_row m r ≡ Ok n →
    IsModelWithin usual_limits n
unfolding new_row
new_row-kept m n r k narrow h =
    let a = test_ok (not (is_row_name r.name)) _ _ n h in
    let b = test_ok (is_row_taken m r.name) _ _ n a.1 in
    let c = test_ok (leb row_limit (height m)) _ _ n b.1 in
    let d = test_ok (is_ranged_free r.kind r.range) (FreeRow r.name) (Ok (with_row m r)) n c.1 in
    subst (IsModelWithin usual_limits) (same_ok (with_row m r) n d.1)
    (with_row-kept m r k (leb-false row_limit (height m) c.0) (not-false (is_row_name r.name) a.0) b.0
    (fits r.kind r.range d.0) narrow)

-- a new right side of 127 bits that is not refused keeps a model within the usual limits
right_side-kept : (m n : Model) (name : Name) (v : ℚ) → IsModelWithin usual_limits m → IsNarrow v →
    with_right_side m name v ≡ Ok n →
    IsModelWithin usual_limits n
right_side-kept m n name v k narrow h =
    ⊎_elim
    (λ e. subst (IsModelWithin usual_limits) e (with_offset-kept m (neg_ℚ v) k (neg_narrow v narrow)))
    (λ s. subst (IsModelWithin usual_limits) s.model (with_rhs-kept m s.place v k s.inside narrow))
    (right_side-ok m n name v h)

-- an edit of kept numbers that is not refused keeps a model within the usual limits
pub edited-kept : (m n : Model) (e : ExactEdit) → IsModelWithin usual_limits m → IsKeptEdit e → edited m e ≡ Ok n →
    IsModelWithin usual_limits n
unfolding edited
edited-kept m n (AddRow name kind rhs range) k may h =
    new_row-kept m n (record { name = name; kind = kind; rhs = rhs; range = range }) k
    (record { rhs = may.0; range = may.1 }) h
edited-kept m n (DelRow name) k may h =
    let s = at_row m n name (λ i. without_row m i) h in subst (IsModelWithin usual_limits) s.model
    (without_row-kept m s.place k s.inside)
edited-kept m n (AddCol name cost pairs) k may h = new_column-kept m n name cost pairs k may.0 may.1 h
edited-kept m n (DelCol name) k may h =
    let s = at_column m n name (λ j. without_column m j) h in
    subst (IsModelWithin usual_limits) s.model (without_column-kept m s.place k s.inside)
edited-kept m n (SetCost name v) k may h =
    let s = at_column m n name (λ j. with_cost m j v) h in
    subst (IsModelWithin usual_limits) s.model (with_cost-kept m s.place v k s.inside may)
edited-kept m n (SetCoef row column v) k may h =
    let s = at_entry m n row column (λ i j. with_coefficient m i j v) h in
    subst (IsModelWithin usual_limits) s.model (with_coefficient-kept m s.row s.column v k s.row_inside s.column_inside
    may)
edited-kept m n (SetRhs name v) k may h = right_side-kept m n name v k may h
edited-kept m n (SetRange name range) k may h =
    let s = range-ok m n name range h in
    subst (IsModelWithin usual_limits) s.model (with_range-kept m s.place range k s.inside s.fit may)
edited-kept m n (SetBound name bounds) k may h =
    let s = at_column m n name (λ j. with_bounds m j bounds) h in
    subst (IsModelWithin usual_limits) s.model (with_bounds-kept m s.place bounds k s.inside may.0 may.1)
edited-kept m n (SetSense sense) k may h = subst (IsModelWithin usual_limits) (same_ok (with_sense m sense) n h)
    (with_sense-kept m sense k)
