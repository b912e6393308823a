-- A range of a free row: a new one is refused, and to take it away changes nothing.
--
-- `range_refused`: a range for a free row is refused.
-- `none_unchanged`: taking away the range of a free row leaves a kept model as it was.
use Rattle.std.proofs.Common.{◌≡◌, ℕ, true, cond, List, Option, Some, None, Ok, Err, set, refl, sym, ap, ◌∙◌}
use Rattle.std.proofs.lemmas.List.{set-get_or}
use Rattle.spec_exact.specs.Fraction.{ℚ}
use Rattle.spec_model.specs.Model.{Model, Name, ExactRow, no_row, row, is_free}
use Rattle.spec_model.specs.Kept.{IsModel, FitsKind, row_place}
use Rattle.spec_model.proofs.NamePlaces.{row_inside}
use Rattle.spec_edit.specs.declared.edit.Edit.TheVariants.{SetRange}
use Rattle.spec_edit.specs.declared.edit.EditFault.TheVariants.{FreeRow}
use Rattle.spec_edit.specs.Changes.{with_range}
use Rattle.spec_edit.specs.Edited.{OrFault, ◌>>=◌, known, is_ranged_free, with_new_range, edited}

-- a new range is refused for a free row, and else set at its row
at_place : (m : Model) (name : Name) (i : ℕ) (range : Option ℚ) → row_place m name ≡ Some i →
    edited m (SetRange name range)
    ≡ cond {A = OrFault Model} (is_ranged_free (row m i).kind range) (Err (FreeRow name)) (Ok (with_range m i range))
unfolding edited with_new_range
at_place m name i range e =
    ap (λ place. known place name >>= λ i.
    cond {A = OrFault Model} (is_ranged_free (row m i).kind range) (Err (FreeRow name)) (Ok (with_range m i range))) e

pub range_refused : (m : Model) (name : Name) (i : ℕ) (v : ℚ) → row_place m name ≡ Some i →
    is_free (row m i).kind ≡ true → edited m (SetRange name (Some v)) ≡ Err (FreeRow name)
range_refused m name i v e free =
    at_place m name i (Some v) e
    ∙ ap (λ t. cond {A = OrFault Model} t (Err (FreeRow name)) (Ok (with_range m i (Some v)))) free

-- a free row whose range fits its kind stays as it is where its range is taken away
without_range : (r : ExactRow) → FitsKind r.kind r.range → is_free r.kind ≡ true → record r { range = None } ≡ r
without_range r fits free = by r.range refl fits
  where
    by : (range : Option ℚ) → r.range ≡ range → FitsKind r.kind range → record r { range = None } ≡ r
    by None e f = ap (λ range. record r { range = range }) (sym e)
    by (Some v) e f = absurd (cc)

pub none_unchanged : (m : Model) (name : Name) (i : ℕ) → IsModel m → row_place m name ≡ Some i →
    is_free (row m i).kind ≡ true → edited m (SetRange name None) ≡ Ok m
none_unchanged m name i k e free =
    at_place m name i None e
    ∙ ap (λ (rows : List ExactRow). Ok (record m { rows = rows }))
    (ap (set m.rows i) (without_range (row m i) (k.ranges i no_row (row_inside m name i e)) free)
    ∙ set-get_or m.rows i no_row)
