-- Changing one field of a row or a column leaves a model that may be kept.
use Rattle.std.proofs.Common.{◌≡◌, ℕ, ◌<◌, List, Option, Result, Ok, Err, get_or, set, IfSome}
use Rattle.std.proofs.Common.{refl, sym, ap, ap₂, ◌∙◌, subst}
use Rattle.std.specs.Prelude.{OnOk, OnErr}
use Rattle.std.proofs.lemmas.List.{get_or_default, set-get_or}
use Rattle.spec_exact.specs.Fraction.{ℚ}
use Rattle.spec_exact.specs.Narrow.{IsNarrow}
use Rattle.spec_model.specs.Model.{Model, Name, Limits, ExactRow, ExactColumn, no_row, no_column, width, height, row}
use Rattle.spec_model.specs.Kept.{IsModel, FitsKind}
use Rattle.spec_edit.specs.Changes.{with_entry}
use Rattle.spec_edit.specs.Edited.{IsKeptBound}
use Rattle.spec_edit.proofs.Keeping.{with_cost-kept, with_coefficient-kept}
use Rattle.spec_edit.proofs.Keeping.{with_bounds-kept, with_rhs-kept, with_range-kept}
use Rattle.lp_model.specs.Indexed.{IsIndexed}
use Rattle.lp_model.proofs.NamePlaces.{names_set}

-- ---- row i, which is r, of a model that keeps the names of its rows and columns

module _ (m : Model) (by_row by_column : Option (List Name)) (kept : IsIndexed m by_row by_column) (i : ℕ)
    (r : ExactRow) (here : r ≡ get_or m.rows i r) (l : i < height m) where
  -- the row that is changed is row i of the model
  row_here : r ≡ get_or m.rows i no_row
  row_here = here ∙ get_or_default m.rows i r no_row l

  -- where the model with x as row i may be kept, and x has the row's name, it may be kept with the kept names
  row_set : (x : ExactRow) → x.name ≡ r.name → IsModel (record m { rows = set m.rows i x }) →
      IsIndexed (record m { rows = set m.rows i x }) by_row by_column
  row_set x e k =
      record {
        model = k;
        rows = names_set (λ (x : ExactRow). x.name) by_row m.rows i r x here l e kept.rows;
        columns = kept.columns;
      }

  -- giving row i another right side of at most 127 bits leaves a model that may be kept, with its kept names
  pub rhs_here : (v w : ℚ) → w ≡ v → IsNarrow v →
      IsIndexed (record m { rows = set m.rows i (record r { rhs = w }) }) by_row by_column
  rhs_here v w e narrow =
      row_set (record r { rhs = w }) refl
      (subst IsModel (ap₂ (λ r v. record m { rows = set m.rows i (record r { rhs = v }) }) (sym row_here) (sym e))
      (with_rhs-kept m i v kept.model l narrow))

  -- giving row i another range, which fits its kind, leaves a model that may be kept, with its kept names
  pub range_here : (range given : Option ℚ) → given ≡ range → FitsKind (row m i).kind range → IfSome range IsNarrow →
      IsIndexed (record m { rows = set m.rows i (record r { range = given }) }) by_row by_column
  range_here range given e fit narrow =
      row_set (record r { range = given }) refl
      (subst IsModel (ap₂ (λ r v. record m { rows = set m.rows i (record r { range = v }) }) (sym row_here) (sym e))
      (with_range-kept m i range kept.model l fit narrow))

-- ---- column j, which is x

module _ (m : Model) (j : ℕ) (x : ExactColumn) (here : x ≡ get_or m.columns j x) (l : j < width m) where
  -- the column that is changed is column j of the model
  column_here : x ≡ get_or m.columns j no_column
  column_here = here ∙ get_or_default m.columns j x no_column l

  -- setting column j to itself leaves the columns as they are
  stays : set m.columns j x ≡ m.columns
  stays = ap (set m.columns j) here ∙ set-get_or m.columns j x

  -- giving column j another cost of at most 127 bits leaves a model that may be kept
  pub cost_here : (v w : ℚ) → w ≡ v → IsModel m → IsNarrow v →
      IsModel (record m { columns = set m.columns j (record x { cost = w }) })
  cost_here v w e k narrow =
      subst IsModel
      (ap₂ (λ x v. record m { columns = set m.columns j (record x { cost = v }) }) (sym column_here) (sym e))
      (with_cost-kept m j v k l narrow)

  -- giving column j other bounds that may be kept leaves a model that may be kept
  pub bounds_here : (lower upper a b : Option ℚ) → a ≡ lower → b ≡ upper → IsModel m → IsKeptBound lower →
      IsKeptBound upper → IsModel (record m { columns = set m.columns j (record x { lower = a; upper = b }) })
  bounds_here lower upper a b e f k p q =
      let given : Limits = record { lower = a; upper = b } in
      let same : (let l : Limits = record { lower = lower; upper = upper } in l) ≡ given =
      ap₂ (λ a b. record { lower = a; upper = b }) (sym e) (sym f) in
      subst IsModel
      (ap₂ (λ x (l : Limits). record m { columns = set m.columns j (record x { lower = l.lower; upper = l.upper }) })
      (sym column_here) same)
      (with_bounds-kept m j (record { lower = lower; upper = upper }) k l p q)

  -- giving column j another coefficient in row i, or leaving it for lack of memory, leaves a model that may be kept
  pub entries_here : {T E : Type 0} (result : Result T E) (i : ℕ) (v : ℚ) (es : List (ℕ × ℚ)) →
      OnOk result (es ≡ with_entry i v x.entries) → OnErr result (es ≡ x.entries)
      → i < height m → IsModel m → IsNarrow v →
      IsModel (record m { columns = set m.columns j (record x { entries = es }) })
  entries_here (Ok done) i v es e f p k narrow =
      subst IsModel (ap (λ x. record m { columns = set m.columns j (record x { entries = with_entry i v x.entries }) })
      (sym column_here) ∙ ap (λ es. record m { columns = set m.columns j (record x { entries = es }) }) (sym e))
      (with_coefficient-kept m i j v k p l narrow)
  entries_here (Err fault) i v es e f p k narrow =
      subst (λ cs. IsModel (record m { columns = cs }))
      (sym (ap (λ es. set m.columns j (record x { entries = es })) f ∙ stays)) k
