-- A row whose name is not taken, put where there is room.
use Rattle.std.proofs.Common.{◌≡◌, Bool, true, false, Option, Some, Ok, Err, List, [], ◌∷◌, ◌++◌}
use Rattle.std.proofs.Common.{length, nat_lt, refl, sym, ap, ◌∙◌}
use Rattle.spec_model.specs.declared.parts.Kind.{Kind}
use Rattle.spec_model.specs.declared.parts.SizeLimits.{SizeLimits}
use Rattle.spec_model.specs.Model.{Name, ExactRow}
use Rattle.spec_mps.specs.declared.fault.Code.TheVariants as code
use Rattle.spec_mps.specs.Reader.{State, is_first, new_row}
use Rattle.lp_mps.specs.Parts.{put_row}

abbrev has_room : SizeLimits → State → Bool
has_room limits s = nat_lt (length s.rows) limits.rows

module _ (limits : SizeLimits) (s : State) (kind : Kind) (name : Name) where
  -- where a row is the first free row, putting it makes its name that of the objective
  pub objective_put : (new : Option Name) → is_first s kind ≡ true → new ≡ Some name →
      put_row limits s kind name ≡ Ok (record s { objective = new })
  objective_put new o e = rw o (ap (λ x. Ok (record s { objective = x })) (sym e))

  -- where a row is not the first free row and there is room, putting it adds a new row at the end
  pub row_put : (row : ExactRow) (new : List ExactRow) → is_first s kind ≡ false → has_room limits s ≡ true →
      row ≡ new_row kind name → new ≡ s.rows ++ row ∷ [] → put_row limits s kind name ≡ Ok (record s { rows = new })
  row_put row new o r e f =
      rw (o, r) (ap (λ xs. Ok (record s { rows = xs })) (sym (f ∙ ap (λ x. s.rows ++ x ∷ []) e)))

  -- where a row is not the first free row and there is no room, putting it fails with `Limit`
  pub row_full : is_first s kind ≡ false → has_room limits s ≡ false → put_row limits s kind name ≡ Err code.Limit
  row_full o r = rw (o, r) refl
