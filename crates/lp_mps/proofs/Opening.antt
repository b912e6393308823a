-- The column of a card: one that is not read yet, with no other of its name, and fewer than the limit.
use Rattle.std.proofs.Common.{◌≡◌, ℕ, ◌<◌, ◌≤◌, Bool, true, false, Some, None, Ok, Err}
use Rattle.std.proofs.Common.{[], ◌∷◌, ◌++◌, length, refl, sym, ap, ◌∙◌, subst}
use borrow.Author.Tests.{lt-ltb, le-ltb}
use Rattle.std.specs.List.{list_any}
use Rattle.spec_text.specs.Words.{same}
use Rattle.spec_model.specs.declared.parts.SizeLimits.{SizeLimits}
use Rattle.spec_model.specs.Model.{Name, ExactColumn}
use Rattle.spec_mps.specs.declared.fault.Code.TheVariants as code
use Rattle.spec_mps.specs.Reader.{State, columns_with, whole_columns, is_open, new_column, opened}
use Rattle.lp_mps.specs.Named.{ColumnsRead}

abbrev taken : Name → ColumnsRead → Bool
taken name v = list_any (λ (c : ExactColumn). same c.name name) (columns_with v.whole v.current)

abbrev count : ColumnsRead → ℕ
count v = length (columns_with v.whole v.current)

module _ (limits : SizeLimits) (s : State) (name : Name) (closed : ColumnsRead)
    (whole : closed ≡ record { whole = whole_columns s; current = None }) (other : is_open s.column name ≡ false) where
  -- where a column has the name already, opening one with it fails with `ColumnTaken`
  pub opened_taken : taken name closed ≡ true → opened limits s name ≡ Err code.ColumnTaken
  unfolding opened
  opened_taken e = rw (other, sym (ap (taken name) whole) ∙ e) refl

  -- where no column has the name and there are as many columns as the limit, opening one fails with `Limit`
  pub opened_full : (n : ℕ) → taken name closed ≡ false → n ≡ count closed → limits.columns ≤ n →
      opened limits s name ≡ Err code.Limit
  unfolding opened
  opened_full n e h l =
      let many : limits.columns ≤ length (whole_columns s) = subst (λ k. limits.columns ≤ k) (h ∙ ap count whole) l in
      rw (other, sym (ap (taken name) whole) ∙ e, le-ltb (length (whole_columns s)) limits.columns many) refl

  -- where no column has the name and there are fewer columns than the limit, opening one makes it the current column
  pub opened_new : (n : ℕ) (new : State) → taken name closed ≡ false → n ≡ count closed → n < limits.columns →
      new ≡ record s {
        columns = closed.whole;
        column = Some (new_column name);
        lowered = s.lowered ++ false ∷ [];
        paired = [];
      } → opened limits s name ≡ Ok new
  unfolding opened
  opened_new n new e h l made =
      let few : length (whole_columns s) < limits.columns = subst (λ k. k < limits.columns) (h ∙ ap count whole) l in
      rw (other, sym (ap (taken name) whole) ∙ e, lt-ltb (length (whole_columns s)) limits.columns few)
      (ap Ok (ap
      (λ (v : ColumnsRead). record s {
        columns = v.whole;
        column = Some (new_column name);
        lowered = s.lowered ++ false ∷ [];
        paired = [];
      }) (sym whole) ∙ sym made))
