-- Some sides alone of a model that may be kept make one that may be kept.
use Rattle.std.proofs.Common.{◌≡◌, ◌≢◌, ℕ, zero, suc, ◌<◌, Bool, true, false, Option, Some, None, List, []}
use Rattle.std.proofs.Common.{◌∷◌, length, map, get_or, All, IfSome, IsTrue, refl, sym, ap, ◌∙◌, subst, subst₂, arith}
use Rattle.std.specs.List.{AllPairs}
use Rattle.std.proofs.lemmas.List.{length-map, get_or-map}
use Rattle.std.proofs.lemmas.List.Kept.{AllPairs-cons}
use Rattle.spec_exact.specs.Fraction.{ℚ}
use Rattle.spec_exact.specs.Narrow.{IsNarrow}
use Rattle.spec_exact.specs.Run.{made}
use Rattle.spec_exact.proofs.RunsInOrder.{length-made, get_or-made}
use Rattle.spec_exact.proofs.Narrow.{zero_narrow}
use Rattle.spec_model.specs.declared.parts.SizeLimits.{SizeLimits}
use Rattle.spec_model.specs.Model.{Model, Name, ExactRow, ExactColumn, no_row, no_column, width, height, row, column, limits_of}
use Rattle.spec_model.specs.Kept.{IsModelWithin, IsWithin, IsKeptColumn, IsNarrowRow, IsNarrowColumn, IsBound, FitsKind}
use Rattle.spec_model.specs.Kept.{is_row_name, row_names, column_names}
use Rattle.spec_iis.specs.declared.side.Side.{Side}
use Rattle.spec_iis.specs.Only.{has_lower, has_upper, stays, with_sides, only_row, picked, rank, only_row_at}
use Rattle.spec_iis.specs.Only.{if_listed, only_column_at, only}
use Rattle.spec_iis.proofs.Picked.{length-picked, All-picked, map-picked, AllPairs-picked, rank_few}
use Rattle.spec_iis.proofs.Entries.{only_entries-kept, only_entries-narrow}

-- a row with some of its limits alone has the name of the row
name_of_only : (lower upper : Bool) (r : ExactRow) → (only_row lower upper r).name ≡ r.name
unfolding only_row
name_of_only lower upper r = by lower upper (limits_of r).lower (limits_of r).upper
  where
    by : (a b : Bool) (l u : Option ℚ) → (with_sides a b r l u).name ≡ r.name
    by true true l u = refl
    by true false None u = refl
    by true false (Some l) None = refl
    by true false (Some l) (Some u) = refl
    by false true None u = refl
    by false true (Some l) None = refl
    by false true (Some l) (Some u) = refl
    by false false l u = refl

-- where a row's range fits its kind, so it does in the row with some of its limits alone
fit_of_only : (lower upper : Bool) (r : ExactRow) → FitsKind r.kind r.range →
    FitsKind (only_row lower upper r).kind (only_row lower upper r).range
unfolding only_row
fit_of_only lower upper r h = by lower upper (limits_of r).lower (limits_of r).upper
  where
    by : (a b : Bool) (l u : Option ℚ) → FitsKind (with_sides a b r l u).kind (with_sides a b r l u).range
    by true true l u = h
    by true false None u = h
    by true false (Some l) None = h
    by true false (Some l) (Some u) = tt
    by false true None u = h
    by false true (Some l) None = h
    by false true (Some l) (Some u) = tt
    by false false l u = h

-- what holds of a bound, if one is given, holds of the bound that stays, if it does
listed_still : (P : ℚ → Type 0) (t : Bool) (o : Option ℚ) → IfSome o P → IfSome (if_listed t o) P
listed_still P true o h = h
listed_still P false o h = tt

-- item i of the names of a list is the name of the list's item i
name_at : {X : Type 0} (f : X → Name) (xs : List X) (i : ℕ) (d : X) (e : Name) → i < length xs →
    get_or (map f xs) i e ≡ f (get_or xs i d)
name_at f xs i d e l = get_or-map f xs i d e l

-- where a model is within limits of size, the model with some sides alone is within them
pub only_within : {limits : SizeLimits} (m : Model) (sides : List Side) → IsWithin limits m →
    IsWithin limits (only m sides)
unfolding only
only_within m sides k =
    record {
      few_rows =
          omega (
            arith,
            length-picked (stays sides) (only_row_at m sides) (height m),
            rank_few (stays sides) (height m),
            k.few_rows,
          );
      few_columns = omega (arith, length-made (width m) (only_column_at m sides), k.few_columns);
    }

module _ {limits : SizeLimits} (m : Model) (sides : List Side) (k : IsModelWithin limits m) where
  -- the rows of the model with some sides alone have the names of the rows that stay, in order
  row_names-only : row_names (only m sides) ≡ picked (stays sides) (λ i. (only_row_at m sides i).name) (height m)
  unfolding only
  row_names-only = map-picked (stays sides) (λ (r : ExactRow). r.name) (only_row_at m sides) (height m)

  -- row i with some sides alone has the name of row i
  name_own : (i : ℕ) → i < height m → (e : Name) → (only_row_at m sides i).name ≡ get_or (row_names m) i e
  name_own i l e =
      name_of_only (has_lower sides true i) (has_upper sides true i) (row m i)
      ∙ sym (name_at (λ (r : ExactRow). r.name) m.rows i no_row e l)

  -- two rows of a kept model have different names with some sides alone
  names_apart : (i j : ℕ) → i < j → j < height m → (only_row_at m sides i).name ≢ (only_row_at m sides j).name
  names_apart i j l h =
      let a : i < height m = omega arith in
      subst₂ (λ x y. x ≢ y) (sym (name_own i a [])) (sym (name_own j h []))
      (k.rows_distinct (suc i) (suc j) [] (omega arith) (omega (arith, length-map m.rows (λ (r : ExactRow). r.name))))

  -- no row with some sides alone has the name of the objective
  not_objective : (i : ℕ) → i < height m → m.objective ≢ (only_row_at m sides i).name
  not_objective i l =
      subst (λ y. m.objective ≢ y) (sym (name_own i l []))
      (k.rows_distinct zero (suc i) [] (omega arith) (omega (arith, length-map m.rows (λ (r : ExactRow). r.name))))

  -- in the model with some sides alone no two of the rows and the objective have one name
  only_rows_distinct : AllPairs (λ x y. x ≢ y) (m.objective ∷ row_names (only m sides))
  only_rows_distinct =
      subst (λ names. AllPairs (λ x y. x ≢ y) (m.objective ∷ names)) (sym row_names-only)
      (AllPairs-cons (λ x y. x ≢ y) m.objective (picked (stays sides) (λ i. (only_row_at m sides i).name) (height m))
      (All-picked (stays sides) (λ i. (only_row_at m sides i).name) (λ y. m.objective ≢ y) (height m)
      (λ i l e. not_objective i l))
      (AllPairs-picked (stays sides) (λ x y. x ≢ y) (λ i. (only_row_at m sides i).name) (height m) names_apart))

  -- column j of the model with some sides alone is column j with its listed bounds and entries that stay
  columns_are : (j : ℕ) (d : ExactColumn) → j < width m →
      get_or (made (width m) (only_column_at m sides)) j d ≡ only_column_at m sides j
  columns_are j d l = get_or-made (width m) (only_column_at m sides) j d l

  -- the model with some sides alone has as many columns as the model
  few : length (made (width m) (only_column_at m sides)) ≡ width m
  few = length-made (width m) (only_column_at m sides)

  -- what holds of each column of the model with some sides alone holds of the list of them
  All-columns : (P : ExactColumn → Type 0) → ((j : ℕ) → j < width m → P (only_column_at m sides j)) →
      All P (made (width m) (only_column_at m sides))
  All-columns P h = λ j d l. let b : j < width m = omega (arith, few) in subst P (sym (columns_are j d b)) (h j b)

  -- in the model with some sides alone no two columns have one name
  only_columns_distinct : AllPairs (λ x y. x ≢ y) (column_names (only m sides))
  unfolding only
  only_columns_distinct = λ i j d l h.
      let b : j < width m = omega (arith, few, length-map (made (width m) (only_column_at m sides)) (λ (c : ExactColumn). c.name)) in
      let a : i < width m = omega arith in
      subst₂ (λ x y. x ≢ y) (own i d a) (own j d b)
      (k.columns_distinct i j d l (omega (arith, length-map m.columns (λ (c : ExactColumn). c.name))))
    where
      own : (j : ℕ) (e : Name) → j < width m →
          get_or (column_names m) j e
          ≡ get_or (map (λ (c : ExactColumn). c.name) (made (width m) (only_column_at m sides))) j e
      own j e l =
          name_at (λ (c : ExactColumn). c.name) m.columns j no_column e l
          ∙ sym (name_at (λ (c : ExactColumn). c.name) (made (width m) (only_column_at m sides)) j no_column e
          (omega (arith, few)) ∙ ap (λ (c : ExactColumn). c.name) (columns_are j no_column l))

  -- each column of a kept model with some sides alone may be kept over the rows that stay
  kept_column : (j : ℕ) → j < width m → IsKeptColumn (rank (stays sides) (height m)) (only_column_at m sides j)
  kept_column j l =
      let c = k.columns j no_column l in
      record {
        name = c.name;
        lower = listed_still (λ b. IsBound (Some b)) (has_lower sides false j) (column m j).lower c.lower;
        upper = listed_still (λ b. IsBound (Some b)) (has_upper sides false j) (column m j).upper c.upper;
        entries = only_entries-kept (stays sides) (height m) (column m j).entries c.entries;
      }

  -- each column of a kept model with some sides alone has numbers of at most 127 bits
  narrow_column : (j : ℕ) → j < width m → IsNarrowColumn (only_column_at m sides j)
  narrow_column j l =
      let c = k.narrow_columns j no_column l in
      record {
        cost = zero_narrow;
        lower = listed_still IsNarrow (has_lower sides false j) (column m j).lower c.lower;
        upper = listed_still IsNarrow (has_upper sides false j) (column m j).upper c.upper;
        entries = only_entries-narrow (stays sides) (column m j).entries c.entries;
      }

  -- a model that is kept within limits of size is so with some sides alone, if the rows' numbers have at most 127 bits
  pub only_kept : All IsNarrowRow (only m sides).rows → IsModelWithin limits (only m sides)
  unfolding only
  only_kept narrow = record {
    few = only_within m sides k.few;
    name = k.name;
    objective = k.objective;
    rows = All-picked (stays sides) (only_row_at m sides) (λ (r : ExactRow). IsTrue (is_row_name r.name)) (height m)
        (λ i l e. subst (λ name. IsTrue (is_row_name name))
        (sym (name_of_only (has_lower sides true i) (has_upper sides true i) (row m i))) (k.rows i no_row l));
    ranges = All-picked (stays sides) (only_row_at m sides) (λ (r : ExactRow). FitsKind r.kind r.range) (height m)
        (λ i l e. fit_of_only (has_lower sides true i) (has_upper sides true i) (row m i) (k.ranges i no_row l));
    columns =
        subst (λ n. All (IsKeptColumn n) (made (width m) (only_column_at m sides)))
        (sym (length-picked (stays sides) (only_row_at m sides) (height m)))
        (All-columns (IsKeptColumn (rank (stays sides) (height m))) kept_column);
    rows_distinct = only_rows_distinct;
    columns_distinct = only_columns_distinct;
    offset = zero_narrow;
    narrow_rows = narrow;
    narrow_columns = All-columns IsNarrowColumn narrow_column;
  }
