-- A model that is kept within limits of size is so after each change.
--
-- `with_row-kept`: a kept model stays so after a new row, whose name is free and whose parts may be kept, if there is
--   room.
-- `with_column-kept`: a kept model stays so after a new column, whose name is free and whose parts may be kept, if
--   there is room.
-- `without_row-kept`: a kept model stays so after a row is removed.
-- `without_column-kept`: a kept model stays so after a column is removed.
-- `with_cost-kept`: a kept model stays so after a column gets a cost of 127 bits.
-- `with_coefficient-kept`: a kept model stays so after a coefficient becomes a number of 127 bits.
-- `with_bounds-kept`: a kept model stays so after a column gets bounds that may be kept.
-- `with_rhs-kept`: a kept model stays so after a row gets a right side of 127 bits.
-- `with_range-kept`: a kept model stays so after a row gets a range of 127 bits, or none, that its kind may have.
-- `with_offset-kept`: a kept model stays so after the objective gets an offset of 127 bits.
-- `with_sense-kept`: a kept model stays so after the objective gets another sense.
use Rattle.std.proofs.Common.{◌≡◌, ◌≢◌, ℕ, suc, ◌+◌, ◌-◌, ◌<◌, ◌≤◌, false, Option, List, [], ◌∷◌, ◌++◌, length}
use Rattle.std.proofs.Common.{map, set, All, IfSome, IsTrue, refl, sym, ap, subst, arith, length-append}
use Rattle.std.specs.List.{AllPairs, remove}
use Rattle.std.proofs.lemmas.List.{map-append, length-set, length-map}
use Rattle.std.proofs.lemmas.List.Edits.{length-remove}
use Rattle.std.proofs.lemmas.List.Elements.{All-map, All-push, All-set, All-weaker}
use Rattle.std.proofs.lemmas.List.Quantifiers.{all_pairs_push, all_pairs_remove}
use Rattle.spec_exact.specs.Fraction.{ℚ}
use Rattle.spec_exact.specs.Narrow.{IsNarrow}
use Rattle.spec_model.specs.declared.parts.Sense.{Sense}
use Rattle.spec_model.specs.declared.parts.SizeLimits.{SizeLimits}
use Rattle.spec_model.specs.Model.{Model, Name, Limits, ExactRow, ExactColumn}
use Rattle.spec_model.specs.Model.{no_row, no_column, width, height, row, column}
use Rattle.spec_model.specs.Kept.{IsModelWithin, IsKeptColumn, IsNarrowRow, IsNarrowColumn, FitsKind}
use Rattle.spec_model.specs.Kept.{is_row_name, row_names, column_names}
use Rattle.spec_model.proofs.KeptModels.{kept_higher}
use Rattle.spec_edit.specs.Changes.{with_row, with_column, changed_row, changed_column, without_entry}
use Rattle.spec_edit.specs.Changes.{with_entry, without_row, without_column, with_cost, with_coefficient}
use Rattle.spec_edit.specs.Changes.{with_bounds, with_rhs, with_range, with_offset, with_sense}
use Rattle.spec_edit.specs.Edited.{IsKeptBound, is_row_taken, is_column_taken}
use Rattle.spec_edit.proofs.ListLemmas.{All-remove, map-remove, map-map_unseen}
pub use Rattle.spec_edit.proofs.EntryLemmas.{with_entry-kept, with_entry-narrow}
pub use Rattle.spec_edit.proofs.EntryLemmas.{without_entry-kept, without_entry-narrow}
use Rattle.spec_edit.proofs.NameLemmas.{row_names-changed, column_names-changed, row_new, column_new}

abbrev name_of_row : ExactRow → Name
name_of_row r = r.name

abbrev name_of_column : ExactColumn → Name
name_of_column c = c.name

abbrev HasFitRange : ExactRow → Type 0
HasFitRange r = FitsKind r.kind r.range

abbrev Distinct : List Name → Type 0
Distinct = AllPairs (λ x y. x ≢ y)

-- ---- other rows or columns

-- a kept model may be kept with other rows that fit it, another sense and offset
other_rows-kept : {limits : SizeLimits} (m : Model) (sense : Sense) (offset : ℚ) (rows : List ExactRow) →
    IsModelWithin limits m → IsNarrow offset →
    length rows ≤ limits.rows → All (λ r. IsTrue (is_row_name r.name)) rows → All HasFitRange rows →
    All (IsKeptColumn (length rows)) m.columns → Distinct (m.objective ∷ map name_of_row rows) → All IsNarrowRow rows →
    IsModelWithin limits (record m { sense = sense; offset = offset; rows = rows })
other_rows-kept m sense offset rows k narrow few named ranges fit distinct narrow_rows =
    record {
      few = record { few_rows = few; few_columns = k.few.few_columns };
      name = k.name;
      objective = k.objective;
      rows = named;
      ranges = ranges;
      columns = fit;
      rows_distinct = distinct;
      columns_distinct = k.columns_distinct;
      offset = narrow;
      narrow_rows = narrow_rows;
      narrow_columns = k.narrow_columns;
    }

-- a kept model may be kept with other columns that fit it
other_columns-kept : {limits : SizeLimits} (m : Model) (columns : List ExactColumn) → IsModelWithin limits m →
    length columns ≤ limits.columns →
    All (IsKeptColumn (height m)) columns → Distinct (map name_of_column columns) → All IsNarrowColumn columns →
    IsModelWithin limits (record m { columns = columns })
other_columns-kept m columns k few kept distinct narrow =
    record {
      few = record { few_rows = k.few.few_rows; few_columns = few };
      name = k.name;
      objective = k.objective;
      rows = k.rows;
      ranges = k.ranges;
      columns = kept;
      rows_distinct = k.rows_distinct;
      columns_distinct = distinct;
      offset = k.offset;
      narrow_rows = k.narrow_rows;
      narrow_columns = narrow;
    }

-- ---- one more row or column

pub with_row-kept : {limits : SizeLimits} (m : Model) (r : ExactRow) → IsModelWithin limits m → height m < limits.rows →
    IsTrue (is_row_name r.name) →
    is_row_taken m r.name ≡ false → HasFitRange r → IsNarrowRow r → IsModelWithin limits (with_row m r)
with_row-kept m r k few named new fit narrow =
    let one_more : length (m.rows ++ r ∷ []) ≡ length m.rows + 1 = length-append m.rows (r ∷ []) in
    other_rows-kept m m.sense m.offset (m.rows ++ r ∷ []) k k.offset (omega arith)
    (All-push (λ (r : ExactRow). IsTrue (is_row_name r.name)) m.rows r k.rows named)
    (All-push HasFitRange m.rows r k.ranges fit)
    (All-weaker (IsKeptColumn (length m.rows)) (IsKeptColumn (length (m.rows ++ r ∷ [])))
    (kept_higher _ _ (omega arith)) m.columns k.columns)
    (subst Distinct (ap (λ names. m.objective ∷ names) (sym (map-append name_of_row m.rows (r ∷ []))))
    (all_pairs_push (λ x y. x ≢ y) (m.objective ∷ row_names m) r.name k.rows_distinct (row_new m r.name new)))
    (All-push IsNarrowRow m.rows r k.narrow_rows narrow)

pub with_column-kept : {limits : SizeLimits} (m : Model) (c : ExactColumn) → IsModelWithin limits m →
    width m < limits.columns →
    is_column_taken m c.name ≡ false → IsKeptColumn (height m) c → IsNarrowColumn c →
    IsModelWithin limits (with_column m c)
with_column-kept m c k few new kept narrow =
    let one_more : length (m.columns ++ c ∷ []) ≡ length m.columns + 1 = length-append m.columns (c ∷ []) in
    other_columns-kept m (m.columns ++ c ∷ []) k (omega arith)
    (All-push (IsKeptColumn (length m.rows)) m.columns c k.columns kept)
    (subst Distinct (sym (map-append name_of_column m.columns (c ∷ [])))
    (all_pairs_push (λ x y. x ≢ y) (column_names m) c.name k.columns_distinct (column_new m c.name new)))
    (All-push IsNarrowColumn m.columns c k.narrow_columns narrow)

-- ---- one row or column less

-- the column c once row i is removed: without the entry of row i, and with the rows behind it numbered anew
abbrev pub lowered : ℕ → ExactColumn → ExactColumn
lowered i c = record c { entries = without_entry i c.entries }

-- a column that may be kept may be kept without one of its rows
lowered-kept : (n i : ℕ) → i < n → (c : ExactColumn) → IsKeptColumn n c → IsKeptColumn (n - 1) (lowered i c)
lowered-kept n i l c k =
    record { name = k.name; lower = k.lower; upper = k.upper; entries = without_entry-kept n i c.entries k.entries l }

-- a column of numbers of 127 bits stays one without one of its rows
lowered-narrow : (i : ℕ) (c : ExactColumn) → IsNarrowColumn c → IsNarrowColumn (lowered i c)
lowered-narrow i c k =
    record { cost = k.cost; lower = k.lower; upper = k.upper; entries = without_entry-narrow i c.entries k.entries }

pub without_row-kept : {limits : SizeLimits} (m : Model) (i : ℕ) → IsModelWithin limits m → i < height m →
    IsModelWithin limits (without_row m i)
without_row-kept m i k l =
    let one_less : length (remove m.rows i) + 1 ≡ length m.rows = length-remove m.rows i l in
    let height_is : length m.rows - 1 ≡ length (remove m.rows i) = omega arith in
    record {
      few =
          record {
            few_rows = omega (arith, k.few.few_rows);
            few_columns = omega (arith, length-map m.columns (lowered i), k.few.few_columns);
          };
      name = k.name;
      objective = k.objective;
      rows = All-remove (λ (r : ExactRow). IsTrue (is_row_name r.name)) m.rows i k.rows;
      ranges = All-remove HasFitRange m.rows i k.ranges;
      columns =
          subst (λ n. All (IsKeptColumn n) (map (lowered i) m.columns)) height_is
          (All-map (IsKeptColumn (length m.rows - 1)) (lowered i) m.columns
          (All-weaker (IsKeptColumn (length m.rows)) (λ c. IsKeptColumn (length m.rows - 1) (lowered i c))
          (lowered-kept (length m.rows) i l) m.columns k.columns));
      rows_distinct =
          subst Distinct (ap (λ names. m.objective ∷ names) (sym (map-remove name_of_row m.rows i)))
          (all_pairs_remove (λ x y. x ≢ y) (m.objective ∷ row_names m) (suc i)
          (omega (arith, length-map m.rows name_of_row)) k.rows_distinct);
      columns_distinct =
          subst Distinct (sym (map-map_unseen name_of_column (lowered i) (λ c. refl) m.columns)) k.columns_distinct;
      offset = k.offset;
      narrow_rows = All-remove IsNarrowRow m.rows i k.narrow_rows;
      narrow_columns =
          All-map IsNarrowColumn (lowered i) m.columns
          (All-weaker IsNarrowColumn (λ c. IsNarrowColumn (lowered i c)) (lowered-narrow i) m.columns k.narrow_columns);
    }

pub without_column-kept : {limits : SizeLimits} (m : Model) (j : ℕ) → IsModelWithin limits m → j < width m →
    IsModelWithin limits (without_column m j)
without_column-kept m j k l =
    let one_less : length (remove m.columns j) + 1 ≡ length m.columns = length-remove m.columns j l in
    other_columns-kept m (remove m.columns j) k (omega (arith, k.few.few_columns))
    (All-remove (IsKeptColumn (length m.rows)) m.columns j k.columns)
    (subst Distinct (sym (map-remove name_of_column m.columns j))
    (all_pairs_remove (λ x y. x ≢ y) (column_names m) j
    (omega (arith, length-map m.columns name_of_column)) k.columns_distinct))
    (All-remove IsNarrowColumn m.columns j k.narrow_columns)

-- ---- a row or a column that is changed

-- a kept model may be kept where one row changes to a fitting one of its name
changed_row-kept : {limits : SizeLimits} (m : Model) (i : ℕ) (change : ExactRow → ExactRow) →
    IsModelWithin limits m → i < height m →
    (change (row m i)).name ≡ (row m i).name → HasFitRange (change (row m i)) → IsNarrowRow (change (row m i)) →
    IsModelWithin limits (changed_row change m i)
changed_row-kept m i change k l named fit narrow =
    let long : length (set m.rows i (change (row m i))) ≡ length m.rows = length-set m.rows i (change (row m i)) in
    other_rows-kept m m.sense m.offset (set m.rows i (change (row m i))) k k.offset (omega (arith, k.few.few_rows))
    (All-set (λ (r : ExactRow). IsTrue (is_row_name r.name)) m.rows i (change (row m i))
    (subst (λ name. IsTrue (is_row_name name)) (sym named) (k.rows i no_row l)) k.rows)
    (All-set HasFitRange m.rows i (change (row m i)) fit k.ranges)
    (subst (λ n. All (IsKeptColumn n) m.columns) (sym long) k.columns)
    (subst (λ names. Distinct (m.objective ∷ names)) (sym (row_names-changed m i change l named)) k.rows_distinct)
    (All-set IsNarrowRow m.rows i (change (row m i)) narrow k.narrow_rows)

-- a kept model may be kept where one column changes to a fitting one of its name
changed_column-kept : {limits : SizeLimits} (m : Model) (j : ℕ) (change : ExactColumn → ExactColumn) →
    IsModelWithin limits m → j < width m →
    (change (column m j)).name ≡ (column m j).name → IsKeptColumn (height m) (change (column m j)) →
    IsNarrowColumn (change (column m j)) → IsModelWithin limits (changed_column change m j)
changed_column-kept m j change k l named kept narrow =
    let changed : List ExactColumn = set m.columns j (change (column m j)) in
    let long : length changed ≡ length m.columns = length-set m.columns j (change (column m j)) in
    other_columns-kept m changed k (omega (arith, k.few.few_columns))
    (All-set (IsKeptColumn (length m.rows)) m.columns j (change (column m j)) kept k.columns)
    (subst Distinct (sym (column_names-changed m j change l named)) k.columns_distinct)
    (All-set IsNarrowColumn m.columns j (change (column m j)) narrow k.narrow_columns)

-- ---- costs, coefficients and bounds

pub with_cost-kept : {limits : SizeLimits} (m : Model) (j : ℕ) (v : ℚ) → IsModelWithin limits m → j < width m →
    IsNarrow v → IsModelWithin limits (with_cost m j v)
with_cost-kept m j v k l narrow =
    let c = k.columns j no_column l in
    let n = k.narrow_columns j no_column l in
    changed_column-kept m j (λ (c : ExactColumn). record c { cost = v }) k l refl
    (record { name = c.name; lower = c.lower; upper = c.upper; entries = c.entries })
    (record { cost = narrow; lower = n.lower; upper = n.upper; entries = n.entries })

pub with_coefficient-kept : {limits : SizeLimits} (m : Model) (i j : ℕ) (v : ℚ) → IsModelWithin limits m →
    i < height m → j < width m → IsNarrow v →
    IsModelWithin limits (with_coefficient m i j v)
with_coefficient-kept m i j v k p q narrow =
    let c = k.columns j no_column q in
    let n = k.narrow_columns j no_column q in
    changed_column-kept m j (λ (c : ExactColumn). record c { entries = with_entry i v c.entries }) k q refl
    (record {
      name = c.name;
      lower = c.lower;
      upper = c.upper;
      entries = with_entry-kept (height m) i v (column m j).entries c.entries p;
    })
    (record {
      cost = n.cost;
      lower = n.lower;
      upper = n.upper;
      entries = with_entry-narrow i v (column m j).entries n.entries narrow;
    })

pub with_bounds-kept : {limits : SizeLimits} (m : Model) (j : ℕ) (l : Limits) → IsModelWithin limits m → j < width m →
    IsKeptBound l.lower →
    IsKeptBound l.upper → IsModelWithin limits (with_bounds m j l)
with_bounds-kept m j l k q lower upper =
    let c = k.columns j no_column q in
    let n = k.narrow_columns j no_column q in
    changed_column-kept m j (λ (c : ExactColumn). record c { lower = l.lower; upper = l.upper }) k q refl
    (record { name = c.name; lower = lower.0; upper = upper.0; entries = c.entries })
    (record { cost = n.cost; lower = lower.1; upper = upper.1; entries = n.entries })

-- ---- right sides, ranges, the offset and the sense

pub with_rhs-kept : {limits : SizeLimits} (m : Model) (i : ℕ) (v : ℚ) → IsModelWithin limits m → i < height m →
    IsNarrow v → IsModelWithin limits (with_rhs m i v)
with_rhs-kept m i v k l narrow =
    changed_row-kept m i (λ (r : ExactRow). record r { rhs = v }) k l refl (k.ranges i no_row l)
    (record { rhs = narrow; range = (k.narrow_rows i no_row l).range })

pub with_range-kept : {limits : SizeLimits} (m : Model) (i : ℕ) (range : Option ℚ) → IsModelWithin limits m →
    i < height m →
    FitsKind (row m i).kind range → IfSome range IsNarrow → IsModelWithin limits (with_range m i range)
with_range-kept m i range k l fit narrow =
    changed_row-kept m i (λ (r : ExactRow). record r { range = range }) k l refl fit
    (record { rhs = (k.narrow_rows i no_row l).rhs; range = narrow })

-- a kept model may be kept with another sense and an offset of 127 bits
same_rows-kept : {limits : SizeLimits} (m : Model) (sense : Sense) (v : ℚ) → IsModelWithin limits m → IsNarrow v →
    IsModelWithin limits (record m { sense = sense; offset = v })
same_rows-kept m sense v k narrow =
    other_rows-kept m sense v m.rows k narrow k.few.few_rows k.rows k.ranges k.columns k.rows_distinct k.narrow_rows

pub with_offset-kept : {limits : SizeLimits} (m : Model) (v : ℚ) → IsModelWithin limits m → IsNarrow v →
    IsModelWithin limits (with_offset m v)
with_offset-kept m v k narrow = same_rows-kept m m.sense v k narrow

pub with_sense-kept : {limits : SizeLimits} (m : Model) (sense : Sense) → IsModelWithin limits m →
    IsModelWithin limits (with_sense m sense)
with_sense-kept m sense k = same_rows-kept m sense m.offset k k.offset
