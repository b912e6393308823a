-- Generated models may be kept.
use Rattle.std.proofs.Common.{◌≡◌, ◌≢◌, ℕ, List, ◌<◌, ◌≤◌, length, map, refl, sym, subst, arith}
use Rattle.std.specs.Prelude.{codes, IsTrue}
use Rattle.std.specs.List.{range_with_len}
use Rattle.std.proofs.lemmas.List.FromFn.{length-map-range_with_len}
use Rattle.std.proofs.lemmas.List.Elements.{All-map}
use Rattle.std.proofs.lemmas.List.Kept.{AllPairs-cons}
use Rattle.spec_exact.proofs.Narrow.{zero_narrow}
use Rattle.spec_model.specs.Model.{Name, ExactRow, ExactColumn}
use Rattle.spec_model.specs.Kept.{IsUsualModel, IsKeptColumn, IsNarrowRow, IsNarrowColumn, FitsKind}
use Rattle.spec_model.specs.Kept.{is_name}
use Rattle.spec_model.specs.Kept.{is_row_name, is_model_name, row_limit, column_limit}
use Rattle.spec_model.proofs.KeptModels.{zero_bound}
use Rattle.spec_commands.specs.Draws.{next, after}
use Rattle.spec_commands.specs.Generated.{at_column, generated_column, generated_columns}
use Rattle.spec_commands.specs.Generated.{generated_row, generated_rows, generated}
use Rattle.spec_commands.proofs.GeneratedNames.{row_name_is, row_name_apart, column_name_is, column_name_apart, objective_apart}
use Rattle.spec_commands.proofs.GeneratedNumbers.{number_from_narrow, number_from_bound}
use Rattle.spec_commands.proofs.GeneratedLists.{All-made, AllPairs-map}
use Rattle.spec_commands.proofs.GeneratedEntries.{entries-kept, entries_narrow}

-- a generated column below number 512 is one that a model with these rows may have
column-kept : (rows j s : ℕ) → j < 512 → IsKeptColumn rows (generated_column rows j s)
unfolding generated_column
column-kept rows j s h =
    record {
      name = column_name_is j h;
      lower = zero_bound;
      upper = number_from_bound 1 20 (next s) (omega arith) (omega arith) (omega arith);
      entries = entries-kept (after 2 s) rows;
    }

-- the numbers of a generated column have at most 127 bits
column_narrow : (rows j s : ℕ) → IsNarrowColumn (generated_column rows j s)
unfolding generated_column
column_narrow rows j s =
    record {
      cost = number_from_narrow 1 9 s (omega arith) (omega arith) (omega arith);
      lower = zero_narrow;
      upper = number_from_narrow 1 20 (next s) (omega arith) (omega arith) (omega arith);
      entries = entries_narrow (after 2 s) rows;
    }

-- the numbers of a generated row have at most 127 bits
row_narrow : (i s : ℕ) → IsNarrowRow (generated_row i s)
unfolding generated_row
row_narrow i s = record { rhs = number_from_narrow 10 90 s (omega arith) (omega arith) (omega arith); range = tt }

-- a generated model within the limits of rows and columns is usual
pub generated-kept : (seed rows columns : ℕ) → rows ≤ row_limit → columns ≤ column_limit →
    IsUsualModel (generated seed rows columns)
unfolding generated generated_rows generated_columns generated_row generated_column is_model_name is_row_name is_name
generated-kept seed rows columns h k =
    let s = at_column rows seed columns in
    let row : ℕ → ExactRow = λ i. generated_row i (after i s) in
    let column : ℕ → ExactColumn = λ j. generated_column rows j (at_column rows seed j) in
    let drawn : List ExactRow = map row (range_with_len 0 rows) in
    let height : length drawn ≡ rows = length-map-range_with_len row 0 rows in
    let name : ExactRow → Name = λ r. r.name in
    let wide : length (map column (range_with_len 0 columns)) ≡ columns = length-map-range_with_len column 0 columns in (
      record {
        few = record { few_rows = omega (arith, h, height); few_columns = omega (arith, k, wide) };
        name = refl;
        objective = refl;
        rows = All-made (λ (r : ExactRow). IsTrue (is_row_name r.name)) row rows (λ i l. row_name_is i (omega arith));
        ranges = All-made (λ (r : ExactRow). FitsKind r.kind r.range) row rows (λ i l. tt);
        columns =
            All-made (IsKeptColumn (length drawn)) column columns
            (λ j l.
            let kept = column-kept rows j (at_column rows seed j) (omega arith) in
            subst (λ n. IsKeptColumn n (column j)) (sym height) kept);
        rows_distinct =
            let apart = All-made (λ (r : ExactRow). codes "cost" ≢ r.name) row rows (λ i l. objective_apart i) in
            AllPairs-cons (λ (x y : Name). x ≢ y) (codes "cost") (map name drawn)
            (All-map (λ (x : Name). codes "cost" ≢ x) name drawn apart)
            (AllPairs-map (λ (x y : Name). x ≢ y) name row rows (λ i j l m. row_name_apart i j l (omega arith)));
        columns_distinct =
            AllPairs-map (λ (x y : Name). x ≢ y) (λ (c : ExactColumn). c.name) column columns
            (λ i j l m. column_name_apart i j l (omega arith));
        offset = zero_narrow;
        narrow_rows = All-made IsNarrowRow row rows (λ i l. row_narrow i (after i s));
        narrow_columns = All-made IsNarrowColumn column columns (λ j l. column_narrow rows j (at_column rows seed j));
      },
      record { few_rows = omega (arith, h, height); few_columns = omega (arith, k, wide) },
    )
