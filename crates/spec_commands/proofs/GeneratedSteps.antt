-- A generated model with one row more, and with one column more, and how many numbers were drawn for it.
--
-- `after_more`: after n + 1 draws the state is the next one after n draws.
-- `entries_some`: where the draw for row n says so, one entry more is drawn for it, behind those of the rows before.
-- `at_row_some`: where row n has an entry, two numbers are drawn for it.
-- `entries_none`: where the draw for row n does not say so, the entries are those of the rows before.
-- `at_row_none`: where row n has no entry, one number is drawn for it.
-- `generated_columns_more`: n + 1 generated columns are the first n of them and column n.
-- `at_column_more`: column n takes two draws and those of its rows.
-- `generated_rows_more`: n + 1 generated rows are the first n of them and row n.
-- `entries_first`: a column of no rows has no entries.
-- `at_row_first`: before the first row no number of the column's entries is drawn.
-- `generated_columns_first`: no columns are the empty list.
-- `at_column_first`: before the first column the state is the seed.
-- `generated_rows_first`: no rows are the empty list.
use Rattle.std.proofs.Common.{◌≡◌, ◌≢◌, ℕ, ◌+◌, ◌%◌, [], ◌∷◌, ◌++◌, refl, ap, add-one, ◌∙◌, append-nil, arith}
use borrow.Author.Tests.{eq-eqb, ne_eqb}
use Rattle.std.proofs.lemmas.List.FromFn.{map-range_with_len_more}
use Rattle.spec_commands.specs.Draws.{next, draw, after}
use Rattle.spec_commands.specs.Generated.{number_from, has_entry, entry, entries, at_row, at_column}
use Rattle.spec_commands.specs.Generated.{generated_column, generated_columns, generated_row, generated_rows}

pub after_more : (n s : ℕ) → after (n + 1) s ≡ next (after n s)
after_more n s = ap (λ k. after k s) (add-one n)

-- a row with an entry, which is drawn next
pub entries_some : (s n : ℕ) → draw (at_row s n) % 3 ≡ 0 →
    entries s (n + 1) ≡ entries s n ++ (n, number_from 1 9 (next (at_row s n))) ∷ []
unfolding entries entry has_entry
entries_some s n h = ap (entries s) (add-one n) ∙ rw (eq-eqb (draw (at_row s n) % 3) 0 h) refl

pub at_row_some : (s n : ℕ) → draw (at_row s n) % 3 ≡ 0 → at_row s (n + 1) ≡ next (next (at_row s n))
unfolding at_row has_entry
at_row_some s n h = ap (at_row s) (add-one n) ∙ rw (eq-eqb (draw (at_row s n) % 3) 0 h) refl

-- a row without one
pub entries_none : (s n : ℕ) → draw (at_row s n) % 3 ≢ 0 → entries s (n + 1) ≡ entries s n
unfolding entries entry has_entry
entries_none s n h =
    ap (entries s) (add-one n) ∙ rw (ne_eqb (draw (at_row s n) % 3) 0 h) (append-nil (entries s n))

pub at_row_none : (s n : ℕ) → draw (at_row s n) % 3 ≢ 0 → at_row s (n + 1) ≡ next (at_row s n)
unfolding at_row has_entry
at_row_none s n h = ap (at_row s) (add-one n) ∙ rw (ne_eqb (draw (at_row s n) % 3) 0 h) refl

pub generated_columns_more : (seed rows n : ℕ) →
    generated_columns seed rows (n + 1)
    ≡ generated_columns seed rows n ++ generated_column rows n (at_column rows seed n) ∷ []
unfolding generated_columns
generated_columns_more seed rows n =
    map-range_with_len_more (λ j. generated_column rows j (at_column rows seed j)) 0 n n (omega arith)

pub at_column_more : (rows seed n : ℕ) →
    at_column rows seed (n + 1) ≡ at_row (after 2 (at_column rows seed n)) rows
unfolding at_column
at_column_more rows seed n = ap (at_column rows seed) (add-one n)

pub generated_rows_more : (s n : ℕ) →
    generated_rows s (n + 1) ≡ generated_rows s n ++ generated_row n (after n s) ∷ []
unfolding generated_rows
generated_rows_more s n = map-range_with_len_more (λ i. generated_row i (after i s)) 0 n n (omega arith)

-- none at first
pub entries_first : (s : ℕ) → entries s 0 ≡ []
unfolding entries
entries_first s = refl

pub at_row_first : (s : ℕ) → at_row s 0 ≡ s
unfolding at_row
at_row_first s = refl

pub generated_columns_first : (seed rows : ℕ) → generated_columns seed rows 0 ≡ []
unfolding generated_columns
generated_columns_first seed rows = refl

pub at_column_first : (rows seed : ℕ) → at_column rows seed 0 ≡ seed
unfolding at_column
at_column_first rows seed = refl

pub generated_rows_first : (s : ℕ) → generated_rows s 0 ≡ []
unfolding generated_rows
generated_rows_first s = refl
