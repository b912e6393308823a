-- Rows that are kept one after the other in one block, and the places of the block at which their entries are.
--
-- `length-rows_of`: the rows of a block are as many as were asked for.
-- `at-rows_of`: the entry of row i in column k is the item of the block at place i * n + k.
-- `inside`: where m rows have width n, place i * n + k is one of the block's m * n places.
-- `row_width`: where a block has m * n items, each of its m rows has n.
-- `place_in`: the place of an entry is inside the block, and no number on the way to it overflows.
-- `row_in`: a row of the rows that a block is seen as is one of the block's m rows.
-- `narrow_rows`: where all items of a block are within the limit, all entries of its rows are.
use Rattle.std.proofs.Common.{◌≡◌, ℕ, zero, suc, ◌+◌, ◌*◌, ◌<◌, ◌≤◌, List, [], ◌∷◌, length}
use Rattle.std.proofs.Common.{take, drop, get_or, refl, sym, subst, ap, ap₂, ◌∙◌, arith}
use Rattle.std.proofs.Math.ListN.{set}
use Rattle.std.proofs.Math.Nat.{zero-mul, suc-mul, mul-le-mul_right}
use Rattle.std.proofs.Math.Seq.{take-set-lt}
use Rattle.std.proofs.lemmas.List.{drop-drop, drop-set-lt, drop-set-add, take-set-le}
use Rattle.std.proofs.lemmas.List.{length-take-le, length-drop, get_or-take, get_or-drop}
use Rattle.spec_exact.specs.Fraction.{ℚ, 0ℚ, whole}
use Rattle.spec_simplex.specs.Tableau.{at_place}
use Rattle.std.proofs.Common.{⊎_elim}
use Rattle.std.specs.Prelude.{All}
use Rattle.std.proofs.lemmas.Bool.{cases_lt}
use Rattle.std.proofs.lemmas.List.{get_or_past}
use Rattle.std.proofs.lemmas.List.Elements.{All-get_or, All-take, All-drop}
use Rattle.spec_exact.specs.Laws.{IsWithin}
use Rattle.spec_exact.specs.Narrow.{number_limit}
use Rattle.lp_tableau.specs.Grid.{rows_of, IsBlock, IsNarrowGrid}

pub length-rows_of : (n m : ℕ) (xs : List ℚ) → length (rows_of n m xs) ≡ m
length-rows_of n zero xs = refl
length-rows_of n (suc m) xs = ap suc (length-rows_of n m (drop n xs))

-- the n places of row 0 and those of i rows more are the places of i + 1 rows
next_at : (n i : ℕ) → n + i * n ≡ suc i * n
next_at n i = omega (arith, suc-mul i n)

-- row i begins after i rows
row-rows_of : (n m i : ℕ) (xs : List ℚ) → i < m → get_or (rows_of n m xs) i [] ≡ take n (drop (i * n) xs)
row-rows_of n zero i xs h = absurd (omega arith)
row-rows_of n (suc m) zero xs h = ap (λ k. take n (drop k xs)) (sym (zero-mul n))
row-rows_of n (suc m) (suc i) xs h =
    row-rows_of n m i (drop n xs) (omega arith)
    ∙ ap (take n) (drop-drop (i * n) n xs ∙ ap (λ k. drop k xs) (next_at n i))

-- what stands in row i at column k
pub at-rows_of : (n m i k : ℕ) (xs : List ℚ) → i < m → k < n → at_place (rows_of n m xs) i k ≡ get_or xs (i * n + k) 0ℚ
at-rows_of n m i k xs h l =
    ap (λ row. get_or row k 0ℚ) (row-rows_of n m i xs h)
    ∙ get_or-take n (drop (i * n) xs) k 0ℚ l ∙ get_or-drop (i * n) xs k 0ℚ

-- a place of the block is a place of its row
pub inside : (n m i k : ℕ) → i < m → k < n → i * n + k < m * n
inside n m i k h l =
    let e : suc i * n ≡ i * n + n = suc-mul i n in
    let g : suc i * n ≤ m * n = mul-le-mul_right n (omega arith) in
    omega (arith, e, g)

-- a write into the block is a write into its row
set-rows_of : (n m i k : ℕ) (xs : List ℚ) (v : ℚ) → i < m → k < n →
    rows_of n m (set xs (i * n + k) v) ≡ set (rows_of n m xs) i (set (get_or (rows_of n m xs) i []) k v)
set-rows_of n zero i k xs v h l = absurd (omega arith)
set-rows_of n (suc m) zero k xs v h l =
    let e : zero * n + k ≡ k = omega (arith, zero-mul n) in
    ap (λ j. rows_of n (suc m) (set xs j v)) e
    ∙ ap₂ (λ row rows. row ∷ rows_of n m rows) (take-set-lt n xs k v l) (drop-set-lt n xs k v l)
set-rows_of n (suc m) (suc i) k xs v h l =
    let e : suc i * n + k ≡ n + (i * n + k) = omega (arith, suc-mul i n) in
    ap (λ j. rows_of n (suc m) (set xs j v)) e
    ∙ ap₂ (λ row rows. row ∷ rows_of n m rows)
    (take-set-le n xs (n + (i * n + k)) v (omega arith)) (drop-set-add n xs (i * n + k) v)
    ∙ ap (λ rows. take n xs ∷ rows) (set-rows_of n m i k (drop n xs) v (omega arith) l)

-- all rows are as wide as the block asks for
pub row_width : (n m i : ℕ) (xs : List ℚ) → i < m → length xs ≡ m * n → length (get_or (rows_of n m xs) i []) ≡ n
row_width n m i xs h e =
    let s : suc i * n ≡ i * n + n = suc-mul i n in
    let g : suc i * n ≤ m * n = mul-le-mul_right n (omega arith) in
    ap length (row-rows_of n m i xs h)
    ∙ length-take-le n (drop (i * n) xs) (omega (arith, length-drop (i * n) xs, s, g, e))

-- the place in a block of what stands in row i at column k
pub record IsPlace (n m i k : ℕ) (xs : List ℚ) : Type 0 where
  pub row : i * n ≤ 262144
  pub place : i * n + k ≤ 263168
  pub inside : i * n + k < length xs

pub place_in : (n m i k : ℕ) (xs : List ℚ) → IsBlock m n xs → i < m → k < n → IsPlace n m i k xs
place_in n m i k xs b h l =
    let g : i * n ≤ 256 * n = mul-le-mul_right n (omega (arith, h, b.few_rows)) in
    record {
      row = omega (arith, g, b.few_columns);
      place = omega (arith, g, b.few_columns, l);
      inside = omega (arith, inside n m i k h l, b.size);
    }

-- in a block that is seen as these rows
pub row_in : (n m i : ℕ) (xs : List ℚ) (rows : List (List ℚ)) → rows_of n m xs ≡ rows → i < length rows → i < m
row_in n m i xs rows e h = omega (arith, h, length-rows_of n m xs, ap length e)

module _ (n m i k : ℕ) (xs : List ℚ) (rows : List (List ℚ)) (e : rows_of n m xs ≡ rows)
    (b : IsBlock m n xs) (h : i < length rows) (l : k < length (get_or rows i [])) where
  row : i < m
  row = row_in n m i xs rows e h

  pub column_in : k < n
  column_in = omega (arith, l, row_width n m i xs row b.size, ap (λ rows. length (get_or rows i [])) e)

  pub at_is : get_or xs (i * n + k) 0ℚ ≡ at_place rows i k
  at_is = sym (at-rows_of n m i k xs row column_in) ∙ ap (λ rows. at_place rows i k) e

  pub set_is : (v : ℚ) → rows_of n m (set xs (i * n + k) v) ≡ set rows i (set (get_or rows i []) k v)
  set_is v = set-rows_of n m i k xs v row column_in ∙ ap (λ rows. set rows i (set (get_or rows i []) k v)) e

-- ---- fractions within the limit

-- 0 is within the limit of numbers
zero_within : IsWithin number_limit 0ℚ
unfolding whole
zero_within = record { num_fits = omega arith; den_fits = omega arith }

-- where all items of a list are within the limit, so is the item at any place, or the 0 that is read behind the list
within_item : (xs : List ℚ) (k : ℕ) → All (IsWithin number_limit) xs → IsWithin number_limit (get_or xs k 0ℚ)
within_item xs k h =
    ⊎_elim (λ l. All-get_or (IsWithin number_limit) xs k 0ℚ l h)
    (λ g. subst (IsWithin number_limit) (sym (get_or_past xs k 0ℚ g)) zero_within) (cases_lt k (length xs))

-- where all items of a block are within the limit, so is the entry of any row in any column
within_rows : (n m : ℕ) (xs : List ℚ) (i k : ℕ) → All (IsWithin number_limit) xs →
    IsWithin number_limit (at_place (rows_of n m xs) i k)
within_rows n zero xs i k h = within_item [] k (λ j d l. absurd (omega (arith, l)))
within_rows n (suc m) xs zero k h = within_item (take n xs) k (All-take (IsWithin number_limit) n xs h)
within_rows n (suc m) xs (suc i) k h = within_rows n m (drop n xs) i k (All-drop (IsWithin number_limit) n xs h)

pub narrow_rows : (n m : ℕ) (xs : List ℚ) (rows : List (List ℚ)) → rows_of n m xs ≡ rows →
    All (IsWithin number_limit) xs →
    IsNarrowGrid rows
narrow_rows n m xs rows e h = subst IsNarrowGrid e (record { each = λ i k. within_rows n m xs i k h })
