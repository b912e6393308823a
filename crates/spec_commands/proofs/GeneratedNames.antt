-- The names of generated rows and columns are names that a model may have, and no two are the same.
--
-- `row_name_is`: the name of each of the first 256 generated rows is one that a row may have.
-- `column_name_is`: the name of each of the first 512 generated columns is one that a column may have.
-- `row_name_apart`: two of the first 256 generated rows have different names.
-- `column_name_apart`: two of the first 512 generated columns have different names.
-- `objective_apart`: no generated row has the name of the objective.
use Rattle.std.proofs.Common.{◌≡◌, ◌≢◌, ℕ, ◌+◌, ◌%◌, ◌^◌, ◌<◌, ◌≤◌, true, List}
use Rattle.std.proofs.Common.{[], ◌∷◌, ◌++◌, length, get_or, refl, ◌∙◌, ap, arith}
use Rattle.std.specs.Prelude.{decimal, codes, IsTrue}
use Rattle.std.specs.List.{list_all}
use Rattle.std.proofs.lemmas.List.Folds.{list_all-append}
use Rattle.std.proofs.lemmas.Fmt.{decimal_by_steps, length-decimal-le, decimal_injective}
use borrow.Author.Tests.{le-leb, lt-ltb}
use Rattle.spec_model.specs.Kept.{is_printable, is_name, is_row_name}
use Rattle.spec_commands.specs.Generated.{row_name, column_name}

-- the byte of each decimal digit is a printed one
digit_printed : (d : ℕ) → d < 10 → is_printable (48 + d) ≡ true
digit_printed d h = rw (le-leb 33 (48 + d) (omega arith), le-leb (48 + d) 126 (omega arith)) refl

-- the decimal digits of a number below 2 ^ 64 are printed bytes
decimal_printed : (n : ℕ) → n < 2 ^ 64 → list_all is_printable (decimal n) ≡ true
decimal_printed = decimal_by_steps (λ n ds. list_all is_printable ds ≡ true) one more
  where
    one : (n : ℕ) → n < 10 → list_all is_printable ((48 + n) ∷ []) ≡ true
    one n h = rw (digit_printed n h) refl

    more : (n : ℕ) (ds : List ℕ) → 10 ≤ n → list_all is_printable ds ≡ true →
        list_all is_printable (ds ++ ((48 + n % 10) ∷ [])) ≡ true
    more n ds l h =
        list_all-append is_printable ds ((48 + n % 10) ∷ []) ∙ rw (h, digit_printed (n % 10) (omega arith)) refl

-- a printed letter and a number below 1,000 make a name that a model may have
numbered_name : (letter n : ℕ) → is_printable letter ≡ true → n < 1000 → is_name (letter ∷ decimal n) ≡ true
unfolding is_name
numbered_name letter n h l =
    let few : length (decimal n) ≤ 3 = length-decimal-le 3 n (omega arith) (omega arith) (omega arith) in
    let some = lt-ltb 0 (length (letter ∷ decimal n)) (omega arith) in
    let short = le-leb (length (letter ∷ decimal n)) 64 (omega arith) in
    rw (some, short, h, decimal_printed n (omega arith)) refl

pub row_name_is : (i : ℕ) → i < 256 → IsTrue (is_row_name (row_name i))
unfolding row_name is_row_name
row_name_is i h = rw (numbered_name 82 (i + 1) refl (omega arith)) refl

pub column_name_is : (j : ℕ) → j < 512 → IsTrue (is_name (column_name j))
unfolding column_name
column_name_is j h = numbered_name 67 (j + 1) refl (omega arith)

-- names of the same letter with two different numbers up to 512 are different
numbered_apart : (letter i j : ℕ) → i < j → j < 512 → letter ∷ decimal (i + 1) ≢ letter ∷ decimal (j + 1)
numbered_apart letter i j l h = λ e.
    let same : decimal (i + 1) ≡ decimal (j + 1) = cc in
    let equal : i + 1 ≡ j + 1 = decimal_injective (i + 1) (j + 1) (omega arith) (omega arith) same in
    omega arith

pub row_name_apart : (i j : ℕ) → i < j → j < 256 → row_name i ≢ row_name j
unfolding row_name
row_name_apart i j l h = numbered_apart 82 i j l (omega arith)

pub column_name_apart : (i j : ℕ) → i < j → j < 512 → column_name i ≢ column_name j
unfolding column_name
column_name_apart = numbered_apart 67

pub objective_apart : (i : ℕ) → codes "cost" ≢ row_name i
unfolding row_name
objective_apart i = λ e. let letters : ◌≡◌ {A = ℕ} 99 82 = ap (λ (x : List ℕ). get_or x 0 0) e in omega arith
