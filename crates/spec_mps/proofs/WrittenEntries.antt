-- The entries of a column of a written text, read one after another.
--
-- `entries_ascend`: entries of a kept column with numbers within 127 bits are ascending, nonzero and of its rows.
-- `below_more`: entries below one row are below each later row.
-- `below_push`: entries below a row stay so with one more entry below it at the end.
-- `paired_more`: where all rows with a number are below one row, they are below each later row.
-- `not_paired`: a row above all rows with a number has no number.
-- `entry_put`: an entry put into a column whose entries are all of earlier rows goes to the end.
use Rattle.std.proofs.Common.{◌≡◌, ◌≢◌, ℕ, suc, ◌<◌, ◌≤◌, Bool, true, false, List, [], ◌∷◌, ◌++◌, refl, ap, arith}
use Rattle.std.specs.List.{All, AllPairs}
use borrow.Author.Tests.{le-ltb}
use Rattle.spec_exact.specs.Fraction.{ℚ, 0ℚ, eq_ℚ}
use Rattle.spec_exact.specs.Narrow.{IsNarrow}
use Rattle.spec_exact.proofs.Same.{eq_if}
use Rattle.spec_model.specs.Model.{ExactColumn}
use Rattle.spec_model.specs.Kept.{AreEntries}
use Rattle.spec_mps.specs.declared.target.Target.{Target}
use Rattle.spec_mps.specs.declared.target.Target.TheVariants.{Objective, Row}
use Rattle.spec_mps.specs.Reader.{is_among, put_entry, with_number}

-- an entry that is not 0, of at most 127 bits, in one of n rows that is not below `low`
pub record IsNext (n low : ℕ) (e : ℕ × ℚ) : Type 0 where
  pub above : low ≤ e.0
  pub inside : e.0 < n
  pub not_zero : e.1 ≢ 0ℚ
  pub narrow : IsNarrow e.1

-- entries that are not 0, of at most 127 bits, in strictly ascending rows from `low` on, of n rows
abbrev pub Ascend : ℕ → ℕ → List (ℕ × ℚ) → Type 0
Ascend n low [] = Unit {0}
Ascend n low (e ∷ es) = IsNext n low e × Ascend n (suc e.0) es

-- entries of 127 bits in ascending rows from low on, none 0, ascend from low
ascend_from : (n low : ℕ) (es : List (ℕ × ℚ)) → All (λ e. low ≤ e.0) es → All (λ e. e.0 < n) es →
    AllPairs (λ d e. d.0 < e.0) es → All (λ e. e.1 ≢ 0ℚ) es → All (λ e. IsNarrow e.1) es → Ascend n low es
ascend_from n low [] above inside ascending not_zero narrow = tt
ascend_from n low (e ∷ es) above inside ascending not_zero narrow = (
  record {
    above = above 0 e (omega arith);
    inside = inside 0 e (omega arith);
    not_zero = not_zero 0 e (omega arith);
    narrow = narrow 0 e (omega arith);
  },
  ascend_from n (suc e.0) es (λ i d l. ascending 0 (suc i) d (omega arith) (omega arith))
      (λ i d l. inside (suc i) d (omega arith))
      (λ i j d l k. ascending (suc i) (suc j) d (omega arith) (omega arith))
      (λ i d l. not_zero (suc i) d (omega arith)) (λ i d l. narrow (suc i) d (omega arith)),
)

pub entries_ascend : (n : ℕ) (es : List (ℕ × ℚ)) → AreEntries n es → All (λ e. IsNarrow e.1) es → Ascend n 0 es
entries_ascend n es h narrow = ascend_from n 0 es (λ i d l. omega arith) h.inside h.ascending h.not_zero narrow

-- ---- after smaller ones

-- each of these entries stands in a row below row i
abbrev pub AreBelow : ℕ → List (ℕ × ℚ) → Type 0
AreBelow i [] = Unit {0}
AreBelow i (e ∷ es) = (e.0 < i) × AreBelow i es

-- each row among these targets is below row i
abbrev pub ArePaired : ℕ → List Target → Type 0
ArePaired i [] = Unit {0}
ArePaired i (Objective ∷ ts) = ArePaired i ts
ArePaired i (Row j ∷ ts) = (j < i) × ArePaired i ts

pub below_more : (i j : ℕ) (es : List (ℕ × ℚ)) → i ≤ j → AreBelow i es → AreBelow j es
below_more i j [] l h = tt
below_more i j (e ∷ es) l h = (by h.0, below_more i j es l h.1)
  where
    by : e.0 < i → e.0 < j
    by k = omega arith

pub below_push : (i j : ℕ) (e : ℕ × ℚ) (es : List (ℕ × ℚ)) → e.0 < j → i ≤ j → AreBelow i es → AreBelow j (es ++ e ∷ [])
below_push i j e [] k l h = (k, tt)
below_push i j e (d ∷ es) k l h = (by h.0, below_push i j e es k l h.1)
  where
    by : d.0 < i → d.0 < j
    by k = omega arith

pub paired_more : (i j : ℕ) (ts : List Target) → i ≤ j → ArePaired i ts → ArePaired j ts
paired_more i j [] l h = tt
paired_more i j (Objective ∷ ts) l h = paired_more i j ts l h
paired_more i j (Row k ∷ ts) l h = (by h.0, paired_more i j ts l h.1)
  where
    by : k < i → k < j
    by p = omega arith

pub not_paired : (i : ℕ) (ts : List Target) → ArePaired i ts → is_among (Row i) ts ≡ false
not_paired i [] h = refl
not_paired i (Objective ∷ ts) h = not_paired i ts h
not_paired i (Row j ∷ ts) h = grind (arith, not_paired i ts h.1)

-- a number of a row above those of all entries is inserted behind them
put_behind : (i : ℕ) (v : ℚ) (es : List (ℕ × ℚ)) → AreBelow i es → put_entry i v es ≡ es ++ (i, v) ∷ []
put_behind i v [] h = refl
put_behind i v (e ∷ es) h =
    let less : e.0 < i = h.0 in
    rw (le-ltb i e.0 (omega arith), put_behind i v es h.1) refl

-- a number other than 0 is not 0 by the test
differs : (v : ℚ) → v ≢ 0ℚ → eq_ℚ v 0ℚ ≡ false
differs v h = by (eq_ℚ v 0ℚ) refl
  where
    by : (t : Bool) → eq_ℚ v 0ℚ ≡ t → eq_ℚ v 0ℚ ≡ false
    by true e = absurd (h (eq_if v 0ℚ e))
    by false e = e

-- one more entry
pub entry_put : (c : ExactColumn) (es : List (ℕ × ℚ)) (e : ℕ × ℚ) → e.1 ≢ 0ℚ → AreBelow e.0 es →
    with_number (record c { entries = es }) (Row e.0) e.1 ≡ record c { entries = es ++ e ∷ [] }
entry_put c es e z h =
    rw (differs e.1 z) (ap (λ (l : List (ℕ × ℚ)). record c { entries = l }) (put_behind e.0 e.1 es h))
