-- The numbers in the reader's state are within 127 bits.
--
-- `none_narrow`: before the first card all numbers of the state are within 127 bits.
-- `in_narrow`: a number that a card's text is taken as is within 127 bits.
-- `changed_length`: a list with one element changed keeps its length.
-- `changed_all`: where a change keeps a property, a list with that change at one place keeps it for all elements.
use Rattle.std.proofs.Common.{◌≡◌, ℕ, zero, suc, Bool, true, false, ◌&&◌, not, cond, ltb, Option, Some, None}
use Rattle.std.proofs.Common.{option_map, Ok, List, [], ◌∷◌, ◌++◌, All, IfSome, refl, subst, length, ap}
use Rattle.std.proofs.lemmas.List.Elements.{All-nil, All-cons, All-head, All-tail, All-push}
use Rattle.spec_exact.specs.Fraction.{ℚ, 0ℚ, eq_ℚ}
use Rattle.spec_exact.specs.Narrow.{IsNarrow}
use Rattle.spec_exact.proofs.Narrow.{zero_narrow}
use Rattle.spec_model.specs.declared.parts.Kind.{Kind}
use Rattle.spec_model.specs.Model.{Name, ExactRow, ExactColumn}
use Rattle.spec_model.specs.Kept.{IsNarrowRow, IsNarrowColumn}
use Rattle.spec_mps.specs.declared.target.Target.{Target}
use Rattle.spec_mps.specs.declared.target.Target.TheVariants.{Objective, Row}
use Rattle.spec_mps.specs.NumberText.{NumberReading, number_of, answer}
use Rattle.spec_mps.specs.NumberText as number
use Rattle.spec_mps.specs.Checks.{coded}
use Rattle.spec_mps.specs.Reader.{number_in, new_row, new_column, columns_with, put_entry, with_number}
use Rattle.spec_mps.specs.Sides.{changed_at}
use Rattle.spec_mps.specs.Bounds.{BoundCard, SetsUpper, SetsLower, SetsBoth, is_negative, bounded}
use Rattle.spec_mps.proofs.CheckSteps.{same_ok}
use Rattle.spec_mps.proofs.BoundsSet.{SetsAll}
use Rattle.spec_mps.proofs.NarrowNumbers.{number_narrow}

-- the offset, and all numbers of the rows, of the whole columns and of the open one, are within 127 bits
pub record AreNarrow (o : ℚ) (rs : List ExactRow) (cs : List ExactColumn) (c : Option ExactColumn) : Type 0 where
  pub offset : IsNarrow o
  pub rows : All IsNarrowRow rs
  pub columns : All IsNarrowColumn cs
  pub column : IfSome c IsNarrowColumn

pub none_narrow : AreNarrow 0ℚ [] [] None
none_narrow = record { offset = zero_narrow; rows = All-nil IsNarrowRow; columns = All-nil IsNarrowColumn; column = tt }

-- the number that a text gives without fault has 127 bits
answer_narrow : (text : List ℕ) (reading : NumberReading) (v : ℚ) → number_of text ≡ reading →
    coded (answer reading) ≡ Ok v → IsNarrow v
answer_narrow text (number.Is q) v e h = subst IsNarrow (same_ok q v h) (number_narrow text q e)
answer_narrow text number.Shape v e h = absurd (cc)
answer_narrow text number.Wide v e h = absurd (cc)

pub in_narrow : (text : List ℕ) (v : ℚ) → number_in text ≡ Ok v → IsNarrow v
unfolding number_in
in_narrow text v h = answer_narrow text (number_of text) v refl h

pub changed_length : {A : Type 0} (i : ℕ) (change : A → A) (xs : List A) → length (changed_at i change xs) ≡ length xs
changed_length i change [] = refl
changed_length zero change (x ∷ xs) = refl
changed_length (suc i) change (x ∷ xs) = ap suc (changed_length i change xs)

-- an element that changes
pub changed_all : {A : Type 0} (P : A → Type 0) (i : ℕ) (change : A → A) (xs : List A) →
    ((x : A) → P x → P (change x)) → All P xs → All P (changed_at i change xs)
changed_all P i change [] f h = h
changed_all P zero change (x ∷ xs) f h = All-cons P (change x) xs (f x (All-head P x xs h)) (All-tail P x xs h)
changed_all P (suc i) change (x ∷ xs) f h =
    All-cons P x (changed_at i change xs) (All-head P x xs h) (changed_all P i change xs f (All-tail P x xs h))

-- all columns have numbers of 127 bits where the closed and the open ones have
whole_narrow : (columns : List ExactColumn) (column : Option ExactColumn) → All IsNarrowColumn columns →
    IfSome column IsNarrowColumn → All IsNarrowColumn (columns_with columns column)
whole_narrow columns None h k = h
whole_narrow columns (Some c) h k = All-push IsNarrowColumn columns c h k

-- setting an entry to a number of 127 bits leaves entries of 127 bits
put_narrow : (i : ℕ) (v : ℚ) (es : List (ℕ × ℚ)) → IsNarrow v → All (λ e. IsNarrow e.1) es →
    All (λ e. IsNarrow e.1) (put_entry i v es)
put_narrow i v [] n h = All-cons (λ (e : ℕ × ℚ). IsNarrow e.1) (i, v) [] n h
put_narrow i v (e ∷ es) n h = go (ltb i e.0) (put_narrow i v es n (All-tail (λ (e : ℕ × ℚ). IsNarrow e.1) e es h))
  where
    go : (t : Bool) → All (λ e. IsNarrow e.1) (put_entry i v es) →
        All (λ (e : ℕ × ℚ). IsNarrow e.1) (cond t ((i, v) ∷ e ∷ es) (e ∷ put_entry i v es))
    go true k = All-cons (λ (e : ℕ × ℚ). IsNarrow e.1) (i, v) (e ∷ es) n h
    go false k =
        All-cons (λ (e : ℕ × ℚ). IsNarrow e.1) e (put_entry i v es) (All-head (λ (e : ℕ × ℚ). IsNarrow e.1) e es h) k

-- a number of 127 bits leaves a column with numbers of 127 bits
with_number_narrow : (c : ExactColumn) (t : Target) (v : ℚ) → IsNarrow v → IsNarrowColumn c →
    IsNarrowColumn (with_number c t v)
with_number_narrow c Objective v n h = record { cost = n; lower = h.lower; upper = h.upper; entries = h.entries }
with_number_narrow c (Row i) v n h = go (eq_ℚ v 0ℚ)
  where
    go : (b : Bool) → IsNarrowColumn (cond b c (record c { entries = put_entry i v c.entries }))
    go true = h
    go false =
        record { cost = h.cost; lower = h.lower; upper = h.upper; entries = put_narrow i v c.entries n h.entries }

-- a number of 127 bits leaves the open column, if any, with numbers of 127 bits
last_narrow : (column : Option ExactColumn) (t : Target) (v : ℚ) → IsNarrow v → IfSome column IsNarrowColumn →
    IfSome (option_map (λ c. with_number c t v) column) IsNarrowColumn
last_narrow None t v n h = tt
last_narrow (Some c) t v n h = with_number_narrow c t v n h

-- bounds of 127 bits leave a column with numbers of 127 bits
bounded_narrow : (lowered : Bool) (card : BoundCard) (c : ExactColumn) → SetsAll IsNarrow card → IsNarrowColumn c →
    IsNarrowColumn (bounded lowered card c)
bounded_narrow lowered (SetsUpper u) c n k = go (is_negative u && not lowered)
  where
    go : (b : Bool) → IsNarrowColumn (cond b (record c { lower = None; upper = u }) (record c { upper = u }))
    go true = record { cost = k.cost; lower = tt; upper = n; entries = k.entries }
    go false = record { cost = k.cost; lower = k.lower; upper = n; entries = k.entries }
bounded_narrow lowered (SetsLower l) c n k = record { cost = k.cost; lower = n; upper = k.upper; entries = k.entries }
bounded_narrow lowered (SetsBoth l u) c n k = record { cost = k.cost; lower = n.0; upper = n.1; entries = k.entries }

-- what a card changes of these numbers
module _ (offset : ℚ) (rows : List ExactRow) (columns : List ExactColumn)
    (column : Option ExactColumn) (h : AreNarrow offset rows columns column) where
  -- numbers of at most 127 bits stay so with one more row, whose right side is 0 and which has no range
  pub more_narrow : (kind : Kind) (name : Name) → AreNarrow offset (rows ++ new_row kind name ∷ []) columns column
  more_narrow kind name =
      record {
        offset = h.offset;
        rows = All-push IsNarrowRow rows (new_row kind name) h.rows (record { rhs = zero_narrow; range = tt });
        columns = h.columns;
        column = h.column;
      }

  -- numbers of at most 127 bits stay so where the open column joins the whole ones
  pub closed_narrow : AreNarrow offset rows (columns_with columns column) None
  closed_narrow =
      record {
        offset = h.offset;
        rows = h.rows;
        columns = whole_narrow columns column h.columns h.column;
        column = tt;
      }

  -- numbers of at most 127 bits stay so where a new column is opened and the open one joins the whole ones
  pub new_narrow : (name : Name) → AreNarrow offset rows (columns_with columns column) (Some (new_column name))
  new_narrow name =
      let none : All (λ (e : ℕ × ℚ). IsNarrow e.1) [] = All-nil (λ (e : ℕ × ℚ). IsNarrow e.1) in
      record {
        offset = h.offset;
        rows = h.rows;
        columns = closed_narrow.columns;
        column = record { cost = zero_narrow; lower = zero_narrow; upper = tt; entries = none };
      }

  -- numbers of at most 127 bits stay so where the open column takes a number of at most 127 bits
  pub entered_narrow : (t : Target) (v : ℚ) → IsNarrow v →
      AreNarrow offset rows columns (option_map (λ c. with_number c t v) column)
  entered_narrow t v n =
      record { offset = h.offset; rows = h.rows; columns = h.columns; column = last_narrow column t v n h.column }

  -- numbers of at most 127 bits stay so with another offset of at most 127 bits
  pub offset_narrow : (q : ℚ) → IsNarrow q → AreNarrow q rows columns column
  offset_narrow q n = record { offset = n; rows = h.rows; columns = h.columns; column = h.column }

  -- numbers of at most 127 bits stay so where a change that keeps rows so is made to one row
  pub row_narrow : (i : ℕ) (change : ExactRow → ExactRow) →
      ((r : ExactRow) → IsNarrowRow r → IsNarrowRow (change r)) →
      AreNarrow offset (changed_at i change rows) columns column
  row_narrow i change f =
      record {
        offset = h.offset;
        rows = changed_all IsNarrowRow i change rows f h.rows;
        columns = h.columns;
        column = h.column;
      }

  -- numbers of at most 127 bits stay so where a card whose bounds are so changes the bounds of one column
  pub bounds_narrow : (place : ℕ) (lowered : Bool) (card : BoundCard) → SetsAll IsNarrow card →
      AreNarrow offset rows (changed_at place (bounded lowered card) columns) column
  bounds_narrow place lowered card n =
      record {
        offset = h.offset;
        rows = h.rows;
        columns =
            changed_all IsNarrowColumn place (bounded lowered card) columns
            (λ c k. bounded_narrow lowered card c n k) h.columns;
        column = h.column;
      }
