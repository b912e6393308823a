-- What is known of an edit that is no fault: each of its steps had a result.
--
-- `step_ok`: where a step and the next one succeed together, each of them succeeds.
-- `test_ok`: where a test for a fault lets the edit succeed, the test fails.
-- `known_ok`: where a name is known to stand for the number k, the search for it found k.
-- `same_ok`: where two results of edits are equal, and neither is a fault, they hold equal values.
-- `at_row`: where a change of a named row succeeds, it is the change of one of the rows by its number.
-- `at_column`: where a change of a named column succeeds, it is the change of one of the columns by its number.
-- `at_entry`: where a change of a named row and column succeeds, it is the change at their numbers.
-- `right_side-ok`: where a new right side succeeds, it is that of the objective or of one of the rows.
-- `fits`: a range that fails the test for a free row with a range is one that the kind may have.
-- `range-ok`: where a new range succeeds, it is that of a row by its number, and its kind may have it.
use Rattle.std.proofs.Common.{◌≡◌, ℕ, ◌<◌, Bool, true, false, cond, Option, Some, None, Ok, Err, refl}
use Rattle.std.proofs.Common.{◌⊎◌, inl, inr}
use Rattle.spec_text.specs.Words.{same}
use Rattle.spec_exact.specs.Fraction.{ℚ, neg_ℚ}
use Rattle.spec_model.specs.declared.parts.Kind.{Kind}
use Rattle.spec_model.specs.Model.{Model, Name, width, height, row}
use Rattle.spec_model.specs.Kept.{FitsKind, row_place, column_place}
use Rattle.spec_model.proofs.NamePlaces.{row_inside, column_inside}
use Rattle.spec_edit.specs.declared.edit.EditFault.{EditFault}
use Rattle.spec_edit.specs.declared.edit.EditFault.TheVariants.{FreeRow}
use Rattle.spec_edit.specs.Changes.{with_rhs, with_range, with_offset}
use Rattle.spec_edit.specs.Edited.{OrFault, ◌>>=◌, known, row_named, column_named, with_right_side}
use Rattle.spec_edit.specs.Edited.{is_ranged_free, with_new_range}

-- a step that goes on had a value
pub step_ok : {A B : Type 0} (o : OrFault A) (f : A → OrFault B) (b : B) → (o >>= f) ≡ Ok b →
    (a : A) × (o ≡ Ok a) × (f a ≡ Ok b)
step_ok (Ok a) f b h = (a, refl, h)
step_ok (Err fault) f b h = cc

-- a test for a fault that lets go on fails
pub test_ok : {A : Type 0} (t : Bool) (fault : EditFault Name) (o : OrFault A) (a : A) → cond t (Err fault) o ≡ Ok a →
    (t ≡ false) × (o ≡ Ok a)
test_ok true fault o a h = cc
test_ok false fault o a h = (refl, h)

-- a name that is known stands for a number
pub known_ok : (o : Option ℕ) (name : Name) (k : ℕ) → known o name ≡ Ok k → o ≡ Some k
known_ok (Some i) name k h = cc
known_ok None name k h = cc

pub same_ok : {A : Type 0} (a b : A) → (let r : OrFault A = Ok a in r) ≡ Ok b → a ≡ b
same_ok a b h = cc

-- ---- what is found by a name

-- a change at one of so many places makes this model
pub record AtPlace (count : ℕ) (n : Model) (change : ℕ → Model) : Type 0 where
  pub place : ℕ
  pub inside : place < count
  pub model : change place ≡ n

-- an accepted change at a found place is a change at a place below the count
at_place : (found : OrFault ℕ) (count : ℕ) (n : Model) (change : ℕ → Model) → ((k : ℕ) → found ≡ Ok k → k < count) →
    (found >>= λ k. Ok (change k)) ≡ Ok n → AtPlace count n change
at_place found count n change within h =
    let a = step_ok found _ n h in record { place = a.0; inside = within a.0 a.1; model = same_ok (change a.0) n a.2 }

-- the number that is found for a row's name is below the number of rows
named_inside : (m : Model) (name : Name) (i : ℕ) → row_named m name ≡ Ok i → i < height m
named_inside m name i h = row_inside m name i (known_ok (row_place m name) name i h)

pub at_row : (m n : Model) (name : Name) (change : ℕ → Model) → (row_named m name >>= λ i. Ok (change i)) ≡ Ok n →
    AtPlace (height m) n change
at_row m n name change h = at_place (row_named m name) (height m) n change (named_inside m name) h

pub at_column : (m n : Model) (name : Name) (change : ℕ → Model) → (column_named m name >>= λ j. Ok (change j)) ≡ Ok n →
    AtPlace (width m) n change
at_column m n name change h =
    at_place (column_named m name) (width m) n change
    (λ j e. column_inside m name j (known_ok (column_place m name) name j e)) h

pub record AtEntry (m n : Model) (change : ℕ → ℕ → Model) : Type 0 where
  pub row : ℕ
  pub column : ℕ
  pub row_inside : row < height m
  pub column_inside : column < width m
  pub model : change row column ≡ n

pub at_entry : (m n : Model) (row column : Name) (change : ℕ → ℕ → Model) →
    (row_named m row >>= λ i. column_named m column >>= λ j. Ok (change i j)) ≡ Ok n → AtEntry m n change
at_entry m n row column change h =
    let a = step_ok (row_named m row) _ n h in
    let s = at_column m n column (change a.0) a.2 in
    record {
      row = a.0;
      column = s.place;
      row_inside = named_inside m row a.0 a.1;
      column_inside = s.inside;
      model = s.model;
    }

-- the objective's right side, or that of a row
pub right_side-ok : (m n : Model) (name : Name) (v : ℚ) → with_right_side m name v ≡ Ok n →
    (with_offset m (neg_ℚ v) ≡ n) ⊎ AtPlace (height m) n (λ i. with_rhs m i v)
unfolding with_right_side
right_side-ok m n name v h = by (same m.objective name) h
  where
    by : (t : Bool) → cond t (Ok (with_offset m (neg_ℚ v))) (row_named m name >>= λ i. Ok (with_rhs m i v)) ≡ Ok n →
        (with_offset m (neg_ℚ v) ≡ n) ⊎ AtPlace (height m) n (λ i. with_rhs m i v)
    by true e = inl (same_ok (with_offset m (neg_ℚ v)) n e)
    by false e = inr (at_row m n name (λ i. with_rhs m i v) e)

-- n is the model m with this range at one of its rows, whose kind may have it
pub record AtRange (m n : Model) (range : Option ℚ) : Type 0 where
  pub place : ℕ
  pub inside : place < height m
  pub fit : FitsKind (row m place).kind range
  pub model : with_range m place range ≡ n

pub fits : (kind : Kind) (range : Option ℚ) → is_ranged_free kind range ≡ false → FitsKind kind range
fits kind None h = tt
fits kind (Some r) h = h

pub range-ok : (m n : Model) (name : Name) (range : Option ℚ) → with_new_range m name range ≡ Ok n → AtRange m n range
unfolding with_new_range
range-ok m n name range h =
    let a = step_ok (row_named m name) _ n h in
    let b = test_ok (is_ranged_free (row m a.0).kind range) (FreeRow name) (Ok (with_range m a.0 range)) n a.2 in
    record {
      place = a.0;
      inside = named_inside m name a.0 a.1;
      fit = fits (row m a.0).kind range b.0;
      model = same_ok (with_range m a.0 range) n b.1;
    }
