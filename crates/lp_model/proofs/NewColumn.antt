-- An edit that adds a column whose name is good and free to a model that has room for it.
--
-- `is_good`: where the check of the name that was read says yes, the name may be that of a column.
-- `is_free`: where the search for the name that was read finds no column, no column has the name.
use Rattle.std.proofs.Common.{◌≡◌, ℕ, ◌<◌, Bool, true, false, Option, Some, None, Ok, Err, List, [], refl, sym, ap, ◌∙◌}
use Rattle.std.specs.Prelude.{is_some}
use Rattle.std.proofs.lemmas.Bool.{lt-leb}
use Rattle.spec_exact.specs.Fraction.{ℚ, 0ℚ}
use Rattle.spec_model.specs.Model.{Model, Name, width}
use Rattle.spec_model.specs.Kept.{is_name, column_limit, column_place}
use Rattle.spec_edit.specs.Changes.{with_column}
use Rattle.spec_edit.specs.Edited.{Pairs, ◌>>=◌, is_column_taken, entries_of, column_of, new_column}
use Rattle.lp_model.specs.declared.edit.EditError.{EditError}
use Rattle.lp_model.specs.declared.edit.EditError.TheVariants.{Fault, NoMemory}
use Rattle.lp_model.specs.Answer.{Leaves, GivesEdited}

-- the name was read as seen, and asked of by calls
pub is_good : (name seen : Name) (good : Bool) → seen ≡ name → good ≡ is_name seen → good ≡ true → is_name name ≡ true
is_good name seen good s e h = sym (ap is_name s) ∙ sym e ∙ h

pub is_free : (m : Model) (name seen : Name) (found : Option ℕ) (taken : Bool) → seen ≡ name →
    found ≡ column_place m seen → taken ≡ is_some found → taken ≡ false → is_column_taken m name ≡ false
is_free m name seen found taken s f e h = sym (e ∙ ap is_some (f ∙ ap (column_place m) s)) ∙ h

module _ (m : Model) (name : Name) (cost : ℚ) (pairs : Pairs)
    (named : is_name name ≡ true) (free : is_column_taken m name ≡ false) (few : width m < column_limit) where
  -- where name and room are good, a new column is that of its entries, or the fault of its pairs
  opened : new_column m name cost pairs
      ≡ (entries_of m [] pairs [] >>= λ entries. Ok (with_column m (column_of name cost entries)))
  unfolding new_column
  opened = rw (named, free, lt-leb column_limit (width m) few) refl

  -- where the pairs give entries, the model with the column of these entries, lower bound 0 and no upper bound is the
  -- edit's answer
  pub pushed : (entries : List (ℕ × ℚ)) (lower : ℚ) (next : Model) → entries_of m [] pairs [] ≡ Ok entries →
      lower ≡ 0ℚ
      → next ≡ with_column m (record {
        name = name;
        cost = cost;
        lower = Some lower;
        upper = None;
        entries = entries;
      })
      → new_column m name cost pairs ≡ Ok next
  pushed entries lower next e zero put =
      opened ∙ ap (λ o. o >>= λ entries. Ok (with_column m (column_of name cost entries))) e
      ∙ sym (ap Ok (put ∙ ap (λ (l : ℚ). with_column m (record {
        name = name;
        cost = cost;
        lower = Some l;
        upper = None;
        entries = entries;
      })) zero))

  -- where the pairs give a fault, or memory runs out, the edit ends so and leaves the model
  pub stopped : (error : EditError) → GivesEdited (entries_of m [] pairs []) (Err error) →
      Leaves (new_column m name cost pairs) true m m (Err error)
  stopped (Fault fault) h =
      (opened ∙ ap (λ o. o >>= λ entries. Ok (with_column m (column_of name cost entries))) h, refl)
  stopped NoMemory h = (refl, refl)
