-- Why an edit is refused names what the edit names.
use Rattle.std.proofs.Common.{ℕ, Bool, true, false, cond, not, nat_le, List, [], ◌∷◌, ◌++◌, Option, Some, None, Ok, Err, IfErr}
use Rattle.std.specs.Prelude.{All}
use Rattle.std.proofs.lemmas.List.Elements.{All-head, All-tail}
use Rattle.spec_exact.specs.Fraction.{ℚ}
use Rattle.spec_model.specs.Model.{Model, Name, ExactRow, row, width, height}
use Rattle.spec_model.specs.Kept.{is_name, is_row_name, row_limit, column_limit, row_place, column_place}
use Rattle.spec_text.specs.Words.{same}
use Rattle.spec_edit.specs.declared.edit.Edit.TheVariants as edit
use Rattle.spec_edit.specs.declared.edit.EditFault.{EditFault}
use Rattle.spec_edit.specs.declared.edit.EditFault.TheVariants as fault
use Rattle.spec_edit.specs.Changes.{with_entry}
use Rattle.spec_edit.specs.Edited.{ExactEdit, Pairs, OrFault, ◌>>=◌, known, row_named, is_row_taken, is_column_taken}
use Rattle.spec_edit.specs.Edited.{is_ranged_free, new_row, is_given, entries_of, new_column, with_right_side, with_new_range}
use Rattle.spec_edit.specs.Edited.{edited}
use Rattle.spec_text_truth.specs.TrueOutput.{HasNoFeed}
use Rattle.spec_text_truth.proofs.PlainAsks.{IsPlainEdit}

abbrev pub IsPlainFault : EditFault Name → Type 0
IsPlainFault (fault.UnknownName name) = HasNoFeed name
IsPlainFault (fault.Taken name) = HasNoFeed name
IsPlainFault (fault.Repeated name) = HasNoFeed name
IsPlainFault (fault.FreeRow name) = HasNoFeed name
IsPlainFault other = Unit {0}

-- where a name has no line feed, the fault that it is unknown has no name with one
known_plain : (place : Option ℕ) (name : Name) → HasNoFeed name → IfErr (known place name) IsPlainFault
known_plain None name h = h
known_plain (Some k) name h = tt

module _ {A : Type 0} where
  -- where the fault of a first step and that of the next have no name with a line feed, the fault of both has none
  then_plain : {B : Type 0} (r : OrFault B) (next : B → OrFault A) → IfErr r IsPlainFault →
      ((b : B) → IfErr (next b) IsPlainFault) → IfErr (r >>= next) IsPlainFault
  then_plain (Ok b) next h go = go b
  then_plain (Err why) next h go = h

  -- where the faults of two ways have no name with a line feed, the fault of the one that a test takes has none
  choice_plain : (t : Bool) (a b : OrFault A) → IfErr a IsPlainFault → IfErr b IsPlainFault →
      IfErr (cond t a b) IsPlainFault
  choice_plain true a b h k = h
  choice_plain false a b h k = k

-- where the name of a new row has no line feed, the fault of the row has no name with one
new_row_plain : (m : Model) (r : ExactRow) → HasNoFeed r.name → IfErr (new_row m r) IsPlainFault
unfolding new_row
new_row_plain m r h =
    choice_plain (not (is_row_name r.name)) _ _ tt
    (choice_plain (is_row_taken m r.name) _ _ h
    (choice_plain (nat_le row_limit (height m)) _ _ tt
    (choice_plain (is_ranged_free r.kind r.range) _ _ h tt)))

-- where no name in pairs has a line feed, the fault of entries made of the pairs has no name with one
entries_plain : (m : Model) (before pairs : Pairs) (entries : List (ℕ × ℚ)) →
    All (λ (p : Name × ℚ). HasNoFeed p.0) pairs → IfErr (entries_of m before pairs entries) IsPlainFault
entries_plain m before [] entries h = tt
entries_plain m before (p ∷ pairs) entries h =
    let first : HasNoFeed p.0 = All-head (λ (p : Name × ℚ). HasNoFeed p.0) p pairs h in
    then_plain (row_named m p.0) _ (known_plain (row_place m p.0) p.0 first) λ i.
    choice_plain (is_given p.0 before) _ _ first
    (entries_plain m (before ++ p ∷ []) pairs (with_entry i p.1 entries)
    (All-tail (λ (p : Name × ℚ). HasNoFeed p.0) p pairs h))

-- where no name of a new column and its entries has a line feed, the fault of the column has no name with one
new_column_plain : (m : Model) (name : Name) (cost : ℚ) (pairs : Pairs) → HasNoFeed name →
    All (λ (p : Name × ℚ). HasNoFeed p.0) pairs → IfErr (new_column m name cost pairs) IsPlainFault
unfolding new_column
new_column_plain m name cost pairs h k =
    choice_plain (not (is_name name)) _ _ tt
    (choice_plain (is_column_taken m name) _ _ h
    (choice_plain (nat_le column_limit (width m)) _ _ tt
    (then_plain (entries_of m [] pairs []) _ (entries_plain m [] pairs [] k) λ entries. tt)))

-- where an edit has no name with a line feed, the fault of the edit has none
pub edited_plain : (m : Model) (e : ExactEdit) → IsPlainEdit e → IfErr (edited m e) IsPlainFault
unfolding edited with_right_side with_new_range
edited_plain m (edit.AddRow name type rhs range) h =
    new_row_plain m (record { name = name; kind = type; rhs = rhs; range = range }) h
edited_plain m (edit.DelRow name) h = then_plain (row_named m name) _ (known_plain (row_place m name) name h) λ i. tt
edited_plain m (edit.AddCol name cost pairs) h = new_column_plain m name cost pairs h.0 h.1
edited_plain m (edit.DelCol name) h = then_plain _ _ (known_plain (column_place m name) name h) λ j. tt
edited_plain m (edit.SetCost name v) h = then_plain _ _ (known_plain (column_place m name) name h) λ j. tt
edited_plain m (edit.SetCoef of_row of_column v) h =
    then_plain _ _ (known_plain (row_place m of_row) of_row h.0) λ i.
    then_plain _ _ (known_plain (column_place m of_column) of_column h.1) λ j. tt
edited_plain m (edit.SetRhs name v) h =
    choice_plain (same m.objective name) _ _ tt
    (then_plain (row_named m name) _ (known_plain (row_place m name) name h) λ i. tt)
edited_plain m (edit.SetRange name range) h =
    then_plain (row_named m name) _ (known_plain (row_place m name) name h) λ i.
    choice_plain (is_ranged_free (row m i).kind range) _ _ h tt
edited_plain m (edit.SetBound name bounds) h = then_plain _ _ (known_plain (column_place m name) name h) λ j. tt
edited_plain m (edit.SetSense sense) h = tt
