-- Reading one more pair of a new column: a fault of its row's name, or one more entry.
use Rattle.std.proofs.Common.{◌≡◌, ℕ, ◌+◌, ◌<◌, Bool, true, false, cond, Option, Some, None, Err, List, []}
use Rattle.std.proofs.Common.{◌∷◌, ◌++◌, length, get_or, take, drop, IfSome, sym, ap, ap₂, ◌∙◌, subst, add-one}
use Rattle.std.specs.List.{slice_get}
use Rattle.std.proofs.lemmas.Option.{slice_get-get_or}
use Rattle.std.proofs.Math.Seq.{drop-cons}
use Rattle.std.proofs.lemmas.List.{take_more}
use Rattle.spec_exact.specs.Fraction.{ℚ}
use Rattle.spec_model.specs.Model.{Model, Name}
use Rattle.spec_model.specs.Kept.{row_place}
use Rattle.spec_edit.specs.declared.edit.EditFault.TheVariants.{UnknownName, Repeated}
use Rattle.spec_edit.specs.Changes.{with_entry}
use Rattle.spec_edit.specs.Edited.{Pairs, OrFault, ◌>>=◌, known, is_given, entries_of}

-- entries of a column: pairs of a row's number and a coefficient
abbrev Entries : Type 0
Entries = List (ℕ × ℚ)

-- p is the pair at k, in the list as it was read
module _ (m : Model) (pairs : Pairs) (k : ℕ) (es : Entries) (p : Name × ℚ)
    (here : p ≡ get_or pairs k p) (l : k < length pairs) where
  -- what the pairs from k on make of the entries es, which the pairs before k gave: further entries, or a fault
  so_far : OrFault Entries
  so_far = entries_of m (take k pairs) (drop k pairs) es

  -- what the pairs behind pair k make of the entries es with the coefficient of pair k in row i: entries, or a fault
  behind : ℕ → OrFault Entries
  behind i = entries_of m (take (k + 1) pairs) (drop (k + 1) pairs) (with_entry i p.1 es)

  -- pair k is read by its name: an unknown or repeated name is the fault, else its coefficient is put and the rest is
  -- read
  step : so_far
      ≡ (known (row_place m p.0) p.0 >>= λ i. cond (is_given p.0 (take k pairs)) (Err (Repeated p.0)) (behind i))
  unfolding so_far behind
  step =
      let first : drop k pairs ≡ p ∷ drop (k + 1) pairs =
      drop-cons pairs k p l ∙ ap₂ ◌∷◌ (sym here) (ap (λ n. drop n pairs) (sym (add-one k))) in
      let more : take k pairs ++ p ∷ [] ≡ take (k + 1) pairs =
      ap (λ q. take k pairs ++ q ∷ []) here ∙ sym (take_more pairs k p l) in
      ap (λ ps. entries_of m (take k pairs) ps es) first
      ∙ ap (λ ps. known (row_place m p.0) p.0 >>= λ i. cond (is_given p.0 (take k pairs))
      (Err (Repeated p.0)) (entries_of m ps (drop (k + 1) pairs) (with_entry i p.1 es))) more

  -- where no row has the name of pair k, that is the fault of the pairs from k on
  unknown : row_place m p.0 ≡ None → entries_of m (take k pairs) (drop k pairs) es ≡ Err (UnknownName p.0)
  unfolding so_far
  unknown e = step ∙ ap (λ o. known o p.0 >>= λ i. cond (is_given p.0 (take k pairs)) (Err (Repeated p.0)) (behind i)) e

  -- where row i has the name of pair k, the pairs from k on give the fault of a repeated name, or the rest with its
  -- coefficient
  at : (i : ℕ) (t : Bool) → row_place m p.0 ≡ Some i → is_given p.0 (take k pairs) ≡ t →
      so_far ≡ cond t (Err (Repeated p.0)) (behind i)
  at i t e f =
      step ∙ ap (λ o. known o p.0 >>= λ i. cond (is_given p.0 (take k pairs)) (Err (Repeated p.0)) (behind i)) e
      ∙ ap (λ t. cond t (Err (Repeated p.0)) (behind i)) f

  -- where an earlier pair has the name of pair k, that is the fault of the pairs from k on
  repeated : (i : ℕ) → row_place m p.0 ≡ Some i → is_given p.0 (take k pairs) ≡ true →
      entries_of m (take k pairs) (drop k pairs) es ≡ Err (Repeated p.0)
  unfolding so_far
  repeated i e f = at i true e f

  -- where pair k names row i for the first time, the pairs behind it, onto the entries with its coefficient, give what
  -- those from k on give
  goes_on : (i : ℕ) → row_place m p.0 ≡ Some i → is_given p.0 (take k pairs) ≡ false
      → entries_of m (take (k + 1) pairs) (drop (k + 1) pairs) (with_entry i p.1 es)
      ≡ entries_of m (take k pairs) (drop k pairs) es
  unfolding so_far behind
  goes_on i e f = sym (at i false e f)

-- so it is where the pair, its name and its row were read: of the list as it is now, found is the row of that name
module _ (m : Model) (seen pairs : Pairs) (k : ℕ) (es : Entries) (p : Name × ℚ) (name : Name) (found : Option ℕ)
    (whole : seen ≡ pairs) (at_place : p ≡ get_or seen k p) (l : k < length pairs)
    (called : name ≡ p.0) (looked : found ≡ row_place m name) where
  -- the pair that is read is pair k
  here : p ≡ get_or pairs k p
  here = at_place ∙ ap (λ xs. get_or xs k p) whole

  -- what the search for the pair's name has found is the number of the row with this name
  place : (o : Option ℕ) → found ≡ o → row_place m p.0 ≡ o
  place o e = sym (ap (row_place m) called) ∙ sym looked ∙ e

  -- the name that is taken out of the list is that of the pair
  module _ (list : Pairs) (taken : Name) (whole_then : list ≡ pairs)
      (of_pair : IfSome (slice_get list k) (λ q. taken ≡ q.0)) where
    -- the name that is taken out is that of the pair
    named : p.0 ≡ taken
    named =
        let at : slice_get list k ≡ Some p =
        ap (λ xs. slice_get xs k) whole_then ∙ slice_get-get_or pairs k p l ∙ ap Some (sym here) in
        sym (subst (λ o. IfSome o (λ q. taken ≡ q.0)) at of_pair)

    -- where the search finds no row, the fault is the name that is taken out, as an unknown one
    pub unknown_read : found ≡ None → entries_of m (take k pairs) (drop k pairs) es ≡ Err (UnknownName taken)
    unknown_read e = unknown m pairs k es p here l (place None e) ∙ ap (λ n. Err (UnknownName n)) named

    -- where an earlier pair has the name, the fault is the name that is taken out, as a repeated one
    pub repeated_read : (i : ℕ) → found ≡ Some i → is_given p.0 (take k pairs) ≡ true →
        entries_of m (take k pairs) (drop k pairs) es ≡ Err (Repeated taken)
    repeated_read i e f = repeated m pairs k es p here l i (place (Some i) e) f ∙ ap (λ n. Err (Repeated n)) named

  -- where the search finds row i and no earlier pair has the name, the pairs behind it give what those from k on give
  pub read_on : (i : ℕ) → found ≡ Some i → is_given p.0 (take k pairs) ≡ false
      → entries_of m (take (k + 1) pairs) (drop (k + 1) pairs) (with_entry i p.1 es)
      ≡ entries_of m (take k pairs) (drop k pairs) es
  read_on i e f = goes_on m pairs k es p here l i (place (Some i) e) f

-- what was answered on whether one of the first k pairs has a name is whether one has it
pub given_so : (name again : Name) (pairs list : Pairs) (k : ℕ) (answer t : Bool) → again ≡ name → list ≡ pairs →
    answer ≡ is_given again (take k list) → answer ≡ t → is_given name (take k pairs) ≡ t
given_so name again pairs list k answer t e f g h =
    sym (ap₂ (λ n ps. is_given n (take k ps)) e f) ∙ sym g ∙ h
