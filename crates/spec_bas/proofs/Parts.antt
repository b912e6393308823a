-- The marks of one kind of names, of columns or of rows: one more name, at either side of a step.
use Rattle.std.proofs.Common.{◌≡◌, ◌≢◌, ℕ, ◌<◌, ◌⊎◌, inl, inr, true, false, List, ◌∷◌, length, get_or}
use Rattle.std.proofs.Common.{Option, Some, None, is_some, All, sym, ap, ◌∙◌, get_or-set_other, get_or-set_same}
use Rattle.std.specs.List.{AllPairs}
use Rattle.std.proofs.lemmas.Bool.{cases_eq, false≢true}
use Rattle.std.proofs.lemmas.List.Kept.{AllPairs-cons}
use Rattle.std.proofs.lemmas.List.Elements.{All-cons, All-head, All-tail}
use Rattle.spec_model.specs.Model.{Name}
use Rattle.spec_model.proofs.Pairs.{AllPairs-head, AllPairs-tail}
use Rattle.spec_pivot.specs.declared.status.Status.{Status}
use Rattle.spec_simplex.specs.Form.{Form}
use Rattle.spec_simplex.specs.Eliminate.{basis_at}
use Rattle.spec_bas.specs.Steps.{State, mark, is_marked, status_of}
use Rattle.spec_bas.specs.Spelled.{HasNoCard}
use Rattle.spec_bas.proofs.Marks.{mark_same, mark_other}

-- ---- marks

-- a column or row that was given a status by a card tests as having one
marked_same : (s : State) (k : ℕ) (status : Status) → k < length s.marks → is_marked (mark k status s) k ≡ true
marked_same s k status h = ap is_some (get_or-set_same s.marks k (Some status) None h)

-- giving one column or row a status by a card does not change whether another one has a status from a card
pub marked_other : (s : State) (k i : ℕ) (status : Status) → i ≢ k → is_marked (mark k status s) i ≡ is_marked s i
marked_other s k i status ne = ap is_some (get_or-set_other s.marks k i (Some status) None ne)

module _ (f : Form) (place : Name → Option ℕ) (at : ℕ → ℕ) (n : ℕ)
    (inside : (name : Name) (i : ℕ) → place name ≡ Some i → i < n)
    (one : (a b : Name) (i : ℕ) → place a ≡ Some i → place b ≡ Some i → a ≡ b)
    (apart : (i j : ℕ) → at i ≡ at j → i ≡ j) where
  -- The names are distinct, and none has a status from a card in s. Each column or row of this kind that none of them
  -- names has in the basis the status that s gives it.
  pub record Part (s : State) (names : List Name) (b : List Status) : Type 0 where
    pub once : AllPairs (λ x y. x ≢ y) names
    pub free : All (λ name. (i : ℕ) → place name ≡ Some i → is_marked s (at i) ≡ false) names
    pub others : (i : ℕ) → i < n → HasNoCard place names i → basis_at b (at i) ≡ status_of f s (at i)

  -- what holds of names of one kind after a card gives another kind's column a status held before it
  pub part_aside : (s : State) (k : ℕ) (status : Status) (names : List Name) (b : List Status) →
      ((i : ℕ) → i < n → at i ≢ k) → Part (mark k status s) names b → Part s names b
  part_aside s k status names b off p = record {
    once = p.once;
    free = λ q d l i e. sym (marked_other s k (at i) status (off i (inside (get_or names q d) i e))) ∙ p.free q d l i e;
    others = λ i l h. p.others i l h ∙ mark_other f s k (at i) status (off i l);
  }

  -- what holds of names of one kind holds after a card gives another kind's column a status too
  pub part_beside : (s : State) (k : ℕ) (status : Status) (names : List Name) (b : List Status) →
      ((i : ℕ) → i < n → at i ≢ k) → Part s names b → Part (mark k status s) names b
  part_beside s k status names b off p = record {
    once = p.once;
    free = λ q d l i e. marked_other s k (at i) status (off i (inside (get_or names q d) i e)) ∙ p.free q d l i e;
    others = λ i l h. p.others i l h ∙ sym (mark_other f s k (at i) status (off i l));
  }

  -- a mark of this kind
  module _ (s : State) (name : Name) (i : ℕ) (status : Status) (names : List Name) (b : List Status)
      (is : place name ≡ Some i) (long : at i < length s.marks) where
    -- the state s after a card gives the column or row of number i this status
    abbrev t : State
    t = mark (at i) status s

    -- another number of this kind has another column of the form
    off : (k : ℕ) → k ≢ i → at k ≢ at i
    off k ne e = ne (apart k i e)

    module _ (p : Part t names b) where
      -- none of the names in the state after the card is that of number i
      no_other : HasNoCard place names i
      no_other q d l e = false≢true (sym (p.free q d l i e) ∙ marked_same s (at i) status long)

      -- the column or row to which a card gave a status has it in the basis, where what a part asks holds of some names
      -- after that card
      pub part_stands : basis_at b (at i) ≡ status
      part_stands = p.others i (inside name i is) no_other ∙ mark_same f s (at i) status long

      -- a column or row without a status after the card had none before it
      grown_free : (k : ℕ) → is_marked t (at k) ≡ false → is_marked s (at k) ≡ false
      grown_free k h = by (cases_eq k i)
        where
          by : (k ≡ i) ⊎ (k ≡ i → ⊥) → is_marked s (at k) ≡ false
          by (inl e) = absurd (false≢true (sym h ∙ ap (λ q. is_marked t (at q)) e ∙ marked_same s (at i) status long))
          by (inr ne) = sym (marked_other s (at i) (at k) status (off k ne)) ∙ h

      -- where what a part asks holds of some names after a card for a column or row that had no status from a card, it
      -- held of these names and the card's before it
      pub part_more : is_marked s (at i) ≡ false → Part s (name ∷ names) b
      part_more free = record {
        once = AllPairs-cons (λ x y. x ≢ y) name names (λ q d l e. no_other q d l (ap place (sym e) ∙ is)) p.once;
        free = All-cons (λ name. (k : ℕ) → place name ≡ Some k → is_marked s (at k) ≡ false) name names
            (λ k e. let z : i ≡ k = same_place k (sym is ∙ e) in ap (λ q. is_marked s (at q)) (sym z) ∙ free)
            (λ q d l k e. grown_free k (p.free q d l k e));
        others = λ k l h. p.others k l (All-tail (λ x. place x ≢ Some k) name names h)
            ∙ mark_other f s (at i) (at k) status
            (off k (λ e. All-head (λ x. place x ≢ Some k) name names h (is ∙ ap Some (sym e))));
      }
        where
          same_place : (k : ℕ) → ◌≡◌ {A = Option ℕ} (Some i) (Some k) → i ≡ k
          same_place k e = cc

    module _ (p : Part s (name ∷ names) b) (stands : basis_at b (at i) ≡ status) where
      -- the first of the names has no status from a card yet
      pub part_free : is_marked s (at i) ≡ false
      part_free =
          All-head (λ name. (k : ℕ) → place name ≡ Some k → is_marked s (at k) ≡ false) name names p.free i is

      -- where what a part asks holds of a name and more names, and the basis has the status of the first name's card,
      -- it holds of the more names after that card
      pub part_less : Part t names b
      part_less = record {
        once = AllPairs-tail (λ x y. x ≢ y) name names p.once;
        free = λ q d l k e.
            marked_other s (at i) (at k) status
            (off k (λ z. AllPairs-head (λ x y. x ≢ y) name names p.once q d l
            (one name (get_or names q d) i is (e ∙ ap Some z))))
            ∙ All-tail (λ name. (k : ℕ) → place name ≡ Some k → is_marked s (at k) ≡ false) name names p.free q d l k e;
        others = λ k l h. by k l h (cases_eq k i);
      }
        where
          by : (k : ℕ) → k < n → HasNoCard place names k → (k ≡ i) ⊎ (k ≡ i → ⊥) → basis_at b (at k) ≡ status_of f t
              (at k)
          by k l h (inl e) =
              ap (λ q. basis_at b (at q)) e ∙ stands ∙ sym (mark_same f s (at i) status long)
              ∙ ap (λ q. status_of f t (at q)) (sym e)
          by k l h (inr ne) =
              p.others k l (All-cons (λ x. place x ≢ Some k) name names (λ e. ne (same_place k (sym is ∙ e))) h)
              ∙ sym (mark_other f s (at i) (at k) status (off k ne))
            where
              same_place : (k : ℕ) → ◌≡◌ {A = Option ℕ} (Some i) (Some k) → k ≡ i
              same_place k e = cc
