-- The lines of a file, and the cards that they have.
use Rattle.std.proofs.Common.{◌≡◌, ℕ, ◌+◌, ◌⊎◌, inl, inr, Bool, true, false, not, List, [], ◌∷◌, ◌++◌, map, None, Ok}
use Rattle.std.proofs.Common.{Err, refl, sym, ap, ◌∙◌}
use Rattle.std.proofs.lemmas.List.{length-replicate}
use Rattle.spec_text.specs.declared.line.Line.{Line}
use Rattle.spec_model.specs.Model.{Model}
use Rattle.spec_pivot.specs.declared.status.Status.{Status}
use Rattle.spec_simplex.specs.Form.{Form}
use Rattle.spec_exact.specs.Run.{◌>>=◌}
use Rattle.spec_bas.specs.declared.fault.BasCode.TheVariants as code
use Rattle.spec_bas.specs.declared.card.Card.TheVariants.{Xu, Xl, Ul, Ll}
use Rattle.spec_bas.specs.declared.card.Reading.TheVariants.{Skipped, Named, Ends, Says, Wrong}
use Rattle.spec_bas.specs.Cards.{ExactCard, ExactReading, reading_of}
use Rattle.spec_bas.specs.Steps.{State, Check, Verdict, Spelled, start, marked_basis, must, upper_first, lower_first}
use Rattle.spec_bas.specs.Steps.{pair_step}
use Rattle.spec_bas.specs.Steps.{upper_step, usual_step, card_step, more, on_reading, step, settled, judge, Gives}
use Rattle.spec_bas.specs.Steps.{Outcome}
use Rattle.spec_bas.specs.Fits.{HasSizeOf}
use Rattle.spec_bas.specs.Spelled.{HasCards, SpellsBasis, readings_of, unless_skipped}
use Rattle.spec_bas.proofs.MarkSteps.{pair_taken, upper_taken, usual_taken}
use Rattle.spec_bas.proofs.Spelling.{LeadTo, lead_from, from_lead, start_forth, start_back}

-- ---- that there was a card changes nothing but for NAME

module _ (m : Model) (f : Form) where
  -- the state s, but with a card read already
  abbrev begun : State → State
  begun s = record s { begun = true }

  -- a data card leads to the same from a state whether or not a card was read before it
  step_begun : (s : State) (card : ExactCard) → card_step m f (begun s) card ≡ card_step m f s card
  unfolding pair_step upper_step usual_step
  step_begun s (Xu column row) = refl
  step_begun s (Xl column row) = refl
  step_begun s (Ul column) = refl
  step_begun s (Ll column) = refl

  -- a state gives the same basis whether or not a card was read
  basis_begun : (s : State) → marked_basis f (begun s) ≡ marked_basis f s
  unfolding marked_basis
  basis_begun s = refl

  -- where cards lead to a basis from s with a card read already, they lead to it from s
  leads_begun : (s : State) (cards : List ExactCard) (b : List Status) → LeadTo m f (begun s) cards b → LeadTo m f s
      cards b
  leads_begun s [] b e = e ∙ basis_begun s
  leads_begun s (card ∷ cards) b (t, e, rest) = (t, sym (step_begun s card) ∙ e, rest)

  -- where cards lead to a basis from s, they lead to it from s with a card read already
  begun_leads : (s : State) (cards : List ExactCard) (b : List Status) → LeadTo m f s cards b → LeadTo m f (begun s)
      cards b
  begun_leads s [] b e = e ∙ sym (basis_begun s)
  begun_leads s (card ∷ cards) b (t, e, rest) = (t, step_begun s card ∙ e, rest)

  -- behind an accepted data card, the state has that a card was read
  is_begun : (s : State) (card : ExactCard) (t : State) → card_step m f s card ≡ Ok t → t.begun ≡ true
  is_begun s (Xu column row) t h = ap (λ (u : State). u.begun) (pair_taken m f s column row (upper_first f) t h).marks
  is_begun s (Xl column row) t h = ap (λ (u : State). u.begun) (pair_taken m f s column row (lower_first f) t h).marks
  is_begun s (Ul column) t h = ap (λ (u : State). u.begun) (upper_taken m f s column t h).takes.marks
  is_begun s (Ll column) t h = ap (λ (u : State). u.begun) (usual_taken m f s column t h).marks

  -- ---- from the lines to the cards

  -- lines have these data cards alone, or a NAME before them, which is allowed only where the flag says that no card
  -- was read
  abbrev Before : Bool → List (Line (List ℕ)) → List ExactCard → Type 0
  Before c front cards =
      (readings_of front ≡ map Says cards) ⊎ ((c ≡ false) × (readings_of front ≡ Named ∷ map Says cards))

  -- the lines have a first ENDATA, and before it these data cards, with a NAME before them only where the flag says
  -- that no card was read
  record Cut (c : Bool) (lines : List (Line (List ℕ))) (cards : List ExactCard) : Type 0 where
    pub front : List (Line (List ℕ))
    pub last : Line (List ℕ)
    pub behind : List (Line (List ℕ))
    pub cut : lines ≡ front ++ last ∷ behind
    pub ends : reading_of last ≡ Ends
    pub before : Before c front cards

  -- from state s, lines have data cards before an ENDATA, and these lead to the basis b
  abbrev Found : State → List (Line (List ℕ)) → List Status → Type 0
  Found s lines b = (cards : List ExactCard) × Cut s.begun lines cards × LeadTo m f s cards b

  module _ (s : State) (n : ℕ) (line : Line (List ℕ)) (lines : List (Line (List ℕ))) (b : List Status)
      (rest : (t : State) → judge m f t (n + 1) lines ≡ Spelled b → Found t lines b) where
    -- the verdict on this line and the lines behind it, by the outcome of this line
    abbrev after : Outcome → Verdict
    after o = settled n (λ t. judge m f t (n + 1) lines) o

    -- lines with a first ENDATA still have it with one more line before them, where the longer front has its cards
    with_line : {c d : Bool} {cards more : List ExactCard} (k : Cut c lines cards) →
        (Before c k.front cards → Before d (line ∷ k.front) more) →
        Cut d (line ∷ lines) more
    with_line k next = record {
      front = line ∷ k.front;
      last = k.last;
      behind = k.behind;
      cut = ap (λ ls. line ∷ ls) k.cut;
      ends = k.ends;
      before = next k.before;
    }

    -- a comment or blank line before lines with cards for a basis gives lines with cards for it
    found_skipped : reading_of line ≡ Skipped → Found s lines b → Found s (line ∷ lines) b
    found_skipped e (cards, k, leads) = (cards, with_line k next, leads)
      where
        same : readings_of (line ∷ k.front) ≡ readings_of k.front
        same = ap (λ r. unless_skipped r ++ readings_of k.front) e

        next : Before s.begun k.front cards → Before s.begun (line ∷ k.front) cards
        next (inl g) = inl (same ∙ g)
        next (inr g) = inr (g.0, same ∙ g.1)

    -- a NAME, before which no card was read, before lines with cards for a basis gives lines with cards for it
    found_named : reading_of line ≡ Named → s.begun ≡ false → Found (begun s) lines b → Found s (line ∷ lines) b
    found_named e z (cards, k, leads) = (cards, with_line k next, leads_begun s cards b leads)
      where
        next : Before true k.front cards → Before s.begun (line ∷ k.front) cards
        next (inl g) = inr (z, ap (λ r. unless_skipped r ++ readings_of k.front) e ∙ ap (λ rs. Named ∷ rs) g)
        next (inr g) = let q : true ≡ false = g.0 in cc

    -- a line with an accepted data card before lines with cards for a basis gives lines with cards for it
    found_says : (card : ExactCard) (t : State) → reading_of line ≡ Says card → card_step m f s card ≡ Ok t →
        Found t lines b → Found s (line ∷ lines) b
    found_says card t e h (cards, k, leads) = (card ∷ cards, with_line k next, (t, h, leads))
      where
        next : Before t.begun k.front cards → Before s.begun (line ∷ k.front) (card ∷ cards)
        next (inl g) = inl (ap (λ r. unless_skipped r ++ readings_of k.front) e ∙ ap (λ rs. Says card ∷ rs) g)
        next (inr g) = let q : true ≡ false = sym (is_begun s card t h) ∙ g.0 in cc

    -- where the verdict on a line NAME and those behind it is a basis, they have cards for it
    named_by : (c : Bool) → s.begun ≡ c → reading_of line ≡ Named →
        after (more (must (not c) code.Section >>= λ _. Ok (begun s))) ≡ Spelled b → Found s (line ∷ lines) b
    named_by false z e h = found_named e z (rest (begun s) h)
    named_by true z e h = cc

    -- where the verdict on a line with a data card and those behind it is a basis, they have cards for it
    says_by : (card : ExactCard) (o : Check State) → card_step m f s card ≡ o → reading_of line ≡ Says card →
        after (more o) ≡ Spelled b → Found s (line ∷ lines) b
    says_by card (Ok t) g e h = found_says card t e g (rest t h)
    says_by card (Err why) g e h = cc

    -- whatever a line is read as, where the verdict on it and those behind it is a basis, they have cards for it
    found_by : (r : ExactReading) → reading_of line ≡ r → after (on_reading m f s r) ≡ Spelled b → Found s
        (line ∷ lines) b
    found_by Skipped e h = found_skipped e (rest s h)
    found_by Named e h = named_by s.begun refl e h
    found_by Ends e h =
        let z : b ≡ marked_basis f s = cc in
        ([], record { front = []; last = line; behind = lines; cut = refl; ends = e; before = inl refl }, z)
    found_by (Says card) e h = says_by card (card_step m f s card) refl e h
    found_by (Wrong why) e h = cc

  -- where the verdict on lines from a state is a basis, they have cards that lead to it from there
  found : (lines : List (Line (List ℕ))) (n : ℕ) (s : State) (b : List Status) → judge m f s n lines ≡ Spelled b →
      Found s lines b
  unfolding step
  found [] n s b h = cc
  found (line ∷ lines) n s b h = found_by s n line lines b (λ t g. found lines (n + 1) t b g) (reading_of line) refl h

  -- ---- from the cards to the lines

  module _ (last : Line (List ℕ)) (behind : List (Line (List ℕ))) (ends : reading_of last ≡ Ends) (b : List Status)
    where
      -- from a state that gives the basis b, a line ENDATA and what is behind it give b
      end_gives : (n : ℕ) (s : State) → b ≡ marked_basis f s → judge m f s n (last ∷ behind) ≡ Spelled b
      unfolding step
      end_gives n s e =
          ap (λ r. settled n (λ t. judge m f t (n + 1) behind) (on_reading m f s r)) ends ∙ ap Spelled (sym e)

      -- where nothing stands before ENDATA and its cards lead from a state to the basis b, the lines give b
      none_gives : (n : ℕ) (s : State) (c : Bool) (cards : List ExactCard) → Before c [] cards → LeadTo m f s cards b →
          judge m f s n (last ∷ behind) ≡ Spelled b
      none_gives n s c [] h e = end_gives n s e
      none_gives n s c (card ∷ cards) (inl g) l = let z : [] ≡ map Says (card ∷ cards) = g in cc
      none_gives n s c (card ∷ cards) (inr g) l = let z : [] ≡ Named ∷ map Says (card ∷ cards) = g.1 in cc

      module _ (n : ℕ) (s : State) (line : Line (List ℕ)) (front : List (Line (List ℕ)))
          (rest : (t : State) (cards : List ExactCard) → Before t.begun front cards → LeadTo m f t cards b →
          judge m f t (n + 1) (front ++ last ∷ behind) ≡ Spelled b) where
        -- the verdict on this line, the lines behind it and ENDATA, by the outcome of this line
        abbrev then : Outcome → Verdict
        then o = settled n (λ t. judge m f t (n + 1) (front ++ last ∷ behind)) o

        -- a skipped line, and lines behind it with cards that lead to the basis b, give b
        given_skipped : (cards : List ExactCard) →
            (readings_of front ≡ map Says cards) ⊎ ((s.begun ≡ false) × (readings_of front ≡ Named ∷ map Says cards)) →
            LeadTo m f s cards b → then (on_reading m f s Skipped) ≡ Spelled b
        given_skipped cards g l = rest s cards g l

        -- a line NAME before any card, and lines behind it with cards that lead to the basis b, give b
        given_named : (cards : List ExactCard) →
            (Named ∷ readings_of front ≡ map Says cards) ⊎
            ((s.begun ≡ false) × (Named ∷ readings_of front ≡ Named ∷ map Says cards)) →
            LeadTo m f s cards b → then (on_reading m f s Named) ≡ Spelled b
        given_named [] (inl g) l = cc
        given_named (card ∷ cards) (inl g) l = cc
        given_named cards (inr g) l =
            let z : readings_of front ≡ map Says cards = let q = g.1 in cc in
            ap (λ c. then (more (must (not c) code.Section >>= λ _. Ok (begun s)))) g.0
            ∙ rest (begun s) cards (inl z) (begun_leads s cards b l)

        -- a line with the first of the cards that lead to the basis b, and lines with the others, give b
        given_says : (card : ExactCard) (cards : List ExactCard) →
            (Says card ∷ readings_of front ≡ map Says cards) ⊎
            ((s.begun ≡ false) × (Says card ∷ readings_of front ≡ Named ∷ map Says cards)) →
            LeadTo m f s cards b → then (on_reading m f s (Says card)) ≡ Spelled b
        given_says card [] (inl g) l = cc
        given_says card (other ∷ cards) (inl g) (t, e, l) =
            let z : readings_of front ≡ map Says cards = cc in
            let same : card ≡ other = cc in
            ap (λ o. then (more o)) (ap (card_step m f s) same ∙ e) ∙ rest t cards (inl z) l
        given_says card cards (inr g) l = let z : Says card ∷ readings_of front ≡ Named ∷ map Says cards = g.1 in cc

        -- whatever a line is read as, where its cards and those of the lines behind it lead to the basis b, they give b
        given_by : (r : ExactReading) (cards : List ExactCard) →
            (unless_skipped r ++ readings_of front ≡ map Says cards)
            ⊎ ((s.begun ≡ false) × (unless_skipped r ++ readings_of front ≡ Named ∷ map Says cards)) →
            LeadTo m f s cards b → then (on_reading m f s r) ≡ Spelled b
        given_by Skipped cards g l = given_skipped cards g l
        given_by Named cards g l = given_named cards g l
        given_by (Says card) cards g l = given_says card cards g l
        given_by Ends [] (inl g) l = cc
        given_by Ends (card ∷ cards) (inl g) l = cc
        given_by Ends cards (inr g) l = let z : Ends ∷ readings_of front ≡ Named ∷ map Says cards = g.1 in cc
        given_by (Wrong why) [] (inl g) l = cc
        given_by (Wrong why) (card ∷ cards) (inl g) l = cc
        given_by (Wrong why) cards (inr g) l =
            let z : Wrong why ∷ readings_of front ≡ Named ∷ map Says cards = g.1 in cc

      -- lines with cards that lead from a state to the basis b, and an ENDATA behind them, give b
      given : (front : List (Line (List ℕ))) (n : ℕ) (s : State) (cards : List ExactCard) → Before s.begun front cards →
          LeadTo m f s cards b → judge m f s n (front ++ last ∷ behind) ≡ Spelled b
      unfolding step
      given [] n s cards g l = none_gives n s s.begun cards g l
      given (line ∷ front) n s cards g l =
          given_by n s line front (λ t more h k. given front (n + 1) t more h k) (reading_of line) cards g l

  -- ---- the law
  -- a basis that reading the lines gives is the one that their cards spell
  pub gives_spells : HasSizeOf m f → (lines : List (Line (List ℕ))) (b : List Status) → Gives m f lines b →
      SpellsBasis m f lines b
  gives_spells size lines b h =
      let w = found lines 1 (start f) b h in
      record {
        cards = w.0;
        has = has w.0 w.1;
        are = start_forth m f size w.0 b
            (lead_from m f size w.0 (start f) b (length-replicate (f.cols + f.rows) None) w.2);
      }
    where
      by : (front : List (Line (List ℕ))) (cards : List ExactCard) → Before false front cards →
          (readings_of front ≡ map Says cards) ⊎ (readings_of front ≡ Named ∷ map Says cards)
      by front cards (inl g) = inl g
      by front cards (inr g) = inr g.1

      has : (cards : List ExactCard) → Cut false lines cards → HasCards lines cards
      has cards k = record {
        front = k.front;
        last = k.last;
        more = k.behind;
        cut = k.cut;
        ends = k.ends;
        before = by k.front cards k.before;
      }

  -- a basis that the cards of lines spell is the one that reading the lines gives
  pub spells_gives : HasSizeOf m f → (lines : List (Line (List ℕ))) (b : List Status) → SpellsBasis m f lines b →
      Gives m f lines b
  spells_gives size lines b w =
      let k = w.has in
      ap (judge m f (start f) 1) k.cut
      ∙ given k.last k.more k.ends b k.front 1 (start f) w.cards (by k.front w.cards k.before)
      (from_lead m f size w.cards (start f) b (length-replicate (f.cols + f.rows) None)
      (start_back m f size w.cards b w.are))
    where
      by : (front : List (Line (List ℕ))) (cards : List ExactCard) →
          (readings_of front ≡ map Says cards) ⊎ (readings_of front ≡ Named ∷ map Says cards) → Before false front cards
      by front cards (inl g) = inl g
      by front cards (inr g) = inr (refl, g)
