-- What each step that goes on marks, and that a basis of the form stays one from line to line.
--
-- `pair_taken`: an accepted card XU or XL names a column and a row that have no status from a card yet, and gives each
--   one.
-- `usual_taken`: an accepted card LL names a column that has no status from a card yet, and gives it the one that it
--   has without a card.
-- `upper_taken`: an accepted card UL names a column with an upper bound and no status from a card yet, and puts it at
--   that bound.
use Rattle.std.proofs.Common.{◌≡◌, ℕ, ◌+◌, ◌||◌, Bool, true, false, not}
use Rattle.std.proofs.Common.{List}
use Rattle.std.proofs.Common.{Option, Some, None, is_some, Ok, Err, refl, sym, ap, ◌∙◌, subst, arith}
use Rattle.spec_exact.specs.Fraction.{ℚ}
use Rattle.spec_model.specs.Model.{Model, Name}
use Rattle.spec_model.specs.Kept.{row_place, column_place}
use Rattle.spec_pivot.specs.declared.status.Status.{Status}
use Rattle.spec_pivot.specs.declared.status.Status.TheVariants.{Basic, AtUpper}
use Rattle.spec_simplex.specs.Form.{Form, form_lower, form_upper}
use Rattle.spec_exact.specs.Run.{◌>>=◌}
use Rattle.spec_simplex.specs.Tableau.{is_basic}
use Rattle.spec_simplex.specs.Eliminate.{CanStand, IsBasisOf}
use Rattle.spec_bas.specs.declared.fault.BasCode.TheVariants as code
use Rattle.spec_bas.specs.declared.card.Card.TheVariants.{Xu, Xl, Ul, Ll}
use Rattle.spec_bas.specs.declared.card.Reading.TheVariants.{Skipped, Named, Ends, Says, Wrong}
use Rattle.spec_text.specs.declared.line.Line.{Line}
use Rattle.spec_bas.specs.Cards.{ExactCard, ExactReading, reading_of}
use Rattle.spec_bas.specs.Steps.{State, mark, is_marked, marked_basis, lower_first}
use Rattle.spec_bas.specs.Steps.{upper_first, must, need, pair_step, upper_step, usual_step, card_step}
use Rattle.spec_bas.specs.Steps.{Check, More, Done, more, on_reading, step}
use Rattle.spec_bas.specs.Fits.{HasSizeOf, IsMarking}
use Rattle.spec_model.proofs.NamePlaces.{row_inside, column_inside}
use Rattle.spec_bas.proofs.Marks.{lower_can, lower_out, upper_can, upper_out, one_marks, pair_marks}

-- The names are those of a column j and a row i, neither of which has a status from a card in state s. State t is s
-- with column j basic and row i's logical at the status that `status` gives for its number.
pub record TakesPair (m : Model) (f : Form) (s : State) (column row : Name) (status : ℕ → Status) (t : State) : Type
    0 where
  pub j : ℕ
  pub i : ℕ
  pub is_column : column_place m column ≡ Some j
  pub is_row : row_place m row ≡ Some i
  pub column_free : is_marked s j ≡ false
  pub row_free : is_marked s (f.cols + i) ≡ false
  pub marks : t ≡ mark (f.cols + i) (status (f.cols + i)) (mark j Basic s)

pub pair_taken : (m : Model) (f : Form) (s : State) (column row : Name) (status : ℕ → Status) (t : State) →
    pair_step m f s column row status ≡ Ok t → TakesPair m f s column row status t
unfolding pair_step
pair_taken m f s column row status t h = by (column_place m column) (row_place m row) refl refl h
  where
    free : (j i : ℕ) → column_place m column ≡ Some j → row_place m row ≡ Some i → (c d : Bool) →
        is_marked s j ≡ c → is_marked s (f.cols + i) ≡ d →
        (must (not (c || d)) code.Repeated >>= λ _. Ok (mark (f.cols + i) (status (f.cols + i)) (mark j Basic s))) ≡
        Ok t →
        TakesPair m f s column row status t
    free j i p q false false a b e = record {
      j = j;
      i = i;
      is_column = p;
      is_row = q;
      column_free = a;
      row_free = b;
      marks = cc;
    }
    free j i p q true d a b e = cc
    free j i p q false true a b e = cc

    by : (o p : Option ℕ) → column_place m column ≡ o → row_place m row ≡ p →
        (need o code.UnknownColumn >>= λ j. need p code.UnknownRow >>= λ i.
        must (not (is_marked s j || is_marked s (f.cols + i))) code.Repeated >>= λ _.
        Ok (mark (f.cols + i) (status (f.cols + i)) (mark j Basic s))) ≡ Ok t →
        TakesPair m f s column row status t
    by None p a b e = cc
    by (Some j) None a b e = cc
    by (Some j) (Some i) a b e = free j i a b (is_marked s j) (is_marked s (f.cols + i)) refl refl e

-- The name is that of a column j, which has no status from a card in state s. State t is s with the status that
-- `status` gives for j.
pub record TakesColumn (m : Model) (s : State) (column : Name) (status : ℕ → Status) (t : State) : Type 0 where
  pub j : ℕ
  pub is_column : column_place m column ≡ Some j
  pub column_free : is_marked s j ≡ false
  pub marks : t ≡ mark j (status j) s

pub usual_taken : (m : Model) (f : Form) (s : State) (column : Name) (t : State) → usual_step m f s column ≡ Ok t →
    TakesColumn m s column (lower_first f) t
unfolding usual_step
usual_taken m f s column t h = by (column_place m column) refl h
  where
    free : (j : ℕ) → column_place m column ≡ Some j → (c : Bool) → is_marked s j ≡ c →
        (must (not c) code.Repeated >>= λ _. Ok (mark j (lower_first f j) s)) ≡ Ok t →
        TakesColumn m s column (lower_first f) t
    free j p false a e = record { j = j; is_column = p; column_free = a; marks = cc }
    free j p true a e = cc

    by : (o : Option ℕ) → column_place m column ≡ o →
        (need o code.UnknownColumn >>= λ j. must (not (is_marked s j)) code.Repeated >>= λ _. Ok
        (mark j (lower_first f j) s)) ≡ Ok t →
        TakesColumn m s column (lower_first f) t
    by None a e = cc
    by (Some j) a e = free j a (is_marked s j) refl e

-- The name is that of a column with an upper bound and no status from a card in state s. State t is s with this column
-- at that bound.
pub record TakesUpper (m : Model) (f : Form) (s : State) (column : Name) (t : State) : Type 0 where
  pub takes : TakesColumn m s column (λ _. AtUpper) t
  pub bound : (u : ℚ) × (form_upper f takes.j ≡ Some u)

pub upper_taken : (m : Model) (f : Form) (s : State) (column : Name) (t : State) → upper_step m f s column ≡ Ok t →
    TakesUpper m f s column t
unfolding upper_step
upper_taken m f s column t h = by (column_place m column) refl h
  where
    free : (j : ℕ) → column_place m column ≡ Some j → (c : Bool) (u : Option ℚ) → is_marked s j ≡ c → form_upper f
        j ≡ u →
        (must (not c) code.Repeated >>= λ _. must (is_some u) code.NoUpperBound >>= λ _. Ok (mark j AtUpper s)) ≡ Ok t →
        TakesUpper m f s column t
    free j p false (Some u) a b e =
        record { takes = record { j = j; is_column = p; column_free = a; marks = cc }; bound = (u, b) }
    free j p false None a b e = cc
    free j p true u a b e = cc

    by : (o : Option ℕ) → column_place m column ≡ o →
        (need o code.UnknownColumn >>= λ j. must (not (is_marked s j)) code.Repeated >>= λ _.
        must (is_some (form_upper f j)) code.NoUpperBound >>= λ _. Ok (mark j AtUpper s)) ≡ Ok t →
        TakesUpper m f s column t
    by None a e = cc
    by (Some j) a e = free j a (is_marked s j) (form_upper f j) refl refl e

module _ (m : Model) (f : Form) (size : HasSizeOf m f) (s : State) (g : IsMarking f s) where
  -- an accepted card XU or XL leaves a state that gives a basis of the form, where the row's new status is possible and
  -- not basic
  pair_keeps : (column row : Name) (status : ℕ → Status) (t : State) →
      ((k : ℕ) → CanStand (status k) (form_lower f k) (form_upper f k)) → ((k : ℕ) → is_basic (status k) ≡ false) →
      pair_step m f s column row status ≡ Ok t → IsMarking f t
  pair_keeps column row status t can out h =
      let p = pair_taken m f s column row status t h in
      subst (IsMarking f) (sym p.marks)
      (pair_marks f s p.j p.i (status (f.cols + p.i)) g
      (omega (arith, column_inside m column p.j p.is_column, size.cols))
      (omega (arith, row_inside m row p.i p.is_row, size.rows))
      p.column_free p.row_free (can (f.cols + p.i)) (out (f.cols + p.i)))

  -- an accepted card of a column alone leaves a state that gives a basis of the form, where the column's new status is
  -- possible and not basic
  column_keeps : (column : Name) (status : ℕ → Status) (t : State) → (p : TakesColumn m s column status t) →
      CanStand (status p.j) (form_lower f p.j) (form_upper f p.j) → is_basic (status p.j) ≡ false → IsMarking f t
  column_keeps column status t p can out =
      subst (IsMarking f) (sym p.marks)
      (one_marks f s p.j (status p.j) g (omega (arith, column_inside m column p.j p.is_column, size.cols))
      p.column_free can out)

  -- an accepted data card leaves a state that gives a basis of the form
  pub card_keeps : (card : ExactCard) (t : State) → card_step m f s card ≡ Ok t → IsMarking f t
  card_keeps (Xu column row) t h =
      pair_keeps column row (upper_first f) t (λ k. upper_can (form_lower f k) (form_upper f k))
      (λ k. upper_out (form_lower f k) (form_upper f k)) h
  card_keeps (Xl column row) t h =
      pair_keeps column row (lower_first f) t (λ k. lower_can (form_lower f k) (form_upper f k))
      (λ k. lower_out (form_lower f k) (form_upper f k)) h
  card_keeps (Ul column) t h =
      let p = upper_taken m f s column t h in column_keeps column (λ _. AtUpper) t p.takes p.bound refl
  card_keeps (Ll column) t h =
      let p = usual_taken m f s column t h in
      column_keeps column (lower_first f) t p (lower_can (form_lower f p.j) (form_upper f p.j))
      (lower_out (form_lower f p.j) (form_upper f p.j))

  -- ---- whole lines
  -- the state with a card read already gives a basis of the form too
  begun_keeps : IsMarking f (record s { begun = true })
  unfolding marked_basis
  begun_keeps = record { all = g.all; fits = g.fits }

  -- an accepted NAME leaves a state that gives a basis of the form
  named_keeps : (c : Bool) (t : State) →
      more (must (not c) code.Section >>= λ _. Ok (record s { begun = true })) ≡ Ok (More t) → IsMarking f t
  named_keeps false t h = let e : record s { begun = true } ≡ t = cc in subst (IsMarking f) e begun_keeps
  named_keeps true t h = cc

  -- where a line with a data card goes on, its state gives a basis of the form
  said_keeps : (card : ExactCard) (c : Check State) (t : State) → card_step m f s card ≡ c →
      more c ≡ Ok (More t) → IsMarking f t
  said_keeps card (Ok u) t a h = card_keeps card t (let e : u ≡ t = cc in a ∙ ap Ok e)
  said_keeps card (Err code) t a h = cc

  -- where a line goes on, whatever it is read as, its state gives a basis of the form
  on_keeps : (r : ExactReading) (t : State) → on_reading m f s r ≡ Ok (More t) → IsMarking f t
  on_keeps Skipped t h = let e : s ≡ t = cc in subst (IsMarking f) e g
  on_keeps Named t h = named_keeps s.begun t h
  on_keeps Ends t h = cc
  on_keeps (Says card) t h = said_keeps card (card_step m f s card) t refl h
  on_keeps (Wrong code) t h = cc

  -- a line with a data card does not end the file
  said_not_done : (c : Check State) (basis : List Status) → more c ≡ Ok (Done basis) → ⊥
  said_not_done (Ok u) basis h = cc
  said_not_done (Err code) basis h = cc

  -- a line NAME does not end the file
  named_not_done : (c : Bool) (basis : List Status) →
      more (must (not c) code.Section >>= λ _. Ok (record s { begun = true })) ≡ Ok (Done basis) → ⊥
  named_not_done false basis h = cc
  named_not_done true basis h = cc

  -- where a line ends the file, whatever it is read as, the file's basis is one of the form
  on_fits : (r : ExactReading) (basis : List Status) → on_reading m f s r ≡ Ok (Done basis) → IsBasisOf f basis
  on_fits Skipped basis h = cc
  on_fits Named basis h = absurd (named_not_done s.begun basis h)
  on_fits Ends basis h = let e : marked_basis f s ≡ basis = cc in subst (IsBasisOf f) e g.fits
  on_fits (Says card) basis h = absurd (said_not_done (card_step m f s card) basis h)
  on_fits (Wrong code) basis h = cc

  -- where a line goes on to a further state, that state gives a basis of the form too
  pub step_keeps : (line : Line (List ℕ)) (t : State) → step m f s line ≡ Ok (More t) → IsMarking f t
  unfolding step
  step_keeps line t h = on_keeps (reading_of line) t h

  -- where a line ends the file, the file's basis is one of the form
  pub step_fits : (line : Line (List ℕ)) (basis : List Status) → step m f s line ≡ Ok (Done basis) → IsBasisOf f basis
  unfolding step
  step_fits line basis h = on_fits (reading_of line) basis h
