-- What the lines of a file give is what their cards spell.
use Rattle.std.proofs.Common.{◌≡◌, ◌≢◌, ℕ, ◌+◌, ◌-◌, ◌<◌, ◌≤◌, ◌⊎◌, inl, inr, false, List}
use Rattle.std.proofs.Common.{[], ◌∷◌, length, get_or}
use Rattle.std.proofs.Common.{Some, None, is_some, Ok, All, refl, sym, ap, ◌∙◌, subst, arith}
use Rattle.std.proofs.lemmas.Bool.{cases_lt}
use Rattle.std.proofs.lemmas.List.{ext_get_or, get_or-replicate}
use Rattle.std.proofs.lemmas.List.Elements.{All-cons, All-head, All-tail}
use Rattle.spec_text.specs.Words.{same}
use Rattle.spec_exact.specs.Fraction.{ℚ}
use Rattle.spec_model.specs.Model.{Model, Name, width, height}
use Rattle.spec_model.specs.Kept.{row_place, column_place}
use Rattle.spec_model.proofs.NamePlaces.{row_inside, column_inside, row_one, column_one}
use Rattle.spec_pivot.specs.declared.status.Status.{Status}
use Rattle.spec_pivot.specs.declared.status.Status.TheVariants.{Basic, AtUpper}
use Rattle.spec_simplex.specs.Form.{Form, form_upper}
use Rattle.spec_simplex.specs.Eliminate.{basis_at}
use Rattle.spec_bas.specs.declared.card.Card.TheVariants.{Xu, Xl, Ul, Ll}
use Rattle.spec_bas.specs.Cards.{ExactCard}
use Rattle.spec_bas.specs.Steps.{State, start, mark, is_marked, marked_basis, status_of, lower_first}
use Rattle.spec_bas.specs.Steps.{upper_first, pair_step, upper_step, usual_step, card_step}
use Rattle.spec_bas.specs.Fits.{HasSizeOf}
use Rattle.spec_bas.specs.Spelled.{Means, IsPair, IsUpper, IsUsual, AreCardsOf, columns_on, rows_on}
use Rattle.spec_bas.proofs.Marks.{marked_at, marked_length, usual_column, usual_row, start_none, mark_length}
use Rattle.spec_bas.proofs.MarkSteps.{pair_taken, upper_taken, usual_taken}
use Rattle.spec_bas.proofs.Parts.{Part, part_aside, part_beside, part_stands, part_more, part_free, part_less}
use Rattle.spec_bas.proofs.Parts.{marked_other}

-- the data cards are accepted one after the other from state s on, and the last state gives the basis b
abbrev pub LeadTo : Model → Form → State → List ExactCard → List Status → Type 0
LeadTo m f s [] b = b ≡ marked_basis f s
LeadTo m f s (card ∷ cards) b = (t : State) × (card_step m f s card ≡ Ok t) × LeadTo m f t cards b

module _ (m : Model) (f : Form) (size : HasSizeOf m f) where
  -- these column names are distinct and have no status from a card in a state, and each column that they do not name
  -- has in the basis the status that the state gives it
  abbrev pub Columns : State → List Name → List Status → Type 0
  Columns s names b =
      Part f (column_place m) (λ j. j) (width m) (column_inside m) (column_one m) (λ i j e. e) s names b

  -- two rows with the same logical column are the same
  pub plus_apart : (i j : ℕ) → f.cols + i ≡ f.cols + j → i ≡ j
  plus_apart i j e = omega arith

  -- these row names are distinct and have no status from a card in a state, and each row that they do not name has in
  -- the basis the status that the state gives it
  abbrev pub Rows : State → List Name → List Status → Type 0
  Rows s names b =
      Part f (row_place m) (λ i. f.cols + i) (height m) (row_inside m) (row_one m) plus_apart s names b

  -- The cards spell the basis b from state s: they name columns and rows that have no status yet, each once, what each
  -- says is so in b, and all others have in b what s gives them.
  pub record From (s : State) (cards : List ExactCard) (b : List Status) : Type 0 where
    pub columns : Columns s (columns_on cards) b
    pub rows : Rows s (rows_on cards) b
    pub mean : All (Means m f b) cards
    pub all : length b ≡ f.cols + f.rows

  -- a row's logical column is none of the model
  row_off : (k : ℕ) → f.cols ≤ k → (j : ℕ) → j < width m → j ≢ k
  row_off k h j l e = omega (arith, size.cols)

  -- a structural column is no row's logical one
  column_off : (j : ℕ) → j < f.cols → (i : ℕ) → i < height m → f.cols + i ≢ j
  column_off j l i h e = omega arith

  -- ---- one card, from the marks after it to those before it
  module _ (s : State) (long : length s.marks ≡ f.cols + f.rows) (cards : List ExactCard) (b : List Status) where
    -- a card XU or XL before some cards: what these ask of names holds with its column and its row among them, and what
    -- it says is so in the basis
    record PairMore (column row : Name) (status : ℕ → Status) : Type 0 where
      pub columns : Columns s (column ∷ columns_on cards) b
      pub rows : Rows s (row ∷ rows_on cards) b
      pub means : IsPair m f b column row status

    -- where cards spell a basis from behind an accepted card XU or XL, what they ask of names holds with that card
    -- before them
    pair_more : (column row : Name) (status : ℕ → Status) (t : State) → pair_step m f s column row status ≡ Ok t →
        From t cards b → PairMore column row status
    pair_more column row status t h from =
        let p = pair_taken m f s column row status t h in
        let j = p.j in
        let k = f.cols + p.i in
        let low : j < f.cols = omega (arith, column_inside m column j p.is_column, size.cols) in
        let in_rows : p.i < f.rows = omega (arith, row_inside m row p.i p.is_row, size.rows) in
        let s1 = mark j Basic s in
        let st = status k in
        let g : From (mark k st s1) cards b = subst (λ (u : State). From u cards b) p.marks from in
        let long1 : length s1.marks ≡ f.cols + f.rows = mark_length f s j Basic ∙ long in
        let c1 = part_aside f (column_place m) (λ j. j) (width m) (column_inside m) (column_one m) (λ i j e. e) s1 k
        st (columns_on cards) b
        (row_off k (omega arith)) g.columns in
        let free1 : is_marked s1 k ≡ false = marked_other s j k Basic (λ e. omega (arith, e, low)) ∙ p.row_free in
        let r1 = part_more f (row_place m) (λ i. f.cols + i) (height m) (row_inside m) (row_one m) plus_apart s1 row
        p.i st (rows_on cards) b
        p.is_row (omega (arith, long1, in_rows)) g.rows free1 in
        record {
          columns = part_more f (column_place m) (λ j. j) (width m) (column_inside m) (column_one m) (λ i j e. e) s
              column j Basic (columns_on cards) b
              p.is_column (omega (arith, long, low)) c1 p.column_free;
          rows = part_aside f (row_place m) (λ i. f.cols + i) (height m) (row_inside m) (row_one m) plus_apart s j
              Basic (row ∷ rows_on cards) b
              (column_off j low) r1;
          means = record {
            j = j;
            i = p.i;
            is_column = p.is_column;
            is_row = p.is_row;
            basic = part_stands f (column_place m) (λ j. j) (width m) (column_inside m) (column_one m) (λ i j e. e)
                s column j Basic (columns_on cards) b
                p.is_column (omega (arith, long, low)) c1;
            stands = part_stands f (row_place m) (λ i. f.cols + i) (height m) (row_inside m) (row_one m) plus_apart
                s1 row p.i st (rows_on cards) b
                p.is_row (omega (arith, long1, in_rows)) g.rows;
          };
        }

    -- a card UL or LL before some cards: what these ask of names holds with its column among them, and the column has
    -- the status in the basis
    record ColumnMore (column : Name) (j : ℕ) (status : Status) : Type 0 where
      pub columns : Columns s (column ∷ columns_on cards) b
      pub rows : Rows s (rows_on cards) b
      pub stands : basis_at b j ≡ status

    -- where cards spell a basis from behind a card that gives a column a status, what they ask of names holds with that
    -- card before them
    column_more : (column : Name) (j : ℕ) (status : Status) → column_place m column ≡ Some j → is_marked s j ≡ false →
        From (mark j status s) cards b → ColumnMore column j status
    column_more column j status is free g =
        let low : j < f.cols = omega (arith, column_inside m column j is, size.cols) in
        record {
          columns = part_more f (column_place m) (λ j. j) (width m) (column_inside m) (column_one m) (λ i j e. e) s
              column j status (columns_on cards) b
              is (omega (arith, long, low)) g.columns free;
          rows = part_aside f (row_place m) (λ i. f.cols + i) (height m) (row_inside m) (row_one m) plus_apart s j
              status (rows_on cards) b
              (column_off j low) g.rows;
          stands = part_stands f (column_place m) (λ j. j) (width m) (column_inside m) (column_one m) (λ i j e. e) s
              column j status (columns_on cards) b
              is (omega (arith, long, low)) g.columns;
        }

    -- where what a card XU or XL and further cards ask holds, they spell the basis from the state before the card
    paired : (card : ExactCard) (column row : Name) (status : ℕ → Status) → PairMore column row status →
        ◌≡◌ {A = List Name} (columns_on (card ∷ cards)) (column ∷ columns_on cards) →
        ◌≡◌ {A = List Name} (rows_on (card ∷ cards)) (row ∷ rows_on cards) →
        (IsPair m f b column row status → Means m f b card) → (t : State) → From t cards b → From s (card ∷ cards) b
    paired card column row status p e g means t from = record {
      columns = subst (λ (names : List Name). Columns s names b) (sym e) p.columns;
      rows = subst (λ (names : List Name). Rows s names b) (sym g) p.rows;
      mean = All-cons (Means m f b) card cards (means p.means) from.mean;
      all = from.all;
    }

    -- where cards spell a basis from behind an accepted card, that card and they spell it from before the card
    card_more : (card : ExactCard) (t : State) → card_step m f s card ≡ Ok t → From t cards b → From s (card ∷ cards) b
    card_more (Xu column row) t h from =
        paired (Xu column row) column row (upper_first f) (pair_more column row (upper_first f) t h from) refl refl
        (λ p. p) t from
    card_more (Xl column row) t h from =
        paired (Xl column row) column row (lower_first f) (pair_more column row (lower_first f) t h from) refl refl
        (λ p. p) t from
    card_more (Ul column) t h from =
        let p = upper_taken m f s column t h in
        let q = p.takes in
        let c = column_more column q.j AtUpper q.is_column q.column_free
        (subst (λ (u : State). From u cards b) q.marks from) in
        record {
          columns = c.columns;
          rows = c.rows;
          mean = All-cons (Means m f b) (Ul column) cards
              (record { j = q.j; is_column = q.is_column; bound = p.bound; stands = c.stands }) from.mean;
          all = from.all;
        }
    card_more (Ll column) t h from =
        let q = usual_taken m f s column t h in
        let c = column_more column q.j (lower_first f q.j) q.is_column q.column_free
        (subst (λ (u : State). From u cards b) q.marks from) in
        record {
          columns = c.columns;
          rows = c.rows;
          mean = All-cons (Means m f b) (Ll column) cards
              (record { j = q.j; is_column = q.is_column; stands = c.stands }) from.mean;
          all = from.all;
        }

  -- ---- and from those before it to those after it
  -- a card XU or XL of a column and a row that have no status yet is accepted, and gives each one
  pair_steps : (s : State) (column row : Name) (status : ℕ → Status) (j i : ℕ) → column_place m column ≡ Some j →
      row_place m row ≡ Some i → is_marked s j ≡ false → is_marked s (f.cols + i) ≡ false →
      pair_step m f s column row status ≡ Ok (mark (f.cols + i) (status (f.cols + i)) (mark j Basic s))
  unfolding pair_step
  pair_steps s column row status j i p q a c = rw (p, q, a, c) refl

  -- a card UL of a column with an upper bound and no status yet is accepted, and puts it at that bound
  upper_steps : (s : State) (column : Name) (j : ℕ) (u : ℚ) → column_place m column ≡ Some j → is_marked s j ≡ false →
      form_upper f j ≡ Some u → upper_step m f s column ≡ Ok (mark j AtUpper s)
  unfolding upper_step
  upper_steps s column j u p a c = rw (p, a, c) refl

  -- a card LL of a column that has no status yet is accepted, and gives it its usual one
  usual_steps : (s : State) (column : Name) (j : ℕ) → column_place m column ≡ Some j → is_marked s j ≡ false →
      usual_step m f s column ≡ Ok (mark j (lower_first f j) s)
  unfolding usual_step
  usual_steps s column j p a = rw (p, a) refl

  module _ (s : State) (long : length s.marks ≡ f.cols + f.rows) (cards : List ExactCard) (b : List Status) where
    -- a card is accepted in state s, and the further cards spell the basis b from the state behind it
    abbrev Next : ExactCard → Type 0
    Next card = (t : State) × (card_step m f s card ≡ Ok t) × From t cards b × (length t.marks ≡ f.cols + f.rows)

    -- where a card XU or XL and further cards spell a basis, the card is accepted, and the further cards spell it from
    -- behind it
    pair_less : (card : ExactCard) (column row : Name) (status : ℕ → Status) →
        card_step m f s card ≡ pair_step m f s column row status → Columns s (column ∷ columns_on cards) b →
        Rows s (row ∷ rows_on cards) b → IsPair m f b column row status → All (Means m f b) cards →
        length b ≡ f.cols + f.rows → Next card
    pair_less card column row status same c r p mean all =
        let j = p.j in
        let k = f.cols + p.i in
        let low : j < f.cols = omega (arith, column_inside m column j p.is_column, size.cols) in
        let in_rows : p.i < f.rows = omega (arith, row_inside m row p.i p.is_row, size.rows) in
        let s1 = mark j Basic s in
        let st = status k in
        let long1 : length s1.marks ≡ f.cols + f.rows = mark_length f s j Basic ∙ long in
        let free = part_free f (column_place m) (λ j. j) (width m) (column_inside m) (column_one m) (λ i j e. e) s
        column j Basic (columns_on cards) b
        p.is_column (omega (arith, long, low)) c p.basic in
        let c1 = part_less f (column_place m) (λ j. j) (width m) (column_inside m) (column_one m) (λ i j e. e) s
        column j Basic (columns_on cards) b
        p.is_column (omega (arith, long, low)) c p.basic in
        let c2 = part_beside f (column_place m) (λ j. j) (width m) (column_inside m) (column_one m) (λ i j e. e) s1
        k st (columns_on cards) b
        (row_off k (omega arith)) c1 in
        let r1 = part_beside f (row_place m) (λ i. f.cols + i) (height m) (row_inside m) (row_one m) plus_apart s j
        Basic (row ∷ rows_on cards) b
        (column_off j low) r in
        let free1 = part_free f (row_place m) (λ i. f.cols + i) (height m) (row_inside m) (row_one m) plus_apart s1
        row p.i st (rows_on cards) b
        p.is_row (omega (arith, long1, in_rows)) r1 p.stands in
        let r2 = part_less f (row_place m) (λ i. f.cols + i) (height m) (row_inside m) (row_one m) plus_apart s1 row
        p.i st (rows_on cards) b
        p.is_row (omega (arith, long1, in_rows)) r1 p.stands in
        let free_row : is_marked s k ≡ false = sym (marked_other s j k Basic (λ e. omega (arith, e, low))) ∙ free1 in (
          mark k st s1,
          same ∙ pair_steps s column row status j p.i p.is_column p.is_row free free_row,
          record { columns = c2; rows = r2; mean = mean; all = all },
          mark_length f s1 k st ∙ long1,
        )

    -- where a card UL or LL and further cards spell a basis, the card is accepted, and the further cards spell it from
    -- behind it
    column_less : (card : ExactCard) (column : Name) (j : ℕ) (status : Status) → column_place m column ≡ Some j →
        Columns s (column ∷ columns_on cards) b → Rows s (rows_on cards) b → basis_at b j ≡ status →
        All (Means m f b) cards → length b ≡ f.cols + f.rows →
        (is_marked s j ≡ false → card_step m f s card ≡ Ok (mark j status s)) → Next card
    column_less card column j status is c r stands mean all steps =
        let low : j < f.cols = omega (arith, column_inside m column j is, size.cols) in
        let free = part_free f (column_place m) (λ j. j) (width m) (column_inside m) (column_one m) (λ i j e. e) s
        column j status (columns_on cards) b
        is (omega (arith, long, low)) c stands in
        let c1 = part_less f (column_place m) (λ j. j) (width m) (column_inside m) (column_one m) (λ i j e. e) s
        column j status (columns_on cards) b
        is (omega (arith, long, low)) c stands in
        let r1 = part_beside f (row_place m) (λ i. f.cols + i) (height m) (row_inside m) (row_one m) plus_apart s j
        status (rows_on cards) b
        (column_off j low) r in (
          mark j status s,
          steps free,
          record { columns = c1; rows = r1; mean = mean; all = all },
          mark_length f s j
              status ∙ long,
        )

    -- where a card and further cards spell a basis, the card is accepted, and the further cards spell it from behind it
    card_less : (card : ExactCard) → From s (card ∷ cards) b → Next card
    card_less (Xu column row) g =
        pair_less (Xu column row) column row (upper_first f) refl g.columns g.rows
        (All-head (Means m f b) (Xu column row) cards g.mean) (All-tail (Means m f b) (Xu column row) cards g.mean)
        g.all
    card_less (Xl column row) g =
        pair_less (Xl column row) column row (lower_first f) refl g.columns g.rows
        (All-head (Means m f b) (Xl column row) cards g.mean) (All-tail (Means m f b) (Xl column row) cards g.mean)
        g.all
    card_less (Ul column) g =
        let p : IsUpper m f b column = All-head (Means m f b) (Ul column) cards g.mean in
        column_less (Ul column) column p.j AtUpper p.is_column g.columns g.rows p.stands
        (All-tail (Means m f b) (Ul column) cards g.mean) g.all
        (λ free. upper_steps s column p.j p.bound.0 p.is_column free p.bound.1)
    card_less (Ll column) g =
        let p : IsUsual m f b column = All-head (Means m f b) (Ll column) cards g.mean in
        column_less (Ll column) column p.j (lower_first f p.j) p.is_column g.columns g.rows p.stands
        (All-tail (Means m f b) (Ll column) cards g.mean) g.all
        (λ free. usual_steps s column p.j p.is_column free)

  -- giving one column a status leaves as many marks as the form has columns
  one_long : (s : State) → length s.marks ≡ f.cols + f.rows → (j : ℕ) (status : Status) (t : State) → t ≡ mark j
      status s →
      length t.marks ≡ f.cols + f.rows
  one_long s long j status t e = ap (λ (u : State). length u.marks) e ∙ mark_length f s j status ∙ long

  -- giving a column and a row a status leaves as many marks as the form has columns
  pair_long : (s : State) → length s.marks ≡ f.cols + f.rows → (j k : ℕ) (status : Status) (t : State) →
      t ≡ mark k status (mark j Basic s) → length t.marks ≡ f.cols + f.rows
  pair_long s long j k status t e =
      ap (λ (u : State). length u.marks) e ∙ mark_length f (mark j Basic s) k status ∙ mark_length f s j Basic ∙ long

  -- ---- no more cards
  -- from each state no cards spell the basis that the state gives
  done_forth : (s : State) (b : List Status) → b ≡ marked_basis f s → From s [] b
  done_forth s b e = record {
    columns = record {
      once = λ i k d l r. absurd (omega arith);
      free = λ q d l. absurd (omega arith);
      others = λ j l h. ap (λ c. basis_at c j) e ∙ marked_at f s j (omega (arith, l, size.cols));
    };
    rows = record {
      once = λ i k d l r. absurd (omega arith);
      free = λ q d l. absurd (omega arith);
      others = λ i l h. ap (λ c. basis_at c (f.cols + i)) e ∙ marked_at f s (f.cols + i) (omega (arith, l, size.rows));
    };
    mean = λ q d l. absurd (omega arith);
    all = ap length e ∙ marked_length f s;
  }

  -- a basis that no cards spell from a state is the one that the state gives
  done_back : (s : State) (b : List Status) → From s [] b → b ≡ marked_basis f s
  done_back s b g = ext_get_or Basic b (marked_basis f s) (g.all ∙ sym (marked_length f s))
      (λ k h. by k (omega (arith, h, g.all)) (cases_lt k f.cols))
    where
      by : (k : ℕ) → k < f.cols + f.rows → (k < f.cols) ⊎ (f.cols ≤ k) → basis_at b k ≡ basis_at (marked_basis f s) k
      by k h (inl l) =
          g.columns.others k (omega (arith, l, size.cols)) (λ q d z. absurd (omega arith)) ∙ sym (marked_at f s k h)
      by k h (inr l) =
          let i = k - f.cols in
          let z : f.cols + i ≡ k = omega arith in
          ap (basis_at b) (sym z)
          ∙ g.rows.others i (omega (arith, h, l, size.rows)) (λ q d z. absurd (omega arith))
          ∙ ap (status_of f s) z ∙ sym (marked_at f s k h)

  -- ---- all cards
  -- an accepted card leaves as many marks as the form has columns
  stepped : (s : State) → length s.marks ≡ f.cols + f.rows → (card : ExactCard) (t : State) → card_step m f s card ≡
      Ok t →
      length t.marks ≡ f.cols + f.rows
  stepped s long (Xu column row) t h =
      let p = pair_taken m f s column row (upper_first f) t h in pair_long s long p.j (f.cols + p.i) _ t p.marks
  stepped s long (Xl column row) t h =
      let p = pair_taken m f s column row (lower_first f) t h in pair_long s long p.j (f.cols + p.i) _ t p.marks
  stepped s long (Ul column) t h = let p = upper_taken m f s column t h in one_long s long p.takes.j _ t p.takes.marks
  stepped s long (Ll column) t h = let p = usual_taken m f s column t h in one_long s long p.j _ t p.marks

  -- cards that lead from a state to a basis spell it from there
  pub lead_from : (cards : List ExactCard) (s : State) (b : List Status) → length s.marks ≡ f.cols + f.rows →
      LeadTo m f s cards b → From s cards b
  lead_from [] s b long e = done_forth s b e
  lead_from (card ∷ cards) s b long (t, step, rest) =
      card_more s long cards b card t step (lead_from cards t b (stepped s long card t step) rest)

  -- cards that spell a basis from a state lead to it from there
  pub from_lead : (cards : List ExactCard) (s : State) (b : List Status) → length s.marks ≡ f.cols + f.rows →
      From s cards b → LeadTo m f s cards b
  from_lead [] s b long g = done_back s b g
  from_lead (card ∷ cards) s b long g =
      let n = card_less s long cards b card g in
      (n.0, n.1, from_lead cards n.0 b n.3 n.2)

  -- ---- from the start
  -- before the first line no column has a status from a card
  none_marked : (k : ℕ) → k < f.cols + f.rows → is_marked (start f) k ≡ false
  none_marked k h = ap is_some (get_or-replicate (f.cols + f.rows) k None None h)

  -- cards that spell a basis from the state before the first line are cards of that basis
  pub start_forth : (cards : List ExactCard) (b : List Status) → From (start f) cards b → AreCardsOf m f cards b
  start_forth cards b g = record {
    columns_once = g.columns.once;
    rows_once = g.rows.once;
    mean = g.mean;
    all = g.all;
    other_columns = λ j l h. g.columns.others j (omega (arith, l, size.cols)) h
        ∙ start_none f j (omega (arith, l)) ∙ usual_column f j l;
    other_rows = λ i l h. g.rows.others i (omega (arith, l, size.rows)) h
        ∙ start_none f (f.cols + i) (omega (arith, l)) ∙ usual_row f (f.cols + i) (omega arith);
  }

  -- cards of a basis spell it from the state before the first line
  pub start_back : (cards : List ExactCard) (b : List Status) → AreCardsOf m f cards b → From (start f) cards b
  start_back cards b g = record {
    columns = record {
      once = g.columns_once;
      free = λ q d l j e. none_marked j (omega (arith, column_inside m (get_or (columns_on cards) q d) j e, size.cols));
      others = λ j l h. let low : j < f.cols = omega (arith, l, size.cols) in
          g.other_columns j low h ∙ sym (start_none f j (omega (arith, low)) ∙ usual_column f j low);
    };
    rows = record {
      once = g.rows_once;
      free = λ q d l i e. none_marked (f.cols + i)
          (omega (arith, row_inside m (get_or (rows_on cards) q d) i e, size.rows));
      others = λ i l h. let low : i < f.rows = omega (arith, l, size.rows) in
          g.other_rows i low h ∙ sym (start_none f (f.cols + i) (omega (arith, low)) ∙ usual_row f (f.cols + i)
          (omega arith));
    };
    mean = g.mean;
    all = g.all;
  }
