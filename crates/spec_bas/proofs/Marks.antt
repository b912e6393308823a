-- What was read of a file gives a basis of the form, also with one more mark of a column or of a pair.
--
-- `lower_can`: whatever its bounds are, a column can stand at its lower one, else at its upper one, else at 0.
-- `lower_out`: a column at its lower bound, else at its upper one, else at 0, is not basic.
-- `upper_can`: whatever its bounds are, a column can stand at its upper bound, or at what it has in its place.
-- `upper_out`: a column at its upper bound, or at what it has in its place, is not basic.
use Rattle.std.proofs.Common.{◌≡◌, ◌≢◌, ℕ, zero, suc, ◌+◌, ◌<◌, ◌≤◌, ◌⊎◌, inl, inr, Bool, true, false}
use Rattle.std.proofs.Common.{cond, ltb, List, length, get_or}
use Rattle.std.proofs.Common.{Option, Some, None, is_some, ⊎_elim, refl, sym, ap, ◌∙◌, subst, arith}
use Rattle.std.proofs.Common.{get_or-set_other, get_or-set_same}
use Rattle.std.proofs.lemmas.Bool.{cases_eq}
use Rattle.std.proofs.lemmas.List.{get_or-replicate, length-replicate}
use Rattle.std.proofs.Math.ListN.{length-set}
use borrow.Author.Tests.{lt-ltb, le-ltb}
use Rattle.spec_exact.specs.Fraction.{ℚ}
use Rattle.spec_pivot.specs.declared.status.Status.{Status}
use Rattle.spec_pivot.specs.declared.status.Status.TheVariants.{Basic}
use Rattle.spec_simplex.specs.Form.{Form, form_lower, form_upper}
use Rattle.spec_simplex.specs.Start.{first_status}
use Rattle.spec_simplex.specs.Tableau.{is_basic}
use Rattle.spec_simplex.specs.Eliminate.{basis_at, basics_below, CanStand}
use Rattle.spec_exact.proofs.RunsInOrder.{length-made, get_or-made}
use Rattle.spec_bas.specs.Steps.{State, start, mark, is_marked, marked_status, marked_basis, usual_status, lower_first}
use Rattle.spec_bas.specs.Steps.{upper_status}
use Rattle.spec_bas.specs.Fits.{IsMarking}

-- ---- where columns can stand

pub lower_can : (l u : Option ℚ) → CanStand (first_status l u) l u
lower_can (Some l) u = (l, refl)
lower_can None (Some u) = (u, refl)
lower_can None None = (refl, refl)

pub lower_out : (l u : Option ℚ) → is_basic (first_status l u) ≡ false
lower_out (Some l) u = refl
lower_out None (Some u) = refl
lower_out None None = refl

pub upper_can : (l u : Option ℚ) → CanStand (upper_status l u) l u
upper_can l (Some u) = (u, refl)
upper_can (Some l) None = (l, refl)
upper_can None None = (refl, refl)

pub upper_out : (l u : Option ℚ) → is_basic (upper_status l u) ≡ false
upper_out l (Some u) = refl
upper_out (Some l) None = refl
upper_out None None = refl

-- ---- counts

-- two lists that agree below n have as many basic columns there
basics_same : (b c : List Status) (n : ℕ) → ((i : ℕ) → i < n → is_basic (basis_at c i) ≡ is_basic (basis_at b i)) →
    basics_below c n ≡ basics_below b n
basics_same b c zero h = refl
basics_same b c (suc n) h =
    let rest = basics_same b c n (λ i l. h i (omega arith)) in
    rw (rest, h n (omega arith)) refl

-- of two lists that agree but at k, which is basic in the second alone, the second has one basic more
basics_one : (b c : List Status) (k n : ℕ) → k < n → is_basic (basis_at b k) ≡ false → is_basic (basis_at c k) ≡ true →
    ((i : ℕ) → i < n → i ≢ k → is_basic (basis_at c i) ≡ is_basic (basis_at b i)) →
    basics_below c n ≡ basics_below b n + 1
basics_one b c k zero l out in' h = absurd (omega arith)
basics_one b c k (suc n) l out in' h =
    ⊎_elim at_end (λ ne. before ne (basics_one b c k n (omega arith) out in' (λ i p. h i (omega arith)))) (cases_eq n k)
  where
    at_end : n ≡ k → basics_below c (suc n) ≡ basics_below b (suc n) + 1
    at_end e =
        let rest = basics_same b c n (λ i p. h i (omega arith) (λ q. omega arith)) in
        let o : is_basic (basis_at b n) ≡ false = ap (λ i. is_basic (basis_at b i)) e ∙ out in
        let w : is_basic (basis_at c n) ≡ true = ap (λ i. is_basic (basis_at c i)) e ∙ in' in
        rw (rest, o, w) (omega arith)

    before : n ≢ k → basics_below c n ≡ basics_below b n + 1 → basics_below c (suc n) ≡ basics_below b (suc n) + 1
    before ne rest = rw (rest, h n (omega arith) ne) (omega arith)

-- ---- the basis that marks give

module _ (f : Form) where
  -- the status of column k by the marks of a state: the one that a card gave it, else the usual one
  abbrev pub status_at : State → ℕ → Status
  status_at s k = marked_status f k (get_or s.marks k None)

  -- the basis that the marks of a state give has for each column of the form the column's status by the marks
  pub marked_at : (s : State) (k : ℕ) → k < f.cols + f.rows → basis_at (marked_basis f s) k ≡ status_at s k
  unfolding marked_basis
  marked_at s k h = get_or-made (f.cols + f.rows) (status_at s) k Basic h

  -- the basis that marks give has as many statuses as the form has columns, structural and logical
  pub marked_length : (s : State) → length (marked_basis f s) ≡ f.cols + f.rows
  unfolding marked_basis
  marked_length s = length-made (f.cols + f.rows) (status_at s)

  -- ---- usual statuses
  -- the usual status of a structural column is at its lower bound, else at its upper one, else at 0
  pub usual_column : (k : ℕ) → k < f.cols → usual_status f k ≡ lower_first f k
  usual_column k h = rw (lt-ltb k f.cols h) refl

  -- the usual status of a logical column is basic
  pub usual_row : (k : ℕ) → f.cols ≤ k → usual_status f k ≡ Basic
  usual_row k h = rw (le-ltb k f.cols h) refl

  -- a column can have its usual status, whatever its bounds are
  usual_can : (k : ℕ) → CanStand (usual_status f k) (form_lower f k) (form_upper f k)
  usual_can k = by (ltb k f.cols)
    where
      by : (c : Bool) → CanStand (cond c (lower_first f k) Basic) (form_lower f k) (form_upper f k)
      by true = lower_can (form_lower f k) (form_upper f k)
      by false = tt

  -- ---- one more mark
  -- a card that gives column k a status changes that of no other column
  pub mark_other : (s : State) (k i : ℕ) (status : Status) → i ≢ k → status_at (mark k status s) i ≡ status_at s i
  mark_other s k i status ne = ap (marked_status f i) (get_or-set_other s.marks k i (Some status) None ne)

  -- behind a card that gives column k a status, column k has it
  pub mark_same : (s : State) (k : ℕ) (status : Status) → k < length s.marks → status_at (mark k status s) k ≡ status
  mark_same s k status h = ap (marked_status f k) (get_or-set_same s.marks k (Some status) None h)

  -- a column without a status from a card has the usual one
  free_at : (s : State) (k : ℕ) → is_marked s k ≡ false → status_at s k ≡ usual_status f k
  free_at s k h = by (get_or s.marks k None) h
    where
      by : (o : Option Status) → is_some o ≡ false → marked_status f k o ≡ usual_status f k
      by None e = refl
      by (Some status) e = cc

  -- a column without a status from a card is still without one where a card gives another column a status
  free_other : (s : State) (k i : ℕ) (status : Status) → i ≢ k → is_marked s i ≡ false →
      is_marked (mark k status s) i ≡ false
  free_other s k i status ne h = ap is_some (get_or-set_other s.marks k i (Some status) None ne) ∙ h

  -- giving a column a status by a card leaves the number of marks as it was
  pub mark_length : (s : State) (k : ℕ) (status : Status) → length (mark k status s).marks ≡ length s.marks
  mark_length s k status = length-set s.marks k (Some status)

  -- in the basis that a state gives, each column has a status that its bounds allow
  abbrev AllStand : State → Type 0
  AllStand s = (i : ℕ) → i < f.cols + f.rows → CanStand (basis_at (marked_basis f s) i) (form_lower f i)
      (form_upper f i)

  -- where each column can have its status, and column k the new one, it is so after a card gives column k the new one
  mark_stand : (s : State) (k : ℕ) (status : Status) → length s.marks ≡ f.cols + f.rows → AllStand s → k < f.cols +
      f.rows →
      CanStand status (form_lower f k) (form_upper f k) → AllStand (mark k status s)
  mark_stand s k status long all l can i h =
      subst (λ x. CanStand x (form_lower f i) (form_upper f i)) (sym (marked_at (mark k status s) i h))
      (⊎_elim here other (cases_eq i k))
    where
      here : i ≡ k → CanStand (status_at (mark k status s) i) (form_lower f i) (form_upper f i)
      here e =
          subst (λ j. CanStand (status_at (mark k status s) j) (form_lower f j) (form_upper f j)) (sym e)
          (subst (λ x. CanStand x (form_lower f k) (form_upper f k))
          (sym (mark_same s k status (omega (arith, long)))) can)

      other : i ≢ k → CanStand (status_at (mark k status s) i) (form_lower f i) (form_upper f i)
      other ne =
          subst (λ x. CanStand x (form_lower f i) (form_upper f i))
          (sym (mark_other s k i status ne ∙ sym (marked_at s i h))) (all i h)

  -- how many columns are basic in the basis that the marks of a state give
  abbrev basics : State → ℕ
  basics s = basics_below (marked_basis f s) (f.cols + f.rows)

  -- a card that gives column k a status changes of no other column whether it is basic
  basic_other : (s : State) (k : ℕ) (status : Status) (i : ℕ) → i < f.cols + f.rows → i ≢ k →
      is_basic (basis_at (marked_basis f (mark k status s)) i) ≡ is_basic (basis_at (marked_basis f s) i)
  basic_other s k status i h ne =
      ap is_basic (marked_at (mark k status s) i h ∙ mark_other s k i status ne ∙ sym (marked_at s i h))

  -- behind a card that gives column k a status, column k is basic exactly if that status is basic
  basic_at_mark : (s : State) (k : ℕ) (status : Status) → k < f.cols + f.rows → k < length s.marks →
      is_basic (basis_at (marked_basis f (mark k status s)) k) ≡ is_basic status
  basic_at_mark s k status h l = ap is_basic (marked_at (mark k status s) k h ∙ mark_same s k status l)

  -- a card that makes a column basic that was not adds one to the number of basic columns
  basics_up : (s : State) (k : ℕ) → k < f.cols + f.rows → k < length s.marks → is_basic (status_at s k) ≡ false →
      basics (mark k Basic s) ≡ basics s + 1
  basics_up s k h l out =
      basics_one (marked_basis f s) (marked_basis f (mark k Basic s)) k (f.cols + f.rows) h
      (ap is_basic (marked_at s k h) ∙ out) (basic_at_mark s k Basic h l) (basic_other s k Basic)

  -- a card that gives a basic column a status that is not basic takes one from the number of basic columns
  basics_down : (s : State) (k : ℕ) (status : Status) → k < f.cols + f.rows → k < length s.marks →
      is_basic (status_at s k) ≡ true → is_basic status ≡ false → basics s ≡ basics (mark k status s) + 1
  basics_down s k status h l was out =
      basics_one (marked_basis f (mark k status s)) (marked_basis f s) k (f.cols + f.rows) h
      (basic_at_mark s k status h l ∙ out) (ap is_basic (marked_at s k h) ∙ was)
      (λ i p ne. sym (basic_other s k status i p ne))

  -- a card for a column that is basic neither before nor after leaves the number of basic columns as it was
  basics_stay : (s : State) (k : ℕ) (status : Status) → k < length s.marks → is_basic (status_at s k) ≡ false →
      is_basic status ≡ false → basics (mark k status s) ≡ basics s
  basics_stay s k status l was out =
      basics_same (marked_basis f s) (marked_basis f (mark k status s)) (f.cols + f.rows) (λ i p. by i p (cases_eq i k))
    where
      by : (i : ℕ) → i < f.cols + f.rows → (i ≡ k) ⊎ (i ≡ k → ⊥) →
          is_basic (basis_at (marked_basis f (mark k status s)) i) ≡ is_basic (basis_at (marked_basis f s) i)
      by i p (inl e) =
          ap (λ j. is_basic (basis_at (marked_basis f (mark k status s)) j)) e
          ∙ basic_at_mark s k status (omega (arith, p, e)) l ∙ out ∙ sym was
          ∙ ap is_basic (sym (marked_at s k (omega (arith, p, e))))
          ∙ ap (λ j. is_basic (basis_at (marked_basis f s) j)) (sym e)
      by i p (inr ne) = basic_other s k status i p ne

  -- ---- no mark at all
  -- before the first line each column has its usual status
  pub start_none : (k : ℕ) → k < f.cols + f.rows → status_at (start f) k ≡ usual_status f k
  start_none k h = ap (marked_status f k) (get_or-replicate (f.cols + f.rows) k None None h)

  -- the usual status of a structural column is not basic
  column_out : (k : ℕ) → k < f.cols → is_basic (usual_status f k) ≡ false
  column_out k h = ap is_basic (usual_column k h) ∙ lower_out (form_lower f k) (form_upper f k)

  -- the usual status of a logical column is basic
  row_in : (k : ℕ) → f.cols ≤ k → is_basic (usual_status f k) ≡ true
  row_in k h = ap is_basic (usual_row k h)

  -- before the first line no structural column is basic
  start_columns : (n : ℕ) → n ≤ f.cols → basics_below (marked_basis f (start f)) n ≡ 0
  start_columns zero h = refl
  start_columns (suc n) h =
      let rest = start_columns n (omega arith) in
      let here = ap is_basic (marked_at (start f) n (omega arith) ∙ start_none n (omega arith)) ∙ column_out n
      (omega arith) in
      rw (rest, here) refl

  -- before the first line the logical columns of the first i rows are i basic columns
  start_rows : (i : ℕ) → i ≤ f.rows → basics_below (marked_basis f (start f)) (f.cols + i) ≡ i
  start_rows zero h = start_columns (f.cols + 0) (omega arith)
  start_rows (suc i) h =
      let rest = start_rows i (omega arith) in
      let z : f.cols + suc i ≡ suc (f.cols + i) = omega arith in
      let here = ap is_basic (marked_at (start f) (f.cols + i) (omega arith) ∙ start_none (f.cols + i)
      (omega arith)) ∙ row_in (f.cols + i) (omega arith) in
      ap (basics_below (marked_basis f (start f))) z ∙ rw (rest, here) (omega arith)

  -- before the first line the state gives a basis of the form
  pub start_marks : IsMarking f (start f)
  start_marks = record {
    all = length-replicate (f.cols + f.rows) None;
    fits = record {
      all = marked_length (start f);
      stand = λ k h. subst (λ x. CanStand x (form_lower f k) (form_upper f k))
          (sym (marked_at (start f) k h ∙ start_none k h)) (usual_can k);
      count = start_rows f.rows (omega arith);
    };
  }

  -- ---- the steps of cards
  -- Giving a structural column without a status from a card one that it can have, and that is not basic, leaves a state
  -- that gives a basis of the form.
  pub one_marks : (s : State) (k : ℕ) (status : Status) → IsMarking f s → k < f.cols → is_marked s k ≡ false →
      CanStand status (form_lower f k) (form_upper f k) → is_basic status ≡ false → IsMarking f (mark k status s)
  one_marks s k status g h free can out = record {
    all = mark_length s k status ∙ g.all;
    fits = record {
      all = marked_length (mark k status s);
      stand = mark_stand s k status g.all g.fits.stand (omega arith) can;
      count =
          basics_stay s k status (omega (arith, g.all, h)) (ap is_basic (free_at s k free) ∙ column_out k h) out ∙
          g.fits.count;
    };
  }

  -- Making a structural column basic and giving a row's logical a status that is not basic, where neither has one from
  -- a card, leaves a state that gives a basis of the form.
  pub pair_marks : (s : State) (j i : ℕ) (status : Status) → IsMarking f s → j < f.cols → i < f.rows →
      is_marked s j ≡ false → is_marked s (f.cols + i) ≡ false →
      CanStand status (form_lower f (f.cols + i)) (form_upper f (f.cols + i)) → is_basic status ≡ false →
      IsMarking f (mark (f.cols + i) status (mark j Basic s))
  pair_marks s j i status g h l free free_row can out =
      let t = mark j Basic s in
      let k = f.cols + i in
      let apart : k ≢ j = (λ e. omega arith) in
      let long : length t.marks ≡ f.cols + f.rows = mark_length s j Basic ∙ g.all in
      record {
        all = mark_length t k status ∙ long;
        fits = record {
          all = marked_length (mark k status t);
          stand = mark_stand t k status long (mark_stand s j Basic g.all g.fits.stand (omega arith) tt)
              (omega arith) can;
          count =
              let up = basics_up s j (omega arith) (omega (arith, g.all))
              (ap is_basic (free_at s j free) ∙ column_out j h) in
              let down = basics_down t k status (omega arith) (omega (arith, long))
              (ap is_basic (free_at t k (free_other s j k Basic apart free_row)) ∙ row_in k (omega arith)) out in
              omega (arith, up, down, g.fits.count);
        };
      }
