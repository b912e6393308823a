-- The tableau that a form begins with, from its parts.
--
-- `begun_shape`: the tableau that a form begins with has the shape of a tableau.
-- `equations_are`: where each row starts within its limits, the rows of the start are the form's equations.
-- `twins_are`: the rows of the start without artificial columns, with a twin of each logical, are those of the start.
-- `is_twinned`: the rows of the start without artificial columns are as wide as rows with twins must be.
-- `begun_is`: a tableau whose parts are those of the start is the tableau that the form begins with.
use Rattle.std.proofs.Common.{◌≡◌, ℕ, zero, suc, ◌+◌, ◌-◌, ◌*◌, ◌<◌, ◌≤◌, List, [], ◌∷◌, ◌++◌, length, take}
use Rattle.std.proofs.Common.{drop, map, replicate, Option, Some, Ok, Err, Bool, true, false, cond, refl}
use Rattle.std.proofs.Common.{sym, subst, subst₂, ap, ap₂, ◌∙◌, arith, append_assoc, ⊎_elim, nat_eq, ne_eqb}
use Rattle.std.proofs.Math.Nat.{zero-mul, suc-mul}
use Rattle.std.proofs.Math.Seq.{take-length}
use Rattle.std.specs.Prelude.{All}
use Rattle.std.proofs.lemmas.Bool.{cases_eq, eq-eqb, le-ltb, lt-ltb}
use Rattle.std.proofs.lemmas.List.{get_or-map, length-append, length-drop, length-map}
use Rattle.std.proofs.lemmas.List.{length-replicate, get_or-replicate, take-append-le, drop-append-le, append-nil}
use Rattle.spec_exact.specs.Fraction.{ℚ, 0ℚ, 1ℚ}
use Rattle.spec_exact.proofs.Ruleset.{neg-neg, neg-zero}
use Rattle.spec_exact.specs.declared.past.Past.{Past}
use Rattle.spec_pivot.specs.declared.status.Status.{Status}
use Rattle.spec_simplex.specs.declared.ends.RowStart.{RowStart}
use Rattle.spec_simplex.specs.declared.ends.RowStart.TheVariants.{Within, Below, Above}
use Rattle.spec_exact.specs.Run.{Run, ◌>>=◌, list_run, made}
use Rattle.spec_simplex.specs.Form.{Form, IsForm, form_entry}
use Rattle.spec_simplex.specs.Tableau.{Tableau, IsTableauShape}
use Rattle.spec_simplex.specs.Start.{row_start, first_costs, priced_run, with_reduced, start_of, begun}
use Rattle.spec_simplex.specs.Start.{start_row, start_basic, start_entry, start_value, start_status, start_at}
use Rattle.spec_simplex.specs.Eliminate.{equation}
use Rattle.spec_simplex.specs.Start.{is_wanting, artificial_upper, one_at, logical_sign, structural_entry}
use Rattle.spec_exact.proofs.RunsInOrder.{length-made, All-made, get_or-made, made_same}
use Rattle.lp_tableau.specs.Grid.{rows_of, flat, IsBlock}
use Rattle.lp_tableau.specs.Parts.{tableau_of}
use Rattle.lp_tableau.specs.Begun.{is_below, priced_start, start_front}
use Rattle.lp_tableau.specs.Twins.{signed, twin, with_twins, twinned, IsTwinned}
use Rattle.lp_tableau.specs.Answer.{Stops}
use Rattle.lp_frac.specs.declared.stop.Stop.{Stop}
use Rattle.std.specs.declared.convert.Infallible.{Infallible}
use Rattle.lp_frac.specs.declared.stop.Stop.TheVariants as cold
use Rattle.lp_tableau.proofs.Pivots.{RepricedFrom}

-- ---- a block of rows

-- m rows of width n, one after the other, have m * n items
length-flat : (n m : ℕ) (f : ℕ → List ℚ) → ((i : ℕ) → length (f i) ≡ n) → length (flat m f) ≡ m * n
length-flat n zero f h = omega arith
length-flat n (suc m) f h = omega (arith, length-append (flat m f) (f m), length-flat n m f h, h m, suc-mul m n)

-- a block with one row of n items behind it has the rows of the block, and then that row
rows_of-append : (n m : ℕ) (xs ys : List ℚ) → length xs ≡ m * n → length ys ≡ n →
    rows_of n (suc m) (xs ++ ys) ≡ rows_of n m xs ++ ys ∷ []
rows_of-append n zero [] ys h g = ap (λ row. row ∷ []) (ap (λ k. take k ys) (sym g) ∙ take-length ys)
rows_of-append n zero (x ∷ xs) ys h g = absurd (omega (arith, h, zero-mul n))
rows_of-append n (suc m) xs ys h g =
    let l : n ≤ length xs = omega (arith, h, suc-mul m n) in
    ap₂ (λ row rest. row ∷ rows_of n (suc m) rest) (take-append-le n xs ys l) (drop-append-le n xs ys l)
    ∙ ap (λ rows. take n xs ∷ rows)
    (rows_of-append n m (drop n xs) ys (omega (arith, length-drop n xs, h, suc-mul m n)) g)

-- the rows of a block that was made of m rows of width n are these rows
rows_of-flat : (n m : ℕ) (f : ℕ → List ℚ) → ((i : ℕ) → length (f i) ≡ n) → rows_of n m (flat m f) ≡ made m f
rows_of-flat n zero f h = refl
rows_of-flat n (suc m) f h =
    rows_of-append n m (flat m f) (f m) (length-flat n m f h) (h m)
    ∙ ap (λ rows. rows ++ f m ∷ []) (rows_of-flat n m f h)

-- ---- the tableau
abbrev pub width_of : Form → ℕ
width_of f = f.cols + f.rows + f.rows

-- each row of the start is as wide as the tableau
length-start_row : (f : Form) (starts : List (RowStart ℚ)) (i : ℕ) → length (start_row f starts i) ≡ width_of f
length-start_row f starts i = length-made (width_of f) (start_entry f (start_at starts i) i)

-- the logical and the artificial column of row i are columns of the tableau
basic_inside : (f : Form) (i : ℕ) (b : Bool) → i < f.rows → cond b (f.cols + f.rows + i) (f.cols + i) < width_of f
basic_inside f i true h = omega arith
basic_inside f i false h = omega arith

-- each row of the start without artificial columns has an entry of each structural and logical column
length-start_front : (f : Form) (starts : List (RowStart ℚ)) (i : ℕ) → length (start_front f starts i) ≡ f.cols + f.rows
length-start_front f starts i = length-made (f.cols + f.rows) (start_entry f (start_at starts i) i)

-- the rows of the start without artificial columns, one after the other, are a block
block_is : (f : Form) (starts : List (RowStart ℚ)) (xs : List ℚ) → IsForm f → xs ≡ flat f.rows (start_front f starts) →
    IsBlock f.rows (f.cols + f.rows) xs
block_is f starts xs g e =
    record {
      few_rows = g.few_rows;
      few_columns = omega (arith, g.few_rows, g.few_columns);
      size = ap length e ∙ length-flat (f.cols + f.rows) f.rows (start_front f starts) (length-start_front f starts);
    }

pub begun_shape : (f : Form) (starts : List (RowStart ℚ)) → IsForm f → length starts ≡ f.rows →
    IsTableauShape (begun f starts)
begun_shape f starts g e =
    record {
      few_rows = g.few_rows;
      few_columns = g.few_columns;
      all_rows = length-made f.rows (start_row f starts);
      whole_rows =
          All-made (λ row. length row ≡ width_of f) f.rows (start_row f starts) (λ i l. length-start_row f starts i);
      all_basic = length-made f.rows (start_basic f starts);
      in_range =
          All-made (λ k. k < width_of f) f.rows (start_basic f starts)
          (λ i l. basic_inside f i (is_wanting (start_at starts i)) l);
      all_values = length-made (width_of f) (start_value f starts);
      all_reduced = length-replicate (width_of f) 0ℚ;
      all_statuses = length-made (width_of f) (start_status f starts);
      all_lower =
          omega (
            arith,
            length-append f.lower (replicate f.rows (Some 0ℚ)),
            length-replicate {A = Option ℚ} f.rows (Some 0ℚ),
            g.all_lower,
          );
      all_upper =
          omega (
            arith,
            length-append f.upper (map artificial_upper starts),
            length-map starts artificial_upper,
            g.all_upper,
            e,
          );
    }

-- ---- the rows of the block, with their twins, are those of the tableau
module _ (f : Form) (starts : List (RowStart ℚ)) (w m : ℕ) (xs : List ℚ)
    (a : w ≡ f.cols + f.rows) (b : m ≡ f.rows) (e : xs ≡ flat f.rows (start_front f starts)) where
  pub grid_is : rows_of w m xs ≡ made f.rows (start_front f starts)
  grid_is =
      ap₂ (λ n m. rows_of n m xs) a b ∙ ap (rows_of (f.cols + f.rows) f.rows) e
      ∙ rows_of-flat (f.cols + f.rows) f.rows (start_front f starts) (length-start_front f starts)

  pub grid_block : IsForm f → IsBlock m w xs
  grid_block g = subst₂ (λ n k. IsBlock n k xs) (sym b) (sym a) (block_is f starts xs g e)

-- where each row is within its limits
pub equations_are : (f : Form) (starts : List (RowStart ℚ)) → starts ≡ replicate f.rows (Within 0ℚ) →
    made f.rows (start_row f starts) ≡ made f.rows (equation f)
equations_are f starts e =
    made_same f.rows (start_row f starts) (equation f)
    (λ i l. ap (λ s. made (width_of f) (start_entry f s i))
    (ap (λ xs. start_at xs i) e ∙ get_or-replicate f.rows i (Within 0ℚ) (Within 0ℚ) l))

-- the items at the first n + m places are those at the first n and those at the m behind
made_parts : (n m : ℕ) (f : ℕ → ℚ) → made (n + m) f ≡ made n f ++ made m (λ r. f (n + r))
made_parts n zero f = (let z : n + 0 ≡ n = omega arith in ap (λ k. made k f) z) ∙ sym (append-nil (made n f))
made_parts n (suc m) f =
    (let z : n + suc m ≡ suc (n + m) = omega arith in ap (λ k. made k f) z)
    ∙ ap (λ xs. xs ++ f (n + m) ∷ []) (made_parts n m f)
    ∙ append_assoc (made n f) (made m (λ r. f (n + r))) (f (n + m) ∷ [])

-- the twins of rows with one pushed are those of the rows, and then the pushed row with its twins
twinned_push : (c : ℕ) (turned : List Bool) (rows : List (List ℚ)) (row : List ℚ) →
    twinned c turned (rows ++ row ∷ []) ≡ twinned c turned rows ++ with_twins c turned row ∷ []
twinned_push c turned [] row = refl
twinned_push c turned (x ∷ rows) row = ap (λ ys. with_twins c turned x ∷ ys) (twinned_push c turned rows row)

-- m rows of a function, with twins, are the rows of the function each with its twins
twinned_made : (c : ℕ) (turned : List Bool) (m : ℕ) (f : ℕ → List ℚ) →
    twinned c turned (made m f) ≡ made m (λ i. with_twins c turned (f i))
twinned_made c turned zero f = refl
twinned_made c turned (suc m) f =
    twinned_push c turned (made m f) (f m) ∙ ap (λ xs. xs ++ with_twins c turned (f m) ∷ []) (twinned_made c turned m f)

-- the entry of a row's logical in that row at the start, negated where the row's sum is below its lower limit, is 1, as
-- its artificial has there
sign_is : (s : RowStart ℚ) → signed (is_below s) (logical_sign s) ≡ 1ℚ
sign_is (Within v) = refl
sign_is (Below gap) = neg-neg 1ℚ
sign_is (Above gap) = refl

-- 0 with a sign is 0
zero_is : (b : Bool) → signed b 0ℚ ≡ 0ℚ
zero_is true = neg-zero
zero_is false = refl

-- the entry of row i in logical column r, with the sign of where row r starts, is 1 in row r and 0 elsewhere
one_is : (starts : List (RowStart ℚ)) (i r : ℕ) →
    signed (is_below (start_at starts r)) (one_at i r (logical_sign (start_at starts i))) ≡ one_at i r 1ℚ
one_is starts i r = ⊎_elim same other (cases_eq i r)
  where
    same : i ≡ r → signed (is_below (start_at starts r)) (one_at i r (logical_sign (start_at starts i))) ≡ one_at i r 1ℚ
    same e =
        let t : nat_eq i r ≡ true = eq-eqb i r e in
        ap (λ b. signed (is_below (start_at starts r)) (cond b (logical_sign (start_at starts i)) 0ℚ)) t
        ∙ ap (λ k. signed (is_below (start_at starts k)) (logical_sign (start_at starts i))) (sym e)
        ∙ sign_is (start_at starts i)
        ∙ sym (ap (λ b. cond b 1ℚ 0ℚ) t)

    other : (i ≡ r → ⊥) →
        signed (is_below (start_at starts r)) (one_at i r (logical_sign (start_at starts i))) ≡ one_at i r 1ℚ
    other n =
        let t : nat_eq i r ≡ false = ne_eqb i r n in
        ap (λ b. signed (is_below (start_at starts r)) (cond b (logical_sign (start_at starts i)) 0ℚ)) t
        ∙ zero_is (is_below (start_at starts r))
        ∙ sym (ap (λ b. cond b 1ℚ 0ℚ) t)

module _ (f : Form) (starts : List (RowStart ℚ)) (l : length starts ≡ f.rows) (i : ℕ) where
  abbrev start : RowStart ℚ
  start = start_at starts i

  logical_is : (r : ℕ) → r < f.rows → start_entry f start i (f.cols + r) ≡ one_at i r (logical_sign start)
  logical_is r h =
      let z : (f.cols + r) - f.cols ≡ r = omega arith in
      ap₂ (λ b d. cond b (structural_entry start (form_entry f i (f.cols + r)))
      (cond d (one_at i (f.cols + r - f.cols) (logical_sign start)) (one_at i (f.cols + r - (f.cols + f.rows)) 1ℚ)))
      (le-ltb (f.cols + r) f.cols (omega arith)) (lt-ltb (f.cols + r) (f.cols + f.rows) (omega (arith, h)))
      ∙ ap (λ k. one_at i k (logical_sign start)) z

  artificial_is : (r : ℕ) → start_entry f start i (f.cols + f.rows + r) ≡ one_at i r 1ℚ
  artificial_is r =
      let z : (f.cols + f.rows + r) - (f.cols + f.rows) ≡ r = omega arith in
      ap₂ (λ b d. cond b (structural_entry start (form_entry f i (f.cols + f.rows + r)))
      (cond d (one_at i (f.cols + f.rows + r - f.cols) (logical_sign start))
      (one_at i (f.cols + f.rows + r - (f.cols + f.rows)) 1ℚ)))
      (le-ltb (f.cols + f.rows + r) f.cols (omega arith)) (le-ltb (f.cols + f.rows + r) (f.cols + f.rows) (omega arith))
      ∙ ap (λ k. one_at i k 1ℚ) z

  twin_is : (r : ℕ) → r < f.rows →
      twin f.cols (map is_below starts) (start_front f starts i) r ≡ start_entry f start i (f.cols + f.rows + r)
  twin_is r h =
      ap₂ signed (get_or-map is_below starts r (Within 0ℚ) false (omega (arith, h, l)))
      (get_or-made (f.cols + f.rows) (start_entry f start i) (f.cols + r) 0ℚ (omega (arith, h)) ∙ logical_is r h)
      ∙ one_is starts i r ∙ sym (artificial_is r)

  front_twins : with_twins f.cols (map is_below starts) (start_front f starts i) ≡ start_row f starts i
  front_twins =
      ap (λ xs. start_front f starts i ++ xs)
      (ap (λ n. made n (twin f.cols (map is_below starts) (start_front f starts i))) (length-map starts is_below ∙ l)
      ∙ made_same f.rows (twin f.cols (map is_below starts) (start_front f starts i))
      (λ r. start_entry f start i (f.cols + f.rows + r)) twin_is)
      ∙ sym (made_parts (f.cols + f.rows) f.rows (start_entry f start i))

pub twins_are : (f : Form) (starts : List (RowStart ℚ)) (c : ℕ) (turned : List Bool) (grid : List (List ℚ)) →
    length starts ≡ f.rows → c ≡ f.cols → turned ≡ map is_below starts → grid ≡ made f.rows (start_front f starts) →
    twinned c turned grid ≡ made f.rows (start_row f starts)
twins_are f starts c turned grid l ec et eg =
    ap₂ (λ k t. twinned k t grid) ec et ∙ ap (twinned f.cols (map is_below starts)) eg
    ∙ twinned_made f.cols (map is_below starts) f.rows (start_front f starts)
    ∙ made_same f.rows (λ i. with_twins f.cols (map is_below starts) (start_front f starts i))
    (start_row f starts) (λ i h. front_twins f starts l i)

pub is_twinned : (f : Form) (starts : List (RowStart ℚ)) (c m : ℕ) (turned : List Bool) (grid : List (List ℚ)) →
    IsForm f → length starts ≡ f.rows → c ≡ f.cols → m ≡ f.rows →
    turned ≡ map is_below starts → grid ≡ made f.rows (start_front f starts) →
    IsTwinned c m turned grid
is_twinned f starts c m turned grid g l ec em et eg =
    record {
      few_rows = omega (arith, em, g.few_rows);
      few_columns = omega (arith, ec, g.few_columns);
      twins = ap length et ∙ length-map starts is_below ∙ l ∙ sym em;
      grid = record {
        height = ap length eg ∙ length-made f.rows (start_front f starts) ∙ sym em;
        width =
            subst (All (λ row. length row ≡ c + m)) (sym eg) (All-made (λ row. length row ≡ c + m) f.rows
            (start_front f starts) (λ i h. length-start_front f starts i ∙ sym (ap₂ (λ x y. x + y) ec em)));
      };
    }

pub begun_is : (f : Form) (starts : List (RowStart ℚ)) (rows cols : ℕ) (entries : List (List ℚ))
    (basic : List ℕ) (value reduced : List ℚ) (status : List Status) (lower upper : List (Option ℚ))
    → rows ≡ f.rows → cols ≡ f.cols → entries ≡ made f.rows (start_row f starts) →
    basic ≡ made f.rows (start_basic f starts)
    → value ≡ made (width_of f) (start_value f starts) →
    reduced ≡ replicate (width_of f) 0ℚ → status ≡ made (width_of f) (start_status f starts)
    → lower ≡ f.lower ++ replicate f.rows (Some 0ℚ) → upper ≡ f.upper ++ map artificial_upper starts
    → tableau_of rows cols entries basic value reduced status lower upper ≡ begun f starts
begun_is f starts rows cols entries basic value reduced status lower upper a b c d e g h i j = cc

-- ---- the start
module _ (limit : Option ℕ) (f : Form) where
  pub rows_stop : (s : Stop Infallible) → Stops (list_run f.rows (row_start limit f)) s → Stops (start_of limit f) s
  unfolding start_of
  rows_stop (cold.Cause never) h = absurd h
  rows_stop (cold.Past p) h = ap (λ o. o >>= priced_start limit f) h
  rows_stop cold.NoMemory h = tt

  pub start_is : (starts : List (RowStart ℚ)) → list_run f.rows (row_start limit f) ≡ Ok starts →
      start_of limit f ≡ priced_start limit f starts
  unfolding start_of
  start_is starts r = ap (λ o. o >>= priced_start limit f) r

  module _ (starts : List (RowStart ℚ)) (t : Tableau) (costs : List ℚ)
      (b : t ≡ begun f starts) (c : costs ≡ first_costs f starts) where
    abbrev with_costs : Run (List ℚ) → Run Tableau
    with_costs o = o >>= λ reduced. Ok (with_reduced t reduced)

    from_start : priced_start limit f starts ≡ with_costs (priced_run limit t costs)
    from_start = sym (ap₂ (λ u cs. priced_run limit u cs >>= λ reduced. Ok (with_reduced u reduced)) b c)

    pub price_stops : (e : Past ℚ) → priced_run limit t costs ≡ Err e → priced_start limit f starts ≡ Err e
    price_stops e h = from_start ∙ ap with_costs h

    pub is_priced : (u : Tableau) → priced_run limit t costs ≡ Ok u.reduced → RepricedFrom t u →
        priced_start limit f starts ≡ Ok u
    is_priced u h k = from_start ∙ ap with_costs h ∙ ap Ok (sym k)
