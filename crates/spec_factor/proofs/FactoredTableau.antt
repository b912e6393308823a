-- The tableau that factors stand for: its rows and reduced costs are those of the basis, so it is one of the form's
-- equations.
use Rattle.std.proofs.Common.{◌≡◌, ℕ, ◌+◌, ◌-◌, ◌<◌, ◌≤◌, List, [], length, get_or, map, Bool, true}
use Rattle.std.proofs.Common.{false, cond, refl, sym, ap, ap₂, ◌∙◌, subst, arith, lt-ltb, le-ltb}
use Rattle.std.proofs.lemmas.Bool.{le-leb, lt-leb}
use Rattle.std.proofs.lemmas.List.{get_or-map, get_or_past}
use Rattle.spec_exact.specs.Fraction.{ℚ, ◌+ℚ◌, ◌-ℚ◌, ◌*ℚ◌, 0ℚ, 1ℚ}
use Rattle.spec_exact.specs.Sums.{sum_below}
use Rattle.spec_exact.proofs.Field.{*ℚ_assoc, *ℚ_one, *ℚ_zero, +ℚ_neg}
use Rattle.spec_exact.proofs.Ruleset.{ring, one-*ℚ}
use Rattle.spec_exact.proofs.Sums.{sum_below_same, sum_below_none, *ℚ-sum_below}
use Rattle.spec_pivot.specs.Tableau.{Matrix, delta}
use Rattle.spec_pivot.specs.Simplex.{Bounds}
use Rattle.spec_pivot.proofs.Pivot.{by_eq, delta_same, delta_other, sum_below-delta}
use Rattle.spec_simplex.specs.declared.ends.RowStart.{RowStart}
use Rattle.spec_simplex.specs.Form.{Form}
use Rattle.spec_exact.specs.Run.{made}
use Rattle.spec_simplex.specs.Start.{logical_sign, start_at, cost_at}
use Rattle.spec_simplex.specs.Tableau.{Tableau, form_columns, all_columns, is_artificial, entry_at, reduced_at}
use Rattle.spec_exact.proofs.RunsInOrder.{length-made, get_or-made}
use Rattle.spec_simplex.specs.Tables.{IsTableauOf}
use Rattle.spec_simplex.specs.Begins.{form_rows, signs_of}
use Rattle.spec_simplex.proofs.ColumnKinds.{by_kind}
use Rattle.spec_simplex.proofs.Equations.{row_structural, row_logical, row_artificial, row_past}
use Rattle.spec_simplex.proofs.ListIndices.{by_lt, past_row}
use Rattle.spec_simplex.proofs.FirstTableau.{sign_square, twice}
use Rattle.spec_factor.specs.Factors.{Pair, column_entry}
use Rattle.spec_factor.specs.Basis.{forward, basis_of}
use Rattle.spec_factor.specs.Revised.{sign_of, factor_column}
use Rattle.spec_factor.proofs.Forward.{forward_combines}
use Rattle.spec_factor.proofs.Backward.{backward}
use Rattle.spec_factor.proofs.Solves.{columns_solved, rows_solved}
use Rattle.spec_factor.specs.Same.{Places}

-- ---- columns of the equations, up to the sign
module _ (f : Form) (starts : List (RowStart ℚ)) (t : Tableau) (rows : t.rows ≡ f.rows) (cols : t.cols ≡ f.cols) where
  abbrev F : Matrix
  F = form_rows f (signs_of starts)

  pub signs_square : (k : ℕ) → sign_of starts t k *ℚ sign_of starts t k ≡ 1ℚ
  signs_square k = by (is_artificial t k)
    where
      by : (c : Bool) →
          cond c (logical_sign (start_at starts (k - form_columns t))) 1ℚ *ℚ cond c
          (logical_sign (start_at starts (k - form_columns t))) 1ℚ ≡ 1ℚ
      by true = sign_square (start_at starts (k - form_columns t))
      by false = *ℚ_one 1ℚ

  not_artificial : (k : ℕ) → k < f.cols + f.rows → is_artificial t k ≡ false
  not_artificial k l = lt-leb (form_columns t) k (omega (arith, l, rows, cols))

  pub plain_sign : (k : ℕ) → k < f.cols + f.rows → sign_of starts t k ≡ 1ℚ
  plain_sign k l = ap (λ c. cond c (logical_sign (start_at starts (k - form_columns t))) 1ℚ) (not_artificial k l)

  pub plain_column : (k : ℕ) → k < f.cols + f.rows → factor_column t k ≡ k
  plain_column k l = ap (λ c. cond c (k - t.rows) k) (not_artificial k l)

  pub column_logical : (r i : ℕ) → column_entry f r (f.cols + i) ≡ delta r i
  column_logical r i =
      rw (le-ltb (f.cols + i) f.cols (omega arith)) (let e : f.cols + i - f.cols ≡ i = omega arith in ap (delta r) e)

  -- a column that is not artificial
  pub plain_is : (r k : ℕ) → k < f.cols + f.rows → F r k ≡ column_entry f r k
  plain_is r k l =
      by_kind f.cols f.rows k
      (λ h. row_structural f (signs_of starts) r k h ∙ sym (rw (lt-ltb k f.cols h) refl))
      (λ i h e. subst (λ k. F r k ≡ column_entry f r k) (sym e) (row_logical f (signs_of starts) r i h
      ∙ sym (column_logical r i)))
      (λ i e. let z : ⊥ = omega (arith, l, e) in absurd z)

  pub column_is : (r k : ℕ) → F r k ≡ sign_of starts t k *ℚ column_entry f r (factor_column t k)
  column_is r k =
      by_kind f.cols f.rows k
      (λ h. plain (omega (arith, h)))
      (λ i h e. plain (omega (arith, h, e)))
      (λ i e. subst (λ k. F r k ≡ sign_of starts t k *ℚ column_entry f r (factor_column t k)) (sym e) (artificial i))
    where
      plain : k < f.cols + f.rows → F r k ≡ sign_of starts t k *ℚ column_entry f r (factor_column t k)
      plain l =
          plain_is r k l ∙ sym (ap₂ (λ a c. a *ℚ column_entry f r c) (plain_sign k l) (plain_column k l) ∙ one-*ℚ _)

      artificial : (i : ℕ) →
          F r (f.cols + f.rows + i)
          ≡ sign_of starts t (f.cols + f.rows + i) *ℚ column_entry f r (factor_column t (f.cols + f.rows + i))
      artificial i =
          row_artificial f (signs_of starts) r i
          ∙ by_eq r i
          (λ e. ap (λ r'. logical_sign (start_at starts r') *ℚ delta r i) e)
          (λ d. ap (λ a. logical_sign (start_at starts r) *ℚ a) (delta_other r i d) ∙ *ℚ_zero _
          ∙ sym (ap (λ a. logical_sign (start_at starts i) *ℚ a) (delta_other r i d) ∙ *ℚ_zero _))
          ∙ sym (ap₂ (λ a c. a *ℚ column_entry f r c)
          (ap (λ c. cond c (logical_sign (start_at starts (f.cols + f.rows + i - form_columns t))) 1ℚ) is
          ∙ ap (λ j. logical_sign (start_at starts j)) back)
          (ap (λ c. cond c (f.cols + f.rows + i - t.rows) (f.cols + f.rows + i)) is ∙ before)
          ∙ ap (λ a. logical_sign (start_at starts i) *ℚ a) (column_logical r i))
        where
          is : is_artificial t (f.cols + f.rows + i) ≡ true
          is = le-leb (form_columns t) (f.cols + f.rows + i) (omega (arith, rows, cols))

          back : f.cols + f.rows + i - form_columns t ≡ i
          back = omega (arith, rows, cols)

          before : f.cols + f.rows + i - t.rows ≡ f.cols + i
          before = omega (arith, rows)

-- ---- the tableau
module _ (f : Form) (starts : List (RowStart ℚ)) (costs : List ℚ)
    (t : Tableau) (basic : List ℕ) (pairs : List Pair) where
  abbrev pub m : ℕ
  m = f.rows

  abbrev pub N : ℕ
  N = f.cols + f.rows + f.rows

  abbrev pub equations : Matrix
  equations = form_rows f (signs_of starts)

  abbrev pub column : ℕ → ℕ
  column p = get_or basic p 0

  abbrev pub sign : ℕ → ℚ
  sign p = sign_of starts t (column p)

  -- the row at place p
  unfoldable pub row : ℕ → ℕ → ℚ
  row p k = sign p *ℚ forward pairs (λ r. equations r k) p

  -- the multiplier of row r
  unfoldable pub multiplier : ℕ → ℚ
  multiplier = backward m pairs (λ p. sign p *ℚ cost_at costs (column p))

  unfoldable pub price : ℕ → ℚ
  price k = cost_at costs k -ℚ sum_below m (λ r. multiplier r *ℚ equations r k)

  abbrev pub whole : Tableau
  whole = record t { entries = made m (λ p. made N (row p)); basic = basic; reduced = made N price }

  module _ (b : Bounds) (st : IsTableauOf m f.cols equations (cost_at costs) b t)
      (few : length costs ≤ N) (g : Places f t basic pairs) where
    abbrev basis : Matrix
    basis = basis_of f (map (λ k. factor_column t k) basic)

    basis_is : (r p : ℕ) → p < m → basis r p ≡ column_entry f r (factor_column t (column p))
    basis_is r p l =
        ap (column_entry f r) (get_or-map (λ k. factor_column t k) basic p 0 0 (subst (λ n. p < n) (sym g.all) l))

    equation_is : (r p : ℕ) → p < m → equations r (column p) ≡ sign p *ℚ basis r p
    equation_is r p l = column_is f starts t st.rows st.cols r (column p) ∙ ap (λ a. sign p *ℚ a) (sym (basis_is r p l))

    square : (p : ℕ) → sign p *ℚ sign p ≡ 1ℚ
    square p = signs_square f starts t st.rows st.cols (column p)

    all_is : all_columns t ≡ N
    all_is = ap₂ (λ m n. n + m + m) st.rows st.cols

    -- ---- rows
    row_unit : (q r : ℕ) → q < m → r < m → row r (column q) ≡ delta q r
    unfolding row
    row_unit q r l h =
        ap (λ a. sign r *ℚ a)
        (forward_combines m 1 pairs (λ r _. basis r q) (λ _. sign q)
        (λ r. equations r (column q)) g.stands.sound (λ r _. equation_is r q l ∙ turn (sign q) (basis r q)) r h
        ∙ ap (λ a. 0ℚ +ℚ a *ℚ sign q) (g.stands.units q r l h))
        ∙ by_eq q r
        (λ e. subst (λ r. sign r *ℚ (0ℚ +ℚ delta q r *ℚ sign q) ≡ delta q r) e
        (ap (λ a. sign q *ℚ (0ℚ +ℚ a *ℚ sign q)) (delta_same q) ∙ one (sign q) ∙ square q ∙ sym (delta_same q)))
        (λ d. ap (λ a. sign r *ℚ (0ℚ +ℚ a *ℚ sign q)) (delta_other q r d)
        ∙ none (sign r) (sign q) ∙ sym (delta_other q r d))
      where
        turn : (a c : ℚ) → a *ℚ c ≡ 0ℚ +ℚ c *ℚ a
        turn a c = simp ring

        one : (a : ℚ) → a *ℚ (0ℚ +ℚ 1ℚ *ℚ a) ≡ a *ℚ a
        one a = simp ring

        none : (a c : ℚ) → a *ℚ (0ℚ +ℚ 0ℚ *ℚ c) ≡ 0ℚ
        none a c = simp ring

    part_of : ℕ → ℕ → ℚ
    part_of i s = forward pairs (λ r. delta r s) i

    row_forth : (i k : ℕ) → i < m → row i k ≡ sum_below m (λ s. (sign i *ℚ part_of i s) *ℚ equations s k)
    unfolding row part_of
    row_forth i k l =
        ap (λ a. sign i *ℚ a) (forward_combines m m pairs delta (λ s. equations s k)
        (λ r. equations r k) g.stands.sound (λ r h. sym (sum_below-delta m r (λ s. equations s k) h)) i l)
        ∙ *ℚ-sum_below (sign i) m _
        ∙ sum_below_same m _ _ (λ s _. sym (*ℚ_assoc (sign i) (forward pairs (λ r. delta r s) i) (equations s k)))

    row_back : (i k : ℕ) → i < m → equations i k ≡ sum_below m (λ s. (basis i s *ℚ sign s) *ℚ row s k)
    unfolding row
    row_back i k l =
        sym (columns_solved m pairs basis g.stands (λ r. equations r k) i l)
        ∙ sum_below_same m _ _ (λ s _. sym (*ℚ_assoc (basis i s) (sign s) _
        ∙ ap (λ a. basis i s *ℚ a) (twice (sign s) (forward pairs (λ r. equations r k) s) (square s))))

    row_none : (i k : ℕ) → i < m → N ≤ k → row i k ≡ 0ℚ
    row_none i k l h =
        row_forth i k l
        ∙ sum_below_none m _ (λ s q. ap (λ a. (sign i *ℚ part_of i s) *ℚ a) (row_past f (signs_of starts) s k q h)
        ∙ *ℚ_zero _)

    -- ---- reduced costs
    price_basic : (q : ℕ) → q < m → price (column q) ≡ 0ℚ
    unfolding price multiplier
    price_basic q l =
        ap (λ a. cost_at costs (column q) -ℚ a)
        (sum_below_same m _ (λ r. sign q *ℚ (y r *ℚ basis r q))
        (λ r _. ap (λ a. y r *ℚ a) (equation_is r q l) ∙ turn (y r) (sign q) (basis r q))
        ∙ sym (*ℚ-sum_below (sign q) m _)
        ∙ ap (λ a. sign q *ℚ a) (rows_solved m pairs basis g.stands (λ p. sign p *ℚ cost_at costs (column p)) q l)
        ∙ twice (sign q) (cost_at costs (column q)) (square q))
        ∙ +ℚ_neg _
      where
        y : ℕ → ℚ
        y = backward m pairs (λ p. sign p *ℚ cost_at costs (column p))

        turn : (y s b : ℚ) → y *ℚ (s *ℚ b) ≡ s *ℚ (y *ℚ b)
        turn y s b = simp ring

    price_none : (k : ℕ) → N ≤ k → price k ≡ 0ℚ
    unfolding price
    price_none k h =
        ap₂ (λ a c. a -ℚ c) (get_or_past costs k 0ℚ (omega (arith, few, h)))
        (sum_below_none m _ (λ r q. ap (λ a. multiplier r *ℚ a) (row_past f (signs_of starts) r k q h)
        ∙ *ℚ_zero _)) ∙ +ℚ_neg 0ℚ

    -- ---- read from the lists
    pub whole_length : (p : ℕ) → p < m → length (get_or whole.entries p []) ≡ N
    whole_length p l = ap length (get_or-made m (λ p. made N (row p)) p [] l) ∙ length-made N (row p)

    pub entry_is : (p k : ℕ) → p < m → entry_at whole p k ≡ row p k
    entry_is p k l = by_lt k N
        (λ h. ap (λ xs. get_or xs k 0ℚ) (get_or-made m (λ p. made N (row p)) p [] l) ∙ get_or-made N (row p) k 0ℚ h)
        (λ h. past_row whole.entries p k N (whole_length p l) h ∙ sym (row_none p k l h))

    pub price_is : (k : ℕ) → reduced_at whole k ≡ price k
    price_is k = by_lt k N
        (λ h. get_or-made N price k 0ℚ h)
        (λ h. get_or_past (made N price) k 0ℚ (omega (arith, h, length-made N price)) ∙ sym (price_none k h))

    pub whole_is : IsTableauOf m f.cols equations (cost_at costs) b whole
    unfolding price
    whole_is = record {
      rows = st.rows;
      cols = st.cols;
      whole = record {
        all_rows = length-made m (λ p. made N (row p)) ∙ sym st.rows;
        whole_rows = λ p l. whole_length p (subst (λ n. p < n) st.rows l) ∙ sym all_is;
        all_basic = g.all ∙ sym st.rows;
        all_values = st.whole.all_values;
        all_reduced = length-made N price ∙ sym all_is;
        all_statuses = st.whole.all_statuses;
        all_lower = st.whole.all_lower;
        all_upper = st.whole.all_upper;
      };
      tableau = record {
        in_range = λ p l. subst (λ n. column p < n) all_is (g.in_range p l);
        forth = (λ i s. sign i *ℚ part_of i s, λ i k l. entry_is i k l ∙ row_forth i k l);
        back = (
          λ i s. basis i s *ℚ sign s,
          λ i k l. row_back i k l
              ∙ sum_below_same m _ _ (λ s q. ap (λ a. (basis i s *ℚ sign s) *ℚ a) (sym (entry_is s k q))),
        );
        units = λ q r l h. entry_is r (column q) h ∙ row_unit q r l h;
        costs = record {
          weights = multiplier;
          less = λ k. price_is k;
          at_basic = λ p l. price_is (column p) ∙ price_basic p l;
        };
        marked = g.marked;
        placed = λ k l e. g.placed k (subst (λ n. k < n) (sym all_is) l) e;
        stands = st.tableau.stands;
        solves = st.tableau.solves;
      };
      bounds = record {
        lower = st.bounds.lower;
        upper = st.bounds.upper;
        entering = st.bounds.entering;
        barred = st.bounds.barred;
        zero = st.bounds.zero;
        top = st.bounds.top;
        basic = st.bounds.basic;
        fixed = st.bounds.fixed;
      };
    }
