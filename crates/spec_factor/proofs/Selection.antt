-- What a step over factors sees and chooses is what the tableau that the factors stand for would choose.
use Rattle.std.proofs.Common.{◌≡◌, ℕ, zero, suc, ◌+◌, ◌<◌, ◌≤◌, List, [], length, get_or}
use Rattle.std.proofs.Common.{Option, Some, None, Result, Ok, Err, Bool, true, false, cond}
use Rattle.std.proofs.Common.{◌||◌, nat_eq, refl, sym, ap, ap₂, ◌∙◌, subst, arith, eq-eqb}
use Rattle.spec_exact.specs.Fraction.{ℚ, ◌+ℚ◌, ◌-ℚ◌, ◌*ℚ◌, 0ℚ}
use Rattle.spec_exact.specs.Sums.{sum_below}
use Rattle.spec_exact.proofs.Ruleset.{ring}
use Rattle.spec_exact.proofs.Sums.{sum_below_same}
use Rattle.spec_pivot.specs.declared.status.Status.{Status}
use Rattle.spec_pivot.specs.declared.status.Status.TheVariants.{Basic}
use Rattle.spec_pivot.specs.declared.status.Way.{Way}
use Rattle.spec_pivot.specs.Simplex.{Bounds}
use Rattle.spec_pivot.proofs.Values.{by_basic}
use Rattle.spec_simplex.specs.declared.ends.RowStart.{RowStart}
use Rattle.spec_simplex.specs.declared.ends.Entering.{Entering}
use Rattle.spec_simplex.specs.declared.ends.Best.{Best}
use Rattle.spec_simplex.specs.declared.ends.PrimalEnd.TheVariants.{Optimal, Unbounded}
use Rattle.spec_simplex.specs.declared.ends.Choice.{Choice}
use Rattle.spec_simplex.specs.declared.ends.Choice.TheVariants.{End, Flip, Pivot}
use Rattle.spec_simplex.specs.Form.{Form}
use Rattle.spec_exact.specs.Run.{Run, ◌>>=◌, steps, made}
use Rattle.spec_simplex.specs.Start.{cost_at}
use Rattle.spec_simplex.specs.Tableau.{Tableau, form_columns, all_columns, basic_at, entry_at}
use Rattle.spec_simplex.specs.Tableau.{value_at, reduced_at, status_at, lower_at, upper_at, is_fixed}
use Rattle.spec_simplex.specs.Step.{way_by, way_at, or_enters, entering_below, entering, range_run, gap_run}
use Rattle.spec_simplex.specs.Step.{with_gap, best_with, best_run, choice_at, choice_by, choice_of, choice_run}
use Rattle.spec_exact.proofs.RunsInOrder.{length-made, get_or-made}
use Rattle.spec_simplex.specs.Tableau.{is_basic}
use Rattle.spec_simplex.specs.Tables.{IsTableauOf}
use Rattle.spec_simplex.specs.Begins.{form_rows, signs_of}
use Rattle.spec_simplex.proofs.RunParts.{then_ok, less_ok, steps_ok}
use Rattle.spec_simplex.proofs.ListIndices.{by_lt}
use Rattle.spec_simplex.proofs.Enters.{an_entering, fixed_test}
use Rattle.spec_simplex.proofs.Pivots.{enters_before}
use Rattle.spec_factor.specs.Factors.{Pair, column_entry, column_of, ftran_run, btran_run}
use Rattle.spec_factor.specs.Revised.{sign_of, multipliers_run, price_run, way_run, or_priced, entering_run}
use Rattle.spec_factor.specs.Revised.{seen_entry, seen, Selection, selection_with, selection_run}
use Rattle.spec_factor.proofs.Forward.{forward_same}
use Rattle.spec_factor.proofs.Backward.{backward_same}
use Rattle.spec_factor.proofs.RunLists.{Reads, read, btran_ok}
use Rattle.spec_factor.proofs.Choosing.{solved, basic_if}
use Rattle.spec_factor.specs.Same.{Places, bare_with}
use Rattle.spec_factor.proofs.FactoredTableau.{plain_is, whole, row, multiplier, price, whole_is, entry_is, price_is}

-- steps that do the same at each index below n end in the same way
pub steps_same : {A E : Type 0} (n : ℕ) (f g : ℕ → A → Result A E) (a : A) → ((i : ℕ) (x : A) → i < n → f i x ≡ g i x) →
    steps n f a ≡ steps n g a
steps_same zero f g a h = refl
steps_same (suc n) f g a h =
    ap (λ o. o >>= λ b. f n b) (steps_same n f g a (λ i x l. h i x (omega (arith, l)))) ∙ by (steps n g a)
  where
    by : (o : Result _ _) → (o >>= λ b. f n b) ≡ (o >>= λ b. g n b)
    by (Ok b) = h n b (omega arith)
    by (Err e) = refl

-- ---- tableaus that are the same to a step in column j
pub record SameColumn (t u : Tableau) (j : ℕ) : Type 0 where
  pub rows : t.rows ≡ u.rows
  pub entries : (p : ℕ) → p < u.rows → entry_at t p j ≡ entry_at u p j
  pub basic : t.basic ≡ u.basic
  pub values : t.value ≡ u.value
  pub lower : t.lower ≡ u.lower
  pub upper : t.upper ≡ u.upper

-- where two tableaus have the same entries in the entering column, the same values and the same bounds, their ratio
-- tests give the same best
best_same : (limit : Option ℕ) (t u : Tableau) (e : Entering) → SameColumn t u e.col →
    best_run limit t e ≡ best_run limit u e
best_same limit t u e s =
    ap₂ (λ l h. range_run limit e (get_or l e.col None) (get_or h e.col None) >>=
    λ best. steps t.rows (best_with limit t e) best) s.lower s.upper
    ∙ by (range_run limit e (lower_at u e.col) (upper_at u e.col))
  where
    with_same : (i : ℕ) (best : Option (Best ℚ)) → i < u.rows → best_with limit t e i best ≡ best_with limit u e i best
    with_same i best l =
        ap (λ a. gap_run limit e.direction a (lower_at t (basic_at t i)) (upper_at t (basic_at t i))
        (value_at t (basic_at t i)) >>= λ gap. with_gap limit i (basic_at t i) a best gap) (s.entries i l)
        ∙ ap (λ b. gap_run limit e.direction (entry_at u i e.col) (lower_at t (get_or b i 0)) (upper_at t (get_or b i 0))
        (value_at t (get_or b i 0)) >>= λ gap. with_gap limit i (get_or b i 0) (entry_at u i e.col) best gap) s.basic
        ∙ ap (λ v. gap_run limit e.direction (entry_at u i e.col) (lower_at t (basic_at u i)) (upper_at t (basic_at u i))
        (get_or v (basic_at u i) 0ℚ) >>= λ gap. with_gap limit i (basic_at u i) (entry_at u i e.col) best gap) s.values
        ∙ ap₂ (λ v h. gap_run limit e.direction (entry_at u i e.col) (get_or v (basic_at u i) None)
        (get_or h (basic_at u i) None) (value_at u (basic_at u i)) >>=
        λ gap. with_gap limit i (basic_at u i) (entry_at u i e.col) best gap) s.lower s.upper

    by : (o : Run (Option (Best ℚ))) →
        (o >>= λ best. steps t.rows (best_with limit t e) best)
        ≡ (o >>= λ best. steps u.rows (best_with limit u e) best)
    by (Ok best) =
        ap (λ m. steps m (best_with limit t e) best) s.rows
        ∙ steps_same u.rows (best_with limit t e) (best_with limit u e) best with_same
    by (Err p) = refl

module _ (f : Form) (starts : List (RowStart ℚ)) (costs : List ℚ) (b : Bounds)
    (t : Tableau) (st : IsTableauOf f.rows f.cols (form_rows f (signs_of starts)) (cost_at costs) b t)
    (few : length costs ≤ f.cols + f.rows + f.rows)
    (basic : List ℕ) (pairs : List Pair) (g : Places f t basic pairs) where
  abbrev pub bare : Tableau
  bare = bare_with t basic

  abbrev pub W : Tableau
  W = whole f starts costs t basic pairs

  pub W_is : IsTableauOf f.rows f.cols (form_rows f (signs_of starts)) (cost_at costs) b W
  W_is = whole_is f starts costs t basic pairs b st few g

  -- ---- multipliers
  pub multipliers_are : (limit : Option ℕ) (y : List ℚ) (r : ℕ) →
      multipliers_run limit starts costs (record { bare = bare; pairs = pairs; replaced = r }) ≡ Ok y →
      Reads f.rows y (multiplier f starts costs t basic pairs)
  unfolding multipliers_run multiplier
  multipliers_are limit y r h =
      let h' : btran_run limit f.rows pairs
      (made f.rows (λ p. sign_of starts t (get_or basic p 0) *ℚ cost_at costs (get_or basic p 0))) ≡ Ok y =
      subst (λ m. btran_run limit m pairs
      (made m (λ p. sign_of starts t (get_or basic p 0) *ℚ cost_at costs (get_or basic p 0))) ≡ Ok y) st.rows h in
      let is =
      btran_ok limit f.rows pairs
      (made f.rows (λ p. sign_of starts t (get_or basic p 0) *ℚ cost_at costs (get_or basic p 0))) y g.stands.sound
      (length-made f.rows _) h' in
      record {
        all = is.all;
        each =
            λ i l. is.each i l
            ∙ backward_same f.rows pairs _ _ g.stands.sound (λ p q. get_or-made f.rows
            (λ p. sign_of starts t (get_or basic p 0) *ℚ cost_at costs (get_or basic p 0)) p 0ℚ q) i l;
      }

  -- ---- pricing
  module _ (limit : Option ℕ) (y : List ℚ) (y_is : Reads f.rows y (multiplier f starts costs t basic pairs)) where
    price_ok : (k : ℕ) (d : ℚ) → k < f.cols + f.rows → price_run limit f costs y k ≡ Ok d → d ≡ reduced_at W k
    unfolding price
    price_ok k d l h =
        steps_ok (λ n d. d ≡ cost_at costs k -ℚ sum_below n (λ r. read y r *ℚ column_entry f r k)) f.rows _
        (cost_at costs k) d h (sym (whole_cost (cost_at costs k)))
        (λ i x z _ was is. less_ok limit (read y i) (column_entry f i k) x z is
        ∙ ap (λ a. a -ℚ read y i *ℚ column_entry f i k) was ∙ more _ _ _)
        ∙ ap (λ a. cost_at costs k -ℚ a)
        (sum_below_same f.rows _ _ (λ r q. ap₂ ◌*ℚ◌ (y_is.each r q) (sym (plain_is f starts t st.rows st.cols r k l))))
        ∙ sym (price_is f starts costs t basic pairs b st few g k)
      where
        whole_cost : (a : ℚ) → a -ℚ 0ℚ ≡ a
        whole_cost a = simp ring

        more : (c s p : ℚ) → (c -ℚ s) -ℚ p ≡ c -ℚ (s +ℚ p)
        more c s p = simp ring

    way_ok : (k : ℕ) (w : Option Way) → k < all_columns t → way_run limit f costs y bare k ≡ Ok w → w ≡ way_at W k
    way_ok k w l h = by (is_fixed (lower_at t k) (upper_at t k)) (is_basic (status_at t k)) refl refl h
      where
        none : (s : Status) (d : ℚ) → s ≡ Basic → way_by s d ≡ None
        none s d e = ap (λ s. way_by s d) e

        by : (c e : Bool) → is_fixed (lower_at t k) (upper_at t k) ≡ c → is_basic (status_at t k) ≡ e
            → cond (c || e) (Ok None) (price_run limit f costs y k >>= λ d. Ok (way_by (status_at t k) d)) ≡ Ok w
            → w ≡ cond (is_fixed (lower_at t k) (upper_at t k)) None (way_by (status_at t k) (reduced_at W k))
        by true e p q h =
            let z : None ≡ w = cc in sym z ∙ sym (ap (λ c. cond c None (way_by (status_at t k) (reduced_at W k))) p)
        by false true p q h =
            let z : None ≡ w = cc in
            sym z
            ∙ sym (ap (λ c. cond c None (way_by (status_at t k) (reduced_at W k))) p
            ∙ none (status_at t k) (reduced_at W k) (basic_if f t.status (status_at t k) q))
        by false false p q h =
            let a = then_ok (price_run limit f costs y k) (λ d. Ok (way_by (status_at t k) d)) w h in
            let z : way_by (status_at t k) a.0 ≡ w = cc in
            sym z ∙ ap (way_by (status_at t k)) (price_ok k a.0 inside a.1)
            ∙ sym (ap (λ c. cond c None (way_by (status_at t k) (reduced_at W k))) p)
          where
            -- an artificial that is not basic is fixed
            inside : k < f.cols + f.rows
            inside =
                by_lt k (f.cols + f.rows) (λ l. l)
                (λ h. by_basic (status_at t k)
                (λ e. let z : false ≡ true = sym q ∙ ap is_basic e in cc)
                (λ e. let z : false ≡ true = sym p ∙ fixed_test (lower_at t k) (upper_at t k) 0ℚ
                (st.bounds.lower k l ∙ st.bounds.zero k (omega (arith, h, st.rows, st.cols)) l)
                (st.bounds.fixed k (omega (arith, h, st.rows, st.cols)) l e) in cc))

    entering_ok : (e : Option Entering) → entering_run limit f costs y bare ≡ Ok e → e ≡ entering W
    unfolding entering_run
    entering_ok e h =
        steps_ok (λ n e. e ≡ entering_below W n) (all_columns t)
        (λ k e. or_priced limit f costs y bare k e) None e h refl
        (λ k x z l was is. by k x z l was is)
      where
        by : (k : ℕ) (x z : Option Entering) → k < all_columns t → x ≡ entering_below W k →
            or_priced limit f costs y bare k x ≡ Ok z → z ≡ or_enters (entering_below W k) k (way_at W k)
        by k (Some v) z l was is = let q : Some v ≡ z = cc in sym q ∙ ap (λ o. or_enters o k (way_at W k)) was
        by k None z l was is =
            let a = then_ok (way_run limit f costs y bare k) (λ way. Ok (or_enters None k way)) z is in
            let q : or_enters None k a.0 ≡ z = cc in
            sym q ∙ ap₂ (λ o w. or_enters o k w) was (way_ok k a.0 l a.1)

  -- ---- the column that enters
  -- the tableau that a step in column j sees: the column after ftran, and its entries
  pub record Sees (limit : Option ℕ) (j : ℕ) (v : Tableau) : Type 0 where
    pub before : j < f.cols + f.rows
    pub column : List ℚ
    pub ftran : ftran_run limit f.rows pairs (column_of f j) ≡ Ok column
    pub sight : v ≡ seen starts bare j column
    pub same : SameColumn v W j

  pub seen_at : (j : ℕ) (z : List ℚ) (p : ℕ) → p < f.rows →
      entry_at (seen starts bare j z) p j ≡ seen_entry starts bare z p
  seen_at j z p l =
      ap (λ xs. get_or xs j 0ℚ)
      (get_or-made t.rows (λ p. made (suc j) (λ k. cond (nat_eq k j) (seen_entry starts bare z p) 0ℚ)) p []
      (subst (λ m. p < m) (sym st.rows) l))
      ∙ get_or-made (suc j) (λ k. cond (nat_eq k j) (seen_entry starts bare z p) 0ℚ) j 0ℚ (omega arith)
      ∙ rw (eq-eqb j j refl) refl

  sees : (limit : Option ℕ) (j : ℕ) (z : List ℚ) → j < f.cols + f.rows →
      ftran_run limit t.rows pairs (column_of f j) ≡ Ok z → Sees limit j (seen starts bare j z)
  unfolding row
  sees limit j z l h =
      let h' : ftran_run limit f.rows pairs (column_of f j) ≡ Ok z =
      subst (λ m. ftran_run limit m pairs (column_of f j) ≡ Ok z) st.rows h in
      record {
        before = l;
        column = z;
        ftran = h';
        sight = refl;
        same = record {
          rows = refl;
          entries = λ p q. let q' : p < f.rows = subst (λ m. p < m) st.rows q in
              seen_at j z p q'
              ∙ ap (λ a. sign_of starts t (get_or basic p 0) *ℚ a)
              (solved f t.status limit pairs j z g.stands.sound h' p q'
              ∙ forward_same f.rows pairs (λ r. column_entry f r j) (λ r. form_rows f
              (signs_of starts) r j) g.stands.sound
              (λ r _. sym (plain_is f starts t st.rows st.cols r j l)) p q')
              ∙ sym (entry_is f starts costs t basic pairs b st few g p j q');
          basic = refl;
          values = refl;
          lower = refl;
          upper = refl;
        };
      }

  -- ---- the choice
  abbrev pub SeesFor : Option ℕ → Choice ℚ → Tableau → Type 0
  SeesFor limit (End Optimal) v = Unit {0}
  SeesFor limit (End (Unbounded j way)) v = Sees limit j v
  SeesFor limit (Flip j) v = Sees limit j v
  SeesFor limit (Pivot p j theta to) v = Sees limit j v

  sees_chosen : (limit : Option ℕ) (e : Entering) (best : Option (Best ℚ)) (v : Tableau) → Sees limit e.col v →
      SeesFor limit (choice_by e best) v
  sees_chosen limit e None v s = s
  sees_chosen limit e (Some x) v s = by x.place
    where
      by : (o : Option ℕ) → SeesFor limit (choice_at e x o) v
      by None = s
      by (Some i) = s

  pub record SelectionRuns (limit : Option ℕ) (selection : Selection) : Type 0 where
    pub multipliers : Reads f.rows selection.multipliers (multiplier f starts costs t basic pairs)
    pub choice : choice_run limit W ≡ Ok selection.choice
    pub sees : SeesFor limit selection.choice selection.tableau

  pub selection_ok : (limit : Option ℕ) (r : ℕ) (selection : Selection) →
      selection_run limit f starts costs (record { bare = bare; pairs = pairs; replaced = r }) ≡ Ok selection →
      SelectionRuns limit selection
  unfolding selection_run choice_run
  selection_ok limit r selection h =
      let a =
      then_ok (multipliers_run limit starts costs (record { bare = bare; pairs = pairs; replaced = r }))
      _ selection h in
      let y = multipliers_are limit a.0 r a.1 in
      let c = then_ok (entering_run limit f costs a.0 bare) _ selection a.2 in
      by a.0 y c.0 (entering_ok limit a.0 y c.0 c.1) c.2
    where
      by : (y : List ℚ) → Reads f.rows y (multiplier f starts costs t basic pairs) → (o : Option Entering) →
          o ≡ entering W
          → selection_with limit f starts (record { bare = bare; pairs = pairs; replaced = r }) y o ≡ Ok selection →
          SelectionRuns limit selection
      by y is None e h =
          let z : ◌≡◌ {A = Selection} (record { multipliers = y; tableau = bare; choice = End Optimal }) selection =
          cc in
          subst (SelectionRuns limit) z
          (record { multipliers = is; choice = ap (choice_of limit W) (sym e); sees = tt })
      by y is (Some x) e h =
          let a = then_ok (ftran_run limit t.rows pairs (column_of f x.col)) _ selection h in
          let c = then_ok (best_run limit (seen starts bare x.col a.0) x) _ selection a.2 in
          let z : ◌≡◌ {A = Selection}
          (record { multipliers = y; tableau = seen starts bare x.col a.0; choice = choice_by x c.0 }) selection =
          cc in
          let l : x.col < form_columns t =
          enters_before b W x.col W_is.bounds ((an_entering b W W_is.bounds x (sym e)).eligible.may_enter.0) in
          let s : Sees limit x.col (seen starts bare x.col a.0) =
          sees limit x.col a.0 (omega (arith, l, st.rows, st.cols)) a.1 in
          subst (SelectionRuns limit) z (record {
            multipliers = is;
            choice =
                ap (choice_of limit W) (sym e)
                ∙ ap (λ o. o >>= λ best. Ok (choice_by x best))
                (sym (best_same limit (seen starts bare x.col a.0) W x s.same) ∙ c.1);
            sees = sees_chosen limit x c.0 (seen starts bare x.col a.0) s;
          })
