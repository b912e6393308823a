-- The tableau of a basis, from its parts.
--
-- `written_back`: a list that was lent whole and is written back is the list that the call left.
-- `lent_is`: the tableau of columns that were lent whole and written back is that of the columns which the call left.
use Rattle.std.proofs.Common.{◌≡◌, ℕ, ◌+◌, ◌<◌, List, ◌++◌, length, take, get_or, replicate}
use Rattle.std.proofs.Common.{IfSome, Option, Some, None, Result, Ok, Err, false, cond, refl, sym, ap, ap₂, ◌∙◌, arith}
use Rattle.std.specs.Prelude.{slice_set}
use Rattle.std.proofs.Math.Seq.{take-append_seam}
use Rattle.std.proofs.lemmas.List.{length-append, length-replicate}
use Rattle.std.proofs.lemmas.List.Elements.{All-get_or}
use Rattle.spec_exact.specs.Fraction.{ℚ, 0ℚ}
use Rattle.spec_exact.specs.declared.past.Past.{Past}
use Rattle.spec_pivot.specs.declared.status.Status.{Status}
use Rattle.spec_pivot.specs.declared.status.Status.TheVariants.{AtLower}
use Rattle.spec_simplex.specs.Form.{Form, IsForm}
use Rattle.spec_exact.specs.Run.{Run, ◌>>=◌, refused_as, less_product, steps, made}
use Rattle.spec_simplex.specs.Start.{priced_run, with_reduced}
use Rattle.spec_simplex.specs.Tableau.{Tableau, IsTableauShape, all_columns, entry_at, basic_at, value_at, status_at}
use Rattle.spec_exact.proofs.Results.{ok_not_err, err_same}
use Rattle.spec_exact.proofs.RunsInOrder.{steps_stop, length-made, All-made}
use Rattle.spec_simplex.specs.Tableau.{is_basic}
use Rattle.spec_simplex.specs.declared.ends.StartStop.{StartStop}
use Rattle.spec_simplex.specs.declared.ends.StartStop.TheVariants as start
use Rattle.spec_simplex.specs.Eliminate.{Elimination, or_first, basis_status, basis_lower}
use Rattle.spec_simplex.specs.Eliminate.{basis_upper, basis_value, with_basis, eliminate_run}
use Rattle.spec_simplex.specs.Eliminate.{position_run, valued_run, with_values, filled_run, start_from}
use Rattle.lp_frac.specs.declared.stop.Stop.{Stop}
use Rattle.lp_form.specs.declared.stop.Singular.{Singular}
use Rattle.lp_frac.specs.declared.stop.Stop.TheVariants as stop
use Rattle.lp_tableau.specs.Grid.{IsGrid}
use Rattle.lp_tableau.specs.Parts.{tableau_of}
use Rattle.lp_tableau.specs.Based.{AreInside, StopsAt, based_run, stand_in}

-- ---- the parts
abbrev width_of : Form → ℕ
width_of f = f.cols + f.rows + f.rows

-- m equal items behind n items make n + m items
more_by : {A : Type 0} (xs : List A) (n m : ℕ) (x : A) → length xs ≡ n → length (xs ++ replicate m x) ≡ n + m
more_by xs n m x e = omega (arith, length-append xs (replicate m x), length-replicate m x, e)

module _ (f : Form) (basis : List Status) (kept : IsForm f) (all : length basis ≡ f.cols + f.rows) where
  statuses_length : length (basis_status f basis) ≡ width_of f
  statuses_length = more_by basis (f.cols + f.rows) f.rows AtLower all

  lowers_length : length (basis_lower f) ≡ width_of f
  lowers_length = more_by f.lower (f.cols + f.rows) f.rows (Some 0ℚ) kept.all_lower

  uppers_length : length (basis_upper f) ≡ width_of f
  uppers_length = more_by f.upper (f.cols + f.rows) f.rows (Some 0ℚ) kept.all_upper

  -- a tableau of a basis has as many lower bounds as statuses
  pub lowers_beside : (lower : List (Option ℚ)) (status : List Status) → lower ≡ basis_lower f →
      status ≡ basis_status f basis → length lower ≡ length status
  lowers_beside lower status l s = ap length l ∙ lowers_length ∙ sym (ap length s ∙ statuses_length)

  pub uppers_beside : (upper : List (Option ℚ)) (status : List Status) → upper ≡ basis_upper f →
      status ≡ basis_status f basis → length upper ≡ length status
  uppers_beside upper status u s = ap length u ∙ uppers_length ∙ sym (ap length s ∙ statuses_length)

  pub values_are : (status : List Status) (lower upper : List (Option ℚ)) (value : List ℚ) →
      status ≡ basis_status f basis → lower ≡ basis_lower f → upper ≡ basis_upper f
      → value ≡ made (length status) (stand_in status lower upper) → value ≡ made (width_of f) (basis_value f basis)
  values_are status lower upper value s l u v =
      v ∙ ap₂ (λ n g. made n g) (ap length s ∙ statuses_length) (ap (λ status. stand_in status lower upper) s
      ∙ ap₂ (λ lower upper. stand_in (basis_status f basis) lower upper) l u)

module _ (f : Form) (basis : List Status) (e : Elimination) (kept : IsForm f)
    (all : length basis ≡ f.cols + f.rows) (places : length e.basic ≡ f.rows) where
  first_inside : (o : Option ℕ) → 0 < width_of f → IfSome o (λ k. k < width_of f) → or_first o < width_of f
  first_inside None l h = l
  first_inside (Some k) l h = h

  pub based_shape : IsGrid f.rows (width_of f) e.rows → AreInside (width_of f) e.basic →
      IsTableauShape (with_basis f basis e)
  based_shape g inside = record {
    few_rows = kept.few_rows;
    few_columns = kept.few_columns;
    all_rows = g.height;
    whole_rows = g.width;
    all_basic = length-made f.rows (λ i. or_first (get_or e.basic i None));
    in_range = All-made (λ k. k < width_of f) f.rows (λ i. or_first (get_or e.basic i None))
        (λ i l. first_inside (get_or e.basic i None) (omega (arith, l))
        (All-get_or (λ (o : Option ℕ). IfSome o (λ k. k < width_of f)) e.basic i None
        (omega (arith, l, places)) inside));
    all_values = length-made (width_of f) (basis_value f basis);
    all_reduced = length-replicate (width_of f) 0ℚ;
    all_statuses = statuses_length f basis kept all;
    all_lower = lowers_length f basis kept all;
    all_upper = uppers_length f basis kept all;
  }

  pub based_is : (rows cols : ℕ) (basic : List ℕ) (value reduced : List ℚ)
      (status : List Status) (lower upper : List (Option ℚ))
      → rows ≡ f.rows → cols ≡ f.cols → basic ≡ made (length e.basic) (λ i. or_first (get_or e.basic i None)) →
      value ≡ made (width_of f) (basis_value f basis) → reduced ≡ replicate (width_of f) 0ℚ
      → status ≡ basis_status f basis → lower ≡ basis_lower f → upper ≡ basis_upper f →
      tableau_of rows cols e.rows basic value reduced status lower upper ≡ with_basis f basis e
  based_is rows cols basic value reduced status lower upper r c b v d s l u =
      let a = b ∙ ap (λ n. made n (λ i. or_first (get_or e.basic i None))) places in
      rw (r, c, a, v, d, s, l, u) refl

-- ---- the values of the basic columns
module _ (limit : Option ℕ) (t : Tableau) where
  abbrev part : ℕ → ℕ → ℚ → Run ℚ
  part i k v = cond (is_basic (status_at t k)) (Ok v) (less_product limit (entry_at t i k) (value_at t k) v)

  pub position_stops : (i k : ℕ) (v : ℚ) (e : Past ℚ) → k < all_columns t →
      steps k (part i) 0ℚ ≡ Ok v → is_basic (status_at t k) ≡ false
      → less_product limit (entry_at t i k) (value_at t k) v ≡ Err e → position_run limit t i ≡ Err e
  position_stops i k v e l s n h =
      steps_stop k (all_columns t) (part i) 0ℚ v e l s
      (ap (λ b. cond b (Ok v) (less_product limit (entry_at t i k) (value_at t k) v)) n ∙ h)

  abbrev fill_at : ℕ → List ℚ → Run (List ℚ)
  fill_at i values = position_run limit t i >>= λ v. Ok (slice_set values (basic_at t i) v)

  pub values_refused : (i : ℕ) (values : List ℚ) (e : Past ℚ) → i < t.rows → steps i fill_at t.value ≡ Ok values →
      position_run limit t i ≡ Err e → valued_run limit t ≡ Err e
  unfolding valued_run
  values_refused i values e l s h =
      steps_stop i t.rows fill_at t.value values e l s (ap (λ o. o >>= λ v. Ok (slice_set values (basic_at t i) v)) h)

  pub values_filled : (i : ℕ) (values : List ℚ) → i ≡ t.rows → steps i fill_at t.value ≡ Ok values →
      valued_run limit t ≡ Ok values
  unfolding valued_run
  values_filled i values e s = ap (λ n. steps n fill_at t.value) (sym e) ∙ s

-- ---- the whole

-- a list that was lent whole, and what is after it
pub written_back : (n : ℕ) (new front rest now : List (Option ℕ)) (m : ℕ) → now ≡ take n (new ++ rest) →
    front ≡ replicate m None → length front ≡ n → length new ≡ m → now ≡ new
written_back n new front rest now m e f l k =
    let z : n ≡ length new = omega (arith, l, ap length f, length-replicate {A = Option ℕ} m None, k) in
    e ∙ ap (λ i. take i (new ++ rest)) z ∙ take-append_seam new rest

-- the tableau of columns that were lent so
pub lent_is : (f : Form) (basis : List Status) (rows : List (List ℚ)) (t : Tableau) (n : ℕ)
    (new front rest now : List (Option ℕ)) (m : ℕ) → t ≡ with_basis f basis (record { rows = rows; basic = now }) →
    now ≡ take n (new ++ rest) → front ≡ replicate m None → length front ≡ n → length new ≡ m →
    t ≡ with_basis f basis (record { rows = rows; basic = new })
lent_is f basis rows t n new front rest now m b e g l k =
    b
    ∙ ap (λ basic. with_basis f basis (record { rows = rows; basic = basic }))
    (written_back n new front rest now m e g l k)

module _ (limit : Option ℕ) (f : Form) (basis : List Status) where
  abbrev with_rows : Result Elimination (StartStop ℚ) → Result Tableau (StartStop ℚ)
  with_rows o = o >>= λ e. Ok (with_basis f basis e)

  pub rows_stop : (s : Stop Singular) → StopsAt (eliminate_run limit f basis) s → StopsAt (based_run limit f basis) s
  rows_stop (stop.Cause why) h = ap with_rows h
  rows_stop (stop.Past p) h = ap with_rows h
  rows_stop stop.NoMemory h = tt

  pub based : (e : Elimination) (t : Tableau) → eliminate_run limit f basis ≡ Ok e → t ≡ with_basis f basis e →
      based_run limit f basis ≡ Ok t
  based e t r b = ap with_rows r ∙ ap Ok (sym b)

  abbrev completed : Result Tableau (StartStop ℚ) → Result Tableau (StartStop ℚ)
  completed o = o >>= λ t. refused_as start.Past (filled_run limit f t)

  in_parts : (o : Result Elimination (StartStop ℚ)) →
      (o >>= λ e. refused_as start.Past (filled_run limit f (with_basis f basis e))) ≡ completed (with_rows o)
  in_parts (Ok e) = refl
  in_parts (Err x) = refl

  start_is : start_from limit f basis ≡ completed (based_run limit f basis)
  unfolding start_from
  start_is = in_parts (eliminate_run limit f basis)

  pub based_stop : (s : Stop Singular) → StopsAt (based_run limit f basis) s → StopsAt (start_from limit f basis) s
  based_stop (stop.Cause why) h = start_is ∙ ap completed h
  based_stop (stop.Past p) h = start_is ∙ ap completed h
  based_stop stop.NoMemory h = tt

  module _ (t : Tableau) (b : based_run limit f basis ≡ Ok t) where
    pub filled_stop : (s : Stop Singular) → StopsAt (refused_as start.Past (filled_run limit f t)) s →
        StopsAt (start_from limit f basis) s
    filled_stop (stop.Cause why) h = start_is ∙ ap completed b ∙ h
    filled_stop (stop.Past p) h = start_is ∙ ap completed b ∙ h
    filled_stop stop.NoMemory h = tt

    pub whole : (u : Tableau) → filled_run limit f t ≡ Ok u → start_from limit f basis ≡ Ok u
    whole u h = start_is ∙ ap completed b ∙ ap (refused_as start.Past) h

-- the values, and then the reduced costs
module _ (limit : Option ℕ) (f : Form) (t : Tableau) where
  abbrev after_values : Run (List ℚ) → Run Tableau
  after_values o =
      o >>= λ values. priced_run limit t f.cost >>= λ reduced. Ok (with_reduced (with_values t values) reduced)

  by_values : (o : Run (List ℚ)) (s : Stop Singular) → StopsAt (refused_as start.Past o) s →
      StopsAt (refused_as start.Past (after_values o)) s
  by_values (Ok values) (stop.Cause why) h = ok_not_err values start.Singular h
  by_values (Ok values) (stop.Past p) h = ok_not_err values (start.Past p) h
  by_values (Err x) (stop.Cause why) h = ap Err (err_same (start.Past x) start.Singular h)
  by_values (Err x) (stop.Past p) h = ap Err (err_same (start.Past x) (start.Past p) h)
  by_values o stop.NoMemory h = tt

  pub values_stop : (s : Stop Singular) → StopsAt (refused_as start.Past (valued_run limit t)) s →
      StopsAt (refused_as start.Past (filled_run limit f t)) s
  values_stop s h = by_values (valued_run limit t) s h

  module _ (values costs : List ℚ) (v : valued_run limit t ≡ Ok values) (c : costs ≡ f.cost) where
    abbrev with_costs : Run (List ℚ) → Run Tableau
    with_costs o = o >>= λ reduced. Ok (with_reduced (with_values t values) reduced)

    from_values : filled_run limit f t ≡ with_costs (priced_run limit t costs)
    from_values = ap after_values v ∙ ap (λ costs. with_costs (priced_run limit t costs)) (sym c)

    pub price_stop : (p : Past ℚ) → priced_run limit t costs ≡ Err p →
        refused_as start.Past (filled_run limit f t) ≡ Err (start.Past p)
    price_stop p h = ap (refused_as start.Past) (from_values ∙ ap with_costs h)

    pub filled : (x u : Tableau) → priced_run limit t costs ≡ Ok x.reduced → x ≡ with_reduced t x.reduced →
        u ≡ with_values x values → filled_run limit f t ≡ Ok u
    filled x u h k w =
        from_values ∙ ap with_costs h ∙ ap Ok (sym (w ∙ ap (λ x. with_values x values) k))
