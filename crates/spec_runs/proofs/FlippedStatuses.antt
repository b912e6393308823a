-- The flips give each reduced cost the sign that belongs to its status.
--
-- `wrong`: a column that meets its need by a flip is at one bound, has the other one, and its reduced cost suits the
--   other one.
-- `flip_shape`: a flip gives one column the status of its other bound; besides, it changes only values.
use Rattle.std.proofs.Common.{◌≡◌, ◌≢◌, ℕ, suc, ◌+◌, ◌<◌, ◌≤◌, List, Option, Some, None, Ok, Bool, true}
use Rattle.std.proofs.Common.{false, not, ◌&&◌, ◌||◌, is_some, cond, nat_le, refl, sym, ap, ap₂, ◌∙◌, subst, subst₂, arith}
use Rattle.std.proofs.lemmas.Bool.{false≢true}
use Rattle.std.proofs.lemmas.List.{get_or-set_same, get_or-set_other}
use Rattle.spec_exact.specs.Fraction.{ℚ, 0ℚ, ◌+ℚ◌, ◌-ℚ◌, ◌*ℚ◌, lt_ℚ}
use Rattle.spec_exact.proofs.Order.{<ℚ-le, lt_if}
use Rattle.spec_pivot.specs.declared.status.Status.{Status}
use Rattle.spec_pivot.specs.declared.status.Status.TheVariants.{Basic, AtLower, AtUpper, AtZero}
use Rattle.spec_pivot.specs.declared.status.Way.{Way}
use Rattle.spec_pivot.specs.declared.status.Way.TheVariants.{Up, Down}
use Rattle.spec_pivot.specs.Tableau.{Matrix}
use Rattle.spec_pivot.specs.Simplex.{Bounds, IsFixed, CanMove, Stands, IsTableau, Crosses, after_flip}
use Rattle.spec_pivot.proofs.SameEquations.{not_basic}
use Rattle.spec_pivot.proofs.AnyMove.{outside, flip_kept}
use Rattle.spec_pivot.proofs.Pivot.{by_eq}
use Rattle.spec_pivot.proofs.Ray.{ray_at}
use Rattle.spec_pivot.proofs.RatioTest.{whole_range}
use Rattle.spec_simplex.specs.declared.ends.RunStop.{RunStop}
use Rattle.spec_simplex.specs.declared.ends.RunStop.TheVariants as stop
use Rattle.spec_exact.specs.Run.{refused_as, difference_run, steps}
use Rattle.spec_simplex.specs.Step.{directed, other_bound, moved_run, flip_way, flipped, flip_run}
use Rattle.spec_simplex.specs.Tableau.{Tableau, all_columns, value_at, reduced_at}
use Rattle.spec_simplex.specs.Tableau.{status_at, lower_at, upper_at, or_zero, is_fixed}
use Rattle.spec_simplex.specs.Tables.{table_of}
use Rattle.spec_simplex.proofs.RunParts.{then_ok, refused_ok, steps_ok}
use Rattle.spec_simplex.proofs.Pivots.{Leaves}
use Rattle.spec_simplex.proofs.Flips.{flip_leaves}
use Rattle.spec_simplex.proofs.LeastIndexSteps.{ahead_is}
use Rattle.spec_pivot.specs.Dual.{Suits}
use Rattle.spec_runs.specs.Based.{IsBased, IsReady}
use Rattle.spec_simplex.specs.Dual.{Reached, one_more, flip_by, flip_next, flips_run}
use Rattle.spec_simplex.specs.Fit.{needs_flip, meets_need, needs_flip_at, meets_need_at}
use Rattle.spec_runs.proofs.Bounded.{own_counts, given_counts, lower_same}
use Rattle.spec_runs.proofs.Bounded.{upper_same, fixed_is, not_fixed_is, free_open}
use Rattle.spec_runs.proofs.Fits.{met_suits}
use Rattle.spec_exact.proofs.Results.{ok_same, err_not_ok}

-- ---- a column that needs its other bound

-- a column is at one bound, has the other one, and its reduced cost has the sign that belongs to the other one
pub record IsWrong (s : Status) (d : ℚ) (l u : Option ℚ) (way : Way) : Type 0 where
  pub can_move : CanMove way s
  pub way_is : flip_way s ≡ way
  pub low : (v : ℚ) × (l ≡ Some v)
  pub high : (v : ℚ) × (u ≡ Some v)
  pub suits : Suits (other_bound way) d

-- a bound that tests as given is some number
there_is : (o : Option ℚ) → is_some o ≡ true → (v : ℚ) × (o ≡ Some v)
there_is None h = absurd (false≢true h)
there_is (Some v) h = (v, refl)

-- where a fails or c holds, and a holds, c holds
either : (a c : Bool) → not a || c ≡ true → a ≡ true → c ≡ true
either true c h e = h
either false c h e = absurd (false≢true e)

pub wrong : (s : Status) (d v : ℚ) (l u : Option ℚ) → Stands s l u v → meets_need s d l u ≡ true →
    needs_flip s d ≡ true → (way : Way) × IsWrong s d l u way
wrong Basic d v l u st h n = absurd (false≢true n)
wrong AtLower d v l u st h n = (
  Up,
  record {
    can_move = tt;
    way_is = refl;
    low = (v, st);
    high = there_is u (either (lt_ℚ d 0ℚ) (is_some u) h n);
    suits = <ℚ-le d 0ℚ (lt_if d 0ℚ n);
  },
)
wrong AtUpper d v l u st h n = (
  Down,
  record {
    can_move = tt;
    way_is = refl;
    low = there_is l (either (lt_ℚ 0ℚ d) (is_some l) h n);
    high = (v, st);
    suits = <ℚ-le 0ℚ d (lt_if 0ℚ d n);
  },
)
wrong AtZero d v l u st h n = absurd (false≢true n)

-- the status at a column's other bound is not basic
other_nonbasic : (way : Way) → ¬ (other_bound way ≡ Basic)
other_nonbasic Up e = let z : AtUpper ≡ Basic = e in cc
other_nonbasic Down e = let z : AtLower ≡ Basic = e in cc

-- what a flip leaves beside values: one status
pub record IsFlip (t : Tableau) (j : ℕ) (to : Status) (u : Tableau) : Type 0 where
  pub values : List ℚ
  pub is : flipped t j to values ≡ u

pub flip_shape : (limit : Option ℕ) (t u : Tableau) (j : ℕ) → flip_run limit t j ≡ Ok u →
    IsFlip t j (other_bound (flip_way (status_at t j))) u
unfolding flip_run
flip_shape limit t u j h =
    let a = then_ok (difference_run limit (or_zero (upper_at t j)) (or_zero (lower_at t j))) _ u h in
    let c = then_ok (moved_run limit t j (directed (flip_way (status_at t j)) a.0) None) _ u a.2 in
    record { values = c.0; is = ok_same (flipped t j (other_bound (flip_way (status_at t j))) c.0) u c.2 }

module _ (limit : Option ℕ) (f : Matrix) (cost : ℕ → ℚ) (b : Bounds) (t : Tableau)
    (s : IsBased t.rows t.cols f cost b t) (j : ℕ) (j_in : j < all_columns t) (free : ¬ (IsFixed b j))
    (way : Way) (wrongly : IsWrong (status_at t j) (reduced_at t j) (lower_at t j) (upper_at t j) way)
    (u : Tableau) (ok : flip_run limit t j ≡ Ok u) where
  abbrev range : ℚ
  range = wrongly.high.0 -ℚ wrongly.low.0

  nonbasic : ¬ (status_at t j ≡ Basic)
  nonbasic = not_basic way (status_at t j) wrongly.can_move

  crosses : Crosses t.rows (all_columns t) b (table_of t) way j range (other_bound way)
  crosses = record {
    in_range = j_in;
    nonbasic = nonbasic;
    to_nonbasic = other_nonbasic way;
    lands =
        subst₂ (λ to r. Stands to (b.lower j) (b.upper j) (value_at t j +ℚ range *ℚ r))
        (ahead_is way) (sym (ray_at t.rows (table_of t) s.tableau.tableau.units way j
        (outside t.rows (all_columns t) f cost b (table_of t) s.tableau.tableau j nonbasic)))
        (whole_range wrongly.low.0 wrongly.high.0 (value_at t j) (b.lower j) (b.upper j) way (status_at t j)
        (sym (lower_same f cost b t s j j_in) ∙ wrongly.low.1)
        (sym (upper_same f cost b t s j j_in) ∙ wrongly.high.1) wrongly.can_move (s.tableau.tableau.stands j j_in));
  }

  left : Leaves b t u (after_flip t.rows (table_of t) way j range (other_bound way))
  left =
      flip_leaves limit t s.tableau.whole f cost b s.tableau.tableau s.tableau.bounds way j range crosses
      (free_open f cost b t s j j_in free) u wrongly.way_is
      (sym (ap₂ (λ u l. or_zero u -ℚ or_zero l) wrongly.high.1 wrongly.low.1)) ok

  pub flip_based : IsBased t.rows t.cols f cost b u
  flip_based = record {
    tableau = record {
      rows = left.rows;
      cols = left.cols;
      whole = left.whole;
      tableau = subst (IsTableau t.rows (all_columns t) f cost b) (sym left.table)
          (flip_kept t.rows (all_columns t) f cost b (table_of t) s.tableau.tableau
          way j j_in nonbasic range (other_bound way) (other_nonbasic way) crosses.lands);
      bounds = left.bounds;
    };
    top = s.top;
  }

  shape : IsFlip t j (other_bound way) u
  shape = subst (λ c. IsFlip t j (other_bound c) u) wrongly.way_is (flip_shape limit t u j ok)

  pub flip_status : status_at u j ≡ other_bound way
  flip_status =
      ap (λ u. status_at u j) (sym shape.is)
      ∙ get_or-set_same t.status j (other_bound way) Basic (omega (arith, s.tableau.whole.all_statuses, j_in))

  pub flip_other : (k : ℕ) → k ≢ j → status_at u k ≡ status_at t k
  flip_other k d = ap (λ u. status_at u k) (sym shape.is) ∙ get_or-set_other t.status j k (other_bound way) Basic d

  pub flip_reduced : (k : ℕ) → reduced_at u k ≡ reduced_at t k
  flip_reduced k = ap (λ u. reduced_at u k) (sym shape.is)

  pub flip_met : (k : ℕ) → k ≢ j → meets_need_at u k ≡ meets_need_at t k
  flip_met k d =
      ap (λ u. meets_need_at u k) (sym shape.is)
      ∙ ap (λ s. is_fixed (lower_at t k) (upper_at t k) || meets_need s (reduced_at t k) (lower_at t k) (upper_at t k))
      (get_or-set_other t.status j k (other_bound way) Basic d)

-- ---- all of them
module _ (limit : Option ℕ) (budget m n : ℕ) (f : Matrix) (cost : ℕ → ℚ) (b : Bounds) where
  -- after the columns below i
  pub record Flipping (i : ℕ) (r : Reached) : Type 0 where
    pub based : IsBased m n f cost b r.tableau
    pub early : (k : ℕ) → k < i → k < n + m + m → ¬ (IsFixed b k) →
        Suits (status_at r.tableau k) (reduced_at r.tableau k)
    pub late : (k : ℕ) → i ≤ k → k < n + m + m → meets_need_at r.tableau k ≡ true

  -- where the flips of the columns below i are done, and column i needs none, those of the columns below i + 1 are done
  pass : (i : ℕ) (r : Reached) → i < n + m + m → Flipping i r → needs_flip_at r.tableau i ≡ false → Flipping (suc i) r
  pass i r i_in v h = record {
    based = v.based;
    early = λ k l q free. by_eq k i
        (λ z. subst (λ k. Suits (status_at r.tableau k) (reduced_at r.tableau k))
        (sym z) (here (subst (λ k. ¬ (IsFixed b k)) z free)))
        (λ z. v.early k (omega (arith, l, z)) q free);
    late = λ k l. v.late k (omega (arith, l));
  }
    where
      t : Tableau
      t = r.tableau

      s : IsBased r.tableau.rows r.tableau.cols f cost b r.tableau
      s = own_counts m n f cost b r.tableau v.based

      here : ¬ (IsFixed b i) → Suits (status_at r.tableau i) (reduced_at r.tableau i)
      here free = by (is_fixed (lower_at r.tableau i) (upper_at r.tableau i)) refl h (v.late i (omega arith) i_in)
        where
          by : (c : Bool) → is_fixed (lower_at r.tableau i) (upper_at r.tableau i) ≡ c →
              not c && needs_flip (status_at r.tableau i) (reduced_at r.tableau i) ≡ false
              → c || meets_need (status_at r.tableau i) (reduced_at r.tableau i) (lower_at r.tableau i)
              (upper_at r.tableau i) ≡ true → Suits (status_at r.tableau i) (reduced_at r.tableau i)
          by true c h g =
              absurd (free (fixed_is f cost b r.tableau s i (omega
              (arith, i_in, v.based.tableau.rows, v.based.tableau.cols)) c))
          by false c h g =
              met_suits (status_at r.tableau i) (reduced_at r.tableau i)
              (lower_at r.tableau i) (upper_at r.tableau i) g h

  -- where the flips of the columns below i are done, and column i is flipped, those of the columns below i + 1 are done
  flip : (i : ℕ) (r : Reached) (u : Tableau) → i < n + m + m → Flipping i r → needs_flip_at r.tableau i ≡ true →
      flip_run limit r.tableau i ≡ Ok u → Flipping (suc i) (one_more r u)
  flip i r u i_in v h ok =
      by (is_fixed (lower_at r.tableau i) (upper_at r.tableau i)) refl h (v.late i (omega arith) i_in)
    where
      s : IsBased r.tableau.rows r.tableau.cols f cost b r.tableau
      s = own_counts m n f cost b r.tableau v.based

      inside : i < all_columns r.tableau
      inside = omega (arith, i_in, v.based.tableau.rows, v.based.tableau.cols)

      goes : (way : Way) → ¬ (IsFixed b i) →
          IsWrong (status_at r.tableau i) (reduced_at r.tableau i) (lower_at r.tableau i) (upper_at r.tableau i) way →
          Flipping (suc i) (one_more r u)
      goes way free w = record {
        based =
            given_counts m n f cost b r.tableau u v.based
            (flip_based limit f cost b r.tableau s i inside free way w u ok);
        early = λ k l q loose. by_eq k i
            (λ z. subst (λ k. Suits (status_at u k) (reduced_at u k)) (sym z)
            (subst₂ Suits (sym (flip_status limit f cost b r.tableau s i inside free way w u ok))
            (sym (flip_reduced limit f cost b r.tableau s i inside free way w u ok i)) w.suits))
            (λ z. subst₂ Suits (sym (flip_other limit f cost b r.tableau s i inside free way w u ok k z))
            (sym (flip_reduced limit f cost b r.tableau s i inside free way w u ok k))
            (v.early k (omega (arith, l, z)) q loose));
        late =
            λ k l q. flip_met limit f cost b r.tableau s i inside free way w u ok k
            (λ z. let y : ⊥ = omega (arith, l, z) in y) ∙ v.late k (omega (arith, l)) q;
      }

      by : (c : Bool) → is_fixed (lower_at r.tableau i) (upper_at r.tableau i) ≡ c →
          not c && needs_flip (status_at r.tableau i) (reduced_at r.tableau i) ≡ true
          → c || meets_need (status_at r.tableau i) (reduced_at r.tableau i)
          (lower_at r.tableau i) (upper_at r.tableau i) ≡ true → Flipping (suc i) (one_more r u)
      by true c h g = absurd (false≢true h)
      by false c h g =
          let w =
          wrong (status_at r.tableau i) (reduced_at r.tableau i)
          (value_at r.tableau i) (lower_at r.tableau i) (upper_at r.tableau i)
          (subst₂ (λ l u. Stands (status_at r.tableau i) l u (value_at r.tableau i))
          (sym (lower_same f cost b r.tableau s i inside))
          (sym (upper_same f cost b r.tableau s i inside)) (s.tableau.tableau.stands i inside)) g h in
          goes w.0 (not_fixed_is f cost b r.tableau s i inside c) w.1

  next : (i : ℕ) (x y : Reached) → i < n + m + m → Flipping i x → needs_flip_at x.tableau i ≡ true → (c : Bool) →
      flip_by limit i x c ≡ Ok y → Flipping (suc i) y
  next i x y i_in v e true h = err_not_ok {E = RunStop ℚ} stop.Spent y h
  next i x y i_in v e false h =
      let o = then_ok (refused_as stop.Past (flip_run limit x.tableau i)) (λ u. Ok (one_more x u)) y h in
      subst (Flipping (suc i)) (ok_same (one_more x o.0) y o.2) (flip i x o.0 i_in v e (refused_ok stop.Past (flip_run limit x.tableau i) o.0 o.1))

  -- where the flips of the columns below i are done, what the run makes of it at column i has those of the columns
  -- below i + 1 done
  step : (i : ℕ) (x y : Reached) → i < n + m + m → Flipping i x →
      cond (needs_flip_at x.tableau i) (flip_next limit budget i x) (Ok x) ≡ Ok y → Flipping (suc i) y
  step i x y i_in v h = by (needs_flip_at x.tableau i) refl h
    where
      by : (c : Bool) → needs_flip_at x.tableau i ≡ c → cond c (flip_next limit budget i x) (Ok x) ≡ Ok y →
          Flipping (suc i) y
      by true e h = next i x y i_in v e (nat_le budget x.used) h
      by false e h = subst (Flipping (suc i)) (ok_same x y h) (pass i x i_in v e)

  -- where each column meets its need, the flips of a based tableau make it ready for the dual method
  pub flips_ready : (t : Tableau) (r : Reached) → IsBased m n f cost b t →
      ((k : ℕ) → k < n + m + m → meets_need_at t k ≡ true) → flips_run limit budget t ≡ Ok r →
      IsReady m n f cost b r.tableau
  unfolding flips_run
  flips_ready t r s met h =
      let z : all_columns t ≡ n + m + m = omega (arith, s.tableau.rows, s.tableau.cols) in
      let v : Flipping (n + m + m) r =
      steps_ok Flipping (n + m + m) (λ k r. cond (needs_flip_at r.tableau k) (flip_next limit budget k r) (Ok r))
      (record { tableau = t; used = 0 }) r
      (ap (λ c. steps c (λ k r. cond (needs_flip_at r.tableau k) (flip_next limit budget k r) (Ok r))
      (record { tableau = t; used = 0 })) (sym z) ∙ h)
      (record { based = s; early = λ k l. absurd (let y : ⊥ = omega (arith, l) in y); late = λ k l q. met k q })
      step in
      record { based = v.based; feasible = λ k l free. v.early k l l free }
