-- The flips, column by column.
use Rattle.std.proofs.Common.{◌≡◌, ◌≢◌, ℕ, ◌+◌, ◌<◌, ◌≤◌, List, Option, Result, Ok, Err, Bool}
use Rattle.std.proofs.Common.{true, false, not, ◌&&◌, cond, sym, ap, ◌∙◌, subst, arith}
use Rattle.std.proofs.lemmas.List.{get_or-set_same, get_or-set_other, length-set}
use Rattle.spec_exact.specs.Fraction.{ℚ}
use Rattle.spec_pivot.specs.declared.status.Status.{Status}
use Rattle.spec_pivot.specs.declared.status.Status.TheVariants.{Basic, AtLower, AtUpper}
use Rattle.spec_pivot.specs.declared.status.Way.{Way}
use Rattle.spec_pivot.specs.declared.status.Way.TheVariants.{Up, Down}
use Rattle.spec_simplex.specs.declared.ends.RunStop.{RunStop}
use Rattle.spec_simplex.specs.declared.ends.RunStop.TheVariants as stop
use Rattle.spec_exact.specs.Run.{refused_as, steps}
use Rattle.spec_simplex.specs.Step.{other_bound, flip_way, flip_run, flipped, CanFlip}
use Rattle.spec_simplex.specs.Tableau.{Tableau, all_columns, reduced_at, status_at, lower_at, upper_at, is_fixed}
use Rattle.spec_exact.proofs.RunsInOrder.{steps_more, steps_stop}
use Rattle.spec_simplex.proofs.RunParts.{then_ok, refused_ok}
use Rattle.spec_simplex.specs.Dual.{Reached, one_more, flip_by, flip_next, flips_run}
use Rattle.spec_simplex.specs.Fit.{needs_flip, needs_flip_at}
use Rattle.spec_runs.proofs.FlippedStatuses.{IsFlip, flip_shape}
use Rattle.lp_simplex.specs.Starts.{HasPlace, IsSeated}

-- ---- one flip

-- the status at the other bound is not that of a basic column
goes_to_bound : (way : Way) → other_bound way ≢ Basic
goes_to_bound Up e = let z : AtUpper ≡ Basic = e in cc
goes_to_bound Down e = let z : AtLower ≡ Basic = e in cc

module _ (t : Tableau) (s : IsSeated t) (j : ℕ) (inside : j < all_columns t)
    (to : Status) (bound : to ≢ Basic) (values : List ℚ) where
  abbrev after : Tableau
  after = flipped t j to values

  status_other : (k : ℕ) → k ≢ j → status_at after k ≡ status_at t k
  status_other k n = get_or-set_other t.status j k to Basic n

  not_the_one : (k : ℕ) → status_at after k ≡ Basic → k ≢ j
  not_the_one k e z =
      bound (sym (get_or-set_same t.status j to Basic (omega (arith, inside, s.all_statuses)))
      ∙ ap (status_at after) (sym z) ∙ e)

  seated_after : IsSeated after
  seated_after = record {
    all_basic = s.all_basic;
    all_statuses = length-set t.status j to ∙ s.all_statuses;
    places =
        λ k l e. let p : HasPlace t k = s.places k l (sym (status_other k (not_the_one k e)) ∙ e) in
        record { place = p.place; inside = p.inside; holds = p.holds };
  }

  needs_other : (k : ℕ) → k ≢ j → needs_flip_at after k ≡ needs_flip_at t k
  needs_other k n =
      ap (λ s. not (is_fixed (lower_at t k) (upper_at t k)) && needs_flip s (reduced_at t k)) (status_other k n)

  can_other : (k : ℕ) → k ≢ j → CanFlip t k → CanFlip after k
  can_other k n c =
      record {
        column = c.column;
        nonbasic = λ e. c.nonbasic (sym (status_other k n) ∙ e);
        lower = c.lower;
        upper = c.upper;
      }

-- ---- all of them
-- what is done at column k: if it needs its other bound it flips, or it is `Spent` where the budget is used up; else
-- nothing changes
abbrev flip_at : Option ℕ → ℕ → ℕ → Reached → Result Reached (RunStop ℚ)
flip_at limit budget k r = cond (needs_flip_at r.tableau k) (flip_next limit budget k r) (Ok r)

abbrev begun : Tableau → Reached
begun t = record { tableau = t; used = 0 }

-- the flips of the columns below k of `first` lead to r, which has as many columns; each basic column has a position,
-- and each column from k on that needs its other bound may flip
pub record Flipping (limit : Option ℕ) (budget : ℕ) (first : Tableau) (k : ℕ) (r : Reached) : Type 0 where
  pub so_far : steps k (flip_at limit budget) (begun first) ≡ Ok r
  pub columns : all_columns r.tableau ≡ all_columns first
  pub seated : IsSeated r.tableau
  pub late : (j : ℕ) → k ≤ j → j < all_columns r.tableau → needs_flip_at r.tableau j ≡ true → CanFlip r.tableau j

module _ (limit : Option ℕ) (budget : ℕ) (first : Tableau) where
  pub flips_pass : (k : ℕ) (r : Reached) → Flipping limit budget first k r → needs_flip_at r.tableau k ≡ false →
      Flipping limit budget first (k + 1) r
  flips_pass k r v e = record {
    so_far =
        steps_more k (flip_at limit budget) (begun first) r r v.so_far
        (ap (λ b. cond b (flip_next limit budget k r) (Ok r)) e);
    columns = v.columns;
    seated = v.seated;
    late = λ j l. v.late j (omega (arith, l));
  }

  needed : (k : ℕ) (r : Reached) (o : Result Reached (RunStop ℚ)) → needs_flip_at r.tableau k ≡ true →
      flip_next limit budget k r ≡ o → flip_at limit budget k r ≡ o
  needed k r o e h = ap (λ b. cond b (flip_next limit budget k r) (Ok r)) e ∙ h

  pub flips_stop : (k : ℕ) (r : Reached) (s : RunStop ℚ) → Flipping limit budget first k r → k < all_columns first →
      needs_flip_at r.tableau k ≡ true → flip_next limit budget k r ≡ Err s → flips_run limit budget first ≡ Err s
  unfolding flips_run
  flips_stop k r s v l e h =
      steps_stop k (all_columns first) (flip_at limit budget) (begun first) r s l v.so_far (needed k r (Err s) e h)

  pub flips_end : (k : ℕ) (r : Reached) → Flipping limit budget first k r → k ≡ all_columns first →
      flips_run limit budget first ≡ Ok r
  unfolding flips_run
  flips_end k r v e = ap (λ n. steps n (flip_at limit budget) (begun first)) (sym e) ∙ v.so_far

  module _ (k : ℕ) (r : Reached) (v : Flipping limit budget first k r)
      (l : k < all_columns first) (e : needs_flip_at r.tableau k ≡ true) where
    flip_late : (values : List ℚ) (to : Status) → to ≢ Basic → (q : Reached) →
        q.tableau ≡ flipped r.tableau k to values → flip_next limit budget k r ≡ Ok q →
        Flipping limit budget first (k + 1) q
    flip_late values to n q same h = record {
      so_far = steps_more k (flip_at limit budget) (begun first) r q v.so_far (needed k r (Ok q) e h);
      columns = ap all_columns same ∙ v.columns;
      seated = subst IsSeated (sym same) (seated_after r.tableau v.seated k inside to n values);
      late = subst (λ u. (j : ℕ) → k + 1 ≤ j → j < all_columns u → needs_flip_at u j ≡ true → CanFlip u j) (sym same)
          (λ j a i d. let other : j ≢ k = (λ z. let y : ⊥ = omega (arith, a, z) in y) in
          can_other r.tableau v.seated k inside to n values j other
          (v.late j (omega (arith, a)) i (sym (needs_other r.tableau v.seated k inside to n values j other) ∙ d)));
    }
      where
        inside : k < all_columns r.tableau
        inside = omega (arith, l, v.columns)

    by_spent : (c : Bool) (q : Reached) → flip_by limit k r c ≡ Ok q →
        (u : Tableau) × (flip_run limit r.tableau k ≡ Ok u) × (one_more r u ≡ q)
    by_spent true q h = let z : ◌≡◌ {A = Result Reached (RunStop ℚ)} (Err stop.Spent) (Ok q) = h in cc
    by_spent false q h =
        let o = then_ok (refused_as stop.Past (flip_run limit r.tableau k)) (λ u. Ok (one_more r u)) q h in
        let z : one_more r o.0 ≡ q = cc in
        (o.0, refused_ok stop.Past (flip_run limit r.tableau k) o.0 o.1, z)

    pub flips_go_on : (q : Reached) → flip_next limit budget k r ≡ Ok q → Flipping limit budget first (k + 1) q
    flips_go_on q h =
        let o = by_spent _ q h in
        let shape : IsFlip r.tableau k (other_bound (flip_way (status_at r.tableau k))) o.0 =
        flip_shape limit r.tableau o.0 k o.1 in
        flip_late shape.values (other_bound (flip_way (status_at r.tableau k)))
        (goes_to_bound (flip_way (status_at r.tableau k))) q
        (ap (λ (r : Reached). r.tableau) (sym o.2) ∙ sym shape.is) h
