-- What a warm start ends with shows what it says of the model.
use Rattle.std.proofs.Common.{◌≡◌, ℕ, ◌+◌, ◌-◌, ◌<◌, ◌≤◌, List, Option, Some, None}
use Rattle.std.proofs.Common.{Result, Ok, Err, true, sym, ap, ◌∙◌, subst, subst₂, arith}
use Rattle.spec_exact.specs.Fraction.{ℚ, 0ℚ, 1ℚ, ◌≤ℚ◌}
use Rattle.spec_exact.proofs.Field.{*ℚ_one}
use Rattle.spec_exact.proofs.Order.{≤ℚ_refl}
use Rattle.spec_model.specs.Model.{Model, width, height}
use Rattle.spec_check.specs.declared.certificate.Certificate.TheVariants as certificate
use Rattle.spec_pivot.specs.declared.status.Status.{Status}
use Rattle.spec_pivot.specs.declared.status.Status.TheVariants.{Basic}
use Rattle.spec_pivot.specs.declared.status.Way.{Way}
use Rattle.spec_pivot.specs.Simplex.{Bounds, IsInside, IsWithin}
use Rattle.spec_pivot.specs.Simplex as kind
use Rattle.spec_simplex.specs.declared.ends.PrimalEnd.{PrimalEnd}
use Rattle.spec_simplex.specs.declared.ends.PrimalEnd.TheVariants as primal
use Rattle.spec_simplex.specs.Form.{formed}
use Rattle.spec_exact.specs.Run.{refused_as, made}
use Rattle.spec_simplex.specs.Start.{cost_at}
use Rattle.spec_simplex.specs.Step.{directed}
use Rattle.spec_simplex.specs.Tableau.{Tableau, form_columns, all_columns, entry_at}
use Rattle.spec_simplex.specs.Tableau.{value_at, status_at, lower_at, upper_at}
use Rattle.spec_simplex.specs.Phases.{PrimalEnded, run_from}
use Rattle.spec_exact.proofs.RunsInOrder.{length-made}
use Rattle.spec_simplex.specs.Tables.{table_of, bounds_of, IsWithinBounds}
use Rattle.spec_runs.specs.Cold as cold
use Rattle.spec_simplex.proofs.RunParts.{then_ok, refused_ok, get_or-made}
use Rattle.spec_simplex.proofs.ListIndices.{by_lt}
use Rattle.spec_simplex.proofs.Flips.{directed_is}
use Rattle.spec_simplex.proofs.FormOfModel.{Limited, cost_length, formed_proper}
use Rattle.spec_simplex.proofs.FormOfModel.{HasBounds}
use Rattle.spec_runs.proofs.Shown.{Shows, primal_shows}
use Rattle.spec_simplex.proofs.Walks.{run_ends}
use Rattle.spec_simplex.proofs.Phases.{some_label}
use Rattle.spec_pivot.specs.Dual.{IsOrdered, row_of}
use Rattle.spec_pivot.proofs.Optimal.{none_eligible, within_where_basic}
use Rattle.spec_pivot.proofs.Refuted.{stops, row_refutes}
use Rattle.spec_simplex.specs.declared.ends.DualEnd.{DualEnd}
use Rattle.spec_simplex.specs.declared.ends.DualEnd.TheVariants.{Optimal, Infeasible}
use Rattle.spec_simplex.specs.declared.ends.DualChoice.TheVariants.{End}
use Rattle.spec_simplex.specs.declared.ends.Fit.{Fit}
use Rattle.spec_simplex.specs.declared.ends.Fit.TheVariants as fit
use Rattle.spec_simplex.specs.declared.ends.WarmStop.{WarmStop}
use Rattle.spec_simplex.specs.declared.ends.WarmStop.TheVariants as fall
use Rattle.spec_runs.specs.Based.{equations, IsBased, IsReady, BeginsFrom, IsStuck, IsDualMeant}
use Rattle.spec_simplex.specs.Dual.{DualEnded, flips_run, dual_from, dual_run}
use Rattle.spec_simplex.specs.Eliminate.{IsBasisOf, start_from}
use Rattle.spec_simplex.specs.Fit.{meets_need_at, fit_run}
use Rattle.spec_runs.specs.Warm.{stopped_as, start_stop, run_stop, WarmEnd, ByPrimal, ByDual, run_by, warm_run}
use Rattle.spec_runs.specs.Warm.{row_multipliers, dual_certificate, warm_certificate, dual_basis, warm_basis}
use Rattle.spec_runs.proofs.EndBases.{basis_fits}
use Rattle.spec_runs.proofs.DualWalk.{IsDualEnd, dual_ends}
use Rattle.spec_runs.proofs.EndRefuted.{refuted_checks}
use Rattle.spec_runs.proofs.Fits.{FitIs, fit_is}
use Rattle.spec_runs.proofs.FlippedStatuses.{flips_ready}
use Rattle.spec_runs.proofs.BasisTableau.{start_begins_from}

-- what holds of the primal fit, the dual fit and of no fit holds of each fit
by_fit : (P : Fit → Type 0) → P fit.Primal → P fit.Dual → P fit.Unfit → (kind : Fit) → P kind
by_fit P a c d fit.Primal = a
by_fit P a c d fit.Dual = c
by_fit P a c d fit.Unfit = d

-- a result that a run gives when its stops are told as another kind is its own result
stopped_ok : {A D E : Type 0} (kind : D → E) (o : Result A D) (a : A) → stopped_as kind o ≡ Ok a → o ≡ Ok a
stopped_ok kind (Ok b) a h = cc
stopped_ok kind (Err e) a h = cc

module _ (limit : Option ℕ) (m : Model) (ls : List (Option ℚ × Option ℚ))
    (h : Limited m ls) (t : Tableau) (s : BeginsFrom (formed m ls) t) where
  abbrev w : ℕ
  w = width m

  abbrev r : ℕ
  r = height m

  abbrev b : Bounds
  b = bounds_of t

  abbrev F : ℕ → ℕ → ℚ
  F = equations (formed m ls)

  abbrev costs : ℕ → ℚ
  costs = cost_at (formed m ls).cost

  bounded : HasBounds (formed m ls) (bounds_of t)
  bounded =
      record {
        lower = s.lower;
        upper = s.upper;
        entering = λ k l. s.based.tableau.bounds.entering k (omega
            (arith, l, s.based.tableau.rows, s.based.tableau.cols));
      }

  lower_zero : (k : ℕ) → w + r ≤ k → k < w + r + r → lower_at t k ≡ Some 0ℚ
  lower_zero k l q =
      s.based.tableau.bounds.zero k (omega (arith, l, s.based.tableau.rows, s.based.tableau.cols))
      (omega (arith, q, s.based.tableau.rows, s.based.tableau.cols))

  fixed : (i : ℕ) → i < r → (lower_at t (w + r + i) ≡ Some 0ℚ) × (upper_at t (w + r + i) ≡ Some 0ℚ)
  fixed i l = (
    lower_zero (w + r + i) (omega arith) (omega (arith, l)),
    s.based.top (w + r + i) (omega arith) (omega (arith, l)),
  )

  ordered : IsOrdered (w + r + r) (bounds_of t)
  ordered k l u k_in p q =
      by_lt k (w + r)
      (λ z. (formed_proper m ls h).ordered k l u z (sym (s.lower k z) ∙ p) (sym (s.upper k z) ∙ q))
      (λ z. let x : Some 0ℚ ≡ Some l = sym (lower_zero k z k_in) ∙ p in
      let y : Some 0ℚ ≡ Some u = sym (s.based.top k z k_in) ∙ q in
      let x' : 0ℚ ≡ l = cc in let y' : 0ℚ ≡ u = cc in subst₂ ◌≤ℚ◌ x' y' (≤ℚ_refl 0ℚ))

  -- where each basic value is within its bounds, each value is
  all_within : (u : Tableau) → IsBased r w F costs (bounds_of t) u →
      ((k : ℕ) → k < w + r + r → status_at u k ≡ Basic → IsInside (lower_at t k) (upper_at t k) (value_at u k)) →
      IsWithinBounds r w (bounds_of t) u
  all_within u d inside =
      within_where_basic r (w + r + r) F costs (bounds_of t) (table_of u) d.tableau.tableau ordered inside

  -- ---- the dual method
  stuck_shows : (u : Tableau) (p : ℕ) (way : Way) → IsReady r w F costs (bounds_of t) u →
      IsStuck r w (bounds_of t) u p way → Shows m (certificate.Infeasible (row_multipliers u p way))
  stuck_shows u p way d k = record {
    for = length-made u.rows (λ i. directed way (entry_at u p (u.cols + i))) ∙ d.based.tableau.rows;
    checks =
        refuted_checks m ls h (bounds_of t) bounded fixed (row_of (table_of u) way p)
        (stops r (w + r + r) F costs (bounds_of t) (table_of u) d.based.tableau.tableau
        way p k.bound k.leaves k.none)
        (row_refutes r (w + r + r) F costs (bounds_of t)
        (table_of u) d.based.tableau.tableau way p k.bound k.leaves k.none)
        (row_multipliers u p way)
        (λ i l. get_or-made u.rows (λ i. directed way (entry_at u p (u.cols + i))) 0ℚ i
        (omega (arith, l, d.based.tableau.rows))
        ∙ ap (λ n. directed way (entry_at u p (n + i))) d.based.tableau.cols
        ∙ directed_is way (entry_at u p (w + i)));
  }

  -- the certificate of a meant end of the dual method, at a ready tableau, shows its answer of the model
  dual_shows : (u : Tableau) (end : DualEnd) → IsReady r w F costs (bounds_of t) u →
      IsDualMeant r w (bounds_of t) u (End end) → Shows m (dual_certificate u end)
  dual_shows u Optimal d inside =
      primal_shows m ls h (λ _. 1ℚ) (bounds_of t) bounded fixed limit
      (record { end = primal.Optimal; tableau = u; used = 0 }) d.based.tableau (all_within u d.based inside)
      (none_eligible (w + r + r) (bounds_of t) (table_of u) d.feasible)
  dual_shows u (Infeasible p way) d k = stuck_shows u p way d k

  -- ---- the ends
  abbrev end_tableau : WarmEnd → Tableau
  end_tableau (ByPrimal e) = e.tableau
  end_tableau (ByDual e) = e.tableau

  -- what is known of an end
  pub record IsEndOf (e : WarmEnd) : Type 0 where
    pub shows : Shows m (warm_certificate e)
    pub based : IsBased (height m) (width m) (equations (formed m ls))
        (cost_at (formed m ls).cost) (bounds_of t) (end_tableau e)

  -- where each column meets its need, an end of the dual run is an end of the warm start
  by_dual : (budget : ℕ) (e : DualEnded) → ((k : ℕ) → k < all_columns t → meets_need_at t k ≡ true) →
      dual_run limit budget t ≡ Ok e → IsEndOf (ByDual e)
  unfolding dual_run
  by_dual budget e met ok =
      let o = then_ok (flips_run limit budget t) (λ r. dual_from limit (budget - r.used) r.used r.tableau) e ok in
      let d =
      flips_ready limit budget r w F costs (bounds_of t) t o.0 s.based
      (λ k l. met k (omega (arith, l, s.based.tableau.rows, s.based.tableau.cols))) o.1 in
      let g : IsDualEnd limit r w F costs (bounds_of t) e =
      dual_ends limit r w F costs (bounds_of t) (budget - o.0.used) o.0.used o.0.tableau e d o.2 in
      record { shows = dual_shows e.tableau e.end g.after g.end; based = g.after.based }

  -- where each basic value is within its bounds, an end of the primal run is an end of the warm start
  by_primal : (budget : ℕ) (e : PrimalEnded) →
      ((k : ℕ) → k < all_columns t → status_at t k ≡ Basic → IsInside (lower_at t k) (upper_at t k) (value_at t k)) →
      run_from limit budget 0 t ≡ Ok e → IsEndOf (ByPrimal e)
  by_primal budget e inside ok =
      let d =
      run_ends limit r w F costs (bounds_of t) some_label budget 0 t e
      s.based.tableau (all_within t s.based (λ k l. inside k (omega
      (arith, l, s.based.tableau.rows, s.based.tableau.cols)))) ok in
      record {
        shows = primal_shows m ls h (λ _. 1ℚ) (bounds_of t) bounded fixed limit e d.after d.within d.end;
        based = record { tableau = d.after; top = s.based.top };
      }

  primal_end : (budget : ℕ) (o : PrimalEnded) (e : WarmEnd) → ByPrimal o ≡ e → FitIs t fit.Primal →
      run_from limit budget 0 t ≡ Ok o → IsEndOf e
  primal_end budget o e z inside ok = subst IsEndOf z (by_primal budget o inside ok)

  dual_end : (budget : ℕ) (o : DualEnded) (e : WarmEnd) → ByDual o ≡ e → FitIs t fit.Dual →
      dual_run limit budget t ≡ Ok o → IsEndOf e
  dual_end budget o e z met ok = subst IsEndOf z (by_dual budget o met ok)

  ends_primal : (budget : ℕ) (e : WarmEnd) → FitIs t fit.Primal → run_by limit budget t fit.Primal ≡ Ok e → IsEndOf e
  ends_primal budget e inside ok =
      let o = then_ok (stopped_as run_stop (run_from limit budget 0 t)) (λ e. Ok (ByPrimal e)) e ok in
      primal_end budget o.0 e (let z : ByPrimal o.0 ≡ e = cc in z) inside
      (stopped_ok run_stop (run_from limit budget 0 t) o.0 o.1)

  ends_dual : (budget : ℕ) (e : WarmEnd) → FitIs t fit.Dual → run_by limit budget t fit.Dual ≡ Ok e → IsEndOf e
  ends_dual budget e met ok =
      let o = then_ok (stopped_as run_stop (dual_run limit budget t)) (λ e. Ok (ByDual e)) e ok in
      dual_end budget o.0 e (let z : ByDual o.0 ≡ e = cc in z) met
      (stopped_ok run_stop (dual_run limit budget t) o.0 o.1)

  ends_unfit : (budget : ℕ) (e : WarmEnd) → run_by limit budget t fit.Unfit ≡ Ok e → IsEndOf e
  ends_unfit budget e ok = let z : ◌≡◌ {A = Result WarmEnd (WarmStop ℚ)} (Err fall.Unfit) (Ok e) = ok in cc

  -- an end of the run by the fit of the start is an end of the warm start
  fit_ends : (budget : ℕ) (kind : Fit) (e : WarmEnd) → FitIs t kind → run_by limit budget t kind ≡ Ok e → IsEndOf e
  fit_ends budget kind e =
      by_fit (λ kind. FitIs t kind → run_by limit budget t kind ≡ Ok e → IsEndOf e)
      (ends_primal budget e) (ends_dual budget e) (λ _. ends_unfit budget e) kind

  -- ---- the basis of an end
  fits_at : (u : Tableau) → IsBased r w F costs (bounds_of t) u → (left : List Status) →
      Some (made (form_columns u) (cold.basis_status u)) ≡ Some left → IsBasisOf (formed m ls) left
  fits_at u d left e =
      let z : made (form_columns u) (cold.basis_status u) ≡ left = cc in
      subst (IsBasisOf (formed m ls)) z
      (basis_fits (formed m ls) (λ _. 1ℚ) (λ _. *ℚ_one 1ℚ) costs
      (bounds_of t) bounded u d.tableau.rows d.tableau.cols d.tableau.tableau)

  -- the basis that an end of a warm start leaves is a basis of the model's form
  pub basis_left : (e : WarmEnd) → IsEndOf e → (left : List Status) → warm_basis e ≡ Some left →
      IsBasisOf (formed m ls) left
  basis_left (ByPrimal e) d left = by e.end
    where
      by : (end : PrimalEnd) → cold.basis_at e.tableau end ≡ Some left → IsBasisOf (formed m ls) left
      by primal.Optimal q = fits_at e.tableau d.based left q
      by (primal.Unbounded j w) q = let z : None ≡ Some left = q in cc
  basis_left (ByDual e) d left = by e.end
    where
      by : (end : DualEnd) → dual_basis e.tableau end ≡ Some left → IsBasisOf (formed m ls) left
      by Optimal q = fits_at e.tableau d.based left q
      by (Infeasible p way) q = let z : None ≡ Some left = q in cc

module _ (limit : Option ℕ) (m : Model) (ls : List (Option ℚ × Option ℚ)) (h : Limited m ls)
    (budget : ℕ) (basis : List Status) (e : WarmEnd) (fits : IsBasisOf (formed m ls) basis)
    (ok : warm_run limit budget (formed m ls) basis ≡ Ok e) where
  -- the tableau that the run began with, and its end
  record Went : Type 0 where
    opening : Tableau
    begins : BeginsFrom (formed m ls) opening
    ends : IsEndOf limit m ls h opening begins e

  went : Went
  unfolding warm_run
  went =
      let a = then_ok (stopped_as start_stop (start_from limit (formed m ls) basis)) _ e ok in
      let c = then_ok (refused_as fall.Past (fit_run limit a.0)) (λ fit. run_by limit budget a.0 fit) e a.2 in
      let s : BeginsFrom (formed m ls) a.0 =
      start_begins_from limit (formed m ls) basis a.0 (formed_proper m ls h) fits
      (omega (arith, cost_length m ls h)) (stopped_ok start_stop (start_from limit (formed m ls) basis) a.0 a.1) in
      record {
        opening = a.0;
        begins = s;
        ends =
            fit_ends limit m ls h a.0 s budget c.0 e
            (fit_is limit a.0 c.0 (refused_ok fall.Past (fit_run limit a.0) c.0 c.1)) c.2;
      }

  pub warm_shows : Shows m (warm_certificate e)
  warm_shows = went.ends.shows

  -- the basis that a warm start from a basis of the form leaves is a basis of the form
  pub warm_left : (left : List Status) → warm_basis e ≡ Some left → IsBasisOf (formed m ls) left
  warm_left = basis_left limit m ls h went.opening went.begins e went.ends
