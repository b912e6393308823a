-- The places of factors have columns of the form.
use Rattle.std.proofs.Common.{◌≡◌, ℕ, ◌+◌, ◌<◌, List, length, replicate, set, All, Option, Some, None, Ok, Bool, true}
use Rattle.std.proofs.Common.{false, cond, sym, subst, arith}
use Rattle.std.specs.Prelude.{unwrap_or}
use Rattle.std.proofs.lemmas.List.{get_or-replicate, length-replicate}
use Rattle.std.proofs.lemmas.List.Elements.{All-from_get_or, All-set, All-map}
use Rattle.spec_exact.specs.Fraction.{ℚ}
use Rattle.spec_pivot.specs.declared.status.Status.{Status}
use Rattle.spec_simplex.specs.Form.{Form}
use Rattle.spec_exact.specs.Run.{refused_as}
use Rattle.spec_simplex.specs.Eliminate.{basis_at}
use Rattle.spec_simplex.specs.Tableau.{is_basic}
use Rattle.spec_simplex.proofs.RunParts.{then_ok, steps_ok}
use Rattle.spec_factor.specs.declared.stop.NoFactors.TheVariants as stop
use Rattle.spec_factor.specs.Factors.{Factors, Chosen, column_of, ftran_run, open_place, with_pair, chosen_at}
use Rattle.spec_factor.specs.Factors.{choose_run, none_chosen, choose_all, factors_of, factor_run}

module _ (limit : Option ℕ) (f : Form) (basis : List Status) where
  abbrev Inside : Option ℕ → Type 0
  Inside o = unwrap_or o 0 < f.cols + f.rows

  chosen_inside : (k : ℕ) (s u : Chosen) (v : List ℚ) (o : Option ℕ) → k < f.cols + f.rows → All Inside s.columns →
      chosen_at s k v o ≡ Ok u → All Inside u.columns
  chosen_inside k s u v None l h e = cc
  chosen_inside k s u v (Some p) l h e =
      let w : ◌≡◌ {A = Chosen} (record { pairs = with_pair s.pairs p v; columns = set s.columns p (Some k) }) u = cc in
      subst (λ (c : Chosen). All Inside c.columns) w (All-set Inside s.columns p (Some k) l h)

  step_inside : (k : ℕ) (s u : Chosen) → k < f.cols + f.rows → All Inside s.columns →
      cond (is_basic (basis_at basis k)) (choose_run limit f k s) (Ok s) ≡ Ok u → All Inside u.columns
  step_inside k s u l h = by (is_basic (basis_at basis k))
    where
      by : (b : Bool) → cond b (choose_run limit f k s) (Ok s) ≡ Ok u → All Inside u.columns
      by true e =
          let w =
          then_ok (refused_as stop.Past (ftran_run limit f.rows s.pairs (column_of f k)))
          (λ v. chosen_at s k v (open_place s.columns v f.rows)) u e in
          chosen_inside k s u w.0 (open_place s.columns w.0 f.rows) l h w.2
      by false e = let w : s ≡ u = cc in subst (λ (c : Chosen). All Inside c.columns) w h

  abbrev nones : List (Option ℕ)
  nones = replicate f.rows None

  long : length nones ≡ f.rows
  long = length-replicate f.rows None

  none_inside : All Inside nones
  none_inside =
      All-from_get_or Inside nones None
      (λ i l. subst Inside (sym (get_or-replicate f.rows i None None (omega (arith, l, long))))
      (omega (arith, l, long)))

  -- where factors are found for a basis of a form, each of their basic columns is one of the form's columns or rows
  pub basics_inside : (s : Factors) → factor_run limit f basis ≡ Ok s → All (λ k. k < f.cols + f.rows) s.basic
  unfolding factor_run choose_all
  basics_inside s h =
      let w = then_ok (choose_all limit f basis (f.cols + f.rows)) (λ c. Ok (factors_of c)) s h in
      let all : All Inside w.0.columns =
      steps_ok (λ _ (c : Chosen). All Inside c.columns) (f.cols + f.rows) _ (none_chosen f) w.0 w.1 none_inside
      (λ k x y l p e. step_inside k x y l p e) in
      let z : ◌≡◌ {A = Factors} (factors_of w.0) s = cc in
      subst (λ (x : Factors). All (λ k. k < f.cols + f.rows) x.basic) z
      (All-map (λ k. k < f.cols + f.rows) (λ o. unwrap_or o 0) w.0.columns all)
