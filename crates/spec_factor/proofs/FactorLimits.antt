-- The solves, factoring anew and replacing a column, at a limit beside the same without one.
--
-- `choose_agrees`: finding places for the first n columns at a limit agrees with it without one, or an operation is
--   refused.
-- `factor_agrees`: factoring a basis at a limit agrees with it without one, or an operation is refused.
use Rattle.std.proofs.Common.{◌≡◌, ℕ, ◌+◌, List, [], ◌∷◌, get_or, Option, Some, None, Ok, Err, cond, nat_eq}
use Rattle.spec_exact.specs.Fraction.{ℚ, 0ℚ}
use Rattle.spec_pivot.specs.declared.status.Status.{Status}
use Rattle.spec_simplex.specs.Form.{Form}
use Rattle.spec_simplex.specs.Tableau.{is_basic}
use Rattle.spec_simplex.proofs.Refusals.{Agrees, as_it_is, agrees_ok, agrees_err, agrees_then, agrees_if}
use Rattle.spec_simplex.proofs.Refusals.{agrees_steps, agrees_as, agrees_list, agrees_quotient, agrees_less}
use Rattle.spec_simplex.specs.Eliminate.{basis_at}
use Rattle.spec_factor.specs.declared.stop.NoFactors.{NoFactors}
use Rattle.spec_factor.specs.declared.stop.NoFactors.TheVariants as stop
use Rattle.spec_factor.specs.Factors.{Pair, pair_at, Factors, Chosen, column_of, forward_run}
use Rattle.spec_factor.specs.Factors.{ftran_run, backward_run, btran_run, open_place, chosen_at}
use Rattle.spec_factor.specs.Factors.{choose_run, none_chosen, choose_all, factor_run, replace_run}

module _ (limit : Option ℕ) (m : ℕ) where
  forward_agrees : (e : Pair) (v : List ℚ) → Agrees as_it_is (forward_run limit m e v) (forward_run None m e v)
  unfolding forward_run
  forward_agrees e v =
      agrees_then as_it_is _ _ _ _ (agrees_quotient limit _ _) (λ q.
      agrees_list m _ _ (λ i. agrees_if as_it_is (nat_eq i e.place) _ _ _ _
      (agrees_ok as_it_is q) (agrees_less limit (pair_at e i) q (get_or v i 0ℚ))))

  pub ftran_agrees : (pairs : List Pair) (v : List ℚ) →
      Agrees as_it_is (ftran_run limit m pairs v) (ftran_run None m pairs v)
  ftran_agrees [] v = agrees_ok as_it_is v
  ftran_agrees (e ∷ es) v =
      agrees_then as_it_is _ _ (λ w. ftran_run limit m es w)
      (λ w. ftran_run None m es w) (forward_agrees e v) (λ w. ftran_agrees es w)

  backward_agrees : (e : Pair) (v : List ℚ) → Agrees as_it_is (backward_run limit m e v) (backward_run None m e v)
  unfolding backward_run
  backward_agrees e v =
      agrees_then as_it_is _ _ _ _
      (agrees_steps as_it_is m _ _ (get_or v e.place 0ℚ) (λ i s. agrees_if as_it_is
      (nat_eq i e.place) _ _ _ _ (agrees_ok as_it_is s) (agrees_less limit (get_or v i 0ℚ) (pair_at e i) s)))
      (λ s. agrees_then as_it_is _ _ _ _ (agrees_quotient limit _ _) (λ q. agrees_ok as_it_is _))

  pub btran_agrees : (pairs : List Pair) (c : List ℚ) →
      Agrees as_it_is (btran_run limit m pairs c) (btran_run None m pairs c)
  btran_agrees [] c = agrees_ok as_it_is c
  btran_agrees (e ∷ es) c =
      agrees_then as_it_is _ _ (λ w. backward_run limit m e w)
      (λ w. backward_run None m e w) (btran_agrees es c) (λ w. backward_agrees e w)

  pub replace_agrees : (s : Factors) (p k : ℕ) (column : List ℚ) →
      Agrees as_it_is (replace_run limit m s p k column) (replace_run None m s p k column)
  unfolding replace_run
  replace_agrees s p k column = agrees_then as_it_is _ _ _ _ (ftran_agrees s.pairs column) (λ v. agrees_ok as_it_is _)

-- two runs agree that both end because the basis is singular
singular_agrees : {A : Type 0} → Agrees {A = A} stop.Past (Err stop.Singular) (Err stop.Singular)
singular_agrees =
    agrees_err stop.Past stop.Singular (λ p e. let z : ◌≡◌ {A = NoFactors ℚ} stop.Singular (stop.Past p) = e in cc)

-- giving a column to the place that was found agrees with itself
chosen_agrees : (s : Chosen) (k : ℕ) (v : List ℚ) (o : Option ℕ) →
    Agrees stop.Past (chosen_at s k v o) (chosen_at s k v o)
chosen_agrees s k v None = singular_agrees
chosen_agrees s k v (Some p) = agrees_ok stop.Past _

pub choose_agrees : (limit : Option ℕ) (f : Form) (basis : List Status) (n : ℕ) →
    Agrees stop.Past (choose_all limit f basis n) (choose_all None f basis n)
unfolding choose_all
choose_agrees limit f basis n =
    agrees_steps stop.Past n (λ k s. cond (is_basic (basis_at basis k)) (choose_run limit f k s) (Ok s))
    (λ k s. cond (is_basic (basis_at basis k)) (choose_run None f k s) (Ok s)) (none_chosen f)
    (λ k s. agrees_if stop.Past (is_basic (basis_at basis k)) _ _ _ _
    (agrees_then stop.Past _ _ _ _ (agrees_as stop.Past _ _ (ftran_agrees limit f.rows s.pairs (column_of f k)))
    (λ v. chosen_agrees s k v (open_place s.columns v f.rows)))
    (agrees_ok stop.Past s))

pub factor_agrees : (limit : Option ℕ) (f : Form) (basis : List Status) →
    Agrees stop.Past (factor_run limit f basis) (factor_run None f basis)
unfolding factor_run
factor_agrees limit f basis =
    agrees_then stop.Past _ _ _ _ (choose_agrees limit f basis (f.cols + f.rows)) (λ s. agrees_ok stop.Past _)
