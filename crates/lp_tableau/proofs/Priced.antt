-- Reduced costs of a tableau for given costs, and the change to phase two.
--
-- `reduced_same`: the reduced cost of a column does not depend on the reduced costs that the tableau has.
-- `repriced_again`: a tableau that was repriced and gets other reduced costs is still the first one repriced.
-- `phase_two_gives`: where the code fixes the artificials and prices at the form's costs, it gets the tableau with
--   which phase two begins, or is refused as `phase_two_run` is.
-- `free_passed`: a basic column of cost 0 may be passed over in the sum of a reduced cost.
use Rattle.std.proofs.Common.{◌≡◌, ℕ, ◌+◌, List, Option, Some, Ok, Err, Result, sym, subst, ap, ◌∙◌}
use Rattle.std.specs.Prelude.{⊤}
use Rattle.spec_exact.specs.Fraction.{ℚ, 0ℚ}
use Rattle.spec_exact.specs.Laws.{IsWithin}
use Rattle.spec_exact.specs.declared.past.Past.{Past}
use Rattle.spec_exact.specs.Run.{Run, ◌>>=◌, steps, less_product}
use Rattle.spec_exact.proofs.RunsInOrder.{steps_more}
use Rattle.spec_exact.specs.Narrow.{number_limit}
use Rattle.spec_simplex.specs.Form.{Form}
use Rattle.spec_simplex.specs.Tableau.{Tableau, basic_at, entry_at}
use Rattle.spec_simplex.specs.Start.{cost_at, reduced_run, priced_run, with_reduced}
use Rattle.spec_simplex.specs.Phases.{without_artificials, phase_two_run}
use Rattle.lp_tableau.specs.Answer.{GivesRun}
use Rattle.lp_tableau.proofs.Pivots.{RepricedFrom}
use Rattle.lp_tableau.proofs.Spots.{less_no_times}

-- reduced costs do not read those that stand already
pub reduced_same : (limit : Option ℕ) (t u : Tableau) (costs : List ℚ) (k : ℕ) → RepricedFrom t u →
    reduced_run limit u costs k ≡ reduced_run limit t costs k
reduced_same limit t u costs k e = ap (λ w. reduced_run limit w costs k) e

pub repriced_again : (t u v : Tableau) (xs : List ℚ) → RepricedFrom t u → v ≡ with_reduced u xs → RepricedFrom t v
repriced_again t u v xs e h =
    let d : xs ≡ v.reduced = sym (ap (λ w. w.reduced) h) in
    h ∙ ap (λ w. with_reduced w xs) e ∙ ap (with_reduced t) d

pub phase_two_gives : (limit : Option ℕ) (f : Form) (t u x : Tableau) (costs : List ℚ) (r : Result ⊤ (Past ℚ)) →
    u ≡ without_artificials t → costs ≡ f.cost → GivesRun (priced_run limit u costs) x.reduced r → RepricedFrom u x →
    GivesRun (phase_two_run limit f t) x r
unfolding phase_two_run
phase_two_gives limit f t u x costs (Ok v) e g h k =
    let priced : priced_run limit (without_artificials t) f.cost ≡ Ok x.reduced =
    subst (λ w. priced_run limit w f.cost ≡ Ok x.reduced) e (subst (λ c. priced_run limit u c ≡ Ok x.reduced) g h) in
    ap (λ o. o >>= λ reduced. Ok (with_reduced (without_artificials t) reduced)) priced
    ∙ ap Ok (sym (k ∙ ap (λ w. with_reduced w x.reduced) e))
phase_two_gives limit f t u x costs (Err p) e g h k =
    let priced : priced_run limit (without_artificials t) f.cost ≡ Err p =
    subst (λ w. priced_run limit w f.cost ≡ Err p) e (subst (λ c. priced_run limit u c ≡ Err p) g h) in
    ap (λ o. o >>= λ reduced. Ok (with_reduced (without_artificials t) reduced)) priced

-- d less the cost of position i's basic column times its entry in column k, at the limit of 127 bits
abbrev pub less_basic : Tableau → List ℚ → ℕ → ℕ → ℚ → Run ℚ
less_basic t costs k i d = less_product (Some number_limit) (cost_at costs (basic_at t i)) (entry_at t i k) d

pub free_passed : (t : Tableau) (costs : List ℚ) (k i : ℕ) (d : ℚ) →
    steps i (less_basic t costs k) (cost_at costs k) ≡ Ok d →
    cost_at costs (basic_at t i) ≡ 0ℚ → IsWithin number_limit (entry_at t i k) → IsWithin number_limit d →
    steps (i + 1) (less_basic t costs k) (cost_at costs k) ≡ Ok d
free_passed t costs k i d h e v w =
    steps_more i (less_basic t costs k) (cost_at costs k) d d h
    (less_no_times number_limit (cost_at costs (basic_at t i)) (entry_at t i k) d e v w)
