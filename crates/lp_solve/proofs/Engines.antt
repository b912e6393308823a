-- One engine after the other, until one has an answer.
--
-- `from_factors`: the order that begins with factors contains each engine.
-- `from_tableaus`: the order that begins with tableaus contains each engine.
-- `from_rows`: the order that begins with rows contains each engine.
use Rattle.std.proofs.Common.{◌≡◌, ◌⊎◌, inl, inr, ℕ, ◌<◌, ◌+◌, List, [], ◌∷◌, arith, length, take, get_or, Some, Ok, Result, All, Contains}
use Rattle.std.proofs.Common.{refl, sym, ◌∙◌, subst}
use Rattle.std.proofs.lemmas.List.Elements.{All-contains, All-more, All-weaker}
use Rattle.spec_exact.specs.Fraction.{ℚ}
use Rattle.spec_exact.specs.declared.past.Past.{Past}
use Rattle.spec_exact.specs.Narrow.{number_limit}
use Rattle.spec_model.specs.Model.{Model}
use Rattle.spec_check.specs.declared.solve_end.SolveEnd.TheVariants as outcome
use Rattle.spec_simplex.specs.declared.ends.FormFault.{FormFault}
use Rattle.spec_simplex.specs.Form.{Form, form_of}
use Rattle.spec_runs.specs.Cold.{ExactSolveEnd}
use Rattle.spec_factor.specs.Over.{over_factors}
use Rattle.spec_solve.specs.Order.{GivesUp, MayEndCold, GaveUp as EndsWithout}
use Rattle.lp_solve.specs.declared.strategy.Engine.{Engine}
use Rattle.lp_solve.specs.declared.strategy.Engine.TheVariants.{Factors, Tableaus, Rows}
use Rattle.lp_solve.specs.Fit.{IsFit}
use Rattle.lp_solve.specs.Strategy.{GaveUp, IsRunOf, KeepsRefusal}

-- ---- each one is tried
module _ (a b c : Engine) where
  -- the first of three engines is among them
  first : Contains (a ∷ b ∷ c ∷ []) a
  first = (0, omega arith, refl)

  -- the second of three engines is among them
  second : Contains (a ∷ b ∷ c ∷ []) b
  second = (1, omega arith, refl)

  -- the third of three engines is among them
  third : Contains (a ∷ b ∷ c ∷ []) c
  third = (2, omega arith, refl)

pub from_factors : (engine : Engine) → Contains (Factors ∷ Tableaus ∷ Rows ∷ []) engine
from_factors Factors = first Factors Tableaus Rows
from_factors Tableaus = second Factors Tableaus Rows
from_factors Rows = third Factors Tableaus Rows

pub from_tableaus : (engine : Engine) → Contains (Tableaus ∷ Factors ∷ Rows ∷ []) engine
from_tableaus Factors = second Tableaus Factors Rows
from_tableaus Tableaus = first Tableaus Factors Rows
from_tableaus Rows = third Tableaus Factors Rows

pub from_rows : (engine : Engine) → Contains (Rows ∷ Tableaus ∷ Factors ∷ []) engine
from_rows Factors = third Rows Tableaus Factors
from_rows Tableaus = second Rows Tableaus Factors
from_rows Rows = first Rows Tableaus Factors

module _ (budget : ℕ) (m : Model) (f : Form) where
  -- ---- one engine
  -- where an engine ended without an answer, what is asked of an engine that gave up holds
  pub run_gave_up : (engine : Engine) (end : ExactSolveEnd) →
      ((p : Past ℚ) × (end ≡ outcome.Past p)) ⊎ (end ≡ outcome.Spent) → IsRunOf budget m f engine end →
      GaveUp budget m f end engine
  run_gave_up engine end (inl past) run =
      subst (λ end. GaveUp budget m f end engine) (sym past.1) (subst (IsRunOf budget m f engine) past.1 run)
  run_gave_up engine end (inr spent) run =
      subst (λ end. GaveUp budget m f end engine) (sym spent) (subst (IsRunOf budget m f engine) spent run)

  -- ---- the refusal that is kept
  module _ (refused end kept : ExactSolveEnd) where
    -- where this engine and another gave up, the refusal that is kept after this one still suits the other
    kept_before : (engine : Engine) → KeepsRefusal engine refused end kept → GaveUp budget m f end engine → (other : Engine) →
        GaveUp budget m f refused other → GaveUp budget m f kept other
    kept_before engine keeps up Factors before = before
    kept_before engine keeps up Rows before = tt
    kept_before Tableaus keeps up Tableaus before = subst (λ end. GaveUp budget m f end Tableaus) (sym keeps) up
    kept_before Factors keeps up Tableaus before = subst (λ end. GaveUp budget m f end Tableaus) (sym keeps) before
    kept_before Rows keeps up Tableaus before = subst (λ end. GaveUp budget m f end Tableaus) (sym keeps) before

    -- where this engine gave up, the refusal that is kept after it suits it
    kept_here : (engine : Engine) → KeepsRefusal engine refused end kept → GaveUp budget m f end engine →
        GaveUp budget m f kept engine
    kept_here Factors keeps up = up
    kept_here Rows keeps up = tt
    kept_here Tableaus keeps up = subst (λ end. GaveUp budget m f end Tableaus) (sym keeps) up

    -- where the first i engines gave up, and engine i gave up too, the refusal that is kept then suits all i + 1
    pub one_more : (engines : List Engine) (i : ℕ) (d : Engine) → i < length engines →
        All (GaveUp budget m f refused) (take i engines) → GaveUp budget m f end (get_or engines i d) →
        KeepsRefusal (get_or engines i d) refused end kept → All (GaveUp budget m f kept) (take (i + 1) engines)
    one_more engines i d inside before up keeps =
        All-more (GaveUp budget m f kept) engines i d inside
        (All-weaker (GaveUp budget m f refused) (GaveUp budget m f kept) (kept_before (get_or engines i d) keeps up)
        (take i engines) before)
        (kept_here (get_or engines i d) keeps up)

  -- ---- all of them
  module _ (engines : List Engine) (refused : ExactSolveEnd) (all : (engine : Engine) → Contains engines engine)
      (up : All (GaveUp budget m f refused) engines) where
    -- the engine over tableaus gave up with this refusal
    tableaus_up : GaveUp budget m f refused Tableaus
    tableaus_up = All-contains (GaveUp budget m f refused) engines Tableaus up (all Tableaus)

    -- the engine over factors gave up
    factors_up : GaveUp budget m f refused Factors
    factors_up = All-contains (GaveUp budget m f refused) engines Factors up (all Factors)

    -- the form of the model is the only one that it has
    same_form : form_of (Some number_limit) m ≡ Ok f → (g : Form) → form_of (Some number_limit) m ≡ Ok g → f ≡ g
    same_form formed g h = let z : ◌≡◌ {A = Result Form (FormFault ℚ)} (Ok f) (Ok g) = sym formed ∙ h in cc

    -- where all engines gave up, the cold solve may end with the refusal that was kept
    pub none_answers : form_of (Some number_limit) m ≡ Ok f → MayEndCold (Some number_limit) budget m refused
    none_answers formed =
        EndsWithout tableaus_up.0 tableaus_up.1
        (λ g h. subst (λ f. GivesUp (over_factors (Some number_limit) budget m f)) (same_form formed g h) factors_up)

    -- an end without an answer is fit
    gives_up_fits : (o : ExactSolveEnd) → GivesUp o → IsFit m o
    gives_up_fits (outcome.Ended known c basis pivots) up = absurd up
    gives_up_fits (outcome.Past p) up = tt
    gives_up_fits outcome.Spent up = tt

    -- where all engines gave up, the refusal that was kept is fit
    pub none_fits : IsFit m refused
    none_fits = gives_up_fits refused tableaus_up.0
