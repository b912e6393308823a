-- Phase one where it is wanted, else what follows it.
use Rattle.std.proofs.Common.{◌≡◌, ℕ, ◌-◌, None, Result, Ok, Bool, true, false, cond, sym, ap, ◌∙◌, arith}
use Rattle.spec_exact.specs.Fraction.{ℚ}
use Rattle.spec_exact.specs.Run.{◌>>=◌}
use Rattle.spec_simplex.specs.declared.ends.PrimalEnd.TheVariants.{Optimal}
use Rattle.spec_simplex.specs.declared.ends.RunStop.{RunStop}
use Rattle.spec_simplex.specs.Form.{Form}
use Rattle.spec_simplex.specs.Phases.{PhasesEnd, wants_phase_one, run_from}
use Rattle.spec_simplex.specs.Tableau.{Tableau}
use Rattle.lp_row_runs.specs.declared.phases.Phase.TheVariants.{One, Between}
use Rattle.lp_row_runs.specs.Cold.{start_run}
use Rattle.lp_row_runs.specs.Phases.{after_one, rest_run}
use Rattle.lp_row_runs.proofs.start.first_phase.Goals as goal

-- a run with the test b whether phase one is wanted
abbrev run_by : ℕ → Form → Tableau → Bool → Result PhasesEnd (RunStop ℚ)
run_by budget f t b =
    cond b (run_from None budget 0 t) (Ok (record { end = Optimal; tableau = t; used = 0 })) >>= after_one budget f

-- where phase one is wanted, the whole run is what is left of it in phase one
begins_first : (budget : ℕ) (f : Form) (t : Tableau) → wants_phase_one t ≡ true →
    start_run budget f t ≡ rest_run budget f One 0 t
begins_first budget f t e =
    let all : budget ≡ budget - 0 = omega arith in
    ap (run_by budget f t) e ∙ ap (λ n. run_from None n 0 t >>= after_one budget f) all

-- where it is not, the whole run is what is left of it after phase one
begins_between : (budget : ℕ) (f : Form) (t : Tableau) → wants_phase_one t ≡ false →
    start_run budget f t ≡ rest_run budget f Between 0 t
begins_between budget f t e = ap (run_by budget f t) e

pub returns-then-wants_phase_one : goal.returns-then-wants_phase_one
returns-then-wants_phase_one g c budget f t shown =
    begins_first budget f t (sym (c.wants_phase_one.ensures t shown) ∙ c.if-wants_phase_one.true)

pub returns-else-wants_phase_one : goal.returns-else-wants_phase_one
returns-else-wants_phase_one g c budget f t shown =
    begins_between budget f t (sym (c.wants_phase_one.ensures t shown) ∙ c.if-wants_phase_one.false)
