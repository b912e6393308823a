-- A model whose form takes a step in both phases. There is one column x, at least 0 and at most 2, and one row, by which
-- x is at least 1; and -x is to be least. In phase one x enters, and the row's artificial leaves. In phase two the row's
-- logical enters, and x leaves at 2.
use Rattle.std.proofs.Common.{◌≡◌, ⊎_elim, ℕ, [], ◌∷◌, Some, None, Result, Ok, Err}
use Rattle.std.proofs.Common.{Bool, true, false, refl, sym, ap, ◌∙◌, pos, negsuc}
use Rattle.spec_exact.specs.Fraction.{ℚ, 0ℚ, 1ℚ, whole, over, ◌+ℚ◌, ◌*ℚ◌, neg_ℚ, inverse, turned, eq_ℚ, lt_ℚ}
use Rattle.spec_exact.specs.Gcd.{gcd}
use Rattle.spec_exact.specs.Limit.{add, sub, mul, div, compare, cross_cmp}
use Rattle.spec_exact.specs.Run.{Run}
use Rattle.spec_model.specs.declared.parts.Sense.TheVariants.{Min}
use Rattle.spec_model.specs.declared.parts.Kind.TheVariants.{G}
use Rattle.spec_model.specs.Model.{Model}
use Rattle.spec_simplex.specs.declared.ends.Choice.{Choice}
use Rattle.spec_simplex.specs.declared.ends.Choice.TheVariants.{End, Flip, Pivot}
use Rattle.spec_simplex.specs.declared.ends.PrimalEnd.TheVariants.{Optimal}
use Rattle.spec_simplex.specs.Form.{Form, form_of}
use Rattle.spec_simplex.specs.Tableau.{Tableau}
use Rattle.spec_simplex.specs.Start.{start_of, priced_run}
use Rattle.spec_simplex.specs.Step.{choice_run, pivot_run, moved_run, shifted_run}
use Rattle.spec_simplex.specs.Step.{scaled_run, cleared_run, turned_run, repriced_run}
use Rattle.spec_simplex.specs.Phases.{PrimalEnded, phase_one, phase_two_run, is_stuck, run_from}
use Rattle.spec_runs.specs.Steps.{IsNext, BeginsPhaseTwo}
use Rattle.spec_runs.proofs.PhaseSteps.{end_or_a_next}

abbrev model : Model
model =
    record {
      name = [];
      sense = Min;
      objective = [];
      offset = 0ℚ;
      rows = record { name = []; kind = G; rhs = 1ℚ; range = None } ∷ [];
      columns =
          record {
            name = [];
            cost = whole (negsuc 0);
            lower = Some 0ℚ;
            upper = Some (whole (pos 2));
            entries = (0, 1ℚ) ∷ [];
          } ∷ [];
    }

-- ---- what runs give
abbrev given_by : {A E : Type 0} → Result A E → A → A
given_by (Ok a) other = a
given_by (Err e) other = other

abbrev no_form : Form
no_form = record { rows = 0; cols = 0; entries = []; lower = []; upper = []; cost = [] }

abbrev no_tableau : Tableau
no_tableau =
    record {
      rows = 0;
      cols = 0;
      entries = [];
      basic = [];
      value = [];
      reduced = [];
      status = [];
      lower = [];
      upper = [];
    }

-- ---- the form, the tableaus with which its phases begin, and the end of phase one

-- the form of the example's model, in which x is from 0 to 2, one row asks for x of at least 1, and -x is to be least
form : Form
form = given_by (form_of None model) no_form

-- the tableau with which phase one of the example's form begins
start : Tableau
start = given_by (start_of None form) no_tableau

-- the end of phase one of the example's form, within a budget of one step
one : PrimalEnded
one = given_by (phase_one None 1 start) (record { end = Optimal; tableau = no_tableau; used = 0 })

-- the tableau with which phase two of the example's form begins
second : Tableau
second = given_by (phase_two_run None form one.tableau) no_tableau

-- ---- what can be computed of them
abbrev is_end : Run (Choice ℚ) → Bool
is_end (Ok (End end)) = true
is_end (Ok (Flip j)) = false
is_end (Ok (Pivot p j theta to)) = false
is_end (Err p) = false

record AreComputed : Type 0 where
  formed : form_of None model ≡ Ok form
  started : start_of None form ≡ Ok start
  first_step : is_end (choice_run None start) ≡ false
  ended : phase_one None 1 start ≡ Ok one
  free : is_stuck one.tableau ≡ false
  begun : phase_two_run None form one.tableau ≡ Ok second
  second_step : is_end (choice_run None second) ≡ false

-- the example's form, both starts and the end of phase one come out as they are written here, and at each start the
-- choice is a step, not an end
computed : AreComputed
unfolding form start one second whole over gcd ◌+ℚ◌ ◌*ℚ◌ neg_ℚ inverse turned eq_ℚ lt_ℚ add sub mul div compare cross_cmp
    form_of start_of priced_run choice_run pivot_run moved_run shifted_run turned_run scaled_run cleared_run repriced_run
    run_from phase_two_run
computed =
    record {
      formed = refl;
      started = refl;
      first_step = refl;
      ended = refl;
      free = refl;
      begun = refl;
      second_step = refl;
    }

-- ---- so there are steps

-- where the choice at a tableau is no end, the tableau has a next one
next_of : (t : Tableau) → is_end (choice_run None t) ≡ false → (u : Tableau) × IsNext None t u
next_of t h =
    ⊎_elim
    (λ e. let z : true ≡ false = sym (ap is_end e.1) ∙ h in let y : ⊥ = cc in absurd y)
    (λ u. u)
    (end_or_a_next t)

-- there is a model whose form takes a step in phase one and one in phase two
pub takes_steps : (budget : ℕ) × (m : Model) × (f : Form) × (form_of None m ≡ Ok f)
    × ((t u : Tableau) × (start_of None f ≡ Ok t) × IsNext None t u)
    × ((t u : Tableau) × BeginsPhaseTwo None budget f t × IsNext None t u)
takes_steps =
    let a = next_of start computed.first_step in
    let b = next_of second computed.second_step in
    let two : BeginsPhaseTwo None 1 form second =
    record {
      start = start;
      one = one;
      started = computed.started;
      ended = computed.ended;
      free = computed.free;
      begun = computed.begun;
    } in
    (1, model, form, computed.formed, (start, a.0, computed.started, a.1), (second, b.0, two, b.1))
