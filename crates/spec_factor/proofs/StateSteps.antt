-- What holds of a state by its parts holds of any state that goes with a tableau.
use Rattle.std.proofs.Common.{◌≡◌, ℕ, ◌+◌, ◌≤◌, List, length, Option, None, Ok, Bool}
use Rattle.std.proofs.Common.{true, false, cond, nat_eq, refl, sym, ap, ◌∙◌, subst}
use Rattle.spec_exact.specs.Fraction.{ℚ}
use Rattle.spec_pivot.specs.declared.status.Status.{Status}
use Rattle.spec_pivot.specs.Simplex.{Bounds}
use Rattle.spec_simplex.specs.declared.ends.RowStart.{RowStart}
use Rattle.spec_simplex.specs.declared.ends.Choice.{Choice}
use Rattle.spec_simplex.specs.declared.ends.Choice.TheVariants.{End, Flip, Pivot}
use Rattle.spec_simplex.specs.Form.{Form}
use Rattle.spec_simplex.specs.Start.{cost_at}
use Rattle.spec_simplex.specs.Step.{choice_run}
use Rattle.spec_simplex.specs.Tableau.{Tableau}
use Rattle.spec_simplex.specs.Phases.{done_run}
use Rattle.spec_simplex.specs.Tables.{IsTableauOf, IsWithinBounds}
use Rattle.spec_simplex.specs.Begins.{form_rows, signs_of}
use Rattle.spec_simplex.proofs.LeastIndexSteps.{choice_is_meant}
use Rattle.spec_factor.specs.Revised.{Revised, Selection, selection_run, flip_over_run}
use Rattle.spec_factor.specs.Revised.{replacements, refactor_run, refreshed_run, exchange_run}
use Rattle.spec_factor.specs.Same.{SameChoice, bare_with, GoesWith}
use Rattle.spec_factor.proofs.SameChoices.{same_choice}
use Rattle.spec_factor.proofs.Selection.{W, W_is, SelectionRuns, selection_ok, SeesFor}
use Rattle.spec_factor.proofs.OverSteps.{flip_goes, pivot_goes}
use Rattle.spec_factor.proofs.Refactor.{refactored_goes}

-- without a limit a state that goes with a tableau may have its factors taken anew, where that is due, and still goes
-- with the tableau
pub goes_on : (f : Form) (t : Tableau) (s : Revised) → t.rows ≡ f.rows → t.cols ≡ f.cols → GoesWith f t s →
    (v : Revised) × (refreshed_run None f s ≡ Ok v) × GoesWith f t v
goes_on f t s rows cols g = by (nat_eq s.replaced replacements)
  where
    by : (c : Bool) → (v : Revised) × (cond c (refactor_run None f s.bare) (Ok s) ≡ Ok v) × GoesWith f t v
    by true = refactored_goes f t s rows cols g
    by false = (s, refl, g)

module _ (f : Form) (starts : List (RowStart ℚ)) (costs : List ℚ) (b : Bounds)
    (t : Tableau) (st : IsTableauOf f.rows f.cols (form_rows f (signs_of starts)) (cost_at costs) b t)
    (few : length costs ≤ f.cols + f.rows + f.rows)
    (s : Revised) (g : GoesWith f t s) where
  abbrev w : Tableau
  w = W f starts costs b t st few g.basic g.pairs g.places

  selected : (limit : Option ℕ) (selection : Selection) → selection_run limit f starts costs s ≡ Ok selection →
      SelectionRuns f starts costs b t st few g.basic g.pairs g.places limit selection
  selected limit selection h =
      selection_ok f starts costs b t st few g.basic g.pairs g.places limit g.replaced selection
      (subst (λ s. selection_run limit f starts costs s ≡ Ok selection) g.same h)

  chosen : (limit other : Option ℕ) (c : Choice ℚ) (selection : Selection) → choice_run other t ≡ Ok c →
      selection_run limit f starts costs s ≡ Ok selection → SameChoice t w c selection.choice
  chosen limit other c selection h k =
      same_choice f.rows f.cols (form_rows f (signs_of starts)) (cost_at costs) b t w st
      (W_is f starts costs b t st few g.basic g.pairs g.places)
      (λ k _. refl) other limit c selection.choice h ((selected limit selection k).choice)

  -- positions are read from the state
  read_as : (c d : Choice ℚ) → SameChoice t w c d → SameChoice t (bare_with t g.basic) c d
  read_as (End end) d h = h
  read_as (Flip j) d h = h
  read_as (Pivot p j theta to) d h = h

  pub state_choice : (limit other : Option ℕ) (c : Choice ℚ) (selection : Selection) → choice_run other t ≡ Ok c →
      selection_run limit f starts costs s ≡ Ok selection → SameChoice t s.bare c selection.choice
  state_choice limit other c selection h k =
      subst (λ (s : Revised). SameChoice t s.bare c selection.choice) (sym g.same)
      (read_as c selection.choice (chosen limit other c selection h k))

  after : IsWithinBounds f.rows f.cols b t → (c : Choice ℚ) (u : Tableau) → choice_run None t ≡ Ok c →
      done_run None t c ≡ Ok u →
      IsTableauOf f.rows f.cols (form_rows f (signs_of starts)) (cost_at costs) b u
  after inside (End end) u c_ok h =
      let z : t ≡ u = cc in subst (IsTableauOf f.rows f.cols (form_rows f (signs_of starts)) (cost_at costs) b) z st
  after inside (Flip j) u c_ok h =
      (choice_is_meant None f.rows f.cols (form_rows f (signs_of starts)) (cost_at costs) b t
      (Flip j) st inside c_ok u h).after
  after inside (Pivot p j theta to) u c_ok h =
      (choice_is_meant None f.rows f.cols (form_rows f (signs_of starts))
      (cost_at costs) b t (Pivot p j theta to) st inside c_ok u h).after

  sees : (selection : Selection) (d : Choice ℚ) → selection_run None f starts costs s ≡ Ok selection →
      selection.choice ≡ d → SeesFor f starts costs b t st few g.basic g.pairs g.places None d selection.tableau
  sees selection d k e =
      subst (λ d. SeesFor f starts costs b t st few g.basic g.pairs g.places None d selection.tableau) e
      ((selected None selection k).sees)

  pub state_flip : IsWithinBounds f.rows f.cols b t → (u : Tableau) (c : Choice ℚ) (selection : Selection) (j : ℕ) →
      choice_run None t ≡ Ok c →
      selection_run None f starts costs s ≡ Ok selection → selection.choice ≡ Flip j → done_run None t c ≡ Ok u
      → (v : Revised) × (flip_over_run None s selection.tableau j ≡ Ok v) × GoesWith f u v
  state_flip inside u c selection j h k e done =
      subst (λ s. (v : Revised) × (flip_over_run None s selection.tableau j ≡ Ok v) × GoesWith f u v) (sym g.same)
      (flip_goes f starts costs b t st inside few g.basic g.pairs g.places g.replaced j selection.tableau
      (sees selection (Flip j) k e) ((selected None selection k).choice ∙ ap Ok e) c u
      (subst (SameChoice t w c) e (chosen None None c selection h k)) h done (after inside c u h done))

  pub state_pivot : IsWithinBounds f.rows f.cols b t →
      (u : Tableau) (c : Choice ℚ) (selection : Selection) (p j : ℕ) (theta : ℚ) (to : Status) →
      choice_run None t ≡ Ok c → selection_run None f starts costs s ≡ Ok selection →
      selection.choice ≡ Pivot p j theta to
      → done_run None t c ≡ Ok u →
      (v : Revised) × (exchange_run None f s selection.tableau p j theta to ≡ Ok v) × GoesWith f u v
  state_pivot inside u c selection p j theta to h k e done =
      subst (λ s. (v : Revised) × (exchange_run None f s selection.tableau p j theta to ≡ Ok v) × GoesWith f u v)
      (sym g.same)
      (pivot_goes f starts costs b t st inside few g.basic g.pairs g.places g.replaced p j theta to selection.tableau
      (sees selection (Pivot p j theta to) k e) ((selected None selection k).choice ∙ ap Ok e) c u
      (subst (SameChoice t w c) e (chosen None None c selection h k)) h done (after inside c u h done))
