-- What a step sees and chooses, as the code has it.
use Rattle.std.specs.Prelude.{◌≡◌, ◌≢◌, ℕ, ◌<◌, List, length, get_or, Option, Some, None, Result, Ok, Err}
use Rattle.spec_exact.specs.Fraction.{ℚ, 0ℚ}
use Rattle.spec_simplex.specs.declared.ends.RowStart.{RowStart}
use Rattle.spec_simplex.specs.declared.ends.Entering.{Entering}
use Rattle.spec_simplex.specs.declared.ends.PrimalEnd.TheVariants.{Optimal, Unbounded}
use Rattle.spec_simplex.specs.declared.ends.Choice.{Choice}
use Rattle.spec_simplex.specs.declared.ends.Choice.TheVariants.{End, Flip, Pivot}
use Rattle.spec_simplex.specs.declared.ends.RunStop.TheVariants as cause
use Rattle.spec_simplex.specs.Form.{Form}
use Rattle.spec_exact.specs.Run.{Run, ◌>>=◌, refused_as}
use Rattle.spec_exact.specs.Narrow.{number_limit}
use Rattle.spec_simplex.specs.Tableau.{Tableau, all_columns}
use Rattle.spec_simplex.specs.Step.{best_run, choice_by}
use Rattle.spec_factor.specs.Factors.{column_of, ftran_run}
use Rattle.spec_factor.specs.Revised.{Revised, seen, Selection}
use Rattle.lp_revised.specs.declared.select.Selected.{Selected}
use Rattle.lp_revised.specs.declared.select.Column.{Column}
use Rattle.lp_frac.specs.declared.stop.Stop.{Stop}
use Rattle.lp_revised.specs.declared.stop.Spent.{Spent}
use Rattle.lp_revised.specs.Answer.{StopsRevised}

-- the choice of a step by the ratio test of its entering column, which is z by places
abbrev pub choice_seen : List (RowStart ℚ) → Tableau → List ℚ → Entering → Run (Choice ℚ)
choice_seen starts t z e = best_run (Some number_limit) (seen starts t e.col z) e >>= λ best. Ok (choice_by e best)

-- the choice is a flip, a pivot or an unbounded end of column j, which is z by places; a pivot's place is one of t's
-- rows, and z is not 0 there
abbrev pub MayDo : Tableau → List ℚ → ℕ → Choice ℚ → Type 0
MayDo t z j (End Optimal) = ⊥
MayDo t z j (End (Unbounded k way)) = k ≡ j
MayDo t z j (Flip k) = k ≡ j
MayDo t z j (Pivot p k theta to) = (k ≡ j) × (p < t.rows) × (get_or z p 0ℚ ≢ 0ℚ)

-- the code's column is one of the state's, and has with it the solution by places that ftran gives
pub record IsSolved (f : Form) (s : Revised) (c : Column) : Type 0 where
  pub inside : c.number < all_columns s.bare
  pub all : length c.solved ≡ s.bare.rows
  pub solves : ftran_run (Some number_limit) s.bare.rows s.pairs (column_of f c.number) ≡ Ok c.solved

-- the choice may be made: it is the optimal end if no column enters, else one of the entering column, which is solved
abbrev pub CanDo : Form → Revised → Option Column → Choice ℚ → Type 0
CanDo f s None choice = choice ≡ End Optimal
CanDo f s (Some c) choice = IsSolved f s c × MayDo s.bare c.solved c.number choice

-- the tableau as the step sees it: with the entries of the entering column; as it is where none enters
abbrev pub tableau_of : List (RowStart ℚ) → Tableau → Option Column → Tableau
tableau_of starts t None = t
tableau_of starts t (Some c) = seen starts t c.number c.solved

-- what a step selected, as the definitions have it
abbrev pub selection_of : List (RowStart ℚ) → Tableau → Selected → Selection
selection_of starts t l =
    record { multipliers = l.multipliers; tableau = tableau_of starts t l.column; choice = l.choice }

-- the stated run selects what the code does, or is refused as it is; of a stop for lack of memory nothing is asked
abbrev pub Selects : Run Selection → List (RowStart ℚ) → Tableau → Result Selected (Stop Spent) → Type 0
Selects run starts t (Ok l) = run ≡ Ok (selection_of starts t l)
Selects run starts t (Err e) = StopsRevised (refused_as cause.Past run) e
