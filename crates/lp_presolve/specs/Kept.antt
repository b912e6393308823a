-- What is kept of reductions.
use Rattle.std.specs.Prelude.{ℕ, ◌<◌, List, [], map}
use Rattle.spec_exact.specs.Fraction.{ℚ, 0ℚ}
use Rattle.spec_model.specs.Model.{Model, width, height, column, cost}
use Rattle.spec_presolve.specs.declared.reduction.Reduction.TheVariants.{Empty, Single, Fixed}
use Rattle.spec_presolve.specs.Choose.{ExactReduction}
use Rattle.lp_presolve.specs.declared.step.Step.{Step}

-- if the reduction gives a column new bounds, the column is one of the model
abbrev pub HasColumn : ExactReduction → Model → Type 0
HasColumn (Empty i) m = Unit {0}
HasColumn (Single i j a lower upper) m = j < width m
HasColumn (Fixed j v) m = Unit {0}

-- the cost in m of the column to which a reduction gives new bounds, and 0 for a reduction that gives none
abbrev pub column_cost : ExactReduction → Model → ℚ
column_cost (Empty i) m = 0ℚ
column_cost (Single i j a lower upper) m = cost m j
column_cost (Fixed j v) m = 0ℚ

-- the entries in m of the column to which a reduction gives new bounds, and none for a reduction that gives none
abbrev pub column_entries : ExactReduction → Model → List (ℕ × ℚ)
column_entries (Empty i) m = []
column_entries (Single i j a lower upper) m = (column m j).entries
column_entries (Fixed j v) m = []

-- What the code keeps of a reduction r that leads to the model m, to carry a certificate back over it: r, how many rows
-- m has, its sense, and the cost and the entries in m of the column to which r gives new bounds.
abbrev pub kept : ExactReduction → Model → Step
kept r m =
    record {
      reduction = r;
      rows = height m;
      sense = m.sense;
      cost = column_cost r m;
      entries = column_entries r m;
    }

-- what the code keeps of reductions, each by the model that it leads to, to carry a certificate back over them
abbrev pub all_kept : List (ExactReduction × Model) → List Step
all_kept steps = map (λ s. kept s.0 s.1) steps
