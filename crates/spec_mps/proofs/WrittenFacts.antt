-- What is known before each section after COLUMNS of a written text, and at its end.
use Rattle.std.proofs.Common.{◌≡◌, Bool, true, false, Option, Some, None, List, [], map, refl}
use Rattle.spec_exact.specs.Fraction.{0ℚ}
use Rattle.spec_model.specs.declared.parts.Sense.{Sense}
use Rattle.spec_model.specs.Model.{Model, Name, ExactRow, ExactColumn}
use Rattle.spec_mps.specs.declared.section.Section.TheVariants as section
use Rattle.spec_mps.specs.Reader.{State}
use Rattle.spec_mps.specs.Steps.{sense_or_min}
use Rattle.spec_mps.proofs.WrittenSteps.{bare_row, bare_column}

-- a row without its range
abbrev pub rangeless : ExactRow → ExactRow
rangeless r = record r { range = None }

-- these are the name, the sense and the objective of the model; COLUMNS has begun, and no column is open
pub record IsStart (n : Name) (sense_read : Option Sense) (o : Option Name)
    (begun : Bool) (column : Option ExactColumn) (m : Model) : Type 0 where
  pub name : n ≡ m.name
  pub sense : sense_or_min sense_read ≡ m.sense
  pub objective : o ≡ Some m.objective
  pub may_follow : begun ≡ true
  pub none_open : column ≡ None

-- the state has what no later section changes of the model: the name, the sense, the objective, and that COLUMNS has
-- begun
abbrev pub HasStart : State → Model → Type 0
HasStart s m = IsStart s.name s.sense s.objective s.seen.columns s.column m

-- what no later section changes is known with no column open as a section begins
pub start_closed : (s : State) (m : Model) → HasStart s m →
    IsStart s.name s.sense s.objective s.seen.columns None m
start_closed s m k =
    record {
      name = k.name;
      sense = k.sense;
      objective = k.objective;
      may_follow = k.may_follow;
      none_open = refl;
    }

-- the columns are those of the model with the usual bounds in place of their own, and BOUNDS has not begun
pub record HasNoneBounded (begun : Bool) (cs : List ExactColumn) (ls : List Bool) (m : Model) : Type 0 where
  pub no_bounds : begun ≡ false
  pub columns : cs ≡ map bare_column m.columns
  pub none_lowered : ls ≡ map (λ c. false) m.columns

-- the state's columns are those of the model with the usual bounds in place of their own, and BOUNDS has not begun
abbrev pub IsUnbounded : State → Model → Type 0
IsUnbounded s m = HasNoneBounded s.seen.bounds s.columns s.lowered m

-- the state after the heading RHS: it has the model's rows without right sides and ranges, its columns with the usual
-- bounds, offset 0, no set and no noted target
pub record HasNoSides (s : State) (m : Model) : Type 0 where
  pub known : HasStart s m
  pub unbounded : IsUnbounded s m
  pub part : s.part ≡ Some section.RightSides
  pub no_ranges : s.seen.ranges ≡ false
  pub offset : s.offset ≡ 0ℚ
  pub rows : s.rows ≡ map bare_row m.rows
  pub none_paired : s.paired ≡ []
  pub no_set : s.set ≡ None

-- the state before RANGES: it has the model's offset, its rows without their ranges, and its columns with the usual
-- bounds
pub record HasNoRanges (s : State) (m : Model) : Type 0 where
  pub known : HasStart s m
  pub unbounded : IsUnbounded s m
  pub no_ranges : s.seen.ranges ≡ false
  pub offset : s.offset ≡ m.offset
  pub rows : s.rows ≡ map rangeless m.rows

-- the state before BOUNDS: it has the model's offset and rows, and its columns with the usual bounds
pub record HasNoBounds (s : State) (m : Model) : Type 0 where
  pub known : HasStart s m
  pub unbounded : IsUnbounded s m
  pub offset : s.offset ≡ m.offset
  pub rows : s.rows ≡ m.rows

-- the state has all of the model: its name, sense, objective, offset, rows and columns
pub record IsWhole (s : State) (m : Model) : Type 0 where
  pub known : HasStart s m
  pub offset : s.offset ≡ m.offset
  pub rows : s.rows ≡ m.rows
  pub columns : s.columns ≡ m.columns
