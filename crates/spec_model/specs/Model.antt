-- A linear program, as plain data.
use Rattle.std.specs.Prelude.{ℕ, Bool, true, false, List, [], ◌∷◌, length, Option, Some, None, Ok, nat_eq, cond, get_or}
use Rattle.spec_exact.specs.Fraction.{ℚ, ◌+ℚ◌, ◌-ℚ◌, ◌*ℚ◌, 0ℚ, abs_ℚ, lt_ℚ}
use Rattle.spec_exact.specs.Sums.{sum_below}
use Rattle.spec_exact.specs.Run.{Run, ◌>>=◌, sum_run, difference_run}
use Rattle.spec_model.specs.declared.parts.Sense.{Sense}
use Rattle.spec_model.specs.declared.parts.Kind.{Kind}
use Rattle.spec_model.specs.declared.parts.Kind.TheVariants.{L, G, E, N}
use Rattle.spec_model.specs.declared.parts.Row.{Row}
use Rattle.spec_model.specs.declared.parts.RowLimit.{RowLimit}
use Rattle.spec_model.specs.declared.parts.RowLimit.TheVariants.{Absent, Given, Sum, Difference}
use Rattle.spec_model.specs.declared.parts.Column.{Column}

-- a name, by its bytes
abbrev pub Name : Type 0
Name = List ℕ

-- a row of a model: its name is bytes, and its numbers are fractions
abbrev pub ExactRow : Type 0
ExactRow = Row Name ℚ

-- a column of a model: its name is bytes, its numbers are fractions, and its entries are pairs of a row's number and a
-- coefficient
abbrev pub ExactColumn : Type 0
ExactColumn = Column Name ℚ (List (ℕ × ℚ))

-- a linear program. The objective has a name, and an offset that is added to the sum of the costs
pub record Model : Type 0 where
  pub name : Name
  pub sense : Sense
  pub objective : Name
  pub offset : ℚ
  pub rows : List ExactRow
  pub columns : List ExactColumn

-- whether rows of this kind have no limits
abbrev pub is_free : Kind → Bool
is_free L = false
is_free G = false
is_free E = false
is_free N = true

-- a lower and an upper limit, each of which may be absent
pub record Limits : Type 0 where
  pub lower : Option ℚ
  pub upper : Option ℚ

-- The lower limit of a row of this kind, right side and range, as the operation that gives it. For G it is the right
-- side; for E too, with a range below 0 added; for L, with a range, the right side less the range's absolute value. For
-- N, and for L without a range, it is absent.
abbrev pub lower_by : Kind → ℚ → Option ℚ → RowLimit ℚ
lower_by L b None = Absent
lower_by L b (Some r) = Difference b (abs_ℚ r)
lower_by G b range = Given b
lower_by E b None = Given b
lower_by E b (Some r) = cond (lt_ℚ r 0ℚ) (Sum b r) (Given b)
lower_by N b range = Absent

-- The upper limit of a row of this kind, right side and range, as the operation that gives it. For L it is the right
-- side; for E too, with a range that is not below 0 added; for G, with a range, the right side plus the range's
-- absolute value. For N, and for G without a range, it is absent.
abbrev pub upper_by : Kind → ℚ → Option ℚ → RowLimit ℚ
upper_by L b range = Given b
upper_by G b None = Absent
upper_by G b (Some r) = Sum b (abs_ℚ r)
upper_by E b None = Given b
upper_by E b (Some r) = cond (lt_ℚ r 0ℚ) (Given b) (Sum b r)
upper_by N b range = Absent

-- the lower limit of a row by its kind, right side and range, as the operation that gives it
abbrev pub lower_of : ExactRow → RowLimit ℚ
lower_of r = lower_by r.kind r.rhs r.range

-- the upper limit of a row by its kind, right side and range, as the operation that gives it
abbrev pub upper_of : ExactRow → RowLimit ℚ
upper_of r = upper_by r.kind r.rhs r.range

-- the limit of a row that an operation gives, exactly, however large it is; none where it is absent
abbrev pub limit_of : RowLimit ℚ → Option ℚ
limit_of Absent = None
limit_of (Given v) = Some v
limit_of (Sum v w) = Some (v +ℚ w)
limit_of (Difference v w) = Some (v -ℚ w)

-- both exact limits of a row of this kind, right side and range, each of which may be absent
abbrev pub limits_by : Kind → ℚ → Option ℚ → Limits
limits_by k b range = record { lower = limit_of (lower_by k b range); upper = limit_of (upper_by k b range) }

-- both exact limits of a row, each of which may be absent
abbrev pub limits_of : ExactRow → Limits
limits_of r = limits_by r.kind r.rhs r.range

-- the limit of a row that an operation gives, none where it is absent; or the refusal, where a sum or difference is
-- past the limit on numbers
abbrev pub limit_run : Option ℕ → RowLimit ℚ → Run (Option ℚ)
limit_run limit Absent = Ok None
limit_run limit (Given v) = Ok (Some v)
limit_run limit (Sum v w) = sum_run limit v w >>= λ s. Ok (Some s)
limit_run limit (Difference v w) = difference_run limit v w >>= λ d. Ok (Some d)

-- the lower limit of a row, none where it has none; or the refusal of its operation at the limit on numbers
abbrev pub lower_run : Option ℕ → ExactRow → Run (Option ℚ)
lower_run limit r = limit_run limit (lower_of r)

-- the upper limit of a row, none where it has none; or the refusal of its operation at the limit on numbers
abbrev pub upper_run : Option ℕ → ExactRow → Run (Option ℚ)
upper_run limit r = limit_run limit (upper_of r)

-- the lower and the upper bound of a column, each of which may be absent
abbrev pub bounds_of : ExactColumn → Limits
bounds_of c = record { lower = c.lower; upper = c.upper }

-- ---- rows, columns and entries by their numbers

-- the row that stands for any row number that the model does not have: without a name, of kind L, with the right side 0
abbrev pub no_row : ExactRow
no_row = record { name = []; kind = L; rhs = 0ℚ; range = None }

-- the column that stands for any column number that the model does not have: without a name, bounds and entries, with
-- the cost 0
abbrev pub no_column : ExactColumn
no_column = record { name = []; cost = 0ℚ; lower = None; upper = None; entries = [] }

-- the number of columns of a model
abbrev pub width : Model → ℕ
width m = length m.columns

-- the number of rows of a model
abbrev pub height : Model → ℕ
height m = length m.rows

-- column j of a model; `no_column` where the model has fewer
abbrev pub column : Model → ℕ → ExactColumn
column m j = get_or m.columns j no_column

-- row i of a model; `no_row` where the model has fewer
abbrev pub row : Model → ℕ → ExactRow
row m i = get_or m.rows i no_row

-- the bounds of column j of a model; none where it has fewer columns
abbrev pub bounds : Model → ℕ → Limits
bounds m j = bounds_of (column m j)

-- the exact limits of row i of a model; those of `no_row` where it has fewer rows
abbrev pub limits : Model → ℕ → Limits
limits m i = limits_of (row m i)

-- the cost of column j of a model; 0 where it has fewer columns
abbrev pub cost : Model → ℕ → ℚ
cost m j = (column m j).cost

-- the coefficient of the first entry of a column for row i; 0 where no entry is for this row
abbrev pub entry_of : List (ℕ × ℚ) → ℕ → ℚ
entry_of [] i = 0ℚ
entry_of (e ∷ es) i = cond (nat_eq e.0 i) e.1 (entry_of es i)

-- a_ij, the coefficient of column j in row i; 0 where column j has no entry for row i
abbrev pub coefficient : Model → ℕ → ℕ → ℚ
coefficient m i j = entry_of (column m j).entries i

-- ---- points

-- z_j, the number of a list z at place j, as the value of column j at the point z; 0 past the end of the list
abbrev pub part : List ℚ → ℕ → ℚ
part z j = get_or z j 0ℚ

-- the activity of row i at the point z: the sum over all columns of the coefficient in row i times the value
abbrev pub activity : Model → List ℚ → ℕ → ℚ
activity m z i = sum_below (width m) (λ j. coefficient m i j *ℚ part z j)

-- the sum of cost times value over all columns of a model at the point z, without the offset
abbrev pub cost_of : Model → List ℚ → ℚ
cost_of m z = sum_below (width m) (λ j. cost m j *ℚ part z j)

-- the value of the objective at the point z: the sum of cost times value over all columns, plus the offset
abbrev pub value_of : Model → List ℚ → ℚ
value_of m z = cost_of m z +ℚ m.offset
