-- The form of a linear program on which the simplex method runs: bounds alone, and costs to be made least. And the form
-- of a model, at a limit.
--
-- Column j below `cols` is structural, the model's own. Column `cols + i` is the logical of row i: the row's sum, with
-- the row's limits as its bounds and the cost 0.
use Rattle.std.specs.Prelude.{◌≡◌, ℕ, ◌+◌, ◌≤◌, List, [], ◌++◌, length, get_or, All, map}
use Rattle.std.specs.Prelude.{replicate, Option, Some, None, Result, Ok, Err}
use Rattle.std.specs.declared.cmp.Ordering.{Ordering}
use Rattle.std.specs.declared.cmp.Ordering.TheVariants.{Less, Equal, Greater}
use Rattle.spec_exact.specs.Fraction.{ℚ, 0ℚ, neg_ℚ}
use Rattle.spec_model.specs.declared.parts.Sense.{Sense}
use Rattle.spec_model.specs.declared.parts.SizeLimits.{SizeLimits}
use Rattle.spec_model.specs.declared.parts.Sense.TheVariants.{Min, Max}
use Rattle.spec_model.specs.Model.{Model, ExactRow, width, height, row, column, entry_of, lower_run, upper_run}
use Rattle.spec_model.specs.Kept.{AreEntries, usual_limits}
use Rattle.spec_simplex.specs.declared.ends.FormFault.{FormFault}
use Rattle.spec_simplex.specs.declared.ends.FormFault.TheVariants as fault
use Rattle.spec_exact.specs.Run.{Run, ◌>>=◌, refused_as, order_run, steps, list_run}

-- a linear program in computational form: structural columns with entries in rows, and for each row i the logical
-- column `cols + i`, whose bounds are the limits of the row. The cost is to be made least
pub record Form : Type 0 where
  pub rows : ℕ
  pub cols : ℕ
  pub entries : List (List (ℕ × ℚ))  -- of each structural column, with the numbers of their rows
  pub lower : List (Option ℚ)  -- of each structural and then each logical column
  pub upper : List (Option ℚ)
  pub cost : List ℚ

-- The form f has at most as many rows and structural columns as the limits say. Each structural column has entries in
-- rows of f, one at most in each, in their order and not 0. Each column of f has a cost and two bounds, which may be
-- absent.
pub record IsFormWithin (limits : SizeLimits) (f : Form) : Type 0 where
  pub few_rows : f.rows ≤ limits.rows
  pub few_columns : f.cols ≤ limits.columns
  pub all_entries : length f.entries ≡ f.cols
  pub all_lower : length f.lower ≡ f.cols + f.rows
  pub all_upper : length f.upper ≡ f.cols + f.rows
  pub all_costs : length f.cost ≡ f.cols + f.rows
  pub columns : All (AreEntries f.rows) f.entries

-- the form is within the limits of a usual model: at most 256 rows and 512 structural columns. Tableaus are made of
-- such forms alone
abbrev pub IsForm : Form → Type 0
IsForm f = IsFormWithin usual_limits f

-- the coefficient of structural column j in row i of the form; 0 where there is none, as for a logical column
abbrev pub form_entry : Form → ℕ → ℕ → ℚ
form_entry f i j = entry_of (get_or f.entries j []) i

-- the lower bound of column k of the form, structural or logical; none where it is absent
abbrev pub form_lower : Form → ℕ → Option ℚ
form_lower f k = get_or f.lower k None

-- the upper bound of column k of the form, structural or logical; none where it is absent
abbrev pub form_upper : Form → ℕ → Option ℚ
form_upper f k = get_or f.upper k None

-- the cost of column k, structural or logical
abbrev pub form_cost : Form → ℕ → ℚ
form_cost f k = get_or f.cost k 0ℚ

-- ---- the limits of a row, the lower one first

-- the lower and the upper limit of the row r, each none where it is absent; or the refusal of the first one that cannot
-- be computed at the limit of numbers
abbrev pub limits_run : Option ℕ → ExactRow → Run (Option ℚ × Option ℚ)
limits_run limit r = lower_run limit r >>= λ l. upper_run limit r >>= λ u. Ok (l, u)

-- ---- a fault where the bounds of column j clash

-- a fault of column j where its lower bound compares as greater with its upper one; else no fault
abbrev pub clash_by : ℕ → Ordering → Result (Unit {0}) (FormFault ℚ)
clash_by j Less = Ok tt
clash_by j Equal = Ok tt
clash_by j Greater = Err (fault.Clash j)

-- a fault where the lower bound of column j is above its upper one, or where comparing them is past the limit; none
-- where a bound is absent
abbrev pub bounds_clash : Option ℕ → ℕ → Option ℚ → Option ℚ → Result (Unit {0}) (FormFault ℚ)
bounds_clash limit j None upper = Ok tt
bounds_clash limit j (Some l) None = Ok tt
bounds_clash limit j (Some l) (Some u) = refused_as fault.Past (order_run limit l u) >>= λ o. clash_by j o

-- a fault where the bounds of column j of a model clash, or where comparing them is past the limit
abbrev pub column_clash : Option ℕ → Model → ℕ → Result (Unit {0}) (FormFault ℚ)
column_clash limit m j = bounds_clash limit j (column m j).lower (column m j).upper

-- ---- the cost to be made least

-- the cost that is to be made least: c, or its negative where the sense is Max
abbrev pub least_cost : Sense → ℚ → ℚ
least_cost Min c = c
least_cost Max c = neg_ℚ c

-- ---- the form: the columns of the model, then its rows

-- the form of the model m whose rows have these lower and upper limits: its columns and then its rows, with costs that
-- are negated where the model asks for the greatest objective
abbrev pub formed : Model → List (Option ℚ × Option ℚ) → Form
formed m limits =
    record {
      rows = height m;
      cols = width m;
      entries = map (λ c. c.entries) m.columns;
      lower = map (λ c. c.lower) m.columns ++ map (λ l. l.0) limits;
      upper = map (λ c. c.upper) m.columns ++ map (λ l. l.1) limits;
      cost = map (λ c. least_cost m.sense c.cost) m.columns ++ replicate (height m) 0ℚ;
    }

-- the form of a model, or why it has none. First the limits of all rows are taken, in order; then the bounds of all
-- columns are compared, in order. The first refusal or clash is the fault
unfoldable pub form_of : Option ℕ → Model → Result Form (FormFault ℚ)
form_of limit m =
    refused_as fault.Past (list_run (height m) (λ i. limits_run limit (row m i))) >>= λ limits.
    steps (width m) (λ j _. column_clash limit m j) tt >>= λ _.
    Ok (formed m limits)
