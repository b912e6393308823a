-- The cold solve of a model, at a limit and within a budget: its form, both phases,
-- and the check of what they ended with.
use Rattle.std.specs.Prelude.{ℕ, zero, suc, ◌+◌, List, Option, Some, None, Result}
use Rattle.std.specs.Prelude.{Ok, Err, nat_le, nat_eq, ◌&&◌, if◌then◌else◌}
use Rattle.spec_exact.specs.Fraction.{ℚ, 0ℚ, 1ℚ, neg_ℚ}
use Rattle.spec_model.specs.Model.{Model}
use Rattle.spec_check.specs.declared.certificate.Certificate.{Certificate}
use Rattle.spec_check.specs.declared.certificate.Certificate.TheVariants as certificate
use Rattle.spec_check.specs.declared.certificate.Known.{Known}
use Rattle.spec_check.specs.declared.certificate.CheckStop.{CheckStop}
use Rattle.spec_check.specs.declared.certificate.CheckStop.TheVariants as check
use Rattle.spec_check.specs.Run.{check_run}
use Rattle.spec_pivot.specs.declared.status.Status.{Status}
use Rattle.spec_pivot.specs.declared.status.Status.TheVariants.{Basic}
use Rattle.spec_pivot.specs.declared.status.Way.{Way}
use Rattle.spec_simplex.specs.declared.ends.FormFault.{FormFault}
use Rattle.spec_simplex.specs.declared.ends.FormFault.TheVariants as fault
use Rattle.spec_simplex.specs.declared.ends.PrimalEnd.{PrimalEnd}
use Rattle.spec_simplex.specs.declared.ends.PrimalEnd.TheVariants.{Optimal, Unbounded}
use Rattle.spec_simplex.specs.declared.ends.RunStop.{RunStop as Spending}
use Rattle.spec_simplex.specs.declared.ends.RunStop.TheVariants as stop
use Rattle.spec_exact.specs.Run.{made}
use Rattle.spec_simplex.specs.Form.{Form, form_of}
use Rattle.spec_simplex.specs.Tableau.{Tableau, form_columns, basic_at, entry_at}
use Rattle.spec_simplex.specs.Tableau.{value_at, reduced_at, status_at, is_basic}
use Rattle.spec_simplex.specs.Step.{directed}
use Rattle.spec_simplex.specs.Phases.{PhasesEnd, Infeasible, Finished, phases_run}
use Rattle.spec_check.specs.declared.solve_end.SolveEnd.{SolveEnd}
use Rattle.spec_check.specs.declared.solve_end.SolveEnd.TheVariants as outcome

-- how a solve ends, in exact numbers
abbrev pub ExactSolveEnd : Type 0
ExactSolveEnd = SolveEnd ℚ (List ℚ) (List Status)

-- ---- certificates of ends

-- the values that the model's columns have in a tableau, without those of logical columns
abbrev pub point : Tableau → List ℚ
point t = made t.cols (value_at t)

-- the multipliers of a tableau, one for each row: the reduced cost of the row's logical column
abbrev pub multipliers : Tableau → List ℚ
multipliers t = made t.rows (λ i. reduced_at t (t.cols + i))

-- By how much column k moves while column j enters and rises or falls by 1. Where k is basic at one of the first m
-- positions, it is by the negative of the entry of j there if j rises, and by the entry if it falls; the last such
-- position counts. Where it is basic at none, it is by 1 or -1 for j itself, and else by 0.
abbrev pub moves_below : Tableau → ℕ → Way → ℕ → ℕ → ℚ
moves_below t j way k zero = if nat_eq k j then directed way 1ℚ else 0ℚ
moves_below t j way k (suc m) =
    if nat_eq (basic_at t m) k then neg_ℚ (directed way (entry_at t m j)) else moves_below t j way k m

-- by how much column k moves while column j enters and rises or falls by 1, so that all rows stay solved
abbrev pub moves_by : Tableau → ℕ → Way → ℕ → ℚ
moves_by t j way k = moves_below t j way k t.rows

-- the ray along which the model's columns, without logical ones, move while column j enters and rises or falls by 1
abbrev pub direction : Tableau → ℕ → Way → List ℚ
direction t j way = made t.cols (moves_by t j way)

-- the certificate of what the primal method ends with at a tableau: of an optimum its point and multipliers, of an
-- unbounded end its point and the ray of the entering column
abbrev pub certificate_at : Tableau → PrimalEnd → Certificate (List ℚ)
certificate_at t Optimal = certificate.Optimal (point t) (multipliers t)
certificate_at t (Unbounded j way) = certificate.Unbounded (point t) (direction t j way)

-- the certificate of what both phases end with: where no point is feasible, the multipliers of phase one's last
-- tableau; else that of phase two's end
abbrev pub certificate_of : PhasesEnd → Certificate (List ℚ)
certificate_of (Infeasible t used) = certificate.Infeasible (multipliers t)
certificate_of (Finished e) = certificate_at e.tableau e.end

-- ---- the basis of an optimal end

-- the status that column k has in the basis: `Basic` for a logical whose row's artificial is basic, else its own
abbrev pub basis_status : Tableau → ℕ → Status
basis_status t k = if nat_le t.cols k && is_basic (status_at t (k + t.rows)) then Basic else status_at t k

-- the basis of an optimal end, the statuses of the model's columns and of the rows' logicals; none of an unbounded end
abbrev pub basis_at : Tableau → PrimalEnd → Option (List Status)
basis_at t Optimal = Some (made (form_columns t) (basis_status t))
basis_at t (Unbounded j way) = None

-- the basis of what both phases end with, if that is an optimum
abbrev pub basis_of : PhasesEnd → Option (List Status)
basis_of (Infeasible t used) = None
basis_of (Finished e) = basis_at e.tableau e.end

-- the count of pivots and flips of both phases
abbrev pub pivots_of : PhasesEnd → ℕ
pivots_of (Infeasible t used) = used
pivots_of (Finished e) = e.used

-- ---- the certificate is checked, at the same limit

-- How a solve ends, by what the checker says of its certificate: with the answer that it shows, or past the limit. The
-- checker never says no to a certificate of an end, so the last case never comes.
abbrev pub checked : Certificate (List ℚ) → Option (List Status) → ℕ → Result (Known ℚ) (CheckStop ℚ) → ExactSolveEnd
checked certificate basis pivots (Ok answer) = outcome.Ended answer certificate basis pivots
checked certificate basis pivots (Err (check.Past p)) = outcome.Past p
checked certificate basis pivots (Err (check.No n)) = outcome.Spent

-- how a solve with a certificate ends, by the check of it, as `checked` says: with the answer that it shows; past the
-- limit; or `Spent`, should the checker say no
abbrev pub answered : Option ℕ → Model → Certificate (List ℚ) → Option (List Status) → ℕ → ExactSolveEnd
answered limit m certificate basis pivots = checked certificate basis pivots (check_run limit m certificate)

-- ---- the whole solve

-- how a solve ends after both phases: by the check of their certificate; or past the limit, or `Spent`, as they stopped
abbrev pub after_phases : Option ℕ → Model → Result PhasesEnd (Spending ℚ) → ExactSolveEnd
after_phases limit m (Ok e) = answered limit m (certificate_of e) (basis_of e) (pivots_of e)
after_phases limit m (Err (stop.Past p)) = outcome.Past p
after_phases limit m (Err stop.Spent) = outcome.Spent

-- How a solve ends by the model's form: by both phases. Where bounds clash, it ends with the clash as the certificate;
-- where the form is past the limit, so is the solve.
abbrev pub after_form : Option ℕ → ℕ → Model → Result Form (FormFault ℚ) → ExactSolveEnd
after_form limit budget m (Ok f) = after_phases limit m (phases_run limit budget f)
after_form limit budget m (Err (fault.Clash j)) = answered limit m (certificate.Clash j) None 0
after_form limit budget m (Err (fault.Past p)) = outcome.Past p

-- How the cold solve of a model ends, at a limit and within a budget: with an answer and a certificate that the checker
-- accepts; past the limit; or spent, where the budget is used up.
unfoldable pub cold : Option ℕ → ℕ → Model → ExactSolveEnd
cold limit budget m = after_form limit budget m (form_of limit m)
