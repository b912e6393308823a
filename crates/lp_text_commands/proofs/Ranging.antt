-- From which basis numbers are ranged, and what is written of the ranges behind an answer.
--
-- `keeps_at_end`: the basis that a cold solve leaves keeps the model, where it leaves one.
-- `behind`: where numbers are ranged from a basis, the text of one range and the text of all are those of ranges from
--   this basis.
-- `none_behind`: where numbers are ranged from no basis, nothing is written behind the answer.
-- `with_range`: what `range` writes of one number is the answer, and the text of the range behind it.
-- `with_ranges`: what `range all` writes is the answer, and the texts of all ranges behind it.
-- `line_of`: a number's line in the list of all is `cost` or `rhs`, its name, and what is written of its range.
-- `lines_more`: the lines of one number more are those of the ones before and its own.
use Rattle.std.proofs.Common.{◌≡◌, ℕ, suc, ◌+◌, List, [], ◌∷◌, ◌++◌, Some, None, Result, Ok, Err, refl, ap, ◌∙◌, append-nil, arith}
use Rattle.std.proofs.lemmas.Grind.{flat_map-append}
use Rattle.spec_exact.specs.Fraction.{ℚ}
use Rattle.spec_exact.specs.Narrow.{number_limit}
use Rattle.spec_exact.specs.Run.{made}
use Rattle.spec_model.specs.Model.{Model}
use Rattle.spec_pivot.specs.declared.status.Status.{Status}
use Rattle.spec_simplex.specs.declared.ends.FormFault.{FormFault}
use Rattle.spec_simplex.specs.Form.{Form, form_of}
use Rattle.spec_check.specs.declared.certificate.Known.TheVariants as known
use Rattle.spec_check.specs.declared.solve_end.SolveEnd.TheVariants.{Ended, Past, Spent}
use Rattle.spec_runs.specs.Cold.{ExactSolveEnd}
use Rattle.spec_runs.specs.Solve.{SolveEnd}
use Rattle.spec_solve.specs.Answers.{IsSolved}
use Rattle.spec_server.specs.declared.asks.Reply.TheVariants as reply
use Rattle.spec_server.specs.Machine.{opening_budget, answer_of}
use Rattle.spec_server.specs.Output.{check_line}
use Rattle.spec_program.specs.declared.command_line.Moved.{Moved}
use Rattle.spec_commands.specs.RangeOut.{range_of, ranged_text, based_text, range_text, range_lines}
use Rattle.spec_commands.specs.RangesOut.{number_words, name_by, number_line, number_lines, ranges_from, ranges_text, ranges_lines}
use Rattle.spec_commands.proofs.OptimalBasis.{solved_keeps}
use Rattle.lp_range.specs.Answer.{Start, IsFrom}
use Rattle.lp_text_commands.specs.RangeEnds.{KeepsAtEnd, IsRangingFrom, IsRangingOf}

-- the basis that a cold solve leaves keeps the model
pub keeps_at_end : (m : Model) (budget : ℕ) (solved : SolveEnd) → IsSolved m budget None solved →
    KeepsAtEnd m solved.end
keeps_at_end m budget solved is = by solved.end refl
  where
    by : (end : ExactSolveEnd) → solved.end ≡ end → KeepsAtEnd m end
    by (Ended known cert (Some left) pivots) e = solved_keeps m budget solved known cert left pivots is e
    by (Ended known cert None pivots) e = tt
    by (Past p) e = tt
    by Spent e = tt

-- ---- behind an answer

-- a form of the model and a basis of it from which numbers are ranged; the texts of one range and of all behind this
-- end are those of the ranges from this basis
pub record Behind (m : Model) (end : ExactSolveEnd) (start : Start) : Type 0 where
  pub form : Form
  pub basis : List Status
  pub from : IsFrom m form basis start
  pub one : (moved : Moved) (at : ℕ) →
      range_text moved m at end ≡ ranged_text (range_of moved (Some number_limit) m form basis at)
  pub all : ranges_text m end ≡ ranges_from m basis (Ok form)

pub behind : (m : Model) (end : ExactSolveEnd) (start : Start) → IsRangingOf m end (Some start) → Behind m end start
behind m (Ended (known.Optimal v) cert (Some basis) pivots) start is = by (form_of (Some number_limit) m) refl is
  where
    by : (o : Result Form (FormFault ℚ)) → form_of (Some number_limit) m ≡ o → IsRangingFrom m basis o (Some start) →
        Behind m (Ended (known.Optimal v) cert (Some basis) pivots) start
    by (Ok f) e from =
        record {
          form = f;
          basis = basis;
          from = from;
          one = λ moved at. ap (based_text moved m basis at) e;
          all = ap (ranges_from m basis) e;
        }
    by (Err why) e none = absurd (cc)
behind m end start is = absurd (cc)

-- nothing is written where numbers are ranged from nothing
pub none_behind : (m : Model) (end : ExactSolveEnd) → IsRangingOf m end None →
    ((moved : Moved) (at : ℕ) → range_text moved m at end ≡ []) × (ranges_text m end ≡ [])
none_behind m (Ended (known.Optimal v) cert (Some basis) pivots) is = by (form_of (Some number_limit) m) refl is
  where
    by : (o : Result Form (FormFault ℚ)) → form_of (Some number_limit) m ≡ o → IsRangingFrom m basis o None →
        ((moved : Moved) (at : ℕ) → based_text moved m basis at (form_of (Some number_limit) m) ≡ [])
        × (ranges_from m basis (form_of (Some number_limit) m) ≡ [])
    by (Ok f) e none = absurd none
    by (Err why) e none = (λ moved at. ap (based_text moved m basis at) e, ap (ranges_from m basis) e)
none_behind m end is = (λ moved at. refl, refl)

-- the line of the answer of an end
abbrev pub answered : ExactSolveEnd → List ℕ
answered end = check_line (answer_of opening_budget end)

pub with_range : (moved : Moved) (m : Model) (at : ℕ) (end : ExactSolveEnd) (text : List ℕ) →
    range_text moved m at end ≡ text → range_lines moved m at end ≡ answered end ++ text
unfolding range_lines
with_range moved m at end text e = ap (λ bs. answered end ++ bs) e

pub with_ranges : (m : Model) (end : ExactSolveEnd) (text : List ℕ) → ranges_text m end ≡ text →
    ranges_lines m end ≡ answered end ++ text
unfolding ranges_lines
with_ranges m end text e = ap (λ bs. answered end ++ bs) e

-- ---- lines of numbers

-- a line, of its words and its range
pub line_of : (moved : Moved) (m : Model) (f : Form) (basis : List Status) (at : ℕ) →
    number_line moved m f basis at
    ≡ number_words moved (name_by moved m at) ++ ranged_text (range_of moved (Some number_limit) m f basis at)
unfolding number_line
line_of moved m f basis at = refl

-- one line more
pub lines_more : (moved : Moved) (m : Model) (f : Form) (basis : List Status) (at : ℕ) →
    number_lines moved m f basis (at + 1) ≡ number_lines moved m f basis at ++ number_line moved m f basis at
lines_more moved m f basis at =
    let one : at + 1 ≡ suc at = omega arith in
    ap (number_lines moved m f basis) one
    ∙ flat_map-append (number_line moved m f basis) (made at (λ k. k)) (at ∷ [])
    ∙ ap (λ line. number_lines moved m f basis at ++ line) (append-nil (number_line moved m f basis at))
