-- To a text with the lines that `solve` and `basis` write of it behind it `check` says yes.
use Rattle.std.proofs.Common.{◌≡◌, ℕ, ◌+◌, List, [], ◌∷◌, ◌++◌, map, Option, Some, None, Ok, Err, refl, ap, ◌∙◌}
use Rattle.std.proofs.Common.{append_assoc}
use Rattle.std.specs.Prelude.{codes}
use Rattle.spec_text.specs.declared.line.Line.{Line}
use Rattle.spec_text.specs.declared.line.Line.TheVariants.{Text}
use Rattle.spec_text.specs.Lines.{ended_lines_of}
use Rattle.spec_exact.specs.Fraction.{ℚ}
use Rattle.spec_model.specs.Model.{Model}
use Rattle.spec_model.specs.Kept.{IsModel, usual_limits}
use Rattle.spec_model.proofs.KeptModels.{usual_from_within}
use Rattle.spec_mps.specs.declared.style.Style.{Style}
use Rattle.spec_mps.specs.Reader.{State, start}
use Rattle.spec_mps.specs.Steps as text
use Rattle.spec_mps.proofs.SpelledKept.{spelled_kept}
use Rattle.spec_pivot.specs.declared.status.Status.{Status}
use Rattle.spec_check.specs.declared.certificate.Certificate.{Certificate}
use Rattle.spec_check.specs.declared.certificate.Known.{Known}
use Rattle.spec_check.specs.declared.certificate.Verdict.TheVariants.{Yes}
use Rattle.spec_check.specs.declared.solve_end.SolveEnd.TheVariants.{Ended, Past, Spent}
use Rattle.spec_check.specs.Run.{verdict_of}
use Rattle.spec_certificate.specs.TextWritten.{certificate_lines}
use Rattle.spec_certificate.proofs.ReadBack.{read_back}
use Rattle.spec_runs.specs.Cold.{ExactSolveEnd}
use Rattle.spec_runs.specs.declared.ends.Route.{Route}
use Rattle.spec_runs.specs.declared.ends.Route.TheVariants as route
use Rattle.spec_runs.specs.Solve.{SolveEnd}
use Rattle.spec_server.specs.declared.asks.Reply.TheVariants as reply
use Rattle.spec_solve.specs.Answers.{MayAnswer}
use Rattle.spec_server.specs.Machine.{ExactReply, opening_budget, answer_of, lines_of_solved, pivots_of_solved, verdict_on}
use Rattle.spec_server.specs.Output.{reply_text, ended_lines, fall_text, pivots_text}
use Rattle.spec_server.specs.Said.{follow, said_by}
use Rattle.spec_commands.specs.CheckOut.{InText, InCertificate, behind_text, check_step, said_from, said}
use Rattle.spec_server.specs.TextSaid.{behind_line, text_step}
use Rattle.spec_commands.specs.SolveOut.{SolveOut}
use Rattle.spec_commands.specs.BasisOut.{Handed, route_text, route_line, final_text, BasisOut}
use Rattle.spec_commands.proofs.PlainLines.{ended_lines_behind, certificate_plain}
use Rattle.spec_commands.proofs.WrittenChecks.{certificate_said}
use Rattle.spec_presolve.specs.declared.presolved.Way.{Way}
use Rattle.spec_commands.specs.PresolveOut.{way_line, PresolveOut}
use Rattle.spec_text_truth.specs.SpelledBasis.{BeginsWithText, form_at_limit, AreHanded}
use Rattle.spec_text_truth.specs.AcceptedLines.{IsAccepted}
use Rattle.spec_text_truth.specs.TrueOutput.{HasNoFeed}
use Rattle.spec_text_truth.proofs.SolvedTexts.{solved_begins}
use Rattle.spec_text_truth.proofs.PresolvedTexts.{presolved_begins}
use Rattle.spec_text_truth.proofs.BasisTexts.{basis_begins}
use Rattle.spec_text_truth.proofs.PlainText.{tested_no_feed, both_no_feed}
use Rattle.spec_text_truth.proofs.PlainReplies.{fall_no_feed, pivots_no_feed}

-- ---- a text that ends in its last line

-- after the last line of a model's text, `check` reads the lines behind as a certificate for the model that the text
-- spells
text_leads : (style : Style) (s : State) (n : ℕ) (front : List (Line (List ℕ))) (last : Line (List ℕ))
    (behind : List (Line (List ℕ))) (m : Model) →
    said_by (text_step usual_limits style) (record { state = s; lines = n }) front ≡ None →
    text.judge usual_limits style s (n + 1) (front ++ last ∷ []) ≡ text.Spelled m →
    said_from (InText style s n) (front ++ last ∷ behind) ≡ said_from (InCertificate m None 0) behind
unfolding check_step text_step
text_leads style s n [] last behind m none spelled = by (text.step usual_limits style s last) spelled
  where
    by : (o : text.Outcome) → text.settled (n + 1) (λ t. text.judge usual_limits style t (n + 1 + 1) [])
        o ≡ text.Spelled m →
        follow (behind_text style (n + 1) o) (λ stage. said_from stage behind)
        ≡ said_from (InCertificate m None 0) behind
    by (Ok (text.More t)) e = cc
    by (Ok (text.Done d)) e = let same : d ≡ m = cc in ap (λ d. said_from (InCertificate d None 0) behind) same
    by (Err why) e = cc
text_leads style s n (line ∷ front) last behind m none spelled =
    by (text.step usual_limits style s line) none spelled (λ t. text_leads style t (n + 1) front last behind m)
  where
    by : (o : text.Outcome) →
        follow (behind_line (n + 1) o) (λ next. said_by (text_step usual_limits style) next front) ≡ None →
        text.settled (n + 1) (λ t. text.judge usual_limits style t (n + 1 + 1) (front ++ last ∷ [])) o ≡ text.Spelled
        m →
        ((t : State) → said_by (text_step usual_limits style) (record { state = t; lines = n + 1 }) front ≡ None →
        text.judge usual_limits style t (n + 1 + 1) (front ++ last ∷ []) ≡ text.Spelled m →
        said_from (InText style t (n + 1)) (front ++ last ∷ behind) ≡ said_from (InCertificate m None 0) behind) →
        follow (behind_text style (n + 1) o) (λ stage. said_from stage (front ++ last ∷ behind))
        ≡ said_from (InCertificate m None 0) behind
    by (Ok (text.More t)) h e go = go t h e
    by (Ok (text.Done d)) h e go = cc
    by (Err why) h e go = cc

-- ---- the certificate behind it

module _ (style : Style) (lines : List (Line (List ℕ))) (m : Model) (after : List (Line (List ℕ)))
    (begins : BeginsWithText usual_limits style lines m after) where
  -- the lines of the text
  abbrev own : List (Line (List ℕ))
  own = begins.front ++ begins.last ∷ []

  kept : IsModel m
  kept = (usual_from_within m (spelled_kept usual_limits style own m begins.spelled)).0

  -- behind the model's text, the certificate's lines of an answer that may be given, with any bytes behind, make
  -- `check` say yes to it
  known_accepted : (budget : ℕ) (what : Known ℚ) (cert : Certificate (List ℚ)) (basis : Option (List Status))
      (pivots : ℕ) → MayAnswer m budget (Ended what cert basis pivots) → (more : List ℕ) →
      said style (own ++ ended_lines_of (ended_lines (certificate_lines m cert) ++ more))
      ≡ Some (reply.Checked (Yes what))
  unfolding ended_lines
  known_accepted budget what cert basis pivots h more =
      let r = read_back m cert kept h.0 h.1 in
      let rest : List (Line (List ℕ)) = ended_lines_of more in
      ap (λ (ls : List (Line (List ℕ))). said style (own ++ ls))
      (ended_lines_behind (λ line. line) (certificate_lines m cert) more (certificate_plain m kept cert h.0 h.1))
      ∙ ap (said style) (append_assoc begins.front (begins.last ∷ []) (map Text (certificate_lines m cert) ++ rest))
      ∙ text_leads style start 0 begins.front begins.last (map Text (certificate_lines m cert) ++ rest) m
      begins.undecided begins.spelled
      ∙ certificate_said m (map Text (certificate_lines m cert) ++ rest) None 0 r.raw (r.spelled rest)
      ∙ ap (λ settled. Some (verdict_on m settled)) r.settled
      ∙ ap (λ run. Some (reply.Checked (verdict_of run))) h.2

  -- of an end that may be answered, the lines that `solve` writes are accepted behind the model's text
  accepted : (budget : ℕ) (end : ExactSolveEnd) → MayAnswer m budget end →
      IsAccepted style own (answer_of budget end) (ended_lines (lines_of_solved m end))
  accepted budget (Ended what cert basis pivots) h = known_accepted budget what cert basis pivots h
  accepted budget (Past p) h = tt
  accepted budget Spent h = tt

  -- of an end that may be answered, the lines that `solve` writes, with any bytes behind them, are accepted behind the
  -- model's text
  accepted_before : (budget : ℕ) (end : ExactSolveEnd) (final : List ℕ) → MayAnswer m budget end →
      IsAccepted style own (answer_of budget end) (ended_lines (lines_of_solved m end) ++ final)
  accepted_before budget (Ended what cert basis pivots) final h = λ more.
      ap (λ (bs : List ℕ). said style (own ++ ended_lines_of bs))
      (append_assoc (ended_lines (certificate_lines m cert)) final more)
      ∙ known_accepted budget what cert basis pivots h (final ++ more)
  accepted_before budget (Past p) final h = tt
  accepted_before budget Spent final h = tt

  -- ---- what `solve` writes

  -- `solve` writes the line of an answer, and then lines that `check` accepts behind the text for this answer, if it is
  -- a known one
  pub solve_accepted : (written : List ℕ) → SolveOut (Ok m) written →
      (a : ExactReply) × (behind : List ℕ) × (written ≡ reply_text a ++ 10 ∷ behind)
      × IsAccepted style own a behind
  solve_accepted written out = (
    answer_of opening_budget out.0.end,
    ended_lines (lines_of_solved m out.0.end),
    out.2 ∙ solved_begins m out.0.end,
    accepted opening_budget out.0.end out.1.may_answer,
  )

  -- ---- what `presolve` writes

  -- `presolve` writes the line of its way, that of an answer, and then lines that `check` accepts behind the text for
  -- this answer, if it is a known one
  pub presolve_accepted : (written : List ℕ) → PresolveOut (Ok m) written →
      (way : Way ℚ) × (a : ExactReply) × (behind : List ℕ)
      × (written ≡ way_line way ++ (reply_text a ++ 10 ∷ behind)) × IsAccepted style own a behind
  presolve_accepted written out = (
    out.0.way,
    answer_of opening_budget out.0.end,
    ended_lines (lines_of_solved m out.0.end),
    out.2 ∙ presolved_begins m out.0,
    accepted opening_budget out.0.end out.1.may_answer,
  )

-- ---- what `basis` writes

-- the line of the route, without its line feed
route_front : SolveEnd → List ℕ
route_front solved = route_text solved.route ++ codes " PIVOTS " ++ pivots_text (pivots_of_solved solved.end)

-- the line of a route is its front and a line feed
route_ends : (solved : SolveEnd) (rest : List ℕ) → route_line solved ++ rest ≡ route_front solved ++ 10 ∷ rest
unfolding route_front
route_ends solved rest =
    append_assoc (route_text solved.route ++ codes " PIVOTS " ++ pivots_text (pivots_of_solved solved.end)) (10 ∷ [])
    rest

-- the text of a route has no line feed
route_no_feed : (r : Route) → HasNoFeed (route_text r)
route_no_feed route.Cold = tested_no_feed (codes "COLD") refl
route_no_feed route.Warm = tested_no_feed (codes "WARM") refl
route_no_feed (route.Fell why) =
    both_no_feed (codes "FELL ") (fall_text why) (tested_no_feed (codes "FELL ") refl) (fall_no_feed why)

-- the line of a route has no line feed before its end
front_no_feed : (solved : SolveEnd) → HasNoFeed (route_front solved)
unfolding route_front
front_no_feed solved =
    both_no_feed (route_text solved.route ++ codes " PIVOTS ") (pivots_text (pivots_of_solved solved.end))
    (both_no_feed (route_text solved.route) (codes " PIVOTS ") (route_no_feed solved.route)
    (tested_no_feed (codes " PIVOTS ") refl))
    (pivots_no_feed (pivots_of_solved solved.end))

-- `basis` writes an answer's line, one more line, and then lines that `check` accepts behind the text for this answer,
-- if it is a known one
pub basis_accepted : (style : Style) (lines : List (Line (List ℕ))) (handed : Handed) (written : List ℕ)
    (h : AreHanded usual_limits style lines handed) → BasisOut (Ok handed) written →
    (a : ExactReply) × (how behind : List ℕ)
    × (written ≡ reply_text a ++ 10 ∷ (how ++ 10 ∷ behind)) × HasNoFeed how
    × IsAccepted style (h.text.front ++ h.text.last ∷ []) a behind
basis_accepted style lines handed written h out =
    let m : Model = handed.model in
    let end : ExactSolveEnd = out.0.end in
    let final : List ℕ = final_text m (form_at_limit m) end in (
      answer_of opening_budget end,
      route_front out.0,
      ended_lines (lines_of_solved m end) ++ final,
      out.2 ∙ basis_begins m out.0
          ∙ ap (λ (bs : List ℕ). reply_text (answer_of opening_budget end) ++ 10 ∷ bs)
          (route_ends out.0 (ended_lines (lines_of_solved m end) ++ final)),
      front_no_feed out.0,
      accepted_before style lines m h.behind h.text opening_budget end final out.1.may_answer,
    )
