-- What is written of a reply is its line and the lines behind it, as many as it says.
--
-- `announced_first`: a line that announces lines behind it begins with T, C or W.
-- `reply_lines_told`: what is written of a reply whose texts are of lines is its line, with its session's number before
--   it where lines name sessions, and the lines that stand behind it.
-- `step_listed`: in a good state, the texts and certificates that a step replies are of whole lines.
use Rattle.std.proofs.Common.{◌≡◌, ◌≢◌, ℕ, suc, Bool, true, false, cond, ◌||◌, nat_eq, List, [], ◌∷◌, ◌++◌, length, map}
use Rattle.std.proofs.Common.{get_or, Option, Some, None, Ok, Err, refl, sym, ap, ◌∙◌, subst, ◌⊎◌, inl, inr, append_assoc}
use Rattle.std.proofs.Common.{eqb-true}
use Rattle.std.specs.Prelude.{All, IfSome, codes, decimal}
use Rattle.std.specs.List.{filter, onto_first}
use Rattle.std.proofs.lemmas.List.Elements.{All-nil, All-cons, All-head, All-tail, All-map}
use Rattle.std.proofs.lemmas.List.Folds.{flat_map-map}
use Rattle.spec_exact.specs.Fraction.{ℚ}
use Rattle.spec_model.specs.Model.{Model, Name}
use Rattle.spec_model.specs.Kept.{IsModel, IsUsualModel}
use Rattle.spec_edit.specs.declared.edit.EditFault.{EditFault}
use Rattle.spec_edit.specs.declared.edit.EditFault.TheVariants as fault
use Rattle.spec_edit.specs.Edited.{ExactEdit, OrFault, edited}
use Rattle.spec_mps.specs.declared.style.Style.{Style}
use Rattle.spec_mps.specs.declared.style.Style.TheVariants as style
use Rattle.spec_mps.specs.Written.{cards_of, cards_text, line_text, free, fixed, too_wide}
use Rattle.spec_mps.proofs.WrittenShort.{plain_line, cards_short}
use Rattle.spec_mps.proofs.WrittenSteps.{IsPlainLine}
use Rattle.spec_check.specs.declared.certificate.Certificate.{Certificate}
use Rattle.spec_check.specs.declared.certificate.Known.{Known}
use Rattle.spec_check.specs.declared.certificate.Known.TheVariants as known
use Rattle.spec_check.specs.declared.certificate.SettleFault.TheVariants as settle
use Rattle.spec_check.specs.declared.certificate.Verdict.{Verdict}
use Rattle.spec_check.specs.declared.certificate.Verdict.TheVariants as verdict
use Rattle.spec_check.specs.Raw.{ExactRaw}
use Rattle.spec_check.specs.Settle.{Settled, certificate_for}
use Rattle.spec_check.specs.declared.solve_end.SolveEnd.TheVariants as outcome
use Rattle.spec_runs.specs.Cold.{ExactSolveEnd}
use Rattle.spec_solve.specs.Answers.{MayAnswer}
use Rattle.spec_solve.specs.declared.exact.ExactEnd.TheVariants.{Answered, Open}
use Rattle.spec_solve.specs.Exact.{RationalEnd, IsExactEnd}
use Rattle.spec_certificate.specs.TextWritten.{certificate_lines, wide_certificate_lines}
use Rattle.spec_board.specs.Reads.{ExactRead}
use Rattle.spec_server.specs.declared.addressing.Addressing.{Addressing}
use Rattle.spec_server.specs.declared.asks.Ask.TheVariants as ask
use Rattle.spec_server.specs.declared.asks.Reply.TheVariants as reply
use Rattle.spec_server.specs.declared.command.Plain.TheVariants as command
use Rattle.spec_server.specs.LastFits.{LastFits}
use Rattle.spec_server.specs.Machine.{ExactAsk, ExactReply, ExactLastAnswer, State, verdict_on, check_reply, fixed_reply}
use Rattle.spec_server.specs.Machine.{write_reply, lines_of_solved, cert_reply, how_reply, solve_due, wide_due}
use Rattle.spec_server.specs.Machine.{edit_refusal}
use Rattle.spec_server.specs.Machine.{edit_due, change_due, due, answer_of}
use Rattle.spec_server.specs.Output.{front_of, reply_text, known_text, verdict_text, count_of_lines, ended_lines, lines_behind, reply_lines}
use Rattle.spec_server.specs.WideLines.{wide_known_text, wide_lines}
use Rattle.spec_server.specs.Step.{AloneStep}
use Rattle.spec_commands.proofs.PlainLines.{certificate_plain}
use Rattle.spec_server.proofs.Sessions.{IsGood}
use Rattle.spec_server.proofs.Simply.{Does, WantsMemory, step_simply}
use Rattle.spec_truth.proofs.AnswerLines.{first}
use Rattle.spec_text_truth.specs.TrueOutput.{HasNoFeed, Asking, Told, Announces, IsFramed}
use Rattle.spec_text_truth.proofs.PlainReplies.{IsPlainReply, reply_no_feed}
use Rattle.spec_text_truth.proofs.PlainWords.{printed_no_feed}
use Rattle.spec_text_truth.proofs.PlainText.{tested_no_feed}
use Rattle.spec_text_truth.proofs.WideReplies.{known_no_feed, certificate_no_feed}

-- ---- lines that a line feed ends

abbrev pub lines_in : List ℕ → List (List ℕ)
lines_in [] = []
lines_in (b ∷ bs) = cond (nat_eq b 10) ([] ∷ lines_in bs) (onto_first b (lines_in bs))

-- a test tells a byte that is no line feed from one
not_feed : (b : ℕ) → b ≢ 10 → nat_eq b 10 ≡ false
not_feed b h = by (nat_eq b 10) refl
  where
    by : (t : Bool) → nat_eq b 10 ≡ t → nat_eq b 10 ≡ false
    by true e = absurd (h (eqb-true b 10 e))
    by false e = e

-- the lines in a text that begins with a line are this line and those in the rest
lines_in_line : (line more : List ℕ) → HasNoFeed line → lines_in (line ++ 10 ∷ more) ≡ line ∷ lines_in more
lines_in_line [] more h = refl
lines_in_line (b ∷ line) more h =
    let rest : List (List ℕ) = lines_in (line ++ 10 ∷ more) in
    ap (λ t. cond t ([] ∷ rest) (onto_first b rest)) (not_feed b (All-head (λ b. b ≢ 10) b line h))
    ∙ ap (onto_first b) (lines_in_line line more (All-tail (λ b. b ≢ 10) b line h))

-- the lines in the text of lines without a line feed are these lines
lines_in_ended : (lines : List (List ℕ)) → All HasNoFeed lines → lines_in (ended_lines lines) ≡ lines
unfolding ended_lines
lines_in_ended [] h = refl
lines_in_ended (line ∷ lines) h =
    ap lines_in (append_assoc line (10 ∷ []) (ended_lines lines))
    ∙ lines_in_line line (ended_lines lines) (All-head HasNoFeed line lines h)
    ∙ ap (λ ls. line ∷ ls) (lines_in_ended lines (All-tail HasNoFeed line lines h))

-- a text that begins with a line has one line more than the rest
count_line : (line more : List ℕ) → HasNoFeed line → count_of_lines (line ++ 10 ∷ more) ≡ suc (count_of_lines more)
unfolding count_of_lines
count_line [] more h = refl
count_line (b ∷ line) more h =
    let rest : List ℕ = filter (λ b. nat_eq b 10) (line ++ 10 ∷ more) in
    ap (λ (t : Bool). length (cond t (b ∷ rest) rest)) (not_feed b (All-head (λ b. b ≢ 10) b line h))
    ∙ count_line line more (All-tail (λ b. b ≢ 10) b line h)

-- the text of lines without a line feed has as many lines
count_ended : (lines : List (List ℕ)) → All HasNoFeed lines → count_of_lines (ended_lines lines) ≡ length lines
unfolding ended_lines count_of_lines
count_ended [] h = refl
count_ended (line ∷ lines) h =
    ap count_of_lines (append_assoc line (10 ∷ []) (ended_lines lines))
    ∙ count_line line (ended_lines lines) (All-head HasNoFeed line lines h)
    ∙ ap suc (count_ended lines (All-tail HasNoFeed line lines h))

-- ---- the lines behind a reply

abbrev pub behind_of : ExactReply → List (List ℕ)
behind_of (reply.Written text) = lines_in text
behind_of (reply.Certified lines) = lines
behind_of (reply.Wide lines) = lines
behind_of other = []

abbrev pub told_by : Asking → ExactReply → Told
told_by asked replied = record { asked = asked; line = reply_text replied; behind = behind_of replied }

-- the bytes are those of such lines
pub record AreOfLines (bytes : List ℕ) : Type 0 where
  pub lines : List (List ℕ)
  pub is_of : bytes ≡ ended_lines lines
  pub plain : All HasNoFeed lines

-- a text, a certificate, and what a wide solve replies, are of lines
abbrev pub IsListed : ExactReply → Type 0
IsListed (reply.Written text) = AreOfLines text
IsListed (reply.Certified lines) = All HasNoFeed lines
IsListed (reply.Wide lines) = All HasNoFeed lines
IsListed other = Unit {0}

-- whether a line begins with the first letter of such a word
abbrev pub counts : ℕ → Bool
counts letter = nat_eq letter 84 || nat_eq letter 67 || nat_eq letter 87

pub announced_first : (line more : List ℕ) → Announces line more → counts (first line) ≡ true
announced_first line more (inl e) = ap (λ (l : List ℕ). counts (first l)) e
announced_first line more (inr (inl e)) = ap (λ (l : List ℕ). counts (first l)) e
announced_first line more (inr (inr e)) = ap (λ (l : List ℕ). counts (first l)) e

-- the text of what is known begins with no letter that announces lines
known_counts : (what : Known ℚ) → counts (first (known_text what)) ≡ false
known_counts (known.Optimal v) = refl
known_counts known.Infeasible = refl
known_counts known.Unbounded = refl

-- the text of a verdict begins with no letter that announces lines
verdict_counts : (what : Verdict ℚ) → counts (first (verdict_text what)) ≡ false
verdict_counts (verdict.Yes what) = refl
verdict_counts (verdict.No n) = refl
verdict_counts (verdict.Past p) = refl

module _ (asked : Asking) where
  -- a reply with a text of lines is framed: its line says how many lines stand behind it
  text_framed : (text : List ℕ) → HasNoFeed (reply_text (reply.Written text)) → AreOfLines text →
      IsFramed (told_by asked (reply.Written text))
  unfolding reply_text
  text_framed text one h =
      let same : lines_in text ≡ h.lines = ap lines_in h.is_of ∙ lines_in_ended h.lines h.plain in
      let count : count_of_lines text ≡ length (lines_in text) =
      ap count_of_lines h.is_of ∙ count_ended h.lines h.plain ∙ sym (ap length same) in
      record {
        one = one;
        each = subst (All HasNoFeed) (sym same) h.plain;
        counted = inl (inl (ap (λ (n : ℕ). codes "TEXT " ++ decimal n) count));
      }

  -- a reply with a certificate's lines is framed: its line says how many stand behind it
  certificate_framed : (lines : List (List ℕ)) → HasNoFeed (reply_text (reply.Certified lines)) → All HasNoFeed lines →
      IsFramed (told_by asked (reply.Certified lines))
  unfolding reply_text
  certificate_framed lines one h = record { one = one; each = h; counted = inl (inr (inl refl)) }

  -- a reply with the lines of a wide solve is framed: its line says how many stand behind it
  wide_framed : (lines : List (List ℕ)) → HasNoFeed (reply_text (reply.Wide lines)) → All HasNoFeed lines →
      IsFramed (told_by asked (reply.Wide lines))
  unfolding reply_text
  wide_framed lines one h = record { one = one; each = h; counted = inl (inr (inr refl)) }

  -- a line without a line feed in it, whose first letter announces no lines, is framed with no line behind it
  alone_framed : (line : List ℕ) → HasNoFeed line → counts (first line) ≡ false →
      IsFramed (record { asked = asked; line = line; behind = [] })
  alone_framed line one other = record {
    one = one;
    each = All-nil HasNoFeed;
    counted = inr (refl, λ more announced. not_both (announced_first line _ announced));
  }
    where
      not_both : counts (first line) ≡ true → ⊥
      not_both e = let z : false ≡ true = sym other ∙ e in cc

  -- a reply whose line has no line feed in it, and whose texts are of lines, is framed
  by_lines : (replied : ExactReply) → HasNoFeed (reply_text replied) → IsListed replied → IsFramed (told_by asked replied)
  unfolding reply_text
  by_lines (reply.Written text) one h = text_framed text one h
  by_lines (reply.Certified lines) one h = certificate_framed lines one h
  by_lines (reply.Wide lines) one h = wide_framed lines one h
  by_lines (reply.Loaded rows columns) one h = alone_framed _ one refl
  by_lines reply.Done one h = alone_framed _ one refl
  by_lines (reply.Known what) one h = alone_framed _ one (known_counts what)
  by_lines (reply.Past p) one h = alone_framed _ one refl
  by_lines (reply.Spent budget) one h = alone_framed _ one refl
  by_lines (reply.Found how pivots publication) one h = alone_framed _ one refl
  by_lines (reply.Checked what) one h = alone_framed _ one (verdict_counts what)
  by_lines reply.Bye one h = alone_framed _ one refl
  by_lines reply.Memory one h = alone_framed _ one refl
  by_lines (reply.Refused why) one h = alone_framed _ one refl

  -- where a reply has no name with a line feed, and its texts are of lines, what is told of it is framed: one line, and
  -- as many behind it as the line says
  pub reply_framed : (replied : ExactReply) → IsPlainReply replied → IsListed replied → IsFramed (told_by asked replied)
  reply_framed replied plain h = by_lines replied (reply_no_feed replied plain) h

-- where a reply is of lines, the bytes behind its line are the text of its lines behind that
behind_is : (replied : ExactReply) → IsListed replied → lines_behind replied ≡ ended_lines (behind_of replied)
unfolding ended_lines
behind_is (reply.Written text) h = h.is_of ∙ ap ended_lines (sym (ap lines_in h.is_of ∙ lines_in_ended h.lines h.plain))
behind_is (reply.Certified lines) h = refl
behind_is (reply.Wide lines) h = refl
behind_is (reply.Loaded rows columns) h = refl
behind_is reply.Done h = refl
behind_is (reply.Known what) h = refl
behind_is (reply.Past p) h = refl
behind_is (reply.Spent budget) h = refl
behind_is (reply.Found how pivots publication) h = refl
behind_is (reply.Checked what) h = refl
behind_is reply.Bye h = refl
behind_is reply.Memory h = refl
behind_is (reply.Refused why) h = refl

pub reply_lines_told : (addressing : Addressing) (session : ℕ) (replied : ExactReply) → IsListed replied →
    reply_lines addressing session replied
    ≡ front_of addressing session ++ reply_text replied ++ 10 ∷ ended_lines (behind_of replied)
unfolding reply_lines
reply_lines_told addressing session replied h =
    ap (λ (behind : List ℕ). front_of addressing session ++ reply_text replied ++ 10 ∷ behind) (behind_is replied h)

-- ---- lines of printed bytes

-- lines of printed bytes have no line feed
plain_no_feed : (lines : List (List ℕ)) → All IsPlainLine lines → All HasNoFeed lines
plain_no_feed lines h = λ i d l. printed_no_feed (get_or lines i d) (h i d l).plain

-- the text of a model that may be kept is that of lines without a line feed
cards_are_lines : (form : Style) (m : Model) → IsModel m → AreOfLines (cards_text form (cards_of m))
unfolding ended_lines
cards_are_lines form m kept = record {
  lines = map (line_text form) (cards_of m);
  is_of = sym (flat_map-map (λ (line : List ℕ). line ++ 10 ∷ []) (line_text form) (cards_of m));
  plain = All-map HasNoFeed (line_text form) (cards_of m)
      (λ i d l. printed_no_feed (line_text form (get_or (cards_of m) i d))
      (plain_line form (get_or (cards_of m) i d) (cards_short m kept i d l)).plain);
}

-- ---- the replies of a session

-- where the model of a session is usual, the reply to WRITE is of lines
write_listed : (held : Option Model) (form : Style) → IfSome held IsUsualModel → IsListed (write_reply held form)
unfolding free fixed
write_listed None form kept = tt
write_listed (Some m) style.Free kept = cards_are_lines style.Free m kept.0
write_listed (Some m) style.Fixed kept = by (too_wide m)
  where
    by : (item : Option (List ℕ)) → IsListed (fixed_reply m item)
    by None = cards_are_lines style.Fixed m kept.0
    by (Some item) = tt

-- the lines of an answer's certificate for a model that may be kept have no line feed
solved_listed : (m : Model) (budget : ℕ) (end : ExactSolveEnd) → IsModel m → MayAnswer m budget end →
    All HasNoFeed (lines_of_solved m end)
solved_listed m budget (outcome.Ended known cert basis pivots) kept may =
    plain_no_feed (certificate_lines m cert) (certificate_plain m kept cert may.0 may.1)
solved_listed m budget (outcome.Past p) kept may = All-nil HasNoFeed
solved_listed m budget outcome.Spent kept may = All-nil HasNoFeed

-- where the model of a session is usual and the last answer fits it, the reply to CERT is of lines
cert_listed : (held : Option Model) (last : Option ExactLastAnswer) → IfSome held IsUsualModel → LastFits held last →
    IsListed (cert_reply held last)
cert_listed None last kept fits = tt
cert_listed (Some m) None kept fits = tt
cert_listed (Some m) (Some last) kept fits = solved_listed m fits.0 last.solved kept.0 fits.1

-- the lines of a wide solve of a model that may be kept have no line feed
wide_listed : (m : Model) (budget : ℕ) (end : RationalEnd) → IsModel m → IsExactEnd m budget None end →
    All HasNoFeed (wide_lines m end)
wide_listed m budget (Answered a) kept h =
    All-cons HasNoFeed (wide_known_text a.known) (wide_certificate_lines m a.certificate) (known_no_feed a.known)
    (certificate_no_feed m kept a.certificate h.0.0)
wide_listed m budget Open kept h =
    All-cons HasNoFeed (codes "OPEN") [] (tested_no_feed (codes "OPEN") refl) (All-nil HasNoFeed)

-- the reply to HOW is of lines, as it holds no text, no certificate and no wide reply
how_listed : (last : Option ExactLastAnswer) → IsListed (how_reply last)
how_listed None = tt
how_listed (Some last) = tt

-- the reply with a verdict on a certificate is of lines
verdict_listed : (m : Model) (r : Settled (Certificate (List ℚ))) → IsListed (verdict_on m r)
verdict_listed m (Ok cert) = tt
verdict_listed m (Err (settle.UnknownName name)) = tt
verdict_listed m (Err (settle.Repeated name)) = tt

-- the reply to CHECK is of lines
check_listed : (held : Option Model) (raw : ExactRaw) → IsListed (check_reply held raw)
check_listed None raw = tt
check_listed (Some m) raw = verdict_listed m (certificate_for m raw)

-- the reply that refuses an edit is of lines
refusal_listed : (why : EditFault Name) → IsListed (edit_refusal why)
refusal_listed (fault.UnknownName name) = tt
refusal_listed (fault.Taken name) = tt
refusal_listed (fault.Limit which count) = tt
refusal_listed fault.BadName = tt
refusal_listed (fault.Repeated name) = tt
refusal_listed (fault.FreeRow name) = tt

-- the reply to a solve is of lines
answer_listed : (budget : ℕ) (end : ExactSolveEnd) → IsListed (answer_of budget end)
answer_listed budget (outcome.Ended known certificate basis pivots) = tt
answer_listed budget (outcome.Past p) = tt
answer_listed budget outcome.Spent = tt

module _ (old new : State) (replied : ExactReply) where
  as_stated : (stated : ExactReply) → replied ≡ stated → IsListed stated → IsListed replied
  as_stated stated e h = subst IsListed (sym e) h

  -- the reply to a solve is of lines
  solve_listed : (held : Option Model) → Does old (solve_due old held) replied new → IsListed replied
  solve_listed None d = as_stated _ d.0 tt
  solve_listed (Some m) d = as_stated _ d.answer (answer_listed old.budget d.end)

  -- where the model of a session is usual, the reply to a wide solve is of lines
  wide_due_listed : (held : Option Model) → IfSome held IsUsualModel → Does old (wide_due old held) replied new →
      IsListed replied
  wide_due_listed None kept d = as_stated _ d.0 tt
  wide_due_listed (Some m) kept d = as_stated _ d.answer (wide_listed m old.budget d.end kept.0 d.is_end)

  -- the reply to an edit, made or refused, is of lines
  edit_listed : (r : OrFault Model) → Does old (edit_due old r) replied new → IsListed replied
  edit_listed (Ok m) d = as_stated _ d.0 tt
  edit_listed (Err why) d = as_stated _ d.0 (refusal_listed why)

  -- the reply to an edit, with a model or without, is of lines
  change_listed : (held : Option Model) (e : ExactEdit) → Does old (change_due old held e) replied new →
      IsListed replied
  change_listed None e d = as_stated _ d.0 tt
  change_listed (Some m) e d = edit_listed (edited m e) d

  -- in a good state, the reply that is due for a request is of lines
  due_listed : (asked : ExactAsk) → IsGood old → Does old (due old asked) replied new → IsListed replied
  due_listed (ask.Plain (command.Write form)) good d = as_stated _ d.0 (write_listed old.model form good.kept)
  due_listed (ask.Plain command.Solve) good d = solve_listed old.model d
  due_listed (ask.Plain command.Cert) good d = as_stated _ d.0 (cert_listed old.model old.last good.kept good.fits)
  due_listed (ask.Plain command.How) good d = as_stated _ d.0 (how_listed old.last)
  due_listed (ask.Plain (command.Budget n)) good d = as_stated _ d.0 tt
  due_listed (ask.Plain command.Wide) good d = wide_due_listed old.model good.kept d
  due_listed (ask.Plain command.Quit) good d = as_stated _ d.0 tt
  due_listed (ask.Plain (command.Change e)) good d = change_listed old.model e d
  due_listed (ask.Loaded m) good d = as_stated _ d.0 tt
  due_listed (ask.Misspelled why) good d = as_stated _ d.0 tt
  due_listed (ask.Checked raw) good d = as_stated _ d.0 (check_listed old.model raw)
  due_listed (ask.Unfit line) good d = as_stated _ d.0 tt
  due_listed (ask.Bad why) good d = as_stated _ d.0 tt

pub step_listed : (places : ℕ) (old new : State) (asked : ExactAsk) (reads : List ExactRead) (replied : ExactReply) →
    AloneStep places old asked reads replied new → IsGood old → IsListed replied
step_listed places old new asked reads replied s good = by (step_simply places old reads replied new asked s)
  where
    by : Does old (due old asked) replied new ⊎ WantsMemory old replied new → IsListed replied
    by (inl d) = due_listed old new replied asked good d
    by (inr w) = subst IsListed (sym w.memory) tt
