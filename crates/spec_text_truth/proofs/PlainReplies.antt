-- A reply to an ask whose names have no line feed is one line.
--
-- `fall_no_feed`: the text of why a warm start was given up has no line feed.
-- `pivots_no_feed`: the text of a number of pivots has no line feed.
-- `reply_no_feed`: the line of a reply has no line feed in it, where no name in it has one.
-- `step_plain`: where no name in a request has a line feed, and the model is usual, no name in the reply has one.
use Rattle.std.proofs.Common.{◌≡◌, ℕ, Bool, true, false, cond, List, [], ◌∷◌, ◌++◌, length, Option, Some, None}
use Rattle.std.proofs.Common.{Ok, Err, IfErr, refl, sym, subst, ◌⊎◌, inl, inr, option_map, arith}
use Rattle.std.specs.Prelude.{All, IfSome, codes, decimal}
use Rattle.std.specs.List.{find, flat_map}
use Rattle.std.proofs.lemmas.List.Elements.{All-nil, All-cons, All-head, All-tail, All-append}
use Rattle.spec_exact.specs.Fraction.{ℚ}
use Rattle.spec_model.specs.Model.{Model, Name}
use Rattle.spec_model.specs.Kept.{IsModel, IsUsualModel}
use Rattle.spec_edit.specs.declared.edit.EditFault.{EditFault}
use Rattle.spec_edit.specs.declared.edit.EditFault.TheVariants as fault
use Rattle.spec_edit.specs.declared.edit.Which.{Which}
use Rattle.spec_edit.specs.declared.edit.Which.TheVariants.{Rows, Columns}
use Rattle.spec_edit.specs.Edited.{ExactEdit, OrFault, edited}
use Rattle.spec_mps.specs.declared.style.Style.{Style}
use Rattle.spec_mps.specs.declared.style.Style.TheVariants as style
use Rattle.spec_mps.specs.Checks.{code_number}
use Rattle.spec_mps.specs.Fields.{Field, Fields}
use Rattle.spec_mps.specs.Written.{WrittenCard, WrittenCards, Head, Data, cards_of, is_wide, data_fields, too_wide}
use Rattle.spec_mps.proofs.WrittenShort.{IsShortCard, cards_short}
use Rattle.spec_check.specs.declared.certificate.Certificate.{Certificate}
use Rattle.spec_check.specs.declared.certificate.SettleFault.{SettleFault}
use Rattle.spec_check.specs.declared.certificate.SettleFault.TheVariants as settle
use Rattle.spec_check.specs.declared.certificate.Verdict.{Verdict}
use Rattle.spec_check.specs.declared.certificate.Verdict.TheVariants as verdict
use Rattle.spec_check.specs.Raw.{ExactRaw}
use Rattle.spec_check.specs.Settle.{Settled, certificate_for}
use Rattle.spec_runs.specs.declared.ends.Fall.{Fall}
use Rattle.spec_runs.specs.declared.ends.Fall.TheVariants as fall
use Rattle.spec_board.specs.declared.read.Put.{Put}
use Rattle.spec_board.specs.declared.read.Put.TheVariants as puts
use Rattle.spec_board.specs.Reads.{ExactRead}
use Rattle.spec_server.specs.declared.answer.How.{How}
use Rattle.spec_server.specs.declared.answer.How.TheVariants.{Cold, Basis, Fell}
use Rattle.spec_server.specs.declared.answer.Publication.{Publication}
use Rattle.spec_server.specs.declared.answer.Publication.TheVariants.{Nothing, Same, Tried}
use Rattle.spec_server.specs.declared.asks.Ask.TheVariants as ask
use Rattle.spec_server.specs.declared.asks.Refusal.{Refusal}
use Rattle.spec_server.specs.declared.asks.Refusal.TheVariants as refusal
use Rattle.spec_server.specs.declared.asks.Reply.TheVariants as reply
use Rattle.spec_server.specs.declared.command.LineFault.{LineFault}
use Rattle.spec_server.specs.declared.command.LineFault.TheVariants as line_fault
use Rattle.spec_server.specs.declared.command.Plain.TheVariants as command
use Rattle.spec_check.specs.declared.solve_end.SolveEnd.TheVariants as outcome
use Rattle.spec_runs.specs.Cold.{ExactSolveEnd}
use Rattle.spec_server.specs.Machine.{ExactAsk, ExactReply, ExactLastAnswer, State, settle_reply, verdict_on, check_reply}
use Rattle.spec_server.specs.Machine.{fixed_reply, write_reply, cert_reply, how_reply, solve_due, wide_due, edit_refusal, edit_due}
use Rattle.spec_server.specs.Machine.{change_due, due, answer_of}
use Rattle.spec_server.specs.Output.{reply_text, verdict_text, fall_text, how_text, pivots_text, put_text, publication_text}
use Rattle.spec_server.specs.Output.{line_fault_text, fault_text, item_text, repeated_text, which_text, refusal_text}
use Rattle.spec_server.specs.Output.{count_of_lines}
use Rattle.spec_server.specs.Step.{AloneStep}
use Rattle.spec_server.proofs.Simply.{Does, WantsMemory, step_simply}
use Rattle.spec_text_truth.specs.TrueOutput.{HasNoFeed}
use Rattle.spec_text_truth.proofs.PlainText.{tested_no_feed, both_no_feed, decimal_no_feed}
use Rattle.spec_text_truth.proofs.PlainWords.{printed_no_feed}
use Rattle.spec_text_truth.proofs.TrueLines.{past_no_feed, known_no_feed, spent_no_feed}
use Rattle.spec_text_truth.proofs.PlainAsks.{IsPlainEdit, IsPlainRaw, IsPlainAsk}
use Rattle.spec_text_truth.proofs.PlainFaults.{IsPlainFault, edited_plain}
use Rattle.spec_text_truth.proofs.PlainSettles.{IsPlainSettle, certificate_plain}

-- ---- the text of a reply

abbrev pub IsPlainRefusal : Refusal Name (List ℕ) → Type 0
IsPlainRefusal (refusal.Name name) = HasNoFeed name
IsPlainRefusal (refusal.Taken name) = HasNoFeed name
IsPlainRefusal (refusal.Repeated name) = HasNoFeed name
IsPlainRefusal (refusal.FixedWide item) = HasNoFeed item
IsPlainRefusal (refusal.FreeRow name) = HasNoFeed name
IsPlainRefusal other = Unit {0}

abbrev pub IsPlainReply : ExactReply → Type 0
IsPlainReply (reply.Refused why) = IsPlainRefusal why
IsPlainReply other = Unit {0}

-- a space has no line feed
blank_no_feed : HasNoFeed (codes " ")
blank_no_feed = tested_no_feed (codes " ") refl

-- the text of why a line is no command has no line feed
line_fault_no_feed : (why : LineFault) → HasNoFeed (line_fault_text why)
line_fault_no_feed line_fault.Word = tested_no_feed (codes "1 WORD") refl
line_fault_no_feed line_fault.Number = tested_no_feed (codes "2 NUMBER") refl
line_fault_no_feed line_fault.Wide = tested_no_feed (codes "3 WIDE") refl
line_fault_no_feed line_fault.Long = tested_no_feed (codes "11 LONG") refl

-- the word for rows or for columns has no line feed
which_no_feed : (which : Which) → HasNoFeed (which_text which)
which_no_feed Rows = tested_no_feed (codes "ROWS") refl
which_no_feed Columns = tested_no_feed (codes "COLUMNS") refl

-- the text of a limit of rows or columns has no line feed
limit_no_feed : (which : Which) (count : ℕ) →
    HasNoFeed (codes "7 LIMIT " ++ which_text which ++ codes " " ++ decimal count)
limit_no_feed which count =
    both_no_feed (codes "7 LIMIT " ++ which_text which ++ codes " ") (decimal count)
    (both_no_feed (codes "7 LIMIT " ++ which_text which) (codes " ")
    (both_no_feed (codes "7 LIMIT ") (which_text which) (tested_no_feed (codes "7 LIMIT ") refl) (which_no_feed which))
    blank_no_feed)
    (decimal_no_feed count)

-- where a refusal has no name with a line feed, its text has no line feed
refusal_no_feed : (why : Refusal Name (List ℕ)) → IsPlainRefusal why → HasNoFeed (refusal_text why)
unfolding fault_text item_text repeated_text
refusal_no_feed (refusal.Bad why) h = line_fault_no_feed why
refusal_no_feed refusal.NoModel h = tested_no_feed (codes "4 NOMODEL") refl
refusal_no_feed (refusal.Name name) h =
    both_no_feed (codes "5 NAME ") name (tested_no_feed (codes "5 NAME ") refl) h
refusal_no_feed (refusal.Taken name) h =
    both_no_feed (codes "6 TAKEN ") name (tested_no_feed (codes "6 TAKEN ") refl) h
refusal_no_feed (refusal.Limit which count) h = limit_no_feed which count
refusal_no_feed refusal.BadName h = tested_no_feed (codes "13 BADNAME") refl
refusal_no_feed refusal.NoAnswer h = tested_no_feed (codes "9 NOANSWER") refl
refusal_no_feed (refusal.Repeated name) h =
    both_no_feed (codes "12 REPEATED ") name (tested_no_feed (codes "12 REPEATED ") refl) h
refusal_no_feed (refusal.Misspelled why) h =
    let line : List ℕ = codes "MPS " ++ decimal why.line in
    both_no_feed (codes "8 ") (line ++ codes " M" ++ decimal (code_number why.code)) (tested_no_feed (codes "8 ") refl)
    (both_no_feed (line ++ codes " M") (decimal (code_number why.code))
    (both_no_feed line (codes " M")
    (both_no_feed (codes "MPS ") (decimal why.line) (tested_no_feed (codes "MPS ") refl) (decimal_no_feed why.line))
    (tested_no_feed (codes " M") refl))
    (decimal_no_feed (code_number why.code)))
refusal_no_feed (refusal.Unfit line) h =
    both_no_feed (codes "14 CERT ") (decimal line) (tested_no_feed (codes "14 CERT ") refl) (decimal_no_feed line)
refusal_no_feed (refusal.FixedWide item) h =
    both_no_feed (codes "10 FIXEDWIDE ") item (tested_no_feed (codes "10 FIXEDWIDE ") refl) h
refusal_no_feed (refusal.FreeRow name) h =
    both_no_feed (codes "16 FREEROW ") name (tested_no_feed (codes "16 FREEROW ") refl) h

-- the text of a checker's verdict has no line feed
verdict_no_feed : (what : Verdict ℚ) → HasNoFeed (verdict_text what)
verdict_no_feed (verdict.Yes what) =
    both_no_feed (codes "YES ") _ (tested_no_feed (codes "YES ") refl) (known_no_feed what)
verdict_no_feed (verdict.No n) =
    both_no_feed (codes "NO ") (decimal n) (tested_no_feed (codes "NO ") refl) (decimal_no_feed n)
verdict_no_feed (verdict.Past p) = past_no_feed p

pub fall_no_feed : (why : Fall) → HasNoFeed (fall_text why)
fall_no_feed fall.Singular = tested_no_feed (codes "SINGULAR") refl
fall_no_feed fall.Unfit = tested_no_feed (codes "UNFIT") refl
fall_no_feed fall.Past = tested_no_feed (codes "PAST") refl
fall_no_feed fall.Spent = tested_no_feed (codes "SPENT") refl

-- the text of how an answer was found has no line feed
how_no_feed : (how : How) → HasNoFeed (how_text how)
how_no_feed Cold = tested_no_feed (codes "COLD") refl
how_no_feed (Basis k) =
    both_no_feed (codes "BASIS ") (decimal k) (tested_no_feed (codes "BASIS ") refl) (decimal_no_feed k)
how_no_feed (Fell k why) =
    both_no_feed (codes "FELL " ++ decimal k ++ codes " ") (fall_text why)
    (both_no_feed (codes "FELL " ++ decimal k) (codes " ")
    (both_no_feed (codes "FELL ") (decimal k) (tested_no_feed (codes "FELL ") refl) (decimal_no_feed k)) blank_no_feed)
    (fall_no_feed why)

pub pivots_no_feed : (pivots : Option ℕ) → HasNoFeed (pivots_text pivots)
pivots_no_feed None = tested_no_feed (codes "-") refl
pivots_no_feed (Some n) = decimal_no_feed n

-- the text of how publishing words ended has no line feed
put_no_feed : (put : Put) → HasNoFeed (put_text put)
put_no_feed (puts.Published k) =
    both_no_feed (codes "PUBLISHED ") (decimal k) (tested_no_feed (codes "PUBLISHED ") refl) (decimal_no_feed k)
put_no_feed (puts.Raced c) =
    both_no_feed (codes "RACED ") (decimal c) (tested_no_feed (codes "RACED ") refl) (decimal_no_feed c)
put_no_feed (puts.Full c) =
    both_no_feed (codes "FULL ") (decimal c) (tested_no_feed (codes "FULL ") refl) (decimal_no_feed c)

-- the text of what became of the basis of an answer has no line feed
publication_no_feed : (publication : Publication) → HasNoFeed (publication_text publication)
publication_no_feed Nothing = tested_no_feed (codes "NONE") refl
publication_no_feed Same = tested_no_feed (codes "SAME") refl
publication_no_feed (Tried put) = put_no_feed put

-- the text of the reply to HOW has no line feed
found_no_feed : (how : How) (pivots : Option ℕ) (publication : Publication) →
    HasNoFeed (codes "HOW " ++ how_text how ++ codes " PIVOTS " ++ pivots_text pivots ++ codes " " ++ publication_text publication)
found_no_feed how pivots publication =
    both_no_feed (codes "HOW " ++ how_text how ++ codes " PIVOTS " ++ pivots_text pivots ++ codes " ")
    (publication_text publication)
    (both_no_feed (codes "HOW " ++ how_text how ++ codes " PIVOTS " ++ pivots_text pivots) (codes " ")
    (both_no_feed (codes "HOW " ++ how_text how ++ codes " PIVOTS ") (pivots_text pivots)
    (both_no_feed (codes "HOW " ++ how_text how) (codes " PIVOTS ")
    (both_no_feed (codes "HOW ") (how_text how) (tested_no_feed (codes "HOW ") refl) (how_no_feed how))
    (tested_no_feed (codes " PIVOTS ") refl))
    (pivots_no_feed pivots)) blank_no_feed)
    (publication_no_feed publication)

pub reply_no_feed : (replied : ExactReply) → IsPlainReply replied → HasNoFeed (reply_text replied)
unfolding reply_text
reply_no_feed (reply.Loaded rows columns) h =
    both_no_feed (codes "LOADED " ++ decimal rows ++ codes " ") (decimal columns)
    (both_no_feed (codes "LOADED " ++ decimal rows) (codes " ")
    (both_no_feed (codes "LOADED ") (decimal rows) (tested_no_feed (codes "LOADED ") refl) (decimal_no_feed rows))
    blank_no_feed)
    (decimal_no_feed columns)
reply_no_feed (reply.Written text) h =
    both_no_feed (codes "TEXT ") (decimal (count_of_lines text)) (tested_no_feed (codes "TEXT ") refl)
    (decimal_no_feed (count_of_lines text))
reply_no_feed reply.Done h = tested_no_feed (codes "OK") refl
reply_no_feed (reply.Known what) h = known_no_feed what
reply_no_feed (reply.Past p) h = past_no_feed p
reply_no_feed (reply.Spent budget) h = spent_no_feed budget
reply_no_feed (reply.Certified lines) h =
    both_no_feed (codes "CERT ") (decimal (length lines)) (tested_no_feed (codes "CERT ") refl)
    (decimal_no_feed (length lines))
reply_no_feed (reply.Found how pivots publication) h = found_no_feed how pivots publication
reply_no_feed (reply.Checked what) h = verdict_no_feed what
reply_no_feed (reply.Wide lines) h =
    both_no_feed (codes "WIDE ") (decimal (length lines)) (tested_no_feed (codes "WIDE ") refl)
    (decimal_no_feed (length lines))
reply_no_feed reply.Bye h = tested_no_feed (codes "BYE") refl
reply_no_feed reply.Memory h = tested_no_feed (codes "MEMORY") refl
reply_no_feed (reply.Refused why) h =
    both_no_feed (codes "ERR ") (refusal_text why) (tested_no_feed (codes "ERR ") refl) (refusal_no_feed why h)

-- ---- why it is refused

-- where the fault of an edit has no name with a line feed, the reply with it has none
refusal_plain : (why : EditFault Name) → IsPlainFault why → IsPlainReply (edit_refusal why)
refusal_plain (fault.UnknownName name) h = h
refusal_plain (fault.Taken name) h = h
refusal_plain (fault.Limit which count) h = tt
refusal_plain fault.BadName h = tt
refusal_plain (fault.Repeated name) h = h
refusal_plain (fault.FreeRow name) h = h

-- where the fault of a certificate for a model has no name with a line feed, the reply with it has none
settle_reply_plain : (why : SettleFault Name) → IsPlainSettle why → IsPlainReply (settle_reply why)
settle_reply_plain (settle.UnknownName name) h = h
settle_reply_plain (settle.Repeated name) h = h

-- ---- what is too wide for fixed form

abbrev IsPlainField : Field → Type 0
IsPlainField f = HasNoFeed f.text

-- where a data card is short, its fields have no line feed
data_plain : (fields : Fields) → IsShortCard (Data fields) → All IsPlainField fields
data_plain [] h = All-nil IsPlainField
data_plain (f ∷ fields) h =
    let few = h.1 in
    All-cons IsPlainField f fields (printed_no_feed f.text h.0.0.plain) (data_plain fields (h.0.1, omega (arith, few)))

-- where a card is short, its data fields have no line feed
card_plain : (card : WrittenCard) → IsShortCard card → All IsPlainField (data_fields card)
card_plain (Head start fields) h = All-nil IsPlainField
card_plain (Data fields) h = data_plain fields h

-- where cards are short, their data fields have no line feed
cards_plain : (cards : WrittenCards) → All IsShortCard cards → All IsPlainField (flat_map data_fields cards)
cards_plain [] h = All-nil IsPlainField
cards_plain (card ∷ cards) h =
    All-append IsPlainField (data_fields card) (flat_map data_fields cards)
    (card_plain card (All-head IsShortCard card cards h)) (cards_plain cards (All-tail IsShortCard card cards h))

-- where no field has a line feed, the first field that is too wide has none
found_plain : (fields : Fields) → All IsPlainField fields → IfSome (find is_wide fields) IsPlainField
found_plain [] h = tt
found_plain (f ∷ fields) h = by (is_wide f) (found_plain fields (All-tail IsPlainField f fields h))
  where
    by : (t : Bool) → IfSome (find is_wide fields) IsPlainField →
        IfSome (cond t (Some f) (find is_wide fields)) IsPlainField
    by true k = All-head IsPlainField f fields h
    by false k = k

-- where a field has no line feed, if there is one, its text has none
text_of_plain : (o : Option Field) → IfSome o IsPlainField → IfSome (option_map (λ (f : Field). f.text) o) HasNoFeed
text_of_plain None h = tt
text_of_plain (Some f) h = h

-- what is too wide for fixed form in a model that may be kept has no line feed
wide_plain : (m : Model) → IsModel m → IfSome (too_wide m) HasNoFeed
unfolding too_wide
wide_plain m kept =
    text_of_plain (find is_wide (flat_map data_fields (cards_of m)))
    (found_plain (flat_map data_fields (cards_of m)) (cards_plain (cards_of m) (cards_short m kept)))

-- ---- the reply to an ask

-- where the model of a session is usual, the reply to WRITE has no name with a line feed
write_plain : (held : Option Model) (form : Style) → IfSome held IsUsualModel → IsPlainReply (write_reply held form)
write_plain None form kept = tt
write_plain (Some m) style.Free kept = tt
write_plain (Some m) style.Fixed kept = by (too_wide m) (wide_plain m kept.0)
  where
    by : (item : Option (List ℕ)) → IfSome item HasNoFeed → IsPlainReply (fixed_reply m item)
    by None h = tt
    by (Some item) h = h

-- the reply to CERT has no name with a line feed
cert_plain : (held : Option Model) (last : Option ExactLastAnswer) → IsPlainReply (cert_reply held last)
cert_plain None last = tt
cert_plain (Some m) None = tt
cert_plain (Some m) (Some last) = tt

-- the reply to HOW has no name with a line feed
how_plain : (last : Option ExactLastAnswer) → IsPlainReply (how_reply last)
how_plain None = tt
how_plain (Some last) = tt

-- where the fault of a certificate has no name with a line feed, the reply with the verdict has none
verdict_plain : (m : Model) (r : Settled (Certificate (List ℚ))) → IfErr r IsPlainSettle → IsPlainReply (verdict_on m r)
verdict_plain m (Ok cert) h = tt
verdict_plain m (Err why) h = settle_reply_plain why h

-- where a certificate that was read has no name with a line feed, the reply to CHECK has none
check_plain : (held : Option Model) (raw : ExactRaw) → IsPlainRaw raw → IsPlainReply (check_reply held raw)
check_plain None raw h = tt
check_plain (Some m) raw h = verdict_plain m (certificate_for m raw) (certificate_plain m raw h)

-- the reply to a solve has no name
answer_plain : (budget : ℕ) (end : ExactSolveEnd) → IsPlainReply (answer_of budget end)
answer_plain budget (outcome.Ended known certificate basis pivots) = tt
answer_plain budget (outcome.Past p) = tt
answer_plain budget outcome.Spent = tt

module _ (old new : State) (replied : ExactReply) where
  as_stated : (stated : ExactReply) → replied ≡ stated → IsPlainReply stated → IsPlainReply replied
  as_stated stated e h = subst IsPlainReply (sym e) h

  -- the reply to a solve has no name with a line feed
  solve_plain : (held : Option Model) → Does old (solve_due old held) replied new → IsPlainReply replied
  solve_plain None d = as_stated _ d.0 tt
  solve_plain (Some m) d = as_stated _ d.answer (answer_plain old.budget d.end)

  -- the reply to a wide solve has no name with a line feed
  wide_due_plain : (held : Option Model) → Does old (wide_due old held) replied new → IsPlainReply replied
  wide_due_plain None d = as_stated _ d.0 tt
  wide_due_plain (Some m) d = as_stated _ d.answer tt

  -- where the fault of an edit has no name with a line feed, the reply to the edit has none
  edit_plain : (r : OrFault Model) → IfErr r IsPlainFault → Does old (edit_due old r) replied new → IsPlainReply replied
  edit_plain (Ok m) h d = as_stated _ d.0 tt
  edit_plain (Err why) h d = as_stated _ d.0 (refusal_plain why h)

  -- where an edit has no name with a line feed, the reply to it has none
  change_plain : (held : Option Model) (e : ExactEdit) → IsPlainEdit e → Does old (change_due old held e) replied new →
      IsPlainReply replied
  change_plain None e h d = as_stated _ d.0 tt
  change_plain (Some m) e h d = edit_plain (edited m e) (edited_plain m e h) d

  -- where a request has no name with a line feed, and the session's model is usual, the reply that is due has none
  due_plain : (asked : ExactAsk) → IfSome old.model IsUsualModel → IsPlainAsk asked →
      Does old (due old asked) replied new →
      IsPlainReply replied
  due_plain (ask.Plain (command.Write form)) kept h d = as_stated _ d.0 (write_plain old.model form kept)
  due_plain (ask.Plain command.Solve) kept h d = solve_plain old.model d
  due_plain (ask.Plain command.Cert) kept h d = as_stated _ d.0 (cert_plain old.model old.last)
  due_plain (ask.Plain command.How) kept h d = as_stated _ d.0 (how_plain old.last)
  due_plain (ask.Plain (command.Budget n)) kept h d = as_stated _ d.0 tt
  due_plain (ask.Plain command.Wide) kept h d = wide_due_plain old.model d
  due_plain (ask.Plain command.Quit) kept h d = as_stated _ d.0 tt
  due_plain (ask.Plain (command.Change e)) kept h d = change_plain old.model e h d
  due_plain (ask.Loaded m) kept h d = as_stated _ d.0 tt
  due_plain (ask.Misspelled why) kept h d = as_stated _ d.0 tt
  due_plain (ask.Checked raw) kept h d = as_stated _ d.0 (check_plain old.model raw h)
  due_plain (ask.Unfit line) kept h d = as_stated _ d.0 tt
  due_plain (ask.Bad why) kept h d = as_stated _ d.0 tt

pub step_plain : (places : ℕ) (old new : State) (asked : ExactAsk) (reads : List ExactRead) (replied : ExactReply) →
    AloneStep places old asked reads replied new → IfSome old.model IsUsualModel → IsPlainAsk asked →
    IsPlainReply replied
step_plain places old new asked reads replied s kept h = by (step_simply places old reads replied new asked s)
  where
    by : Does old (due old asked) replied new ⊎ WantsMemory old replied new → IsPlainReply replied
    by (inl d) = due_plain old new replied asked kept h d
    by (inr w) = subst IsPlainReply (sym w.memory) tt
