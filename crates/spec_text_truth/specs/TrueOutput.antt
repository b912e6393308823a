-- That what the program writes is true, by its command line and by what it has read: each answer that stands there is so
-- of the model that a text spells, of the one that is made from a seed, or of the one that a session has then.
use Rattle.std.specs.Prelude.{ℕ, ◌≡◌, ◌≢◌, ◌<◌, ◌==◌, ◌⊎◌, Option, Some, None, List, [], ◌∷◌, ◌++◌, length, map, All}
use Rattle.std.specs.Prelude.{codes, decimal, fold, option_map, unwrap_or, if◌then◌else◌}
use Rattle.std.specs.List.{filter, flat_map, remove}
use Rattle.std.specs.Io.KnownBytes.{Consumes, Appends}
use Rattle.spec_text.specs.declared.line.Line.{Line}
use Rattle.spec_text.specs.Lines.{lines_of, IsPrefixOf}
use Rattle.spec_text.specs.Words.{same}
use Rattle.spec_exact.specs.Fraction.{ℚ, ◌+ℚ◌, ◌-ℚ◌, ◌*ℚ◌}
use Rattle.spec_model.specs.Model.{Model, Name, Limits}
use Rattle.spec_model.specs.Kept.{usual_limits}
use Rattle.spec_model.specs.Truth.{IsBetween, IsOptimal, IsInfeasible, IsUnbounded}
use Rattle.spec_commands.specs.Generated.{generated}
use Rattle.spec_mps.specs.declared.style.Style.{Style}
use Rattle.spec_mps.specs.NumberText.{Is, number_of}
use Rattle.spec_mps.specs.Reader.{start}
use Rattle.spec_mps.specs.Steps.{Verdict, Spelled, Refused, judge, SpellsWithin}
use Rattle.spec_mps.specs.WideWritten.{wide_text}
use Rattle.spec_iis.specs.declared.side.Side.{Side}
use Rattle.spec_iis.specs.Sides.{IsSide, MeetsAll}
use Rattle.spec_program.specs.declared.command_line.CommandLine.TheVariants.{Run, Read, Generate, Serve}
use Rattle.spec_program.specs.declared.command_line.Moved.{Moved}
use Rattle.spec_program.specs.declared.command_line.TextCommand.TheVariants.{SolveWide, Check, CheckWide, BasisWide}
use Rattle.spec_program.specs.declared.command_line.TextCommand.TheVariants.{Presolve, Iis, Range, RangeAll}
use Rattle.spec_program.specs.CommandLine.{ExactLine, ExactTextCommand}
use Rattle.spec_program.specs.TextLimits.{limits_of}
use Rattle.spec_commands.specs.IisOut.{side_line}
use Rattle.spec_commands.specs.RangeOut.{place_by}
use Rattle.spec_commands.specs.RangesOut.{number_words}
use Rattle.spec_server.specs.declared.addressing.Addressing.{Addressing}
use Rattle.spec_server.specs.declared.addressing.Addressing.TheVariants.{Numbered}
use Rattle.spec_server.specs.declared.command.Command.TheVariants as commands
use Rattle.spec_server.specs.declared.command.Plain.TheVariants as command
use Rattle.spec_server.specs.Addressing.{addressed_in}
use Rattle.spec_server.specs.Command.{ExactCommand}
use Rattle.spec_server.specs.Output.{front_of, ended_lines}
use Rattle.spec_server.specs.Script.{Pending, Between, Text, Certificate, pending_after_line, ends_text, ends_certificate}
use Rattle.spec_server.specs.Streams.{Streams}
use Rattle.spec_serve.specs.Link.{AreFirstOf, HoldsOfAll}
use Rattle.spec_truth.specs.ModelThen.{after_edit}
use Rattle.spec_text_truth.specs.SaidRange.{number_at, with_number, SaysEnd}

-- ---- what a line says of a model

-- none of these bytes is a line feed, so they may be all of a line but the feed that ends it
abbrev pub HasNoFeed : List ℕ → Type 0
HasNoFeed line = All (λ b. b ≢ 10) line

-- the text spells the number v as models' texts do, in at most 127 bits
abbrev pub IsNumber : List ℕ → ℚ → Type 0
IsNumber text v = number_of text ≡ Is v

-- the text is the one that v, of any width, is written as
abbrev pub IsWideNumber : List ℕ → ℚ → Type 0
IsWideNumber text v = text ≡ wide_text v

-- If the line says `OPTIMAL` and a text, `INFEASIBLE` or `UNBOUNDED`, there is a model of the kind `IsOf` of which that
-- is true. The text then says the optimal value, as `IsText` reads it. Of any other line nothing is asked.
pub record IsTrueLine (IsOf : Model → Type 0) (IsText : List ℕ → ℚ → Type 0) (line : List ℕ) : Type 0 where
  pub optimal : (text : List ℕ) → line ≡ codes "OPTIMAL " ++ text →
      (m : Model) × IsOf m × ((v : ℚ) × IsText text v × IsOptimal m v)
  pub infeasible : line ≡ codes "INFEASIBLE" → (m : Model) × IsOf m × IsInfeasible m
  pub unbounded : line ≡ codes "UNBOUNDED" → (m : Model) × IsOf m × IsUnbounded m

-- if the line is `YES` and more, IsTrue holds of what stands behind this word
abbrev pub BehindYes : (List ℕ → Type 0) → List ℕ → Type 0
BehindYes IsTrue line = (rest : List ℕ) → line ≡ codes "YES " ++ rest → IsTrue rest

-- IsTrue holds of the first line of an output, without its line feed; of an output without a line feed nothing is asked
abbrev pub OfFirst : (List ℕ → Type 0) → List ℕ → Type 0
OfFirst IsTrue output = (line behind : List ℕ) → HasNoFeed line → output ≡ line ++ 10 ∷ behind → IsTrue line

-- IsTrue holds of the first line of an output, and of the second, as far as it has whole lines
abbrev pub OfFirstTwo : (List ℕ → Type 0) → List ℕ → Type 0
OfFirstTwo IsTrue output =
    (line behind : List ℕ) → HasNoFeed line → output ≡ line ++ 10 ∷ behind → IsTrue line × OfFirst IsTrue behind

-- ---- the commands that read a text

-- The number of the column or row with this name may be moved between these ends: with each number there in its place,
-- the optimal value is that of the model and the slope times what the number has grown by.
pub record IsTrueRange (moved : Moved) (name : Name) (m : Model) (value low high slope : List ℕ) : Type 0 where
  pub at : ℕ
  pub named : place_by moved m name ≡ Some at
  pub optimum : ℚ
  pub says_value : IsNumber value optimum
  pub ends : Limits
  pub says_low : SaysEnd low ends.lower
  pub says_high : SaysEnd high ends.upper
  pub growth : ℚ
  pub says_slope : IsNumber slope growth
  pub optimal : (t : ℚ) → IsBetween ends t →
      IsOptimal (with_number moved m at t) (optimum +ℚ (t -ℚ number_at moved m at) *ℚ growth)

-- If the output is the line of an optimum, then the text `between`, and then the line of a range, there is a model of
-- the given kind of which optimum and range are true.
abbrev pub SaysTrueRange : Moved → Name → List ℕ → (Model → Type 0) → List ℕ → Type 0
SaysTrueRange moved name between IsOf output =
    (value low high slope behind : List ℕ) → HasNoFeed value → All (λ b. b ≢ 32) (low ++ high) → HasNoFeed slope →
    output ≡ codes "OPTIMAL " ++ value
    ++ 10 ∷ (between ++ (codes "RANGE " ++ low ++ codes " " ++ high ++ codes " SLOPE " ++ slope ++ 10 ∷ behind)) →
    (m : Model) × IsOf m × IsTrueRange moved name m value low high slope

-- each range that an output lists, whatever lines stand before its own, is true of a model of the given kind
abbrev pub SaysTrueRanges : (Model → Type 0) → List ℕ → Type 0
SaysTrueRanges IsOf output =
    (moved : Moved) (name : Name) (before : List (List ℕ)) → All (λ b. b ≢ 32) name →
    SaysTrueRange moved name (ended_lines before ++ number_words moved name) IsOf output

-- The bytes `behind` begin with the lines of as many limits of rows and bounds of columns of m as the text `count`
-- says. No point meets them all, though each set of all but one is met by some point.
pub record AreTrueSides (m : Model) (count behind : List ℕ) : Type 0 where
  pub sides : List Side
  pub counted : count ≡ decimal (length sides)
  pub listed : IsPrefixOf (ended_lines (map (side_line m) sides)) behind
  pub present : All (IsSide m) sides
  pub contrary : (z : List ℚ) → ¬ (MeetsAll m sides z)
  pub needed : (k : ℕ) → k < length sides → (z : List ℚ) × MeetsAll m (remove sides k) z

-- if an output says `INFEASIBLE` and then `IIS` with a count,
-- the sides behind are true ones of a model of the given kind
abbrev pub SaysTrueSides : (Model → Type 0) → List ℕ → Type 0
SaysTrueSides IsOf output =
    (count behind : List ℕ) → HasNoFeed count → output ≡ codes "INFEASIBLE" ++ 10 ∷ (codes "IIS " ++ count ++ 10 ∷ behind) →
    (m : Model) × IsOf m × AreTrueSides m count behind

-- What a command's output says is true of a model of the given kind: an answer in the first line, behind the word YES,
-- or in the first two lines; and a range or sides behind it, where the command writes such.
abbrev pub IsTrueOfText : ExactTextCommand → (Model → Type 0) → List ℕ → Type 0
IsTrueOfText SolveWide IsOf output = OfFirst (IsTrueLine IsOf IsWideNumber) output
IsTrueOfText Check IsOf output = OfFirst (BehindYes (IsTrueLine IsOf IsNumber)) output
IsTrueOfText CheckWide IsOf output = OfFirst (BehindYes (IsTrueLine IsOf IsWideNumber)) output
IsTrueOfText BasisWide IsOf output = OfFirst (IsTrueLine IsOf IsWideNumber) output
IsTrueOfText Presolve IsOf output = OfFirstTwo (IsTrueLine IsOf IsNumber) output
IsTrueOfText Iis IsOf output = OfFirst (IsTrueLine IsOf IsNumber) output × SaysTrueSides IsOf output
IsTrueOfText (Range moved name) IsOf output =
    OfFirst (IsTrueLine IsOf IsNumber) output × SaysTrueRange moved name [] IsOf output
IsTrueOfText RangeAll IsOf output = OfFirst (IsTrueLine IsOf IsNumber) output × SaysTrueRanges IsOf output
IsTrueOfText command IsOf output = OfFirst (IsTrueLine IsOf IsNumber) output

-- ---- what lines ask of sessions, as far as it changes their models

-- what a request makes of the model of a session: the model after it, by the one before it and the line of the reply
abbrev pub Effect : Type 0
Effect = Option Model → List ℕ → Option Model

-- a request as its effect on the model, with its session
pub record Asking : Type 0 where
  pub session : ℕ
  pub effect : Effect

-- The effect of a command in one line: an edit that is answered OK changes the model, QUIT drops it, and all else keeps
-- it. LOAD and CHECK have none before the text behind them has ended.
abbrev pub effects_of : ExactCommand → List Effect
effects_of (commands.Load form) = []
effects_of commands.Check = []
effects_of (commands.Plain (command.Change e)) =
    (λ held line. if same line (codes "OK") then after_edit held e else held) ∷ []
effects_of (commands.Plain command.Quit) = (λ held line. None) ∷ []
effects_of other = (λ held line. held) ∷ []

-- the effect of a model's text: it becomes the session's model, or where the text is wrong the one before stays
abbrev pub effect_of_text : Verdict → Effect
effect_of_text (Spelled m) = λ held line. Some m
effect_of_text (Refused n fault) = λ held line. held

-- the requests of one session, by their effects
abbrev pub asked_of : ℕ → List Effect → List Asking
asked_of session effects = map (λ effect. record { session = session; effect = effect }) effects

-- The request that a line completes, by its session and its effect on the model: a list of one item, or none where the
-- line completes none. Where a text or certificate has begun before the line, the line completes the request if it is
-- the last one of that text or certificate.
abbrev pub asked_in_line : Addressing → Pending → Line (List ℕ) → List Asking
asked_in_line addressing Between next =
    unwrap_or (option_map (λ a. asked_of a.session (effects_of a.ask)) (addressed_in addressing next)) []
asked_in_line addressing (Text session form body) next =
    asked_of session
    (if ends_text next then effect_of_text (judge usual_limits form start 1 (body ++ next ∷ [])) ∷ [] else [])
asked_in_line addressing (Certificate session body) next =
    asked_of session (if ends_certificate next then (λ held line. held) ∷ [] else [])

-- the requests that lines complete, in order, each as its session and its effect; `pending` is the text or certificate
-- that has begun before the lines, if any
abbrev pub asked_from : Addressing → Pending → List (Line (List ℕ)) → List Asking
asked_from addressing pending [] = []
asked_from addressing pending (next ∷ lines) =
    asked_in_line addressing pending next ++ asked_from addressing (pending_after_line addressing pending next) lines

-- ---- what is told of it

-- a request, and what was written of it: the line of the reply, and the lines behind this line
pub record Told : Type 0 where
  pub asked : Asking
  pub line : List ℕ
  pub behind : List (List ℕ)

-- the line is the word TEXT, CERT or WIDE, by which a reply announces lines behind it, with `more` behind the word
abbrev pub Announces : List ℕ → List ℕ → Type 0
Announces line more = (line ≡ codes "TEXT" ++ more) ⊎ (line ≡ codes "CERT" ++ more) ⊎ (line ≡ codes "WIDE" ++ more)

-- The reply has one first line. Behind it stand exactly as many lines as it announces, and none where it announces
-- none.
pub record IsFramed (x : Told) : Type 0 where
  pub one : HasNoFeed x.line
  pub each : All HasNoFeed x.behind
  pub counted : Announces x.line (codes " " ++ decimal (length x.behind))
      ⊎ ((x.behind ≡ []) × ((more : List ℕ) → ¬ (Announces x.line more)))

-- the output of what was told: each line, with its session's number before it where lines name sessions, and the lines
-- behind it
abbrev pub told_out : Addressing → List Told → List ℕ
told_out addressing told = flat_map (λ x. front_of addressing x.asked.session ++ x.line ++ 10 ∷ ended_lines x.behind) told

-- the model of a session after what was told of it; none at first
abbrev pub model_told : ℕ → List Told → Option Model
model_told session told = fold (λ held x. x.asked.effect held x.line) None (filter (λ x. x.asked.session == session) told)

-- if the reply's line is `WIDE` and a number, the property holds of the first line behind it
abbrev pub BehindWide : (List ℕ → Type 0) → Told → Type 0
BehindWide IsTrue x = (count : List ℕ) → x.line ≡ codes "WIDE " ++ count → OfFirst IsTrue (ended_lines x.behind)

-- What a reply says, in its line, behind `YES`, or in the first line behind `WIDE`, is true of the model that its
-- session has after the replies before it.
abbrev pub IsTrueReply : List Told → Told → Type 0
IsTrueReply before x =
    let IsOf : Model → Type 0 = λ m. model_told x.asked.session before ≡ Some m in
    let IsTrue = IsTrueLine IsOf IsNumber in
    IsTrue x.line × BehindYes IsTrue x.line × BehindWide (IsTrueLine IsOf IsWideNumber) x

-- The output is that of replies to the first requests of the input's lines, and each reply is true of the model that
-- its session has then.
pub record AreTrueReplies (addressing : Addressing) (after : Option (List ℕ)) (read output : List ℕ) : Type 0 where
  pub told : List Told
  pub asked : HoldsOfAll after read
      (λ bytes. AreFirstOf (map (λ x. x.asked) told) (asked_from addressing Between (lines_of bytes)))
  pub framed : All IsFramed told
  pub replies : output ≡ told_out addressing told
  pub are_true : (before behind : List Told) (x : Told) → told ≡ before ++ x ∷ behind → IsTrueReply before x

-- ---- the whole

-- the lines of the input spell this model for the command: those of what was read, if no more comes, or whatever follows that
abbrev pub IsModelOf : ExactTextCommand → Style → Option (List ℕ) → List ℕ → Model → Type 0
IsModelOf command style after read m =
    HoldsOfAll after read (λ bytes. SpellsWithin (limits_of command) style (lines_of bytes) m)

-- Some bytes were read, and some were written, which are an output or the beginning of one; and the output is true by what
-- was read, and by what was left.
pub record Tells (IsTrue : Option (List ℕ) → List ℕ → List ℕ → Type 0) (s : Streams) : Type 0 where
  pub read : List ℕ
  pub written : List ℕ
  pub output : List ℕ
  pub consumed : Consumes s.left_before s.left_after read
  pub appended : Appends s.taken_before s.taken_after written
  pub front : IsPrefixOf written output
  pub is_true : IsTrue s.left_after read output

-- The output is true for a command line, by the input that was read. A script's replies are true of their sessions'
-- models, other commands' answers of their one model; of a server, which writes to links, nothing is asked.
abbrev pub IsTrueOf : ExactLine → Option (List ℕ) → List ℕ → List ℕ → Type 0
IsTrueOf (Run workers places) after read output = AreTrueReplies Numbered after read output
IsTrueOf (Read command style) after read output = IsTrueOfText command (IsModelOf command style after read) output
IsTrueOf (Generate seed rows columns) after read output =
    OfFirstTwo (IsTrueLine (λ m. m ≡ generated seed rows columns) IsNumber) output
IsTrueOf (Serve workers each places) after read output = Unit {0}

-- what is written is a beginning of an output that is true for the command line; where the words are no command line,
-- nothing is written
abbrev pub IsTrueOutput : Option ExactLine → Streams → Type 0
IsTrueOutput None s = Appends s.taken_before s.taken_after []
IsTrueOutput (Some command) s = Tells (IsTrueOf command) s
