-- Lines that are taken one by one, up to the one at which something is said.
use Rattle.std.specs.Prelude.{ℕ, ◌≢◌, ◌≤◌, ◌<◌, ◌+◌, ◌^◌, ◌⊎◌, List, [], ◌∷◌, ◌++◌, All, Option, Some, None, Result, Ok}
use Rattle.std.specs.Prelude.{Err}
use Rattle.spec_text.specs.declared.line.Line.{Line}
use Rattle.spec_text.specs.declared.line.Line.TheVariants as line
use Rattle.lp_base.specs.LinesState.{LinesState}
use Rattle.lp_base.specs.Taking.{ReadsLines, ReadsUntil}
use Rattle.lp_base.specs.declared.lines.LineStop.{LineStop}
use Rattle.lp_base.specs.declared.lines.LineStop.TheVariants as stop
use Rattle.lp_line.specs.declared.hearing.Step.{Step}
use Rattle.lp_line.specs.declared.hearing.Step.TheVariants as step
use Rattle.lp_line.specs.declared.hearing.Heard.{Heard}
use Rattle.lp_line.specs.declared.hearing.Heard.TheVariants as heard

-- ---- one line

-- The line `here` leads from a stage to `next`: what more lines say from `next` on is what they say behind that line.
-- At most one line more is counted, and `here` is not the end of the input.
pub record LeadsOn {T R : Type 0} (Say : T → List (Line (List ℕ)) → Option R → Type 0) (count : T → ℕ) (stage : T)
    (here : Line (List ℕ)) (next : T) : Type 0 where
  pub behind : (more : List (Line (List ℕ))) (answer : Option R) → Say next more answer → Say stage (here ∷ more) answer
  pub counts : count next ≤ count stage + 1
  pub no_end : here ≢ line.End

-- The line leads from a stage to this: a further stage, with which the reading goes on, or a result, which is said
-- whatever lines follow.
abbrev pub Leads : {T R : Type 0} → (T → List (Line (List ℕ)) → Option R → Type 0) → (T → ℕ) → T → Line (List ℕ) →
    Step T R → Type 0
Leads Say count stage here (step.On next) = LeadsOn Say count stage here next
Leads Say count stage here (step.Says what) = (more : List (Line (List ℕ))) → Say stage (here ∷ more) (Some what)

-- ---- many lines

-- the line is a real one: it does not stand for the end of the input, nor for an input that is too long
abbrev pub IsGiven : Line (List ℕ) → Type 0
IsGiven next = (next ≢ line.End) × (next ≢ line.Over)

-- each line is a real one: none stands for the end of the input, nor for an input that is too long
abbrev pub AreGiven : List (Line (List ℕ)) → Type 0
AreGiven lines = All IsGiven lines

-- Lines were read, up to the first one at which something is said, which is `what`, whatever lines follow. At least one
-- byte was taken.
pub record HearsAt {R : Type 0} (Say : List (Line (List ℕ)) → Option R → Type 0) (before after : Option (List ℕ))
    (old new : LinesState) (what : R) : Type 0 where
  pub earlier : List (Line (List ℕ))
  pub last : Line (List ℕ)
  pub reads : ReadsLines before after old new (earlier ++ last ∷ [])
  pub given : AreGiven earlier
  pub last_given : IsGiven last
  pub silent : Say earlier None
  pub says : (more : List (Line (List ℕ))) → Say (earlier ++ last ∷ more) (Some what)
  pub grows : old.given < new.given
  pub bound : new.given ≤ 2 ^ 26

-- lines were read at which nothing is said, and behind them the reading gave this result: that the input ends, that it
-- is too long, or a failure
pub record HearsUntil {R : Type 0} (Say : List (Line (List ℕ)) → Option R → Type 0) (before after : Option (List ℕ))
    (old : LinesState) (result : Result (Line (List ℕ)) LineStop) : Type 0 where
  pub passed : List (Line (List ℕ))
  pub reads : ReadsUntil before after old passed result
  pub given : AreGiven passed
  pub silent : Say passed None

-- the input ended behind lines at which nothing is said, and `what` is said at its end
pub record HearsAtEnd {R : Type 0} (Say : List (Line (List ℕ)) → Option R → Type 0) (before after : Option (List ℕ))
    (old : LinesState) (what : R) : Type 0 where
  pub until : HearsUntil Say before after old (Ok line.End)
  pub says : Say (until.passed ++ line.End ∷ []) (Some what)

-- some lines were read, and then memory ran out, for a further line or for what the last one leads to
pub record TakesPart (before after : Option (List ℕ)) (old new : LinesState) : Type 0 where
  pub passed : List (Line (List ℕ))
  pub reads : ReadsLines before after old new passed ⊎ ReadsUntil before after old passed (Err stop.NoMemory)

-- what the reading of an input answers: what was said at a line or at the end, or that the input is too long, or what
-- failed
abbrev pub HearsNext : {R : Type 0} → (List (Line (List ℕ)) → Option R → Type 0) → Option (List ℕ) → Option (List ℕ) →
    LinesState → LinesState → Result (Heard R) LineStop → Type 0
HearsNext Say before after old new (Ok (heard.Says what)) =
    HearsAt Say before after old new what ⊎ HearsAtEnd Say before after old what
HearsNext Say before after old new (Ok heard.Over) = HearsUntil Say before after old (Ok line.Over)
HearsNext Say before after old new (Err stop.Read) = HearsUntil Say before after old (Err stop.Read)
HearsNext Say before after old new (Err stop.NoMemory) = TakesPart before after old new
