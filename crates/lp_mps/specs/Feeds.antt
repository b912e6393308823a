-- What a line is answered.
use Rattle.std.specs.Prelude.{ℕ, ◌≡◌, Ok, Err}
use Rattle.spec_model.specs.declared.parts.SizeLimits.{SizeLimits}
use Rattle.spec_model.specs.Model.{Model}
use Rattle.spec_model.specs.Kept.{IsWithin}
use Rattle.spec_mps.specs.declared.fault.MpsFault.{MpsFault}
use Rattle.spec_mps.specs.declared.style.Style.{Style}
use Rattle.spec_mps.specs.Steps.{Outcome}
use Rattle.spec_mps.specs.Steps as steps
use Rattle.lp_base.specs.declared.feed.Feed.{Feed}
use Rattle.lp_base.specs.declared.feed.Feed.TheVariants as feed
use Rattle.lp_mps.specs.TextRead.{TextRead}

-- line n leads to a further state, with which the reader `new` of a text of this form goes on; it has read n lines
pub record GoesOn (outcome : Outcome) (form : Style) (n : ℕ) (new : TextRead) : Type 0 where
  pub state : outcome ≡ Ok (steps.More new.state)
  pub style : new.style ≡ form
  pub lines : new.lines ≡ n

-- line n of a text is refused with this fault
pub record IsRefused (outcome : Outcome) (n : ℕ) (fault : MpsFault) : Type 0 where
  pub line : fault.line ≡ n
  pub code : outcome ≡ Err fault.code

-- The code's answer to line n fits the outcome of the line: more is wanted, and the reader is `new`; or the model; or
-- the fault in line n. Of an answer for lack of memory nothing is asked.
abbrev pub Feeds : Outcome → Style → ℕ → TextRead → Feed Model MpsFault → Type 0
Feeds outcome style n new feed.More = GoesOn outcome style n new
Feeds outcome style n new (feed.Done m) = outcome ≡ Ok (steps.Done m)
Feeds outcome style n new (feed.Refused fault) = IsRefused outcome n fault
Feeds outcome style n new feed.NoMemory = Unit {0}

-- if the answer is a model, this is within these limits; of other answers nothing is asked
abbrev pub IsDoneWithin : SizeLimits → Feed Model MpsFault → Type 0
IsDoneWithin limits (feed.Done m) = IsWithin limits m
IsDoneWithin limits answer = Unit {0}
