-- A text that is read line by line.
use Rattle.std.specs.Prelude.{ℕ}
use Rattle.spec_model.specs.declared.parts.SizeLimits.{SizeLimits}
use Rattle.spec_mps.specs.declared.style.Style.{Style}
use Rattle.spec_mps.specs.Reader.{State}

-- the state of a reader of a text: the form, what was read, and the number of lines
pub record TextRead : Type 0 where
  pub style : Style
  pub state : State
  pub lines : ℕ

-- the state of a reader of a text, and the limits of the model's size
pub record ReadWithin : Type 0 where
  pub limits : SizeLimits
  pub text : TextRead
