-- What is written of what was said.
use Rattle.std.specs.Prelude.{ℕ, ◌≡◌, List, [], Option, Result, Ok, Err}
use Rattle.std.specs.declared.alloc.AllocError.{AllocError}
use Rattle.std.specs.Io.KnownBytes.{Appends}
use Rattle.lp_base.specs.Beside.{Takes}
use Rattle.lp_line.specs.declared.halt.Halt.{Halt}
use Rattle.lp_line.specs.declared.halt.Halt.TheVariants as halts
use Rattle.lp_text_commands.specs.declared.exit_status.ExitStatus.{ExitStatus}

-- the whole of some output that `Out` allows was written, and the exit status is `is_code`
pub record WritesAll (Out : List ℕ → Type 0) (is_code : ℕ) (before after : Option (List ℕ)) (code : ℕ) : Type 0 where
  pub output : List ℕ
  pub is_output : Out output
  pub written : Appends before after output
  pub status : code ≡ is_code

-- a beginning of some output that `Out` allows was written
pub record WritesInPart (Out : List ℕ → Type 0) (before after : Option (List ℕ)) : Type 0 where
  pub output : List ℕ
  pub is_output : Out output
  pub written : Takes before after output

-- What was written, by the result: with a status, a whole output that `Out` allows; a beginning of one, if writing
-- failed; nothing, if memory ran out. There is no other halt.
abbrev pub WritesSo : (List ℕ → Type 0) → ℕ → Option (List ℕ) → Option (List ℕ) → Result ExitStatus Halt → Type 0
WritesSo Out code before after (Ok status) = WritesAll Out code before after status.code
WritesSo Out code before after (Err halts.Write) = WritesInPart Out before after
WritesSo Out code before after (Err halts.NoMemory) = Appends before after []
WritesSo Out code before after (Err halts.Read) = ⊥
WritesSo Out code before after (Err halts.Cut) = ⊥
WritesSo Out code before after (Err halts.Over) = ⊥

-- What was written of a text that was printed with a status, by the result: all of it, with this status; a beginning,
-- if writing failed; nothing, if memory ran out. There is no other halt.
abbrev pub SendsSo : Result ExitStatus AllocError → List ℕ → Option (List ℕ) → Option (List ℕ) →
    Result ExitStatus Halt → Type 0
SendsSo printed text before after (Ok status) = (printed ≡ Ok status) × Appends before after text
SendsSo printed text before after (Err halts.Write) =
    (status : ExitStatus) × (printed ≡ Ok status) × Takes before after text
SendsSo printed text before after (Err halts.NoMemory) = Appends before after []
SendsSo printed text before after (Err halts.Read) = ⊥
SendsSo printed text before after (Err halts.Cut) = ⊥
SendsSo printed text before after (Err halts.Over) = ⊥
