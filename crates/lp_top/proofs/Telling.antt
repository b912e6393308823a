-- What the status of the top call tells of the streams.
--
-- `text_done`: a command whose output was written whole tells so by its status.
-- `text_halted`: a command that was halted tells by its status what halted it.
-- `does_as`: what a command line does, with its status, each command line equal to it does.
use Rattle.std.proofs.Common.{◌≡◌, ◌⊎◌, ℕ, List, [], Option, Some, None, Ok, Err, arith, refl, sym, inl, inr, subst}
use Rattle.std.specs.Io.KnownBytes.{Consumes}
use denote.Ref.{Bor}
use Rattle.spec_text.specs.declared.line.Line.{Line}
use Rattle.spec_program.specs.declared.command_line.CommandLine.{CommandLine}
use Rattle.spec_program.specs.declared.command_line.TextCommand.TheVariants.{Solve, SolveWide, Check, CheckWide, Basis, BasisWide, Presolve, Iis, Range, RangeAll}
use Rattle.spec_program.specs.CommandLine.{ExactTextCommand}
use Rattle.spec_program.specs.Spelled.{spelled}
use Rattle.spec_commands.specs.RangeOut.{place_by, place_code}
use Rattle.spec_commands.specs.TextOut.{SaidBy, said_of, MayWrite, code_of}
use Rattle.spec_mps.specs.declared.style.Style.{Style}
use Rattle.lp_line.specs.declared.halt.Halt.{Halt}
use Rattle.lp_line.specs.declared.halt.Halt.TheVariants as halts
use Rattle.lp_text_commands.specs.Generating.{Writes, WritesAll, TellsOfWriting}
use Rattle.lp_text_commands.specs.Hearing.{Says, SaysSo, TellsOf}
use Rattle.lp_script.specs.Run.{Moves, EndsSo}
use Rattle.lp_text_commands.specs.Status.{code_behind}
use Rattle.spec_server.specs.declared.asks.Reply.TheVariants as reply
use Rattle.spec_commands.specs.CheckOut.{check_code}
use Rattle.spec_server.specs.Machine.{ExactReply}
use Rattle.spec_server.specs.Streams.{Streams}
use Rattle.lp_text_commands.specs.TextCommands.{ReadsText, TellsOfText}
use Rattle.lp_top.specs.Top.{Tells, Does}

-- ---- a script

module _ {workers places : ℕ} {s : Streams} where
  -- where a script's run was halted, the status of the halt tells so
  told_stop : (moves : Moves workers places s) (stop : Halt) → EndsSo moves (Err stop) → Tells (code_behind stop) moves
  told_stop moves halts.Read ends =
      record {
        done = λ e. absurd (omega arith);
        fault = λ e. ends;
        cut = λ e. absurd (omega arith);
        over = λ e. absurd
            (omega arith);
      }
  told_stop moves halts.Write ends =
      record {
        done = λ e. absurd (omega arith);
        fault = λ e. absurd (omega arith);
        cut = λ e. absurd (omega arith);
        over = λ e. absurd (omega arith);
      }
  told_stop moves halts.NoMemory ends =
      record {
        done = λ e. absurd (omega arith);
        fault = λ e. absurd (omega arith);
        cut = λ e. absurd (omega arith);
        over = λ e. absurd (omega arith);
      }
  told_stop moves halts.Cut ends =
      record {
        done = λ e. absurd (omega arith);
        fault = λ e. absurd (omega arith);
        cut = λ e. ends;
        over = λ e. absurd
            (omega arith);
      }
  told_stop moves halts.Over ends =
      record {
        done = λ e. absurd (omega arith);
        fault = λ e. absurd (omega arith);
        cut = λ e. absurd (omega arith);
        over = λ e. ends;
      }

  -- where a script was read and run to its end, status 0 tells so
  pub run_done : ((moves : Moves workers places s) × EndsSo moves (Ok tt)) →
      (moves : Moves workers places s) × Tells 0 moves
  run_done m = (
    m.0,
    record {
      done = λ e. m.1;
      fault = λ e. absurd (omega arith);
      cut = λ e. absurd (omega arith);
      over = λ e.
          absurd (omega arith);
    },
  )

  -- where a script's run was halted, the status that is the halt's tells so
  pub run_stopped : (stop : Halt) (code : ℕ) → code ≡ code_behind stop →
      ((moves : Moves workers places s) × EndsSo moves (Err stop)) →
      (moves : Moves workers places s) × Tells code moves
  run_stopped stop code e m = (m.0, subst (λ n. Tells n m.0) (sym e) (told_stop m.0 stop m.1))

-- ---- the commands that read a text

-- a status that is not 0 and not 9 is not one of 0 and 9
not_done : (n : ℕ) → ¬ (n ≡ 0) → ¬ (n ≡ 9) → (n ≡ 0) ⊎ (n ≡ 9) → ⊥
not_done n a b (inl e) = a e
not_done n a b (inr e) = b e

module _ {R : Type 0} (said : List (Line (List ℕ)) → Option R) (Out : R → List ℕ → Type 0) (code_of : R → ℕ)
    (s : Streams) where
  -- where a command on a text was halted, the status of the halt tells so
  stop_told : (halt : Halt) → SaysSo said Out code_of s (Err halt) → TellsOf said Out code_of s (code_behind halt)
  stop_told halts.Read h = record {
    done = λ e. absurd (not_done 3 (λ z. omega (arith, z)) (λ z. omega (arith, z)) e);
    fault = λ e. h;
    sink = λ e. absurd (omega (arith, e));
    memory = λ e. absurd (omega (arith, e));
    over = λ e. absurd (omega (arith, e));
  }
  stop_told halts.Write h = record {
    done = λ e. absurd (not_done 4 (λ z. omega (arith, z)) (λ z. omega (arith, z)) e);
    fault = λ e. absurd (omega (arith, e));
    sink = λ e. h;
    memory = λ e. absurd (omega (arith, e));
    over = λ e. absurd (omega (arith, e));
  }
  stop_told halts.NoMemory h = record {
    done = λ e. absurd (not_done 5 (λ z. omega (arith, z)) (λ z. omega (arith, z)) e);
    fault = λ e. absurd (omega (arith, e));
    sink = λ e. absurd (omega (arith, e));
    memory = λ e. h;
    over = λ e. absurd (omega (arith, e));
  }
  stop_told halts.Cut h = absurd h
  stop_told halts.Over h = record {
    done = λ e. absurd (not_done 8 (λ z. omega (arith, z)) (λ z. omega (arith, z)) e);
    fault = λ e. absurd (omega (arith, e));
    sink = λ e. absurd (omega (arith, e));
    memory = λ e. absurd (omega (arith, e));
    over = λ e. h;
  }

  -- where a command on a text wrote a whole output with status 0 or 9, the status tells so
  done_told : (code : ℕ) → Says said Out code_of s code → (code ≡ 0) ⊎ (code ≡ 9) → TellsOf said Out code_of s code
  done_told code h either = record {
    done = λ e. h;
    fault = λ e. absurd (not_done code (λ z. omega (arith, z, e)) (λ z. omega (arith, z, e)) either);
    sink = λ e. absurd (not_done code (λ z. omega (arith, z, e)) (λ z. omega (arith, z, e)) either);
    memory = λ e. absurd (not_done code (λ z. omega (arith, z, e)) (λ z. omega (arith, z, e)) either);
    over = λ e. absurd (not_done code (λ z. omega (arith, z, e)) (λ z. omega (arith, z, e)) either);
  }

-- ---- the status of what is said

-- the status of a checked text is 0 or 9
check_codes : (replied : ExactReply) → (check_code replied ≡ 0) ⊎ (check_code replied ≡ 9)
check_codes (reply.Refused why) = inr refl
check_codes (reply.Loaded rows columns) = inl refl
check_codes (reply.Written text) = inl refl
check_codes reply.Done = inl refl
check_codes (reply.Known what) = inl refl
check_codes (reply.Past p) = inl refl
check_codes (reply.Spent budget) = inl refl
check_codes (reply.Certified lines) = inl refl
check_codes (reply.Found how pivots publication) = inl refl
check_codes (reply.Checked what) = inl refl
check_codes (reply.Wide lines) = inl refl
check_codes reply.Bye = inl refl
check_codes reply.Memory = inl refl

-- the status of a search for a name is 0 or 9
place_codes : (place : Option ℕ) → (place_code place ≡ 0) ⊎ (place_code place ≡ 9)
place_codes None = inr refl
place_codes (Some at) = inl refl

-- the status of a command that says something of a text is 0 or 9
text_codes : (command : ExactTextCommand) (what : SaidBy command) →
    (code_of command what ≡ 0) ⊎ (code_of command what ≡ 9)
text_codes Solve (Ok m) = inl refl
text_codes Solve (Err fault) = inr refl
text_codes SolveWide (Ok m) = inl refl
text_codes SolveWide (Err fault) = inr refl
text_codes Check what = check_codes what
text_codes CheckWide what = check_codes what
text_codes Basis (Ok handed) = inl refl
text_codes Basis (Err fault) = inr refl
text_codes BasisWide (Ok handed) = inl refl
text_codes BasisWide (Err fault) = inr refl
text_codes Presolve (Ok m) = inl refl
text_codes Presolve (Err fault) = inr refl
text_codes Iis (Ok m) = inl refl
text_codes Iis (Err fault) = inr refl
text_codes (Range moved name) (Ok m) = place_codes (place_by moved m name)
text_codes (Range moved name) (Err fault) = inr refl
text_codes RangeAll (Ok m) = inl refl
text_codes RangeAll (Err fault) = inr refl

pub text_done : (command : ExactTextCommand) (style : Style) (s : Streams) (code : ℕ) →
    Says (said_of command style) (MayWrite command) (code_of command) s code → TellsOfText command style s code
text_done command style s code h =
    done_told (said_of command style) (MayWrite command) (code_of command) s code h
    (subst (λ n. (n ≡ 0) ⊎ (n ≡ 9)) (sym h.status) (text_codes command h.what))

pub text_halted : (command : ExactTextCommand) (style : Style) (s : Streams) (halt : Halt) (code : ℕ) →
    code ≡ code_behind halt → ReadsText command style s (Err halt) → TellsOfText command style s code
text_halted command style s halt code e h =
    subst (λ n. TellsOfText command style s n) (sym e) (stop_told (said_of command style) (MayWrite command)
    (code_of command) s halt h)

-- ---- the command that makes a model

module _ {Out : List ℕ → Type 0} {s : Streams} (reads : Consumes s.left_before s.left_after []) where
  -- where `gen` read nothing and wrote a whole output, status 0 tells so
  pub generated : WritesAll Out s.taken_before s.taken_after → TellsOfWriting Out s 0
  generated all =
      record { reads = reads; done = λ e. all; sink = λ e. absurd (omega arith); memory = λ e. absurd (omega arith) }

  -- where `gen` read nothing and was halted, the status of the halt tells so
  writing_stopped : (halt : Halt) → Writes Out s.taken_before s.taken_after (Err halt) →
      TellsOfWriting Out s (code_behind halt)
  writing_stopped halts.Read h = absurd h
  writing_stopped halts.Write h =
      record { reads = reads; done = λ e. absurd (omega arith); sink = λ e. h; memory = λ e. absurd (omega arith) }
  writing_stopped halts.NoMemory h =
      record { reads = reads; done = λ e. absurd (omega arith); sink = λ e. absurd (omega arith); memory = λ e. h }
  writing_stopped halts.Cut h = absurd h
  writing_stopped halts.Over h = absurd h

  -- where `gen` read nothing and was halted, the status that is the halt's tells so
  pub not_generated : (halt : Halt) (code : ℕ) → code ≡ code_behind halt →
      Writes Out s.taken_before s.taken_after (Err halt) → TellsOfWriting Out s code
  not_generated halt code e h = subst (λ n. TellsOfWriting Out s n) (sym e) (writing_stopped halt h)

-- by the command
pub does_as : (asked is : CommandLine (Bor (List ℕ))) (s : Streams) (code : ℕ) → asked ≡ is →
    Does (Some (spelled is)) s code → Does (Some (spelled asked)) s code
does_as asked is s code e h =
    subst (λ (c : CommandLine (Bor (List ℕ))). Does (Some (spelled c)) s code) (sym e) h
