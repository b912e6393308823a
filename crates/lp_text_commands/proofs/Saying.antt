-- What is written of what is said of an input.
--
-- `sends_none`: where memory ran out and nothing was written, that is what the result for lack of memory tells.
-- `range_reads`: what `range` of one number says and writes is what the command reads and writes.
-- `basis_reads`: what `basis` says and writes, by its parts, is what the command reads and writes.
-- `wide_basis_reads`: what `basis --wide` says and writes, by its parts, is what the command reads and writes.
use Rattle.std.proofs.Common.{◌≡◌, ℕ, List, [], ◌++◌, Option, Result, Ok, Err, OnOk, IfOk, ap, sym, ◌∙◌, subst}
use Rattle.std.specs.declared.alloc.AllocError.{AllocError}
use Rattle.std.specs.Io.KnownBytes.{Appends}
use Rattle.std.proofs.KnownBytes.{Appends-nil}
use Rattle.spec_text.specs.declared.line.Line.{Line}
use Rattle.spec_model.specs.declared.parts.SizeLimits.{SizeLimits}
use Rattle.spec_model.specs.Kept.{usual_limits, large_limits}
use Rattle.spec_mps.specs.declared.style.Style.{Style}
use Rattle.spec_mps.specs.Reader.{start}
use denote.Ref.{Bor}
use Rattle.spec_program.specs.declared.command_line.Moved.{Moved}
use Rattle.spec_program.specs.declared.command_line.TextCommand.{TextCommand}
use Rattle.spec_program.specs.declared.command_line.TextCommand.TheVariants.{Solve, SolveWide, Check, CheckWide, Basis, BasisWide, Presolve, Iis, Range, RangeAll}
use Rattle.spec_commands.specs.RangeOut.{RangeOut, range_code}
use Rattle.spec_commands.specs.RangesOut.{RangesOut}
use Rattle.spec_commands.specs.IisOut.{IisOut}
use Rattle.spec_commands.specs.PresolveOut.{PresolveOut}
use Rattle.spec_mps.specs.declared.fault.MpsFault.{MpsFault}
use Rattle.spec_program.specs.Spelled.{spelled_text}
use Rattle.spec_server.specs.Machine.{ExactReply}
use Rattle.spec_commands.specs.CheckOut.{said, CheckOut, check_code}
use Rattle.spec_commands.specs.CheckWideOut.{wide_said, WideCheckOut}
use Rattle.spec_server.specs.TextSaid.{TextSaid, text_said, text_said_within}
use Rattle.spec_commands.specs.SolveOut.{SolveOut, solve_code}
use Rattle.lp_base.specs.Beside.{Takes}
use Rattle.lp_mps.specs.TextRead.{TextRead, ReadWithin}
use Rattle.lp_line.specs.Stages.{TextSays, LargeSays}
use Rattle.lp_text_commands.specs.declared.check.stage.CheckStage.TheVariants as stage
use Rattle.lp_text_commands.specs.declared.exit_status.ExitStatus.{ExitStatus}
use Rattle.lp_line.specs.declared.halt.Halt.{Halt}
use Rattle.lp_line.specs.declared.halt.Halt.TheVariants as halts
use Rattle.lp_text_commands.specs.Prints.{Prints}
use Rattle.lp_text_commands.specs.Said.{SaidOut, TextOut, misspelled_line}
use Rattle.lp_text_commands.specs.Hearing.{Agrees, Hears, HearsSo, SaysSo}
use Rattle.lp_text_commands.specs.Writing.{SendsSo, WritesSo}
use Rattle.spec_commands.specs.BasisOut.{InText, basis_said, BasisOut, basis_code, basis_fault_line}
use Rattle.spec_commands.specs.SolveWideOut.{SolveWideOut}
use Rattle.spec_commands.specs.BasisWideOut.{BasisWideOut}
use Rattle.lp_text_commands.specs.declared.basis.stage.BasisStage.TheVariants as basis_stage
use Rattle.lp_text_commands.specs.Basis.{BasisSays}
use Rattle.lp_text_commands.specs.declared.check.wide_stage.WideStage.TheVariants as wide_stage
use Rattle.lp_text_commands.specs.WideStage.{WideSays}
use Rattle.lp_text_commands.specs.Stage.{CheckSays}
use Rattle.spec_server.specs.Streams.{Streams, streams}
use Rattle.lp_text_commands.specs.TextCommands.{ReadsText}
use Rattle.lp_text_commands.proofs.BasisLines.{said_within}

module _ {R : Type 0} (tells : List (Line (List ℕ)) → Option R) (Out : R → List ℕ → Type 0) (code_of : R → ℕ)
    (before after taken : Option (List ℕ)) where
  -- where a reading halts and nothing is written, that is what the result of the command by this halt tells
  halts_so : (halt : Halt) → HearsSo tells before after (Err halt) →
      SaysSo tells Out code_of (streams before after taken taken) (Err halt)
  halts_so halts.Read h = (h, Appends-nil taken)
  halts_so halts.Over h = (h, Appends-nil taken)
  halts_so halts.NoMemory h = (h, Appends-nil taken)
  halts_so halts.Write h = absurd h
  halts_so halts.Cut h = absurd h

  -- where a reading halts and nothing is written, the command's result that is this halt tells so
  pub says_nothing : (halt : Halt) → HearsSo tells before after (Err halt) →
      (result : Result ExitStatus Halt) (got : Halt) → result ≡ Err got → got ≡ halt →
      SaysSo tells Out code_of (streams before after taken taken) result
  says_nothing halt h result got is same =
      subst (λ (r : Result ExitStatus Halt). SaysSo tells Out code_of (streams before after taken taken) r)
      (sym (is ∙ ap Err same)) (halts_so halt h)

  -- where something is said of the input, and what was written is right by the result, the command reads and writes
  -- what the result tells
  pub says : (what : R) → Hears tells before after what → (now : Option (List ℕ)) (result : Result ExitStatus Halt) →
      WritesSo (Out what) (code_of what) taken now result →
      SaysSo tells Out code_of (streams before after taken now) result
  says what h now (Ok status) w =
      record {
        what = what;
        hears = h;
        output = w.output;
        is_output = w.is_output;
        written = w.written;
        status = w.status;
      }
  says what h now (Err halts.Write) w =
      record { what = what; hears = h; output = w.output; is_output = w.is_output; written = w.written }
  says what h now (Err halts.NoMemory) w = (record { read = h.read; consumed = h.consumed }, w)
  says what h now (Err halts.Read) w = absurd w
  says what h now (Err halts.Cut) w = absurd w
  says what h now (Err halts.Over) w = absurd w

-- where any output of one kind is one of a second kind, a command that writes the first kind writes the second
says_also : {R : Type 0} (tells : List (Line (List ℕ)) → Option R) (Out Other : R → List ℕ → Type 0)
    (code_of : R → ℕ) (s : Streams) (result : Result ExitStatus Halt) →
    ((what : R) (written : List ℕ) → Out what written → Other what written) → SaysSo tells Out code_of s result →
    SaysSo tells Other code_of s result
says_also tells Out Other code_of s (Ok status) also h =
    record {
      what = h.what;
      hears = h.hears;
      output = h.output;
      is_output = also h.what h.output h.is_output;
      written = h.written;
      status = h.status;
    }
says_also tells Out Other code_of s (Err halts.Write) also h =
    record {
      what = h.what;
      hears = h.hears;
      output = h.output;
      is_output = also h.what h.output h.is_output;
      written = h.written;
    }
says_also tells Out Other code_of s (Err halts.Read) also h = h
says_also tells Out Other code_of s (Err halts.Over) also h = h
says_also tells Out Other code_of s (Err halts.NoMemory) also h = h
says_also tells Out Other code_of s (Err halts.Cut) also h = absurd h

-- where the text of a fault is an output of a command, a command that writes that or the output of a result writes its
-- output
says_out : {G F : Type 0} (tells : List (Line (List ℕ)) → Option (Result G F))
    (Out : Result G F → List ℕ → Type 0) (line : F → List ℕ) (code_of : Result G F → ℕ) (s : Streams)
    (result : Result ExitStatus Halt) →
    ((fault : F) (written : List ℕ) → written ≡ line fault → Out (Err fault) written) →
    SaysSo tells (SaidOut (λ given. Out (Ok given)) line) code_of s result → SaysSo tells Out code_of s result
says_out {G} {F} tells Out line code_of s result refused =
    says_also tells (SaidOut (λ given. Out (Ok given)) line) Out code_of s result by
  where
    by : (what : Result G F) (written : List ℕ) → SaidOut (λ given. Out (Ok given)) line what written →
        Out what written
    by (Ok given) written out = out
    by (Err fault) written is = refused fault written is

-- ---- what is sent of a text that was printed

-- where memory ran out and nothing was written, that is what the result for lack of memory tells
pub sends_none : (Out : List ℕ → Type 0) (code : ℕ) (taken : Option (List ℕ)) (result : Result ExitStatus Halt)
    (got : Halt) → result ≡ Err got → got ≡ halts.NoMemory → WritesSo Out code taken taken result
sends_none Out code taken result got is same =
    subst (λ (r : Result ExitStatus Halt). WritesSo Out code taken taken r) (sym (is ∙ ap Err same)) (Appends-nil taken)

module _ (printed : Result ExitStatus AllocError) (text : List ℕ) (taken : Option (List ℕ)) where
  module _ (status : ExitStatus) (is_printed : printed ≡ Ok status) (piece : List ℕ) (whole : piece ≡ text)
      (now : Option (List ℕ)) where
    -- where the whole text was written, that is what its status tells
    pub sends : Appends taken now piece → SendsSo printed text taken now (Ok status)
    sends sent = (is_printed, subst (Appends taken now) whole sent)

    -- where a beginning of the text was written, that is what the result of a failed write tells
    pub sends_in_part : Takes taken now piece → (result : Result ExitStatus Halt) (got : Halt) → result ≡ Err got →
        got ≡ halts.Write → SendsSo printed text taken now result
    sends_in_part sent result got is same =
        subst (λ (r : Result ExitStatus Halt). SendsSo printed text taken now r) (sym (is ∙ ap Err same))
        (status, is_printed, subst (Takes taken now) whole sent)

module _ (Out : List ℕ → Type 0) (code : ℕ) (none text : List ℕ) (is_none : none ≡ []) (taken now : Option (List ℕ))
  where
    -- a text that was printed onto an empty one is the output itself
    whole_output : (printed : Prints Out none text) → text ≡ printed.output
    whole_output printed = printed.behind ∙ ap (λ bs. bs ++ printed.output) is_none

    module _ (printed : Result ExitStatus AllocError) (prints : OnOk printed (Prints Out none text))
        (has_code : IfOk printed (λ status. status.code ≡ code)) where
      -- where printing gave a status, the text has an output that is allowed
      printed_so : (status : ExitStatus) → printed ≡ Ok status → Prints Out none text
      printed_so status is =
          subst (λ (r : Result ExitStatus AllocError). OnOk r (Prints Out none text)) is prints

      -- where what was written of a printed text is as the result tells, it is an allowed output, in whole or in part,
      -- as the result tells
      pub writes_sent : (result : Result ExitStatus Halt) → SendsSo printed text taken now result →
          WritesSo Out code taken now result
      writes_sent (Ok status) sent =
          let is = printed_so status sent.0 in record {
            output = is.output;
            is_output = is.is_output;
            written = subst (Appends taken now) (whole_output is) sent.1;
            status = subst (λ (r : Result ExitStatus AllocError). IfOk r (λ s. s.code ≡ code)) sent.0 has_code;
          }
      writes_sent (Err halts.Write) sent =
          let is = printed_so sent.0 sent.1 in record {
            output = is.output;
            is_output = is.is_output;
            written = subst (Takes taken now) (whole_output is) sent.2;
          }
      writes_sent (Err halts.NoMemory) sent = sent
      writes_sent (Err halts.Read) sent = absurd sent
      writes_sent (Err halts.Cut) sent = absurd sent
      writes_sent (Err halts.Over) sent = absurd sent

-- ---- from the start of a text on

-- a command on a text, as the code has it
abbrev Asked : Type 0
Asked = TextCommand (Bor (List ℕ))

-- a command equal to another reads a text as the other one does
reads_as : (command is : Asked) (style : Style) (s : Streams) (result : Result ExitStatus Halt) → command ≡ is →
    ReadsText (spelled_text is) style s result → ReadsText (spelled_text command) style s result
reads_as command is style s result e h =
    subst (λ (asked : Asked). ReadsText (spelled_text asked) style s result) (sym e) h

module _ (style : Style) (reader : TextRead) (begun : reader ≡ record { style = style; state = start; lines = 0 }) where
  -- a reader of a text that has read nothing says of lines what the text's definition says
  pub text_agrees : Agrees (TextSays reader) (text_said style)
  text_agrees lines answer h = subst (λ (r : TextRead). TextSays r lines answer) begun h

  -- a reader of `check` that has read nothing says of lines what `check` says
  check_agrees : Agrees (CheckSays (stage.Text reader)) (said style)
  check_agrees lines answer h = subst (λ (r : TextRead). CheckSays (stage.Text r) lines answer) begun h

  -- where the code's reading and writing are right for `check`, the command reads and writes what its definition has
  pub check_reads : (command : Asked) → command ≡ Check → (s : Streams) (result : Result ExitStatus Halt) →
      ((said : List (Line (List ℕ)) → Option ExactReply) → Agrees (CheckSays (stage.Text reader)) said →
      SaysSo said CheckOut check_code s result) →
      ReadsText (spelled_text command) style s result
  check_reads command asked s result h =
      reads_as command Check style s result asked (h (said style) check_agrees)

  -- a reader of `check --wide` that has read nothing says of lines what `check --wide` says
  wide_agrees : Agrees (WideSays (wide_stage.Text reader)) (wide_said style)
  wide_agrees lines answer h = subst (λ (r : TextRead). WideSays (wide_stage.Text r) lines answer) begun h

  -- where the code's reading and writing are right for `check --wide`, the command reads and writes what its definition
  -- has
  pub wide_reads : (command : Asked) → command ≡ CheckWide → (s : Streams) (result : Result ExitStatus Halt) →
      ((said : List (Line (List ℕ)) → Option ExactReply) → Agrees (WideSays (wide_stage.Text reader)) said →
      SaysSo said WideCheckOut check_code s result) →
      ReadsText (spelled_text command) style s result
  wide_reads command asked s result h =
      reads_as command CheckWide style s result asked (h (wide_said style) wide_agrees)

  -- a reader of a large model's text that has read nothing says of lines what the text's definition says
  large_agrees : Agrees (LargeSays reader) (text_said_within large_limits style)
  large_agrees lines answer h = subst (λ (r : TextRead). LargeSays r lines answer) begun h

  -- where the code's reading and writing are right for `solve --wide`, the command reads and writes what its definition
  -- has
  pub wide_solve_reads : (command : Asked) → command ≡ SolveWide → (s : Streams) (result : Result ExitStatus Halt) →
      ((said : List (Line (List ℕ)) → Option TextSaid) → Agrees (LargeSays reader) said →
      SaysSo said SolveWideOut solve_code s result) →
      ReadsText (spelled_text command) style s result
  wide_solve_reads command asked s result h =
      reads_as command SolveWide style s result asked (h (text_said_within large_limits style) large_agrees)

-- where `range` of one number writes an allowed output of what the text says, it reads and writes what its definition
-- has
pub range_reads : (style : Style) (command : Asked) (moved : Moved) (name : Bor (List ℕ)) → command ≡ Range moved name →
    (s : Streams) (result : Result ExitStatus Halt) →
    SaysSo (text_said style) (RangeOut moved name.now) (range_code moved name.now) s result →
    ReadsText (spelled_text command) style s result
range_reads style command moved name asked s result h = reads_as command (Range moved name) style s result asked h

-- a text whose model is given to a command
module _ (style : Style) (command : Asked) (s : Streams) (result : Result ExitStatus Halt) where
  -- where a command writes an allowed output of a text's model or the line of its fault, it writes what its definition
  -- allows of what the text says
  of_text : (Out : TextSaid → List ℕ → Type 0) →
      ((fault : MpsFault) (written : List ℕ) → written ≡ misspelled_line fault → Out (Err fault) written) →
      SaysSo (text_said style) (TextOut (λ m. Out (Ok m))) solve_code s result →
      SaysSo (text_said style) Out solve_code s result
  of_text Out refused h = says_out (text_said style) Out misspelled_line solve_code s result refused h

  -- where `solve` writes an allowed output of the model or the line of the text's fault, it reads and writes what its
  -- definition has
  pub solve_reads : command ≡ Solve → SaysSo (text_said style) (TextOut (λ m. SolveOut (Ok m))) solve_code s result →
      ReadsText (spelled_text command) style s result
  solve_reads asked h = reads_as command Solve style s result asked (of_text SolveOut (λ fault written is. is) h)

  -- where `presolve` writes an allowed output of the model or the line of the text's fault, it reads and writes what
  -- its definition has
  pub presolve_reads : command ≡ Presolve →
      SaysSo (text_said style) (TextOut (λ m. PresolveOut (Ok m))) solve_code s result →
      ReadsText (spelled_text command) style s result
  presolve_reads asked h =
      reads_as command Presolve style s result asked (of_text PresolveOut (λ fault written is. is) h)

  -- where `iis` writes an allowed output of the model or the line of the text's fault, it reads and writes what its
  -- definition has
  pub iis_reads : command ≡ Iis → SaysSo (text_said style) (TextOut (λ m. IisOut (Ok m))) solve_code s result →
      ReadsText (spelled_text command) style s result
  iis_reads asked h = reads_as command Iis style s result asked (of_text IisOut (λ fault written is. is) h)

  -- where `range all` writes an allowed output of the model or the line of the text's fault, it reads and writes what
  -- its definition has
  pub ranges_reads : command ≡ RangeAll →
      SaysSo (text_said style) (TextOut (λ m. RangesOut (Ok m))) solve_code s result →
      ReadsText (spelled_text command) style s result
  ranges_reads asked h = reads_as command RangeAll style s result asked (of_text RangesOut (λ fault written is. is) h)

-- ---- and of a basis file after it

module _ (limits : SizeLimits) (style : Style) (reader : ReadWithin)
    (begun : reader ≡ record { limits = limits; text = record { style = style; state = start; lines = 0 } }) where
  -- a reader of `basis` that has read nothing says of lines what `basis` says within its limits
  pub basis_agrees : Agrees (BasisSays (basis_stage.Text reader)) (basis_said limits style)
  basis_agrees lines answer h =
      sym (said_within limits (InText style start 0) lines)
      ∙ subst (λ (r : ReadWithin). BasisSays (basis_stage.Text r) lines answer) begun h

pub basis_reads : (style : Style) (command : Asked) → command ≡ Basis → (s : Streams) (result : Result ExitStatus Halt) →
    SaysSo (basis_said usual_limits style) (SaidOut (λ handed. BasisOut (Ok handed)) basis_fault_line) basis_code s
    result →
    ReadsText (spelled_text command) style s result
basis_reads style command asked s result h =
    reads_as command Basis style s result asked
    (says_out (basis_said usual_limits style) BasisOut basis_fault_line basis_code s result (λ fault written is. is) h)

pub wide_basis_reads : (style : Style) (command : Asked) → command ≡ BasisWide → (s : Streams)
    (result : Result ExitStatus Halt) →
    SaysSo (basis_said large_limits style) (SaidOut (λ handed. BasisWideOut (Ok handed)) basis_fault_line) basis_code s
    result →
    ReadsText (spelled_text command) style s result
wide_basis_reads style command asked s result h =
    reads_as command BasisWide style s result asked
    (says_out (basis_said large_limits style) BasisWideOut basis_fault_line basis_code s result
    (λ fault written is. is) h)
