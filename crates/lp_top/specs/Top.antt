-- What the top call reads and writes, by its status.
use Rattle.std.specs.Prelude.{ℕ, ◌≡◌, ◌⊎◌, List, [], Option, Some, None, Result}
use Rattle.std.specs.Io.KnownBytes.{Consumes, Appends}
use Rattle.spec_program.specs.declared.command_line.CommandLine.TheVariants.{Run, Read, Generate, Serve}
use Rattle.spec_program.specs.CommandLine.{ExactLine}
use Rattle.spec_commands.specs.GenOut.{GenOut}
use Rattle.spec_server.specs.Script.{Ended, Cut}
use Rattle.spec_server.specs.Script as script
use Rattle.lp_text_commands.specs.Generating.{TellsOfWriting}
use Rattle.lp_base.specs.Listening.{ListenerState}
use Rattle.lp_script.specs.Run.{Moves, EndsInput, EndsWith, BreaksOff}
use Rattle.lp_serve.specs.Serving.{Serves}
use Rattle.lp_serve.specs.declared.fault.ServeFault.{ServeFault}
use Rattle.lp_top.specs.Status.{code_of_service}
use Rattle.spec_server.specs.Streams.{Streams}
use Rattle.lp_text_commands.specs.TextCommands.{TellsOfText}

-- the status is one that this command line may end with; 2 alone where the words are no command line
abbrev pub IsStatus : Option ExactLine → ℕ → Type 0
IsStatus None code = code ≡ 2
IsStatus (Some (Run workers places)) code =
    (code ≡ 0) ⊎ (code ≡ 3) ⊎ (code ≡ 4) ⊎ (code ≡ 5) ⊎ (code ≡ 6) ⊎ (code ≡ 8)
IsStatus (Some (Read command style)) code =
    (code ≡ 0) ⊎ (code ≡ 3) ⊎ (code ≡ 4) ⊎ (code ≡ 5) ⊎ (code ≡ 8) ⊎ (code ≡ 9)
IsStatus (Some (Generate seed rows columns)) code = (code ≡ 0) ⊎ (code ≡ 4) ⊎ (code ≡ 5)
IsStatus (Some (Serve workers each places)) code = (code ≡ 0) ⊎ (code ≡ 4) ⊎ (code ≡ 5) ⊎ (code ≡ 7)

-- What a status says of a script's run: 0, it read the whole script; 3, reading failed; 6, the script is cut off; 8, it
-- is too long. With these four the whole output of what was read was written. Of other statuses nothing is asked.
pub record Tells {workers places : ℕ} {s : Streams} (code : ℕ) (moves : Moves workers places s) : Type 0 where
  pub done : code ≡ 0 → EndsInput moves Ended
  pub fault : code ≡ 3 → BreaksOff moves
  pub cut : code ≡ 6 → EndsInput moves Cut
  pub over : code ≡ 8 → EndsWith moves script.Over

-- what a command line reads and writes; other words read and write nothing. A server reads nothing; what it writes,
-- `DoesOver` says.
abbrev pub Does : Option ExactLine → Streams → ℕ → Type 0
Does None s code = Consumes s.left_before s.left_after [] × Appends s.taken_before s.taken_after []
Does (Some (Run workers places)) s code = (moves : Moves workers places s) × Tells code moves
Does (Some (Read command style)) s code = TellsOfText command style s code
Does (Some (Generate seed rows columns)) s code = TellsOfWriting (GenOut seed rows columns) s code
Does (Some (Serve workers each places)) s code = Consumes s.left_before s.left_after []

-- ---- with the listeners of a server

-- for a server there are as many listeners as workers; for other commands nothing is asked
abbrev pub HasListeners : Option ExactLine → ℕ → Type 0
HasListeners (Some (Serve workers each places)) count = count ≡ workers
HasListeners other count = Unit {0}

-- what a server does with its links and writes of them, by its status
pub record TellsOfLinks (places each : ℕ) (s : Streams) (olds news : List ListenerState) (code : ℕ) : Type 0 where
  pub result : Result (Unit {0}) ServeFault
  pub serves : Serves places each olds news s.taken_before s.taken_after result
  pub status : code ≡ code_of_service result

-- what the command does with its listeners, by its status: a server serves their links,
-- and any other command leaves them
abbrev pub DoesOver : Option ExactLine → Streams → List ListenerState → List ListenerState → ℕ → Type 0
DoesOver (Some (Serve workers each places)) s olds news code = TellsOfLinks places each s olds news code
DoesOver other s olds news code = news ≡ olds
