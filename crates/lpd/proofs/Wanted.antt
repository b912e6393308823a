-- As many listeners as a server has workers.
use Rattle.std.proofs.Common.{◌≡◌, ℕ, List, Option, Some, None, refl, ap, ◌∙◌}
use Rattle.spec_program.specs.CommandLine.{Word, ExactLine, Address, command_line_of, address_of}
use Rattle.spec_program.specs.declared.command_line.CommandLine.TheVariants.{Run, Read, Generate, Serve}
use Rattle.spec_program.proofs.Addresses.{has_address}
use Rattle.lp_top.specs.Top.{HasListeners}

-- how many workers a server has; 0 where there is no server
abbrev pub workers_at : Option Address → ℕ
workers_at None = 0
workers_at (Some server) = server.workers

-- a command line wants as many listeners as its server has workers, and none where it starts no server
pub are-wanted : (words : List Word) (server : Option Address) → server ≡ address_of words →
    HasListeners (command_line_of words) (workers_at server)
are-wanted words server is = by (command_line_of words) refl
  where
    by : (command : Option ExactLine) → command_line_of words ≡ command → HasListeners command (workers_at server)
    by None e = tt
    by (Some (Run workers places)) e = tt
    by (Some (Read command style)) e = tt
    by (Some (Generate seed rows columns)) e = tt
    by (Some (Serve workers each places)) e =
        ap workers_at (is ∙ (has_address words workers each places e).1)
