-- Where a server listens, and for how many workers.
use Rattle.std.specs.Prelude.{Option, Some, None, string_bytes}
use Rattle.spec_program.specs.CommandLine.{Address}
use Rattle.lp_command_line.specs.declared.listening.Serving.{Serving}

-- where a server is to listen, and its number of workers, as the definition has what the code holds
abbrev pub planned : Option Serving → Option Address
planned None = None
planned (Some serving) = Some (record { address = string_bytes serving.address.now; workers = serving.workers })
