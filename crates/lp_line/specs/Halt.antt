-- What halts a command, by what failed in it.
use Rattle.lp_base.specs.declared.lines.LineStop.{LineStop}
use Rattle.lp_base.specs.declared.lines.LineStop.TheVariants.{Read, NoMemory}
use Rattle.lp_line.specs.declared.halt.Halt.{Halt}
use Rattle.lp_line.specs.declared.halt.Halt.TheVariants as halts

-- the halt of a command whose input could not be read: by a fault of the input, or for lack of memory
abbrev pub halt_of : LineStop → Halt
halt_of Read = halts.Read
halt_of NoMemory = halts.NoMemory
