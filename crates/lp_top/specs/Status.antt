-- The status of what keeps a server from its end.
use Rattle.std.specs.Prelude.{ℕ, Result, Ok, Err}
use Rattle.lp_serve.specs.declared.fault.ServeFault.{ServeFault}
use Rattle.lp_serve.specs.declared.fault.ServeFault.TheVariants as faults

-- the exit status of a server that failed: 7 where a listener failed to give a link, 4 for writing, 5 for memory
abbrev pub code_of_fault : ServeFault → ℕ
code_of_fault faults.Accept = 7
code_of_fault faults.Write = 4
code_of_fault faults.NoMemory = 5

-- the exit status of a service by its result: 0, or that of its fault
abbrev pub code_of_service : Result (Unit {0}) ServeFault → ℕ
code_of_service (Ok u) = 0
code_of_service (Err fault) = code_of_fault fault
