-- By the words after the command's.
use Rattle.spec_program.proofs.Addresses.{has_address}
use Rattle.spec_program.proofs.servers_have_addresses.Goals as goal

pub returns : goal.returns
returns c = has_address
