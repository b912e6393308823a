-- What is written of the exchanges of a script: the lines of each reply.
use Rattle.std.specs.Prelude.{ℕ, List}
use Rattle.std.specs.List.{flat_map}
use Rattle.spec_server.specs.declared.addressing.Addressing.TheVariants.{Numbered}
use Rattle.spec_server.specs.Output.{reply_lines}
use Rattle.spec_server.specs.Exchanges.{Exchange}

-- the output of a script's exchanges: the lines of each reply, behind the number of its session
abbrev pub script_out : List Exchange → List ℕ
script_out xs = flat_map (λ x. reply_lines Numbered x.session x.reply) xs
