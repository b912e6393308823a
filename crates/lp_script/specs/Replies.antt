-- What the replies to the asks of a script are written as.
use Rattle.std.specs.Prelude.{ℕ, List}
use Rattle.std.specs.List.{flat_map, zip}
use Rattle.spec_server.specs.declared.addressing.Addressing.TheVariants.{Numbered}
use Rattle.spec_server.specs.Machine.{ExactReply}
use Rattle.spec_server.specs.Output.{reply_lines}

-- what is written of a reply: its lines, with the number of its session
abbrev pub lines_of_reply : ℕ × ExactReply → List ℕ
lines_of_reply pair = reply_lines Numbered pair.0 pair.1

-- the lines of the replies to requests of these sessions, one after the other
abbrev pub replies_out : List ℕ → List ExactReply → List ℕ
replies_out sessions replies = flat_map lines_of_reply (zip sessions replies)
