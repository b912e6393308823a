-- What the text of a reply says, what a solve's answer says of a model, and the width of its value.
use Rattle.std.specs.Prelude.{ℕ, ◌≡◌, ◌⊎◌, List, ◌++◌, codes}
use Rattle.spec_exact.specs.Fraction.{ℚ}
use Rattle.spec_exact.specs.Narrow.{IsNarrow}
use Rattle.spec_model.specs.Model.{Model}
use Rattle.spec_model.specs.Truth.{IsOptimal, IsInfeasible, IsUnbounded}
use Rattle.spec_check.specs.declared.certificate.Known.{Known}
use Rattle.spec_check.specs.declared.certificate.Known.TheVariants as known
use Rattle.spec_server.specs.declared.asks.Reply.TheVariants as reply
use Rattle.spec_server.specs.Machine.{ExactReply}
use Rattle.spec_server.specs.Output.{reply_text}

-- the first line of a reply is `text`, or the word YES and `text`, as for a yes to a certificate
abbrev pub Says : ExactReply → List ℕ → Type 0
Says replied text = (reply_text replied ≡ text) ⊎ (reply_text replied ≡ codes "YES " ++ text)

-- the reply is one to a solve, and what it knows is true of the model; of PAST and SPENT nothing more is asked
abbrev pub IsTrueOf : Model → ExactReply → Type 0
IsTrueOf m (reply.Known (known.Optimal v)) = IsOptimal m v
IsTrueOf m (reply.Known known.Infeasible) = IsInfeasible m
IsTrueOf m (reply.Known known.Unbounded) = IsUnbounded m
IsTrueOf m (reply.Past p) = Unit {0}
IsTrueOf m (reply.Spent budget) = Unit {0}
IsTrueOf m replied = ⊥

-- if the answer has an optimal value, this has at most 127 bits
abbrev pub IsNarrowKnown : Known ℚ → Type 0
IsNarrowKnown (known.Optimal v) = IsNarrow v
IsNarrowKnown known.Infeasible = Unit {0}
IsNarrowKnown known.Unbounded = Unit {0}
