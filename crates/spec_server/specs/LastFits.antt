-- What holds of the last answer that a session keeps.
use Rattle.std.specs.Prelude.{ℕ, Option, Some, None}
use Rattle.spec_model.specs.Model.{Model}
use Rattle.spec_solve.specs.Answers.{MayAnswer}
use Rattle.spec_server.specs.Machine.{ExactLastAnswer}

-- a session without a model has no last answer, and that of a session with one is an answer that its model may have,
-- within some budget
abbrev pub LastFits : Option Model → Option ExactLastAnswer → Type 0
LastFits model None = Unit {0}
LastFits None (Some last) = ⊥
LastFits (Some m) (Some last) = (budget : ℕ) × MayAnswer m budget last.solved
