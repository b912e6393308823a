-- That what a server writes to its links is true.
use Rattle.std.specs.Prelude.{ℕ, ◌≡◌, ◌<◌, Option, Some, List, [], ◌∷◌, All, length, slice_index_or}
use Rattle.std.specs.List.{flat_map}
use Rattle.spec_server.specs.declared.addressing.Addressing.TheVariants.{Alone}
use Rattle.spec_server.specs.Streams.{Streams, streams}
use Rattle.spec_program.specs.declared.command_line.CommandLine.TheVariants.{Serve}
use Rattle.spec_program.specs.CommandLine.{ExactLine}
use Rattle.spec_text_truth.specs.TrueOutput.{AreTrueReplies, Tells}
use Rattle.lp_base.specs.LinkState.{LinkState}
use Rattle.lp_base.specs.Listening.{Given, Returned, Grows, ListenerState}
use Rattle.lp_serve.specs.Serving.{no_listener}

-- a link that a listener lent: as it was given, and as it came back
pub record Lent : Type 0 where
  pub given : LinkState
  pub back : LinkState

-- the bytes of a connection before and after it was lent
abbrev pub lent_streams : Lent → Streams
lent_streams x = streams x.given.source.left x.back.source.left x.given.sink.taken x.back.sink.taken

-- The listener gave these links, each after the one before had come back. What was written to each is true by what was
-- read of it.
pub record IsTrueListener (old new : ListenerState) : Type 0 where
  pub links : List Lent
  pub log : Grows old.log new.log (flat_map (λ x. Given x.given ∷ Returned x.back ∷ []) links)
  pub are_true : All (λ x. Tells (AreTrueReplies Alone) (lent_streams x)) links

-- for a server, what was written to the links of each listener is true;
-- any other command leaves the listeners as they were
abbrev pub AreTrueListeners : Option ExactLine → List ListenerState → List ListenerState → Type 0
AreTrueListeners (Some (Serve workers each places)) olds news =
    (i : ℕ) → i < length olds →
    IsTrueListener (slice_index_or olds i no_listener) (slice_index_or news i no_listener)
AreTrueListeners other olds news = news ≡ olds
