-- What is known of a source and of a sink.
use Rattle.std.specs.Prelude.{ℕ, List, Option, None}
use Rattle.std.specs.Io.KnownBytes.{Appends}
use Rattle.spec_text.specs.Lines.{IsPrefixOf}

-- what is known of a sink: the bytes that it took, if they are known, and how often writing failed
pub record SinkState : Type 0 where
  pub taken : Option (List ℕ)
  pub write_faults : ℕ

-- what is known of a source: the bytes that are still to be read, if they are known, and how often reading failed
pub record SourceState : Type 0 where
  pub left : Option (List ℕ)
  pub read_faults : ℕ

-- the state that stands for a sink that is not there: its bytes are not known, and nothing failed
abbrev pub no_sink : SinkState
no_sink = record { taken = None; write_faults = 0 }

-- the state that stands for a source that is not there: its bytes are not known, and nothing failed
abbrev pub no_source : SourceState
no_source = record { left = None; read_faults = 0 }

-- a beginning of the piece, perhaps none or all of it, was added to what was taken
pub record Takes (before after : Option (List ℕ)) (piece : List ℕ) : Type 0 where
  pub bytes : List ℕ
  pub front : IsPrefixOf bytes piece
  pub taken : Appends before after bytes
