-- What is known of a link.
use Rattle.std.specs.Prelude.{ℕ, ◌≡◌, List, [], Option, Some, None}
use Rattle.lp_base.specs.Beside.{SinkState, SourceState}

-- the state of a source with these bytes left and this count of faults
abbrev pub source_of : Option (List ℕ) → ℕ → SourceState
source_of left faults = record { left = left; read_faults = faults }

-- the state of a sink that took these bytes, with this count of faults
abbrev pub sink_of : Option (List ℕ) → ℕ → SinkState
sink_of taken faults = record { taken = taken; write_faults = faults }

-- what is known of a link: the state of its source and that of its sink
pub record LinkState : Type 0 where
  pub source : SourceState
  pub sink : SinkState

-- the state of a link, by the functions that tell of its source and its sink
abbrev pub state_of : {L : Type 0} → (L → Option (List ℕ)) → (L → ℕ) → (L → Option (List ℕ)) → (L → ℕ) → L → LinkState
state_of left read_faults taken write_faults link = record {
  source = source_of (left link) (read_faults link);
  sink = sink_of (taken link) (write_faults link);
}

-- if the bytes are known, there are none
abbrev pub IsNothing : Option (List ℕ) → Type 0
IsNothing None = Unit {0}
IsNothing (Some bytes) = bytes ≡ []
