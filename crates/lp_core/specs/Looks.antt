-- What a look finds at a place.
use Rattle.std.specs.Prelude.{ℕ, Option, Some, None, List, if◌then◌else◌}
use Rattle.spec_board.specs.declared.place.Place.TheVariants as place
use Rattle.spec_board.specs.Reads.{Words, has_shape}
use Rattle.spec_board.specs.Places.{ExactPlace, place_at}
use Rattle.lp_core.specs.declared.stage.Stage.{Stage}
use Rattle.lp_core.specs.declared.stage.Stage.TheVariants.{Solving}
use Rattle.lp_core.specs.Stages.{looking_at}

-- the words of a place, if it is done; else none
abbrev pub words_in : Option ExactPlace → Option Words
words_in (Some (place.Done words)) = Some words
words_in other = None

-- the words of place k, if it is done; else none
abbrev pub words_at : List ExactPlace → ℕ → Option Words
words_at now k = words_in (place_at now k)

-- the stage of a look after its read of place k: ended with the place, if it is done with the shape; else at the next
-- one down, or ended with nothing
abbrev pub seen_at : Words → ℕ → Option Words → Stage
seen_at shape k None = looking_at shape k
seen_at shape k (Some words) =
    if has_shape shape words then Solving (Some (record { place = k; words = words })) else looking_at shape k
