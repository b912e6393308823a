-- What a step of whatever kind may read of places.
use Rattle.std.specs.Prelude.{ℕ, ◌≡◌, ◌<◌, List, ◌∷◌, slice_index}
use mathlib.Core.Option.{some}
use lib.ListN.{get_elem?}
use Rattle.spec_board.specs.Places.{ExactPlace, IsShown}
use Rattle.atomic_table.specs.Table.{State, Act, stepped}
use Rattle.basis_board.specs.declared.seats.Sight.{Sight}
use Rattle.basis_board.specs.declared.seats.RawRead.{RawRead}
use Rattle.basis_board.specs.declared.seats.RawRead.TheVariants.{Count, Open, See, Claim, Lost, Done}
use Rattle.basis_board.specs.Board.{count}
use Rattle.basis_board.specs.Places.{payload}
use Rattle.basis_board.specs.Moments.{KeptInTime, Later}
use Rattle.basis_board.specs.PassReads.{exact_read}
use Rattle.basis_board.specs.Spelled.{AreSpelled, IsAnswered}

-- the read is of the count or of a claimed place, and changes no place; words that it saw are those of that place
abbrev pub IsOfClaimed : List ℕ → RawRead → Type 0
IsOfClaimed ws (Count c) = Unit {0}
IsOfClaimed ws (Open k) = k < count ws
IsOfClaimed ws (See k xs) = (k < count ws) × IsShown (payload ws k) xs
IsOfClaimed ws (Claim k) = ⊥
IsOfClaimed ws (Lost c) = Unit {0}
IsOfClaimed ws (Done k xs) = ⊥

-- Where a step leaves its word as it was, keeps the board's rule and notes one read more, of the count or of a claimed
-- place (`IsOfClaimed`), the places that the words spell answer that read, whatever kind of step it is.
abbrev pub AnyKindIsAnswered : Type 0
AnyKindIsAnswered =
    (places session i n id : ℕ) (s : State ℕ Sight) (v w : Sight) (slots : List (ℕ × ℕ)) (act : Act ℕ) (read : RawRead)
    (now : List ExactPlace) → KeptInTime places s → get_elem? s.views id ≡ some v → n ≡ slice_index s.words i →
    KeptInTime places (stepped s i n id slots w act) → Later v w → w.view.reads ≡ read ∷ v.view.reads →
    AreSpelled s.words now → IsOfClaimed s.words read → IsAnswered places now session (exact_read read) s.words
