-- A section that is written where it says something.
use Rattle.std.proofs.Common.{◌≡◌, Bool, true, false, cond, [], ◌∷◌, refl}
use Rattle.spec_mps.specs.declared.style.Style.{Style}
use Rattle.spec_mps.specs.Reader.{State}
use Rattle.spec_mps.specs.Written.{WrittenCard, WrittenCards}
use Rattle.spec_mps.proofs.WrittenSteps.{Goes}
use Rattle.spec_mps.proofs.WrittenRows.{goes_none, goes_then}
use Rattle.spec_mps.proofs.WrittenRoom.{RoomFor, room_back}

-- a section that is written with its heading and cards, or not at all, is read either way
pub section_read : (style : Style) (s one : State) (heading : WrittenCard) (cards : WrittenCards) (P : State → Type 0) →
    Goes style s (heading ∷ []) one → (RoomFor style cards → (t : State) × Goes style one cards t × P t) →
    (there : Bool) → RoomFor style (cond there (heading ∷ cards) []) → (there ≡ false → P s) →
    (t : State) × Goes style s (cond there (heading ∷ cards) []) t × P t
section_read style s one heading cards P begins reads true room none =
    let r = reads (room_back style (heading ∷ []) cards room) in
    (r.0, goes_then style s one r.0 heading cards begins r.1, r.2)
section_read style s one heading cards P begins reads false room none = (s, goes_none style s, none refl)
