-- Sessions that hold nothing.
--
-- `none_formed`: where there are no places, all words are well formed.
-- `all_below`: sessions that have just opened claim no place beyond the limit.
-- `shows_opening`: sessions that have just opened, without claimed places, are held of the opening world.
use Rattle.std.proofs.Common.{◌≡◌, ℕ, ◌-◌, List, [], length, Some, sym, ap, subst, arith}
use Rattle.std.specs.Prelude.{get_or}
use Rattle.std.specs.List.{All}
use Rattle.spec_board.specs.declared.place.Place.TheVariants as place
use Rattle.spec_board.specs.Places.{ExactPlace, place_at}
use Rattle.spec_world.specs.World.{opening_world}
use Rattle.lp_core.specs.Core.{Kept, opening_kept, IsBelow, AreFormed, Shows}
use Rattle.lp_core.proofs.WorldActs.{first_part, last_part}

-- no place is done
pub none_formed : (ps : List ExactPlace) → ps ≡ [] → AreFormed ps
none_formed ps e k words at =
    let z : place_at [] k ≡ Some (place.Done words) = subst (λ qs. place_at qs k ≡ Some (place.Done words)) e at in cc

pub all_below : (limit : ℕ) (held : List Kept) → All (λ (kept : Kept). kept ≡ opening_kept) held →
    All (λ (kept : Kept). IsBelow limit kept.step) held
all_below limit held h k d l = subst (λ (kept : Kept). IsBelow limit kept.step) (sym (h k d l)) tt

pub shows_opening : (held : List Kept) (places : List ExactPlace) (limit : ℕ) →
    All (λ (kept : Kept). kept ≡ opening_kept) held → places ≡ [] →
    Shows (record { held = held; places = places; limit = limit }) opening_world
shows_opening held places limit h e = record {
  each = λ session there.
      let first = first_part session (length held) there in
      let last = last_part session (length held) there in
      let same : get_or held (session - 1) opening_kept ≡ opening_kept = h (session - 1) opening_kept (omega arith) in
      record { state_so = ap (λ (k : Kept). k.state) (sym same); step_so = ap (λ (k : Kept). k.step) (sym same) };
  places_so = sym e;
}
