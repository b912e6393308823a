-- The read that each kind of step of a board is.
use Rattle.std.proofs.Common.{◌≡◌, ℕ, zero, suc, List, [], ◌∷◌, ◌++◌, length, map, Some, refl, sym}
use Rattle.std.proofs.Common.{ap, ◌∙◌}
use Rattle.std.specs.Prelude.{slice_get, slice_set}
use Rattle.std.proofs.lemmas.List.{length-map, map-append}
use Rattle.spec_board.specs.declared.place.Place.TheVariants as place
use Rattle.spec_board.specs.Places.{ExactPlace, place_at}
use Rattle.atomic_table.specs.Table.{State}
use Rattle.basis_board.specs.declared.seats.View.{View}
use Rattle.basis_board.specs.Board.{count}
use Rattle.basis_board.specs.Places.{Taken, Shown, Ties}
use Rattle.basis_board.specs.Rule.{Kept}
use Rattle.basis_board.proofs.Tying.{ties}
use Rattle.basis_board.specs.Spelled.{spelled, AreSpelled, StepsAreReads}
use Rattle.basis_board.proofs.Changing.{spelled_with}

-- ---- one place

-- where a place is spelled as claimed, some session has claimed it
taken_place : (ps : List ExactPlace) (k : ℕ) → slice_get (map spelled ps) k ≡ Some Taken →
    (owner : ℕ) × (place_at ps k ≡ Some (place.Claimed owner))
taken_place [] k e = cc
taken_place (place.Claimed owner ∷ ps) zero e = (owner, refl)
taken_place (place.Done words ∷ ps) zero e = cc
taken_place (p ∷ ps) (suc k) e = taken_place ps k e

-- a place that is spelled as shown with these words is done with these words
shown_place : (ps : List ExactPlace) (k : ℕ) (words : List ℕ) → slice_get (map spelled ps) k ≡ Some (Shown words) →
    place_at ps k ≡ Some (place.Done words)
shown_place [] k words e = cc
shown_place (place.Claimed owner ∷ ps) zero words e = cc
shown_place (place.Done payload ∷ ps) zero words e = let z : payload ≡ words = cc in ap (λ ws. Some (place.Done ws)) z
shown_place (p ∷ ps) (suc k) words e = shown_place ps k words e

-- ---- all kinds

-- where the words of a state that keeps the rule spell the places, each kind of step is a read that they answer
pub steps_read : (places : ℕ) (s : State ℕ View) (now : List ExactPlace) → Kept places s → AreSpelled s.words now →
    StepsAreReads places s now
steps_read places s now kept is =
    let t : Ties places s = ties places s kept in
    let all : count s.words ≡ length now =
    sym t.loads.count_is ∙ ap length (sym is) ∙ length-map now spelled in
    record {
      counts = λ session. (now, (all, refl), is);
      opens =
          λ session k l undone. let c = taken_place now k (ap (λ ps. slice_get ps k) is ∙ t.loads.undone k l undone) in
          (now, (c.0, c.1, refl), is);
      sees =
          λ session k words l done shows.
          (now, (_, shown_place now k _ (ap (λ ps. slice_get ps k) is ∙ t.loads.is_done k l done), shows, refl), is);
      claims =
          λ session room. (
            now ++ place.Claimed session ∷ [],
            (all, room, refl),
            map-append spelled now (place.Claimed session ∷ []) ∙ ap (λ ps. ps ++ Taken ∷ []) is ∙ sym (t.claims room),
          );
      loses = λ session. (now, (all, refl), is);
      stores = λ seat v k words m b there held l. is ∙ sym ((t.holders seat v k words there held).stores m b l);
      finishes =
          λ seat v k words session there held size mine. (
            _,
            (mine, refl),
            spelled_with now k (place.Done words) ∙ ap (λ ps. slice_set ps k (Shown words)) is
                ∙ sym ((t.holders seat v k words there held).finishes size),
          );
    }
