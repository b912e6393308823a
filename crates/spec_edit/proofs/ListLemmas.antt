-- What holds of the items of a list, and what is read of them, after a change of the list.
--
-- `All-remove`: what holds of each item holds of each that is left when one is removed.
-- `map-remove`: removing an item and then mapping gives the same as mapping and then removing.
-- `map-map_unseen`: where a change of items does not alter what f gives for an item, it does not alter what f gives for
--   a list's items.
-- `map-set_unseen`: replacing an item by one for which f gives the same does not alter what f gives for the items of a
--   list.
use Rattle.std.proofs.Common.{◌≡◌, ℕ, suc, ◌<◌, List, [], ◌∷◌, length, map, take}
use Rattle.std.proofs.Common.{drop, set, get_or, All, refl, sym, ap, ap₂, ◌∙◌}
use Rattle.std.specs.List.{remove}
use Rattle.std.proofs.lemmas.List.{map-append, take-map, drop-map, map-set, set-get_or, get_or-map}
use Rattle.std.proofs.lemmas.List.Elements.{All-append, All-take, All-drop}

pub All-remove : {X : Type 0} (P : X → Type 0) (xs : List X) (i : ℕ) → All P xs → All P (remove xs i)
All-remove P xs i h = All-append P (take i xs) (drop (suc i) xs) (All-take P i xs h) (All-drop P (suc i) xs h)

pub map-remove : {X Y : Type 0} (f : X → Y) (xs : List X) (i : ℕ) → map f (remove xs i) ≡ remove (map f xs) i
map-remove f xs i = rw (map-append, take-map f i xs, drop-map f (suc i) xs) refl

-- a map that what is read of each element does not see
pub map-map_unseen : {X Y : Type 0} (f : X → Y) (change : X → X) → ((x : X) → f (change x) ≡ f x) → (xs : List X) →
    map f (map change xs) ≡ map f xs
map-map_unseen f change same [] = refl
map-map_unseen f change same (x ∷ xs) = ap₂ ◌∷◌ (same x) (map-map_unseen f change same xs)

pub map-set_unseen : {X Y : Type 0} (f : X → Y) (xs : List X) (i : ℕ) (d x : X) → i < length xs →
    f x ≡ f (get_or xs i d) → map f (set xs i x) ≡ map f xs
map-set_unseen f xs i d x l e =
    map-set f xs i x ∙ ap (set (map f xs) i) (e ∙ sym (get_or-map f xs i d (f d) l)) ∙ set-get_or (map f xs) i (f d)
