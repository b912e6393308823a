-- What holds of lists that are made from the numbers 0, 1 and so on.
--
-- `All-made`: what holds of f 0 to f (n - 1) holds of all members of their list.
-- `AllPairs-map`: a relation of g (f i) with g (f j), for each i below j, holds of the pairs of the list of these.
use Rattle.std.proofs.Common.{◌≡◌, ℕ, ◌<◌, List, [], ◌∷◌, map, refl, ap, All, sym, subst, subst₂, arith}
use Rattle.std.specs.List.{AllPairs, range_with_len}
use Rattle.std.proofs.lemmas.List.FromFn.{length-map-range_with_len, get_or-map-range_with_len}

pub All-made : {X : Type 0} (P : X → Type 0) (f : ℕ → X) (n : ℕ) → ((i : ℕ) → i < n → P (f i)) →
    All P (map f (range_with_len 0 n))
All-made P f n h = λ k d l.
    let inside : k < n = omega (arith, length-map-range_with_len f 0 n) in
    subst P (sym (get_or-map-range_with_len f 0 n k k d inside (omega arith))) (h k inside)

-- where R holds of f i and f j for each i < j < n, it holds of all pairs in the list of f 0 to f (n - 1)
AllPairs-made : {X : Type 0} (R : X → X → Type 0) (f : ℕ → X) (n : ℕ) →
    ((i j : ℕ) → i < j → j < n → R (f i) (f j)) → AllPairs R (map f (range_with_len 0 n))
AllPairs-made R f n h = λ i j d k l.
    let inside : j < n = omega (arith, length-map-range_with_len f 0 n) in
    let one = get_or-map-range_with_len f 0 n i i d (omega arith) (omega arith) in
    let other = get_or-map-range_with_len f 0 n j j d inside (omega arith) in
    subst₂ R (sym one) (sym other) (h i j k inside)

-- to map a list by f and then by g is to map it by both at once
map-map : {X Y Z : Type 0} (g : Y → Z) (f : X → Y) (xs : List X) → map g (map f xs) ≡ map (λ x. g (f x)) xs
map-map g f [] = refl
map-map g f (x ∷ xs) = ap (λ ys. g (f x) ∷ ys) (map-map g f xs)

-- where R holds of a part of each two of n made elements, in their order, it holds so in the list of the parts
pub AllPairs-map : {X Y : Type 0} (R : Y → Y → Type 0) (g : X → Y) (f : ℕ → X) (n : ℕ) →
    ((i j : ℕ) → i < j → j < n → R (g (f i)) (g (f j))) → AllPairs R (map g (map f (range_with_len 0 n)))
AllPairs-map R g f n h =
    subst (AllPairs R) (sym (map-map g f (range_with_len 0 n))) (AllPairs-made R (λ i. g (f i)) n h)
