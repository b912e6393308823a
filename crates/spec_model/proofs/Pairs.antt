-- What holds of each two items of a list: of its head and tail, and where lists are mapped or joined.
--
-- `AllPairs-head`: what holds of each two items holds of the first one with each later one.
-- `AllPairs-tail`: what holds of each two items holds of each two behind the first one.
-- `AllPairs-weaker`: what follows from a relation of each two items, and a property of each, holds of each two.
-- `AllPairs-map`: what holds of the images of each two items holds of each two items of the mapped list.
-- `AllPairs-append`: what holds of each two items in two lists, and across them, holds in the joined list.
use Rattle.std.proofs.Common.{suc, List, ◌∷◌, All, arith, [], map, ◌++◌}
use Rattle.std.specs.List.{AllPairs}
use Rattle.std.proofs.lemmas.List.Elements.{All-map, All-append, All-head, All-tail}
use Rattle.std.proofs.lemmas.List.Kept.{AllPairs-cons}

pub AllPairs-head : {X : Type 0} (R : X → X → Type 0) (x : X) (xs : List X) → AllPairs R (x ∷ xs) → All (R x) xs
AllPairs-head R x xs h = λ k d l. h 0 (suc k) d (omega arith) (omega arith)

pub AllPairs-tail : {X : Type 0} (R : X → X → Type 0) (x : X) (xs : List X) → AllPairs R (x ∷ xs) → AllPairs R xs
AllPairs-tail R x xs h = λ i j d l k. h (suc i) (suc j) d (omega arith) (omega arith)

pub AllPairs-weaker : {X : Type 0} (P : X → Type 0) (R S : X → X → Type 0) → ((x y : X) → P x → P y → R x y → S x y) →
    (xs : List X) → All P xs → AllPairs R xs → AllPairs S xs
AllPairs-weaker P R S f xs each pairs = λ i j d l k. f _ _ (each i d (omega arith)) (each j d k) (pairs i j d l k)

pub AllPairs-map : {X Y : Type 0} (R : Y → Y → Type 0) (f : X → Y) (xs : List X) → AllPairs (λ x y. R (f x) (f y)) xs →
    AllPairs R (map f xs)
AllPairs-map R f [] h = λ i j d l k. absurd (omega arith)
AllPairs-map R f (x ∷ xs) h =
    AllPairs-cons R (f x) (map f xs)
    (All-map (R (f x)) f xs (AllPairs-head (λ x y. R (f x) (f y)) x xs h))
    (AllPairs-map R f xs (AllPairs-tail (λ x y. R (f x) (f y)) x xs h))

pub AllPairs-append : {X : Type 0} (R : X → X → Type 0) (xs ys : List X) → AllPairs R xs → AllPairs R ys →
    All (λ x. All (R x) ys) xs → AllPairs R (xs ++ ys)
AllPairs-append R [] ys h k across = k
AllPairs-append R (x ∷ xs) ys h k across =
    AllPairs-cons R x (xs ++ ys)
    (All-append (R x) xs ys (AllPairs-head R x xs h) (All-head (λ x. All (R x) ys) x xs across))
    (AllPairs-append R xs ys (AllPairs-tail R x xs h) k (All-tail (λ x. All (R x) ys) x xs across))
