-- Lists that grow by one item after the other.
--
-- `made_of`: a list of n items is the list that is made of its items 0 to n - 1 by number.
-- `made_more`: where a list is made of f's first k items, and f k is pushed, it is made of the first k + 1.
-- `mapped_more`: where f of a list's items is g of the first i items of another, and an item is pushed whose f is g of
--   item i, f of the longer list's items is g of the first i + 1.
-- `taken_more`: where f of a list's items is the first i items of another, and an item is pushed whose f is item i, f
--   of the longer list's items is the first i + 1.
use Rattle.std.proofs.Common.{◌≡◌, ℕ, ◌+◌, ◌<◌, List, [], ◌∷◌, ◌++◌, length, get_or, map, take, sym, ap, ap₂, ◌∙◌}
use Rattle.std.proofs.Common.{arith, add-one}
use Rattle.std.proofs.lemmas.List.{ext_get_or, map-append, map_more, take_more}
use Rattle.spec_exact.specs.Run.{made}
use Rattle.spec_exact.proofs.RunsInOrder.{length-made, get_or-made}

pub made_of : {A : Type 0} (n : ℕ) (xs : List A) (d : A) → length xs ≡ n → made n (λ i. get_or xs i d) ≡ xs
made_of n xs d h =
    ext_get_or d (made n (λ i. get_or xs i d)) xs (length-made n (λ i. get_or xs i d) ∙ sym h)
    (λ i l. get_or-made n (λ i. get_or xs i d) i d (omega (arith, l, length-made n (λ i. get_or xs i d))))

pub made_more : {A : Type 0} (f : ℕ → A) (k : ℕ) (xs now : List A) (x : A) → xs ≡ made k f → now ≡ xs ++ x ∷ [] →
    x ≡ f k → now ≡ made (k + 1) f
made_more f k xs now x before pushed same =
    pushed ∙ ap₂ (λ ys y. ys ++ y ∷ []) before same ∙ sym (ap (λ n. made n f) (add-one k))

pub mapped_more : {X Y Z : Type 0} (f : X → Z) (g : Y → Z) (xs now : List X) (ys : List Y) (i : ℕ) (x : X) (y : Y) →
    map f xs ≡ map g (take i ys) → now ≡ xs ++ x ∷ [] → i < length ys → y ≡ get_or ys i y → f x ≡ g y →
    map f now ≡ map g (take (i + 1) ys)
mapped_more f g xs now ys i x y before pushed l is same =
    ap (map f) pushed ∙ map-append f xs (x ∷ [])
    ∙ ap₂ (λ zs z. zs ++ z ∷ []) before (same ∙ ap g is) ∙ sym (map_more g ys i y l)

pub taken_more : {X Y : Type 0} (f : X → Y) (xs now : List X) (ys : List Y) (i : ℕ) (x : X) (y : Y) →
    map f xs ≡ take i ys → now ≡ xs ++ x ∷ [] → i < length ys → y ≡ get_or ys i y → f x ≡ y →
    map f now ≡ take (i + 1) ys
taken_more f xs now ys i x y before pushed l is same =
    ap (map f) pushed ∙ map-append f xs (x ∷ [])
    ∙ ap₂ (λ zs z. zs ++ z ∷ []) before (same ∙ is) ∙ sym (take_more ys i y l)
