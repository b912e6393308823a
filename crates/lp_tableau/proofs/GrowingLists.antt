-- Lists that grow by one item after the other.
--
-- `more_made`: a front, then f 0 .. f (n - 1), pushed with f n is the front, then f 0 .. f n.
-- `more_flat`: n rows one after the other, with row n after them, are n + 1 rows one after the other.
-- `more_mapped`: the images of the first i items, pushed with the image of item i, are those of the first i + 1.
-- `all_mapped`: where i is at least the length, the images of the first i items are those of all.
-- `all_made`: at the end of a range of m numbers the list has its front, then f 0 .. f (m - 1).
-- `filled_up`: a list that is resized by k items has its own items, then the same item k times.
use Rattle.std.proofs.Common.{◌≡◌, ℕ, ◌+◌, ◌-◌, ◌<◌, ◌≤◌, List, [], ◌∷◌, ◌++◌, length, map, take, get_or, replicate}
use Rattle.std.proofs.Common.{sym, ap, ap₂, ◌∙◌, append_assoc, arith, add-one}
use Rattle.std.proofs.lemmas.List.{map-append, take_more, take_all}
use Rattle.spec_exact.specs.Run.{made}
use Rattle.lp_tableau.specs.Grid.{flat}
use Rattle.spec_exact.specs.Fraction.{ℚ}

-- after the front xs the list has zs, and then an item more
one_more : {A : Type 0} (xs ys zs now : List A) (x y : A) → ys ≡ xs ++ zs → y ≡ x → now ≡ ys ++ y ∷ [] →
    now ≡ xs ++ (zs ++ x ∷ [])
one_more xs ys zs now x y e i h = h ∙ ap₂ (λ ys y. ys ++ y ∷ []) e i ∙ append_assoc xs zs (x ∷ [])

pub more_made : {A : Type 0} (xs ys now : List A) (n : ℕ) (f : ℕ → A) (y : A) → ys ≡ xs ++ made n f → y ≡ f n →
    now ≡ ys ++ y ∷ [] → now ≡ xs ++ made (n + 1) f
more_made xs ys now n f y e i h =
    one_more xs ys (made n f) now (f n) y e i h ∙ ap (λ k. xs ++ made k f) (sym (add-one n))

pub more_flat : (ys now row : List ℚ) (n : ℕ) (f : ℕ → List ℚ) → ys ≡ flat n f → row ≡ f n → now ≡ ys ++ row →
    now ≡ flat (n + 1) f
more_flat ys now row n f e i h = h ∙ ap₂ (λ ys row. ys ++ row) e i ∙ ap (λ k. flat k f) (sym (add-one n))

pub more_mapped : {A B : Type 0} (xs ys now : List B) (f : A → B) (items : List A) (i : ℕ) (a : A) (y : B) →
    i < length items → a ≡ get_or items i a → ys ≡ xs ++ map f (take i items) → y ≡ f a → now ≡ ys ++ y ∷ [] →
    now ≡ xs ++ map f (take (i + 1) items)
more_mapped xs ys now f items i a y l g e j h =
    one_more xs ys (map f (take i items)) now (f a) y e j h
    ∙ ap (λ zs. xs ++ zs) (ap (λ b. map f (take i items) ++ f b ∷ []) g
    ∙ sym (ap (map f) (take_more items i a l) ∙ map-append f (take i items) (get_or items i a ∷ [])))

pub all_mapped : {A B : Type 0} (xs now : List B) (f : A → B) (items : List A) (i : ℕ) → length items ≤ i →
    now ≡ xs ++ map f (take i items) → now ≡ xs ++ map f items
all_mapped xs now f items i l e = e ∙ ap (λ zs. xs ++ map f zs) (take_all i items l)

-- the range is at its end
pub all_made : {A : Type 0} (xs now : List A) (i n m : ℕ) (f : ℕ → A) → now ≡ xs ++ made i f → i ≤ n → n ≤ i →
    n ≡ m → now ≡ xs ++ made m f
all_made xs now i n m f e a b g = (let z : i ≡ m = omega arith in e ∙ ap (λ k. xs ++ made k f) z)

-- the list xs, filled up with the same item k times
pub filled_up : {A : Type 0} (xs ys now : List A) (n m k l : ℕ) (x y : A) → ys ≡ xs → length ys ≡ l → n ≡ l → m ≡ k →
    y ≡ x → now ≡ take (n + m) ys ++ replicate (n + m - l) y → now ≡ xs ++ replicate k x
filled_up xs ys now n m k l x y e w o r i h =
    let more : n + m - l ≡ k = omega (arith, o, r) in
    h ∙ ap₂ (λ zs j. zs ++ replicate j y) (take_all (n + m) ys (omega (arith, w, o)) ∙ e) more
    ∙ ap (λ z. xs ++ replicate k z) i
