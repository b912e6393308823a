-- Tests of lists that no element passes, and names that differ from all of a list.
--
-- `none_pass`: where no element of a list passes a test, each element fails it.
-- `nowhere`: where no place in a list passes a test, each element fails it.
-- `others`: where no element's name is the same as a name, all names of the list differ from it.
use Rattle.std.proofs.Common.{◌≡◌, ◌≢◌, ℕ, suc, ◌+◌, Bool, true, false, not, cond}
use Rattle.std.proofs.Common.{ltb, Some, None, List, [], ◌∷◌, length, map, All, arith}
use Rattle.std.specs.List.{list_any, position, prefix_len}
use Rattle.std.proofs.lemmas.List.Elements.{All-nil, All-cons, All-map, All-weaker}
use Rattle.std.proofs.lemmas.Bool.Decides.{nat_tests}
use Rattle.std.proofs.lemmas.Bool.{or_parts}
use Rattle.spec_text.specs.Words.{same}
use Rattle.spec_text.proofs.WordLemmas.{same_false}

-- where none passes, each fails
pub none_pass : {X : Type 0} (p : X → Bool) (xs : List X) → list_any p xs ≡ false → All (λ x. p x ≡ false) xs
none_pass p [] h = All-nil (λ x. p x ≡ false)
none_pass p (x ∷ xs) h =
    let n = or_parts (p x) (list_any p xs) h in
    All-cons (λ x. p x ≡ false) x xs n.0 (none_pass p xs n.1)

-- where a search finds nothing, the first element fails and the others have no place
no_place : (n l : ℕ) (t : Bool) →
    cond (ltb (cond (not t) (1 + n) 0) (suc l)) (Some (cond (not t) (1 + n) 0)) None ≡ None →
    (t ≡ false) × (cond (ltb n l) (Some n) None ≡ None)
no_place n l true h = grind (arith, nat_tests)
no_place n l false h = grind (arith, nat_tests)

-- where there is no place, each fails
pub nowhere : {X : Type 0} (p : X → Bool) (xs : List X) → position p xs ≡ None → All (λ x. p x ≡ false) xs
nowhere p [] h = All-nil (λ x. p x ≡ false)
nowhere p (x ∷ xs) h =
    let n = no_place (prefix_len (λ x. not (p x)) xs) (length xs) (p x) h in
    All-cons (λ x. p x ≡ false) x xs n.0 (nowhere p xs n.1)

-- none of the names is this one
pub others : {X : Type 0} (f : X → List ℕ) (name : List ℕ) (xs : List X) → All (λ x. same (f x) name ≡ false) xs →
    All (λ n. n ≢ name) (map f xs)
others f name xs h =
    All-map (λ n. n ≢ name) f xs
    (All-weaker (λ x. same (f x) name ≡ false) (λ x. f x ≢ name) (λ x e. same_false (f x) name e) xs h)
