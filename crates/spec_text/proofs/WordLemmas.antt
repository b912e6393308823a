-- The test that two texts are the same.
--
-- `same-refl`: a text passes the test with itself.
-- `same_true`: texts that pass the test are equal.
-- `same_false`: texts that fail the test are not equal.
-- `same_is_equal`: two texts pass the test exactly where they are equal.
use Rattle.std.proofs.Common.{◌≡◌, ◌≢◌, ◌↔◌, ℕ, true, false, eqb, eqb→eq, eq-eqb}
use Rattle.std.proofs.Common.{IsTrue, T, List, [], ◌∷◌, refl, sym, ap, ◌∙◌, subst}
use Rattle.std.proofs.lemmas.Bool.{and_parts}
use Rattle.spec_text.specs.Words.{same}

pub same-refl : (xs : List ℕ) → same xs xs ≡ true
same-refl [] = refl
same-refl (x ∷ xs) = rw (eq-eqb x x refl) (same-refl xs)

-- texts that are the same are equal
pub same_true : (xs ys : List ℕ) → same xs ys ≡ true → xs ≡ ys
same_true [] [] h = refl
same_true [] (y ∷ ys) h = cc
same_true (x ∷ xs) [] h = cc
same_true (x ∷ xs) (y ∷ ys) h =
    let p = and_parts (eqb x y) (same xs ys) h in
    let e : x ≡ y = eqb→eq x y (subst T (sym p.0) tt) in
    let f : xs ≡ ys = same_true xs ys p.1 in
    cc

-- texts that are not the same are not equal
pub same_false : (xs ys : List ℕ) → same xs ys ≡ false → xs ≢ ys
same_false xs ys h e =
    let f : same xs xs ≡ false = ap (same xs) e ∙ h in
    let g : same xs xs ≡ true = same-refl xs in
    cc

pub same_is_equal : (a b : List ℕ) → IsTrue (same a b) ↔ (a ≡ b)
same_is_equal a b = (λ t. same_true a b t, λ e. ap (λ (x : List ℕ). same a x) (sym e) ∙ same-refl a)
