-- What follows the first byte that passes a test.
--
-- `behind_some`: where a byte passes the test first at a place, the bytes behind the place are what follows it.
-- `behind_none`: where no byte passes the test, nothing follows.
-- `after`: what follows the first such byte, or else nothing, is the text after it.
-- `unwrapped`: taking the default of an option of slices commutes with taking their bytes.
-- `decimal_is`: digits around a point with at least one of them, and an exponent, are a decimal by the text's rule.
use Rattle.std.proofs.Common.{◌++◌, ℤ, ap₂, Bor, ◌≡◌, ℕ, suc, ◌+◌, ◌-◌, Bool, true, false, cond, not, ◌||◌, ltb, Option}
use Rattle.std.proofs.Common.{Some, None, List, [], ◌∷◌, length, take, drop, length-drop, refl, sym, ap, ◌∙◌, arith}
use Rattle.std.specs.List.{list_any, position, position_or_len, before_first, after_first}
use Rattle.std.specs.Option.{unwrap_or, option_copied}
use Rattle.std.proofs.lemmas.Bool.{lt-ltb}
use Rattle.std.proofs.lemmas.List.{take_all}
use Rattle.spec_mps.specs.NumberText.{is_point, are_digits, behind, exponent_of, scaled, decimal_of, mantissa_of}
use Rattle.spec_mps.proofs.SplitLemmas.{whole}

-- some byte passes a test exactly where the first place that passes is before the end
any_place : (test : ℕ → Bool) (text : List ℕ) → list_any test text ≡ ltb (position_or_len test text) (length text)
any_place test [] = refl
any_place test (b ∷ text) = by (test b) (any_place test text)
  where
    more : (m n : ℕ) → ltb m n ≡ ltb (1 + m) (suc n)
    more m n = grind arith

    by : (t : Bool) → list_any test text ≡ ltb (position_or_len test text) (length text) →
        (t || list_any test text) ≡ ltb (cond (not t) (1 + position_or_len test text) 0) (suc (length text))
    by true i = sym (lt-ltb 0 (suc (length text)) (omega arith))
    by false i = i ∙ more _ _

pub behind_some : (test : ℕ → Bool) (text : List ℕ) (at : ℕ) → Some at ≡ position test text →
    Some (take (length text - (at + 1)) (drop (at + 1) text)) ≡ behind test text
behind_some test text at e = by (ltb (position_or_len test text) (length text)) (any_place test text) e
  where
    by : (t : Bool) → list_any test text ≡ t →
        ◌≡◌ {A = Option ℕ} (Some at) (cond t (Some (position_or_len test text)) None) →
        Some (take (length text - (at + 1)) (drop (at + 1) text)) ≡ behind test text
    by true a e =
        let q : at ≡ position_or_len test text = cc in
        rw a (ap Some (take_all _ _ (omega (arith, length-drop (at + 1) text)) ∙ ap (λ n. drop (n + 1) text) q))
    by false a e = cc

pub behind_none : (test : ℕ → Bool) (text : List ℕ) → None ≡ position test text → None ≡ behind test text
behind_none test text e = by (ltb (position_or_len test text) (length text)) (any_place test text) e
  where
    by : (t : Bool) → list_any test text ≡ t →
        ◌≡◌ {A = Option ℕ} None (cond t (Some (position_or_len test text)) None) → None ≡ behind test text
    by true a e = cc
    by false a e = rw a refl

-- nothing where no byte passes
pub after : (test : ℕ → Bool) (text : List ℕ) → unwrap_or (behind test text) [] ≡ after_first test text
after test text = by (list_any test text) refl
  where
    by : (t : Bool) → list_any test text ≡ t →
        unwrap_or (cond t (Some (after_first test text)) None) [] ≡ after_first test text
    by true e = refl
    by false e = sym (whole test text e).after

pub unwrapped : (o : Option (Bor (List ℕ))) (d : Bor (List ℕ)) → (unwrap_or o d).now ≡ unwrap_or (option_copied o) d.now
unwrapped None d = refl
unwrapped (Some x) d = refl

-- digits around a point, and an exponent
pub decimal_is : (negative : Bool) (mantissa front back : List ℕ) (mark : Option (List ℕ)) (e : ℤ) →
    front ≡ before_first is_point mantissa → back ≡ after_first is_point mantissa →
    Some e ≡ exponent_of mark → are_digits (front ++ back) ≡ true →
    Some (scaled negative front back e) ≡ mantissa_of negative mantissa mark
unfolding mantissa_of decimal_of
decimal_is negative mantissa front back mark e f b h d =
    let t : are_digits (before_first is_point mantissa ++ after_first is_point mantissa) ≡ true =
    ap₂ (λ (x y : List ℕ). are_digits (x ++ y)) (sym f) (sym b) ∙ d in
    rw (t, ← h) (ap₂ (λ (x y : List ℕ). Some (scaled negative x y e)) f b)
