-- An operation with the negative of an operand gives the negative, and is refused where that without it is.
--
-- `quotient_signed`: where v / w gives z, the quotient of v with a sign gives z with that sign.
-- `less_signed`: where s - v * w gives z, with one sign on w and s it gives z with that sign.
use Rattle.std.proofs.Common.{◌≡◌, ℕ, ◌*◌, ◌/◌, Option, Some, None, Ok, Err, Bool, true, false, ◌&&◌, cond, ℤ}
use Rattle.std.proofs.Common.{pos, neg_ℤ, ◌+ℤ◌, ◌*ℤ◌, int_div, unsigned_abs, [], ◌∷◌, refl, sym, ap, ap₂, ◌∙◌}
use Rattle.std.proofs.lemmas.Int.{unsigned_abs-mul}
use Rattle.spec_exact.specs.Gcd.{gcd}
use Rattle.spec_exact.specs.Quotients.{abs-int_div, abs-neg_ℤ}
use Rattle.spec_exact.specs.Fraction.{ℚ, ◌+ℚ◌, ◌*ℚ◌, neg_ℚ, inverse}
use Rattle.spec_exact.specs.Limit.{fits, left_num, right_num, whole_sum, sum_fits}
use Rattle.spec_exact.specs.Limit.{product_num, product_den, product_fits, add, sub, mul, div}
use Rattle.spec_exact.specs.Answer.{told}
use Rattle.spec_exact.specs.declared.past.Op.{Op}
use Rattle.spec_exact.specs.declared.past.Op.TheVariants.{Mul, Sub, Div}
use Rattle.spec_exact.proofs.Ring.{◌⊕◌, ◌⊗◌, minus, v0, v1, v2, v3}
use Rattle.spec_exact.proofs.WholeRing.{by_ring}
use Rattle.spec_exact.proofs.Limit.{product_exact, sum_exact}
use Rattle.spec_exact.proofs.Ruleset.{neg-+ℚ, *ℚ-neg, neg-*ℚ}
use Rattle.lp_tableau.specs.Twins.{signed}
use Rattle.spec_exact.specs.Run.{Run, ◌>>=◌, product_run, difference_run, quotient_run, less_product}

-- ---- products

-- the magnitude of a product's numerator is that of the product of the reduced magnitudes
product_size : (a : ℤ) (b : ℕ) (c : ℤ) (d : ℕ) →
    unsigned_abs (product_num a b c d)
    ≡ unsigned_abs a / gcd (unsigned_abs a) d * (unsigned_abs c / gcd (unsigned_abs c) b)
product_size a b c d =
    unsigned_abs-mul (int_div a (pos (gcd (unsigned_abs a) d))) (int_div c (pos (gcd (unsigned_abs c) b)))
    ∙ ap₂ (λ (m n : ℕ). m * n) (abs-int_div a _) (abs-int_div c _)

abbrev size_fits : Option ℕ → ℕ → ℕ → ℕ → ℕ → Bool
size_fits limit a b c d = fits limit (a / gcd a d * (c / gcd c b)) && fits limit (b / gcd c b * (d / gcd a d))

-- the denominators and the magnitudes of the numerators tell whether a product fits the limit
fits_by_size : (limit : Option ℕ) (a : ℤ) (b : ℕ) (c : ℤ) (d : ℕ) →
    product_fits limit a b c d ≡ size_fits limit (unsigned_abs a) b (unsigned_abs c) d
fits_by_size limit a b c d = ap (λ (n : ℕ). fits limit n && fits limit (product_den a b c d)) (product_size a b c d)

-- a product at a limit is the exact product where its parts fit the limit, and none elsewhere
mul_is : (limit : Option ℕ) (v w : ℚ) →
    mul limit v w ≡ cond (size_fits limit (unsigned_abs v.num) v.den (unsigned_abs w.num) w.den) (Some (v *ℚ w)) None
unfolding mul
mul_is limit v w =
    ap₂ (λ (t : Bool) (x : ℚ). cond t (Some x) None) (fits_by_size limit v.num v.den w.num w.den) (product_exact v w)

-- the negative of an answer
abbrev negated : Option ℚ → Option ℚ
negated None = None
negated (Some x) = Some (neg_ℚ x)

-- the negative of an optional x that is there where a test holds is an optional -x that is there where the test holds
negated_cond : (t : Bool) (x : ℚ) → negated (cond t (Some x) None) ≡ cond t (Some (neg_ℚ x)) None
negated_cond true x = refl
negated_cond false x = refl

-- v times the negative of w is the negative of v times w, and is refused exactly where v times w is refused
mul_right_neg : (limit : Option ℕ) (v w : ℚ) → mul limit v (neg_ℚ w) ≡ negated (mul limit v w)
unfolding neg_ℚ
mul_right_neg limit v w =
    mul_is limit v (neg_ℚ w)
    ∙ ap₂ (λ (n : ℕ) (x : ℚ). cond (size_fits limit (unsigned_abs v.num) v.den n w.den) (Some x) None)
    (abs-neg_ℤ w.num) (*ℚ-neg v w)
    ∙ sym (negated_cond _ (v *ℚ w)) ∙ ap negated (sym (mul_is limit v w))

-- the negative of v times w is the negative of v times w as a product, and is refused exactly where that product is
-- refused
mul_left_neg : (limit : Option ℕ) (v w : ℚ) → mul limit (neg_ℚ v) w ≡ negated (mul limit v w)
unfolding neg_ℚ
mul_left_neg limit v w =
    mul_is limit (neg_ℚ v) w
    ∙ ap₂ (λ (n : ℕ) (x : ℚ). cond (size_fits limit n v.den (unsigned_abs w.num) w.den) (Some x) None)
    (abs-neg_ℤ v.num) (neg-*ℚ v w)
    ∙ sym (negated_cond _ (v *ℚ w)) ∙ ap negated (sym (mul_is limit v w))

-- ---- differences
abbrev sum_sizes : Option ℕ → ℕ → ℕ → ℕ → ℕ → ℕ → Bool
sum_sizes limit l r s b d =
    fits limit l && fits limit r && fits limit s && fits limit (b / gcd b d * (d / gcd s (gcd b d)))

-- the denominators and the magnitudes of the addends and of their sum tell whether a sum fits the limit
sum_fits_by : (limit : Option ℕ) (a : ℤ) (b : ℕ) (c : ℤ) (d : ℕ) →
    sum_fits limit a b c d ≡ sum_sizes limit (unsigned_abs (left_num a b c d))
    (unsigned_abs (right_num a b c d)) (unsigned_abs (whole_sum a b c d)) b d
sum_fits_by limit a b c d = refl

-- a whole number's negative, times k, has the magnitude of the number times k
left_neg : (a : ℤ) (k : ℕ) → unsigned_abs (neg_ℤ a *ℤ pos k) ≡ unsigned_abs (a *ℤ pos k)
left_neg a k = unsigned_abs-mul (neg_ℤ a) (pos k) ∙ ap (λ n. n * k) (abs-neg_ℤ a) ∙ sym (unsigned_abs-mul a (pos k))

-- the sum of two products has the magnitude of the sum with both of their first factors negated
whole_neg : (a c : ℤ) (m k : ℕ) →
    unsigned_abs (neg_ℤ a *ℤ pos m +ℤ neg_ℤ c *ℤ pos k) ≡ unsigned_abs (a *ℤ pos m +ℤ c *ℤ pos k)
whole_neg a c m k =
    ap unsigned_abs
    (by_ring (a ∷ c ∷ pos m ∷ pos k ∷ []) (minus v0 ⊗ v2 ⊕ minus v1 ⊗ v3) (minus (v0 ⊗ v2 ⊕ v1 ⊗ v3)) refl)
    ∙ abs-neg_ℤ (a *ℤ pos m +ℤ c *ℤ pos k)

-- a sum with both addends negated fits the limit just where the sum fits
sum_fits_neg : (limit : Option ℕ) (a : ℤ) (b : ℕ) (c : ℤ) (d : ℕ) →
    sum_fits limit (neg_ℤ a) b (neg_ℤ c) d ≡ sum_fits limit a b c d
sum_fits_neg limit a b c d =
    sum_fits_by limit (neg_ℤ a) b (neg_ℤ c) d
    ∙ ap₂ (λ (l r : ℕ). sum_sizes limit l r (unsigned_abs (whole_sum (neg_ℤ a) b (neg_ℤ c) d)) b d)
    (left_neg a (d / gcd b d)) (left_neg c (b / gcd b d))
    ∙ ap (λ (s : ℕ). sum_sizes limit (unsigned_abs (left_num a b c d)) (unsigned_abs (right_num a b c d)) s b d)
    (whole_neg a c (d / gcd b d) (b / gcd b d))

-- a sum at a limit is the exact sum where its parts fit the limit, and none elsewhere
add_is : (limit : Option ℕ) (v w : ℚ) →
    add limit v w ≡ cond (sum_fits limit v.num v.den w.num w.den) (Some (v +ℚ w)) None
unfolding add
add_is limit v w = ap (λ (x : ℚ). cond (sum_fits limit v.num v.den w.num w.den) (Some x) None) (sum_exact v w)

-- the sum of two negatives is the negative of the sum, and refused where the sum is
add_neg : (limit : Option ℕ) (v w : ℚ) → add limit (neg_ℚ v) (neg_ℚ w) ≡ negated (add limit v w)
unfolding neg_ℚ
add_neg limit v w =
    add_is limit (neg_ℚ v) (neg_ℚ w)
    ∙ ap₂ (λ (t : Bool) (x : ℚ). cond t (Some x) None) (sum_fits_neg limit v.num v.den w.num w.den) (sym (neg-+ℚ v w))
    ∙ sym (negated_cond _ (v +ℚ w)) ∙ ap negated (sym (add_is limit v w))

-- the difference of two negatives is the negative of the difference, and refused where the difference is
sub_neg : (limit : Option ℕ) (v w : ℚ) → sub limit (neg_ℚ v) (neg_ℚ w) ≡ negated (sub limit v w)
unfolding sub
sub_neg limit v w = add_neg limit v (neg_ℚ w)

-- the negative of v divided by w is the negative of v / w, and refused where v / w is
div_neg : (limit : Option ℕ) (v w : ℚ) → div limit (neg_ℚ v) w ≡ negated (div limit v w)
unfolding div
div_neg limit v w = mul_left_neg limit v (inverse w)

-- ---- runs

-- where an operation with a result gives z, the one with the negated result gives the negative of z
told_neg : (op : Op) (v w x y : ℚ) (o : Option ℚ) (z : ℚ) → told op v w o ≡ Ok z →
    told op x y (negated o) ≡ Ok (neg_ℚ z)
told_neg op v w x y (Some u) z e = let f : u ≡ z = cc in ap (λ (q : ℚ). Ok (neg_ℚ q)) f
told_neg op v w x y None z e = cc

-- where v / w gives z, the negative of v divided by w gives the negative of z
quotient_neg : (limit : Option ℕ) (v w z : ℚ) → quotient_run limit v w ≡ Ok z →
    quotient_run limit (neg_ℚ v) w ≡ Ok (neg_ℚ z)
quotient_neg limit v w z e =
    ap (told Div (neg_ℚ v) w) (div_neg limit v w) ∙ told_neg Div v w (neg_ℚ v) w (div limit v w) z e

-- where v * w gives z, v times the negative of w gives the negative of z
product_neg : (limit : Option ℕ) (v w z : ℚ) → product_run limit v w ≡ Ok z →
    product_run limit v (neg_ℚ w) ≡ Ok (neg_ℚ z)
product_neg limit v w z e =
    ap (told Mul v (neg_ℚ w)) (mul_right_neg limit v w) ∙ told_neg Mul v w v (neg_ℚ w) (mul limit v w) z e

-- where v - w gives z, the difference of their negatives gives the negative of z
difference_neg : (limit : Option ℕ) (v w z : ℚ) → difference_run limit v w ≡ Ok z →
    difference_run limit (neg_ℚ v) (neg_ℚ w) ≡ Ok (neg_ℚ z)
difference_neg limit v w z e =
    ap (told Sub (neg_ℚ v) (neg_ℚ w)) (sub_neg limit v w) ∙ told_neg Sub v w (neg_ℚ v) (neg_ℚ w) (sub limit v w) z e

-- where s - v * w gives z, with w and s negated it gives the negative of z
less_neg : (limit : Option ℕ) (v w s z : ℚ) → less_product limit v w s ≡ Ok z →
    less_product limit v (neg_ℚ w) (neg_ℚ s) ≡ Ok (neg_ℚ z)
less_neg limit v w s z e = by (product_run limit v w) refl e
  where
    by : (o : Run ℚ) → product_run limit v w ≡ o → (o >>= λ p. difference_run limit s p) ≡ Ok z →
        less_product limit v (neg_ℚ w) (neg_ℚ s) ≡ Ok (neg_ℚ z)
    by (Ok p) f g =
        ap (λ o. o >>= λ p. difference_run limit (neg_ℚ s) p) (product_neg limit v w p f) ∙ difference_neg limit s p z g
    by (Err p) f g = cc

-- of a sign
pub quotient_signed : (limit : Option ℕ) (b : Bool) (v w z : ℚ) → quotient_run limit v w ≡ Ok z →
    quotient_run limit (signed b v) w ≡ Ok (signed b z)
quotient_signed limit true v w z e = quotient_neg limit v w z e
quotient_signed limit false v w z e = e

pub less_signed : (limit : Option ℕ) (b : Bool) (v w s z : ℚ) → less_product limit v w s ≡ Ok z →
    less_product limit v (signed b w) (signed b s) ≡ Ok (signed b z)
less_signed limit true v w s z e = less_neg limit v w s z e
less_signed limit false v w s z e = e
