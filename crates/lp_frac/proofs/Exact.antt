-- A product and a difference whose parts are short are not refused, and what they give.
--
-- `in_lowest`: a numerator and a denominator divided by their greatest common divisor are lowest terms, no larger than
--   before.
-- `scaled_same`: factors that bring two denominators to the same one give the same difference as cross products.
-- `product_of_short`: the products of the parts of short fractions, where both fit 64 bits with a sign, are parts of
--   the product.
-- `less_short`: where parts of the product and of `s` are short, `s` less the product is not refused, and is as
--   computed.
-- `less_small`: where the parts of all three fractions are small, `s` less the product is not refused, and is as
--   computed.
-- `nothing_over`: 0 over a positive denominator is 0 over 1.
use Rattle.std.proofs.Common.{◌≡◌, ◌<◌, ◌≤◌, zero, suc, Some, Ok, ℕ, ◌+◌, ◌*◌, ◌/◌, ℤ, pos}
use Rattle.std.proofs.Common.{neg_ℤ, ◌+ℤ◌, ◌-ℤ◌, ◌*ℤ◌, int_div, unsigned_abs, true}
use Rattle.std.proofs.Common.{[], ◌∷◌, le-leb, refl, sym, ap, ap₂, subst, ◌∙◌, arith, SFits}
use mir.Syntax.{w64}
use Rattle.std.proofs.Math.Nat.{div-mul_cancel, div-le_self, mul-le-mul}
use Rattle.std.proofs.Math.Nat.{mul-le-mul_left, mul-le-mul_right, mul-pos, le_trans}
use Rattle.std.proofs.lemmas.Int.{ints, unsigned_abs-mul}
use Rattle.spec_exact.specs.Gcd.{gcd}
use Rattle.spec_exact.specs.GcdLaws.{gcd_is}
use Rattle.spec_exact.specs.Quotients.{abs-int_div, abs-neg_ℤ, positive_part, coprime_parts}
use Rattle.spec_exact.specs.Fraction.{ℚ, over, ◌+ℚ◌, ◌*ℚ◌, ◌-ℚ◌, neg_ℚ}
use Rattle.spec_exact.specs.Limit.{fits, left_num, right_num, add, sub, mul}
use Rattle.spec_exact.specs.Answer.{told}
use Rattle.spec_exact.specs.Run.{◌>>=◌, difference_run, less_product}
use Rattle.spec_exact.specs.declared.past.Op.TheVariants.{Mul, Sub}
use Rattle.spec_exact.proofs.Ring.{◌⊕◌, ◌⊖◌, ◌⊗◌, minus, v0, v1, v2, v3, v4, v5}
use Rattle.spec_exact.proofs.WholeRing.{by_ring}
use Rattle.spec_exact.proofs.Fraction.{over-same, over_cross, exact_quotient}
use Rattle.spec_exact.proofs.Limit.{product_exact, sum_exact}
use Rattle.spec_exact.specs.Narrow.{number_limit}
use Rattle.spec_exact.proofs.Zero.{four_pass, two_pass}
use Rattle.lp_frac.specs.Less.{IsSmall, IsShort, IsShortProduct, IsDenominator, less_num, less_den}
use Rattle.lp_frac.proofs.ProductSizes.{fitted_size}

-- a number within a bound that is within the limit passes the test of the limit
test : (n k : ℕ) → n ≤ k → k ≤ number_limit → fits (Some number_limit) n ≡ true
test n k h g = le-leb n number_limit (le_trans h g)

-- ---- a product

-- a whole number divided by another one is no larger in size
part_le : (a : ℤ) (g : ℕ) → unsigned_abs (int_div a (pos g)) ≤ unsigned_abs a
part_le a g = subst (λ k. k ≤ unsigned_abs a) (sym (abs-int_div a g)) (div-le_self (unsigned_abs a) g)

-- where the products of numerators and of denominators are within the limit, the product is not refused
mul_fits : (v w : ℚ) → unsigned_abs v.num * unsigned_abs w.num ≤ number_limit → v.den * w.den ≤ number_limit →
    mul (Some number_limit) v w ≡ Some (v *ℚ w)
unfolding mul
mul_fits v w h k =
    let a = int_div v.num (pos (gcd (unsigned_abs v.num) w.den)) in
    let c = int_div w.num (pos (gcd (unsigned_abs w.num) v.den)) in
    let top : unsigned_abs (a *ℤ c) ≤ unsigned_abs v.num * unsigned_abs w.num =
    subst (λ n. n ≤ unsigned_abs v.num * unsigned_abs w.num)
    (sym (unsigned_abs-mul a c)) (mul-le-mul (part_le v.num _) (part_le w.num _)) in
    two_pass _ _ _ (test _ _ top h) (test _ _ (mul-le-mul (div-le_self v.den _) (div-le_self w.den _)) k)
    ∙ ap (λ (x : ℚ). Some x) (product_exact v w)

-- ---- a sum, and a difference

-- the size of a sum is at most the sum of the sizes
abs-sum : (x y : ℤ) → unsigned_abs (x +ℤ y) ≤ unsigned_abs x + unsigned_abs y
abs-sum x y = omega (arith, ints)

-- a whole number times a quotient of d is in size at most its size times d
times_le : (a : ℤ) (d g : ℕ) → unsigned_abs (a *ℤ pos (d / g)) ≤ unsigned_abs a * d
times_le a d g =
    subst (λ n. n ≤ unsigned_abs a * d) (sym (unsigned_abs-mul a (pos (d / g))))
    (mul-le-mul (omega arith) (div-le_self d g))

-- where the sum of the cross products' sizes and the denominators' product are within the limit, the sum is not refused
add_fits : (v w : ℚ) → unsigned_abs v.num * w.den + unsigned_abs w.num * v.den ≤ number_limit →
    v.den * w.den ≤ number_limit →
    add (Some number_limit) v w ≡ Some (v +ℚ w)
unfolding add
add_fits v w h k =
    let l = times_le v.num w.den (gcd v.den w.den) in
    let r = times_le w.num v.den (gcd v.den w.den) in
    let t = abs-sum (left_num v.num v.den w.num w.den) (right_num v.num v.den w.num w.den) in
    four_pass _ _ _ _ _
    (test _ (unsigned_abs v.num * w.den) l (omega (arith, h)))
    (test _ (unsigned_abs w.num * v.den) r (omega (arith, h)))
    (test _ (unsigned_abs v.num * w.den + unsigned_abs w.num * v.den) (omega (arith, t, l, r)) h)
    (test _ _ (mul-le-mul (div-le_self v.den _) (div-le_self w.den _)) k)
    ∙ ap (λ (x : ℚ). Some x) (sum_exact v w)

-- where the cross products' sizes together and the denominators' product are within the limit, v less w is not refused
sub_fits : (v w : ℚ) → unsigned_abs v.num * w.den + unsigned_abs w.num * v.den ≤ number_limit →
    v.den * w.den ≤ number_limit →
    sub (Some number_limit) v w ≡ Some (v -ℚ w)
unfolding sub neg_ℚ
sub_fits v w h k =
    add_fits v (neg_ℚ w) (subst (λ n. unsigned_abs v.num * w.den + n * v.den ≤ number_limit) (sym (abs-neg_ℤ w.num)) h)
    k

-- ---- the parts of a product
-- the size of q's numerator is at most n, and q's denominator at most d
record IsBelow (q : ℚ) (n d : ℕ) : Type 0 where
  num : unsigned_abs q.num ≤ n
  den : q.den ≤ d

-- the parts of n / d in lowest terms are at most n in size and d
over_below : (n : ℤ) (d : ℕ) → 0 < d → IsBelow (over n d) (unsigned_abs n) d
unfolding over
over_below n zero p = absurd (omega arith)
over_below n (suc d) p =
    record { num = part_le n (gcd (unsigned_abs n) (suc d)); den = div-le_self (suc d) (gcd (unsigned_abs n) (suc d)) }

-- the parts of a product in lowest terms are at most the products of the parts
product_below : (v w : ℚ) → IsBelow (v *ℚ w) (unsigned_abs v.num * unsigned_abs w.num) (v.den * w.den)
unfolding ◌*ℚ◌
product_below v w =
    subst (λ n. IsBelow (over (v.num *ℤ w.num) (v.den * w.den)) n (v.den * w.den))
    (unsigned_abs-mul v.num w.num) (over_below (v.num *ℤ w.num) (v.den * w.den) (mul-pos v.positive w.positive))

-- a product in lowest terms has the same cross products as the products of the parts
product_cross : (v w : ℚ) → (v.num *ℤ w.num) *ℤ pos (v *ℚ w).den ≡ (v *ℚ w).num *ℤ pos (v.den * w.den)
unfolding ◌*ℚ◌
product_cross v w = over_cross (v.num *ℤ w.num) (v.den * w.den) (mul-pos v.positive w.positive)

-- ---- both

-- s less v times w is the numerator computed for it over the denominator computed for it
less_exact : (v w s : ℚ) →
    s -ℚ v *ℚ w ≡ over (less_num v.num v.den w.num w.den s.num s.den) (less_den v.den w.den s.den)
unfolding ◌+ℚ◌ neg_ℚ
less_exact v w s =
    over-same _ _ (s.den * (v *ℚ w).den) (less_den v.den w.den s.den)
    (mul-pos s.positive (v *ℚ w).positive) (mul-pos (mul-pos v.positive w.positive) s.positive)
    (by s.num s.den (v *ℚ w).num (v *ℚ w).den (v.num *ℤ w.num) (v.den * w.den) (product_cross v w))
  where
    by : (e : ℤ) (f : ℕ) (p : ℤ) (q : ℕ) (n : ℤ) (d : ℕ) → n *ℤ pos q ≡ p *ℤ pos d →
        (e *ℤ pos q +ℤ neg_ℤ p *ℤ pos f) *ℤ pos (d * f) ≡ (e *ℤ pos d +ℤ neg_ℤ (n *ℤ pos f)) *ℤ pos (f * q)
    by e f p q n d h =
        by_ring (e ∷ pos f ∷ p ∷ pos q ∷ pos d ∷ []) ((v0 ⊗ v3 ⊕ minus v2 ⊗ v1) ⊗ (v4 ⊗ v1))
        (v0 ⊗ v3 ⊗ v4 ⊗ v1 ⊖ v2 ⊗ v4 ⊗ (v1 ⊗ v1)) refl
        ∙ ap (λ (z : ℤ). e *ℤ pos q *ℤ pos d *ℤ pos f +ℤ neg_ℤ (z *ℤ (pos f *ℤ pos f))) (sym h)
        ∙ by_ring (e ∷ pos f ∷ n ∷ pos q ∷ pos d ∷ [])
        (v0 ⊗ v3 ⊗ v4 ⊗ v1 ⊖ v2 ⊗ v3 ⊗ (v1 ⊗ v1)) ((v0 ⊗ v4 ⊖ v2 ⊗ v1) ⊗ (v1 ⊗ v3)) refl

-- where all products of the parts are within the limit, s less v times w is not refused
less_fits : (v w s : ℚ) → unsigned_abs v.num * unsigned_abs w.num ≤ number_limit → v.den * w.den ≤ number_limit →
    unsigned_abs s.num * (v.den * w.den) + unsigned_abs v.num * unsigned_abs w.num * s.den ≤ number_limit →
    s.den * (v.den * w.den) ≤ number_limit →
    less_product (Some number_limit) v w s
    ≡ Ok (over (less_num v.num v.den w.num w.den s.num s.den) (less_den v.den w.den s.den))
less_fits v w s h k l m =
    let b = product_below v w in
    let top : unsigned_abs s.num * (v *ℚ w).den + unsigned_abs (v *ℚ w).num * s.den ≤ number_limit =
    omega (arith, l, mul-le-mul_left (unsigned_abs s.num) b.den, mul-le-mul_right s.den b.num) in
    let low : s.den * (v *ℚ w).den ≤ number_limit = omega (arith, m, mul-le-mul_left s.den b.den) in
    ap (λ o. told Mul v w o >>= difference_run (Some number_limit) s) (mul_fits v w h k)
    ∙ ap (told Sub s (v *ℚ w)) (sub_fits s (v *ℚ w) top low)
    ∙ ap Ok (less_exact v w s)

-- ---- lowest terms
-- p and q are the lowest terms of num / den: q is above 0, they have no factor in common, p is no larger in size than
-- num and q no larger than den, and p / q is num / den
pub record IsLowest (num : ℤ) (den : ℕ) (p : ℤ) (q : ℕ) : Type 0 where
  pub positive : 0 < q
  pub lowest : gcd (unsigned_abs p) q ≡ 1
  pub num_fits : unsigned_abs p ≤ unsigned_abs num
  pub den_fits : q ≤ den
  pub same : over p q ≡ over num den

pub in_lowest : (num : ℤ) (den g : ℕ) (p : ℤ) (q : ℕ) → 0 < den → g ≡ gcd (unsigned_abs num) den →
    p ≡ int_div num (pos g) → q ≡ den / g → IsLowest num den p q
in_lowest num den g p q h eg ep eq =
    let k : ℕ = gcd (unsigned_abs num) den in
    let ep' : p ≡ int_div num (pos k) = ep ∙ ap (λ n. int_div num (pos n)) eg in
    let eq' : q ≡ den / k = eq ∙ ap (λ n. den / n) eg in
    let d = (gcd_is (unsigned_abs num) den).1 in
    let pq : 0 < den / k = positive_part k den h d in
    record {
      positive = subst (λ n. 0 < n) (sym eq') pq;
      lowest =
          ap₂ (λ (x : ℤ) (n : ℕ). gcd (unsigned_abs x) n) ep' eq'
          ∙ ap (λ n. gcd n (den / k)) (abs-int_div num k) ∙ coprime_parts (unsigned_abs num) den h;
      num_fits = subst (λ (x : ℤ). unsigned_abs x ≤ unsigned_abs num) (sym ep') (part_le num k);
      den_fits = subst (λ n. n ≤ den) (sym eq') (div-le_self den k);
      same =
          ap₂ over ep' eq' ∙ over-same (int_div num (pos k)) num (den / k) den pq h (by (int_div num (pos k))
          (den / k) k num den (exact_quotient num k (gcd_is (unsigned_abs num) den).0) (div-mul_cancel k d));
    }
  where
    by : (x : ℤ) (y k : ℕ) (n : ℤ) (m : ℕ) → x *ℤ pos k ≡ n → y * k ≡ m → x *ℤ pos m ≡ n *ℤ pos y
    by x y k n m e f =
        ap (λ (z : ℕ). x *ℤ pos z) (sym f)
        ∙ by_ring (x ∷ pos y ∷ pos k ∷ []) (v0 ⊗ (v1 ⊗ v2)) (v0 ⊗ v2 ⊗ v1) refl ∙ ap (λ (z : ℤ). z *ℤ pos y) e

-- ---- of short parts

-- factors that bring the denominators to the same do
pub scaled_same : (e : ℤ) (f : ℕ) (n : ℤ) (k p q : ℕ) → 0 < f → 0 < k → 0 < p → p * f ≡ q * k →
    over (e *ℤ pos p -ℤ n *ℤ pos q) (p * f) ≡ over (e *ℤ pos k -ℤ n *ℤ pos f) (k * f)
scaled_same e f n k p q hf hk hp h =
    over-same _ _ (p * f) (k * f) (mul-pos hp hf) (mul-pos hk hf) (by h)
  where
    by : p * f ≡ q * k → (e *ℤ pos p -ℤ n *ℤ pos q) *ℤ pos (k * f) ≡ (e *ℤ pos k -ℤ n *ℤ pos f) *ℤ pos (p * f)
    by h =
        by_ring (e ∷ pos f ∷ n ∷ pos k ∷ pos p ∷ pos q ∷ [])
        ((v0 ⊗ v4 ⊖ v2 ⊗ v5) ⊗ (v3 ⊗ v1)) (v0 ⊗ v4 ⊗ v3 ⊗ v1 ⊖ v2 ⊗ v1 ⊗ (v5 ⊗ v3)) refl
        ∙ ap (λ (z : ℕ). e *ℤ pos p *ℤ pos k *ℤ pos f +ℤ neg_ℤ (n *ℤ pos f *ℤ pos z)) (sym h)
        ∙ by_ring (e ∷ pos f ∷ n ∷ pos k ∷ pos p ∷ [])
        (v0 ⊗ v4 ⊗ v3 ⊗ v1 ⊖ v2 ⊗ v1 ⊗ (v4 ⊗ v1)) ((v0 ⊗ v3 ⊖ v2 ⊗ v1) ⊗ (v4 ⊗ v1)) refl

-- the parts of a product of short parts
pub product_of_short : (n a c : ℤ) (b d k : ℕ) (v w : ℚ) → IsShort a b v → IsShort c d w → IsDenominator k b d →
    SFits w64 n → n ≡ a *ℤ c → IsShortProduct n k v w
product_of_short n a c b d k v w x y z f e =
    record {
      num_is = e ∙ ap₂ ◌*ℤ◌ x.num_is y.num_is;
      den_is = z.value ∙ ap₂ (λ i j. i * j) x.den_is y.den_is;
      positive = subst (λ i. 0 < i) (sym z.value) (mul-pos x.positive y.positive);
      num_size = fitted_size w64 n f;
      den_size = z.size;
    }

pub less_short : (v w s x : ℚ) (n e : ℤ) (k f : ℕ) → IsShortProduct n k v w →
    IsShort e f s → x ≡ over (e *ℤ pos k -ℤ n *ℤ pos f) (k * f) →
    less_product (Some number_limit) v w s ≡ Ok x
less_short v w s x n e k f hp hs ex =
    let left : unsigned_abs e * k ≤ 9223372036854775808 * 9223372036854775807 = mul-le-mul hs.num_size hp.den_size in
    let right : unsigned_abs n * f ≤ 9223372036854775808 * 9223372036854775807 = mul-le-mul hp.num_size hs.den_size in
    let low : f * k ≤ 9223372036854775807 * 9223372036854775807 = mul-le-mul hs.den_size hp.den_size in
    at (unsigned_abs v.num * unsigned_abs w.num) (v.num *ℤ w.num) (v.den * w.den) s.num s.den
    (unsigned_abs-mul v.num w.num) hp.num_is hp.den_is hs.num_is hs.den_is
    (less_fits v w s) (omega (arith, hp.num_size)) (omega (arith, hp.den_size))
    (omega (arith, left, right)) (omega (arith, low))
    ∙ ap Ok (sym ex)
  where
    at : (t : ℕ) (m : ℤ) (l : ℕ) (g : ℤ) (h : ℕ) → unsigned_abs m ≡ t → n ≡ m → k ≡ l → e ≡ g → f ≡ h →
        (t ≤ number_limit → l ≤ number_limit → unsigned_abs g * l + t * h ≤ number_limit → h * l ≤ number_limit →
        less_product (Some number_limit) v w s ≡ Ok (over (g *ℤ pos l -ℤ m *ℤ pos h) (l * h))) →
        unsigned_abs n ≤ number_limit → k ≤ number_limit → unsigned_abs e * k + unsigned_abs n * f ≤ number_limit →
        f * k ≤ number_limit →
        less_product (Some number_limit) v w s ≡ Ok (over (e *ℤ pos k -ℤ n *ℤ pos f) (k * f))
    at t m l g h et en ek ee ef = rw (en, ek, ee, ef, sym et) (λ y. y)

-- of small parts
pub less_small : (v w s x : ℚ) (a c e : ℤ) (b d f : ℕ) (n : ℤ) (k : ℕ) → IsSmall a b v → IsSmall c d w →
    IsSmall e f s → n ≡ a *ℤ c → k ≡ b * d → x ≡ over (e *ℤ pos k -ℤ n *ℤ pos f) (k * f) →
    less_product (Some number_limit) v w s ≡ Ok x
less_small v w s x a c e b d f n k hv hw hs en ek ex =
    let tops : unsigned_abs a * unsigned_abs c ≤ 2147483648 * 2147483648 = mul-le-mul hv.num_size hw.num_size in
    let lows : b * d ≤ 4294967295 * 4294967295 = mul-le-mul hv.den_size hw.den_size in
    let left : unsigned_abs e * (b * d) ≤ 2147483648 * (4294967295 * 4294967295) = mul-le-mul hs.num_size lows in
    let right : unsigned_abs a * unsigned_abs c * f ≤ 2147483648 * 2147483648 * 4294967295 =
    mul-le-mul tops hs.den_size in
    let low : f * (b * d) ≤ 4294967295 * (4294967295 * 4294967295) = mul-le-mul hs.den_size lows in
    at v.num v.den w.num w.den s.num s.den hv.num_is hv.den_is hw.num_is hw.den_is hs.num_is hs.den_is
    (less_fits v w s) (omega (arith, tops)) (omega (arith, lows)) (omega (arith, left, right)) (omega (arith, low))
    ∙ ap Ok (sym (ex ∙ ap₂ (λ (z : ℤ) (l : ℕ). over (e *ℤ pos l -ℤ z *ℤ pos f) (l * f)) en ek))
  where
    at : (p : ℤ) (q : ℕ) (k : ℤ) (l : ℕ) (m : ℤ) (n : ℕ) → a ≡ p → b ≡ q → c ≡ k → d ≡ l → e ≡ m → f ≡ n →
        (unsigned_abs p * unsigned_abs k ≤ number_limit → q * l ≤ number_limit →
        unsigned_abs m * (q * l) + unsigned_abs p * unsigned_abs k * n ≤ number_limit → n * (q * l) ≤ number_limit →
        less_product (Some number_limit) v w s ≡ Ok (over (less_num p q k l m n) (less_den q l n))) →
        unsigned_abs a * unsigned_abs c ≤ number_limit → b * d ≤ number_limit →
        unsigned_abs e * (b * d) + unsigned_abs a * unsigned_abs c * f ≤ number_limit → f * (b * d) ≤ number_limit →
        less_product (Some number_limit) v w s ≡ Ok (over (less_num a b c d e f) (less_den b d f))
    at p q k l m n ea eb ec ed ee ef = rw (ea, eb, ec, ed, ee, ef) (λ h. h)

-- 0 over any denominator
pub nothing_over : (den : ℕ) → 0 < den → over (pos 0) 1 ≡ over (pos 0) den
nothing_over den h = over-same (pos 0) (pos 0) 1 den (omega arith) h (omega (arith, ints))
