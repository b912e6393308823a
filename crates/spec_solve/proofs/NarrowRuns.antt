-- At the limit of the program operations give fractions of at most 127 bits, and so do runs of them.
--
-- `sum_narrow`: a sum that is not refused at 127 bits is within them.
-- `difference_narrow`: a difference that is not refused at 127 bits is within them.
-- `quotient_narrow`: a quotient that is not refused at 127 bits is within them.
-- `plus_narrow`: a number with a product added, where nothing is refused at 127 bits, is within them.
-- `less_narrow`: a number with a product subtracted, where nothing is refused at 127 bits, is within them.
-- `all_given`: a property of each result of the runs of a list holds of all items of the list.
use Rattle.std.proofs.Common.{◌≡◌, ◌<◌, ℕ, ◌&&◌, Bool, true, false, cond, Some, None, Ok}
use Rattle.std.proofs.Common.{List, get_or, unsigned_abs, refl, subst, arith}
use Rattle.std.specs.Prelude.{All}
use Rattle.std.proofs.lemmas.Bool.{and_parts}
use borrow.Author.Tests.{leb-true}
use Rattle.spec_exact.specs.Fraction.{ℚ, neg_ℚ, inverse}
use Rattle.spec_exact.specs.Limit.{fits, left_num, right_num, whole_sum, sum_common, sum_num, sum_den, sum_fits}
use Rattle.spec_exact.specs.Limit.{product_num, product_den, product_fits, add, sub, mul, div}
use Rattle.spec_exact.specs.Narrow.{IsNarrow, number_limit}
use Rattle.spec_exact.specs.declared.past.Op.TheVariants.{Add, Sub, Div}
use Rattle.spec_exact.specs.Run.{Run, sum_run, difference_run, product_run, quotient_run, plus_product, less_product}
use Rattle.spec_exact.specs.Run.{list_run}
use Rattle.spec_exact.proofs.Narrow.{divided, over_narrow}
use Rattle.spec_exact.proofs.Results.{told_ok}
use Rattle.spec_simplex.proofs.RunParts.{then_ok, list_ok}

-- ---- one operation

-- where a result that a test lets pass is y, the test holds and the result is y
some_if : (t : Bool) (x y : ℚ) → cond t (Some x) None ≡ Some y → (t ≡ true) × (x ≡ y)
some_if true x y e = (refl, cc)
some_if false x y e = cc

-- where four tests hold together, the third and the fourth hold
last_two : (a b c d : Bool) → a && b && c && d ≡ true → (c ≡ true) × (d ≡ true)
last_two true true true true e = (refl, refl)
last_two true true true false e = cc
last_two true true false d e = cc
last_two true false c d e = cc
last_two false b c d e = cc

-- a sum that is not refused at the limit of the program has at most 127 bits
add_narrow : (v w x : ℚ) → add (Some number_limit) v w ≡ Some x → IsNarrow x
unfolding add
add_narrow v w x e =
    let s = some_if (sum_fits (Some number_limit) v.num v.den w.num w.den) _ x e in
    let t =
    last_two (fits (Some number_limit) (unsigned_abs (left_num v.num v.den w.num w.den)))
    (fits (Some number_limit) (unsigned_abs (right_num v.num v.den w.num w.den)))
    (fits (Some number_limit) (unsigned_abs (whole_sum v.num v.den w.num w.den)))
    (fits (Some number_limit) (sum_den v.num v.den w.num w.den)) s.0 in
    subst IsNarrow s.1
    (over_narrow (sum_num v.num v.den w.num w.den) (sum_den v.num v.den w.num w.den)
    (divided (whole_sum v.num v.den w.num w.den) (sum_common v.num v.den w.num w.den)
    (leb-true (unsigned_abs (whole_sum v.num v.den w.num w.den)) number_limit t.0))
    (leb-true (sum_den v.num v.den w.num w.den) number_limit t.1))

-- a product that is not refused at the limit of the program has at most 127 bits
mul_narrow : (v w x : ℚ) → mul (Some number_limit) v w ≡ Some x → IsNarrow x
unfolding mul
mul_narrow v w x e =
    let s = some_if (product_fits (Some number_limit) v.num v.den w.num w.den) _ x e in
    let t = and_parts (fits (Some number_limit) (unsigned_abs (product_num v.num v.den w.num w.den)))
    (fits (Some number_limit) (product_den v.num v.den w.num w.den)) s.0 in
    subst IsNarrow s.1
    (over_narrow (product_num v.num v.den w.num w.den) (product_den v.num v.den w.num w.den)
    (leb-true (unsigned_abs (product_num v.num v.den w.num w.den)) number_limit t.0)
    (leb-true (product_den v.num v.den w.num w.den) number_limit t.1))

-- a difference that is not refused at the limit of the program has at most 127 bits
sub_narrow : (v w x : ℚ) → sub (Some number_limit) v w ≡ Some x → IsNarrow x
unfolding sub
sub_narrow v w x e = add_narrow v (neg_ℚ w) x e

-- a quotient that is not refused at the limit of the program has at most 127 bits
div_narrow : (v w x : ℚ) → div (Some number_limit) v w ≡ Some x → IsNarrow x
unfolding div
div_narrow v w x e = mul_narrow v (inverse w) x e

-- ---- runs

pub sum_narrow : (v w x : ℚ) → sum_run (Some number_limit) v w ≡ Ok x → IsNarrow x
sum_narrow v w x h = add_narrow v w x (told_ok Add v w (add (Some number_limit) v w) x h)

pub difference_narrow : (v w x : ℚ) → difference_run (Some number_limit) v w ≡ Ok x → IsNarrow x
difference_narrow v w x h = sub_narrow v w x (told_ok Sub v w (sub (Some number_limit) v w) x h)

pub quotient_narrow : (v w x : ℚ) → quotient_run (Some number_limit) v w ≡ Ok x → IsNarrow x
quotient_narrow v w x h = div_narrow v w x (told_ok Div v w (div (Some number_limit) v w) x h)

pub plus_narrow : (v w s x : ℚ) → plus_product (Some number_limit) v w s ≡ Ok x → IsNarrow x
plus_narrow v w s x h =
    let p = then_ok (product_run (Some number_limit) v w) (λ p. sum_run (Some number_limit) s p) x h in
    sum_narrow s p.0 x p.2

pub less_narrow : (v w s x : ℚ) → less_product (Some number_limit) v w s ≡ Ok x → IsNarrow x
less_narrow v w s x h =
    let p = then_ok (product_run (Some number_limit) v w) (λ p. difference_run (Some number_limit) s p) x h in
    difference_narrow s p.0 x p.2

-- what holds of each item that is given holds of the list
pub all_given : {A : Type 0} (P : A → Type 0) (n : ℕ) (f : ℕ → Run A) (xs : List A) → list_run n f ≡ Ok xs →
    ((i : ℕ) (x : A) → i < n → f i ≡ Ok x → P x) → All P xs
all_given P n f xs h k = λ i d l.
    let o = list_ok n f d xs h in
    let inside : i < n = omega (arith, l, o.all) in
    k i (get_or xs i d) inside (o.each i inside)
