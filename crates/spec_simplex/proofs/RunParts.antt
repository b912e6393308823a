-- What is known of a run's parts where the run gives a result: each part gave one, and operations gave the exact ones.
-- So all that follows holds at each limit.
--
-- `then_ok`: where two parts give a result together, the first gives one, and the second does with it.
-- `refused_ok`: a result of a run whose refusal is another kind of error is the result of the run.
-- `sum_ok`: an addition that gives a result gives the sum.
-- `difference_ok`: a subtraction that gives a result gives the difference.
-- `quotient_ok`: a division that gives a result gives v times the reciprocal of w.
-- `order_ok`: a comparison that gives a result gives the order.
-- `plus_ok`: adding a product gives s + v w, where it gives a result.
-- `less_ok`: subtracting a product gives s - v w, where it gives a result.
-- `steps_ok`: what holds at first, and is kept by each step, holds after n steps that succeed.
-- `list_ok`: a run that gives a list of n items gives the result of each item, in order.
-- `get_or-made`: item i of the list of f 0 to f (n - 1) is f i, where i is below n.
use Rattle.std.proofs.Common.{◌≡◌, ℕ, zero, suc, ◌<◌, List, [], ◌∷◌, ◌++◌, length, get_or, Option}
use Rattle.std.proofs.Common.{Result, Ok, Err, refl, sym, ap, ◌∙◌, subst, arith}
use Rattle.std.specs.declared.cmp.Ordering.{Ordering}
use Rattle.std.proofs.lemmas.List.{length-append}
use Rattle.std.proofs.Math.ListN.{get_or-append}
use Rattle.std.proofs.Math.Seq.{get_or-append_seam}
use Rattle.spec_exact.specs.Fraction.{ℚ, ◌+ℚ◌, ◌-ℚ◌, ◌*ℚ◌, inverse}
use Rattle.spec_exact.specs.Limit.{add, sub, mul, div, compare, order}
use Rattle.spec_exact.specs.declared.past.Op.TheVariants.{Add, Sub, Mul, Div, Cmp}
use Rattle.spec_exact.specs.declared.past.Past.{Past}
use Rattle.spec_exact.proofs.Limit.{add_gives, sub_gives, mul_gives, div_gives}
use Rattle.spec_exact.proofs.Compare.{compare_gives}
use Rattle.spec_pivot.proofs.Pivot.{by_eq}
use Rattle.spec_exact.specs.Run.{Run, ◌>>=◌, refused_as, sum_run, difference_run, product_run, quotient_run}
use Rattle.spec_exact.specs.Run.{order_run, plus_product, less_product, steps, list_run, made}
use Rattle.spec_exact.proofs.RunsInOrder.{length-made}
use Rattle.spec_exact.proofs.Results.{told_ok}

-- ---- one after the other
pub then_ok : {A B E : Type 0} (o : Result A E) (f : A → Result B E) (b : B) → (o >>= f) ≡ Ok b →
    (a : A) × (o ≡ Ok a) × (f a ≡ Ok b)
then_ok (Ok a) f b h = (a, refl, h)
then_ok (Err e) f b h = cc

pub refused_ok : {A E : Type 0} (kind : Past ℚ → E) (o : Run A) (a : A) → refused_as kind o ≡ Ok a → o ≡ Ok a
refused_ok kind (Ok b) a h = cc
refused_ok kind (Err e) a h = cc

-- ---- operations
pub sum_ok : (limit : Option ℕ) (v w x : ℚ) → sum_run limit v w ≡ Ok x → x ≡ v +ℚ w
sum_ok limit v w x h = add_gives limit v w x (told_ok Add v w (add limit v w) x h)

pub difference_ok : (limit : Option ℕ) (v w x : ℚ) → difference_run limit v w ≡ Ok x → x ≡ v -ℚ w
difference_ok limit v w x h = sub_gives limit v w x (told_ok Sub v w (sub limit v w) x h)

-- a product that the run gives is the exact product
product_ok : (limit : Option ℕ) (v w x : ℚ) → product_run limit v w ≡ Ok x → x ≡ v *ℚ w
product_ok limit v w x h = mul_gives limit v w x (told_ok Mul v w (mul limit v w) x h)

pub quotient_ok : (limit : Option ℕ) (v w x : ℚ) → quotient_run limit v w ≡ Ok x → x ≡ v *ℚ inverse w
quotient_ok limit v w x h = div_gives limit v w x (told_ok Div v w (div limit v w) x h)

pub order_ok : (limit : Option ℕ) (v w : ℚ) (o : Ordering) → order_run limit v w ≡ Ok o → o ≡ order v w
order_ok limit v w o h = compare_gives limit v w o (told_ok Cmp v w (compare limit v w) o h)

pub plus_ok : (limit : Option ℕ) (v w s x : ℚ) → plus_product limit v w s ≡ Ok x → x ≡ s +ℚ v *ℚ w
plus_ok limit v w s x h =
    let p = then_ok (product_run limit v w) (λ p. sum_run limit s p) x h in
    sum_ok limit s p.0 x p.2 ∙ ap (λ a. s +ℚ a) (product_ok limit v w p.0 p.1)

pub less_ok : (limit : Option ℕ) (v w s x : ℚ) → less_product limit v w s ≡ Ok x → x ≡ s -ℚ v *ℚ w
less_ok limit v w s x h =
    let p = then_ok (product_run limit v w) (λ p. difference_run limit s p) x h in
    difference_ok limit s p.0 x p.2 ∙ ap (λ a. s -ℚ a) (product_ok limit v w p.0 p.1)

-- ---- many

-- what each step keeps
pub steps_ok : {A E : Type 0} (P : ℕ → A → Type 0) (n : ℕ) (f : ℕ → A → Result A E) (a b : A) →
    steps n f a ≡ Ok b → P 0 a
    → ((i : ℕ) (x y : A) → i < n → P i x → f i x ≡ Ok y → P (suc i) y) → P n b
steps_ok P zero f a b h p k = let e : a ≡ b = cc in subst (P 0) e p
steps_ok P (suc n) f a b h p k =
    let o = then_ok (steps n f a) (λ x. f n x) b h in
    k n o.0 b (omega arith) (steps_ok P n f a o.0 o.1 p (λ i x y l. k i x y (omega (arith, l)))) o.2

-- xs is the list of the results of f 0 to f (n - 1), in order; d is what reading past the list gives
pub record IsListOf {A : Type 0} (n : ℕ) (f : ℕ → Run A) (d : A) (xs : List A) : Type 0 where
  pub all : length xs ≡ n
  pub each : (i : ℕ) → i < n → f i ≡ Ok (get_or xs i d)

pub list_ok : {A : Type 0} (n : ℕ) (f : ℕ → Run A) (d : A) (xs : List A) → list_run n f ≡ Ok xs → IsListOf n f d xs
list_ok {A} zero f d xs h =
    let e : ◌≡◌ {A = List A} [] xs = cc in
    subst (λ ys. IsListOf 0 f d ys) e (record { all = refl; each = λ i l. absurd (let z : ⊥ = omega (arith, l) in z) })
list_ok {A} (suc n) f d xs h =
    let o = then_ok (list_run n f) (λ ys. f n >>= λ x. Ok (ys ++ x ∷ [])) xs h in
    let p = then_ok (f n) (λ x. Ok (o.0 ++ x ∷ [])) xs o.2 in
    let e : o.0 ++ p.0 ∷ [] ≡ xs = cc in
    let before : IsListOf n f d o.0 = list_ok n f d o.0 o.1 in
    subst (λ ys. IsListOf (suc n) f d ys) e (record {
      all = omega (arith, length-append o.0 (p.0 ∷ []), before.all);
      each = λ i l. by_eq i n
          (λ q. subst (λ i. f i ≡ Ok (get_or (o.0 ++ p.0 ∷ []) i d)) (sym q) (p.1
          ∙ ap Ok (sym (ap (λ k. get_or (o.0 ++ p.0 ∷ []) k d) (sym before.all) ∙ get_or-append_seam o.0 p.0 [] d))))
          (λ q. before.each i (omega (arith, l, q))
          ∙ ap Ok (sym (get_or-append o.0 (p.0 ∷ []) d i (omega (arith, l, q, before.all)))));
    })

pub get_or-made : {A : Type 0} (n : ℕ) (f : ℕ → A) (d : A) (i : ℕ) → i < n → get_or (made n f) i d ≡ f i
get_or-made zero f d i h = absurd (let z : ⊥ = omega (arith, h) in z)
get_or-made (suc n) f d i h =
    by_eq i n
    (λ q. subst (λ i. get_or (made n f ++ f n ∷ []) i d ≡ f i) (sym q)
    (ap (λ k. get_or (made n f ++ f n ∷ []) k d) (sym (length-made n f)) ∙ get_or-append_seam (made n f) (f n) [] d))
    (λ q. get_or-append (made n f) (f n ∷ []) d i (omega (arith, h, q, length-made n f))
    ∙ get_or-made n f d i (omega (arith, h, q)))
