-- A run at a limit beside the same run without one: the latter is not refused,
-- and the former is the same or is refused.
use Rattle.std.proofs.Common.{◌≡◌, ◌≢◌, ◌⊎◌, inl, inr, ⊎_elim, ℕ, zero, suc, [], ◌∷◌, ◌++◌, Option, Some}
use Rattle.std.proofs.Common.{None, Result, Ok, Err, Bool, true, false, cond, refl, sym, ap, subst}
use Rattle.spec_exact.specs.Fraction.{ℚ, ◌+ℚ◌, ◌-ℚ◌, ◌*ℚ◌, inverse}
use Rattle.spec_exact.specs.Limit.{add, sub, mul, div, compare, order}
use Rattle.spec_exact.specs.Answer.{told}
use Rattle.spec_exact.specs.declared.past.Op.{Op}
use Rattle.spec_exact.specs.declared.past.Op.TheVariants.{Add, Sub, Mul, Div, Cmp}
use Rattle.spec_exact.specs.declared.past.Past.{Past}
use Rattle.spec_exact.proofs.Limit.{add_gives, sub_gives, mul_gives, div_gives, add_unlimited}
use Rattle.spec_exact.proofs.Limit.{sub_unlimited, mul_unlimited, div_unlimited}
use Rattle.spec_exact.proofs.Compare.{compare_gives, compare_unlimited}
use Rattle.spec_exact.specs.Run.{Run, ◌>>=◌, refused_as, sum_run, difference_run, product_run}
use Rattle.spec_exact.specs.Run.{quotient_run, order_run, plus_product, less_product, steps, list_run}

-- the run o at a limit agrees with the run u without one: u is not refused, and o is the same as u or is refused.
-- `kind` makes an error of each refusal
pub record Agrees {A E : Type 0} (kind : Past ℚ → E) (o u : Result A E) : Type 0 where
  pub exact : (p : Past ℚ) → u ≢ Err (kind p)
  pub same : (o ≡ u) ⊎ ((p : Past ℚ) × (o ≡ Err (kind p)))

-- the refusal itself as the error that it is
abbrev pub as_it_is : Past ℚ → Past ℚ
as_it_is p = p

module _ {E : Type 0} (kind : Past ℚ → E) where
  -- a run that gives a agrees with one that gives a
  pub agrees_ok : {A : Type 0} (a : A) → Agrees kind (Ok a) (Ok a)
  agrees_ok {A} a =
      record { exact = λ p e. let z : ◌≡◌ {A = Result A E} (Ok a) (Err (kind p)) = e in cc; same = inl refl }

  -- two runs that both end in the same error, which is no refusal, agree
  pub agrees_err : {A : Type 0} (e : E) → ((p : Past ℚ) → e ≢ kind p) → Agrees {A = A} kind (Err e) (Err e)
  agrees_err {A} e n =
      record {
        exact = λ p z. let y : ◌≡◌ {A = Result A E} (Err e) (Err (kind p)) = z in n p (let x : e ≡ kind p = cc in x);
        same = inl refl;
      }

  -- where two runs agree, and so do what goes on from each result, they agree in turn
  pub agrees_then : {A B : Type 0} (o u : Result A E) (f g : A → Result B E) → Agrees kind o u →
      ((a : A) → Agrees kind (f a) (g a)) → Agrees kind (o >>= f) (u >>= g)
  agrees_then {A} {B} o u f g h k =
      ⊎_elim
      (λ e. subst (λ z. Agrees kind (z >>= f) (u >>= g)) (sym e) (on u h.exact))
      (λ p. record { exact = last u h.exact; same = inr (p.0, ap (λ z. z >>= f) p.1) })
      h.same
    where
      on : (u : Result A E) → ((p : Past ℚ) → u ≢ Err (kind p)) → Agrees kind (u >>= f) (u >>= g)
      on (Ok a) n = k a
      on (Err e) n = agrees_err e (λ p z. n p (ap Err z))

      last : (u : Result A E) → ((p : Past ℚ) → u ≢ Err (kind p)) → (p : Past ℚ) → (u >>= g) ≢ Err (kind p)
      last (Ok a) n p z = (k a).exact p z
      last (Err e) n p z =
          n p (let y : ◌≡◌ {A = Result B E} (Err e) (Err (kind p)) = z in let x : e ≡ kind p = cc in ap Err x)

  -- where two pairs of runs agree, the pair that a test picks agrees
  pub agrees_if : {A : Type 0} (c : Bool) (o p u v : Result A E) → Agrees kind o u → Agrees kind p v →
      Agrees kind (cond c o p) (cond c u v)
  agrees_if true o p u v h k = h
  agrees_if false o p u v h k = k

  -- n steps agree with n steps where each one agrees with the one of the same number
  pub agrees_steps : {A : Type 0} (n : ℕ) (f g : ℕ → A → Result A E) (a : A) →
      ((i : ℕ) (x : A) → Agrees kind (f i x) (g i x)) → Agrees kind (steps n f a) (steps n g a)
  agrees_steps zero f g a h = agrees_ok a
  agrees_steps (suc n) f g a h =
      agrees_then (steps n f a) (steps n g a) (λ x. f n x) (λ x. g n x) (agrees_steps n f g a h) (h n)

  -- two runs that agree do so when their refusals are renamed
  pub agrees_as : {A : Type 0} (o u : Run A) → Agrees as_it_is o u → Agrees kind (refused_as kind o) (refused_as kind u)
  agrees_as {A} o u h = on u h.exact h.same
    where
      on : (u : Run A) → ((p : Past ℚ) → u ≢ Err p) → (o ≡ u) ⊎ ((p : Past ℚ) × (o ≡ Err p)) →
          Agrees kind (refused_as kind o) (refused_as kind u)
      on (Ok a) n s = record {
        exact = (agrees_ok a).exact;
        same = ⊎_elim (λ e. inl (ap (refused_as kind) e)) (λ p. inr (p.0, ap (refused_as kind) p.1)) s;
      }
      on (Err p) n s = absurd (n p refl)

-- ---- runs of operations

-- lists of n operations at a limit and without one agree where their operations agree
pub agrees_list : {A : Type 0} (n : ℕ) (f g : ℕ → Run A) → ((i : ℕ) → Agrees as_it_is (f i) (g i)) →
    Agrees as_it_is (list_run n f) (list_run n g)
agrees_list zero f g h = agrees_ok as_it_is []
agrees_list (suc n) f g h =
    agrees_then as_it_is (list_run n f) (list_run n g) (λ xs. f n >>= λ x. Ok (xs ++ x ∷ []))
    (λ xs. g n >>= λ x. Ok (xs ++ x ∷ [])) (agrees_list n f g h)
    (λ xs. agrees_then as_it_is (f n) (g n) (λ x. Ok (xs ++ x ∷ []))
    (λ x. Ok (xs ++ x ∷ [])) (h n) (λ x. agrees_ok as_it_is (xs ++ x ∷ [])))

-- an operation at a limit that gives the exact result, if any, agrees with that without a limit
agrees_told : {A : Type 0} (op : Op) (v w : ℚ) (a b : Option A) (y : A) → ((x : A) → a ≡ Some x → x ≡ y) → b ≡ Some y →
    Agrees as_it_is (told op v w a) (told op v w b)
agrees_told {A} op v w a b y gives unlimited =
    subst (λ b. Agrees as_it_is (told op v w a) (told op v w b)) (sym unlimited) (by a gives)
  where
    by : (a : Option A) → ((x : A) → a ≡ Some x → x ≡ y) → Agrees as_it_is (told op v w a) (Ok y)
    by (Some x) g = record { exact = (agrees_ok as_it_is y).exact; same = inl (ap Ok (g x refl)) }
    by None g = record { exact = (agrees_ok as_it_is y).exact; same = inr (record { op = op; a = v; b = w }, refl) }

module _ (limit : Option ℕ) where
  -- without a limit a sum is never refused; at a limit it is the same, or it is refused
  pub agrees_sum : (v w : ℚ) → Agrees as_it_is (sum_run limit v w) (sum_run None v w)
  agrees_sum v w = agrees_told Add v w (add limit v w) (add None v w) (v +ℚ w) (add_gives limit v w) (add_unlimited v w)

  -- without a limit a difference is never refused; at a limit it is the same, or it is refused
  pub agrees_difference : (v w : ℚ) → Agrees as_it_is (difference_run limit v w) (difference_run None v w)
  agrees_difference v w =
      agrees_told Sub v w (sub limit v w) (sub None v w) (v -ℚ w) (sub_gives limit v w) (sub_unlimited v w)

  -- without a limit a product is never refused; at a limit it is the same, or it is refused
  agrees_product : (v w : ℚ) → Agrees as_it_is (product_run limit v w) (product_run None v w)
  agrees_product v w =
      agrees_told Mul v w (mul limit v w) (mul None v w) (v *ℚ w) (mul_gives limit v w) (mul_unlimited v w)

  -- without a limit a quotient is never refused; at a limit it is the same, or it is refused
  pub agrees_quotient : (v w : ℚ) → Agrees as_it_is (quotient_run limit v w) (quotient_run None v w)
  agrees_quotient v w =
      agrees_told Div v w (div limit v w) (div None v w) (v *ℚ inverse w) (div_gives limit v w) (div_unlimited v w)

  -- without a limit an order of two numbers is never refused; at a limit it is the same, or it is refused
  pub agrees_order : (v w : ℚ) → Agrees as_it_is (order_run limit v w) (order_run None v w)
  agrees_order v w =
      agrees_told Cmp v w (compare limit v w) (compare None v w)
      (order v w) (compare_gives limit v w) (compare_unlimited v w)

  -- without a limit s + v * w is never refused; at a limit it is the same, or it is refused
  pub agrees_plus : (v w s : ℚ) → Agrees as_it_is (plus_product limit v w s) (plus_product None v w s)
  agrees_plus v w s =
      agrees_then as_it_is (product_run limit v w) (product_run None v w)
      (λ p. sum_run limit s p) (λ p. sum_run None s p) (agrees_product v w) (λ p. agrees_sum s p)

  -- without a limit s - v * w is never refused; at a limit it is the same, or it is refused
  pub agrees_less : (v w s : ℚ) → Agrees as_it_is (less_product limit v w s) (less_product None v w s)
  agrees_less v w s =
      agrees_then as_it_is (product_run limit v w) (product_run None v w) (λ p. difference_run limit s p)
      (λ p. difference_run None s p) (agrees_product v w) (λ p. agrees_difference s p)
