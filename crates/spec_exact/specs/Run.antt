-- Operations one after the other, under a limit. The first one that is refused ends them all.
use Rattle.std.specs.Prelude.{ℕ, zero, suc, List, [], ◌∷◌, ◌++◌, Option, Result, Ok, Err}
use Rattle.std.specs.declared.cmp.Ordering.{Ordering}
use Rattle.spec_exact.specs.Fraction.{ℚ}
use Rattle.spec_exact.specs.Limit.{add, sub, mul, div, compare}
use Rattle.spec_exact.specs.Answer.{told}
use Rattle.spec_exact.specs.declared.past.Op.TheVariants.{Add, Sub, Mul, Div, Cmp}
use Rattle.spec_exact.specs.declared.past.Past.{Past}

-- what a run of operations gives: a result, or the refusal of one operation with its two operands
abbrev pub Run : Type 0 → Type 0
Run A = Result A (Past ℚ)

infixl 1 ◌>>=◌
-- `next` of the result, where there is one; an error stays as it is, and `next` is not run
abbrev pub ◌>>=◌ : {A B E : Type 0} → Result A E → (A → Result B E) → Result B E
(Ok a) >>= next = next a
(Err e) >>= next = Err e

-- a run with its refusal turned into another kind of error by `kind`; a result stays as it is
abbrev pub refused_as : {A E : Type 0} → (Past ℚ → E) → Run A → Result A E
refused_as kind (Ok a) = Ok a
refused_as kind (Err p) = Err (kind p)

-- ---- one operation

-- the sum v + w at a limit, or the refusal with both operands
abbrev pub sum_run : Option ℕ → ℚ → ℚ → Run ℚ
sum_run limit v w = told Add v w (add limit v w)

-- the difference v - w at a limit, or the refusal with both operands
abbrev pub difference_run : Option ℕ → ℚ → ℚ → Run ℚ
difference_run limit v w = told Sub v w (sub limit v w)

-- the product v * w at a limit, or the refusal with both operands
abbrev pub product_run : Option ℕ → ℚ → ℚ → Run ℚ
product_run limit v w = told Mul v w (mul limit v w)

-- the quotient v / w at a limit, which is 0 where w is 0, or the refusal with both operands
abbrev pub quotient_run : Option ℕ → ℚ → ℚ → Run ℚ
quotient_run limit v w = told Div v w (div limit v w)

-- how v compares with w at a limit, or the refusal with both operands
abbrev pub order_run : Option ℕ → ℚ → ℚ → Run Ordering
order_run limit v w = told Cmp v w (compare limit v w)

-- ---- two operations: v * w onto s, and off s

-- s + v * w at a limit, or the refusal of the product or of the sum
abbrev pub plus_product : Option ℕ → ℚ → ℚ → ℚ → Run ℚ
plus_product limit v w s = product_run limit v w >>= λ p. sum_run limit s p

-- s - v * w at a limit, or the refusal of the product or of the difference
abbrev pub less_product : Option ℕ → ℚ → ℚ → ℚ → Run ℚ
less_product limit v w s = product_run limit v w >>= λ p. difference_run limit s p

-- ---- many

-- the value a after n steps in order, where step i makes f i of the value that the steps before it leave; or the error
-- of the first step that fails. Without steps it is a
abbrev pub steps : {A E : Type 0} → ℕ → (ℕ → A → Result A E) → A → Result A E
steps zero f a = Ok a
steps (suc n) f a = steps n f a >>= λ b. f n b

-- the list of the n results of f 0, f 1 .. f (n - 1), in order; or the refusal of the first one that is refused
abbrev pub list_run : {A : Type 0} → ℕ → (ℕ → Run A) → Run (List A)
list_run zero f = Ok []
list_run (suc n) f = list_run n f >>= λ xs. f n >>= λ x. Ok (xs ++ x ∷ [])

-- the list of n items f 0, f 1 .. f (n - 1), in order; none of them can be refused
abbrev pub made : {A : Type 0} → ℕ → (ℕ → A) → List A
made zero f = []
made (suc n) f = made n f ++ f n ∷ []
