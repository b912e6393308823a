-- The whole numbers of a row, and the fractions that they are on its denominator.
use Rattle.std.specs.Prelude.{ℕ, zero, suc, ◌<◌, ◌≡◌, ℤ, pos, neg_ℤ, Bool, true, false, List, [], ◌∷◌, length, get_or}
use Rattle.spec_exact.specs.Fraction.{ℚ, 0ℚ, over}
use Rattle.lp_natural.specs.Whole.{whole}
use Rattle.lp_natural.specs.declared.words.signed.Signed.{Signed}
use Rattle.spec_pivot.specs.declared.status.Way.{Way}
use Rattle.spec_pivot.specs.declared.status.Way.TheVariants.{Up, Down}

-- the whole number of column k in a list of numbers with a sign and a magnitude, and 0 past its end
abbrev pub at : {T : Type 0} → (T → ℕ) → List (Signed T) → ℕ → ℤ
at value [] k = pos 0
at value (x ∷ xs) zero = whole x.negative (value x.size)
at value (x ∷ xs) (suc k) = at value xs k

-- the fractions that a list of whole numbers are over the denominator d
unfoldable pub fractions : {T : Type 0} → (T → ℕ) → List (Signed T) → ℕ → List ℚ
fractions value [] d = []
fractions value (x ∷ xs) d = over (whole x.negative (value x.size)) d ∷ fractions value xs d

-- the number of column k in a list of whole numbers over the denominator d, as a fraction; 0 past its end
abbrev pub fraction_at : {T : Type 0} → (T → ℕ) → List (Signed T) → ℕ → ℕ → ℚ
fraction_at value xs d k = get_or (fractions value xs d) k 0ℚ

-- the list has n numbers, and over d that of column k is the fraction f k
pub record AreNow {T : Type 0} (value : T → ℕ) (f : ℕ → ℚ) (n : ℕ) (xs : List (Signed T)) (d : ℕ) : Type 0 where
  pub len : length xs ≡ n
  pub each : (k : ℕ) → k < n → fraction_at value xs d k ≡ f k

-- the number n, or -n where the test is true
abbrev pub turned_if : Bool → ℤ → ℤ
turned_if true n = neg_ℤ n
turned_if false n = n

-- n, or its negative where the entering column falls
abbrev pub toward : Way → ℤ → ℤ
toward Up n = n
toward Down n = neg_ℤ n
