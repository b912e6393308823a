-- What a number over a denominator is.
use Rattle.std.specs.Prelude.{ℕ}
use Rattle.spec_exact.specs.Fraction.{ℚ, over}
use Rattle.lp_natural.specs.Whole.{whole}
use Rattle.lp_rows.specs.declared.number.RowFraction.{RowFraction}

-- a number over its denominator as a fraction; 0 where the denominator is 0
abbrev pub fraction_of : {T : Type 0} → (T → ℕ) → RowFraction T → ℚ
fraction_of value v = over (whole v.number.negative (value v.number.size)) (value v.denominator)
