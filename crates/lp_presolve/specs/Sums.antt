-- Carrying back over a row with one entry, by what is kept of it.
use Rattle.std.specs.Prelude.{ℕ, ◌==◌, Option, Some, None, Ok, List, if◌then◌else◌}
use Rattle.std.specs.List.{insert}
use Rattle.spec_exact.specs.Fraction.{ℚ, 0ℚ, 1ℚ, neg_ℚ}
use Rattle.spec_exact.specs.Run.{Run, ◌>>=◌, plus_product, less_product, quotient_run, steps}
use Rattle.spec_model.specs.Model.{entry_of, part}
use Rattle.spec_check.specs.declared.certificate.Certificate.TheVariants.{Optimal, Infeasible, Clash, Unbounded}
use Rattle.spec_check.specs.Checks.{signed}
use Rattle.spec_presolve.specs.Carry.{ExactCertificate, is_given, taken_over, apart, or_clash}
use Rattle.lp_presolve.specs.declared.step.Step.{Step}

-- the reduced cost of a step's column with these multipliers, at a limit: its cost, negated where the sense is Max,
-- less each of its entries times the multiplier of the entry's row
abbrev pub reduced_by : Option ℕ → Step → List ℚ → Run ℚ
reduced_by limit s y = steps s.rows (λ i d. less_product limit (part y i) (entry_of s.entries i) d) (signed s.sense s.cost)

-- the sum of the entries of a step's column, each times the multiplier of its row, at a limit
abbrev pub priced_by : Option ℕ → Step → List ℚ → Run ℚ
priced_by limit s y = steps s.rows (λ i g. plus_product limit (part y i) (entry_of s.entries i) g) 0ℚ

-- the multiplier of a row with the one entry a that gave a bound which clashes with the other bound of its column: 1 /
-- a where it gave the lower one, else -1 / a; none where it gave neither
abbrev pub apart_by : Option ℕ → ℚ → Option ℚ → Option ℚ → Run (Option ℚ)
apart_by limit a (Some l) upper = quotient_run limit 1ℚ a >>= λ v. Ok (Some v)
apart_by limit a None (Some u) = quotient_run limit (neg_ℚ 1ℚ) a >>= λ v. Ok (Some v)
apart_by limit a None None = Ok None

-- The certificate that the bounds of column k clash, carried back over row i, whose one entry a is in column j, with n
-- other rows. Where k is j and the row gave a bound, it is the multipliers of row i and 0 for the others; else it stays
-- the clash.
abbrev pub clash_by : Option ℕ → ℕ → ℕ → ℕ → ℚ → Option ℚ → Option ℚ → ℕ → Run ExactCertificate
clash_by limit n i j a lower upper k =
    if k == j then (apart limit n i a lower upper >>= λ c. Ok (or_clash k c)) else Ok (Clash k)

-- The certificate carried back over row i, whose one entry a, in column j, gave the bounds `lower` and `upper` or none,
-- by what is kept of that step. Multipliers get one for row i. It takes over the reduced cost of column j, or of Farkas
-- multipliers the negative of their part in it, over a, where row i gave the bound that the sign asks for; else it is
-- 0. A clash of column j becomes multipliers, where row i gave a bound. Other clashes and rays stay.
abbrev pub over_step : Option ℕ → Step → ℕ → ℕ → ℚ → Option ℚ → Option ℚ → ExactCertificate → Run ExactCertificate
over_step limit s i j a lower upper (Optimal x y) =
    reduced_by limit s y >>= λ d.
    taken_over limit (is_given lower upper d) d a >>= λ v. Ok (Optimal x (insert y i v))
over_step limit s i j a lower upper (Infeasible y) =
    priced_by limit s y >>= λ g.
    taken_over limit (is_given upper lower g) (neg_ℚ g) a >>= λ v. Ok (Infeasible (insert y i v))
over_step limit s i j a lower upper (Clash k) =
    clash_by limit s.rows i j a lower upper k
over_step limit s i j a lower upper (Unbounded x r) = Ok (Unbounded x r)
