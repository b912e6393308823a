-- A certificate of the last model, carried back to the first, under a limit.
use Rattle.std.specs.Prelude.{◌≡◌, ℕ, ◌-◌, ◌==◌, Bool, false, is_some, Option, Some, None, Ok, List, [], ◌∷◌}
use Rattle.std.specs.Prelude.{replicate, if◌then◌else◌}
use Rattle.std.specs.List.{insert}
use Rattle.spec_exact.specs.Fraction.{ℚ, 0ℚ, 1ℚ, neg_ℚ, lt_ℚ}
use Rattle.spec_exact.specs.Run.{Run, ◌>>=◌, plus_product, less_product, quotient_run, steps}
use Rattle.spec_model.specs.Model.{Model, height, cost, coefficient, part}
use Rattle.spec_edit.specs.Meaning.{skipping}
use Rattle.spec_check.specs.declared.certificate.Certificate.{Certificate}
use Rattle.spec_check.specs.declared.certificate.Certificate.TheVariants.{Optimal, Infeasible, Clash, Unbounded}
use Rattle.spec_check.specs.declared.certificate.Known.TheVariants as known
use Rattle.spec_check.specs.Certificate.{IsFor, shown}
use Rattle.spec_check.specs.Checks.{Checks, signed}
use Rattle.spec_presolve.specs.declared.reduction.Reduction.TheVariants.{Empty, Single, Fixed}
use Rattle.spec_presolve.specs.declared.reduction.Halt.{Halt}
use Rattle.spec_presolve.specs.declared.reduction.Halt.TheVariants as halt
use Rattle.spec_presolve.specs.Choose.{ExactReduction}

-- a certificate with exact numbers
abbrev pub ExactCertificate : Type 0
ExactCertificate = Certificate (List ℚ)

-- the list of n zeros and v among them, at place i
abbrev pub alone_at : ℕ → ℕ → ℚ → List ℚ
alone_at n i v = insert (replicate n 0ℚ) i v

-- ---- what the stops show

-- The certificate that no point is feasible in m, where the reductions ended at m because they found that; else none.
-- It is the clash of a column, or multipliers that are 0 but at one row without entries: 1 where its lower limit is
-- above 0, and -1 where its upper one is below 0.
abbrev pub halted : Model → Halt → Option ExactCertificate
halted m halt.Done = None
halted m (halt.Clash j) = Some (Clash j)
halted m (halt.Above i) = Some (Infeasible (alone_at (height m - 1) i 1ℚ))
halted m (halt.Below i) = Some (Infeasible (alone_at (height m - 1) i (neg_ℚ 1ℚ)))

-- ---- over one reduction

-- the reduced cost of column j with these multipliers, at a limit: its cost, or the negative of it where the sense is
-- Max, less each row's multiplier times the row's coefficient in column j; or the first refusal
abbrev pub reduced_run : Option ℕ → Model → List ℚ → ℕ → Run ℚ
reduced_run limit m y j =
    steps (height m) (λ i d. less_product limit (part y i) (coefficient m i j) d) (signed m.sense (cost m j))

-- the multipliers' part in column j, at a limit: the sum of each row's multiplier times the row's coefficient in column
-- j; or the first refusal
abbrev pub priced_run : Option ℕ → Model → List ℚ → ℕ → Run ℚ
priced_run limit m y j = steps (height m) (λ i s. plus_product limit (part y i) (coefficient m i j) s) 0ℚ

-- whether a row gave its column the bound that the sign of d asks for: the first of these two for d above 0, the second
-- for d below 0; no where that is absent, and no for 0
abbrev pub is_given : Option ℚ → Option ℚ → ℚ → Bool
is_given lower upper d =
    if lt_ℚ 0ℚ d then is_some lower else if lt_ℚ d 0ℚ then is_some upper else false

-- the multiplier of a row that takes the reduced cost d over from its column: d over the row's entry a if the test is
-- true, or the refusal of that; else 0
abbrev pub taken_over : Option ℕ → Bool → ℚ → ℚ → Run ℚ
taken_over limit t d a = if t then quotient_run limit d a else Ok 0ℚ

-- The certificate that no point meets both row i, which has the one entry a and gave a bound, and the other bound of
-- its column. Its multipliers are n zeros for the other rows, and for row i 1 / a if it gave a lower bound, else -1 /
-- a, or the refusal of that. There is none where the row gave no bound.
abbrev pub apart : Option ℕ → ℕ → ℕ → ℚ → Option ℚ → Option ℚ → Run (Option ExactCertificate)
apart limit n i a (Some l) upper = quotient_run limit 1ℚ a >>= λ v. Ok (Some (Infeasible (alone_at n i v)))
apart limit n i a None (Some u) = quotient_run limit (neg_ℚ 1ℚ) a >>= λ v. Ok (Some (Infeasible (alone_at n i v)))
apart limit n i a None None = Ok None

-- the certificate that was found; or where none was, the one that the bounds of column k clash
abbrev pub or_clash : ℕ → Option ExactCertificate → ExactCertificate
or_clash k None = Clash k
or_clash k (Some certificate) = certificate

-- The certificate of m, a model without row i any more, carried back over this row, whose one entry a, in column j,
-- gave the bounds `lower` and `upper` or none. Multipliers get one for row i. It takes over the reduced cost of column
-- j, or of Farkas multipliers the negative of their part in it, over a, where row i gave the bound that the sign asks
-- for; else it is 0. A clash of column j becomes multipliers, where row i gave a bound. Other clashes and rays stay.
abbrev pub over_single : Option ℕ → Model → ℕ → ℕ → ℚ → Option ℚ → Option ℚ → ExactCertificate → Run ExactCertificate
over_single limit m i j a lower upper (Optimal x y) =
    reduced_run limit m y j >>= λ d.
    taken_over limit (is_given lower upper d) d a >>= λ v. Ok (Optimal x (insert y i v))
over_single limit m i j a lower upper (Infeasible y) =
    priced_run limit m y j >>= λ g.
    taken_over limit (is_given upper lower g) (neg_ℚ g) a >>= λ v. Ok (Infeasible (insert y i v))
over_single limit m i j a lower upper (Clash k) =
    if k == j then (apart limit (height m) i a lower upper >>= λ c. Ok (or_clash k c)) else Ok (Clash k)
over_single limit m i j a lower upper (Unbounded x r) = Ok (Unbounded x r)

-- a certificate carried back over row i, which has no entries: multipliers get a 0 for it, and clashes and rays stay
abbrev pub over_empty : ℕ → ExactCertificate → ExactCertificate
over_empty i (Optimal x y) = Optimal x (insert y i 0ℚ)
over_empty i (Infeasible y) = Infeasible (insert y i 0ℚ)
over_empty i (Clash k) = Clash k
over_empty i (Unbounded x r) = Unbounded x r

-- a certificate carried back over column j, which is fixed at v: points get the value v for it, rays the part 0, and a
-- column that clashes its number before j was removed; multipliers stay
abbrev pub over_fixed : ℕ → ℚ → ExactCertificate → ExactCertificate
over_fixed j v (Optimal x y) = Optimal (insert x j v) y
over_fixed j v (Infeasible y) = Infeasible y
over_fixed j v (Clash k) = Clash (skipping j k)
over_fixed j v (Unbounded x r) = Unbounded (insert x j v) (insert r j 0ℚ)

-- the certificate of the model m carried back over the reduction that led to m, to one of the model before it; or a
-- refusal
unfoldable pub carried_over : Option ℕ → ExactReduction × Model → ExactCertificate → Run ExactCertificate
carried_over limit (Empty i, m) c = Ok (over_empty i c)
carried_over limit (Single i j a lower upper, m) c = over_single limit m i j a lower upper c
carried_over limit (Fixed j v, m) c = Ok (over_fixed j v c)

-- ---- over all of them, from the last one

-- A certificate of the last model, carried back over all steps, from the last one to the first. Each step is a
-- reduction with the model that it led to; the result is of the model before the first one, or it is the first refusal.
abbrev pub carried : Option ℕ → List (ExactReduction × Model) → ExactCertificate → Run ExactCertificate
carried limit [] c = Ok c
carried limit (s ∷ steps) c = carried limit steps c >>= carried_over limit s

-- the certificate `back` fits the model m and is accepted for it, and shows of m what c shows of n
pub record IsCarried (m n : Model) (c back : ExactCertificate) : Type 0 where
  pub fits : IsFor m back
  pub checks : Checks m back
  pub shows : shown m back ≡ shown n c

-- the certificate is accepted for the model m, and shows that no point is feasible
pub record IsShown (m : Model) (c : ExactCertificate) : Type 0 where
  pub fits : IsFor m c
  pub checks : Checks m c
  pub shows : shown m c ≡ known.Infeasible
