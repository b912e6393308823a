-- What is carried back over a row with one entry, where no operation is refused.
--
-- `one_tight`: a value at the lower limit is tight for the multiplier 1.
-- `minus_tight`: a value at the upper limit is tight for the multiplier -1.
-- `minus_times`: -1 times a number is its negative.
use Rattle.std.proofs.Common.{◌≡◌, ℕ, ◌<◌, Bool, true, false, cond, eqb, List}
use Rattle.std.proofs.Common.{Option, Some, None, Ok, refl, sym, ap, ◌∙◌, subst, subst₂}
use Rattle.std.specs.List.{insert}
use Rattle.std.proofs.lemmas.Bool.{eqb-true, eqb-false}
use Rattle.std.proofs.lemmas.List.{length-replicate}
use Rattle.spec_exact.specs.Fraction.{ℚ, 0ℚ, 1ℚ, ◌+ℚ◌, ◌-ℚ◌, ◌*ℚ◌, neg_ℚ, inverse, ◌<ℚ◌}
use Rattle.spec_exact.specs.Sums.{sum_below}
use Rattle.spec_exact.specs.Run.{◌>>=◌, plus_product, less_product, quotient_run}
use Rattle.spec_exact.proofs.Order.{clash_ℚ, <ℚ-le}
use Rattle.spec_exact.proofs.Strict.{zero-lt-one, neg_strict, neg-one-lt-zero}
use Rattle.spec_exact.proofs.Results.{ok_same}
use Rattle.spec_exact.proofs.Ruleset.{ring, neg-zero, one-*ℚ}
use Rattle.spec_simplex.proofs.RunParts.{then_ok, quotient_ok, plus_ok, less_ok, steps_ok}
use Rattle.spec_model.specs.Model.{Model, Limits, width, height, bounds, limits, cost, coefficient, part}
use Rattle.spec_check.specs.declared.certificate.Certificate.TheVariants.{Optimal, Infeasible, Clash, Unbounded}
use Rattle.spec_check.specs.Certificate.{IsFor}
use Rattle.spec_check.specs.declared.certificate.Known.TheVariants as known
use Rattle.spec_check.specs.Checks.{signed, priced, reduced, IsTight, turned_limits}
use Rattle.spec_check.specs.Checks.{Checks, ChecksClash}
use Rattle.spec_presolve.specs.Reduce.{or_old}
use Rattle.spec_presolve.specs.Carry.{ExactCertificate, IsCarried, is_given, alone_at, reduced_run, priced_run}
use Rattle.spec_presolve.specs.Carry.{taken_over, apart, or_clash, over_single}
use Rattle.spec_presolve.proofs.Scaled.{scaled, scaled_ordered}
use Rattle.spec_presolve.proofs.Tightened.{clash_low, clash_high}
use Rattle.spec_presolve.proofs.RowMore.{length_more, value_same}
use Rattle.spec_presolve.proofs.OverSingle.{SingleStep, optimal, infeasible, unbounded, apart_by}

-- a multiplier that is taken over is d divided by the entry a where t holds, and 0 else
taken_over_ok : (limit : Option ℕ) (t : Bool) (d a v : ℚ) → taken_over limit t d a ≡ Ok v →
    v ≡ cond t (d *ℚ inverse a) 0ℚ
taken_over_ok limit true d a v h = quotient_ok limit d a v h
taken_over_ok limit false d a v h = sym (ok_same 0ℚ v h)

-- a number is the same number less 0
less_zero : (s : ℚ) → s ≡ s -ℚ 0ℚ
less_zero s = sym (ap (λ z. s +ℚ z) neg-zero ∙ plus_zero s)
  where
    plus_zero : (s : ℚ) → s +ℚ 0ℚ ≡ s
    plus_zero s = simp ring

-- subtracting two numbers in turn is subtracting their sum
less_more : (s t u : ℚ) → (s -ℚ t) -ℚ u ≡ s -ℚ (t +ℚ u)
less_more s t u = simp ring

-- where the run of a column's reduced cost is not refused, it gives the reduced cost
reduced_run_ok : (limit : Option ℕ) (m : Model) (y : List ℚ) (j : ℕ) (d : ℚ) → reduced_run limit m y j ≡ Ok d →
    d ≡ reduced m y j
reduced_run_ok limit m y j d h =
    steps_ok (λ k s. s ≡ signed m.sense (cost m j) -ℚ sum_below k (λ i. part y i *ℚ coefficient m i j)) (height m)
    (λ i d. less_product limit (part y i) (coefficient m i j) d) (signed m.sense (cost m j)) d h
    (less_zero (signed m.sense (cost m j)))
    (λ i s t _ e f. less_ok limit (part y i) (coefficient m i j) s t f
    ∙ ap (λ s. s -ℚ part y i *ℚ coefficient m i j) e
    ∙ less_more (signed m.sense (cost m j)) (sum_below i (λ i. part y i *ℚ coefficient m i j))
    (part y i *ℚ coefficient m i j))

-- where the run of the multipliers' part in a column is not refused, it gives that part
priced_run_ok : (limit : Option ℕ) (m : Model) (y : List ℚ) (j : ℕ) (g : ℚ) → priced_run limit m y j ≡ Ok g →
    g ≡ priced m y j
priced_run_ok limit m y j g h =
    steps_ok (λ k s. s ≡ sum_below k (λ i. part y i *ℚ coefficient m i j)) (height m)
    (λ i s. plus_product limit (part y i) (coefficient m i j) s) 0ℚ g h refl
    (λ i s t _ e f. plus_ok limit (part y i) (coefficient m i j) s t f ∙ ap (λ s. s +ℚ part y i *ℚ coefficient m i j) e)

-- 1 asks for the lower limit, and its negative for the upper
pub one_tight : (l : Limits) (v : ℚ) → l.lower ≡ Some v → IsTight l 1ℚ v
one_tight l v e = record { above = λ _. e; below = λ p. absurd (clash_ℚ 0ℚ 1ℚ zero-lt-one (<ℚ-le 1ℚ 0ℚ p)) }

pub minus_tight : (l : Limits) (v : ℚ) → l.upper ≡ Some v → IsTight l (neg_ℚ 1ℚ) v
minus_tight l v e =
    record { above = λ p. absurd (clash_ℚ 0ℚ (neg_ℚ 1ℚ) p (<ℚ-le (neg_ℚ 1ℚ) 0ℚ neg-one-lt-zero)); below = λ _. e }

pub minus_times : (v : ℚ) → neg_ℚ 1ℚ *ℚ v ≡ neg_ℚ v
minus_times v = simp ring

module _ (m n : Model) (i j : ℕ) (a : ℚ) (lower upper : Option ℚ) (h : SingleStep m n i j a lower upper)
    (limit : Option ℕ) where
  abbrev given : Limits
  given = scaled a (limits m i)

  at_clash : (c : ChecksClash n j) (l u : Option ℚ) → lower ≡ l → upper ≡ u → (o : Option ExactCertificate) →
      apart limit (height n) i a l u ≡ Ok o → IsCarried m n (Clash j) (or_clash j o)
  at_clash c (Some q) u e f o k =
      let v = then_ok (quotient_run limit 1ℚ a) (λ v. Ok (Some (Infeasible (alone_at (height n) i v)))) o k in
      let both = clash_low given (bounds m j) lower upper h.tightens
      (scaled_ordered a (limits m i) h.not_zero h.ordered) c.low c.high q
      (subst (λ (l : Limits). l.lower ≡ Some c.low) h.own c.lower)
      (subst (λ (l : Limits). l.upper ≡ Some c.high) h.own c.upper) c.crossed e in
      subst (λ o. IsCarried m n (Clash j) (or_clash j o)) (ok_same (Some (Infeasible (alone_at (height n) i v.0))) o v.2)
      (record {
        fits = length_more m n i h.row _ v.0 (length-replicate (height n) 0ℚ);
        checks = apart_by m n i j a lower upper h 1ℚ c.low c.high v.0 (one_tight given c.low both.0)
            (one_tight (turned_limits (bounds m j)) c.high both.1)
            (subst₂ ◌<ℚ◌ (sym (one-*ℚ c.high)) (sym (one-*ℚ c.low)) c.crossed)
            (quotient_ok limit 1ℚ a v.0 v.1);
        shows = refl;
      })
  at_clash c None (Some q) e f o k =
      let v = then_ok (quotient_run limit (neg_ℚ 1ℚ) a) (λ v. Ok (Some (Infeasible (alone_at (height n) i v)))) o k in
      let both = clash_high given (bounds m j) lower upper h.tightens c.low c.high q
      (subst (λ (l : Limits). l.lower ≡ Some c.low) h.own c.lower)
      (subst (λ (l : Limits). l.upper ≡ Some c.high) h.own c.upper) e f in
      subst (λ o. IsCarried m n (Clash j) (or_clash j o)) (ok_same (Some (Infeasible (alone_at (height n) i v.0))) o v.2)
      (record {
        fits = length_more m n i h.row _ v.0 (length-replicate (height n) 0ℚ);
        checks = apart_by m n i j a lower upper h (neg_ℚ 1ℚ) c.high c.low v.0 (minus_tight given c.high both.0)
            (minus_tight (turned_limits (bounds m j)) c.low both.1)
            (subst₂ ◌<ℚ◌ (sym (minus_times c.low)) (sym (minus_times c.high)) (neg_strict c.high c.low c.crossed))
            (quotient_ok limit (neg_ℚ 1ℚ) a v.0 v.1);
        shows = refl;
      })
  at_clash c None None e f o k =
      subst (λ o. IsCarried m n (Clash j) (or_clash j o)) (ok_same None o k)
      (record {
        fits = h.inside;
        checks = record {
          inside = h.inside;
          low = c.low;
          high = c.high;
          lower = subst (λ x. or_old x (bounds m j).lower ≡ Some c.low) e
              (subst (λ (l : Limits). l.lower ≡ Some c.low) h.own c.lower);
          upper = subst (λ x. or_old x (bounds m j).upper ≡ Some c.high) f
              (subst (λ (l : Limits). l.upper ≡ Some c.high) h.own c.upper);
          crossed = c.crossed;
        };
        shows = refl;
      })

  other_clash : (k : ℕ) → ¬ (k ≡ j) → ChecksClash n k → ChecksClash m k
  other_clash k o c = record {
    inside = subst (λ w. k < w) (sym h.row.width_is) c.inside;
    low = c.low;
    high = c.high;
    lower = subst (λ (l : Limits). l.lower ≡ Some c.low) (h.others k o) c.lower;
    upper = subst (λ (l : Limits). l.upper ≡ Some c.high) (h.others k o) c.upper;
    crossed = c.crossed;
  }

  clash_by : (k : ℕ) (t : Bool) (back : ExactCertificate) → eqb k j ≡ t →
      cond t (apart limit (height n) i a lower upper >>= λ c. Ok (or_clash k c)) (Ok (Clash k)) ≡ Ok back →
      k < width n → ChecksClash n k → IsCarried m n (Clash k) back
  clash_by k true back e h₂ f c =
      let o = then_ok (apart limit (height n) i a lower upper) (λ c. Ok (or_clash k c)) back h₂ in
      let same : j ≡ k = sym (eqb-true k j e) in
      subst (λ b. IsCarried m n (Clash k) b) (ok_same (or_clash k o.0) back o.2)
      (subst (λ k. IsCarried m n (Clash k) (or_clash k o.0)) same
      (at_clash (subst (λ k. ChecksClash n k) (sym same) c) lower upper refl refl o.0 o.1))
  clash_by k false back e h₂ f c =
      subst (λ b. IsCarried m n (Clash k) b) (ok_same (Clash k) back h₂)
      (record {
        fits = subst (λ w. k < w) (sym h.row.width_is) f;
        checks = other_clash k (eqb-false k j e) c;
        shows = refl;
      })

  pub over_single_row : (c back : ExactCertificate) → over_single limit n i j a lower upper c ≡ Ok back → IsFor n c →
      Checks n c → IsCarried m n c back
  over_single_row (Optimal x y) back e f c =
      let d = then_ok (reduced_run limit n y j)
      (λ d. taken_over limit (is_given lower upper d) d a >>= λ v. Ok (Optimal x (insert y i v))) back e in
      let v = then_ok (taken_over limit (is_given lower upper d.0) d.0 a) (λ v. Ok (Optimal x (insert y i v))) back d.2 in
      subst (λ b. IsCarried m n (Optimal x y) b) (ok_same (Optimal x (insert y i v.0)) back v.2)
      (record {
        fits = (f.0 ∙ sym h.row.width_is, length_more m n i h.row y v.0 f.1);
        checks = optimal m n i j a lower upper h x y v.0 f.1 c
            (subst (λ d. v.0 ≡ cond (is_given lower upper d) (d *ℚ inverse a) 0ℚ) (reduced_run_ok limit n y j d.0 d.1)
            (taken_over_ok limit (is_given lower upper d.0) d.0 a v.0 v.1));
        shows = ap known.Optimal (value_same m n i h.row x);
      })
  over_single_row (Infeasible y) back e f c =
      let g = then_ok (priced_run limit n y j)
      (λ g. taken_over limit (is_given upper lower g) (neg_ℚ g) a >>= λ v. Ok (Infeasible (insert y i v))) back e in
      let v = then_ok (taken_over limit (is_given upper lower g.0) (neg_ℚ g.0) a) (λ v. Ok (Infeasible (insert y i v)))
      back g.2 in
      subst (λ b. IsCarried m n (Infeasible y) b) (ok_same (Infeasible (insert y i v.0)) back v.2)
      (record {
        fits = length_more m n i h.row y v.0 f;
        checks = infeasible m n i j a lower upper h y v.0 f c
            (subst (λ g. v.0 ≡ cond (is_given upper lower g) (neg_ℚ g *ℚ inverse a) 0ℚ) (priced_run_ok limit n y j g.0 g.1)
            (taken_over_ok limit (is_given upper lower g.0) (neg_ℚ g.0) a v.0 v.1));
        shows = refl;
      })
  over_single_row (Clash k) back e f c = clash_by k (eqb k j) back refl e f c
  over_single_row (Unbounded x r) back e f c =
      subst (λ b. IsCarried m n (Unbounded x r) b) (ok_same (Unbounded x r) back e)
      (record {
        fits = (f.0 ∙ sym h.row.width_is, f.1 ∙ sym h.row.width_is);
        checks = unbounded m n i j a lower upper h x r c;
        shows = refl;
      })
