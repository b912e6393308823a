-- Certificates carried back over all reductions.
use Rattle.std.proofs.Common.{◌≡◌, ℕ, zero, suc, ◌+◌, Option, Ok, [], ◌∷◌, refl, ◌∙◌, subst}
use Rattle.spec_exact.specs.Run.{Run, ◌>>=◌}
use Rattle.spec_exact.proofs.Results.{ok_same}
use Rattle.spec_simplex.proofs.RunParts.{then_ok}
use Rattle.spec_model.specs.Model.{Model, width, height, bounds}
use Rattle.spec_edit.specs.Changes.{without_row, with_bounds}
use Rattle.spec_check.specs.Certificate.{IsFor}
use Rattle.spec_check.specs.Checks.{Checks}
use Rattle.spec_presolve.specs.declared.reduction.Reduction.TheVariants.{Empty, Single, Fixed}
use Rattle.spec_presolve.specs.declared.reduction.Halt.{Halt}
use Rattle.spec_presolve.specs.declared.reduction.Halt.TheVariants.{Done}
use Rattle.spec_presolve.specs.declared.reduction.Choice.TheVariants.{Reduce}
use Rattle.spec_presolve.specs.declared.reduction.Choice.TheVariants as choice
use Rattle.spec_presolve.specs.Choose.{ExactReduction, ExactChoice, chosen}
use Rattle.spec_presolve.specs.Reduce.{Reductions, tightened, after, proceed, reduced_within, reduced}
use Rattle.spec_presolve.specs.Carry.{ExactCertificate, IsCarried, over_empty, over_fixed, carried_over, carried}
use Rattle.spec_presolve.proofs.NextReduction.{Goes, what_goes}
use Rattle.spec_presolve.proofs.After.{empty_step, single_step, fixed_step}
use Rattle.spec_presolve.proofs.OverEmpty.{EmptyStep, over_empty_row}
use Rattle.spec_presolve.proofs.OverSingle.{SingleStep}
use Rattle.spec_presolve.proofs.OverSingleRun.{over_single_row}
use Rattle.spec_presolve.proofs.OverFixed.{over_fixed_column}

-- a certificate carried over one reduction that goes is accepted for the model before and shows the same
over_one : (limit : Option ℕ) (m n : Model) (r : ExactReduction) (c back : ExactCertificate) → Goes limit m r →
    after limit m r ≡ Ok n → carried_over limit (r, n) c ≡ Ok back → IsFor n c → Checks n c → IsCarried m n c back
unfolding after carried_over
over_one limit m n (Empty i) c back g a o f k =
    let e : without_row m i ≡ n = ok_same (without_row m i) n a in
    subst (λ b. IsCarried m n c b) (ok_same (over_empty i c) back o)
    (over_empty_row m n i (subst (λ n. EmptyStep m n i) e (empty_step m i g)) c f k)
over_one limit m n (Single i j a lower upper) c back g t o f k =
    let e : without_row (with_bounds m j (tightened (bounds m j) lower upper)) i ≡ n = ok_same _ n t in
    over_single_row m n i j a lower upper (subst (λ n. SingleStep m n i j a lower upper) e (single_step limit m i j a lower upper g)) limit c back o f k
over_one limit m n (Fixed j v) c back g a o f k =
    subst (λ b. IsCarried m n c b) (ok_same (over_fixed j v c) back o)
    (over_fixed_column m n j v (fixed_step limit m n j v g a) c f k)

-- a certificate carried over the chosen reduction is accepted for the model before and shows the same
over_reduction : (limit : Option ℕ) (m n : Model) (r : ExactReduction) (c back : ExactCertificate) →
    chosen limit m ≡ Ok (Reduce r) → after limit m r ≡ Ok n → carried_over limit (r, n) c ≡ Ok back → IsFor n c →
    Checks n c → IsCarried m n c back
over_reduction limit m n r c back h = over_one limit m n r c back (what_goes limit m r h)

-- a certificate carried back to n, and carried from n back to m, is carried from the last model back to m
chain : (m n last : Model) (c later back : ExactCertificate) → IsCarried n last c later → IsCarried m n later back →
    IsCarried m last c back
chain m n last c later back h k = record { fits = k.fits; checks = k.checks; shows = k.shows ∙ h.shows }

-- a certificate carried over no reductions is the certificate itself, still accepted for its model
none_carried : (limit : Option ℕ) (m : Model) (h : Halt) (c back : ExactCertificate) →
    carried limit [] c ≡ Ok back → IsFor m c → Checks m c → IsCarried m m c back
none_carried limit m h c back e f k =
    subst (λ b. IsCarried m m c b) (ok_same c back e) (record { fits = f; checks = k; shows = refl })

abbrev Carries : Option ℕ → Model → Reductions → Type 0
Carries limit m r = (c back : ExactCertificate) → carried limit r.steps c ≡ Ok back → IsFor r.last c → Checks r.last c →
    IsCarried m r.last c back

-- where reductions end at once, each accepted certificate is carried back to the first model
halted_carries : (limit : Option ℕ) (m : Model) (h : Halt) (r : Reductions) →
    ◌≡◌ {A = Reductions} (record { steps = []; last = m; halt = h }) r → Carries limit m r
halted_carries limit m h r e = subst (Carries limit m) e (λ c back. none_carried limit m h c back)

-- at most k reductions carry each accepted certificate of the last model, where this is not refused, back to the first
within_carries : (limit : Option ℕ) (k : ℕ) (m : Model) (r : Reductions) → reduced_within limit k m ≡ Ok r →
    Carries limit m r
within_carries limit zero m r h = halted_carries limit m Done r (ok_same _ r h)
within_carries limit (suc k) m r h =
    let c = then_ok (chosen limit m) _ r h in by c.0 c.1 c.2 (λ n. within_carries limit k n)
  where
    next : ExactReduction → Run Reductions
    next s =
        after limit m s >>= λ smaller. reduced_within limit k smaller >>= λ rest.
        Ok (record rest { steps = (s, smaller) ∷ rest.steps })

    by : (c : ExactChoice) → chosen limit m ≡ Ok c → proceed m c next ≡ Ok r →
        ((n : Model) (r : Reductions) → reduced_within limit k n ≡ Ok r → Carries limit n r) → Carries limit m r
    by (choice.Halt t) e p later = halted_carries limit m t r (ok_same _ r p)
    by (Reduce s) e p later =
        let n = then_ok (after limit m s) _ r p in
        let rest = then_ok (reduced_within limit k n.0) _ r n.2 in
        subst (Carries limit m) (ok_same _ r rest.2)
        (λ c back t f w.
        let x = then_ok (carried limit rest.0.steps c) (carried_over limit (s, n.0)) back t in
        let l = later n.0 rest.0 rest.1 c x.0 x.1 f w in
        chain m n.0 rest.0.last c x.0 back l
        (over_reduction limit m n.0 s x.0 back e n.1 x.2 l.fits l.checks))

-- an accepted certificate of the last model, carried over all reductions, is accepted for the first model and shows the
-- same of it
pub carries : (limit : Option ℕ) (m : Model) (r : Reductions) (c back : ExactCertificate) → reduced limit m ≡ Ok r →
    carried limit r.steps c ≡ Ok back → IsFor r.last c → Checks r.last c → IsCarried m r.last c back
carries limit m r c back h = within_carries limit (width m + height m) m r h c back
