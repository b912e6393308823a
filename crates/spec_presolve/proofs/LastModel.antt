-- The last model, and how many reductions there are.
use Rattle.std.proofs.Common.{◌≡◌, ℕ, zero, suc, ◌+◌, Option, Ok, [], ◌∷◌, length, refl, ap₂}
use Rattle.std.proofs.Common.{subst, arith}
use Rattle.spec_exact.specs.Run.{Run, ◌>>=◌}
use Rattle.spec_exact.proofs.Results.{ok_same}
use Rattle.spec_simplex.proofs.RunParts.{then_ok}
use Rattle.spec_model.specs.Model.{Model, width, height, bounds}
use Rattle.spec_edit.specs.Changes.{without_row, with_bounds}
use Rattle.spec_presolve.specs.declared.reduction.Reduction.TheVariants.{Empty, Single, Fixed}
use Rattle.spec_presolve.specs.declared.reduction.Halt.{Halt}
use Rattle.spec_presolve.specs.declared.reduction.Halt.TheVariants.{Done}
use Rattle.spec_presolve.specs.declared.reduction.Choice.TheVariants.{Reduce}
use Rattle.spec_presolve.specs.declared.reduction.Choice.TheVariants as choice
use Rattle.spec_presolve.specs.Choose.{ExactReduction, ExactChoice, unless, first, clash_at, empty_at, single_at, fixed_at}
use Rattle.spec_presolve.specs.Choose.{or_done, chosen}
use Rattle.spec_presolve.specs.Reduce.{Reductions, tightened, after, proceed, reduced_within, reduced}
use Rattle.spec_presolve.proofs.NextReduction.{Goes, what_goes}
use Rattle.spec_presolve.proofs.After.{empty_step, single_step, fixed_step}
use Rattle.spec_presolve.proofs.OverEmpty.{EmptyStep}
use Rattle.spec_presolve.proofs.OverSingle.{SingleStep}

-- a reduction that goes leaves one row or column fewer in all
one_less : (limit : Option ℕ) (m n : Model) (r : ExactReduction) → Goes limit m r → after limit m r ≡ Ok n →
    width m + height m ≡ suc (width n + height n)
unfolding after
one_less limit m n (Empty i) g a =
    let s = subst (λ n. EmptyStep m n i) (ok_same (without_row m i) n a) (empty_step m i g) in
    omega (arith, s.row.height_is, s.row.width_is)
one_less limit m n (Single i j a lower upper) g t =
    let s = subst (λ n. SingleStep m n i j a lower upper)
    (ok_same (without_row (with_bounds m j (tightened (bounds m j) lower upper)) i) n t)
    (single_step limit m i j a lower upper g) in
    omega (arith, s.row.height_is, s.row.width_is)
one_less limit m n (Fixed j v) g a =
    let s = fixed_step limit m n j v g a in omega (arith, s.height_is, s.width_is)

-- where a model has no rows and no columns, the choice is to halt as done
nothing_left : (limit : Option ℕ) (m : Model) → width m ≡ 0 → height m ≡ 0 → chosen limit m ≡ Ok (choice.Halt Done)
unfolding chosen
nothing_left limit m e f =
    ap₂ (λ w h. first w (clash_at limit m) >>= λ a. unless a (first h (empty_at limit m)) >>= λ b.
    unless b (first h (single_at limit m)) >>= λ c. unless c (first w (fixed_at m)) >>= λ d. Ok (or_done d)) e f

pub record EndsWell (limit : Option ℕ) (m : Model) (r : Reductions) : Type 0 where
  pub none_applies : chosen limit r.last ≡ Ok (choice.Halt r.halt)
  pub count : length r.steps + (width r.last + height r.last) ≡ width m + height m

-- where the choice for the first model is to halt, none applies to the last model, and none was made
halted_ends : (limit : Option ℕ) (m : Model) (h : Halt) (r : Reductions) → chosen limit m ≡ Ok (choice.Halt h) →
    ◌≡◌ {A = Reductions} (record { steps = []; last = m; halt = h }) r → EndsWell limit m r
halted_ends limit m h r c e = subst (EndsWell limit m) e (record { none_applies = c; count = omega arith })

-- where k rows and columns are there, the first k reductions end where no other reduction applies
within_ends : (limit : Option ℕ) (k : ℕ) (m : Model) (r : Reductions) → width m + height m ≡ k →
    reduced_within limit k m ≡ Ok r → EndsWell limit m r
within_ends limit zero m r e h =
    halted_ends limit m Done r (nothing_left limit m (omega (arith, e)) (omega (arith, e))) (ok_same _ r h)
within_ends limit (suc k) m r e h =
    let c = then_ok (chosen limit m) _ r h in by c.0 c.1 c.2 (λ n. within_ends limit k n)
  where
    next : ExactReduction → Run Reductions
    next s =
        after limit m s >>= λ smaller. reduced_within limit k smaller >>= λ rest.
        Ok (record rest { steps = (s, smaller) ∷ rest.steps })

    by : (c : ExactChoice) → chosen limit m ≡ Ok c → proceed m c next ≡ Ok r →
        ((n : Model) (r : Reductions) → width n + height n ≡ k → reduced_within limit k n ≡ Ok r → EndsWell limit n r) →
        EndsWell limit m r
    by (choice.Halt t) f p later = halted_ends limit m t r f (ok_same _ r p)
    by (Reduce s) f p later =
        let n = then_ok (after limit m s) _ r p in
        let rest = then_ok (reduced_within limit k n.0) _ r n.2 in
        let less = one_less limit m n.0 s (what_goes limit m s f) n.1 in
        let l = later n.0 rest.0 (omega (arith, less, e)) rest.1 in
        subst (EndsWell limit m) (ok_same _ r rest.2)
        (record { none_applies = l.none_applies; count = omega (arith, l.count, less) })

-- all reductions end where no other applies, and each has taken one row or column
pub ends_well : (limit : Option ℕ) (m : Model) (r : Reductions) → reduced limit m ≡ Ok r → EndsWell limit m r
ends_well limit m r h = within_ends limit (width m + height m) m r refl h
