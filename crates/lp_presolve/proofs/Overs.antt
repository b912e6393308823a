-- A certificate carried back over one reduction, by what is kept of it, and over all of them.
--
-- `carried_empty`: over a row without entries the certificate is carried as `over_empty` says.
-- `carried_fixed`: over a fixed column the certificate is carried as `over_fixed` says.
-- `carried_single`: over a row with one entry the certificate is carried by the kept step as by the model.
-- `parted`: a list of kept reductions that is not empty is the first one and those behind it, each with its data.
-- `carried_stops`: a stop over the other reductions stops the carrying over all of them.
-- `carried_on`: carrying a certificate over the later reductions and then over the first one carries it over all of
--   them.
use Rattle.std.proofs.Common.{◌≡◌, ℕ, ◌-◌, ◌≤◌, Option, Some, Result, Ok, Err}
use Rattle.std.proofs.Common.{List, [], ◌∷◌, length, take, drop, get_or, refl, sym, ap, ◌∙◌, subst, arith}
use Rattle.std.proofs.Math.Seq.{take-length}
use Rattle.spec_exact.specs.Fraction.{ℚ}
use Rattle.spec_exact.specs.Run.{◌>>=◌}
use Rattle.spec_exact.specs.Narrow.{number_limit}
use Rattle.spec_model.specs.Model.{Model}
use Rattle.spec_check.specs.declared.certificate.Certificate.TheVariants.{Optimal, Infeasible, Clash, Unbounded}
use Rattle.spec_presolve.specs.declared.reduction.Reduction.TheVariants.{Empty, Single, Fixed}
use Rattle.spec_presolve.specs.Choose.{ExactReduction}
use Rattle.spec_presolve.specs.Carry.{ExactCertificate, over_empty, over_fixed, over_single, carried_over, carried}
use Rattle.lp_frac.specs.declared.stop.Stop.{Stop}
use Rattle.lp_frac.specs.declared.stop.Stop.TheVariants.{Cause, Past, NoMemory}
use Rattle.lp_presolve.specs.declared.step.Step.{Step}
use Rattle.lp_presolve.specs.Kept.{kept, all_kept}
use Rattle.lp_presolve.specs.Sums.{over_step}
use Rattle.lp_presolve.specs.Tells.{Tells}

-- ---- the step is that of the definition

-- where a step was kept of reduction r, and has t as its reduction, r is t
reduction_is : (s : Step) (r t : ExactReduction) (m : Model) → s ≡ kept r m → s.reduction ≡ t → r ≡ t
reduction_is s r t m h g = sym (ap (λ (s : Step). s.reduction) h) ∙ g

pub carried_empty : (s : Step) (r : ExactReduction) (m : Model) (i : ℕ) (c back : ExactCertificate) → s ≡ kept r m →
    s.reduction ≡ Empty i → back ≡ over_empty i c → carried_over (Some number_limit) (r, m) c ≡ Ok back
unfolding carried_over
carried_empty s r m i c back h g k = rw (reduction_is s r (Empty i) m h g, k) refl

pub carried_fixed : (s : Step) (r : ExactReduction) (m : Model) (j : ℕ) (v : ℚ) (c back : ExactCertificate) →
    s ≡ kept r m → s.reduction ≡ Fixed j v → back ≡ over_fixed j v c →
    carried_over (Some number_limit) (r, m) c ≡ Ok back
unfolding carried_over
carried_fixed s r m j v c back h g k = rw (reduction_is s r (Fixed j v) m h g, k) refl

-- over a row of one entry, the data that is kept of the reduction carries a certificate as the definition does
over_same : (m : Model) (i j : ℕ) (a : ℚ) (l u : Option ℚ) (c : ExactCertificate) →
    over_step (Some number_limit) (kept (Single i j a l u) m) i j a l u c ≡ over_single (Some number_limit) m i j a l u
    c
over_same m i j a l u (Optimal x y) = refl
over_same m i j a l u (Infeasible y) = refl
over_same m i j a l u (Clash k) = refl
over_same m i j a l u (Unbounded x r) = refl

-- over a row of one entry, what the kept step gives is the certificate that the definition carries
single_run : (s : Step) (r : ExactReduction) (m : Model) (i j : ℕ) (a : ℚ) (l u : Option ℚ) (c : ExactCertificate) →
    s ≡ kept r m → r ≡ Single i j a l u →
    over_step (Some number_limit) s i j a l u c ≡ carried_over (Some number_limit) (r, m) c
unfolding carried_over
single_run s r m i j a l u c h e =
    ap (λ s. over_step (Some number_limit) s i j a l u c) (h ∙ ap (λ r. kept r m) e) ∙ over_same m i j a l u c
    ∙ ap (λ r. carried_over (Some number_limit) (r, m) c) (sym e)

pub carried_single : {C : Type 0} (s : Step) (r : ExactReduction) (m : Model) (i j : ℕ) (a : ℚ) (l u : Option ℚ)
    (c : ExactCertificate) (o : Result ExactCertificate (Stop C)) → s ≡ kept r m → s.reduction ≡ Single i j a l u →
    Tells (over_step (Some number_limit) s i j a l u c) o → Tells (carried_over (Some number_limit) (r, m) c) o
carried_single s r m i j a l u c o h g k =
    subst (λ run. Tells run o) (single_run s r m i j a l u c h (reduction_is s r (Single i j a l u) m h g)) k

-- ---- over all of them

-- the first one, and the others
pub record Parted (first : Step) (rest : List Step) (rs : List (ExactReduction × Model)) : Type 0 where
  pub reduction : ExactReduction
  pub model : Model
  pub others : List (ExactReduction × Model)
  pub all : rs ≡ (reduction, model) ∷ others
  pub first_is : first ≡ kept reduction model
  pub rest_is : rest ≡ all_kept others

-- a list behind its first element is all of the list but that element
rest_of : (x : Step) (xs : List Step) → take (length (x ∷ xs) - 1) xs ≡ xs
rest_of x xs = (let z : length (x ∷ xs) - 1 ≡ length xs = omega arith in ap (λ n. take n xs) z) ∙ take-length xs

pub parted : (xs : List Step) (first : Step) (rs : List (ExactReduction × Model)) → 1 ≤ length xs → first ≡ get_or xs 0 first →
    xs ≡ all_kept rs → Parted first (take (length xs - 1) (drop 1 xs)) rs
parted xs first [] l e h = let z : length xs ≡ 0 = ap length h in absurd (omega (arith, l, z))
parted xs first ((r, m) ∷ rs) l e h =
    record {
      reduction = r;
      model = m;
      others = rs;
      all = refl;
      first_is = e ∙ ap (λ xs. get_or xs 0 first) h;
      rest_is = ap (λ xs. take (length xs - 1) (drop 1 xs)) h ∙ rest_of (kept r m) (all_kept rs);
    }

-- a stop at the others
pub carried_stops : {C : Type 0} (first : Step) (rest : List Step) (rs : List (ExactReduction × Model)) (c : ExactCertificate)
    (e : Stop C) → Parted first rest rs →
    ((others : List (ExactReduction × Model)) → rest ≡ all_kept others →
    Tells (carried (Some number_limit) others c) (Err e)) →
    Tells (carried (Some number_limit) rs c) (Err e)
carried_stops {C} first rest rs c e p h =
    subst (λ rs. Tells (carried (Some number_limit) rs c) (Err e)) (sym p.all) (by e (h p.others p.rest_is))
  where
    by : (e : Stop C) → Tells (carried (Some number_limit) p.others c) (Err e) →
        Tells (carried (Some number_limit) p.others c >>= carried_over (Some number_limit) (p.reduction, p.model)) (Err
        e)
    by (Cause x) h = h
    by (Past q) h = ap (λ o. o >>= carried_over (Some number_limit) (p.reduction, p.model)) h
    by NoMemory h = tt

-- the others, and then the first one
pub carried_on : {C : Type 0} (first : Step) (rest : List Step) (rs : List (ExactReduction × Model)) (c d : ExactCertificate)
    (o : Result ExactCertificate (Stop C)) → Parted first rest rs →
    ((others : List (ExactReduction × Model)) → rest ≡ all_kept others → carried (Some number_limit) others c ≡ Ok d) →
    ((r : ExactReduction) (m : Model) → first ≡ kept r m → Tells (carried_over (Some number_limit) (r, m) d) o) →
    Tells (carried (Some number_limit) rs c) o
carried_on first rest rs c d o p h k =
    subst (λ run. Tells run o)
    (sym (ap (λ rs. carried (Some number_limit) rs c) p.all
    ∙ ap (λ o. o >>= carried_over (Some number_limit) (p.reduction, p.model)) (h p.others p.rest_is)))
    (k p.reduction p.model p.first_is)
