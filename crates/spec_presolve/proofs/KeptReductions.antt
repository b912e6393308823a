-- Reduced models may be kept.
--
-- `after_kept`: a reduction of a model within some limits, in numbers of at most 127 bits, gives one within these
--   limits.
-- `kept_all`: where a model is within some limits of size and numbers, all the models of its reductions are within
--   them.
use Rattle.std.proofs.Common.{◌≡◌, ℕ, zero, suc, ◌+◌, Option, Some, None, IfSome, Ok, [], ◌∷◌, All}
use Rattle.std.proofs.Common.{length, pos, ◌^◌, refl, ◌∙◌, subst, arith}
use Rattle.std.proofs.lemmas.List.{length-set}
use Rattle.std.proofs.lemmas.List.Elements.{All-nil, All-cons}
use Rattle.spec_exact.specs.Fraction.{ℚ, abs_ℚ, ◌<ℚ◌, whole}
use Rattle.spec_exact.specs.Narrow.{IsNarrow, number_limit}
use Rattle.spec_exact.specs.Run.{Run, ◌>>=◌, less_product}
use Rattle.spec_exact.proofs.Results.{ok_same}
use Rattle.spec_simplex.proofs.RunParts.{then_ok, steps_ok}
use Rattle.spec_model.specs.declared.parts.SizeLimits.{SizeLimits}
use Rattle.spec_model.specs.Model.{Model, width, height, bounds, row, cost, coefficient, no_column}
use Rattle.spec_model.specs.Kept.{IsModelWithin, IsBound}
use Rattle.spec_edit.specs.Changes.{without_row, with_bounds, with_rhs, with_offset}
use Rattle.spec_edit.specs.Edited.{IsKeptBound}
use Rattle.spec_edit.proofs.Keeping.{without_row-kept, without_column-kept, with_bounds-kept, with_rhs-kept, with_offset-kept}
use Rattle.spec_solve.proofs.NarrowRuns.{plus_narrow, less_narrow}
use Rattle.spec_presolve.specs.declared.reduction.Reduction.TheVariants.{Empty, Single, Fixed}
use Rattle.spec_presolve.specs.declared.reduction.Halt.{Halt}
use Rattle.spec_presolve.specs.declared.reduction.Halt.TheVariants.{Done}
use Rattle.spec_presolve.specs.declared.reduction.Choice.TheVariants.{Reduce}
use Rattle.spec_presolve.specs.declared.reduction.Choice.TheVariants as choice
use Rattle.spec_presolve.specs.Choose.{ExactReduction, ExactChoice, chosen}
use Rattle.spec_presolve.specs.Reduce.{Reductions, or_old, tightened, shifted, after, proceed, reduced_within, reduced}
use Rattle.spec_presolve.proofs.NextReduction.{Goes, what_goes}
use Rattle.spec_presolve.proofs.After.{fixed_parts}

-- where a given bound is below 10^20 and has at most 127 bits, and the old bound may be kept, the bound that is taken
-- may be kept
bound_or_old : (o old : Option ℚ) → IfSome o (λ q. abs_ℚ q <ℚ whole (pos (10 ^ 20))) → IfSome o IsNarrow → IsBound old →
    IfSome old IsNarrow → IsKeptBound (or_old o old)
bound_or_old None old h k b n = (b, n)
bound_or_old (Some q) old h k b n = (h, k)

-- x is a model within these limits, with as many rows and columns as m
record Moving (limits : SizeLimits) (m : Model) (x : Model) : Type 0 where
  kept : IsModelWithin limits x
  same_height : length x.rows ≡ length m.rows
  same_width : length x.columns ≡ length m.columns

-- moving right sides within the number limit keeps the model's size and leaves a model that may be kept
shifted_kept : {limits : SizeLimits} (m : Model) (j : ℕ) (v : ℚ) (x : Model) → IsModelWithin limits m →
    shifted (Some number_limit) m j v ≡ Ok x →
    Moving limits m x
shifted_kept {limits = limits} m j v x k h =
    steps_ok (λ _ x. Moving limits m x) (height m)
    (λ i n. less_product (Some number_limit) (coefficient m i j) v (row m i).rhs >>= λ b. Ok (with_rhs n i b)) m x h
    (record { kept = k; same_height = refl; same_width = refl })
    (λ i y z l s e.
    let b = then_ok (less_product (Some number_limit) (coefficient m i j) v (row m i).rhs) (λ b. Ok (with_rhs y i b)) z
    e in
    subst (Moving limits m) (ok_same (with_rhs y i b.0) z b.2)
    (record {
      kept = with_rhs-kept y i b.0 s.kept (omega (arith, l, s.same_height))
          (less_narrow (coefficient m i j) v (row m i).rhs b.0 b.1);
      same_height = length-set y.rows i (record (row y i) { rhs = b.0 }) ∙ s.same_height;
      same_width = s.same_width;
    }))

pub after_kept : {limits : SizeLimits} (m n : Model) (r : ExactReduction) → IsModelWithin limits m →
    Goes (Some number_limit) m r →
    after (Some number_limit) m r ≡ Ok n → IsModelWithin limits n
unfolding after
after_kept {limits = limits} m n (Empty i) k g a =
    subst (IsModelWithin limits) (ok_same (without_row m i) n a) (without_row-kept m i k g.inside)
after_kept {limits = limits} m n (Single i j a lower upper) k g t =
    let c = k.columns j no_column g.alone.inside in
    let w = k.narrow_columns j no_column g.alone.inside in
    subst (IsModelWithin limits) (ok_same (without_row (with_bounds m j (tightened (bounds m j) lower upper)) i) n t)
    (without_row-kept (with_bounds m j (tightened (bounds m j) lower upper)) i
    (with_bounds-kept m j (tightened (bounds m j) lower upper) k g.alone.inside
    (bound_or_old lower (bounds m j).lower g.near_lower (g.narrow_lower refl) c.lower w.lower)
    (bound_or_old upper (bounds m j).upper g.near_upper (g.narrow_upper refl) c.upper w.upper))
    g.inside)
after_kept {limits = limits} m n (Fixed j v) k g a =
    let p = fixed_parts (Some number_limit) m n j v a in
    let s = shifted_kept m j v p.moved_model k p.moved_is in
    subst (IsModelWithin limits) p.same
    (without_column-kept (with_offset p.moved_model p.offset) j
    (with_offset-kept p.moved_model p.offset s.kept (plus_narrow (cost m j) v m.offset p.offset p.offset_is))
    (omega (arith, s.same_width, g.inside)))

abbrev AllKept : SizeLimits → Reductions → Type 0
AllKept limits r = All (λ (s : ExactReduction × Model). IsModelWithin limits s.1) r.steps × IsModelWithin limits r.last

-- where reductions end at once at a model that may be kept, all their models may be kept
halted_kept : {limits : SizeLimits} (m : Model) (h : Halt) (r : Reductions) → IsModelWithin limits m →
    ◌≡◌ {A = Reductions} (record { steps = []; last = m; halt = h }) r → AllKept limits r
halted_kept {limits = limits} m h r k e =
    subst (AllKept limits) e (All-nil (λ (s : ExactReduction × Model). IsModelWithin limits s.1), k)

-- where the first model may be kept, all models of its first k reductions may be kept
within_kept : {limits : SizeLimits} (k : ℕ) (m : Model) (r : Reductions) → IsModelWithin limits m →
    reduced_within (Some number_limit) k m ≡ Ok r →
    AllKept limits r
within_kept zero m r w h = halted_kept m Done r w (ok_same _ r h)
within_kept {limits = limits} (suc k) m r w h =
    let c = then_ok (chosen (Some number_limit) m) _ r h in by c.0 c.1 c.2 (λ n. within_kept k n)
  where
    next : ExactReduction → Run Reductions
    next s =
        after (Some number_limit) m s >>= λ smaller. reduced_within (Some number_limit) k smaller >>= λ rest.
        Ok (record rest { steps = (s, smaller) ∷ rest.steps })

    by : (c : ExactChoice) → chosen (Some number_limit) m ≡ Ok c → proceed m c next ≡ Ok r →
        ((n : Model) (r : Reductions) → IsModelWithin limits n → reduced_within (Some number_limit) k n ≡ Ok r →
        AllKept limits r) →
        AllKept limits r
    by (choice.Halt t) f p later = halted_kept m t r w (ok_same _ r p)
    by (Reduce s) f p later =
        let n = then_ok (after (Some number_limit) m s) _ r p in
        let rest = then_ok (reduced_within (Some number_limit) k n.0) _ r n.2 in
        let kept = after_kept m n.0 s w (what_goes (Some number_limit) m s f) n.1 in
        let l = later n.0 rest.0 kept rest.1 in
        subst (AllKept limits) (ok_same _ r rest.2)
        (All-cons (λ (s : ExactReduction × Model). IsModelWithin limits s.1) (s, n.0) rest.0.steps kept l.0, l.1)

pub kept_all : {limits : SizeLimits} (m : Model) (r : Reductions) → IsModelWithin limits m →
    reduced (Some number_limit) m ≡ Ok r → AllKept limits r
kept_all m r k h = within_kept (width m + height m) m r k h
