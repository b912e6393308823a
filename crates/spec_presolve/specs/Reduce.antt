-- The models that reductions lead to, under a limit.
use Rattle.std.specs.Prelude.{ℕ, zero, suc, ◌+◌, Option, Some, None, Ok, List, [], ◌∷◌}
use Rattle.spec_exact.specs.Fraction.{ℚ}
use Rattle.spec_exact.specs.Run.{Run, ◌>>=◌, plus_product, less_product, steps}
use Rattle.spec_model.specs.Model.{Model, Limits, width, height, bounds, row, cost, coefficient}
use Rattle.spec_edit.specs.Changes.{without_row, without_column, with_bounds, with_rhs, with_offset}
use Rattle.spec_presolve.specs.declared.reduction.Reduction.TheVariants.{Empty, Single, Fixed}
use Rattle.spec_presolve.specs.declared.reduction.Halt.{Halt}
use Rattle.spec_presolve.specs.declared.reduction.Halt.TheVariants.{Done}
use Rattle.spec_presolve.specs.declared.reduction.Choice.TheVariants.{Reduce}
use Rattle.spec_presolve.specs.declared.reduction.Choice.TheVariants as choice
use Rattle.spec_presolve.specs.Choose.{ExactReduction, ExactChoice, chosen}

-- ---- one reduction

-- the given bound if there is one, else the old one
abbrev pub or_old : Option ℚ → Option ℚ → Option ℚ
or_old None old = old
or_old (Some b) old = Some b

-- the limits with the given bounds in place of the old ones, where they are given
abbrev pub tightened : Limits → Option ℚ → Option ℚ → Limits
tightened l lower upper = record { lower = or_old lower l.lower; upper = or_old upper l.upper }

-- the model m in which each row's right side is less by v times the row's coefficient in column j; or the first refusal
abbrev pub shifted : Option ℕ → Model → ℕ → ℚ → Run Model
shifted limit m j v =
    steps (height m) (λ i n. less_product limit (coefficient m i j) v (row m i).rhs >>= λ b. Ok (with_rhs n i b)) m

-- The model after a reduction, at a limit. A row goes without entries, or with one entry, whose column takes the bounds
-- that the row gave. Or a column fixed at v goes: right sides are less by what it adds, and the offset is more by its
-- cost times v. Or the first refusal.
unfoldable pub after : Option ℕ → Model → ExactReduction → Run Model
after limit m (Empty i) = Ok (without_row m i)
after limit m (Single i j a lower upper) =
    Ok (without_row (with_bounds m j (tightened (bounds m j) lower upper)) i)
after limit m (Fixed j v) =
    shifted limit m j v >>= λ n.
    plus_product limit (cost m j) v m.offset >>= λ offset. Ok (without_column (with_offset n offset) j)

-- ---- all of them

-- the reductions, each with the model that it leads to; the last model, and why no other reduction follows
pub record Reductions : Type 0 where
  pub steps : List (ExactReduction × Model)
  pub last : Model
  pub halt : Halt

-- what follows a choice: to halt ends the reductions with the model m, and a reduction is handed to `next`
abbrev pub proceed : Model → ExactChoice → (ExactReduction → Run Reductions) → Run Reductions
proceed m (choice.Halt halt) next = Ok (record { steps = []; last = m; halt = halt })
proceed m (Reduce r) next = next r

-- at most n reductions of a model, one after the other, with the model that is left and why no other follows; that is
-- `Done` too where n reductions were made. Or the first refusal.
abbrev pub reduced_within : Option ℕ → ℕ → Model → Run Reductions
reduced_within limit zero m = Ok (record { steps = []; last = m; halt = Done })
reduced_within limit (suc n) m =
    chosen limit m >>= λ c. proceed m c
    (λ r. after limit m r >>= λ smaller. reduced_within limit n smaller >>= λ rest.
    Ok (record rest { steps = (r, smaller) ∷ rest.steps }))

-- all reductions of a model, one after the other, or the first refusal: as each takes a row or a column, no more than
-- it has of both
abbrev pub reduced : Option ℕ → Model → Run Reductions
reduced limit m = reduced_within limit (width m + height m) m
