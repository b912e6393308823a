-- The card of one more entry, or the first item that has no room.
use Rattle.std.proofs.Common.{[], ◌∷◌, ℕ, subst, arith}
use Rattle.std.proofs.lemmas.Result.{err_from_is_err_and}
use Rattle.std.proofs.lemmas.List.Concat.{flat_map_single}
use Rattle.spec_exact.specs.Fraction.{ℚ}
use Rattle.spec_model.specs.Model.{row}
use Rattle.spec_mps.specs.Written.{WrittenCards, number_card}
use Rattle.lp_mps.specs.Adds.{IsAdded, Names, wide_in}
use Rattle.lp_mps.proofs.AddSteps.{nothing, each_next, each_stops, each_done}
use Rattle.lp_mps.proofs.write.line.Writer.entries.Goals as goal

pub loop-i-init : goal.loop-i-init
loop-i-init c = nothing c.args.self.now.style c.args.to.now

pub loop-i-preserved : goal.loop-i-preserved
loop-i-preserved c =
    let P : ℕ × ℚ → Type 0 =
    λ e. IsAdded c.args.self.now.style
    (number_card c.args.name.now (row c.args.model.now e.0).name e.1 ∷ []) c.loop-i.to c.number_card.new.to in
    let h = rw (c.as_slice.ensures, c.row.ensures) at c.in_ok-number_card.ensures in
    each_next c.args.self.now.style (λ e. number_card c.args.name.now (row c.args.model.now e.0).name e.1 ∷ [])
    c.args.entries.now c.loop-i.i-index c.loop-i-item.result
    (omega arith) _ _ _ c.loop-i.invariant (subst P c.loop-i-item.is h)

pub returns-in_err-number_card : goal.returns-in_err-number_card
returns-in_err-number_card c =
    let p = err_from_is_err_and c.from_residual.result c.from_residual.ensures.1 in
    let P : ℕ × ℚ → Type 0 =
    λ e. Names (wide_in c.args.self.now.style (number_card c.args.name.now (row c.args.model.now e.0).name e.1 ∷ []))
    c.in_err-number_card.field-0.0 in
    let Q : WrittenCards → Type 0 = λ cs. Names (wide_in c.args.self.now.style cs) c.in_err-number_card.field-0.0 in
    let h = rw (c.as_slice.ensures, c.row.ensures) at c.in_err-number_card.ensures in
    rw (p.1, p.2)
    (subst Q (flat_map_single (λ e. number_card c.args.name.now (row c.args.model.now e.0).name e.1) c.args.entries.now)
    (each_stops c.args.self.now.style (λ e. number_card c.args.name.now (row c.args.model.now e.0).name e.1 ∷ [])
    c.args.entries.now c.loop-i.i-index c.loop-i-item.result
    (omega arith) _ _ c.in_err-number_card.field-0.0 c.loop-i.invariant (subst P c.loop-i-item.is h)))

pub returns : goal.returns
returns c =
    let Q : WrittenCards → Type 0 = λ cs. IsAdded c.args.self.now.style cs c.args.to.now c.loop-i.to in
    subst Q (flat_map_single (λ e. number_card c.args.name.now (row c.args.model.now e.0).name e.1) c.args.entries.now)
    (each_done c.args.self.now.style (λ e. number_card c.args.name.now (row c.args.model.now e.0).name e.1 ∷ [])
    c.args.entries.now c.loop-i.i-index _ _ (omega arith) c.loop-i.invariant)
