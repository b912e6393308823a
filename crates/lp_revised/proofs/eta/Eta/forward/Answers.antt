-- An entry more, a refused one, and all of them.
use Rattle.std.proofs.Common.{sym, ◌∙◌, ap, arith, Ok, length}
use Rattle.std.proofs.lemmas.Result.{err_from_is_err_and}
use Rattle.lp_revised.proofs.EtaLoops.{long, place_in, item_in, forward_stop, forward_next, forward_same}
use Rattle.lp_revised.proofs.EtaLoops.{forward_starts, forward_not, forward_zero, forward_whole, forward_long}
use Rattle.lp_revised.proofs.eta.Eta.forward.Goals.{then-row-self+in_ok-less_product, else-row-self}
use Rattle.lp_revised.proofs.eta.Eta.forward.Goals as goal

pub at-requires : goal.at-requires
at-requires c =
    place_in c.self.view_is c.self.invariant c.args.v.now c.requires.all

pub set-requires : goal.set-requires
set-requires c =
    place_in c.self.view_is c.self.invariant c.args.v.now c.requires.all

pub returns-in_err-div-clause-run : goal.returns-in_err-div-clause-run
returns-in_err-div-clause-run c =
    let p = err_from_is_err_and c.from_residual.result c.from_residual.ensures.1 in
    let step = rw c.in_err-div.was at c.div.ensures in
    rw (p.1, p.2) (forward_not c.self.view_is c.self.invariant c.args.v.now c.requires.all c.at.ensures (sym step))

pub loop-row-init : goal.loop-row-init
loop-row-init c =
    forward_starts c.self.view_is c.self.invariant c.args.v.now c.requires.all
    c.requires.narrow c.narrow-by.ensures.narrow c.set.ensures

pub at-requires-then-row-self : goal.at-requires-then-row-self
at-requires-then-row-self c =
    item_in c.self.view_is c.self.invariant c.args.v.now c.requires.all
    c.as_slice-row-items.ensures c.loop-row.row-index c.loop-row-item.is c.loop-row-test.true c.loop-row.v
    (forward_long c.self.view_is c.self.invariant c.args.v.now c.requires.all c.loop-row.invariant
    ∙ long c.self.view_is c.self.invariant c.args.v.now c.requires.all)

pub set-requires-then-row-self : goal.set-requires-then-row-self
set-requires-then-row-self c =
    item_in c.self.view_is c.self.invariant c.args.v.now c.requires.all
    c.as_slice-row-items.ensures c.loop-row.row-index c.loop-row-item.is c.loop-row-test.true c.loop-row.v
    (forward_long c.self.view_is c.self.invariant c.args.v.now c.requires.all c.loop-row.invariant
    ∙ long c.self.view_is c.self.invariant c.args.v.now c.requires.all)

pub returns-in_err-less_product-clause-run : goal.returns-in_err-less_product-clause-run
returns-in_err-less_product-clause-run c =
    let p =
    err_from_is_err_and c.from_residual-in_err-less_product.result c.from_residual-in_err-less_product.ensures.1 in
    let step = rw c.in_err-less_product.was at c.less_product.ensures in
    let begun = rw c.in_ok-div.was at c.div.ensures in
    rw (p.1, p.2)
    (forward_stop c.self.view_is c.self.invariant c.args.v.now c.requires.all
    c.as_slice-row-items.ensures c.loop-row.row-index c.loop-row-item.is c.loop-row-test.true
    c.requires.narrow c.narrow-by.ensures.narrow c.at.ensures
    (sym begun ∙ ap Ok (sym c.narrow-by.ensures.value)) c.loop-row.invariant
    c.at-then-row-self.result c.in_err-less_product.field-0.0 c.if-row-self.true c.at-then-row-self.ensures (sym step))

pub loop-row-preserved : goal.loop-row-preserved
loop-row-preserved c =
    let begun = rw c.in_ok-div.was at c.div.ensures in
    elim c.if-row-self.branch [
      | then-row-self+in_ok-less_product w ↦
          (let step = rw w.in_ok-less_product.was at w.less_product.ensures in
          forward_next c.self.view_is c.self.invariant c.args.v.now c.requires.all
          c.as_slice-row-items.ensures c.loop-row.row-index c.loop-row-item.is c.loop-row-test.true
          c.requires.narrow c.narrow-by.ensures.narrow c.at.ensures
          (sym begun ∙ ap Ok (sym c.narrow-by.ensures.value)) c.loop-row.invariant
          w.at-then-row-self.result w.narrow-rest.result c.if-row-self.v w.if-row-self.true w.at-then-row-self.ensures
          (sym step ∙ ap Ok (sym w.narrow-rest.ensures.value)) w.narrow-rest.ensures.narrow
          (w.v-is ∙ w.set-then-row-self.ensures))
      | else-row-self w ↦
          forward_same c.self.view_is c.self.invariant c.args.v.now c.requires.all
          c.as_slice-row-items.ensures c.loop-row.row-index c.loop-row-item.is c.loop-row-test.true
          c.requires.narrow c.narrow-by.ensures.narrow c.at.ensures
          (sym begun ∙ ap Ok (sym c.narrow-by.ensures.value)) c.loop-row.invariant
          c.if-row-self.v w.if-row-self.false w.v-is
    ]

pub returns-clause-run : goal.returns-clause-run
returns-clause-run c =
    let begun = rw c.in_ok-div.was at c.div.ensures in
    forward_whole c.self.view_is c.self.invariant c.args.v.now c.requires.all
    c.requires.narrow c.loop-row.row-index c.narrow-by.ensures.narrow c.at.ensures
    (sym begun ∙ ap Ok (sym c.narrow-by.ensures.value))
    (omega (arith, c.loop-row-test.false, ap length c.as_slice-row-items.ensures)) c.loop-row.invariant

pub returns-then-is_zero-clause-run : goal.returns-then-is_zero-clause-run
returns-then-is_zero-clause-run c =
    let begun = rw c.in_ok-div.was at c.div.ensures in
    forward_zero c.self.view_is c.self.invariant c.args.v.now c.requires.all
    c.requires.narrow c.narrow-by.ensures.narrow c.at.ensures
    (sym begun ∙ ap Ok (sym c.narrow-by.ensures.value)) (c.is_zero.ensures.0 c.if-is_zero.true) c.set.ensures
