-- An entry more, a refused one, and all of them.
use Rattle.std.proofs.Common.{sym, ◌∙◌, ap, arith, Ok, length, subst}
use Rattle.std.proofs.lemmas.Result.{err_from_is_err_and}
use Rattle.spec_exact.specs.Narrow.{IsNarrow}
use Rattle.lp_revised.proofs.EtaLoops.{long, place_in, item_in, value_narrow, backward_stop, backward_next}
use Rattle.lp_revised.proofs.EtaLoops.{backward_same, backward_starts, backward_not, backward_whole}
use Rattle.lp_revised.proofs.eta.Eta.backward.Goals.{then-row-self+in_ok-less_part, else-row-self}
use Rattle.lp_revised.proofs.eta.Eta.backward.Goals as goal

pub at-requires : goal.at-requires
at-requires c =
    place_in c.self.view_is c.self.invariant c.args.v.now c.requires.all

pub set-requires : goal.set-requires
set-requires c =
    place_in c.self.view_is c.self.invariant c.args.v.now c.requires.all

pub loop-row-init : goal.loop-row-init
loop-row-init c =
    subst (Rattle.lp_revised.proofs.EtaRuns.BackwardTo c.self.inside.rows c.self.inside.place
    c.self.inside.entries c.args.v.now 0) (sym c.narrow-rest.ensures.value)
    (backward_starts c.self.view_is c.self.invariant c.args.v.now c.requires.all c.requires.narrow c.at.ensures
    (subst IsNarrow c.narrow-rest.ensures.value c.narrow-rest.ensures.narrow))

pub at-requires-then-row-self : goal.at-requires-then-row-self
at-requires-then-row-self c =
    item_in c.self.view_is c.self.invariant c.args.v.now c.requires.all
    c.as_slice-row-items.ensures c.loop-row.row-index c.loop-row-item.is c.loop-row-test.true c.args.v.now
    (long c.self.view_is c.self.invariant c.args.v.now c.requires.all)

pub less_part-requires-clause-w_narrow : goal.less_part-requires-clause-w_narrow
less_part-requires-clause-w_narrow c =
    value_narrow c.self.view_is c.self.invariant c.args.v.now c.requires.all
    c.as_slice-row-items.ensures c.loop-row.row-index c.loop-row-item.is c.loop-row-test.true

pub less_part-requires-clause-s_narrow : goal.less_part-requires-clause-s_narrow
less_part-requires-clause-s_narrow c = c.loop-row.invariant.narrow

pub returns-in_err-less_part-clause-run : goal.returns-in_err-less_part-clause-run
returns-in_err-less_part-clause-run c =
    let p = err_from_is_err_and c.from_residual.result c.from_residual.ensures.1 in
    let step = rw c.in_err-less_part.was at c.less_part.ensures in
    rw (p.1, p.2)
    (backward_stop c.self.view_is c.self.invariant c.args.v.now c.requires.all
    c.as_slice-row-items.ensures c.loop-row.row-index c.loop-row-item.is c.loop-row-test.true
    c.requires.narrow c.loop-row.invariant c.at-then-row-self.result
    c.in_err-less_part.field-0.0 c.if-row-self.true c.at-then-row-self.ensures (sym step))

pub loop-row-preserved : goal.loop-row-preserved
loop-row-preserved c =
    elim c.if-row-self.branch [
      | then-row-self+in_ok-less_part w ↦
          (let step = rw w.in_ok-less_part.was at w.less_part.ensures in
          backward_next c.self.view_is c.self.invariant c.args.v.now c.requires.all
          c.as_slice-row-items.ensures c.loop-row.row-index c.loop-row-item.is c.loop-row-test.true
          c.requires.narrow c.loop-row.invariant
          w.at-then-row-self.result w.narrow-rest-then-row-self.result
          c.if-row-self.rest w.if-row-self.true w.at-then-row-self.ensures
          (sym step ∙ ap Ok (sym w.narrow-rest-then-row-self.ensures.value)) w.narrow-rest-then-row-self.ensures.narrow
          w.rest-is)
      | else-row-self w ↦
          backward_same c.self.view_is c.self.invariant c.args.v.now c.requires.all
          c.as_slice-row-items.ensures c.loop-row.row-index c.loop-row-item.is c.loop-row-test.true
          c.requires.narrow c.loop-row.invariant
          c.if-row-self.rest w.if-row-self.false w.rest-is
    ]

pub returns-in_err-div-clause-run : goal.returns-in_err-div-clause-run
returns-in_err-div-clause-run c =
    let p = err_from_is_err_and c.from_residual-in_err-div.result c.from_residual-in_err-div.ensures.1 in
    let step = rw c.in_err-div.was at c.div.ensures in
    rw (p.1, p.2) (backward_not c.self.view_is c.self.invariant c.args.v.now c.requires.all
    c.requires.narrow c.loop-row.row-index
    (omega (arith, c.loop-row-test.false, ap length c.as_slice-row-items.ensures)) c.loop-row.invariant (sym step))

pub returns-clause-run : goal.returns-clause-run
returns-clause-run c =
    let step = rw c.in_ok-div.was at c.div.ensures in
    backward_whole c.self.view_is c.self.invariant c.args.v.now c.requires.all
    c.requires.narrow c.loop-row.row-index
    (omega (arith, c.loop-row-test.false, ap length c.as_slice-row-items.ensures)) c.loop-row.invariant
    (sym step ∙ ap Ok (sym c.narrow-by.ensures.value)) c.set.ensures
