-- Two entries so far are two entries in all.
use Rattle.std.proofs.Common.{◌≡◌, suc, true, false, sym, ap₂, ◌∙◌, arith}
use Rattle.spec_model.specs.Model.{width}
use Rattle.spec_presolve.specs.Choose.{in_row_below, and_next}
use Rattle.lp_presolve.proofs.Firsts.{more_stays}
use Rattle.lp_presolve.proofs.rows.in_row.Goals as goal
use Rattle.lp_presolve.proofs.rows.in_row.Goals.{in-More, in_default}

pub returns-then-matches : goal.returns-then-matches
returns-then-matches c =
    let m = c.args.model.now in
    let e : c.and_next-found.result ≡ in_row_below m c.args.i (suc c.loop-j.j) =
    c.and_next-found.ensures ∙ ap₂ (λ found a. and_next found c.loop-j.j a) c.loop-j.invariant c.entry.ensures in
    elim c.match-matches.branch [
      | in-More w ↦ sym (more_stays m c.args.i (suc c.loop-j.j) (width m)
          (omega (arith, c.loop-j-test.true, c.cols-j-end.ensures.value)) (sym e ∙ w.in-More.is))
      | in_default w ↦ absurd (let z : true ≡ false = sym c.if-matches.true ∙ w.matches-is in cc)
    ]
