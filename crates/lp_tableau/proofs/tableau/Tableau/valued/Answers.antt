-- A refused value, a place of the list, and all values.
use Rattle.std.proofs.Common.{sym, ap, Some, arith}
use Rattle.std.proofs.lemmas.Result.{err_from_is_err_and}
use Rattle.spec_exact.specs.Run.{refused_as}
use Rattle.spec_exact.specs.Narrow.{number_limit}
use Rattle.spec_simplex.specs.declared.ends.StartStop.TheVariants as start
use Rattle.lp_tableau.proofs.Based.{values_refused, values_filled}
use Rattle.lp_tableau.proofs.tableau.Tableau.valued.Goals as goal

pub returns-in_err-value-clause-err : goal.returns-in_err-value-clause-err
returns-in_err-value-clause-err c =
    let p = err_from_is_err_and c.from_residual-in_err-value.result c.from_residual-in_err-value.ensures.1 in
    rw (p.1, p.2) (ap (refused_as start.Past) (values_refused (Some number_limit) c.args.self.now c.loop-i.i
    c.loop-i.values.items _ (omega (arith, c.loop-i-test.true, c.rows-i-end.ensures.value)) c.loop-i.invariant.done
    (sym c.in_err-value.ensures)))

pub index_mut-requires : goal.index_mut-requires
index_mut-requires c = omega (arith, c.basic.ensures.inside, c.loop-i.invariant.len, c.loop-i.values.ok.0)

pub returns-clause-ok : goal.returns-clause-ok
returns-clause-ok c =
    values_filled (Some number_limit) c.args.self.now c.loop-i.i c.loop-i.values.items
    (omega (arith, c.loop-i-test.false, c.loop-i.auto.i-end, c.rows-i-end.ensures.value)) c.loop-i.invariant.done

pub returns-clause-len : goal.returns-clause-len
returns-clause-len c = c.loop-i.invariant.len
