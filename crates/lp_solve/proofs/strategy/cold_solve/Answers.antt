-- An answer of one of them, or what the tableaus were refused.
use Rattle.std.proofs.Common.{arith, All, subst}
use Rattle.std.proofs.lemmas.List.{take_all}
use Rattle.lp_solve.specs.declared.strategy.Engine.TheVariants.{Factors}
use Rattle.lp_solve.specs.Strategy.{GaveUp}
use Rattle.lp_solve.proofs.Engines.{run_gave_up, one_more, none_answers, none_fits}
use Rattle.lp_solve.proofs.strategy.cold_solve.Goals as goal

pub loop-engine-preserved : goal.loop-engine-preserved
loop-engine-preserved c =
    one_more c.args.budget c.args.model.now c.args.form.now c.loop-engine.refused c.in_ok-end.end c.refusal-refused.result
    c.engines-engine-items.result c.loop-engine.engine-index Factors
    (omega (arith, c.loop-engine-test.true, c.engines-engine-items.type_inv)) c.loop-engine.invariant
    (run_gave_up c.args.budget c.args.model.now c.args.form.now _ c.in_ok-end.end c.in-Past.is c.in_ok-end.ensures.answer)
    c.refusal-refused.ensures

pub returns-clause-answer : goal.returns-clause-answer
returns-clause-answer c =
    none_answers c.args.budget c.args.model.now c.args.form.now c.engines-engine-items.result c.loop-engine.refused
    c.engines-engine-items.ensures
    (subst (All (GaveUp c.args.budget c.args.model.now c.args.form.now c.loop-engine.refused))
    (take_all c.loop-engine.engine-index c.engines-engine-items.result (omega (arith, c.loop-engine-test.false, c.engines-engine-items.type_inv)))
    c.loop-engine.invariant) c.requires

pub returns-clause-narrow : goal.returns-clause-narrow
returns-clause-narrow c =
    none_fits c.args.budget c.args.model.now c.args.form.now c.engines-engine-items.result c.loop-engine.refused
    c.engines-engine-items.ensures
    (subst (All (GaveUp c.args.budget c.args.model.now c.args.form.now c.loop-engine.refused))
    (take_all c.loop-engine.engine-index c.engines-engine-items.result (omega (arith, c.loop-engine-test.false, c.engines-engine-items.type_inv)))
    c.loop-engine.invariant)
