-- A refused solve, and the multipliers.
use Rattle.std.proofs.Common.{length, sym, ap, ◌∙◌}
use Rattle.std.proofs.lemmas.Result.{err_from_is_err_and}
use Rattle.spec_exact.proofs.RunsInOrder.{length-made}
use Rattle.spec_exact.specs.Run.{refused_as}
use Rattle.spec_simplex.specs.declared.ends.RunStop.TheVariants as cause
use Rattle.spec_factor.specs.Revised.{Revised}
use Rattle.lp_revised.proofs.Signed.{multipliers_are}
use Rattle.lp_revised.proofs.state.Revised.multipliers.Goals as goal

pub btran-requires : goal.btran-requires
btran-requires c =
    ap length c.in_ok-list.ensures ∙ length-made c.args.self.now.bare.rows _
    ∙ sym (c.self.invariant.all_places ∙ ap (λ (s : Revised). s.bare.rows) c.self.view_is)

pub returns-in_err-btran-clause-run : goal.returns-in_err-btran-clause-run
returns-in_err-btran-clause-run c =
    let p = err_from_is_err_and c.from_residual-in_err-btran.result c.from_residual-in_err-btran.ensures.1 in
    rw (p.1, p.2)
    (ap (refused_as cause.Past)
    (multipliers_are c.args.starts.now c.args.costs.now c.args.self.now (length c.self.inside.factors.basic)
    c.self.inside.factors.pairs c.in_ok-list.list _
    (c.self.invariant.all_places ∙ ap (λ (s : Revised). s.bare.rows) c.self.view_is)
    (ap (λ (s : Revised). s.pairs) c.self.view_is) c.in_ok-list.ensures c.in_err-btran.ensures.run))

pub returns-clause-run : goal.returns-clause-run
returns-clause-run c =
    ap (refused_as cause.Past)
    (multipliers_are c.args.starts.now c.args.costs.now c.args.self.now (length c.self.inside.factors.basic)
    c.self.inside.factors.pairs c.in_ok-list.list _
    (c.self.invariant.all_places ∙ ap (λ (s : Revised). s.bare.rows) c.self.view_is)
    (ap (λ (s : Revised). s.pairs) c.self.view_is) c.in_ok-list.ensures c.in_ok-btran.ensures.run)

pub returns-clause-all : goal.returns-clause-all
returns-clause-all c =
    c.in_ok-btran.ensures.all ∙ ap length c.in_ok-list.ensures ∙ length-made c.args.self.now.bare.rows _
