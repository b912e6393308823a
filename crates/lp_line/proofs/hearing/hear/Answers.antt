-- Where something is said, and where the reading stops.
use Rattle.std.proofs.Common.{◌∙◌, ap, refl, arith, Err, subst}
use Rattle.std.proofs.lemmas.Result.{err_from_is_err_and}
use Rattle.spec_text.specs.declared.line.Line.TheVariants.{Over}
use Rattle.lp_base.proofs.TakingLemmas.{gives_as}
use Rattle.lp_line.specs.Hearing.{Leads}
use Rattle.lp_line.proofs.HearTurns.{started, in_range, on_line, goes_down, says_so, stopped, too_long, wants, hears_as}
use Rattle.lp_line.proofs.HearTurns.{memory_no_fault}
use Rattle.lp_line.proofs.hearing.hear.Goals as goal

pub loop-line-init : goal.loop-line-init
loop-line-init g c = record { turn = started _ c.args.lines.now c.requires; read = omega arith; beside = refl }

pub returns-in_err-line-clause-heard : goal.returns-in_err-line-clause-heard
returns-in_err-line-clause-heard g c =
    let p = err_from_is_err_and c.from_residual.result c.from_residual.ensures.1 in
    hears_as _ _ _ _ _ c.from_residual.result _ (p.1 ∙ ap Err p.2)
    (stopped c.loop-line.invariant.turn _ _ (g.met.T.Stage.silent c.loop-line.stage) _ c.in_err-line.ensures.line)

pub returns-in-Over-clause-heard : goal.returns-in-Over-clause-heard
returns-in-Over-clause-heard g c =
    too_long c.loop-line.invariant.turn _ _ (g.met.T.Stage.silent c.loop-line.stage)
    (gives_as Over c.in-Over.is c.in_ok-line.ensures.line)

pub advance-step-requires : goal.advance-step-requires
advance-step-requires g c = in_range c.loop-line.invariant.turn

pub returns-in_err-next-in_default-clause-heard : goal.returns-in_err-next-in_default-clause-heard
returns-in_err-next-in_default-clause-heard g c =
    let p = err_from_is_err_and c.from_residual-in_err-next-in_default.result
    c.from_residual-in_err-next-in_default.ensures.1 in
    hears_as _ _ _ _ _ c.from_residual-in_err-next-in_default.result _ (p.1 ∙ ap Err p.2)
    (wants c.loop-line.invariant.turn _ _ c.in_ok-line.line c.in_ok-line.ensures.line c.in_default.not-Over)

pub returns-in_err-next-in_default-clause-read : goal.returns-in_err-next-in_default-clause-read
returns-in_err-next-in_default-clause-read g c =
    let p = err_from_is_err_and c.from_residual-in_err-next-in_default.result
    c.from_residual-in_err-next-in_default.ensures.1 in
    memory_no_fault _ (p.1 ∙ ap Err p.2)

pub returns-in-Says-clause-heard : goal.returns-in-Says-clause-heard
returns-in-Says-clause-heard g c =
    says_so c.loop-line.invariant.turn _ _
    (g.met.T.Stage.silent c.loop-line.stage) c.in_ok-line.line c.in_ok-line.ensures.line c.in_default.not-Over
    c.in-Says.said
    (subst (Leads g.T.Stage.says g.T.Stage.count c.loop-line.stage c.in_ok-line.line) c.in-Says.is
    c.in_ok-next-in_default.ensures)

pub loop-line-smaller : goal.loop-line-smaller
loop-line-smaller g c =
    let more = goes_down c.loop-line.invariant.turn _ _ c.in_ok-line.line c.in_ok-line.ensures.line
    c.in_default.not-Over c.in-On.next
    (subst (Leads g.T.Stage.says g.T.Stage.count c.loop-line.stage c.in_ok-line.line) c.in-On.is
    c.in_ok-next-in_default.ensures) in
    omega (arith, more.0, more.1)

pub loop-line-preserved : goal.loop-line-preserved
loop-line-preserved g c = record {
  turn = on_line c.loop-line.invariant.turn _ _ c.in_ok-line.line c.in_ok-line.ensures.line c.in_default.not-Over
      c.in-On.next
      (subst (Leads g.T.Stage.says g.T.Stage.count c.loop-line.stage c.in_ok-line.line) c.in-On.is
      c.in_ok-next-in_default.ensures);
  read = omega (arith, c.next.ensures.later);
  beside = c.next.ensures.beside ∙ c.loop-line.invariant.beside;
}
