-- What each exit gives, by the line so far.
use Rattle.std.proofs.Common.{◌∙◌, sym, refl, true, false, arith}
use Rattle.std.proofs.lemmas.Result.{err_from_is_err_and}
use Rattle.std.proofs.Math.Nat.{le_trans}
use Rattle.std.proofs.lemmas.Bool.{both_ways}
use Rattle.lp_base.proofs.LineSoFar.{SoFar-read, SoFar-run, gives_ended, gives_over, gives_last, gives_no_memory}
use Rattle.lp_base.proofs.LineSoFar.{gives_err, breaks_off, still_ahead, stays, has_some, has_none, run_with}
use Rattle.lp_base.proofs.lines.Lines.next.Goals as goal

pub returns-in_err-has_more-clause-held : goal.returns-in_err-has_more-clause-held
returns-in_err-has_more-clause-held g c =
    λ has. stays (c.loop-line.invariant.held has) (c.has_more.ensures.held (still_ahead c.loop-line.invariant.read has))

pub returns-in_err-has_more-clause-line : goal.returns-in_err-has_more-clause-line
returns-in_err-has_more-clause-line g c =
    let p = err_from_is_err_and c.from_residual.result c.from_residual.ensures.1 in
    let fault = c.in_err-has_more.ensures.moved in
    gives_err c.from_residual.result p.0 p.1 p.2 (breaks_off (g.S.Source.left c.has_more.new.source)
    c.loop-line.invariant.read fault.0 fault.1 fault.2 fault.3 c.loop-line.invariant.bound)

pub returns-then-is_full-clause-line : goal.returns-then-is_full-clause-line
returns-then-is_full-clause-line g c =
    let more = c.in_ok-has_more.ensures.moved in
    let some = has_some _ _ _ _ _ c.if-branch.true more.4 in
    let s = SoFar-read c.loop-line.invariant.read more.0 more.1 more.2 more.3 (some.2 ∙ sym some.1) in
    gives_over s some.2 (c.if-is_full.ensures.full.0 refl) some.0 c.has_more.ensures.near

pub returns-then-is_full-clause-held : goal.returns-then-is_full-clause-held
returns-then-is_full-clause-held g c =
    λ has. stays (c.loop-line.invariant.held has) (c.has_more.ensures.held (still_ahead c.loop-line.invariant.read has))

pub returns-in_err-take_run-clause-line : goal.returns-in_err-take_run-clause-line
returns-in_err-take_run-clause-line g c =
    let more = c.in_ok-has_more.ensures.moved in
    let some = has_some _ _ _ _ _ c.if-branch.true more.4 in
    let s = SoFar-read c.loop-line.invariant.read more.0 more.1 more.2 more.3 (some.2 ∙ sym some.1) in
    let p = err_from_is_err_and c.from_residual-in_err-take_run.result c.from_residual-in_err-take_run.ensures.1 in
    gives_err c.from_residual-in_err-take_run.result p.0 p.1 p.2
    (gives_no_memory c.take_run.new.self s some.2 c.has_more.ensures.near)

pub returns-in_err-take_run-clause-held : goal.returns-in_err-take_run-clause-held
returns-in_err-take_run-clause-held g c =
    λ has. stays (c.loop-line.invariant.held has) (c.has_more.ensures.held (still_ahead c.loop-line.invariant.read has))

pub returns-then-branch-2-clause-line : goal.returns-then-branch-2-clause-line
returns-then-branch-2-clause-line g c =
    let more = c.in_ok-has_more.ensures.moved in
    let some = has_some _ _ _ _ _ c.if-branch.true more.4 in
    let s = SoFar-read c.loop-line.invariant.read more.0 more.1 more.2 more.3 (some.2 ∙ sym some.1) in
    gives_ended s (run_with true c.in_ok-take_run.ensures c.if-branch-2.true)
    some.2 c.has_more.ensures.near c.ended_line.result c.ended_line.ensures

pub returns-then-branch-2-clause-held : goal.returns-then-branch-2-clause-held
returns-then-branch-2-clause-held g c =
    λ has. stays (c.loop-line.invariant.held has) (c.has_more.ensures.held (still_ahead c.loop-line.invariant.read has))

pub loop-line-preserved : goal.loop-line-preserved
loop-line-preserved g c =
    let more = c.in_ok-has_more.ensures.moved in
    let some = has_some _ _ _ _ _ c.if-branch.true more.4 in
    let s = SoFar-read c.loop-line.invariant.read more.0 more.1 more.2 more.3 (some.2 ∙ sym some.1) in
    let run = run_with false c.in_ok-take_run.ensures c.if-branch-2.false in
    record {
      read = SoFar-run s run;
      later = omega (arith, c.has_more.ensures.cause.later);
      idle = λ e. absurd (both_ways _ some.1 (c.loop-line.invariant.read.ended ∙ e));
      held =
          λ has. stays (c.loop-line.invariant.held has)
          (c.has_more.ensures.held (still_ahead c.loop-line.invariant.read has));
      bound = run.bound;
      beside = cc;
    }

pub returns-clause-line : goal.returns-clause-line
returns-clause-line g c =
    let more = c.in_ok-has_more.ensures.moved in
    let none = has_none _ _ _ _ _ c.if-branch.false more.4 in
    gives_last (g.S.Source.left c.has_more.new.source) c.loop-line.invariant.read more.0
    more.1 more.2 more.3 none c.loop-line.invariant.bound c.loop-line.invariant.idle
    c.last_line.result c.last_line.ensures.some c.last_line.ensures.none

pub returns-clause-held : goal.returns-clause-held
returns-clause-held g c =
    λ has. stays (c.loop-line.invariant.held has) (c.has_more.ensures.held (still_ahead c.loop-line.invariant.read has))

pub returns-in_err-has_more-clause-later : goal.returns-in_err-has_more-clause-later
returns-in_err-has_more-clause-later g c = le_trans c.loop-line.invariant.later c.has_more.ensures.cause.later

pub returns-in_err-has_more-clause-beside : goal.returns-in_err-has_more-clause-beside
returns-in_err-has_more-clause-beside g c = c.has_more.ensures.beside ∙ c.loop-line.invariant.beside

pub returns-then-is_full-clause-later : goal.returns-then-is_full-clause-later
returns-then-is_full-clause-later g c = le_trans c.loop-line.invariant.later c.has_more.ensures.cause.later

pub returns-then-is_full-clause-beside : goal.returns-then-is_full-clause-beside
returns-then-is_full-clause-beside g c = c.has_more.ensures.beside ∙ c.loop-line.invariant.beside

pub returns-in_err-take_run-clause-later : goal.returns-in_err-take_run-clause-later
returns-in_err-take_run-clause-later g c = le_trans c.loop-line.invariant.later c.has_more.ensures.cause.later

pub returns-in_err-take_run-clause-beside : goal.returns-in_err-take_run-clause-beside
returns-in_err-take_run-clause-beside g c = c.has_more.ensures.beside ∙ c.loop-line.invariant.beside

pub returns-then-branch-2-clause-later : goal.returns-then-branch-2-clause-later
returns-then-branch-2-clause-later g c = le_trans c.loop-line.invariant.later c.has_more.ensures.cause.later

pub returns-then-branch-2-clause-beside : goal.returns-then-branch-2-clause-beside
returns-then-branch-2-clause-beside g c = c.has_more.ensures.beside ∙ c.loop-line.invariant.beside

pub returns-clause-later : goal.returns-clause-later
returns-clause-later g c = le_trans c.loop-line.invariant.later c.has_more.ensures.cause.later

pub returns-clause-beside : goal.returns-clause-beside
returns-clause-beside g c = c.has_more.ensures.beside ∙ c.loop-line.invariant.beside

pub returns-in_err-has_more-clause-ended : goal.returns-in_err-has_more-clause-ended
returns-in_err-has_more-clause-ended g c =
    λ e. absurd (both_ways _ c.in_err-has_more.ensures.moved.2 (c.loop-line.invariant.read.ended ∙ e))

pub returns-in_err-has_more-clause-read : goal.returns-in_err-has_more-clause-read
returns-in_err-has_more-clause-read g c =
    λ e. omega (arith, c.in_err-has_more.ensures.cause.failed, c.loop-line.invariant.later)

pub returns-then-is_full-clause-ended : goal.returns-then-is_full-clause-ended
returns-then-is_full-clause-ended g c =
    λ e. absurd (both_ways _ (has_some _ _ _ _ _ c.if-branch.true c.in_ok-has_more.ensures.moved.4).1
    (c.loop-line.invariant.read.ended ∙ e))

pub returns-in_err-take_run-clause-ended : goal.returns-in_err-take_run-clause-ended
returns-in_err-take_run-clause-ended g c =
    λ e. absurd (both_ways _ (has_some _ _ _ _ _ c.if-branch.true c.in_ok-has_more.ensures.moved.4).1
    (c.loop-line.invariant.read.ended ∙ e))

pub returns-then-branch-2-clause-ended : goal.returns-then-branch-2-clause-ended
returns-then-branch-2-clause-ended g c =
    λ e. absurd (both_ways _ (has_some _ _ _ _ _ c.if-branch.true c.in_ok-has_more.ensures.moved.4).1
    (c.loop-line.invariant.read.ended ∙ e))
