-- A reply before a look, one after it, and one after a put.
use Rattle.std.proofs.Common.{Break, inr, refl, ap, ◌∙◌, subst}
use Rattle.spec_server.specs.declared.asks.Reply.TheVariants as reply
use Rattle.spec_server.specs.Halves.{Standing}
use Rattle.basis_board.proofs.Timing.{notes_none, notes_on}
use Rattle.lp_session.specs.Boarding.{AddsStep}
use Rattle.lp_session.proofs.Boards.{found_fits_form, begins_with, works_with, replies_so, ends_so, publishes_so}
use Rattle.lp_session.proofs.Boards.{calls_look, calls_both, rests_fit}
use Rattle.lp_session.proofs.session.Session.step.Goals as goal

pub solve-requires-clause-held : goal.solve-requires-clause-held
solve-requires-clause-held c =
    (begins_with c.self.inside.holding c.args.ask _ c.in-Continue.form _ c.begin.ensures c.in-Continue.is).2

pub solve-requires-clause-fits : goal.solve-requires-clause-fits
solve-requires-clause-fits c =
    found_fits_form c.in-Continue.form c.shape-shape.result _ _ c.look.result _ c.shape-shape.ensures c.look.ensures.look
    c.found_by-found.ensures

pub conclude-worked-requires-clause-held : goal.conclude-worked-requires-clause-held
conclude-worked-requires-clause-held c =
    (begins_with c.self.inside.holding c.args.ask _ c.in-Continue.form _ c.begin.ensures c.in-Continue.is).2

pub publish-put-requires-clause-formed : goal.publish-put-requires-clause-formed
publish-put-requires-clause-formed c =
    (works_with _ c.found_by-found.result _ c.in-Continue-worked.pending _ c.conclude-worked.ensures
    c.in-Continue-worked.is).formed

pub keep-requires : goal.keep-requires
keep-requires c =
    (works_with _ c.found_by-found.result _ c.in-Continue-worked.pending _ c.conclude-worked.ensures
    c.in-Continue-worked.is).fits

pub returns-in-Break-clause-step : goal.returns-in-Break-clause-step
returns-in-Break-clause-step c =
    subst
    (λ (s : Standing). AddsStep s.state c.args.ask c.args.pass.now.view c.in-Break.reply c.begin.new.self
    c.args.pass.now.view) c.self.view_is
    (replies_so c.self.inside.holding c.args.ask c.begin.result _ _ _ c.begin.ensures c.in-Break.is)

pub returns-in-Err-clause-step : goal.returns-in-Err-clause-step
returns-in-Err-clause-step c =
    subst
    (λ (s : Standing). AddsStep s.state c.args.ask c.args.pass.now.view reply.Memory c.begin.new.self
    c.look.new.pass.view) c.self.view_is
    (ends_so c.self.inside.holding c.args.ask c.in-Continue.form _
    (begins_with c.self.inside.holding c.args.ask _ c.in-Continue.form _ c.begin.ensures c.in-Continue.is)
    c.args.pass.now.view c.shape-shape.result c.shape-shape.ensures _ c.look.result c.look.ensures.look _
    c.found_by-found.ensures
    (Break reply.Memory) reply.Memory _ (inr refl) refl)

pub returns-in-Break-worked-clause-step : goal.returns-in-Break-worked-clause-step
returns-in-Break-worked-clause-step c =
    subst
    (λ (s : Standing). AddsStep s.state c.args.ask c.args.pass.now.view c.in-Break-worked.reply c.conclude-worked.new.self
    c.look.new.pass.view) c.self.view_is
    (ends_so c.self.inside.holding c.args.ask c.in-Continue.form _
    (begins_with c.self.inside.holding c.args.ask _ c.in-Continue.form _ c.begin.ensures c.in-Continue.is)
    c.args.pass.now.view c.shape-shape.result c.shape-shape.ensures _ c.look.result c.look.ensures.look _
    c.found_by-found.ensures
    c.conclude-worked.result _ _ c.conclude-worked.ensures c.in-Break-worked.is)

pub returns-clause-step : goal.returns-clause-step
returns-clause-step c =
    subst
    (λ (s : Standing). AddsStep s.state c.args.ask c.args.pass.now.view c.keep.result c.keep.new.self
    c.publish-put.new.pass.view) c.self.view_is
    (publishes_so c.self.inside.holding c.args.ask c.in-Continue.form _
    (begins_with c.self.inside.holding c.args.ask _ c.in-Continue.form _ c.begin.ensures c.in-Continue.is)
    c.args.pass.now.view c.shape-shape.result c.shape-shape.ensures _ c.look.result c.look.ensures.look _
    c.found_by-found.ensures
    c.in-Continue-worked.pending _
    (works_with _ c.found_by-found.result _ c.in-Continue-worked.pending _ c.conclude-worked.ensures
    c.in-Continue-worked.is)
    _ c.publish-put.result c.publish-put.ensures.put _ _ c.keep.ensures.reply c.keep.ensures.kept)

pub returns-in-Err-clause-calls : goal.returns-in-Err-clause-calls
returns-in-Err-clause-calls c = calls_look _ c.look.result _ _ c.look.ensures.look c.look.ensures.consistent

pub returns-in-Break-worked-clause-calls : goal.returns-in-Break-worked-clause-calls
returns-in-Break-worked-clause-calls c =
    calls_look _ c.look.result _ _ c.look.ensures.look c.look.ensures.consistent

pub returns-clause-calls : goal.returns-clause-calls
returns-clause-calls c =
    calls_both _ c.look.result _ c.publish-put.result _ _ _ c.look.ensures.look c.look.ensures.consistent
    (works_with _ c.found_by-found.result _ c.in-Continue-worked.pending _ c.conclude-worked.ensures
    c.in-Continue-worked.is).formed
    c.publish-put.ensures.put

pub returns-in-Break-clause-notes : goal.returns-in-Break-clause-notes
returns-in-Break-clause-notes c = record { notes = notes_none _ _ refl; were_true = λ h. h }

pub returns-in-Err-clause-notes : goal.returns-in-Err-clause-notes
returns-in-Err-clause-notes c = record { notes = c.look.ensures.moments; were_true = λ h. c.look.ensures.then }

pub returns-in-Break-worked-clause-notes : goal.returns-in-Break-worked-clause-notes
returns-in-Break-worked-clause-notes c =
    record { notes = c.look.ensures.moments; were_true = λ h. c.look.ensures.then }

pub returns-clause-notes : goal.returns-clause-notes
returns-clause-notes c =
    record {
      notes = notes_on _ _ _ c.look.ensures.moments c.publish-put.ensures.moments;
      were_true = λ h. c.publish-put.ensures.then;
    }

-- ---- it awaits nothing

pub invariant_of-self-in-Break-worked : goal.invariant_of-self-in-Break-worked
invariant_of-self-in-Break-worked c =
    rests_fit _ c.self.inside.awaited (ap (λ (s : Standing). s.awaits) c.self.view_is ∙ c.requires.rests)

pub invariant_of-self-2 : goal.invariant_of-self-2
invariant_of-self-2 c =
    rests_fit _ c.self.inside.awaited (ap (λ (s : Standing). s.awaits) c.self.view_is ∙ c.requires.rests)
