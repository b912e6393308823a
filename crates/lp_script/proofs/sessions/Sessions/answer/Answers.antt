-- The session that is asked takes the step. The pass of the board is still the only one, and the places answer what it
-- read.
use Rattle.std.proofs.Common.{◌∙◌, arith, set, subst}
use Rattle.lp_script.specs.Answer.{Together, states_of, Steps}
use Rattle.lp_script.specs.Only.{sharing_of}
use Rattle.lp_script.proofs.PassReads.{shares_so, step_goes}
use Rattle.lp_script.proofs.Together.{rests, rests_more, steps, answers_ok, answers_part}
use Rattle.lp_script.proofs.sessions.Sessions.answer.Goals as goal

pub step-reply-requires-clause-rests : goal.step-reply-requires-clause-rests
step-reply-requires-clause-rests g c =
    rests c.self.inside.all.items c.args.asked.session c.index_mut.result.now
    (omega (arith, c.requires, c.self.invariant.0)) c.index_mut.ensures.value c.self.invariant.1

pub step-reply-requires-clause-board : goal.step-reply-requires-clause-board
step-reply-requires-clause-board g c = c.self.invariant.2.of_board

pub invariant_of-self : goal.invariant_of-self
invariant_of-self g c =
    let u = c.step-reply.new.pass.view in
    let only = c.self.invariant.2 in
    let calls = c.step-reply.ensures in
    let all =
    rests_more c.self.inside.all.items c.args.asked.session c.step-reply.new.self calls.rests
    (c.self.invariant.0, c.self.invariant.1) in (
      all.0,
      all.1,
      record {
        of_board = calls.board ∙ only.of_board;
        whole = calls.share ∙ only.whole;
        consistent = calls.consistent only.consistent;
        in_order =
            (step_goes _ _ c.self.inside.pass.view _ _ u calls.step calls.calls only.consistent only.whole only.in_order
            (calls.consistent only.consistent)).order;
      },
    )

pub returns-clause-ok : goal.returns-clause-ok
returns-clause-ok g c =
    let all = c.self.inside.all.items in
    let v = c.self.inside.pass.view in
    let u = c.step-reply.new.pass.view in
    let only = c.self.invariant.2 in
    let calls = c.step-reply.ensures in
    let new : Together =
    record { states = states_of (set all c.args.asked.session c.step-reply.new.self); sharing = sharing_of u } in
    let stepped =
    subst (λ (old : Together). Steps old new c.args.asked c.step-reply.result) c.self.view_is
    (steps all c.args.asked (omega (arith, c.requires, c.self.invariant.0)) c.step-reply.new.self (sharing_of v)
    (sharing_of u) c.step-reply.result c.index_mut.result.now c.index_mut.ensures.value
    (shares_so _ _ v _ _ u calls.step
    (step_goes _ _ v _ _ u calls.step calls.calls only.consistent only.whole only.in_order
    (calls.consistent only.consistent)))) in
    answers_ok c.write_reply-written.result _ _ c.args.self.now new c.args.asked c.step-reply.result stepped
    c.write_reply-written.ensures.ok

pub returns-clause-part : goal.returns-clause-part
returns-clause-part g c =
    let all = c.self.inside.all.items in
    let v = c.self.inside.pass.view in
    let u = c.step-reply.new.pass.view in
    let only = c.self.invariant.2 in
    let calls = c.step-reply.ensures in
    let new : Together =
    record { states = states_of (set all c.args.asked.session c.step-reply.new.self); sharing = sharing_of u } in
    let stepped =
    subst (λ (old : Together). Steps old new c.args.asked c.step-reply.result) c.self.view_is
    (steps all c.args.asked (omega (arith, c.requires, c.self.invariant.0)) c.step-reply.new.self (sharing_of v)
    (sharing_of u) c.step-reply.result c.index_mut.result.now c.index_mut.ensures.value
    (shares_so _ _ v _ _ u calls.step
    (step_goes _ _ v _ _ u calls.step calls.calls only.consistent only.whole only.in_order
    (calls.consistent only.consistent)))) in
    answers_part _ _ c.args.self.now new c.args.asked c.step-reply.result stepped c.write_reply-written.ensures.part
