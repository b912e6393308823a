-- The replies are those of exchanges that many workers may have had.
use Rattle.std.proofs.Common.{◌<◌, sym, ◌∙◌, subst, arith}
use Rattle.std.proofs.lemmas.Result.{IfOk-weaker}
use Rattle.lp_script.specs.AnswersAll.{AnswersAll}
use Rattle.lp_script.specs.Dealt.{AreDealt}
use Rattle.lp_script.proofs.InAll.{had, had_held, all_answered}
use Rattle.lp_script.proofs.answer_all.answer_all.Goals as goal

pub collect-requires-clause-held : goal.collect-requires-clause-held
collect-requires-clause-held g c =
    let asks = c.args.asks.items in
    let parts = c.deal.new.parts in
    let now = c.on_threads.new.jobs in
    let n = now.len in
    let len = c.on_threads.ensures.len in
    let same = len ∙ c.deal.ensures.len in
    let took = c.in_ok-on_threads.ensures.turns in
    let some : 0 < n = omega (arith, c.requires.workers, c.in_ok-parts.ensures.len, same) in
    let many = sym parts.ok.0 ∙ sym len in
    let dealt = subst (λ m. AreDealt m asks parts.items) (sym same) c.in_ok-sessions.ensures.dealt in (
      had _ _ c.args.places n asks parts.items now.items took some many dealt,
      had_held _ _ c.args.places n asks parts.items now.items took some many dealt c.as_slice.result.now
          (c.as_slice.ensures.value ∙ c.in_ok-sessions.ensures.sessions),
    )

pub returns : goal.returns
returns g c =
    let asks = c.args.asks.items in
    let parts = c.deal.new.parts in
    let now = c.on_threads.new.jobs in
    let n = now.len in
    let len = c.on_threads.ensures.len in
    let same = len ∙ c.deal.ensures.len in
    let took = c.in_ok-on_threads.ensures.turns in
    let some : 0 < n = omega (arith, c.requires.workers, c.in_ok-parts.ensures.len, same) in
    let many = sym parts.ok.0 ∙ sym len in
    let dealt = subst (λ m. AreDealt m asks parts.items) (sym same) c.in_ok-sessions.ensures.dealt in
    let replied = c.collect.ensures.replies (had _ _ c.args.places n asks parts.items now.items took some many dealt)
    (had_held _ _ c.args.places n asks parts.items now.items took some many dealt c.as_slice.result.now
    (c.as_slice.ensures.value ∙ c.in_ok-sessions.ensures.sessions)) in
    IfOk-weaker c.collect.result _ (λ replies. AnswersAll c.args.workers c.args.places asks replies.items)
    (λ replies are.
    subst (λ m. AnswersAll m c.args.places asks replies.items) (same ∙ c.in_ok-parts.ensures.len)
    (all_answered _ _ c.args.places n asks parts.items now.items took some many dealt replies.items are))
    replied
