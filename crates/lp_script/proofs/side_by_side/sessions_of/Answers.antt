-- One session more, and all of them.
use Rattle.std.proofs.Common.{ap, ◌+◌, ◌∙◌, map}
use Rattle.std.proofs.lemmas.List.{take_all}
use Rattle.lp_script.proofs.Replying.{one-more-read}
use Rattle.lp_script.proofs.side_by_side.sessions_of.Goals as goal

pub loop-asked-preserved : goal.loop-asked-preserved
loop-asked-preserved c = (
  one-more-read (λ asked. asked.session) c.args.asks.now c.loop-asked.asked-index c.asked-item.result
      c.loop-asked.sessions.items c.push_reserved.new.self.items c.loop-asked-test.true c.asked-item.is
      c.loop-asked.invariant.0 c.push_reserved.ensures.items,
  c.push_reserved.ensures.len ∙ ap (λ n. n + 1) c.loop-asked.invariant.1,
  c.push_reserved.ensures.capacity ∙ c.loop-asked.invariant.2,
)

pub returns : goal.returns
returns c =
    c.loop-asked.invariant.0
    ∙ ap (map (λ asked. asked.session)) (take_all c.loop-asked.asked-index c.args.asks.now c.loop-asked-test.false)
