-- At the end all parts were seen.
use Rattle.std.proofs.Common.{rules, List, ℕ, ap, ◌∙◌}
use Rattle.std.specs.List.{filter}
use Rattle.spec_text.specs.Words.{has_bytes, words_of}
use Rattle.lp_base.proofs.BlankParts.{blank_parts_all}
use Rattle.lp_base.proofs.word.words.Goals as goal

pub returns : goal.returns
unfolding words_of
returns c =
    let split = c.split-word-items.ensures in
    let seen = blank_parts_all c.args.line.now c.into_iter-word-iterator.ensures.into_iter_gives
    split.rest split.done split.closure (λ x b q k. search rules)
    c.loop-word.yielded _ _ _ c.loop-word.yielded_by c.in-None.is c.next.ensures.steps in
    c.loop-word.invariant ∙ ap (λ (words : List (List ℕ)). filter has_bytes words) seen
