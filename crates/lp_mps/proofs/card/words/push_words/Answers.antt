-- At the end all parts were seen.
use Rattle.std.proofs.Common.{rules, List, ◌∷◌, [], ◌++◌, ◌+◌, length, ℕ, map, Bor, ap, sym, ◌∙◌}
use Rattle.std.specs.List.{filter}
use Rattle.std.proofs.lemmas.List.{map-append}
use Rattle.spec_text.specs.Words.{has_bytes, words_of}
use Rattle.spec_mps.specs.Fields.{Fields, numbered_from, field_of, word_fields}
use Rattle.lp_base.proofs.BlankParts.{blank_parts_all}
use Rattle.lp_mps.proofs.Numbered.{next_word}
use Rattle.lp_mps.proofs.card.words.push_words.Goals as goal

pub returns : goal.returns
unfolding word_fields words_of
returns c =
    let split = c.split-word-items.ensures in
    let seen = blank_parts_all c.args.line.now c.into_iter-word-iterator.ensures.into_iter_gives
    split.rest split.done split.closure (λ x b q k. search rules)
    c.loop-word.yielded _ _ _ c.loop-word.yielded_by c.in-None.is c.next.ensures.steps in
    c.loop-word.invariant ∙ ap (λ (parts : List (List ℕ)). numbered_from 1 (filter has_bytes parts)) seen

pub loop-word-preserved : goal.loop-word-preserved
loop-word-preserved c =
    let text = λ (x : Bor (List ℕ)). x.now in
    let word = c.in-Some.word in
    c.in_ok-push_word.ensures
    ∙ ap (λ (fields : Fields). fields ++ field_of (length fields + 1) word.now) c.loop-word.invariant
    ∙ next_word (map text c.loop-word.yielded) word.now
    ∙ ap (λ (parts : List (List ℕ)). numbered_from 1 (filter has_bytes parts))
    (sym (map-append text c.loop-word.yielded (word ∷ [])))
