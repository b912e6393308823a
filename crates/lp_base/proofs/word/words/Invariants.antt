-- The words of the parts so far.
use Rattle.std.proofs.Common.{◌≡◌, map}
use Rattle.std.specs.List.{filter}
use Rattle.spec_text.specs.Words.{has_bytes}
use Rattle.lp_base.proofs.word.words.Given as goal

abbrev pub invariant-loop-word : goal.invariant-loop-word
invariant-loop-word l = l.words ≡ filter has_bytes (map (λ x. x.now) l.yielded)
