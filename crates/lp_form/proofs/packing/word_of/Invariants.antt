-- The loop over the columns, from the last to the first.
use Rattle.std.proofs.Common.{◌≡◌, ◌+◌, ◌-◌}
use Rattle.spec_board.specs.Words.{word_from}
use Rattle.lp_form.specs.Coded.{code_of}
use Rattle.lp_form.proofs.packing.word_of.Given as goal

-- the word holds the bits of the columns from k on, of its 32, the first of them in the lowest bits
abbrev pub invariant-loop-k : goal.invariant-loop-k
invariant-loop-k l = l.word ≡ word_from (code_of l.columns) (l.first + l.k) (32 - l.k)
