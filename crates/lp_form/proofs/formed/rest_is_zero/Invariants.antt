-- The loop over the columns.
use Rattle.std.proofs.Common.{◌≡◌, ◌<◌, ◌≤◌, ℕ}
use Rattle.spec_board.specs.Words.{columns_of, code_at, bounds_at}
use Rattle.lp_form.proofs.formed.rest_is_zero.Given as goal

-- the bits of all columns from the count of the words' columns on, below column c, are 0
abbrev pub invariant-loop-c : goal.invariant-loop-c
invariant-loop-c l = (c : ℕ) → columns_of l.words ≤ c → c < l.c → (bounds_at l.words c ≡ 0) × (code_at 25 l.words c ≡ 0)
