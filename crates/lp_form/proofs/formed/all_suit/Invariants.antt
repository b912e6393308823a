-- The loop over the columns.
use Rattle.std.proofs.Common.{◌≡◌, ◌<◌, ℕ, true}
use Rattle.spec_board.specs.Words.{suits, status_at, bounds_at}
use Rattle.lp_form.proofs.formed.all_suit.Given as goal

-- the status of each of the first c columns is one that its bounds allow
abbrev pub invariant-loop-c : goal.invariant-loop-c
invariant-loop-c l = (c : ℕ) → c < l.c → suits (status_at l.words c) (bounds_at l.words c) ≡ true
