-- Draws: numbers below 2 ^ 15 that look random and are the same everywhere. They are those of the portable `rand` that
-- the C standard gives as an example (ISO/IEC 9899:2011, 7.22.2), whose states are taken modulo 2 ^ 31.
use Rattle.std.specs.Prelude.{ℕ, zero, suc, ◌+◌, ◌*◌, ◌/◌, ◌%◌, ◌^◌, List, map}
use Rattle.std.specs.List.{range_with_len}

-- the generator's state after a draw at state s
unfoldable pub next : ℕ → ℕ
next s = (1103515245 * s + 12345) % 2 ^ 31

-- the number that the generator draws at state s: the next state divided by 65,536
unfoldable pub draw : ℕ → ℕ
draw s = next s / 65536

-- the generator's state after n draws from state s on
abbrev pub after : ℕ → ℕ → ℕ
after zero s = s
after (suc n) s = next (after n s)

-- the first n numbers that the generator draws from state s on
abbrev pub draws : ℕ → ℕ → List ℕ
draws n s = map (λ k. draw (after k s)) (range_with_len 0 n)
