-- The loops over the words of the shape and of the statuses.
use Rattle.std.proofs.Common.{◌≡◌, ◌+◌, ◌*◌, ◌++◌, length, take}
use Rattle.spec_exact.specs.Run.{made}
use Rattle.spec_board.specs.Words.{basis_code, word_from, shape_of}
use Rattle.lp_form.proofs.packing.pack.Given as goal

-- there are 49 words, of which the first i are those of the form's shape
abbrev pub invariant-loop-i : goal.invariant-loop-i
invariant-loop-i l = (length l.words ≡ 49) × (take l.i l.words ≡ take l.i (shape_of l.form))

-- there are 49 words, of which the first 25 are the form's shape and the next w hold the bits of the statuses
abbrev pub invariant-loop-w : goal.invariant-loop-w
invariant-loop-w l =
    (length l.words ≡ 49)
    × (take (25 + l.w) l.words ≡ shape_of l.form ++ made l.w (λ w. word_from (basis_code l.basis) (32 * w) 32))
