-- The loop over the words.
use Rattle.std.proofs.Common.{◌≡◌, ◌+◌, ◌*◌, [], ◌∷◌, ◌++◌, length, take}
use Rattle.spec_exact.specs.Run.{made}
use Rattle.spec_board.specs.Words.{form_code, word_from}
use Rattle.lp_form.proofs.packing.shape.Given as goal

-- there are 25 words, of which the first holds the sizes of the form and the next w the bits of its bounds
abbrev pub invariant-loop-w : goal.invariant-loop-w
invariant-loop-w l =
    (length l.words ≡ 25) × (take (1 + l.w) l.words
    ≡ ((65536 * l.form.rows + l.form.cols) ∷ []) ++ made l.w (λ w. word_from (form_code l.form) (32 * w) 32))
