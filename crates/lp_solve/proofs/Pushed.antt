-- Lists of numbers of at most 127 bits.
use Rattle.std.proofs.Common.{◌≡◌, ℕ, ◌+◌, List, [], ◌∷◌, ◌++◌, All, sym, ap, subst, ◌∙◌}
use Rattle.std.proofs.lemmas.List.Elements.{All-push}
use Rattle.spec_exact.specs.Fraction.{ℚ}
use Rattle.spec_exact.specs.Narrow.{IsNarrow}
use Rattle.spec_exact.specs.Run.{made}
use Rattle.spec_exact.proofs.RunsInOrder.{made_more}

-- where a list has the numbers f 0 to f (n - 1), all within 127 bits, and so is f n, the list with f n appended has n +
-- 1
pub pushed : (f : ℕ → ℚ) (n : ℕ) (before after : List ℚ) (v : ℚ) → after ≡ before ++ v ∷ [] → IsNarrow v → v ≡ f n →
    (before ≡ made n f) × All IsNarrow before → (after ≡ made (n + 1) f) × All IsNarrow after
pushed f n before after v put narrow is so_far = (
  put ∙ ap (λ v. before ++ v ∷ []) is ∙ made_more n f before so_far.0,
  subst (All IsNarrow) (sym put) (All-push IsNarrow before v so_far.1 narrow),
)
