-- Written cards one after another.
use Rattle.std.proofs.Common.{◌+◌, ◌++◌, length, ap, ◌∙◌, append_assoc, length-append, arith}
use Rattle.std.proofs.lemmas.List.{map-append}
use Rattle.spec_text.specs.declared.line.Line.TheVariants.{Text}
use Rattle.spec_model.specs.Kept.{usual_limits}
use Rattle.spec_mps.specs.declared.style.Style.{Style}
use Rattle.spec_mps.specs.Reader.{State}
use Rattle.spec_mps.specs.Steps.{judge}
use Rattle.spec_mps.specs.Written.{WrittenCards, line_text}
use Rattle.spec_mps.proofs.WrittenSteps.{Goes, card_lines}

-- where some cards lead from s to t, and others from t to u, all of them lead from s to u
pub goes_append : (style : Style) (s t u : State) (cs ds : WrittenCards) → Goes style s cs t → Goes style t ds u →
    Goes style s (cs ++ ds) u
goes_append style s t u cs ds h k =
    record {
      goes = λ n rest.
          ap (λ ls. judge usual_limits style s n (ls ++ rest)) (map-append (λ card. Text (line_text style card)) cs ds)
          ∙ ap (λ ls. judge usual_limits style s n ls) (append_assoc (card_lines style cs) (card_lines style ds) rest)
          ∙ h.goes n (card_lines style ds ++ rest)
          ∙ k.goes (n + length cs) rest
          ∙ ap (λ i. judge usual_limits style u i rest) (omega (arith, length-append cs ds));
    }
