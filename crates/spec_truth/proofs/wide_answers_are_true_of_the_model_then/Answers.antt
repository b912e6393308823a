use Rattle.std.proofs.Common.{◌≡◌, ℕ, List, ◌∷◌, Some, ◌⊎◌, inl, inr}
use Rattle.spec_exact.specs.Fraction.{ℚ}
use Rattle.spec_model.specs.Model.{Model}
use Rattle.spec_check.specs.declared.certificate.Known.{Known}
use Rattle.spec_check.specs.Certificate.{Holds}
use Rattle.spec_server.specs.WideLines.{wide_known_text}
use Rattle.spec_server.specs.Exchanges.{Exchange}
use Rattle.spec_truth.specs.Agree.{IsOpen}
use Rattle.spec_truth.specs.ModelThen.{model_then}
use Rattle.spec_truth.proofs.TrueRuns.{wide_then}
use Rattle.spec_truth.proofs.WideReplies.{IsKnownLine}
use Rattle.spec_truth.proofs.wide_answers_are_true_of_the_model_then.Goals as goal

-- where x's session has model m after the exchanges `before`, a line that is `OPEN` or true of m is `OPEN` or true of
-- the model that the session has
of_model : (before : List Exchange) (x : Exchange) (line : List ℕ) (m : Model) → model_then x.session before ≡ Some m →
    IsOpen line ⊎ IsKnownLine m line →
    IsOpen line ⊎ ((m : Model) × (what : Known ℚ) × (model_then x.session before ≡ Some m)
    × (line ≡ wide_known_text what) × Holds m what)
of_model before x line m held (inl h) = inl h
of_model before x line m held (inr h) = inr (m, h.what, held, h.is_line, h.holds)

pub returns : goal.returns
returns c = λ places before behind x line more alone is.
    let w = wide_then places before behind x (line ∷ more) alone is in of_model before x line w.0 w.1 w.2
