-- By the two judgements.
use Rattle.std.proofs.Common.{◌≡◌, ◌⊎◌, inl, inr, ℕ, None, refl}
use Rattle.spec_check.specs.Raw.{RawOf}
use Rattle.spec_certificate.specs.Text.{JudgementOf, Spelled, Refused, judge_by}
use Rattle.spec_certificate.proofs.certificate_texts_are_judged.Goals as goal

module _ {F : Type 0} where
  some_judgement : (v : JudgementOf F) → ((raw : RawOf F) × (v ≡ Spelled raw)) ⊎ ((n : ℕ) × (v ≡ Refused n))
  some_judgement (Spelled raw) = inl (raw, refl)
  some_judgement (Refused n) = inr (n, refl)

  one_certificate : (v : JudgementOf F) (raw other : RawOf F) → v ≡ Spelled raw → v ≡ Spelled other → raw ≡ other
  one_certificate v raw other e f = cc

  not_both : (v : JudgementOf F) (raw : RawOf F) (n : ℕ) → v ≡ Spelled raw → v ≡ Refused n → ⊥
  not_both v raw n e f = cc

  one_line : (v : JudgementOf F) (n k : ℕ) → v ≡ Refused n → v ≡ Refused k → n ≡ k
  one_line v n k e f = cc

pub returns : goal.returns
returns c = λ read lines.
    record {
      some = some_judgement (judge_by read None 1 lines);
      one_certificate = one_certificate (judge_by read None 1 lines);
      not_both = not_both (judge_by read None 1 lines);
      one_line = one_line (judge_by read None 1 lines);
    }
