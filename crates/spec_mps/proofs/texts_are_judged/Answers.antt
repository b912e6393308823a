use Rattle.std.proofs.Common.{◌≡◌, ◌⊎◌, inl, inr, ℕ, refl}
use Rattle.spec_model.specs.Model.{Model}
use Rattle.spec_mps.specs.declared.fault.Code.{Code}
use Rattle.spec_mps.specs.Reader.{start}
use Rattle.spec_mps.specs.Steps.{Verdict, Spelled, Refused, judge}
use Rattle.spec_mps.proofs.texts_are_judged.Goals as goal

some_verdict : (v : Verdict) → ((m : Model) × (v ≡ Spelled m)) ⊎ ((n : ℕ) × (fault : Code) × (v ≡ Refused n fault))
some_verdict (Spelled m) = inl (m, refl)
some_verdict (Refused n fault) = inr (n, fault, refl)

one_model : (v : Verdict) (m o : Model) → v ≡ Spelled m → v ≡ Spelled o → m ≡ o
one_model v m o e f = cc

not_both : (v : Verdict) (m : Model) (n : ℕ) (fault : Code) → v ≡ Spelled m → v ≡ Refused n fault → ⊥
not_both v m n fault e f = cc

one_line : (v : Verdict) (n k : ℕ) (fault other : Code) → v ≡ Refused n fault → v ≡ Refused k other → n ≡ k
one_line v n k fault other e f = cc

one_fault : (v : Verdict) (n k : ℕ) (fault other : Code) → v ≡ Refused n fault → v ≡ Refused k other → fault ≡ other
one_fault v n k fault other e f = cc

pub returns : goal.returns
returns c = λ limits style lines.
    record {
      some = some_verdict (judge limits style start 1 lines);
      one_model = one_model (judge limits style start 1 lines);
      not_both = not_both (judge limits style start 1 lines);
      one_line = one_line (judge limits style start 1 lines);
      one_fault = one_fault (judge limits style start 1 lines);
    }
