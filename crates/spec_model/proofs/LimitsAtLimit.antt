-- A limit of a row at a limit of numbers: the exact one, or its operation is refused.
--
-- `limit_ok`: a limit of a row whose operation is not refused is the exact limit.
-- `limit_all`: without a limit of numbers no limit of a row is refused: it is the exact one, or absent.
use Rattle.std.proofs.Common.{◌≡◌, ℕ, Option, Some, None, Ok, Err, refl, sym, ap, ◌∙◌}
use Rattle.spec_exact.specs.Fraction.{ℚ, ◌+ℚ◌, ◌-ℚ◌}
use Rattle.spec_exact.specs.Limit.{add, sub}
use Rattle.spec_exact.specs.Answer.{told}
use Rattle.spec_exact.specs.declared.past.Op.TheVariants.{Add, Sub}
use Rattle.spec_exact.specs.Run.{Run, ◌>>=◌, sum_run, difference_run}
use Rattle.spec_exact.proofs.Limit.{add_gives, add_unlimited, sub_gives, sub_unlimited}
use Rattle.spec_exact.proofs.Results.{ok_same, err_not_ok, told_ok}
use Rattle.spec_model.specs.declared.parts.RowLimit.{RowLimit}
use Rattle.spec_model.specs.declared.parts.RowLimit.TheVariants.{Absent, Given, Sum, Difference}
use Rattle.spec_model.specs.Model.{limit_of, limit_run}

-- where an operation that is not refused gives v, a limit that it makes is v
some_ok : (o : Run ℚ) (v : ℚ) → ((x : ℚ) → o ≡ Ok x → x ≡ v) → (l : Option ℚ) → (o >>= λ x. Ok (Some x)) ≡ Ok l →
    l ≡ Some v
some_ok (Ok x) v f l h = sym (ok_same (Some x) l h) ∙ ap Some (f x refl)
some_ok (Err e) v f l h = err_not_ok e l h

pub limit_ok : (limit : Option ℕ) (o : RowLimit ℚ) (l : Option ℚ) → limit_run limit o ≡ Ok l → l ≡ limit_of o
limit_ok limit Absent l h = sym (ok_same None l h)
limit_ok limit (Given v) l h = sym (ok_same (Some v) l h)
limit_ok limit (Sum v w) l h =
    some_ok (sum_run limit v w) (v +ℚ w) (λ x e. add_gives limit v w x (told_ok Add v w (add limit v w) x e)) l h
limit_ok limit (Difference v w) l h =
    some_ok (difference_run limit v w) (v -ℚ w) (λ x e. sub_gives limit v w x (told_ok Sub v w (sub limit v w) x e)) l h

pub limit_all : (o : RowLimit ℚ) → limit_run None o ≡ Ok (limit_of o)
limit_all Absent = refl
limit_all (Given v) = refl
limit_all (Sum v w) = ap (λ o. told Add v w o >>= λ s. Ok (Some s)) (add_unlimited v w)
limit_all (Difference v w) = ap (λ o. told Sub v w o >>= λ d. Ok (Some d)) (sub_unlimited v w)
