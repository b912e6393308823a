-- A certificate that is put to a model has a number for each row and column.
use Rattle.std.proofs.Common.{◌≡◌, ℕ, Bool, true, false, cond, Option, Some}
use Rattle.std.proofs.Common.{None, Ok, Err, List, [], ◌∷◌, ◌++◌, refl, ◌∙◌, subst}
use Rattle.std.proofs.Math.ListN.{length-set, length-replicate}
use Rattle.spec_exact.specs.Fraction.{ℚ, 0ℚ}
use Rattle.spec_exact.proofs.Results.{ok_same}
use Rattle.spec_model.specs.Model.{Model, Name, width, height}
use Rattle.spec_model.specs.Kept.{column_place}
use Rattle.spec_model.proofs.NamePlaces.{column_inside}
use Rattle.spec_check.specs.declared.certificate.Letter.{Letter}
use Rattle.spec_check.specs.declared.certificate.Letter.TheVariants.{X, Y, R}
use Rattle.spec_check.specs.declared.certificate.CertificateKind.TheVariants as kind
use Rattle.spec_check.specs.declared.certificate.Certificate.{Certificate}
use Rattle.spec_check.specs.declared.certificate.Certificate.TheVariants.{Optimal, Infeasible, Clash, Unbounded}
use Rattle.spec_check.specs.declared.certificate.SettleFault.TheVariants.{Repeated}
use Rattle.spec_check.specs.Certificate.{IsFor}
use Rattle.spec_check.specs.Raw.{ExactPart, ExactRaw, ExactKind}
use Rattle.spec_check.specs.Settle.{Settled, ◌>>=◌, known, place_of, with_value}
use Rattle.spec_check.specs.Settle.{is_given, blank, put, put_all, certificate_by, certificate_for}

-- where two steps in turn give a result, the first gave something from which the second gave the result
after_ok : {A B : Type 0} (o : Settled A) (next : A → Settled B) (b : B) → (o >>= next) ≡ Ok b →
    (a : A) × (o ≡ Ok a) × (next a ≡ Ok b)
after_ok (Ok a) next b e = (a, refl, e)
after_ok (Err fault) next b e = cc

-- where a name is known as number k, the search for the name found k
known_ok : (o : Option ℕ) (name : Name) (k : ℕ) → known o name ≡ Ok k → o ≡ Some k
known_ok None name k e = cc
known_ok (Some j) name k e = cc

-- a certificate that fits a model still fits it after one of its numbers is replaced
with_value_fits : (m : Model) (letter : Letter) (k : ℕ) (v : ℚ) (cert : Certificate (List ℚ)) → IsFor m cert →
    IsFor m (with_value letter k v cert)
with_value_fits m X k v (Optimal x y) f = (length-set x k v ∙ f.0, f.1)
with_value_fits m Y k v (Optimal x y) f = (f.0, length-set y k v ∙ f.1)
with_value_fits m R k v (Optimal x y) f = f
with_value_fits m X k v (Infeasible y) f = f
with_value_fits m Y k v (Infeasible y) f = length-set y k v ∙ f
with_value_fits m R k v (Infeasible y) f = f
with_value_fits m X k v (Clash j) f = f
with_value_fits m Y k v (Clash j) f = f
with_value_fits m R k v (Clash j) f = f
with_value_fits m X k v (Unbounded x r) f = (length-set x k v ∙ f.0, f.1)
with_value_fits m Y k v (Unbounded x r) f = f
with_value_fits m R k v (Unbounded x r) f = (f.0, length-set r k v ∙ f.1)

-- a certificate that has a model's sizes still has them with one part more, where that can be put
put_fits : (m : Model) (before : List ExactPart) (p : ExactPart) (cert next : Certificate (List ℚ)) → IsFor m cert →
    put m before p cert ≡ Ok next → IsFor m next
unfolding put
put_fits m before p cert next f e =
    let a =
    after_ok (known (place_of m p.letter p.name) p.name)
    (λ k. cond (is_given p.letter p.name before) (Err (Repeated p.name)) (Ok (with_value p.letter k p.value cert)))
    next e in
    by (is_given p.letter p.name before) a.0 a.2
  where
    by : (t : Bool) (k : ℕ) →
        ◌≡◌ {A = Settled (Certificate (List ℚ))}
        (cond t (Err (Repeated p.name)) (Ok (with_value p.letter k p.value cert))) (Ok next) →
        IsFor m next
    by true k h = cc
    by false k h =
        subst (IsFor m) (ok_same (with_value p.letter k p.value cert) next h)
        (with_value_fits m p.letter k p.value cert f)

-- a certificate that fits a model still fits it with each part of a list put into it, where all of them can be put
all_fit : (m : Model) (before parts : List ExactPart) (cert last : Certificate (List ℚ)) → IsFor m cert →
    put_all m before parts cert ≡ Ok last → IsFor m last
all_fit m before [] cert last f e = subst (IsFor m) (ok_same cert last e) f
all_fit m before (p ∷ parts) cert last f e =
    let a = after_ok (put m before p cert) (λ next. put_all m (before ++ p ∷ []) parts next) last e in
    all_fit m (before ++ p ∷ []) parts a.0 last (put_fits m before p cert a.0 f a.1) a.2

-- the blank certificate of a kind fits the model that it was made for
blank_fits : (m : Model) (k : ExactKind) (cert : Certificate (List ℚ)) → blank 0ℚ m k ≡ Ok cert → IsFor m cert
unfolding blank
blank_fits m kind.Optimal cert e =
    subst (IsFor m) (ok_same _ cert e) (length-replicate (width m) 0ℚ, length-replicate (height m) 0ℚ)
blank_fits m kind.Infeasible cert e = subst (IsFor m) (ok_same _ cert e) (length-replicate (height m) 0ℚ)
blank_fits m kind.Unbounded cert e =
    subst (IsFor m) (ok_same _ cert e) (length-replicate (width m) 0ℚ, length-replicate (width m) 0ℚ)
blank_fits m (kind.Clash name) cert e =
    let a = after_ok (known (column_place m name) name) (λ j. Ok (Clash j)) cert e in
    subst (IsFor m) (ok_same (Clash a.0) cert a.2)
    (column_inside m name a.0 (known_ok (column_place m name) name a.0 a.1))

-- a certificate that was settled for a model fits that model
pub settled_fits : (m : Model) (raw : ExactRaw) (cert : Certificate (List ℚ)) → certificate_for m raw ≡ Ok cert →
    IsFor m cert
unfolding certificate_by
settled_fits m raw cert e =
    let a = after_ok (blank 0ℚ m raw.kind) (λ first. put_all m [] raw.parts first) cert e in
    all_fit m [] raw.parts a.0 cert (blank_fits m raw.kind a.0 a.1) a.2
