-- The parts of a certificate put into their places, one by one.
use Rattle.std.proofs.Common.{◌≡◌, ℕ, ◌<◌, ◌≤◌, ◌+◌, List, [], ◌∷◌, ◌++◌, length, get_or, take, drop, Ok, sym, ap, ◌∙◌}
use Rattle.std.proofs.lemmas.List.{at_drop_all, drop_more, take_more}
use Rattle.spec_model.specs.Model.{Model}
use Rattle.spec_check.specs.declared.certificate.Certificate.{Certificate}
use Rattle.spec_check.specs.Raw.{PartOf, RawOf}
use Rattle.spec_check.specs.Settle.{◌>>=◌, blank, put, put_all, certificate_by}
use Rattle.lp_certificate.specs.declared.settled.SettleError.{SettleError}
use Rattle.lp_certificate.specs.declared.settled.SettleError.TheVariants.{Fault, NoMemory}
use Rattle.lp_certificate.specs.Answer.{IsErrorOf}

-- the parts from i on, put to the certificate so far, give what all of them give from the first one on
abbrev pub IsOnTheWay : {F : Type 0} → Model → List (PartOf F) → Certificate (List F) → ℕ → Certificate (List F) → Type 0
IsOnTheWay m parts first i cert = put_all m (take i parts) (drop i parts) cert ≡ put_all m [] parts first

module _ {F : Type 0} where
  -- the parts before i and then part i are the first i + 1 parts
  pub front_of : (parts : List (PartOf F)) (i : ℕ) (p : PartOf F) → i < length parts → get_or parts i p ≡ p →
      take i parts ++ p ∷ [] ≡ take (i + 1) parts
  front_of parts i p h g = sym (take_more parts i p h ∙ ap (λ q. take i parts ++ q ∷ []) g)

  -- putting the parts from i on is putting part i, and then those behind it
  step_of : (m : Model) (parts : List (PartOf F)) (i : ℕ) (p : PartOf F) (cert : Certificate (List F)) →
      i < length parts → get_or parts i p ≡ p → put_all m (take i parts) (drop i parts) cert
      ≡ (put m (take i parts) p cert >>= λ next. put_all m (take (i + 1) parts) (drop (i + 1) parts) next)
  step_of m parts i p cert h g =
      let next : drop i parts ≡ p ∷ drop (i + 1) parts =
      drop_more parts i p h ∙ ap (λ q. q ∷ drop (i + 1) parts) g in
      ap (λ ps. put_all m (take i parts) ps cert) next
      ∙ ap (λ b. put m (take i parts) p cert >>= λ next. put_all m b (drop (i + 1) parts) next) (front_of parts i p h g)

  -- where the parts from i on give what all give, and part i is put, those behind it give this from what it leaves
  pub one_more : (m : Model) (parts : List (PartOf F)) (i : ℕ) (p : PartOf F) (first cert next : Certificate (List F)) →
      i < length parts → get_or parts i p ≡ p
      → IsOnTheWay m parts first i cert → put m (take i parts) p cert ≡ Ok next → IsOnTheWay m parts first (i + 1) next
  one_more m parts i p first cert next h g way e =
      sym (step_of m parts i p cert h g
      ∙ ap (λ o. o >>= λ next. put_all m (take (i + 1) parts) (drop (i + 1) parts) next) e) ∙ way

  -- where the parts from i on give what all give, the fault of part i is that of all parts
  pub stopped : (m : Model) (parts : List (PartOf F)) (i : ℕ) (p : PartOf F) (first cert : Certificate (List F))
      (error : SettleError) → i < length parts → get_or parts i p ≡ p
      → IsOnTheWay m parts first i cert → IsErrorOf (put m (take i parts) p cert) error →
      IsErrorOf (put_all m [] parts first) error
  stopped m parts i p first cert NoMemory h g way e = tt
  stopped m parts i p first cert (Fault fault) h g way e =
      sym way ∙ step_of m parts i p cert h g
      ∙ ap (λ o. o >>= λ next. put_all m (take (i + 1) parts) (drop (i + 1) parts) next) e

  -- where no part is left, all parts give the certificate that was reached
  pub all_put : (m : Model) (parts : List (PartOf F)) (i : ℕ) (first cert : Certificate (List F)) → length parts ≤ i →
      IsOnTheWay m parts first i cert → put_all m [] parts first ≡ Ok cert
  all_put m parts i first cert h way = sym way ∙ at_drop_all (λ ps. put_all m (take i parts) ps cert) parts i h

  -- ---- with the certificate that they are put to
  -- where the blank certificate is made and all parts are put to it, what is reached is the certificate of the text
  pub whole : (v : F) (m : Model) (raw : RawOf F) (first cert : Certificate (List F)) → blank v m raw.kind ≡ Ok first →
      put_all m [] raw.parts first ≡ Ok cert → certificate_by v m raw ≡ Ok cert
  unfolding certificate_by
  whole v m raw first cert e f = ap (λ o. o >>= λ cert. put_all m [] raw.parts cert) e ∙ f

  -- where the blank certificate is made and a part has a fault, that is the fault of the text's certificate
  pub unfit : (v : F) (m : Model) (raw : RawOf F) (first : Certificate (List F)) (error : SettleError) →
      blank v m raw.kind ≡ Ok first → IsErrorOf (put_all m [] raw.parts first) error → IsErrorOf (certificate_by v m raw) error
  unfolding certificate_by
  unfit v m raw first NoMemory e f = tt
  unfit v m raw first (Fault fault) e f = ap (λ o. o >>= λ cert. put_all m [] raw.parts cert) e ∙ f

  -- where the blank certificate has a fault, that is the fault of the text's certificate
  pub blank_stopped : (v : F) (m : Model) (raw : RawOf F) (error : SettleError) → IsErrorOf (blank v m raw.kind) error →
      IsErrorOf (certificate_by v m raw) error
  unfolding certificate_by
  blank_stopped v m raw NoMemory e = tt
  blank_stopped v m raw (Fault fault) e = ap (λ o. o >>= λ cert. put_all m [] raw.parts cert) e
