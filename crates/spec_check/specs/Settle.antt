-- The parts of a certificate, put to the rows and columns of a model by their names, over the type of its numbers.
use Rattle.std.specs.Prelude.{ℕ, ◌&&◌, Bool, true, false, Option, Some, None, Result, Ok}
use Rattle.std.specs.Prelude.{Err, List, [], ◌∷◌, ◌++◌, replicate, slice_set, if◌then◌else◌}
use Rattle.std.specs.List.{list_any}
use Rattle.spec_text.specs.Words.{same}
use Rattle.spec_exact.specs.Fraction.{ℚ, 0ℚ}
use Rattle.spec_model.specs.Model.{Model, Name, width, height}
use Rattle.spec_model.specs.Kept.{row_place, column_place}
use Rattle.spec_check.specs.declared.certificate.Letter.{Letter}
use Rattle.spec_check.specs.declared.certificate.Letter.TheVariants.{X, Y, R}
use Rattle.spec_check.specs.declared.certificate.CertificateKind.TheVariants as kind
use Rattle.spec_check.specs.declared.certificate.Certificate.{Certificate}
use Rattle.spec_check.specs.declared.certificate.Certificate.TheVariants.{Optimal, Infeasible, Clash, Unbounded}
use Rattle.spec_check.specs.declared.certificate.SettleFault.{SettleFault}
use Rattle.spec_check.specs.declared.certificate.SettleFault.TheVariants.{UnknownName, Repeated}
use Rattle.spec_check.specs.Raw.{PartOf, RawOf, ExactRaw, ExactKind}

-- a result, or the name that does not fit the model
abbrev pub Settled : Type 0 → Type 0
Settled A = Result A (SettleFault Name)

infixl 1 ◌>>=◌
-- the next step goes on with a result; a fault ends all
abbrev pub ◌>>=◌ : {A B : Type 0} → Settled A → (A → Settled B) → Settled B
(Ok a) >>= next = next a
(Err fault) >>= next = Err fault

-- the number that was found for a name, or the fault that the name is unknown
abbrev pub known : Option ℕ → Name → Settled ℕ
known None name = Err (UnknownName name)
known (Some k) name = Ok k

-- the number of the column, for the letters x and r, or of the row, for y, that a name means; none where it is unknown
abbrev pub place_of : Model → Letter → Name → Option ℕ
place_of m X name = column_place m name
place_of m Y name = row_place m name
place_of m R name = column_place m name

-- the list of n zeros
abbrev pub zeros : ℕ → List ℚ
zeros n = replicate n 0ℚ

-- the certificate of this kind, of the sizes of the model, in which each number is v; for a clash the number of the
-- column of that name, or the fault that the model has none of it
unfoldable pub blank : {F : Type 0} → F → Model → ExactKind → Settled (Certificate (List F))
blank v m kind.Optimal = Ok (Optimal (replicate (width m) v) (replicate (height m) v))
blank v m kind.Infeasible = Ok (Infeasible (replicate (height m) v))
blank v m kind.Unbounded = Ok (Unbounded (replicate (width m) v) (replicate (width m) v))
blank v m (kind.Clash name) = known (column_place m name) name >>= λ j. Ok (Clash j)

-- the certificate with v as the number of column or row k under this letter; unchanged where it has no such letter, or
-- no such column or row
abbrev pub with_value : {F : Type 0} → Letter → ℕ → F → Certificate (List F) → Certificate (List F)
with_value X j v (Optimal x y) = Optimal (slice_set x j v) y
with_value Y i v (Optimal x y) = Optimal x (slice_set y i v)
with_value Y i v (Infeasible y) = Infeasible (slice_set y i v)
with_value X j v (Unbounded x r) = Unbounded (slice_set x j v) r
with_value R j v (Unbounded x r) = Unbounded x (slice_set r j v)
with_value letter k v cert = cert

-- whether two letters are the same
abbrev pub same_letter : Letter → Letter → Bool
same_letter X X = true
same_letter Y Y = true
same_letter R R = true
same_letter a b = false

-- whether one of these parts has this letter and name
abbrev pub is_given : {F : Type 0} → Letter → Name → List (PartOf F) → Bool
is_given letter name parts = list_any (λ p. same_letter p.letter letter && same p.name name) parts

-- the certificate with one part more, which changes nothing where the certificate has not its letter; or the fault that
-- its name is unknown, or was given with its letter before
unfoldable pub put : {F : Type 0} → Model → List (PartOf F) → PartOf F → Certificate (List F) →
    Settled (Certificate (List F))
put m before p cert =
    known (place_of m p.letter p.name) p.name >>= λ k.
    if is_given p.letter p.name before then Err (Repeated p.name) else Ok (with_value p.letter k p.value cert)

-- the certificate with these parts more, in order, or the first fault; `before` are the parts that it has
abbrev pub put_all : {F : Type 0} → Model → List (PartOf F) → List (PartOf F) → Certificate (List F) →
    Settled (Certificate (List F))
put_all m before [] cert = Ok cert
put_all m before (p ∷ parts) cert = put m before p cert >>= λ next. put_all m (before ++ p ∷ []) parts next

-- the certificate of these parts, where a number that no part names is v; or the first name that does not fit the model
unfoldable pub certificate_by : {F : Type 0} → F → Model → RawOf F → Settled (Certificate (List F))
certificate_by v m raw = blank v m raw.kind >>= λ cert. put_all m [] raw.parts cert

-- the certificate of these parts, where a number that no part names is 0; or the first name that does not fit the model
abbrev pub certificate_for : Model → ExactRaw → Settled (Certificate (List ℚ))
certificate_for m raw = certificate_by 0ℚ m raw
