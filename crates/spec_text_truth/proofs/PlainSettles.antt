-- Why a certificate does not fit a model names what the certificate names.
use Rattle.std.proofs.Common.{ℕ, Bool, true, false, cond, List, [], ◌∷◌, ◌++◌, Option, Some, None, Ok, Err, IfErr}
use Rattle.std.specs.Prelude.{All}
use Rattle.std.proofs.lemmas.List.Elements.{All-head, All-tail}
use Rattle.spec_exact.specs.Fraction.{ℚ}
use Rattle.spec_model.specs.Model.{Model, Name}
use Rattle.spec_model.specs.Kept.{column_place}
use Rattle.spec_check.specs.declared.certificate.Certificate.{Certificate}
use Rattle.spec_check.specs.declared.certificate.CertificateKind.TheVariants as kind
use Rattle.spec_check.specs.declared.certificate.SettleFault.{SettleFault}
use Rattle.spec_check.specs.declared.certificate.SettleFault.TheVariants as settle
use Rattle.spec_check.specs.Raw.{ExactRaw, ExactKind, ExactPart}
use Rattle.spec_check.specs.Settle.{Settled, ◌>>=◌, known, place_of, blank, is_given, put, put_all, certificate_by}
use Rattle.spec_check.specs.Settle.{certificate_for}
use Rattle.spec_text_truth.specs.TrueOutput.{HasNoFeed}
use Rattle.spec_text_truth.proofs.PlainAsks.{IsPlainKind, IsPlainPart, IsPlainRaw}

abbrev pub IsPlainSettle : SettleFault Name → Type 0
IsPlainSettle (settle.UnknownName name) = HasNoFeed name
IsPlainSettle (settle.Repeated name) = HasNoFeed name

-- where a name has no line feed, the fault that it is unknown has no name with one
known_plain : (place : Option ℕ) (name : Name) → HasNoFeed name →
    IfErr (known place name) IsPlainSettle
known_plain None name h = h
known_plain (Some k) name h = tt

-- where the fault of a first step and that of the next have no name with a line feed, the fault of both has none
then_plain : {A B : Type 0} (r : Settled B) (next : B → Settled A) → IfErr r IsPlainSettle →
    ((b : B) → IfErr (next b) IsPlainSettle) → IfErr (r >>= next) IsPlainSettle
then_plain (Ok b) next h go = go b
then_plain (Err why) next h go = h

-- where the faults of two ways have no name with a line feed, the fault of the one that a test takes has none
choice_plain : {A : Type 0} (t : Bool) (a b : Settled A) → IfErr a IsPlainSettle → IfErr b IsPlainSettle →
    IfErr (cond t a b) IsPlainSettle
choice_plain true a b h k = h
choice_plain false a b h k = k

-- where a kind has no name with a line feed, the fault of an empty certificate of this kind has none
blank_plain : (v : ℚ) (m : Model) (of : ExactKind) → IsPlainKind of → IfErr (blank v m of) IsPlainSettle
unfolding blank
blank_plain v m kind.Optimal h = tt
blank_plain v m kind.Infeasible h = tt
blank_plain v m kind.Unbounded h = tt
blank_plain v m (kind.Clash name) h =
    then_plain _ _ (known_plain (column_place m name) name h) λ j. tt

-- where a part has no name with a line feed, the fault of putting it into a certificate has none
put_plain : (m : Model) (before : List ExactPart) (p : ExactPart) (cert : Certificate (List ℚ)) → IsPlainPart p →
    IfErr (put m before p cert) IsPlainSettle
unfolding put
put_plain m before p cert h =
    then_plain _ _ (known_plain (place_of m p.letter p.name) p.name h) λ k.
    choice_plain (is_given p.letter p.name before) _ _ h tt

-- where parts have no name with a line feed, the fault of putting them into a certificate has none
put_all_plain : (m : Model) (before parts : List ExactPart) (cert : Certificate (List ℚ)) → All IsPlainPart parts →
    IfErr (put_all m before parts cert) IsPlainSettle
put_all_plain m before [] cert h = tt
put_all_plain m before (p ∷ parts) cert h =
    then_plain (put m before p cert) _ (put_plain m before p cert (All-head IsPlainPart p parts h)) λ next.
    put_all_plain m (before ++ p ∷ []) parts next (All-tail IsPlainPart p parts h)

-- where a certificate that was read has no name with a line feed, the fault of it for a model has none
pub certificate_plain : (m : Model) (raw : ExactRaw) → IsPlainRaw raw → IfErr (certificate_for m raw) IsPlainSettle
unfolding certificate_by
certificate_plain m raw h =
    then_plain _ _ (blank_plain _ m raw.kind h.kind) λ cert. put_all_plain m [] raw.parts cert h.parts
