-- What putting a certificate to a model says.
use Rattle.std.specs.Prelude.{◌≡◌, ◌<◌, ℕ, ⊤, List, length, Result, Ok, Err}
use Rattle.spec_model.specs.Model.{Model, Name}
use Rattle.spec_check.specs.declared.certificate.Certificate.{Certificate}
use Rattle.spec_check.specs.declared.certificate.Certificate.TheVariants.{Optimal, Infeasible, Unbounded}
use Rattle.spec_check.specs.declared.certificate.Letter.{Letter}
use Rattle.spec_check.specs.declared.certificate.Letter.TheVariants.{X, Y, R}
use Rattle.spec_check.specs.declared.certificate.SettleFault.TheVariants.{UnknownName, Repeated}
use Rattle.spec_check.specs.Settle.{Settled}
use Rattle.lp_certificate.specs.Letters.{count_of}
use Rattle.lp_certificate.specs.declared.settled.SettleError.{SettleError}
use Rattle.lp_certificate.specs.declared.settled.SettleError.TheVariants.{Fault, NoMemory}

-- the answer is the fault with which the code fails; of a failure for lack of memory nothing is asked
abbrev pub IsErrorOf : {A : Type 0} → Settled A → SettleError → Type 0
IsErrorOf answer (Fault fault) = answer ≡ Err fault
IsErrorOf answer NoMemory = Unit {0}

-- the answer is what the code gives: this certificate, or this fault; of a failure for lack of memory nothing is asked
abbrev pub Settles : {F : Type 0} → Settled (Certificate (List F)) → Result (Certificate (List F)) SettleError → Type 0
Settles answer (Ok cert) = answer ≡ Ok cert
Settles answer (Err error) = IsErrorOf answer error

-- where the code is done, the answer is the certificate `after`; where it fails, the answer is its fault; of a failure
-- for lack of memory nothing is asked
abbrev pub Puts : {F : Type 0} → Settled (Certificate (List F)) → Certificate (List F) → Result ⊤ SettleError → Type 0
Puts answer after (Ok done) = answer ≡ Ok after
Puts answer after (Err error) = IsErrorOf answer error

-- k is the number of a column of the model, or for the letter y of a row
abbrev pub IsPlace : Model → Letter → ℕ → Type 0
IsPlace m letter k = k < count_of m letter

-- k is a place in the certificate's list for this letter; where it has no such list, nothing is asked
abbrev pub IsInside : {F : Type 0} → Letter → ℕ → Certificate (List F) → Type 0
IsInside X k (Optimal x y) = k < length x
IsInside Y k (Optimal x y) = k < length y
IsInside Y k (Infeasible y) = k < length y
IsInside X k (Unbounded x r) = k < length x
IsInside R k (Unbounded x r) = k < length r
IsInside letter k cert = Unit {0}

-- the fault says that no column or row has this name; of a failure for lack of memory nothing is asked
abbrev pub IsUnknown : Name → SettleError → Type 0
IsUnknown name (Fault fault) = fault ≡ UnknownName name
IsUnknown name NoMemory = Unit {0}

-- the fault says that this name was given a number before; of a failure for lack of memory nothing is asked
abbrev pub IsRepeated : Name → SettleError → Type 0
IsRepeated name (Fault fault) = fault ≡ Repeated name
IsRepeated name NoMemory = Unit {0}
