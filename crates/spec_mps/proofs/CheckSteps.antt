-- What held on the way, where a chain of checks ends in a value.
--
-- `step_ok`: where a chain of two checks ends in a value, the first gave a value and the second took it.
-- `must_ok`: where a chain that begins with a test ends in a value, the test holds and the rest gives the value.
-- `need_ok`: where a chain that needs an optional value ends well, the value is there and the rest takes it.
-- `same_ok`: two equal `Ok` results have equal values.
use Rattle.std.proofs.Common.{◌≡◌, Bool, true, false, Option, Some, None, Ok, Err, refl}
use Rattle.std.specs.Bool.{⊤}
use Rattle.spec_mps.specs.declared.fault.Code.{Code}
use Rattle.spec_mps.specs.Checks.{Check, ◌>>=◌, must, need}

-- a step that goes on had a value
pub step_ok : {A B : Type 0} (o : Check A) (f : A → Check B) (b : B) → (o >>= f) ≡ Ok b →
    (a : A) × (o ≡ Ok a) × (f a ≡ Ok b)
step_ok (Ok a) f b h = (a, refl, h)
step_ok (Err code) f b h = cc

-- a test that lets go on holds
pub must_ok : {B : Type 0} (t : Bool) (code : Code) (f : ⊤ → Check B) (b : B) → (must t code >>= f) ≡ Ok b →
    (t ≡ true) × (f tt ≡ Ok b)
must_ok true code f b h = (refl, h)
must_ok false code f b h = cc

-- what is needed is there
pub need_ok : {A B : Type 0} (o : Option A) (code : Code) (f : A → Check B) (b : B) → (need o code >>= f) ≡ Ok b →
    (a : A) × (o ≡ Some a) × (f a ≡ Ok b)
need_ok (Some a) code f b h = (a, refl, h)
need_ok None code f b h = cc

pub same_ok : {A : Type 0} (a b : A) → (let r : Check A = Ok a in r) ≡ Ok b → a ≡ b
same_ok a b h = cc
