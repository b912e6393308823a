-- Tests of two parts, and values that are absent.
use Rattle.std.proofs.Common.{◌≡◌, true, Option, Some, None, is_none, refl}

-- where an option tests as none, it is none
pub none_if : {A : Type 0} (o : Option A) → is_none o ≡ true → o ≡ None
none_if None h = refl
none_if (Some a) h = cc
