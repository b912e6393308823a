-- What a status that passes the test is.
use Rattle.std.proofs.Common.{◌≡◌, true, false, refl}
use Rattle.spec_pivot.specs.declared.status.Status.{Status}
use Rattle.spec_pivot.specs.declared.status.Status.TheVariants.{Basic, AtLower, AtUpper, AtZero}
use Rattle.spec_simplex.specs.Tableau.{is_basic}

-- a status for which `is_basic` is true is `Basic`
pub basic_if : (s : Status) → is_basic s ≡ true → s ≡ Basic
basic_if Basic e = refl
basic_if AtLower e = let z : false ≡ true = e in cc
basic_if AtUpper e = let z : false ≡ true = e in cc
basic_if AtZero e = let z : false ≡ true = e in cc
