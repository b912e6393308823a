-- What equal results have in common. The lemmas are over plain variables: `cc` reads all that is in scope, which is
-- slow beside a tableau.
--
-- `ok_same`: two successes that are equal hold equal values.
-- `err_not_ok`: an error does not equal a success, so anything follows.
-- `ok_not_err`: a success does not equal an error, so anything follows.
-- `err_same`: two errors that are equal hold equal values.
-- `told_ok`: where the answer `told` of an operation is a success, the operation gave that result.
use Rattle.std.proofs.Common.{◌≡◌, Result, Ok, Err, Option, Some, None}
use Rattle.spec_exact.specs.Fraction.{ℚ}
use Rattle.spec_exact.specs.Answer.{told}
use Rattle.spec_exact.specs.declared.past.Op.{Op}

pub ok_same : {A E : Type 0} (a b : A) → ◌≡◌ {A = Result A E} (Ok a) (Ok b) → a ≡ b
ok_same a b h = cc

pub err_not_ok : {A E : Type 0} {P : Type 0} (e : E) (a : A) → ◌≡◌ {A = Result A E} (Err e) (Ok a) → P
err_not_ok e a h = cc

pub ok_not_err : {A E : Type 0} {P : Type 0} (a : A) (e : E) → ◌≡◌ {A = Result A E} (Ok a) (Err e) → P
ok_not_err a e h = cc

pub err_same : {A E : Type 0} (d e : E) → ◌≡◌ {A = Result A E} (Err d) (Err e) → d ≡ e
err_same d e h = cc

pub told_ok : {A : Type 0} (op : Op) (v w : ℚ) (o : Option A) (a : A) → told op v w o ≡ Ok a → o ≡ Some a
told_ok op v w (Some b) a h = cc
told_ok op v w None a h = cc
