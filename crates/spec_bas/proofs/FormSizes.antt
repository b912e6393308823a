-- The form of a model has its rows and columns.
use Rattle.std.proofs.Common.{◌≡◌, ℕ, List, Option, Result, Ok, Err, refl, subst}
use Rattle.spec_exact.specs.Fraction.{ℚ}
use Rattle.spec_model.specs.Model.{Model, width, height, row}
use Rattle.spec_simplex.specs.declared.ends.FormFault.{FormFault}
use Rattle.spec_simplex.specs.declared.ends.FormFault.TheVariants as fault
use Rattle.spec_simplex.specs.Form.{Form, form_of, formed, limits_run, column_clash}
use Rattle.spec_exact.specs.Run.{◌>>=◌, refused_as, list_run, steps}
use Rattle.spec_bas.specs.Fits.{HasSizeOf}

-- a form that is made of a model's limits after a test has the model's rows and columns
sized_by : (m : Model) (f : Form) (o : Result (List (Option ℚ × Option ℚ)) (FormFault ℚ))
    (p : Result (Unit {0}) (FormFault ℚ)) →
    (o >>= λ limits. p >>= λ _. Ok (formed m limits)) ≡ Ok f → HasSizeOf m f
sized_by m f (Ok limits) (Ok u) h =
    let e : formed m limits ≡ f = cc in subst (HasSizeOf m) e (record { rows = refl; cols = refl })
sized_by m f (Ok limits) (Err why) h = cc
sized_by m f (Err why) p h = cc

-- the form of a model has as many rows and columns as the model
pub sized : (limit : Option ℕ) (m : Model) (f : Form) → form_of limit m ≡ Ok f → HasSizeOf m f
unfolding form_of
sized limit m f h =
    sized_by m f (refused_as fault.Past (list_run (height m) (λ i. limits_run limit (row m i))))
    (steps (width m) (λ j _. column_clash limit m j) tt) h
