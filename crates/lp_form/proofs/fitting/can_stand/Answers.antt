use Rattle.std.proofs.Common.{◌≡◌, ◌↔◌, Option, Some, None, Bool, IsTrue, is_some, refl, sym, subst₂, ap, ◌∙◌}
use Rattle.spec_exact.specs.Fraction.{ℚ}
use Rattle.spec_pivot.specs.declared.status.Status.{Status}
use Rattle.spec_simplex.specs.Form.{form_lower, form_upper}
use Rattle.spec_simplex.specs.Eliminate.{CanStand}
use Rattle.lp_form.proofs.fitting.can_stand.Goals as goal

-- a bound is there, or it is not
there : (bound : Option ℚ) → IsTrue (is_some bound) ↔ ((v : ℚ) × (bound ≡ Some v))
there None = (λ e. cc, λ e. cc)
there (Some v) = (λ e. (v, refl), λ e. refl)

pub returns-in-AtLower : goal.returns-in-AtLower
returns-in-AtLower c =
    subst₂ (λ t s. IsTrue t ↔ CanStand s (form_lower c.args.form.now c.args.k) (form_upper c.args.form.now c.args.k))
    (sym (c.is_some.ensures ∙ ap is_some c.lower.ensures)) (sym c.in-AtLower.is)
    (there (form_lower c.args.form.now c.args.k))

pub returns-in-AtUpper : goal.returns-in-AtUpper
returns-in-AtUpper c =
    subst₂ (λ t s. IsTrue t ↔ CanStand s (form_lower c.args.form.now c.args.k) (form_upper c.args.form.now c.args.k))
    (sym (c.is_some-in-AtUpper.ensures ∙ ap is_some c.upper.ensures)) (sym c.in-AtUpper.is)
    (there (form_upper c.args.form.now c.args.k))
