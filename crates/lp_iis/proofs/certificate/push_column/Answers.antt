use Rattle.std.proofs.Common.{◌≡◌, ◌++◌, refl, sym, ◌∙◌, subst}
use Rattle.std.specs.Prelude.{OnOk}
use Rattle.spec_exact.proofs.Results.{ok_same}
use Rattle.spec_check.specs.Checks.{priced}
use Rattle.spec_iis.specs.Rule.{column_sides}
use Rattle.lp_iis.proofs.certificate.push_column.Goals as goal

pub returns-in-Ok : goal.returns-in-Ok
unfolding column_sides
returns-in-Ok c =
    let is : c.in-Ok.part ≡ priced c.args.model.now c.args.y.now c.args.j =
    ok_same _ _ (sym c.in-Ok.is ∙ c.priced.ensures ∙ c.requires.read) in
    subst (λ s. OnOk c.push_sides.result (c.push_sides.new.to ≡ c.args.to.now ++ s))
    (rw (c.is_negative.ensures, c.is_positive.ensures, is) refl) c.push_sides.ensures
