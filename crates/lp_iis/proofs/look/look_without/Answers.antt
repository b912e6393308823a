-- Without the side the same few clash, if it is none of them.
use Rattle.std.proofs.Common.{◌≡◌, ◌++◌, false, sym, ◌∙◌, subst}
use Rattle.std.proofs.lemmas.Result.{IfOk-weaker}
use Rattle.spec_iis.specs.Sides.{is_listed}
use Rattle.spec_iis.proofs.Filtered.{clash_without}
use Rattle.lp_iis.specs.Ways.{IsSeen}
use Rattle.lp_iis.specs.declared.look.Look.TheVariants.{Clash}
use Rattle.lp_iis.proofs.look.look_without.Goals as goal

pub returns-else-is_listed : goal.returns-else-is_listed
returns-else-is_listed c =
    let none = subst (λ few. is_listed few c.args.side ≡ false) c.as_slice.ensures
    (sym c.is_listed.ensures ∙ c.if-is_listed.false) in
    IfOk-weaker c.as_before.result (λ look. look ≡ Clash c.args.clash.now)
    (IsSeen c.args.budget c.args.model.now (c.args.kept.now ++ c.args.behind.now))
    (λ look same. subst (IsSeen c.args.budget c.args.model.now (c.args.kept.now ++ c.args.behind.now)) (sym same)
    (clash_without c.args.model.now c.args.kept.now c.args.side c.args.behind.now c.args.clash.now c.requires.clash none))
    c.as_before.ensures
