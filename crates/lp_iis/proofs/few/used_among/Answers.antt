-- Each side has the place that it has among those that stay.
use Rattle.std.proofs.Common.{◌≡◌, ◌<◌, true, length, get_or, sym, ap, ◌∙◌, subst}
use Rattle.std.specs.Prelude.{All, IfOk}
use Rattle.std.specs.List.{filter}
use Rattle.spec_exact.specs.Run.{made}
use Rattle.spec_model.specs.Model.{height}
use Rattle.spec_iis.specs.Sides.{is_listed}
use Rattle.spec_iis.specs.Only.{stays, renumbered}
use Rattle.spec_iis.specs.Rule.{used, used_among}
use Rattle.spec_iis.proofs.Listed.{all_listed}
use Rattle.lp_iis.specs.Reading.{place_by, placed}
use Rattle.lp_iis.proofs.Placed.{side_placed, placed_same}
use Rattle.lp_iis.proofs.few.used_among.Goals as goal

pub used_of-requires-clause-inside : goal.used_of-requires-clause-inside
used_of-requires-clause-inside c =
    let m = c.args.model.now in
    let sides = c.args.sides.now in
    let same = c.deref.ensures.value ∙ c.in_ok-places.ensures
    ∙ ap (λ s. made (height m) (place_by (stays s))) c.as_slice.ensures in
    subst (λ ps. All (λ s. s.row ≡ true → s.at < length ps) sides) (sym same)
    (λ k d l. side_placed m sides (get_or sides k d) (c.requires.present k d l))

pub used_of-requires-clause-same : goal.used_of-requires-clause-same
used_of-requires-clause-same c =
    let m = c.args.model.now in
    let sides = c.args.sides.now in
    let same = c.deref.ensures.value ∙ c.in_ok-places.ensures
    ∙ ap (λ s. made (height m) (place_by (stays s))) c.as_slice.ensures in
    subst (λ ps. All (λ s. placed ps s ≡ renumbered sides s) sides) (sym same)
    (λ k d l. placed_same m sides (get_or sides k d) (all_listed sides k d l) (c.requires.present k d l))

pub returns : goal.returns
unfolding used_among
returns c =
    subst (λ u. IfOk c.used_of.result
    (λ few. few ≡ filter (λ s. is_listed u (renumbered c.args.sides.now s)) c.args.sides.now))
    (c.in_ok-used.ensures ∙ ap (λ a. used a c.args.certificate.now) c.requires.alone) c.used_of.ensures
