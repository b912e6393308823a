use Rattle.std.proofs.Common.{◌<◌, ◌++◌, ◌∷◌, [], None, length, take, get_or, sym, ap, ◌∙◌, subst, arith}
use Rattle.std.proofs.lemmas.List.{take_more}
use Rattle.spec_exact.proofs.RunsInOrder.{length-made, get_or-made}
use Rattle.spec_iis.specs.Only.{stays, only_entries}
use Rattle.lp_iis.specs.Reading.{place_by}
use Rattle.lp_iis.proofs.OneMore.{entry_more}
use Rattle.lp_iis.proofs.columns.entries_left.Goals as goal

pub loop-entry-init : goal.loop-entry-init
unfolding only_entries
loop-entry-init c = c.new-left.ensures

pub place_at-place-requires : goal.place_at-place-requires
place_at-place-requires c =
    let inside : c.entry-item.result.0 < c.args.height =
    subst (λ e. e.0 < c.args.height) (sym c.entry-item.is)
    (c.requires.inside c.loop-entry.entry-index c.entry-item.result c.loop-entry-test.true) in
    omega (arith, ap length c.requires.places, length-made c.args.height (place_by (stays c.args.sides.now)))

pub loop-entry-preserved : goal.loop-entry-preserved
loop-entry-preserved c =
    let inside : c.entry-item.result.0 < c.args.height =
    subst (λ e. e.0 < c.args.height) (sym c.entry-item.is)
    (c.requires.inside c.loop-entry.entry-index c.entry-item.result c.loop-entry-test.true) in
    let more = take_more c.args.entries.now c.loop-entry.entry-index c.entry-item.result c.loop-entry-test.true
    ∙ sym (ap (λ x. take c.loop-entry.entry-index c.args.entries.now ++ x ∷ []) c.entry-item.is) in
    entry_more (stays c.args.sides.now) c.args.entries.now c.loop-entry.entry-index c.entry-item.result _ _
    c.place_at-place.result more c.loop-entry.invariant
    (c.place_at-place.ensures ∙ ap (λ ps. get_or ps c.entry-item.result.0 None) c.requires.places
    ∙ get_or-made c.args.height (place_by (stays c.args.sides.now)) c.entry-item.result.0 None inside)
    c.in_ok-push_at.ensures
