-- One column more, and all.
use Rattle.std.proofs.Common.{◌≡◌, [], None, get_or, refl, ap₂, ◌∙◌, arith}
use Rattle.std.proofs.lemmas.List.{get_or_read}
use Rattle.spec_pivot.specs.declared.status.Status.TheVariants.{Basic}
use Rattle.spec_simplex.specs.Tableau.{stand}
use Rattle.lp_tableau.specs.Based.{stand_in}
use Rattle.lp_tableau.proofs.GrowingLists.{more_made, all_made}
use Rattle.lp_tableau.proofs.basis.values.Goals as goal

pub loop-k-preserved : goal.loop-k-preserved
loop-k-preserved c =
    let k = c.loop-k.k in
    let lower : c.index-lower-k.result ≡ get_or c.args.lower.now k None =
    get_or_read c.args.lower.now k _ (omega (arith, c.loop-k-test.true, c.requires.lower)) c.index-lower-k.is None in
    let upper : c.index-upper-k.result ≡ get_or c.args.upper.now k None =
    get_or_read c.args.upper.now k _ (omega (arith, c.loop-k-test.true, c.requires.upper)) c.index-upper-k.is None in
    more_made [] _ _ k (stand_in c.args.status.now c.args.lower.now c.args.upper.now) _ c.loop-k.invariant
    (c.stand.ensures ∙ ap₂ (stand (get_or c.args.status.now k Basic)) lower upper) c.in_ok-push.ensures.items

pub returns : goal.returns
returns c =
    all_made [] _ c.loop-k.k _ _ (stand_in c.args.status.now c.args.lower.now c.args.upper.now) c.loop-k.invariant
    c.loop-k.auto.k-end c.loop-k-test.false refl
