-- The column of one place more, and all of them.
use Rattle.std.proofs.Common.{◌<◌, [], All, length, sym, subst, ◌∙◌, arith}
use Rattle.std.proofs.lemmas.List.{get_or_default}
use Rattle.std.proofs.lemmas.List.Elements.{All-push}
use Rattle.spec_simplex.specs.Tableau.{all_columns}
use Rattle.spec_factor.specs.Revised.{standing}
use Rattle.lp_tableau.proofs.GrowingLists.{more_mapped, all_mapped}
use Rattle.lp_revised.proofs.state.Revised.positions.Goals as goal

pub loop-place-preserved : goal.loop-place-preserved
loop-place-preserved c =
    let t = c.args.self.now.bare in
    let items = c.args.factors.now.basic in
    let i : c.loop-place.place < length items =
    omega (arith, c.loop-place-test.true, c.rows-place-end.ensures.value, c.requires.all) in
    record {
      value =
          more_mapped [] _ _ (standing t) items c.loop-place.place c.basic.result _ i
          (c.basic.ensures ∙ get_or_default items c.loop-place.place 0 c.basic.result i) c.loop-place.invariant.value
          c.standing.ensures.value c.in_ok-push.ensures.items;
      inside =
          subst (All (λ k. k < all_columns t)) (sym c.in_ok-push.ensures.items)
          (All-push (λ k. k < all_columns t) _ _ c.loop-place.invariant.inside c.standing.ensures.inside);
    }

pub returns-clause-value : goal.returns-clause-value
returns-clause-value c =
    all_mapped [] _ (standing c.args.self.now.bare) c.args.factors.now.basic c.loop-place.place
    (omega (arith, c.loop-place-test.false, c.rows-place-end.ensures.value, c.requires.all))
    c.loop-place.invariant.value

pub returns-clause-inside : goal.returns-clause-inside
returns-clause-inside c = c.loop-place.invariant.inside
