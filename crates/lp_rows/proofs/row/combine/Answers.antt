-- One number more, and one that stays.
use Rattle.std.proofs.Common.{◌≤◌, ◌<◌, length, sym, ap₂, ◌∙◌, arith, ◌*ℤ◌, ◌-ℤ◌, subst, refl}
use Rattle.lp_natural.specs.Whole.{whole}
use Rattle.lp_rows.proofs.Done.{one_done, one_kept, item-at}
use Rattle.lp_rows.proofs.TakenMultiples.{both_none}
use Rattle.lp_rows.proofs.row.combine.Goals as goal

pub bounds-other-k : goal.bounds-other-k
bounds-other-k g c = subst (λ m. c.loop-k.k < m) (sym c.requires) c.loop-k-test.true

pub bounds-row-k : goal.bounds-row-k
bounds-row-k g c = subst (λ m. c.loop-k.k < m) (sym c.loop-k.invariant.len) c.loop-k-test.true

pub bounds-row-k-in-Some : goal.bounds-row-k-in-Some
bounds-row-k-in-Some g c = subst (λ m. c.loop-k.k < m) (sym c.loop-k.invariant.len) c.loop-k-test.true

pub loop-k-preserved : goal.loop-k-preserved
loop-k-preserved g c =
    let d = c.loop-k.invariant in
    let n : c.loop-k.k < length c.loop-k.row = omega (arith, d.len, c.loop-k-test.true) in
    let o : c.loop-k.k < length c.args.other.now = omega (arith, c.requires, c.loop-k-test.true) in
    let e : c.loop-k.k ≤ c.loop-k.k = omega arith in
    one_done g.T.Words.value c.loop-k.k _ c.args.row.now c.loop-k.row c.in-Some.number d n
    (c.in-Some.ensures
    ∙ ap₂ (λ x y. whole c.args.a.negative (g.T.Words.value c.args.a.size) *ℤ x -ℤ
    whole c.args.b.negative (g.T.Words.value c.args.b.size) *ℤ y)
    (sym (item-at g.T.Words.value c.loop-k.row c.loop-k.k _ n c.index-row-k.is) ∙ d.rest c.loop-k.k e)
    (sym (item-at g.T.Words.value c.args.other.now c.loop-k.k _ o c.index-other-k.is)))

pub loop-k-preserved-then-are_none : goal.loop-k-preserved-then-are_none
loop-k-preserved-then-are_none g c =
    let d = c.loop-k.invariant in
    let n : c.loop-k.k < length c.loop-k.row = omega (arith, d.len, c.loop-k-test.true) in
    let o : c.loop-k.k < length c.args.other.now = omega (arith, c.requires, c.loop-k-test.true) in
    let e : c.loop-k.k ≤ c.loop-k.k = omega arith in
    one_kept g.T.Words.value c.loop-k.k _ c.args.row.now c.loop-k.row d
    (item-at g.T.Words.value c.loop-k.row c.loop-k.k _ n c.index-row-k.is
    ∙ both_none (whole c.args.a.negative (g.T.Words.value c.args.a.size))
    (whole c.args.b.negative (g.T.Words.value c.args.b.size)) _ _ _ _
    (c.if-are_none.ensures.first refl) (c.if-are_none.ensures.second refl)
    ∙ ap₂ (λ x y. whole c.args.a.negative (g.T.Words.value c.args.a.size) *ℤ x -ℤ
    whole c.args.b.negative (g.T.Words.value c.args.b.size) *ℤ y)
    (sym (item-at g.T.Words.value c.loop-k.row c.loop-k.k _ n c.index-row-k.is) ∙ d.rest c.loop-k.k e)
    (sym (item-at g.T.Words.value c.args.other.now c.loop-k.k _ o c.index-other-k.is)))
