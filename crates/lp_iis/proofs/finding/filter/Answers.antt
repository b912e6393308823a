-- One side more, that is left out or kept.
use Rattle.std.proofs.Common.{Some, ◌<◌, ◌+◌, ◌++◌, ◌∷◌, length, drop, sym, ◌∙◌, subst, subst₂, arith}
use Rattle.std.specs.Prelude.{All}
use Rattle.spec_exact.specs.Narrow.{number_limit}
use Rattle.spec_iis.specs.Sides.{IsSide}
use Rattle.spec_iis.specs.Rule.{IsRead, IsClash}
use Rattle.lp_iis.specs.Ways.{IsSeen}
use Rattle.lp_iis.proofs.SearchSteps.{ahead_first, ahead_at, others_present, others_read, others_reached}
use Rattle.lp_iis.proofs.SearchSteps.{ahead_without, ahead_kept, ahead_same}
use Rattle.lp_iis.proofs.finding.filter.Goals as goal
use Rattle.lp_iis.proofs.finding.filter.Goals.{in-Clash, in-Point+in_ok-keep-in-Point}

pub loop-i-init : goal.loop-i-init
loop-i-init c =
    rw (c.new-kept.ensures, c.new-points.ensures, c.in_ok-clash.ensures, c.as_slice.ensures)
    (ahead_first c.args.model.now c.args.sides.now c.requires.present c.requires.infeasible c.requires.read)

pub look_without-requires-clause-present : goal.look_without-requires-clause-present
look_without-requires-clause-present c =
    let l : c.loop-i.i < length c.args.sides.now = omega (arith, c.loop-i-test.true, c.len-i-end.ensures) in
    subst (λ rest. All (IsSide c.args.model.now) (c.loop-i.kept ++ rest)) (sym c.behind.ensures)
    (others_present c.args.model.now c.args.sides.now c.loop-i.kept c.at-side.result _ c.loop-i.points c.loop-i.clash
    (ahead_at c.args.model.now c.args.sides.now c.loop-i.kept c.loop-i.points c.loop-i.clash c.loop-i.i c.at-side.result l
    c.at-side.ensures c.loop-i.invariant))

pub look_without-requires-clause-read : goal.look_without-requires-clause-read
look_without-requires-clause-read c =
    let l : c.loop-i.i < length c.args.sides.now = omega (arith, c.loop-i-test.true, c.len-i-end.ensures) in
    subst (λ rest. All (IsRead (Some number_limit) c.args.model.now) (c.loop-i.kept ++ rest)) (sym c.behind.ensures)
    (others_read c.args.model.now c.args.sides.now c.loop-i.kept c.at-side.result _ c.loop-i.points c.loop-i.clash
    (ahead_at c.args.model.now c.args.sides.now c.loop-i.kept c.loop-i.points c.loop-i.clash c.loop-i.i c.at-side.result l
    c.at-side.ensures c.loop-i.invariant))

pub look_without-requires-clause-clash : goal.look_without-requires-clause-clash
look_without-requires-clause-clash c =
    let l : c.loop-i.i < length c.args.sides.now = omega (arith, c.loop-i-test.true, c.len-i-end.ensures) in
    subst (λ rest. IsClash c.args.model.now (c.loop-i.kept ++ c.at-side.result ∷ rest) c.loop-i.clash)
    (sym c.behind.ensures)
    (ahead_at c.args.model.now c.args.sides.now c.loop-i.kept c.loop-i.points c.loop-i.clash c.loop-i.i c.at-side.result l
    c.at-side.ensures c.loop-i.invariant).clashes

pub returns-in-Stopped : goal.returns-in-Stopped
returns-in-Stopped c =
    let l : c.loop-i.i < length c.args.sides.now = omega (arith, c.loop-i-test.true, c.len-i-end.ensures) in
    let seen =
    subst₂ (λ s t. IsSeen c.args.budget c.args.model.now (c.loop-i.kept ++ s) t) c.behind.ensures c.in-Stopped.is
    c.in_ok-few.ensures in
    record {
      sides = c.loop-i.kept ++ drop (c.loop-i.i + 1) c.args.sides.now;
      reached =
          others_reached c.args.model.now c.args.sides.now c.loop-i.kept c.at-side.result _ c.loop-i.points c.loop-i.clash
          (ahead_at c.args.model.now c.args.sides.now c.loop-i.kept c.loop-i.points c.loop-i.clash c.loop-i.i
          c.at-side.result l c.at-side.ensures c.loop-i.invariant);
      ends = seen.0;
      gives_up = seen.1;
    }

pub loop-i-preserved : goal.loop-i-preserved
loop-i-preserved c =
    let l : c.loop-i.i < length c.args.sides.now = omega (arith, c.loop-i-test.true, c.len-i-end.ensures) in
    let ahead =
    ahead_at c.args.model.now c.args.sides.now c.loop-i.kept c.loop-i.points c.loop-i.clash c.loop-i.i c.at-side.result l
    c.at-side.ensures c.loop-i.invariant in
    elim c.match-branch-3.branch [
      | in-Clash w ↦
          let seen =
          subst₂ (λ s t. IsSeen c.args.budget c.args.model.now (c.loop-i.kept ++ s) t) c.behind.ensures w.in-Clash.is
          c.in_ok-few.ensures in
          ahead_same c.args.model.now c.args.sides.now c.loop-i.kept _ _ c.loop-i.points _ _ _ w.kept-is w.points-is
          w.clash-is
          (ahead_without c.args.model.now c.args.sides.now c.loop-i.kept c.at-side.result _ c.loop-i.points c.loop-i.clash
          ahead w.in-Clash.few seen)
      | in-Point+in_ok-keep-in-Point w ↦
          let seen =
          subst₂ (λ s t. IsSeen c.args.budget c.args.model.now (c.loop-i.kept ++ s) t) c.behind.ensures w.in-Point.is
          c.in_ok-few.ensures in
          ahead_same c.args.model.now c.args.sides.now _ _ _ _ _ c.loop-i.clash _
          (w.kept-is ∙ w.in_ok-keep-in-Point.ensures.kept) (w.points-is ∙ w.in_ok-keep-in-Point.ensures.points) w.clash-is
          (ahead_kept c.args.model.now c.args.sides.now c.loop-i.kept c.at-side.result _ c.loop-i.points c.loop-i.clash ahead
          w.in-Point.point seen)
    ]
