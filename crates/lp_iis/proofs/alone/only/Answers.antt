-- The parts are those of a model that may be kept.
use Rattle.std.proofs.Common.{subst}
use Rattle.std.specs.Prelude.{All}
use Rattle.spec_model.specs.Kept.{IsNarrowRow}
use Rattle.spec_iis.specs.Only.{only}
use Rattle.spec_iis.proofs.Keeping.{only_kept, only_within}
use Rattle.lp_iis.proofs.alone.only.Goals as goal

pub new-requires : goal.new-requires
unfolding only
new-requires c =
    rw (
      c.in_ok-copy.ensures,
      c.name.ensures,
      c.in_ok-copy-2.ensures,
      c.objective.ensures,
      c.zero.ensures,
      c.in_ok-rows.ensures.value,
      c.in_ok-columns.ensures,
    )
    (only_kept c.args.model.now c.args.sides.now c.requires.kept.0
    (subst (All IsNarrowRow) c.in_ok-rows.ensures.value c.in_ok-rows.ensures.narrow))

pub returns-clause-usual : goal.returns-clause-usual
unfolding only
returns-clause-usual c =
    rw (
      c.new.ensures,
      c.in_ok-copy.ensures,
      c.name.ensures,
      c.in_ok-copy-2.ensures,
      c.objective.ensures,
      c.zero.ensures,
      c.in_ok-rows.ensures.value,
      c.in_ok-columns.ensures,
    )
    (only_within c.args.model.now c.args.sides.now c.requires.kept.1)
