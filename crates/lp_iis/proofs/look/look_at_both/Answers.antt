use Rattle.std.proofs.Common.{Some, sym, ◌∙◌, subst}
use Rattle.std.specs.Prelude.{All}
use Rattle.spec_exact.specs.Narrow.{number_limit}
use Rattle.spec_iis.specs.Sides.{IsSide}
use Rattle.spec_iis.specs.Rule.{IsRead}
use Rattle.lp_iis.proofs.look.look_at_both.Goals as goal

pub only-requires-clause-read : goal.only-requires-clause-read
only-requires-clause-read c =
    subst (All (IsRead (Some number_limit) c.args.model.now)) (sym (c.as_slice.ensures ∙ c.in_ok-sides.ensures))
    c.requires.read

pub look_into-look-requires-clause-present : goal.look_into-look-requires-clause-present
look_into-look-requires-clause-present c =
    subst (All (IsSide c.args.model.now)) (sym c.in_ok-sides.ensures) c.requires.present
