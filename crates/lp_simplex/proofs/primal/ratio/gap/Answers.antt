-- By the three signs.
use Rattle.std.proofs.Common.{sym, ◌∙◌}
use Rattle.lp_simplex.proofs.SignCases.{gap_by}
use Rattle.lp_simplex.proofs.primal.ratio.gap.Goals as goal

pub returns-in-Less : goal.returns-in-Less
returns-in-Less c =
    c.rise.ensures ∙ gap_by _ _ c.args.entry c.args.lower c.args.upper c.args.value _ _ c.directed.ensures
    (sym c.in-Less.is ∙ c.sign.ensures)

pub returns-in-Equal : goal.returns-in-Equal
returns-in-Equal c =
    gap_by _ _ c.args.entry c.args.lower c.args.upper c.args.value _ _ c.directed.ensures
    (sym c.in-Equal.is ∙ c.sign.ensures)

pub returns-in-Greater : goal.returns-in-Greater
returns-in-Greater c =
    c.fall.ensures ∙ gap_by _ _ c.args.entry c.args.lower c.args.upper c.args.value _ _ c.directed.ensures
    (sym c.in-Greater.is ∙ c.sign.ensures)
