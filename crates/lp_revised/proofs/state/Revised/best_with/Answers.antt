-- The position as the step sees it.
use Rattle.std.proofs.Common.{◌∙◌, ap, sym}
use Rattle.spec_simplex.specs.Tableau.{lower_at, upper_at, value_at}
use Rattle.spec_factor.specs.Revised.{seen}
use Rattle.lp_simplex.proofs.Positions.{position_is}
use Rattle.lp_revised.proofs.Seen.{seen_at}
use Rattle.lp_revised.proofs.state.Revised.best_with.Goals as goal

pub returns : goal.returns
returns c =
    c.best_at.ensures
    ∙ position_is (seen c.args.starts.now c.args.self.now.bare c.args.e.col c.args.solved.now) c.args.e c.args.i
    c.args.best c.basic-col.result c.entry.result c.lower.result c.upper.result c.value.result c.basic-col.ensures.value
    (c.entry.ensures ∙ sym (seen_at c.args.starts.now c.args.self.now.bare c.args.e.col c.args.solved.now c.args.i
    c.requires.place))
    (c.lower.ensures ∙ ap (lower_at c.args.self.now.bare) c.basic-col.ensures.value)
    (c.upper.ensures ∙ ap (upper_at c.args.self.now.bare) c.basic-col.ensures.value)
    (c.value.ensures ∙ ap (value_at c.args.self.now.bare) c.basic-col.ensures.value)
