use Rattle.std.proofs.Common.{◌∙◌, sym, ap, Bool, Less, Equal, Greater, Ok, Some, cond}
use Rattle.lp_natural.specs.Whole.{whole}
use Rattle.lp_rows.specs.Ratio.{best_of}
use Rattle.lp_rows.proofs.Crosswise.{chosen, lesser, not_lesser}
use Rattle.lp_rows.proofs.ratio.better.Goals as goal

pub returns-in-Less-clause-value : goal.returns-in-Less-clause-value
returns-in-Less-clause-value g c d p =
    chosen (whole c.args.new.gap.negative (g.T.Words.value c.args.new.gap.size))
    (whole c.args.best.gap.negative (g.T.Words.value c.args.best.gap.size)) d (g.T.Words.value c.args.new.entry)
    (g.T.Words.value c.args.best.entry) (best_of g.T.Words.value d c.args.new) (best_of g.T.Words.value d c.args.best)
    Less p c.requires.first c.requires.second (sym c.in-Less.is ∙ c.order.ensures)

pub returns-then-new-best-clause-value : goal.returns-then-new-best-clause-value
returns-then-new-best-clause-value g c d p =
    chosen (whole c.args.new.gap.negative (g.T.Words.value c.args.new.gap.size))
    (whole c.args.best.gap.negative (g.T.Words.value c.args.best.gap.size)) d (g.T.Words.value c.args.new.entry)
    (g.T.Words.value c.args.best.entry) (best_of g.T.Words.value d c.args.new) (best_of g.T.Words.value d c.args.best)
    Equal p c.requires.first c.requires.second (sym c.in-Equal.is ∙ c.order.ensures)
    ∙ ap (λ (b : Bool). Ok
    (Some (cond b (best_of g.T.Words.value d c.args.new) (best_of g.T.Words.value d c.args.best))))
    (lesser _ _ c.if-new-best.true)

pub returns-else-new-best-clause-value : goal.returns-else-new-best-clause-value
returns-else-new-best-clause-value g c d p =
    chosen (whole c.args.new.gap.negative (g.T.Words.value c.args.new.gap.size))
    (whole c.args.best.gap.negative (g.T.Words.value c.args.best.gap.size)) d (g.T.Words.value c.args.new.entry)
    (g.T.Words.value c.args.best.entry) (best_of g.T.Words.value d c.args.new) (best_of g.T.Words.value d c.args.best)
    Equal p c.requires.first c.requires.second (sym c.in-Equal.is ∙ c.order.ensures)
    ∙ ap (λ (b : Bool). Ok
    (Some (cond b (best_of g.T.Words.value d c.args.new) (best_of g.T.Words.value d c.args.best))))
    (not_lesser _ _ c.if-new-best.false)

pub returns-in-Greater-clause-value : goal.returns-in-Greater-clause-value
returns-in-Greater-clause-value g c d p =
    chosen (whole c.args.new.gap.negative (g.T.Words.value c.args.new.gap.size))
    (whole c.args.best.gap.negative (g.T.Words.value c.args.best.gap.size)) d (g.T.Words.value c.args.new.entry)
    (g.T.Words.value c.args.best.entry) (best_of g.T.Words.value d c.args.new) (best_of g.T.Words.value d c.args.best)
    Greater p c.requires.first c.requires.second (sym c.in-Greater.is ∙ c.order.ensures)
