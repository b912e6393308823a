use Rattle.std.proofs.Common.{not, ap, ◌∙◌}
use Rattle.lp_mps.proofs.MarkLists.{among_marks, mark_put}
use Rattle.lp_mps.proofs.read.targets.Targets.insert.Goals as goal

pub returns-clause-value : goal.returns-clause-value
returns-clause-value c =
    c.in_ok-is_new.ensures.added
    ∙ ap not (among_marks c.args.target _ c.self.inside.marks.keys c.args.self.now c.mark_of.ensures c.self.view_is)

pub returns-clause-put : goal.returns-clause-put
returns-clause-put c =
    mark_put c.args.target _ c.self.inside.marks.keys _ c.args.self.now _ c.mark_of.ensures c.self.view_is
    c.in_ok-is_new.ensures.added c.in_ok-is_new.ensures.keys
