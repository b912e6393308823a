-- The number behind its words.
use Rattle.std.proofs.Common.{[], ◌∷◌, ◌++◌, refl}
use Rattle.std.specs.Prelude.{codes, decimal}
use Rattle.std.proofs.lemmas.Result.{on_ok_weaker}
use Rattle.lp_text_commands.proofs.SideLines.{one_on}
use Rattle.lp_text_commands.proofs.iis.lines.print_heading.Goals as goal

pub returns : goal.returns
returns c =
    on_ok_weaker c.push.result
    (λ pushed. one_on c.args.to.now c.push_numbered.new.to c.push.new.self
    (codes "INFEASIBLE\nIIS " ++ decimal c.args.count) (10 ∷ [])
    ((codes "INFEASIBLE\nIIS " ++ decimal c.args.count) ++ 10 ∷ []) c.in_ok-push_numbered.ensures pushed refl)
    c.push.ensures.ok
