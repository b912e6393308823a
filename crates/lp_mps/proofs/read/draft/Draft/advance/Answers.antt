use Rattle.lp_mps.specs.Draft.{state_of}
use Rattle.lp_mps.proofs.LineRuns.{end_kept}
use Rattle.lp_mps.proofs.read.draft.Draft.advance.Goals as goal

pub finish-requires : goal.finish-requires
finish-requires c =
    end_kept c.args.limits c.args.style (state_of c.args.self.now)
    (state_of c.step.new.self) c.args.line.now c.requires.most c.requires.reached
    (rw c.in-ToEnd.is at c.in_ok-step.ensures)
