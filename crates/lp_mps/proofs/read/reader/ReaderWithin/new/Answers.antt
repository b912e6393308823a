use Rattle.std.proofs.Common.{sym, subst}
use Rattle.lp_mps.specs.Leads.{IsReached}
use Rattle.lp_mps.proofs.LineRuns.{start_reached}
use Rattle.lp_mps.proofs.read.reader.ReaderWithin.new.Goals as goal

pub invariant_of-result : goal.invariant_of-result
invariant_of-result c = (
  c.requires,
  subst (IsReached c.args.limits c.args.style) (sym c.new.ensures)
      (start_reached c.args.limits c.args.style),
)
