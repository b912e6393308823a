use Rattle.std.proofs.Common.{◌∙◌, sym}
use Rattle.lp_mps.specs.InOrder.{ordered}
use Rattle.lp_mps.proofs.NewNames.{names_current}
use Rattle.lp_mps.proofs.read.column_list.Columns.put_number.Goals as goal

pub invariant_of-self-2 : goal.invariant_of-self-2
invariant_of-self-2 c =
    record {
      named =
          (rw c.in-Some.is at c.self.invariant.named)
          ∙ sym (names_current c.self.inside.whole.items (ordered c.in-Some.column)
          (ordered c.put_number.new.column) c.put_number.ensures.named);
    }
