-- A column has an item for each row.
use Rattle.std.proofs.Common.{ap, length, ◌∙◌}
use Rattle.spec_exact.proofs.RunsInOrder.{length-made}
use Rattle.spec_factor.specs.Factors.{column_entry}
use Rattle.lp_revised.proofs.choose.column_of.Goals.{then-k-cols, else-k-cols}
use Rattle.lp_revised.proofs.choose.column_of.Goals as goal

pub returns-clause-all : goal.returns-clause-all
returns-clause-all c =
    elim c.if-k-cols.branch [
      | then-k-cols w ↦
          ap length (w.column-is ∙ w.put_negatives.ensures)
          ∙ length-made c.args.form.now.rows (λ i. column_entry c.args.form.now i c.args.k)
      | else-k-cols w ↦
          ap length (w.column-is ∙ w.put_one.ensures)
          ∙ length-made c.args.form.now.rows (λ i. column_entry c.args.form.now i c.args.k)
    ]
