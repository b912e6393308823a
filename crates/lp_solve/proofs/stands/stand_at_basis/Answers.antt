use Rattle.std.proofs.Common.{◌+◌}
use Rattle.spec_model.specs.Model.{width}
use Rattle.spec_simplex.specs.Eliminate.{basis_at}
use Rattle.lp_solve.proofs.Standing.{true_if, column_stands_by, row_stands_by}
use Rattle.lp_solve.proofs.stands.stand_at_basis.Goals as goal

pub returns : goal.returns
returns c =
    let m = c.args.model.now in
    let x = c.args.x.now in
    let y = c.args.y.now in
    let basis = c.args.basis.now in
    true_if c.rows_stand.result c.rows_stand.ensures (λ stand. record {
      columns = λ j l.
          column_stands_by m x y j _ (basis_at basis j) (c.in_ok-reduced.ensures.value j l)
          (c.in_ok-columns_stand.ensures c.if-not-branch.false j l);
      rows = λ i l.
          row_stands_by m x y i _ (basis_at basis (width m + i)) (c.in_ok-point.ensures.sums.1 i l)
          (stand i l);
    })
