use Rattle.std.specs.Prelude.{option_map}
use Rattle.lp_mps.specs.InOrder.{ordered}
use Rattle.lp_mps.proofs.ColumnPlaces.{begin_new}
use Rattle.lp_mps.proofs.read.column_list.Columns.begin.Goals as goal

pub push-requires : goal.push-requires
push-requires c =
    begin_new (record { whole = c.self.inside.whole.items; current = option_map ordered c.self.inside.current })
    c.self.inside.names c.self.invariant c.args.name.now c.args.self.now c.self.view_is c.requires.closed
    c.requires.new
