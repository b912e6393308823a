use Rattle.std.specs.Prelude.{option_map}
use Rattle.std.proofs.Common.{◌∙◌, ap}
use Rattle.std.specs.List.{list_any}
use Rattle.spec_text.specs.Words.{same}
use Rattle.spec_model.specs.Model.{ExactColumn}
use Rattle.spec_mps.specs.Reader.{columns_with}
use Rattle.lp_mps.specs.InOrder.{ordered}
use Rattle.lp_mps.specs.Named.{ColumnsRead}
use Rattle.lp_mps.proofs.ColumnPlaces.{has_named}
use Rattle.lp_mps.proofs.read.column_list.Columns.has.Goals as goal

pub returns : goal.returns
returns c =
    c.has.ensures ∙ has_named (record { whole = c.self.inside.whole.items; current = option_map ordered c.self.inside.current })
    c.self.inside.names c.self.invariant c.args.name.now
    ∙ ap (λ (v : ColumnsRead). list_any (λ (x : ExactColumn). same x.name c.args.name.now)
    (columns_with v.whole v.current))
    c.self.view_is
