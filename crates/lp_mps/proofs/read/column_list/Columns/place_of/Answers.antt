use Rattle.std.specs.Prelude.{option_map}
use Rattle.std.proofs.Common.{rules, ◌∙◌, ◌<◌, ◌≤◌, ap, length}
use Rattle.std.specs.List.{position}
use Rattle.spec_text.specs.Words.{same}
use Rattle.spec_model.specs.Model.{ExactColumn}
use Rattle.lp_mps.specs.InOrder.{ordered}
use Rattle.lp_mps.specs.Named.{ColumnsRead}
use Rattle.lp_mps.proofs.ColumnPlaces.{place_inside, place_outside, place_nowhere}
use Rattle.lp_mps.proofs.read.column_list.Columns.place_of.Goals as goal

pub returns-in-Some : goal.returns-in-Some
returns-in-Some c =
    let inside : c.in-Some.place < length c.self.inside.whole.items = search rules in
    place_inside (record { whole = c.self.inside.whole.items; current = option_map ordered c.self.inside.current })
    c.self.inside.names c.self.invariant c.args.name.now c.in-Some.place c.in-Some.ensures.value
    inside
    ∙ ap (λ (v : ColumnsRead). position (λ (x : ExactColumn). same x.name c.args.name.now) v.whole) c.self.view_is

pub returns-in_default : goal.returns-in_default
returns-in_default c =
    let outside : length c.self.inside.whole.items ≤ c.in-Some.place = search rules in
    place_outside (record { whole = c.self.inside.whole.items; current = option_map ordered c.self.inside.current })
    c.self.inside.names c.self.invariant c.args.name.now c.in-Some.place c.in-Some.ensures.value
    outside
    ∙ ap (λ (v : ColumnsRead). position (λ (x : ExactColumn). same x.name c.args.name.now) v.whole) c.self.view_is

pub returns-in_default-2 : goal.returns-in_default-2
returns-in_default-2 c =
    place_nowhere (record { whole = c.self.inside.whole.items; current = option_map ordered c.self.inside.current })
    c.self.inside.names c.self.invariant c.args.name.now (rw c.in_default.is at c.place_of.ensures.value)
    ∙ ap (λ (v : ColumnsRead). position (λ (x : ExactColumn). same x.name c.args.name.now) v.whole) c.self.view_is
