-- The parts, with their twins.
use Rattle.std.proofs.Common.{◌∙◌}
use Rattle.lp_tableau.proofs.TableauParts.{grid_block, grid_is, is_twinned, twins_are}
use Rattle.lp_tableau.proofs.start.rows.Goals as goal

pub from_block-grid-requires : goal.from_block-grid-requires
from_block-grid-requires c =
    grid_block _ _ _ _ _ c.front.ensures.value c.rows-others.ensures.value
    c.in_ok-block.ensures c.rows-others.ensures.kept

pub from_grid-requires : goal.from_grid-requires
from_grid-requires c =
    let g =
    c.from_block-grid.ensures ∙ grid_is c.args.form.now c.args.starts.now _ _ _
    c.front.ensures.value c.rows-others.ensures.value c.in_ok-block.ensures in
    is_twinned c.args.form.now c.args.starts.now _ _ _ _ c.rows-others.ensures.kept
    c.requires.starts c.cols-first.ensures.value c.rows-others.ensures.value c.in_ok-turned.ensures g

pub returns : goal.returns
returns c =
    let g =
    c.from_block-grid.ensures ∙ grid_is c.args.form.now c.args.starts.now _ _ _
    c.front.ensures.value c.rows-others.ensures.value c.in_ok-block.ensures in
    c.from_grid.ensures ∙ twins_are c.args.form.now c.args.starts.now _ _
    _ c.requires.starts c.cols-first.ensures.value c.in_ok-turned.ensures g
