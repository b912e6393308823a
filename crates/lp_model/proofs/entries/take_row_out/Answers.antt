use Rattle.std.proofs.Common.{subst}
use Rattle.lp_model.specs.Place.{StandsAt, BelongsAt}
use Rattle.lp_model.proofs.Lowered.{lowered-own, lowered-none}
use Rattle.lp_model.proofs.entries.take_row_out.Goals as goal

pub returns-in-Ok : goal.returns-in-Ok
returns-in-Ok c =
    let stands : StandsAt c.args.row c.in-Ok.own c.args.entries.now =
    subst (StandsAt c.args.row c.in-Ok.own) c.as_slice.ensures c.in-Ok.ensures in
    lowered-own _ _ _ _ _ stands c.remove.ensures c.lower_rows.ensures

pub returns-in-Err : goal.returns-in-Err
returns-in-Err c =
    let belongs : BelongsAt c.args.row c.in-Err.place c.args.entries.now =
    subst (BelongsAt c.args.row c.in-Err.place) c.as_slice.ensures c.in-Err.ensures in
    lowered-none _ _ _ _ belongs c.lower_rows-in-Err.ensures
