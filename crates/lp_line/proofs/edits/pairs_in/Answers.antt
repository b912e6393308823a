use Rattle.std.proofs.Common.{sym}
use Rattle.std.proofs.lemmas.Result.{err_from_is_err_and}
use Rattle.std.proofs.lemmas.Option.{IfSome_then}
use Rattle.spec_server.specs.EditCommand.{numbers_in}
use Rattle.lp_line.proofs.EditStops.{gives_fault}
use Rattle.lp_line.proofs.PairsLeft.{one_read, first_fault, none_left}
use Rattle.lp_line.proofs.edits.pairs_in.Goals as goal

pub returns-in_err-value : goal.returns-in_err-value
returns-in_err-value c =
    let p = err_from_is_err_and c.from_residual.result c.from_residual.ensures.1 in
    IfSome_then _ c.loop-left.invariant
    (λ all left.
    gives_fault (numbers_in all) c.from_residual.result p.0 c.in_err-value.field-0.0 p.1 p.2
    (first_fault _ all _ left _ _ c.in-len2-up.len_at_least c.name-item.is c.value-item.is _
    (sym c.in_err-value.ensures)))

pub loop-left-preserved : goal.loop-left-preserved
loop-left-preserved c =
    one_read c.args.words.now _ _ _ _ _ _ _ c.loop-left.invariant c.in-len2-up.len_at_least c.name-item.is
    c.value-item.is
    (sym c.in_ok-value.ensures) c.in_ok-name_in.ensures c.in_ok-push.ensures.ok

pub returns : goal.returns
returns c = IfSome_then _ c.loop-left.invariant (λ all left. none_left all _ _ left c.in_default.len_below)
