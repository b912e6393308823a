use Rattle.std.proofs.Common.{◌+◌, drop, ap, ◌∙◌, arith}
use Rattle.std.proofs.lemmas.List.{take_all, length-drop}
use Rattle.lp_iis.proofs.finding.behind.Goals as goal

pub returns : goal.returns
returns c =
    take_all _ _ (omega (arith, length-drop (c.args.i + 1) c.as_slice.result.now))
    ∙ ap (drop (c.args.i + 1)) c.as_slice.ensures
