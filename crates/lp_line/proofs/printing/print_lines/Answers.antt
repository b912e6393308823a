use Rattle.std.proofs.Common.{◌++◌, ◌∙◌, ap, sym, append_assoc, [], ◌∷◌, take}
use Rattle.spec_server.specs.Output.{ended_lines}
use Rattle.lp_line.proofs.LineLists.{ended_lines_more}
use Rattle.lp_line.proofs.printing.print_lines.Goals as goal

pub loop-index-preserved : goal.loop-index-preserved
loop-index-preserved c =
    let more = ended_lines_more c.args.lines.now c.loop-index.index c.get.result.now c.get.ensures in
    let here = c.loop-index.invariant in
    c.in_ok-push.ensures.ok
    ∙ ap (λ zs. zs ++ 10 ∷ [])
    (c.in_ok-extend.ensures.ok ∙ ap (λ zs. zs ++ c.as_slice.result.now) here
    ∙ ap (λ zs. (c.args.to.now ++ ended_lines (take c.loop-index.index c.args.lines.now)) ++ zs) c.as_slice.ensures)
    ∙ ap (λ zs. zs ++ 10 ∷ [])
    (append_assoc c.args.to.now (ended_lines (take c.loop-index.index c.args.lines.now)) c.get.result.now)
    ∙ append_assoc c.args.to.now (ended_lines (take c.loop-index.index c.args.lines.now) ++ c.get.result.now) (10 ∷ [])
    ∙ ap (λ zs. c.args.to.now ++ zs)
    (append_assoc (ended_lines (take c.loop-index.index c.args.lines.now)) c.get.result.now (10 ∷ []) ∙ sym more)
