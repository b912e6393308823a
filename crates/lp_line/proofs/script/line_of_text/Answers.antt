use Rattle.std.proofs.Common.{arith, refl}
use Rattle.std.proofs.lemmas.Grind.{common_steps}
use Rattle.lp_line.proofs.ScriptTurns.{text_goes_on, text_ends, leads_as}
use Rattle.lp_line.proofs.script.line_of_text.Goals as goal

pub returns-then-not-ends : goal.returns-then-not-ends
returns-then-not-ends c =
    text_goes_on c.args.session c.args.body c.in_ok-body.body c.args.line.now c.requires.given
    (grind (arith, common_steps)) c.in_ok-body.ensures

pub returns : goal.returns
returns c =
    leads_as _ c.args.line.now c.asked.result _ c.asked.ensures
    (text_ends c.args.session c.args.body c.in_ok-body.body c.args.line.now c.in_ok-said.said c.ask_of_text.result _
    c.requires.given
    (grind (arith, common_steps)) c.in_ok-body.ensures c.in_ok-said.ensures c.ask_of_text.ensures refl)
