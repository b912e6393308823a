-- The model is within the limits, and what is written of what is said.
use Rattle.std.proofs.lemmas.Result.{err_from_is_err_and}
use Rattle.spec_model.specs.Kept.{IsModelWithin}
use Rattle.spec_commands.specs.BasisOut.{Handed, basis_code, basis_fault_line, basis_said}
use Rattle.lp_text_commands.specs.Said.{SaidOut}
use Rattle.lp_text_commands.proofs.Saying.{says_nothing, says, basis_agrees}
use Rattle.lp_text_commands.proofs.SpelledKept.{may_take}
use Rattle.lp_text_commands.proofs.BasisKept.{heard_within}
use Rattle.lp_text_commands.proofs.basis.said.say_basis.Goals as goal

pub send_output-requires : goal.send_output-requires
send_output-requires g c =
    may_take (λ (handed : Handed). IsModelWithin c.args.limits handed.model) (g.C.Command.takes c.args.command)
    c.in_ok-said.said c.requires.takes
    (heard_within c.args.limits c.args.style (g.S.Source.left c.args.src.now)
    (g.S.Source.left c.hear_input.new.src) c.in_ok-said.said
    (c.in_ok-said.ensures.output (basis_said c.args.limits c.args.style)
    (basis_agrees c.args.limits c.args.style c.new-text.result c.new-text.ensures)))

pub returns-in_err-said-clause-output : goal.returns-in_err-said-clause-output
returns-in_err-said-clause-output g c =
    let p = err_from_is_err_and c.from_residual.result c.from_residual.ensures.1 in
    says_nothing (basis_said c.args.limits c.args.style)
    (SaidOut (g.C.Command.may_write c.args.command) basis_fault_line) basis_code (g.S.Source.left c.args.src.now)
    (g.S.Source.left c.hear_input.new.src) (g.K.Sink.taken c.args.out.now) c.in_err-said.field-0.0
    (c.in_err-said.ensures.output (basis_said c.args.limits c.args.style)
    (basis_agrees c.args.limits c.args.style c.new-text.result c.new-text.ensures)) c.from_residual.result p.0 p.1 p.2

pub returns-clause-output : goal.returns-clause-output
returns-clause-output g c =
    says (basis_said c.args.limits c.args.style) (SaidOut (g.C.Command.may_write c.args.command) basis_fault_line)
    basis_code (g.S.Source.left c.args.src.now) (g.S.Source.left c.hear_input.new.src) (g.K.Sink.taken c.args.out.now)
    c.in_ok-said.said
    (c.in_ok-said.ensures.output (basis_said c.args.limits c.args.style)
    (basis_agrees c.args.limits c.args.style c.new-text.result c.new-text.ensures)) _ c.send_output.result
    c.send_output.ensures.output
