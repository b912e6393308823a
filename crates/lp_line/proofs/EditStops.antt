-- Where reading an edit stops at the fault of its words, the answer is that fault.
use Rattle.std.proofs.Common.{◌≡◌, Result, Err, sym, subst, ap, ◌∙◌}
use Rattle.spec_server.specs.declared.command.LineFault.{LineFault}
use Rattle.spec_server.specs.EditCommand.{Reads}
use Rattle.lp_line.specs.declared.edits.EditStop.{EditStop}
use Rattle.lp_line.specs.declared.edits.EditStop.TheVariants.{Fault}
use Rattle.lp_line.specs.GivesWords.{GivesWords}

-- where the result is a stop at a fault, and the words read as that fault, the result is what the words give
pub gives_fault : {A : Type 0} (answer : Reads A) (result : Result A EditStop) (stop : EditStop) (fault : LineFault) →
    result ≡ Err stop → stop ≡ Fault fault → answer ≡ Err fault → GivesWords answer result
gives_fault answer result stop fault r s e = subst (GivesWords answer) (sym (r ∙ ap Err s)) e
