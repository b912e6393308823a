-- The basis is one of the model's form, and what is written of that.
use Rattle.spec_runs.specs.Solve.{solve_end}
use Rattle.lp_text_commands.proofs.BasisPrints.{formless_written, leaves_basis, whole_written}
use Rattle.lp_text_commands.proofs.basis.SolveFromCommand.write.Goals as goal

pub print_whole-requires-clause-basis : goal.print_whole-requires-clause-basis
print_whole-requires-clause-basis c =
    leaves_basis c.handed.inside.model c.args.handed.now c.handed.inside.start c.handed.view_is c.handed.invariant
    (solve_end c.args.ended.now) c.in-Some.start c.in-Some.is c.requires.made

pub returns-in-Some : goal.returns-in-Some
returns-in-Some c =
    whole_written c.handed.inside.model c.args.handed.now c.handed.inside.start c.handed.view_is c.handed.invariant
    (solve_end c.args.ended.now) c.in-Some.start c.in-Some.is c.args.to.now c.print_whole.new.to c.print_whole.result
    c.print_whole.ensures

pub returns-in-None : goal.returns-in-None
returns-in-None c =
    formless_written c.handed.inside.model c.args.handed.now c.handed.inside.start c.handed.view_is c.handed.invariant
    (solve_end c.args.ended.now) c.in-None.is c.args.to.now c.print_end.new.to c.print_end.result c.print_end.ensures
