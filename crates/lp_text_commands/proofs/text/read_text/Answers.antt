-- From the start of a text on.
use Rattle.lp_text_commands.proofs.Saying.{solve_reads, wide_solve_reads, check_reads, wide_reads, basis_reads, wide_basis_reads, presolve_reads, iis_reads, range_reads, ranges_reads}
use Rattle.lp_text_commands.proofs.text.read_text.Goals as goal

pub returns-in-Solve-clause-output : goal.returns-in-Solve-clause-output
returns-in-Solve-clause-output g c =
    solve_reads c.args.style c.args.command _ _ c.in-Solve.is c.say_text.ensures.output

pub returns-in-SolveWide-clause-output : goal.returns-in-SolveWide-clause-output
returns-in-SolveWide-clause-output g c =
    wide_solve_reads c.args.style c.new.result c.new.ensures c.args.command c.in-SolveWide.is
    _ _ c.say.ensures.output

pub returns-in-Check-clause-output : goal.returns-in-Check-clause-output
returns-in-Check-clause-output g c =
    check_reads c.args.style c.new-in-Check.result c.new-in-Check.ensures c.args.command c.in-Check.is _ _
    c.say-in-Check.ensures.output

pub returns-in-CheckWide-clause-output : goal.returns-in-CheckWide-clause-output
returns-in-CheckWide-clause-output g c =
    wide_reads c.args.style c.new-in-CheckWide.result c.new-in-CheckWide.ensures c.args.command c.in-CheckWide.is _ _
    c.say-in-CheckWide.ensures.output

pub returns-in-Basis-clause-output : goal.returns-in-Basis-clause-output
returns-in-Basis-clause-output g c =
    basis_reads c.args.style c.args.command c.in-Basis.is _ _ c.say_basis.ensures.output

pub returns-in-BasisWide-clause-output : goal.returns-in-BasisWide-clause-output
returns-in-BasisWide-clause-output g c =
    wide_basis_reads c.args.style c.args.command c.in-BasisWide.is _ _ c.say_basis-in-BasisWide.ensures.output

pub returns-in-Presolve-clause-output : goal.returns-in-Presolve-clause-output
returns-in-Presolve-clause-output g c =
    presolve_reads c.args.style c.args.command _ _ c.in-Presolve.is
    c.say_text-in-Presolve.ensures.output

pub returns-in-Iis-clause-output : goal.returns-in-Iis-clause-output
returns-in-Iis-clause-output g c =
    iis_reads c.args.style c.args.command _ _ c.in-Iis.is
    c.say_text-in-Iis.ensures.output

pub returns-in-Range-clause-output : goal.returns-in-Range-clause-output
returns-in-Range-clause-output g c =
    range_reads c.args.style c.args.command c.in-Range.moved c.in-Range.name c.in-Range.is _ _
    c.say_range.ensures.output

pub returns-in-RangeAll-clause-output : goal.returns-in-RangeAll-clause-output
returns-in-RangeAll-clause-output g c =
    ranges_reads c.args.style c.args.command _ _ c.in-RangeAll.is
    c.say_text-in-RangeAll.ensures.output
