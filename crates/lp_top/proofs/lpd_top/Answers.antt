-- The numbers that a command line gives, and that what it writes is true.
use Rattle.std.proofs.Common.{sym, ap, ◌∙◌, Some}
use Rattle.spec_program.specs.Spelled.{spelled, told}
use Rattle.spec_program.proofs.NumberLimits.{command-fits}
use Rattle.lp_top.proofs.Truth.{output_true, links_true}
use Rattle.lp_top.proofs.lpd_top.Goals as goal

pub obey-requires-clause-fits : goal.obey-requires-clause-fits
obey-requires-clause-fits g c = λ lives bounds.
    command-fits _ (spelled c.in-Some.command) (sym c.command_line_of.ensures ∙ ap told c.in-Some.is)

pub returns-in-Some-clause-truth : goal.returns-in-Some-clause-truth
returns-in-Some-clause-truth g c =
    rw (sym c.command_line_of.ensures ∙ ap told c.in-Some.is)
    (output_true (Some (spelled c.in-Some.command)) _ _ _ _ c.obey.ensures.output c.obey.ensures.links
    c.obey.ensures.codes)

pub returns-in-Some-clause-truth_of_links : goal.returns-in-Some-clause-truth_of_links
returns-in-Some-clause-truth_of_links g c =
    rw (sym c.command_line_of.ensures ∙ ap told c.in-Some.is)
    (links_true (Some (spelled c.in-Some.command)) _ _ _ _ c.obey.ensures.links)
