-- What is known of the sides and the points, and all pieces behind one another.
use Rattle.std.proofs.Common.{[], ◌∷◌, ◌++◌, ap, sym, ◌∙◌}
use Rattle.std.specs.Prelude.{codes, decimal}
use Rattle.std.proofs.lemmas.Result.{on_ok_weaker}
use Rattle.spec_server.specs.Machine.{opening_budget}
use Rattle.lp_text_commands.proofs.SideLines.{five_on, heading_text, whole}
use Rattle.lp_text_commands.proofs.Finding.{found_read, points_fit}
use Rattle.lp_text_commands.proofs.iis.lines.print_found.Goals as goal

pub print_sides-requires : goal.print_sides-requires
print_sides-requires c = c.requires.found.irreducible.present

pub print_certificate-requires-clause-read : goal.print_certificate-requires-clause-read
print_certificate-requires-clause-read c =
    found_read c.args.model.now opening_budget c.args.sides.now c.args.certificate.now c.args.points.now c.requires.found

pub print_certificate-requires-clause-fits : goal.print_certificate-requires-clause-fits
print_certificate-requires-clause-fits c = c.requires.found.certificate.fits

pub print_points-requires : goal.print_points-requires
print_points-requires c =
    points_fit c.args.model.now c.args.sides.now c.args.points.now c.requires.found.without

pub returns : goal.returns
returns c =
    on_ok_weaker c.extend.result
    (λ printed. five_on c.args.to.now _ _ _ _ _ (heading_text c.args.sides.now) _ _ _ _
    (c.in_ok-print_heading.ensures
    ∙ ap (λ n. c.args.to.now ++ ((codes "INFEASIBLE\nIIS " ++ decimal n) ++ 10 ∷ [])) c.len.ensures)
    c.in_ok-print_sides.ensures
    c.in_ok-print_certificate.ensures c.in_ok-print_points.ensures printed
    ∙ ap (λ text. c.args.to.now ++ text)
    (sym (whole c.args.model.now c.args.sides.now c.args.certificate.now c.args.points.now)))
    c.extend.ensures.ok
