-- The place is marked from now on.
use Rattle.std.proofs.Common.{◌<◌, [], ◌∷◌, ◌++◌, sym, ap, ◌∙◌, subst}
use Rattle.spec_check.specs.Settle.{place_of}
use Rattle.lp_certificate.specs.declared.given.Given.{Given}
use Rattle.lp_certificate.specs.Marks.{AreMarks}
use Rattle.lp_certificate.proofs.Marking.{mark_more}
use Rattle.lp_certificate.proofs.settled.put.Goals as goal

pub returns-clause-marks : goal.returns-clause-marks
returns-clause-marks g c = λ before marks.
    subst (λ (given : Given). AreMarks c.args.model.now (before ++ c.args.part.now ∷ []) given) (sym c.mark.ensures)
    (mark_more c.args.model.now before c.args.part.now c.in-Some.k c.args.given.now
    (ap (place_of c.args.model.now c.args.part.now.letter) (sym c.as_slice.ensures) ∙ sym c.in-Some.ensures.value)
    (subst (λ n. c.in-Some.k < n) (sym (c.requires.places c.args.part.now.letter)) c.in-Some.ensures.inside) marks)
