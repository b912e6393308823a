-- The parts one after the other, up to the first that does not fit.
use Rattle.std.proofs.Common.{sym, subst, take, refl}
use Rattle.spec_model.specs.Model.{width, height}
use Rattle.lp_certificate.specs.Marks.{AreMarks}
use Rattle.lp_certificate.proofs.Marking.{nothing_has, none_marked}
use Rattle.lp_certificate.proofs.PartPlaces.{front_of, one_more, stopped, all_put}
use Rattle.lp_certificate.proofs.settled.put_all.Goals as goal

pub loop-i-init : goal.loop-i-init
loop-i-init g c = record {
  fits = c.requires;
  places = nothing_has c.args.model.now c.in_ok-given.given c.in_ok-given.ensures.x c.in_ok-given.ensures.y c.in_ok-given.ensures.r;
  marks =
      none_marked c.args.model.now (take 0 c.args.parts.now) (width c.args.model.now) (height c.args.model.now)
      (width c.args.model.now) c.in_ok-given.given refl c.in_ok-given.ensures.x c.in_ok-given.ensures.y
      c.in_ok-given.ensures.r;
  way = refl;
}

pub loop-i-preserved : goal.loop-i-preserved
loop-i-preserved g c =
    let parts = c.args.parts.now in
    let i = c.loop-i.i in
    let p = c.index-parts-i.result in
    record {
      fits = c.put.ensures.fits;
      places = c.put.ensures.places;
      marks =
          subst (λ ps. AreMarks c.args.model.now ps c.put.new.given) (front_of parts i p c.loop-i-test.true (sym c.index-parts-i.is))
          (c.in_default.ensures.marks (take i parts) c.loop-i.invariant.marks);
      way =
          one_more c.args.model.now parts i p c.args.cert.now c.loop-i.cert c.put.new.cert c.loop-i-test.true
          (sym c.index-parts-i.is) c.loop-i.invariant.way (c.in_default.ensures.answer (take i parts) c.loop-i.invariant.marks);
    }

pub returns-in-Err-clause-answer : goal.returns-in-Err-clause-answer
returns-in-Err-clause-answer g c =
    stopped c.args.model.now c.args.parts.now c.loop-i.i c.index-parts-i.result c.args.cert.now c.loop-i.cert c.in-Err.error
    c.loop-i-test.true (sym c.index-parts-i.is) c.loop-i.invariant.way
    (c.in-Err.ensures.answer (take c.loop-i.i c.args.parts.now) c.loop-i.invariant.marks)

pub returns-clause-answer : goal.returns-clause-answer
returns-clause-answer g c =
    all_put c.args.model.now c.args.parts.now c.loop-i.i c.args.cert.now c.loop-i.cert c.loop-i-test.false
    c.loop-i.invariant.way
