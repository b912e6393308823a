-- The loop over the parts.
use Rattle.std.proofs.Common.{take}
use Rattle.spec_check.specs.Certificate.{IsFor}
use Rattle.lp_certificate.specs.Marks.{HasMarks, AreMarks}
use Rattle.lp_certificate.proofs.PartPlaces.{IsOnTheWay}
use Rattle.lp_certificate.proofs.settled.put_all.Given as goal

-- The parts that were passed are noted as given. The parts from i on, put to the certificate so far, give what all of
-- them give from the first one on. The certificate still fits the model.
abbrev pub invariant-loop-i : goal.invariant-loop-i
invariant-loop-i g l = record {
  fits : IsFor l.model l.cert;
  places : HasMarks l.model l.given;
  marks : AreMarks l.model (take l.i l.parts) l.given;
  way : IsOnTheWay l.model l.parts l.fn.cert l.i l.cert;
}
