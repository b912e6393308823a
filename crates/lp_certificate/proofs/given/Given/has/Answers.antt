use Rattle.std.proofs.Common.{sym, false}
use Rattle.std.proofs.lemmas.Option.{get_or_from_slice_get}
use Rattle.lp_certificate.proofs.given.Given.has.Goals as goal

pub returns-in-X : goal.returns-in-X
returns-in-X c =
    rw c.in-X.is (sym (get_or_from_slice_get c.args.self.now.x c.args.k c.at.result false c.at.ensures))

pub returns-in-Y : goal.returns-in-Y
returns-in-Y c =
    rw c.in-Y.is (sym (get_or_from_slice_get c.args.self.now.y c.args.k c.at-in-Y.result false c.at-in-Y.ensures))

pub returns-in-R : goal.returns-in-R
returns-in-R c =
    rw c.in-R.is (sym (get_or_from_slice_get c.args.self.now.r c.args.k c.at-in-R.result false c.at-in-R.ensures))
