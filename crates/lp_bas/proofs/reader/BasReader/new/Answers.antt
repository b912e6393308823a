use Rattle.std.proofs.Common.{sym, subst}
use Rattle.spec_bas.specs.Fits.{IsMarking}
use Rattle.spec_bas.proofs.Marks.{start_marks}
use Rattle.lp_bas.proofs.reader.BasReader.new.Goals as goal

pub returns-clause-marking : goal.returns-clause-marking
returns-clause-marking c =
    subst (IsMarking c.args.form.now) (sym c.in_ok-marks.ensures) (start_marks c.args.form.now)
