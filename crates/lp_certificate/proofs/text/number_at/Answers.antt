use Rattle.std.proofs.Common.{sym}
use Rattle.std.proofs.lemmas.Option.{get_or_from_slice_get}
use Rattle.lp_certificate.proofs.text.number_at.Goals as goal

pub returns : goal.returns
returns g c =
    sym (get_or_from_slice_get c.args.values.now c.args.k c.get.result.now g.N.Number.writing.none c.get.ensures)
