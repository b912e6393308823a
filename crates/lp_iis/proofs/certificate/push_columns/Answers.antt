use Rattle.std.proofs.Common.{Some, arith}
use Rattle.spec_exact.specs.Narrow.{number_limit}
use Rattle.spec_iis.proofs.Readings.{priced_read}
use Rattle.lp_iis.proofs.certificate.push_columns.Goals as goal

pub push_column-requires-clause-read : goal.push_column-requires-clause-read
push_column-requires-clause-read c =
    priced_read (Some number_limit) c.args.model.now c.args.y.now c.requires.accepted c.loop-j.j
    (omega (arith, c.loop-j-test.true, c.cols-j-end.ensures.value))
