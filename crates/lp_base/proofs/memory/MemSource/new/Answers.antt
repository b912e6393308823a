-- Nothing was read.
use Rattle.std.proofs.Common.{◌∙◌, ap}
use Rattle.lp_base.specs.Pieces.{bytes_of}
use Rattle.lp_base.proofs.PieceLemmas.{pieces_left_all, bytes_of_filled}
use Rattle.lp_base.proofs.memory.MemSource.new.Goals as goal

pub returns-clause-pieces : goal.returns-clause-pieces
returns-clause-pieces c = pieces_left_all c.args.pieces

pub returns-clause-left : goal.returns-clause-left
returns-clause-left c = ap bytes_of (pieces_left_all c.args.pieces) ∙ bytes_of_filled c.args.pieces
