use Rattle.spec_board.proofs.PackedPlaces.{packed_rows, packed_cols, packed_small, front_bits, basis_bits}
use Rattle.spec_board.proofs.bits_stand_at_their_columns.Goals as goal

pub returns : goal.returns
returns c =
    record {
      rows = packed_rows;
      columns = packed_cols;
      sizes = packed_small;
      bounds = front_bits;
      statuses = basis_bits;
    }
