-- What the source and the sink in memory show.
use Rattle.std.specs.Prelude.{ℕ, List}
use Rattle.lp_base.specs.Pieces.{pieces_left, bytes_of}
use Rattle.lp_base.specs.declared.memory.MemSource.{MemSource}
use Rattle.lp_base.specs.declared.memory.MemSink.{MemSink}

-- the pieces that a source in memory has still to give, none of which is empty; the first may be the rest of a piece
abbrev pub unread_pieces : MemSource → List (List ℕ)
unread_pieces s = pieces_left s.piece s.from s.pieces

-- the bytes that a source in memory has still to give
abbrev pub unread : MemSource → List ℕ
unread s = bytes_of (unread_pieces s)

-- the number of the source's next read, from 1; past the end of its type it stays
abbrev pub next_read : MemSource → ℕ
next_read s = s.calls.next

-- the numbers of the source's reads that fail
abbrev pub failing_reads : MemSource → List ℕ
failing_reads s = s.calls.fails.items

-- how many reads of a source in memory have failed
abbrev pub source_faults : MemSource → ℕ
source_faults s = s.calls.faults

-- the bytes that a sink in memory has taken
abbrev pub bytes_taken : MemSink → List ℕ
bytes_taken s = s.bytes.items

-- the number of the sink's next write, from 1; past the end of its type it stays
abbrev pub next_write : MemSink → ℕ
next_write s = s.calls.next

-- the numbers of the sink's writes that fail
abbrev pub failing_writes : MemSink → List ℕ
failing_writes s = s.calls.fails.items

-- how many writes to a sink in memory have failed
abbrev pub sink_faults : MemSink → ℕ
sink_faults s = s.calls.faults
