use Rattle.spec_text.proofs.LineLemmas.{lines_of_none, lines_of_line, lines_of_last}
use Rattle.spec_text.proofs.lines_from_the_front.Goals as goal

pub returns : goal.returns
returns c = record { none = lines_of_none; ended = lines_of_line; last = lines_of_last }
