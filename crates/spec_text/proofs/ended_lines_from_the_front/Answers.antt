use Rattle.spec_text.proofs.LineLemmas.{ended_lines_of_line, ended_lines_of_last}
use Rattle.spec_text.proofs.ended_lines_from_the_front.Goals as goal

pub returns : goal.returns
returns c = record { ended = ended_lines_of_line; last = ended_lines_of_last }
