use Rattle.spec_commands.proofs.LastAnswers.{last_stands}
use Rattle.spec_commands.proofs.last_answers_stand_up.Goals as goal

pub returns : goal.returns
returns c = last_stands
