use Rattle.spec_commands.proofs.LastAnswers.{last_stands}
use Rattle.spec_serve.proofs.KeptAsks.{served_front_kept}
use Rattle.spec_text_truth.proofs.last_answers_of_links_stand_up.Goals as goal

pub returns : goal.returns
returns c = λ places s before behind moves state m last known cert basis pivots run held is ended.
    last_stands places before state m last known cert basis pivots
    (served_front_kept places s before behind moves) run held is ended
