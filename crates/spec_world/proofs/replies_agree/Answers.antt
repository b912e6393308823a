use Rattle.spec_world.proofs.WorldsAgree.{worlds_agree}
use Rattle.spec_world.proofs.replies_agree.Goals as goal

pub returns : goal.returns
returns c = worlds_agree
