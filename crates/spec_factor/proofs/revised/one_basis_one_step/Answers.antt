use Rattle.spec_factor.proofs.SameChoices.{both, same_choice}
use Rattle.spec_factor.proofs.Next.{next_same}
use Rattle.spec_factor.proofs.revised.one_basis_one_step.Goals as goal

pub returns : goal.returns
returns c = record {
  tableau = both;
  choice = λ limit other m n f cost b t u c d st su same. same_choice m n f cost b t u st su same limit other c d;
  next = λ limit other m n f cost b t u v w c d. next_same m n f cost b limit other t u v w c d;
}
