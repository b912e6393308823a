-- Only a solve looks for a basis.
use Rattle.std.proofs.Common.{◌≡◌, ℕ, List, refl, inl, inr}
use Rattle.spec_server.specs.declared.asks.Reply.TheVariants as reply
use Rattle.spec_server.specs.Machine.{ExactAsk, ExactReply, State, Due, Replies, Solves, SolvesWide, due}
use Rattle.spec_server.specs.Step.{Begun, Answers, Looks, BegunBy, Begins}
use Rattle.spec_server.proofs.Simply.{due_held}
use Rattle.spec_world.specs.World.{solve}

module _ (state : State) (shape : List ℕ) where
  -- a beginning that looks for a basis is none that answers at once
  looks_not_answers : (replied : ExactReply) (next : State) → ◌≡◌ {A = Begun} (Looks shape) (Answers replied next) → ⊥
  looks_not_answers replied next e = cc

  -- where what is due for a request begins with a look, the request is a solve
  due_looks : (asked : ExactAsk) (what : Due) → due state asked ≡ what → BegunBy state what (Looks shape) →
      asked ≡ solve
  due_looks asked (Replies stated next) is e = cc
  due_looks asked (Solves m) is e = (due_held state m asked is).0
  due_looks asked (SolvesWide m) is e = absurd (looks_not_answers _ _ e.answers)

  -- a request that looks for a shape is a solve
  pub only_solve_looks : (asked : ExactAsk) → Begins state asked (Looks shape) → asked ≡ solve
  only_solve_looks asked (inl e) = due_looks asked (due state asked) refl e
  only_solve_looks asked (inr e) = absurd (let z : Looks shape ≡ Answers reply.Memory state = e.1 in cc)
