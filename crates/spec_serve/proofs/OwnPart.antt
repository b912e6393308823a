-- The exchanges of one session among those that begin with this one.
--
-- `own_part`: the run of a session whose exchange is first begins with this exchange.
-- `other_part`: the run of a session whose exchange is not the first is one of the exchanges behind it.
use Rattle.std.proofs.Common.{◌≡◌, ℕ, List, ◌∷◌, refl, subst, cond}
use Rattle.std.proofs.lemmas.Bool.{eq-eqb, ne_eqb}
use Rattle.spec_server.specs.Machine.{State}
use Rattle.spec_server.specs.Exchanges.{Exchange, AloneRun, of_session}

-- its own part of the exchanges begins with this one
pub own_part : (places : ℕ) (state : State) (x : Exchange) (xs : List Exchange) (end : State) →
    AloneRun places state (of_session x.session (x ∷ xs)) end → AloneRun places state (x ∷ of_session x.session xs) end
own_part places state x xs end run =
    subst (λ t. AloneRun places state (cond t (x ∷ of_session x.session xs) (of_session x.session xs)) end)
    (eq-eqb x.session x.session refl) run

pub other_part : (places : ℕ) (state : State) (x : Exchange) (xs : List Exchange) (session : ℕ) (end : State) →
    (x.session ≡ session → ⊥) → AloneRun places state (of_session session (x ∷ xs)) end →
    AloneRun places state (of_session session xs) end
other_part places state x xs session end apart run =
    subst (λ t. AloneRun places state (cond t (x ∷ of_session session xs) (of_session session xs)) end)
    (ne_eqb x.session session apart) run
