-- Where the lines of a script spell a model that a session is to hold.
use Rattle.std.specs.Prelude.{ℕ, ◌≡◌, Some, List, ◌∷◌, ◌++◌}
use Rattle.spec_text.specs.declared.line.Line.{Line}
use Rattle.spec_model.specs.Model.{Model}
use Rattle.spec_mps.specs.declared.style.Style.{Style}
use Rattle.spec_mps.specs.Steps.{Spells}
use Rattle.spec_server.specs.declared.addressing.Addressing.{Addressing}
use Rattle.spec_server.specs.declared.asks.Asked.{Asked}
use Rattle.spec_server.specs.declared.command.Command.TheVariants.{Load}
use Rattle.spec_server.specs.Addressing.{addressed_in}
use Rattle.spec_server.specs.Machine.{ExactAsk}
use Rattle.spec_server.specs.Script.{Between, pending_after, asks_from}

-- The first of the script's lines make the requests `before` and end between two commands. The next line is LOAD for
-- the session, and the lines right behind it spell the model m. Other lines may follow.
pub record IsLoadedFrom (addressing : Addressing) (lines : List (Line (List ℕ))) (before : List (Asked ExactAsk))
    (session : ℕ) (m : Model) : Type 0 where
  pub style : Style
  pub front : List (Line (List ℕ))
  pub command : Line (List ℕ)
  pub body : List (Line (List ℕ))
  pub behind : List (Line (List ℕ))
  pub cut : lines ≡ front ++ command ∷ (body ++ behind)
  pub asked : asks_from addressing Between front ≡ before
  pub between : pending_after addressing Between front ≡ Between
  pub is_load : addressed_in addressing command ≡ Some (record { session = session; ask = Load style })
  pub spelled : Spells style body m
