-- What replies many workers may give to the asks of a script.
use Rattle.std.specs.Prelude.{ℕ, ◌≡◌, List, map}
use Rattle.spec_server.specs.declared.asks.Asked.{Asked}
use Rattle.spec_server.specs.Machine.{ExactAsk, ExactReply}
use Rattle.spec_server.specs.Exchanges.{Exchange, asked_in}
use Rattle.spec_serve.specs.Workers.{ManyFits}

-- there are exchanges of these requests with these replies, in this order,
-- that so many workers may have had with so many places
pub record AnswersAll (workers places : ℕ) (asks : List (Asked ExactAsk)) (replies : List ExactReply) : Type 0 where
  pub exchanges : List Exchange
  pub asked : map asked_in exchanges ≡ asks
  pub replied : map (λ (x : Exchange). x.reply) exchanges ≡ replies
  pub fits : ManyFits places workers exchanges
