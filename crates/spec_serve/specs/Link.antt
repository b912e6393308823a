-- What a link asks: its lines name no session, and it ends at the first QUIT.
use Rattle.std.specs.Prelude.{ℕ, ◌≡◌, ◌⊎◌, ◌++◌, Bool, true, false, Option, List, [], ◌∷◌, map}
use Rattle.std.specs.Prelude.{if◌then◌else◌}
use Rattle.std.specs.List.{flat_map, list_any}
use Rattle.std.specs.Io.KnownBytes.{Consumes, Appends, IsAtEnd}
use Rattle.spec_text.specs.Lines.{IsPrefixOf}
use Rattle.spec_server.specs.declared.addressing.Addressing.TheVariants.{Alone}
use Rattle.spec_server.specs.declared.asks.Ask.TheVariants as ask
use Rattle.spec_server.specs.declared.asks.Asked.{Asked}
use Rattle.spec_server.specs.declared.command.Plain.TheVariants as command
use Rattle.spec_server.specs.Machine.{ExactAsk, State, opening}
use Rattle.spec_server.specs.Exchanges.{Exchange, asked_in, AloneRun}
use Rattle.spec_server.specs.Output.{reply_lines}
use Rattle.spec_server.specs.Script.{Script, Ending, Ended, Cut, Over, ended_asks_of, script_of}
use Rattle.spec_server.specs.Streams.{Streams}
use Rattle.spec_serve.specs.declared.link_end.LinkEnd.{LinkEnd}
use Rattle.spec_serve.specs.declared.link_end.LinkEnd.TheVariants as end

-- ---- what is asked

-- whether a request is `QUIT`
abbrev pub is_quit : ExactAsk → Bool
is_quit (ask.Plain command.Quit) = true
is_quit other = false

-- whether one of some requests is `QUIT`
abbrev pub quits : List (Asked ExactAsk) → Bool
quits asks = list_any (λ asked. is_quit asked.ask) asks

-- the requests up to the first QUIT, which is one of them; all where there is no QUIT
abbrev pub up_to_quit : List (Asked ExactAsk) → List (Asked ExactAsk)
up_to_quit [] = []
up_to_quit (asked ∷ asks) = asked ∷ (if is_quit asked.ask then [] else up_to_quit asks)

-- a link's requests up to the first QUIT, behind which it has ended; without a QUIT all of them,
-- and the script's own end
abbrev pub until_quit : Script → Script
until_quit s = record { asks = up_to_quit s.asks; ending = if quits s.asks then Ended else s.ending }

-- the requests of a link up to QUIT in the lines that end among these bytes, within the limit on a link's bytes
unfoldable pub ended_link_asks_of : List ℕ → List (Asked ExactAsk)
ended_link_asks_of bytes = up_to_quit (ended_asks_of Alone bytes)

-- the requests of a link up to QUIT in the lines of these bytes, and how they end. Past the limit on bytes, only lines
-- that end within it count
unfoldable pub link_asks_of : List ℕ → Script
link_asks_of bytes = until_quit (script_of Alone bytes)

-- ---- what is written

-- the bytes that are written to a link: its exchanges' replies in order, without the session's number
abbrev pub link_out : List Exchange → List ℕ
link_out xs = flat_map (λ x. reply_lines Alone x.session x.reply) xs

-- ---- the service of a link

-- the list `first` is a prefix of the list `all`
abbrev pub AreFirstOf : {X : Type 0} → List X → List X → Type 0
AreFirstOf {X} first all = (more : List X) × (all ≡ first ++ more)

-- P holds of all bytes that a link sends: of those that were read, where no more come, and else of them with any bytes
-- behind
abbrev pub HoldsOfAll : Option (List ℕ) → List ℕ → (List ℕ → Type 0) → Type 0
HoldsOfAll after read P = (IsAtEnd after × P read) ⊎ ((more : List ℕ) → P (read ++ more))

-- A link's service read these bytes, had these exchanges of its first requests, in which its session runs alone from
-- its opening, and wrote a beginning of their output.
pub record LinkMoves (places : ℕ) (s : Streams) (exchanges : List Exchange) : Type 0 where
  pub read : List ℕ
  pub written : List ℕ
  pub last : State
  pub consumed : Consumes s.left_before s.left_after read
  pub appended : Appends s.taken_before s.taken_after written
  pub asks : HoldsOfAll s.left_after read (λ bytes. AreFirstOf (map asked_in exchanges) (link_asks_of bytes).asks)
  pub runs : AloneRun places opening exchanges last
  pub front : IsPrefixOf written (link_out exchanges)

-- the exchanges are of all that the link asks, which ends so, and their whole output was written
pub record EndsLink {places : ℕ} {s : Streams} {exchanges : List Exchange} (moves : LinkMoves places s exchanges)
    (ending : Ending) : Type 0 where
  pub asked : HoldsOfAll s.left_after moves.read
      (λ bytes. link_asks_of bytes ≡ record { asks = map asked_in exchanges; ending = ending })
  pub whole : moves.written ≡ link_out exchanges

-- the exchanges are of the requests in lines that end among the bytes read, and their whole output was written
pub record BreaksLink {places : ℕ} {s : Streams} {exchanges : List Exchange} (moves : LinkMoves places s exchanges) :
    Type 0 where
  pub asked : map asked_in exchanges ≡ ended_link_asks_of moves.read
  pub whole : moves.written ≡ link_out exchanges

-- What the end of a link tells of the bytes that were read: they ended between two commands or at QUIT, ended inside a
-- text or certificate, were more than the limit, or reading failed. A failed write, or a lack of memory, tells nothing.
abbrev pub EndsLinkSo : {places : ℕ} {s : Streams} {exchanges : List Exchange} → LinkMoves places s exchanges →
    LinkEnd → Type 0
EndsLinkSo moves end.Done = EndsLink moves Ended
EndsLinkSo moves end.Cut = EndsLink moves Cut
EndsLinkSo moves end.Over = EndsLink moves Over
EndsLinkSo moves end.Read = BreaksLink moves
EndsLinkSo moves end.Write = Unit {0}
EndsLinkSo moves end.NoMemory = Unit {0}

-- the service of a link read and wrote these bytes, had these exchanges, and ended in a way that is true of them
abbrev pub ServesLink : ℕ → Streams → List Exchange → LinkEnd → Type 0
ServesLink places s exchanges end = (moves : LinkMoves places s exchanges) × EndsLinkSo moves end
