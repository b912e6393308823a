-- The models that a link asks to hold are spelled by its lines.
--
-- `link_ended`: a model that the ended lines of a link ask to hold is spelled by the ones behind a LOAD.
-- `link_whole`: a model that a link of at most 2 ^ 26 bytes asks to hold is spelled by its lines behind a LOAD.
use Rattle.std.proofs.Common.{◌≡◌, ℕ, ◌≤◌, ◌<◌, List, ◌∷◌, ◌++◌, length, take, map, sym, ap, ◌∙◌, append_assoc}
use Rattle.std.proofs.lemmas.List.{map-append}
use Rattle.spec_text.specs.Lines.{lines_of, ended_lines_of, input_limit}
use Rattle.spec_model.specs.Model.{Model}
use Rattle.spec_server.specs.declared.addressing.Addressing.TheVariants.{Alone}
use Rattle.spec_server.specs.declared.asks.Ask.TheVariants as ask
use Rattle.spec_server.specs.Machine.{ExactAsk}
use Rattle.spec_server.specs.Exchanges.{Exchange, asked_in}
use Rattle.spec_server.specs.Script.{Script, ended_asks_of, script_of}
use Rattle.spec_server.specs.Streams.{Streams}
use Rattle.spec_server.proofs.ScriptBytes.{script_past}
use Rattle.spec_truth.specs.LoadedFrom.{IsLoadedFrom}
use Rattle.spec_truth.proofs.LoadedLines.{loaded, loaded_from_ended, loaded_from_whole}
use Rattle.spec_serve.specs.Link.{ended_link_asks_of, link_asks_of, AreFirstOf, LinkMoves}
use Rattle.spec_serve.proofs.FirstAsks.{Asks, link_asks_first, ended_link_asks_first, served_script}

-- among all requests the request that this session hold m stands right behind the requests `before`
record IsAmong (all before : Asks) (session : ℕ) (m : Model) : Type 0 where
  behind : Asks
  is : all ≡ before ++ loaded session m ∷ behind

-- a model that is loaded among the first requests is loaded among all requests, behind the same ones
among : (first all before behind : Asks) (session : ℕ) (m : Model) → AreFirstOf first all →
    first ≡ before ++ loaded session m ∷ behind → IsAmong all before session m
among first all before behind session m h e = record {
  behind = behind ++ h.0;
  is = h.1 ∙ ap (λ zs. zs ++ h.0) e ∙ append_assoc before (loaded session m ∷ behind) h.0;
}

-- ---- what a link asks

pub link_ended : (bytes : List ℕ) (before behind : Asks) (session : ℕ) (m : Model) →
    ended_link_asks_of bytes ≡ before ++ loaded session m ∷ behind →
    IsLoadedFrom Alone (ended_lines_of (take input_limit bytes)) before session m
link_ended bytes before behind session m e =
    let a =
    among (ended_link_asks_of bytes) (ended_asks_of Alone bytes) before behind session m (ended_link_asks_first bytes)
    e in
    loaded_from_ended Alone bytes before a.behind session m a.is

pub link_whole : (bytes : List ℕ) (before behind : Asks) (session : ℕ) (m : Model) → length bytes ≤ input_limit →
    (link_asks_of bytes).asks ≡ before ++ loaded session m ∷ behind →
    IsLoadedFrom Alone (lines_of bytes) before session m
link_whole bytes before behind session m h e =
    let a =
    among (link_asks_of bytes).asks (script_of Alone bytes).asks before behind session m (link_asks_first bytes) e in
    loaded_from_whole Alone bytes before a.behind session m h a.is

-- ---- what it asked in its service

module _ (places : ℕ) (s : Streams) (before behind : List Exchange) (x : Exchange) (m : Model)
    (moves : LinkMoves places s (before ++ x ∷ behind)) (is : x.ask ≡ ask.Loaded m) where
  -- the model that an exchange of a service loads is loaded among all requests of the bytes that were read, behind
  -- those of the exchanges before
  served_among : IsAmong (script_of Alone moves.read).asks (map asked_in before) x.session m
  served_among =
      among (map asked_in (before ++ x ∷ behind)) (script_of Alone moves.read).asks (map asked_in before)
      (map asked_in behind) x.session m (served_script places s (before ++ x ∷ behind) moves)
      (map-append asked_in before (x ∷ behind)
      ∙ ap (λ (a : ExactAsk). map asked_in before ++ record { session = x.session; ask = a } ∷ map asked_in behind) is)

  -- where a service read no more bytes than the limit, a model that it was asked to load is spelled by the lines of
  -- these bytes
  pub served_whole : length moves.read ≤ input_limit →
      IsLoadedFrom Alone (lines_of moves.read) (map asked_in before) x.session m
  served_whole h =
      loaded_from_whole Alone moves.read (map asked_in before) served_among.behind x.session m h served_among.is

  -- where a service read more bytes than the limit, a model that it was asked to load is spelled by the lines that end
  -- within it
  pub served_ended : input_limit < length moves.read →
      IsLoadedFrom Alone (ended_lines_of (take input_limit moves.read)) (map asked_in before) x.session m
  served_ended h =
      loaded_from_ended Alone moves.read (map asked_in before) served_among.behind x.session m
      (ap (λ (so : Script). so.asks) (sym (script_past Alone moves.read h)) ∙ served_among.is)
