-- What a link asks, by the lines that were read of it.
--
-- `begins_whole`: the requests of all lines of at most 2 ^ 26 bytes are the first of the bytes' requests, where no more
--   bytes come.
-- `first_asks`: where the first requests of the bytes have no `QUIT`, they are the first of the link's requests.
-- `asks_at_end`: where no line of at most 2 ^ 26 bytes asks `QUIT`, the link's requests are those of all its lines.
-- `asks_past`: where more is read than may be and no ended line is `QUIT`, the link's requests are those of its ended
--   lines.
-- `ended_asks`: where no ended line is `QUIT`, the requests of these lines are those of the link's ended lines.
use Rattle.std.proofs.Common.{◌≡◌, ℕ, ◌^◌, ◌≤◌, ◌<◌, ◌-◌, ◌+◌, true, false, List, [], ◌∷◌, ◌++◌}
use Rattle.std.proofs.Common.{length, take, ap, sym, ◌∙◌, append-nil, subst, arith, ⊎_elim, length-append}
use Rattle.std.proofs.lemmas.Bool.{cases_lt}
use Rattle.std.proofs.lemmas.List.{take-append-le}
use Rattle.std.proofs.Math.Seq.{take-append-add}
use Rattle.spec_text.specs.Lines.{lines_of, ended_lines_of, input_limit}
use Rattle.spec_text.specs.declared.line.Line.{Line}
use Rattle.spec_server.specs.declared.addressing.Addressing.TheVariants.{Alone}
use Rattle.spec_server.specs.declared.asks.Asked.{Asked}
use Rattle.spec_server.specs.Machine.{ExactAsk}
use Rattle.spec_server.specs.Script.{Between, Script, Ending, Ended, Over, asks_from, pending_after, ending_by}
use Rattle.spec_server.specs.Script.{ended_asks_of, script_of}
use Rattle.spec_server.proofs.ScriptBytes.{with_asks, script_within, script_past}
use Rattle.spec_server.proofs.ScriptLemmas.{asks_from-append}
use Rattle.spec_serve.specs.Link.{is_quit, quits, up_to_quit, until_quit, link_asks_of, ended_link_asks_of}
use Rattle.spec_serve.specs.Link.{AreFirstOf}
use Rattle.spec_serve.proofs.UpToQuit.{up_to_quit_none, until_quit_none, first_before_quit, first_with_last}
use Rattle.spec_serve.proofs.UpToQuit.{until_quit_last}

-- the requests that these lines make, which name no session, from between two commands on
abbrev pub asks_of_lines : List (Line (List ℕ)) → List (Asked ExactAsk)
asks_of_lines lines = asks_from Alone Between lines

-- ---- the first asks of all

-- the requests of these bytes, read as a script whose lines name no session, begin with these requests
pub record AsksBegin (asks : List (Asked ExactAsk)) (bytes : List ℕ) : Type 0 where
  pub rest : List (Asked ExactAsk)
  pub ending : Ending
  pub is : script_of Alone bytes ≡ record { asks = asks ++ rest; ending = ending }

-- no more bytes come
pub begins_whole : (read : List ℕ) (lines : List (Line (List ℕ))) → lines_of read ≡ lines → length read ≤ 2 ^ 26 →
    AsksBegin (asks_of_lines lines) read
begins_whole read lines all within = record {
  rest = [];
  ending = ending_by (pending_after Alone Between (lines_of read));
  is = script_within Alone read within
      ∙ ap (with_asks Alone read) (ap asks_of_lines all ∙ sym (append-nil (asks_of_lines lines)));
}

-- these lines come first, whatever bytes follow those that were read
module _ (raw : List ℕ) (lines : List (Line (List ℕ))) (within : length raw ≤ 2 ^ 26)
    (all : (more : List ℕ) → lines_of (raw ++ more) ≡ lines ++ lines_of more)
    (ended : (more : List ℕ) → ended_lines_of (raw ++ more) ≡ lines ++ ended_lines_of more) where
  -- the requests that more lines make behind the lines that were read
  after_lines : List (Line (List ℕ)) → List (Asked ExactAsk)
  after_lines more = asks_from Alone (pending_after Alone Between lines) more

  -- where more bytes follow, past the limit on bytes, the requests of the lines that were read come first
  begins_long : (more : List ℕ) → 2 ^ 26 < length (raw ++ more) → AsksBegin (asks_of_lines lines) (raw ++ more)
  unfolding after_lines ended_asks_of
  begins_long more past =
      let n : ℕ = input_limit - length raw in
      let room : input_limit ≡ length raw + n = omega arith in
      record {
        rest = after_lines (ended_lines_of (take n more));
        ending = Over;
        is = script_past Alone (raw ++ more) past
            ∙ ap (λ (ls : List (Line (List ℕ))).
            let so : Script = record { asks = asks_of_lines ls; ending = Over } in so)
            (ap (λ (k : ℕ). ended_lines_of (take k (raw ++ more))) room
            ∙ ap ended_lines_of (take-append-add raw more n)
            ∙ ended (take n more))
            ∙ ap (λ (zs : List (Asked ExactAsk)). let so : Script = record { asks = zs; ending = Over } in so)
            (asks_from-append Alone Between lines (ended_lines_of (take n more)));
      }

  -- where more bytes follow, within the limit on bytes, the requests of the lines that were read come first
  begins_short : (more : List ℕ) → length (raw ++ more) ≤ 2 ^ 26 → AsksBegin (asks_of_lines lines) (raw ++ more)
  unfolding after_lines
  begins_short more short =
      record {
        rest = after_lines (lines_of more);
        ending = ending_by (pending_after Alone Between (lines_of (raw ++ more)));
        is = script_within Alone (raw ++ more) short
            ∙ ap (with_asks Alone (raw ++ more))
            (ap asks_of_lines (all more) ∙ asks_from-append Alone Between lines (lines_of more));
      }

  -- whatever bytes follow those that were read, the requests of the lines that were read come first
  pub begins_part : (more : List ℕ) → AsksBegin (asks_of_lines lines) (raw ++ more)
  begins_part more = ⊎_elim (begins_long more) (begins_short more) (cases_lt (2 ^ 26) (length (raw ++ more)))

-- ---- the first asks up to QUIT

-- where requests are the first of those in bytes, the link's requests are they and the later ones, up to QUIT
link_asks : {asks : List (Asked ExactAsk)} {bytes : List ℕ} (b : AsksBegin asks bytes) →
    link_asks_of bytes ≡ until_quit (record { asks = asks ++ b.rest; ending = b.ending })
unfolding link_asks_of
link_asks b = ap until_quit b.is

-- where requests come first among those of bytes up to QUIT, they come first among the requests of a link of the bytes
as_first : {asks : List (Asked ExactAsk)} {bytes : List ℕ} (b : AsksBegin asks bytes) →
    AreFirstOf asks (up_to_quit (asks ++ b.rest)) → AreFirstOf asks (link_asks_of bytes).asks
as_first {asks} b first =
    subst (λ (s : Script). AreFirstOf asks s.asks) (sym (link_asks b)) first

-- none of them is QUIT
pub first_asks : {asks : List (Asked ExactAsk)} {bytes : List ℕ} → AsksBegin asks bytes → quits asks ≡ false →
    AreFirstOf asks (link_asks_of bytes).asks
first_asks {asks} b none = as_first b (first_before_quit asks b.rest none)

-- the last of them alone may be
module _ (front : List (Asked ExactAsk)) (last : Asked ExactAsk) (none : quits front ≡ false) {bytes : List ℕ}
    (b : AsksBegin (front ++ last ∷ []) bytes) where
  -- where all but the last of the first requests are no `QUIT`, they are the first of the link's requests
  pub first_asks_with : AreFirstOf (front ++ last ∷ []) (link_asks_of bytes).asks
  first_asks_with = as_first b (first_with_last front last none b.rest)

  -- where the last of the first requests is `QUIT`, and no other is, they are all that the link asks, and it has ended
  pub asks_to_quit : is_quit last.ask ≡ true →
      link_asks_of bytes ≡ record { asks = front ++ last ∷ []; ending = Ended }
  asks_to_quit is = link_asks b ∙ until_quit_last front last none b.rest b.ending is

-- ---- all asks, where none is QUIT

-- by all lines
pub asks_at_end : (read : List ℕ) (lines : List (Line (List ℕ))) → lines_of read ≡ lines → length read ≤ 2 ^ 26 →
    quits (asks_of_lines lines) ≡ false →
    link_asks_of read
    ≡ record { asks = asks_of_lines lines; ending = ending_by (pending_after Alone Between lines) }
unfolding link_asks_of
asks_at_end read lines all within none =
    ap until_quit
    (script_within Alone read within
    ∙ ap (λ (ls : List (Line (List ℕ))).
    let so : Script = record { asks = asks_of_lines ls; ending = ending_by (pending_after Alone Between ls) } in so)
    all)
    ∙ until_quit_none
    (record { asks = asks_of_lines lines; ending = ending_by (pending_after Alone Between lines) }) none

-- by the lines that end within what may be read, where there is more
pub asks_past : (read : List ℕ) (lines : List (Line (List ℕ))) → ended_lines_of (take input_limit read) ≡ lines →
    2 ^ 26 < length read → quits (asks_of_lines lines) ≡ false → (more : List ℕ) →
    link_asks_of (read ++ more) ≡ record { asks = asks_of_lines lines; ending = Over }
unfolding link_asks_of ended_asks_of
asks_past read lines ended past none more =
    let longer : 2 ^ 26 < length (read ++ more) = omega (arith, length-append read more) in
    ap until_quit
    (script_past Alone (read ++ more) longer
    ∙ ap (λ (ls : List (Line (List ℕ))).
    let so : Script = record { asks = asks_of_lines ls; ending = Over } in so)
    (ap ended_lines_of (take-append-le input_limit read more (omega arith)) ∙ ended))
    ∙ until_quit_none (record { asks = asks_of_lines lines; ending = Over }) none

-- by the lines that end
pub ended_asks : (read : List ℕ) (lines : List (Line (List ℕ))) → ended_lines_of (take input_limit read) ≡ lines →
    quits (asks_of_lines lines) ≡ false → asks_of_lines lines ≡ ended_link_asks_of read
unfolding ended_link_asks_of ended_asks_of
ended_asks read lines ended none =
    sym (up_to_quit_none (asks_of_lines lines) none)
    ∙ ap (λ (ls : List (Line (List ℕ))). up_to_quit (asks_of_lines ls)) (sym ended)
