-- What the run of a script has read and written where it halts, by the exchanges of the lines that were read.
--
-- `whole_front`: the output of exchanges is a prefix of the output of the same exchanges.
-- `stops_so`: a run that a write or want of memory halts ends so, whatever it has moved.
-- `nothing`: a run that reads nothing and writes nothing has moved what no exchanges move.
-- `ends_as`: a run ends with a result that equals the one it ends with.
use Rattle.std.proofs.Common.{◌≡◌, ℕ, ◌^◌, ◌<◌, ◌⊎◌, take, List, [], ◌++◌, length, map, Result, Err}
use Rattle.std.proofs.Common.{ap, sym, ◌∙◌, append_assoc, append-nil, refl, inl, inr}
use Rattle.std.proofs.Common.{Option, subst, ⊎_elim}
use Rattle.std.specs.Io.KnownBytes.{Appends}
use Rattle.std.proofs.KnownBytes.{Consumes-nil, Appends-nil}
use Rattle.spec_text.specs.Lines.{lines_of, ended_lines_of, input_limit, IsPrefixOf}
use Rattle.spec_text.specs.declared.line.Line.{Line}
use Rattle.spec_board.specs.Places.{ExactPlace}
use Rattle.spec_server.specs.declared.addressing.Addressing.TheVariants.{Numbered}
use Rattle.spec_server.specs.declared.asks.Asked.{Asked}
use Rattle.spec_server.specs.Machine.{ExactAsk, State, opening}
use Rattle.spec_server.specs.Exchanges.{Exchange, asked_in}
use Rattle.spec_server.specs.Script.{Between, Script, Ending, asks_from, pending_after, ending_by, script_of}
use Rattle.spec_server.specs.Script.{ended_asks_of}
use Rattle.spec_server.specs.Script as script
use Rattle.spec_server.specs.ScriptOut.{script_out}
use Rattle.spec_server.proofs.RunLemmas.{script_out-append}
use Rattle.spec_server.proofs.ScriptBytes.{with_asks, script_within, script_past}
use Rattle.spec_serve.specs.Workers.{RunsBy}
use Rattle.spec_serve.proofs.ManyFromOne.{one_runs_by}
use Rattle.lp_base.specs.Taking.{ReadsAll, ReadsFront, ReadsPart}
use Rattle.lp_line.specs.declared.halt.Halt.{Halt}
use Rattle.lp_line.specs.declared.halt.Halt.TheVariants as halts
use Rattle.lp_script.specs.Run.{Moves, EndsWith, EndsInput, BreaksOff, EndsSo}
use Rattle.spec_server.specs.Streams.{Streams, streams}
use Rattle.lp_script.proofs.ExchangesSoFar.{IsSoFar, goes_on}

-- ---- scripts by their length

-- the ended requests of a script are those of the ended lines among its bytes, up to the limit of an input
ended_asks : (read : List ℕ) →
    ended_asks_of Numbered read ≡ asks_from Numbered Between (ended_lines_of (take input_limit read))
unfolding ended_asks_of
ended_asks read = refl

-- ---- what was written

-- a prefix of the output of exchanges is a prefix of the output of these exchanges and more
front_of : (written : List ℕ) (exchanges others : List Exchange) → IsPrefixOf written (script_out exchanges) →
    IsPrefixOf written (script_out (exchanges ++ others))
front_of written exchanges others front = (
  front.0 ++ script_out others,
  sym (append_assoc written front.0 (script_out others))
      ∙ ap (λ zs. zs ++ script_out others) front.1
      ∙ sym (script_out-append exchanges others),
)

pub whole_front : (exchanges : List Exchange) → IsPrefixOf (script_out exchanges) (script_out exchanges)
whole_front exchanges = ([], append-nil (script_out exchanges))

-- ---- where the run halts

-- after these lines and more, with some of the output written
module _ {workers places : ℕ} {left_before left_after taken_before taken_after : Option (List ℕ)}
    (exchanges : List Exchange) (lines : List (Line (List ℕ))) (states : ℕ → State) (now : List ExactPlace)
    (so : IsSoFar places exchanges lines states now) where
  -- where the output so far is a prefix of that of the exchanges, and these lines were read with more or less behind
  -- them, a script's run has moved so
  pub moves_in_part : (more : List (Line (List ℕ))) (written : List ℕ) → Appends taken_before taken_after written →
      IsPrefixOf written (script_out exchanges) →
      ReadsPart left_before left_after (lines ++ more) ⊎ ReadsAll left_before left_after (lines ++ more) →
      Moves workers places (streams left_before left_after taken_before taken_after)
  moves_in_part more written appended front (inl part) =
      let on = goes_on places exchanges lines (more ++ part.more) states now so in
      record {
        read = part.front.read;
        exchanges = exchanges ++ on.others;
        written = written;
        consumed = part.front.moved;
        appended = appended;
        asks = inl (on.asks
            ∙ ap (asks_from Numbered Between) (sym (append_assoc lines more part.more))
            ∙ ap (asks_from Numbered Between) (sym part.front.ended)
            ∙ sym (ended_asks part.front.read));
        runs = one_runs_by places workers (exchanges ++ on.others) on.runs;
        front = front_of written exchanges on.others front;
      }
  moves_in_part more written appended front (inr all) =
      let on = goes_on places exchanges lines more states now so in
      record {
        read = all.read;
        exchanges = exchanges ++ on.others;
        written = written;
        consumed = all.moved;
        appended = appended;
        asks = inr (
          on.asks
              ∙ ap (asks_from Numbered Between) (sym all.all)
              ∙ sym (ap (λ (s : Script). s.asks) (script_within Numbered all.read all.bound)),
          all.at_end,
        );
        runs = one_runs_by places workers (exchanges ++ on.others) on.runs;
        front = front_of written exchanges on.others front;
      }

-- after the asks of these lines, all of them with exchanges, and with some of the output written, or all of it
module _ {workers places : ℕ} {left_before left_after taken_before taken_after : Option (List ℕ)}
    (exchanges : List Exchange) (lines : List (Line (List ℕ)))
    (asks : map asked_in exchanges ≡ asks_from Numbered Between lines) (runs : RunsBy workers places exchanges)
    (written : List ℕ) (appended : Appends taken_before taken_after written)
    (front : IsPrefixOf written (script_out exchanges)) where
  -- where the exchanges are of all lines that end among the bytes read, the run has moved what they say; if it wrote
  -- their whole output, it has broken off
  pub moves_broken_off : (r : ReadsFront left_before left_after lines) →
      (moves : Moves workers places (streams left_before left_after taken_before taken_after)) ×
      (moves.read ≡ r.read) × (written ≡ script_out exchanges → BreaksOff moves)
  moves_broken_off r =
      let ended : map asked_in exchanges ≡ ended_asks_of Numbered r.read =
      asks ∙ ap (asks_from Numbered Between) (sym r.ended) ∙ sym (ended_asks r.read) in (
        record {
          read = r.read;
          exchanges = exchanges;
          written = written;
          consumed = r.moved;
          appended = appended;
          asks = inl ended;
          runs = runs;
          front = front;
        },
        refl,
        λ whole. record { asks = ended; whole = whole },
      )

  -- where the exchanges are of all lines of the input, the run has moved what they say; if it wrote their whole output,
  -- it ends as the lines do
  pub moves_all : ReadsAll left_before left_after lines → (ending : Ending) →
      ending_by (pending_after Numbered Between lines) ≡ ending →
      (moves : Moves workers places (streams left_before left_after taken_before taken_after)) ×
      (written ≡ script_out exchanges → EndsInput moves ending)
  moves_all all ending ends =
      let all_asks : map asked_in exchanges ≡ asks_from Numbered Between (lines_of all.read) =
      asks ∙ ap (asks_from Numbered Between) (sym all.all) in
      let ends_so : ending_by (pending_after Numbered Between (lines_of all.read)) ≡ ending =
      ap (λ (ls : List (Line (List ℕ))). ending_by (pending_after Numbered Between ls)) all.all ∙ ends in
      let is : script_of Numbered all.read ≡ record { asks = map asked_in exchanges; ending = ending } =
      script_within Numbered all.read all.bound
      ∙ ap (with_asks Numbered all.read) (sym all_asks)
      ∙ ap (λ (e : Ending). record { asks = map asked_in exchanges; ending = e }) ends_so in (
        record {
          read = all.read;
          exchanges = exchanges;
          written = written;
          consumed = all.moved;
          appended = appended;
          asks = inr (ap (λ (s : Script). s.asks) (sym is), all.at_end);
          runs = runs;
          front = front;
        },
        λ whole. record { ends = record { script = is; whole = whole }; at_end = all.at_end },
      )

  -- where the exchanges are of the lines of an input that is longer than may be read, the run has moved what they say;
  -- if it wrote their whole output, it ends with `Over`
  pub moves_past : (r : ReadsFront left_before left_after lines) → 2 ^ 26 < length r.read →
      (moves : Moves workers places (streams left_before left_after taken_before taken_after)) ×
      (written ≡ script_out exchanges → EndsWith moves script.Over)
  moves_past r past =
      let m = moves_broken_off r in
      let past_so : 2 ^ 26 < length m.0.read = subst (λ (read : List ℕ). 2 ^ 26 < length read) (sym m.1) past in (
        m.0,
        λ whole. record {
          script = script_past Numbered m.0.read past_so
              ∙ ap (λ (zs : List (Asked ExactAsk)). record { asks = zs; ending = script.Over }) (sym (m.2 whole).asks);
          whole = (m.2 whole).whole;
        },
      )

-- after a stop because memory ran out or the sink failed, nothing else is required
pub stops_so : {workers places : ℕ} {s : Streams} (moves : Moves workers places s) (result : Result (Unit {0}) Halt)
    (stop : Halt) → result ≡ Err stop → (stop ≡ halts.Write) ⊎ (stop ≡ halts.NoMemory) →
    (m : Moves workers places s) × EndsSo m result
stops_so {workers} {places} {s} moves result stop is why =
    let by : (h : Halt) → stop ≡ h → EndsSo moves (Err h) → EndsSo moves result =
    λ h e so. subst (λ (r : Result (Unit {0}) Halt). EndsSo moves r) (sym (is ∙ ap Err e)) so in
    (moves, ⊎_elim (λ e. by halts.Write e tt) (λ e. by halts.NoMemory e tt) why)

-- nothing was read or written
pub nothing : (workers places : ℕ) (left taken : Option (List ℕ)) →
    Moves workers places (streams left left taken taken)
unfolding ended_lines_of
nothing workers places left taken = record {
  read = [];
  exchanges = [];
  written = [];
  consumed = Consumes-nil left;
  appended = Appends-nil taken;
  asks = inl (sym (ended_asks []));
  runs = one_runs_by places workers []
      (record { alone = λ session. (opening, refl); last = []; played = refl });
  front = ([], refl);
}

-- the same result
pub ends_as : {workers places : ℕ} {s : Streams} (result other : Result (Unit {0}) Halt) → result ≡ other →
    ((m : Moves workers places s) × EndsSo m other) → (m : Moves workers places s) × EndsSo m result
ends_as {workers} {places} {s} result other same m =
    (m.0, subst (λ (r : Result (Unit {0}) Halt). EndsSo m.0 r) (sym same) m.1)
