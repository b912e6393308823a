-- What the top call writes, to its output and to connections, is true.
--
-- `output_true`: what the call writes to its output is a prefix of a true output of what it read.
-- `links_true`: what the call writes to each connection is a prefix of a true output of what it read there.
use Rattle.std.proofs.Common.{◌≡◌, ◌<◌, ℕ, true, false, Bool, cond, List, [], ◌∷◌, ◌++◌, length, map, slice_index_or}
use Rattle.std.proofs.Common.{Option, Some, None, Result, Ok, Err, refl, sym, ap, ◌∙◌, subst, ◌⊎◌, inl, inr, append_assoc, append-nil}
use Rattle.std.specs.Io.KnownBytes.{Consumes, Appends}
use Rattle.std.proofs.lemmas.List.Elements.{All-nil, All-map}
use Rattle.std.proofs.lemmas.List.Folds.{flat_map-map}
use Rattle.spec_text.specs.Lines.{IsPrefixOf}
use Rattle.spec_commands.specs.Generated.{generated}
use Rattle.spec_mps.specs.declared.style.Style.{Style}
use Rattle.spec_server.specs.declared.addressing.Addressing.TheVariants.{Numbered, Alone}
use Rattle.spec_server.specs.declared.asks.Asked.{Asked}
use Rattle.spec_server.specs.Exchanges.{Exchange, asked_in}
use Rattle.spec_server.specs.Machine.{ExactAsk}
use Rattle.spec_server.specs.ScriptOut.{script_out}
use Rattle.spec_server.specs.Script.{script_of}
use Rattle.spec_server.specs.Streams.{Streams}
use Rattle.spec_program.specs.declared.command_line.CommandLine.TheVariants.{Run, Read, Generate, Serve}
use Rattle.spec_program.specs.CommandLine.{ExactLine, ExactTextCommand}
use Rattle.spec_commands.specs.GenOut.{GenOut}
use Rattle.spec_commands.specs.TextOut.{said_of, MayWrite, code_of}
use Rattle.spec_text_truth.specs.TrueOutput.{IsNumber, IsTrueLine, IsModelOf, IsTrueOf, AreTrueReplies, Tells, IsTrueOutput}
use Rattle.spec_text_truth.proofs.FirstAsks.{AreFirstIn, ended_first, script_first}
use Rattle.spec_text_truth.proofs.ToldRuns.{replies_true}
use Rattle.spec_text_truth.proofs.TrueSeeds.{seed_true}
use Rattle.spec_text_truth.proofs.TrueTexts.{said_true, none_true, no_seed_true}
use Rattle.spec_serve.specs.Link.{is_quit, up_to_quit, link_asks_of, link_out, LinkMoves, AreFirstOf, HoldsOfAll}
use Rattle.spec_serve.proofs.LinksAlone.{links_run}
use Rattle.lp_base.specs.Listening.{LinkEvent, Given, Returned, Grows, ListenerState}
use Rattle.spec_serve.specs.Lines.{serve_out}
use Rattle.lp_serve.specs.declared.fault.ServeFault.{ServeFault}
use Rattle.lp_serve.specs.declared.fault.ServeFault.TheVariants as fault
use Rattle.lp_serve.specs.Serving.{Served, ends_of, Listened, IsUnserved, Writes, no_listener}
use Rattle.lp_text_commands.specs.Generating.{TellsOfWriting}
use Rattle.lp_script.specs.Run.{Moves, AreAsked}
use Rattle.lp_text_commands.specs.Hearing.{Says, SaysInPart, WritesNothing}
use Rattle.lp_text_commands.specs.TextCommands.{TellsOfText}
use Rattle.lp_top.specs.Top.{IsStatus, Does, TellsOfLinks, DoesOver}
use Rattle.lp_top.specs.TrueLinks.{Lent, lent_streams, IsTrueListener, AreTrueListeners}

-- the whole is the beginning of it
all_front : (bytes : List ℕ) → IsPrefixOf bytes bytes
all_front bytes = ([], append-nil bytes)

-- ---- a script

-- the requests of the part of a script that was read are the first of those in any longer text of the script
asked_first : (after : Option (List ℕ)) (read : List ℕ) (asks : List (Asked ExactAsk)) → AreAsked after read asks →
    HoldsOfAll after read (AreFirstIn Numbered asks)
asked_first after read asks (inl e) = inr λ more.
    subst (λ (of : List (Asked ExactAsk)). AreFirstIn Numbered of (read ++ more)) (sym e) (ended_first Numbered read more)
asked_first after read asks (inr (e, at_end)) =
    inl (at_end, subst (λ (of : List (Asked ExactAsk)). AreFirstIn Numbered of read) (sym e) (script_first Numbered read))

-- what a run of a script writes is true replies to what it read
run_true : (workers places : ℕ) (s : Streams) → Moves workers places s → Tells (AreTrueReplies Numbered) s
run_true workers places s moves =
    record {
      read = moves.read;
      written = moves.written;
      output = script_out moves.exchanges;
      consumed = moves.consumed;
      appended = moves.appended;
      front = moves.front;
      is_true =
          replies_true places Numbered s.left_after moves.read moves.exchanges moves.runs.many.alone
          (asked_first s.left_after moves.read (map asked_in moves.exchanges) moves.asks);
    }

-- ---- a text

module _ (command : ExactTextCommand) (style : Style) (s : Streams) where
  -- the output of a command on a text is true of the model that the bytes read spell
  abbrev IsTrue : Option (List ℕ) → List ℕ → List ℕ → Type 0
  IsTrue after read output = IsTrueOf (Read command style) after read output

  -- where the command wrote a whole output of what its input says, what it wrote is true
  says_true : (code : ℕ) → Says (said_of command style) (MayWrite command) (code_of command) s code → Tells IsTrue s
  says_true code h = record {
    read = h.hears.read;
    written = h.output;
    output = h.output;
    consumed = h.hears.consumed;
    appended = h.written;
    front = all_front h.output;
    is_true = said_true command style s.left_after h.hears.read h.output h.what h.hears.is_said h.is_output;
  }

  -- where the command wrote a beginning of an output of what its input says, what it wrote is the beginning of a true
  -- output
  part_true : SaysInPart (said_of command style) (MayWrite command) s → Tells IsTrue s
  part_true h = record {
    read = h.hears.read;
    written = h.written.bytes;
    output = h.output;
    consumed = h.hears.consumed;
    appended = h.written.taken;
    front = h.written.front;
    is_true = said_true command style s.left_after h.hears.read h.output h.what h.hears.is_said h.is_output;
  }

  -- where the command wrote nothing, what it wrote is true
  nothing_true : (read : List ℕ) → Consumes s.left_before s.left_after read → WritesNothing s → Tells IsTrue s
  nothing_true read consumed none = record {
    read = read;
    written = [];
    output = [];
    consumed = consumed;
    appended = none;
    front = all_front [];
    is_true = none_true command (IsModelOf command style s.left_after read);
  }

  -- whatever the status of a command on a text is, what it wrote is the beginning of a true output
  text_true : (code : ℕ) → TellsOfText command style s code → IsStatus (Some (Read command style)) code → Tells IsTrue s
  text_true code h (inl e) = says_true code (h.done (inl e))
  text_true code h (inr (inl e)) = let f = h.fault e in nothing_true f.0.read f.0.consumed f.1
  text_true code h (inr (inr (inl e))) = part_true (h.sink e)
  text_true code h (inr (inr (inr (inl e)))) = let f = h.memory e in nothing_true f.0.read f.0.consumed f.1
  text_true code h (inr (inr (inr (inr (inl e))))) =
      let f = h.over e in nothing_true f.0.nothing.read f.0.nothing.consumed f.1
  text_true code h (inr (inr (inr (inr (inr e))))) = says_true code (h.done (inr e))

-- ---- a model that is made

-- what `generate` writes is true of its seed and sizes
generated_true : (seed rows columns : ℕ) (s : Streams) (code : ℕ) → TellsOfWriting (GenOut seed rows columns) s code →
    IsStatus (Some (Generate seed rows columns)) code → Tells (IsTrueOf (Generate seed rows columns)) s
generated_true seed rows columns s code h (inl e) =
    let f = h.done e in
    record {
      read = [];
      written = f.output;
      output = f.output;
      consumed = h.reads;
      appended = f.written;
      front = all_front f.output;
      is_true = seed_true seed rows columns s.left_after [] f.output f.is_output;
    }
generated_true seed rows columns s code h (inr (inl e)) =
    let f = h.sink e in
    record {
      read = [];
      written = f.written.bytes;
      output = f.output;
      consumed = h.reads;
      appended = f.written.taken;
      front = f.written.front;
      is_true = seed_true seed rows columns s.left_after [] f.output f.is_output;
    }
generated_true seed rows columns s code h (inr (inr e)) = record {
  read = [];
  written = [];
  output = [];
  consumed = h.reads;
  appended = h.memory e;
  front = all_front [];
  is_true = no_seed_true (IsTrueLine (λ m. m ≡ generated seed rows columns) IsNumber);
}

-- ---- what a server writes to its sink

-- `serve` reads no input, and of what it writes to its output nothing more is asked
serve_true : (workers each places : ℕ) (s : Streams) (olds news : List ListenerState) (code : ℕ) →
    Consumes s.left_before s.left_after [] → TellsOfLinks places each s olds news code →
    Tells (IsTrueOf (Serve workers each places)) s
serve_true workers each places s olds news code reads h =
    let w = some_written each olds news h.serves.served s.taken_before s.taken_after h.result h.serves.writes in
    record {
      read = [];
      written = w.0;
      output = w.0;
      consumed = reads;
      appended = w.1;
      front = all_front w.0;
      is_true = tt;
    }
  where
    some_written : (each : ℕ) (olds news : List ListenerState) (served : List (List Served)) (before after : Option (List ℕ))
        (result : Result (Unit {0}) ServeFault) → Writes each olds news served before after result →
        (written : List ℕ) × Appends before after written
    some_written each olds news served before after (Ok u) w = (serve_out (ends_of served), w.0)
    some_written each olds news served before after (Err fault.Accept) w = (serve_out (ends_of served), w.0)
    some_written each olds news served before after (Err fault.Write) w = (w.bytes, w.taken)
    some_written each olds news served before after (Err fault.NoMemory) w = (w.bytes, w.taken)

-- ---- all of them

pub output_true : (command : Option ExactLine) (s : Streams) (olds news : List ListenerState) (code : ℕ) →
    Does command s code → DoesOver command s olds news code → IsStatus command code → IsTrueOutput command s
output_true None s olds news code does over status = does.1
output_true (Some (Run workers places)) s olds news code does over status = run_true workers places s does.0
output_true (Some (Read command style)) s olds news code does over status = text_true command style s code does status
output_true (Some (Generate seed rows columns)) s olds news code does over status =
    generated_true seed rows columns s code does status
output_true (Some (Serve workers each places)) s olds news code does over status =
    serve_true workers each places s olds news code does over

-- ---- links

-- the requests up to the first QUIT come first among the requests
quit_first : (asks : List (Asked ExactAsk)) → (later : List (Asked ExactAsk)) × (asks ≡ up_to_quit asks ++ later)
quit_first [] = ([], refl)
quit_first (a ∷ asks) = by (is_quit a.ask) (quit_first asks)
  where
    by : (t : Bool) → ((later : List (Asked ExactAsk)) × (asks ≡ up_to_quit asks ++ later)) →
        (later : List (Asked ExactAsk)) × (a ∷ asks ≡ a ∷ (cond t [] (up_to_quit asks)) ++ later)
    by true r = (asks, refl)
    by false r = (r.0, ap (λ (all : List (Asked ExactAsk)). a ∷ all) r.1)

-- the first requests of a link are the first of its lines
link_first : (bytes : List ℕ) (asks : List (Asked ExactAsk)) → AreFirstOf asks (link_asks_of bytes).asks →
    AreFirstIn Alone asks bytes
unfolding link_asks_of
link_first bytes asks first =
    let script = script_first Alone bytes in
    let quit = quit_first (script_of Alone bytes).asks in (
      first.0 ++ (quit.0 ++ script.0),
      script.1
          ∙ ap (λ (all : List (Asked ExactAsk)). all ++ script.0) (quit.1 ∙ ap (λ (all : List (Asked ExactAsk)). all ++ quit.0) first.1)
          ∙ append_assoc (asks ++ first.0) quit.0 script.0 ∙ append_assoc asks first.0 (quit.0 ++ script.0),
    )

-- the first requests of a connection come first in all that is sent
link_asked : (after : Option (List ℕ)) (read : List ℕ) (asks : List (Asked ExactAsk)) →
    HoldsOfAll after read (λ bytes. AreFirstOf asks (link_asks_of bytes).asks) →
    HoldsOfAll after read (AreFirstIn Alone asks)
link_asked after read asks (inl (at_end, first)) = inl (at_end, link_first read asks first)
link_asked after read asks (inr always) = inr λ more. link_first (read ++ more) asks (always more)

-- what a connection moves is true replies to what was read of it
link_true : (places : ℕ) (s : Streams) (exchanges : List Exchange) → LinkMoves places s exchanges →
    Tells (AreTrueReplies Alone) s
link_true places s exchanges moves =
    record {
      read = moves.read;
      written = moves.written;
      output = link_out exchanges;
      consumed = moves.consumed;
      appended = moves.appended;
      front = moves.front;
      is_true =
          replies_true places Alone s.left_after moves.read exchanges (links_run places s exchanges moves)
          (link_asked s.left_after moves.read (map asked_in exchanges) moves.asks);
    }

-- a served connection, as it was given and as it came back
lent : Served → Lent
lent x = record { given = x.given; back = x.back }

-- what was written to the connections that a listener gave, and that were served, is true by what was read of them
listened_true : (places each : ℕ) (old new : ListenerState) (served : List Served) →
    Listened places each old new served → IsTrueListener old new
unfolding lent
listened_true places each old new served h = record {
  links = map lent served;
  log = subst (Grows old.log new.log) (sym (flat_map-map (λ (x : Lent). Given x.given ∷ Returned x.back ∷ []) lent served)) h.log;
  are_true = All-map (λ (x : Lent). Tells (AreTrueReplies Alone) (lent_streams x)) lent served
      (λ i d l. link_true places _ _ (h.served i d l).serves.0);
}

-- a listener that gave no link has written nothing that is false
idle_true : (old new : ListenerState) → new ≡ old → IsTrueListener old new
idle_true old new same = record {
  links = [];
  log = subst (λ (state : ListenerState). Grows old.log state.log []) (sym same) (by old.log);
  are_true = All-nil (λ (x : Lent). Tells (AreTrueReplies Alone) (lent_streams x));
}
  where
    by : (log : Option (List LinkEvent)) → Grows log log []
    by None = refl
    by (Some events) = ap Some (sym (append-nil events))

-- where listeners were served, or had no memory and gave no connection, each is a true listener
served_true : (places each : ℕ) (olds news : List ListenerState) (served : List (List Served))
    (result : Result (Unit {0}) ServeFault) →
    ((i : ℕ) → i < length olds → Listened places each (slice_index_or olds i no_listener)
    (slice_index_or news i no_listener) (slice_index_or served i []))
    ⊎ IsUnserved olds news served result → (i : ℕ) → i < length olds →
    IsTrueListener (slice_index_or olds i no_listener) (slice_index_or news i no_listener)
served_true places each olds news served result (inl all) i l = listened_true places each _ _ _ (all i l)
served_true places each olds news served result (inr none) i l =
    idle_true _ _ (ap (λ (states : List ListenerState). slice_index_or states i no_listener) none.same)

pub links_true : (command : Option ExactLine) (s : Streams) (olds news : List ListenerState) (code : ℕ) →
    DoesOver command s olds news code → AreTrueListeners command olds news
links_true None s olds news code over = over
links_true (Some (Run workers places)) s olds news code over = over
links_true (Some (Read command style)) s olds news code over = over
links_true (Some (Generate seed rows columns)) s olds news code over = over
links_true (Some (Serve workers each places)) s olds news code over =
    served_true places each olds news over.serves.served over.result over.serves.listened
