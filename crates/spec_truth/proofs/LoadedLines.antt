-- A model that a script asks to hold is spelled by the lines after a command LOAD.
use Rattle.std.proofs.Common.{◌≡◌, ℕ, Bool, true, false, cond, List, [], ◌∷◌, ◌++◌, Option, Some, None, refl, sym, ◌∙◌}
use Rattle.std.proofs.Common.{ap, ◌⊎◌, inl, inr, append_assoc, append-nil, ◌≤◌, length, take}
use Rattle.spec_text.specs.Lines.{lines_of, ended_lines_of, input_limit}
use Rattle.spec_text.specs.declared.line.Line.{Line}
use Rattle.spec_model.specs.Model.{Model}
use Rattle.spec_model.specs.Kept.{usual_limits}
use Rattle.spec_mps.specs.declared.style.Style.{Style}
use Rattle.spec_mps.specs.Reader.{start}
use Rattle.spec_mps.specs.Steps.{Verdict, Spelled, Refused, judge}
use Rattle.spec_certificate.specs.NarrowText as certificate
use Rattle.spec_server.specs.declared.addressing.Addressing.{Addressing}
use Rattle.spec_server.specs.declared.asks.Ask.TheVariants as ask
use Rattle.spec_server.specs.declared.asks.Asked.{Asked}
use Rattle.spec_server.specs.declared.command.Command.TheVariants as command
use Rattle.spec_server.specs.Addressing.{addressed_in}
use Rattle.spec_server.specs.Command.{ExactCommand}
use Rattle.spec_server.specs.Machine.{ExactAsk}
use Rattle.spec_server.specs.Script.{ends_text, ends_certificate, ask_of_verdict, ask_of_judgement, Pending, Between}
use Rattle.spec_server.specs.Script.{Text, Certificate, begun, begun_by, pending_after_line, pending_after}
use Rattle.spec_server.specs.Script.{asks_of_command, asks_by, asks_of_line, asks_from, ended_asks_of, script_of}
use Rattle.spec_server.specs.Script.{Script}
use Rattle.spec_server.proofs.ScriptBytes.{script_within}
use Rattle.spec_truth.specs.LoadedFrom.{IsLoadedFrom}

-- a list of requests, each with its session
abbrev pub Asks : Type 0
Asks = List (Asked ExactAsk)

-- a list of a script's lines, whose texts are bytes
abbrev pub Lines : Type 0
Lines = List (Line (List ℕ))

-- the request that this session hold model m
abbrev pub loaded : ℕ → Model → Asked ExactAsk
loaded session m = record { session = session; ask = ask.Loaded m }

module _ (addressing : Addressing) where
  -- ---- the line that completes an ask

  -- the list has one request, or none
  abbrev pub AsksOne : Asks → Type 0
  AsksOne asks = (asks ≡ []) ⊎ ((a : Asked ExactAsk) × (asks ≡ a ∷ []))

  -- a command of a session makes one request or none
  one_of_command : (session : ℕ) (asked : ExactCommand) → AsksOne (asks_of_command session asked)
  one_of_command session (command.Load form) = inl refl
  one_of_command session command.Check = inl refl
  one_of_command session (command.Plain asked) = inr (record { session = session; ask = ask.Plain asked }, refl)
  one_of_command session (command.Bad fault) = inr (record { session = session; ask = ask.Bad fault }, refl)

  -- the command of a line, if it has one, makes one request or none
  one_by : (o : Option (Asked ExactCommand)) → AsksOne (asks_by o)
  one_by None = inl refl
  one_by (Some addressed) = one_of_command addressed.session addressed.ask

  -- a list that a test keeps or empties, of one request, has one or none
  one_if : (t : Bool) (a : Asked ExactAsk) → AsksOne (cond t (a ∷ []) [])
  one_if true a = inr (a, refl)
  one_if false a = inl refl

  -- a line completes one request or none, whatever has begun before it
  one_of_line : (p : Pending) (next : Line (List ℕ)) → AsksOne (asks_of_line addressing p next)
  one_of_line Between next = one_by (addressed_in addressing next)
  one_of_line (Text session form body) next = one_if (ends_text next) _
  one_of_line (Certificate session body) next = one_if (ends_certificate next) _

  -- Of these lines, which stand behind p, the line `last` completes request a, and those in front of it complete the
  -- requests `before`.
  record IsAskedAt (p : Pending) (lines : Lines) (before : Asks) (a : Asked ExactAsk) : Type 0 where
    front : Lines
    last : Line (List ℕ)
    behind : Lines
    cut : lines ≡ front ++ last ∷ behind
    asked : asks_from addressing p front ≡ before
    here : asks_of_line addressing (pending_after addressing p front) last ≡ a ∷ []

  -- where a line in a list of lines completes a request, it does so with one more line in front, whose request comes
  -- first
  later : (p : Pending) (next : Line (List ℕ)) (lines : Lines) (before all : Asks) (a : Asked ExactAsk) →
      asks_of_line addressing p next ++ before ≡ all → IsAskedAt (pending_after_line addressing p next) lines before a →
      IsAskedAt p (next ∷ lines) all a
  later p next lines before all a e r =
      record {
        front = next ∷ r.front;
        last = r.last;
        behind = r.behind;
        cut = ap (λ ls. next ∷ ls) r.cut;
        asked = ap (λ asks. asks_of_line addressing p next ++ asks) r.asked ∙ e;
        here = r.here;
      }

  -- where lines complete a request behind others, there is a line of theirs that completes it
  asked_at : (p : Pending) (lines : Lines) (before behind : Asks) (a : Asked ExactAsk) →
      asks_from addressing p lines ≡ before ++ a ∷ behind → IsAskedAt p lines before a
  asked_at p [] [] behind a e = cc
  asked_at p [] (b ∷ before) behind a e = cc
  asked_at p (next ∷ lines) before behind a e =
      by (asks_of_line addressing p next) (one_of_line p next) before refl e
      (λ earlier h. asked_at (pending_after_line addressing p next) lines earlier behind a h)
    where
      rest : Asks
      rest = asks_from addressing (pending_after_line addressing p next) lines

      by : (asks : Asks) → AsksOne asks → (before : Asks) → asks_of_line addressing p next ≡ asks →
          asks ++ rest ≡ before ++ a ∷ behind →
          ((earlier : Asks) → rest ≡ earlier ++ a ∷ behind →
          IsAskedAt (pending_after_line addressing p next) lines earlier a) →
          IsAskedAt p (next ∷ lines) before a
      by asks (inl none) before is h more =
          later p next lines before before a (ap (λ xs. xs ++ before) (is ∙ none))
          (more before (ap (λ xs. xs ++ rest) (sym none) ∙ h))
      by asks (inr one) [] is h more =
          let all : one.0 ∷ rest ≡ a ∷ behind = ap (λ xs. xs ++ rest) (sym one.1) ∙ h in
          let same : one.0 ≡ a = cc in
          record {
            front = [];
            last = next;
            behind = lines;
            cut = refl;
            asked = refl;
            here = is ∙ one.1 ∙ ap (λ b. b ∷ []) same;
          }
      by asks (inr one) (c ∷ before) is h more =
          let all : one.0 ∷ rest ≡ c ∷ (before ++ a ∷ behind) = ap (λ xs. xs ++ rest) (sym one.1) ∙ h in
          let same : one.0 ≡ c = cc in
          let tail : rest ≡ before ++ a ∷ behind = cc in
          later p next lines before (c ∷ before) a
          (ap (λ xs. xs ++ before) (is ∙ one.1 ∙ ap (λ b. b ∷ []) same)) (more before tail)

  -- ---- the command before a body

  -- Of these lines, which stand behind p, one is LOAD of this session and style between two commands, and those behind
  -- it are the body that goes on; they complete no request.
  record IsBegun (p : Pending) (front : Lines) (session : ℕ) (form : Style) (body : Lines) : Type 0 where
    before : Lines
    load : Line (List ℕ)
    cut : front ≡ before ++ load ∷ body
    between : pending_after addressing p before ≡ Between
    is_load : addressed_in addressing load ≡ Some (record { session = session; ask = command.Load form })
    asked : asks_from addressing p front ≡ asks_from addressing p before

  -- the text was begun before these lines: p is in it, its body goes on with them all, and they complete no request
  record GoesOn (p : Pending) (front : Lines) (session : ℕ) (form : Style) (body : Lines) : Type 0 where
    begun_with : Lines
    is : p ≡ Text session form begun_with
    body_is : body ≡ begun_with ++ front
    asked : asks_from addressing p front ≡ []

  -- this command, for this session
  abbrev addressed_as : ℕ → ExactCommand → Asked ExactCommand
  addressed_as session asked = record { session = session; ask = asked }

  -- a text begins behind a command: the command is LOAD of its style, for its session, and the text has no lines yet
  record IsLoad (s : ℕ) (asked : ExactCommand) (session : ℕ) (form : Style) (begun_with : Lines) : Type 0 where
    same_session : s ≡ session
    load : asked ≡ command.Load form
    none : begun_with ≡ []

  -- where a text begins behind a command, the command is LOAD of its style, and the text has no lines yet
  begun_text : (s : ℕ) (asked : ExactCommand) (session : ℕ) (form : Style) (begun_with : Lines) →
      begun s asked ≡ Text session form begun_with → IsLoad s asked session form begun_with
  begun_text s (command.Load f) session form begun_with e =
      let same : f ≡ form = cc in record { same_session = cc; load = ap command.Load same; none = cc }
  begun_text s command.Check session form begun_with e = cc
  begun_text s (command.Plain asked) session form begun_with e = cc
  begun_text s (command.Bad fault) session form begun_with e = cc

  -- what a line says is LOAD of this session and style, and the text behind it has no lines yet
  record IsLoadLine (o : Option (Asked ExactCommand)) (session : ℕ) (form : Style) (begun_with : Lines) : Type 0 where
    is : o ≡ Some (record { session = session; ask = command.Load form })
    none : begun_with ≡ []

  -- where a text begins behind a line, the line is LOAD of the text's session and style
  load_line : (o : Option (Asked ExactCommand)) (session : ℕ) (form : Style) (begun_with : Lines) →
      begun_by o ≡ Text session form begun_with → IsLoadLine o session form begun_with
  load_line None session form begun_with e = cc
  load_line (Some addressed) session form begun_with e =
      let l = begun_text addressed.session addressed.ask session form begun_with e in
      record {
        is =
            ap (λ c. Some (addressed_as addressed.session c)) l.load
            ∙ ap (λ s. Some (addressed_as s (command.Load form))) l.same_session;
        none = l.none;
      }

  -- where the lines behind a line go on with the text that it began, the text begins among all of them, at that line
  at_load : (next : Line (List ℕ)) (front : Lines) (session : ℕ) (form : Style) (body : Lines) →
      GoesOn (pending_after_line addressing Between next) front session form body →
      IsBegun Between (next ∷ front) session form body
  at_load next front session form body g =
      let l = load_line (addressed_in addressing next) session form g.begun_with g.is in
      record {
        before = [];
        load = next;
        cut = ap (λ ls. next ∷ ls) (sym (g.body_is ∙ ap (λ ls. ls ++ front) l.none));
        between = refl;
        is_load = l.is;
        asked =
            ap (λ o. asks_by o ++ asks_from addressing (pending_after_line addressing Between next) front) l.is
            ∙ g.asked;
      }

  -- this request, of this session
  abbrev asks_at : ℕ → ExactAsk → Asked ExactAsk
  asks_at session asked = record { session = session; ask = asked }

  -- where the lines behind a line of a text go on with it, all of them do, that line too
  in_body : (s : ℕ) (f : Style) (b : Lines) (next : Line (List ℕ)) (front : Lines) (session : ℕ) (form : Style)
      (body : Lines) →
      GoesOn (pending_after_line addressing (Text s f b) next) front session form body →
      GoesOn (Text s f b) (next ∷ front) session form body
  in_body s f b next front session form body g = by (ends_text next) refl g.is
    where
      rest : Asks
      rest = asks_from addressing (pending_after_line addressing (Text s f b) next) front

      by : (t : Bool) → ends_text next ≡ t →
          cond t Between (Text s f (b ++ next ∷ [])) ≡ Text session form g.begun_with →
          GoesOn (Text s f b) (next ∷ front) session form body
      by true e h = cc
      by false e h =
          let first : s ≡ session = cc in
          let second : f ≡ form = cc in
          let third : b ++ next ∷ [] ≡ g.begun_with = cc in
          let none : asks_of_line addressing (Text s f b) next ≡ [] =
          ap (λ t. cond {A = Asks} t (asks_at s (ask_of_verdict (judge usual_limits f start 1 (b ++ next ∷ []))) ∷ [])
          []) e in
          record {
            begun_with = b;
            is = ap (λ s. Text s f b) first ∙ ap (λ f. Text session f b) second;
            body_is = g.body_is ∙ ap (λ ls. ls ++ front) (sym third) ∙ append_assoc b (next ∷ []) front;
            asked = ap (λ xs. xs ++ rest) none ∙ g.asked;
          }

  -- behind a line of a certificate no text of a model has begun
  not_in_certificate : (s : ℕ) (b : Lines) (next : Line (List ℕ)) (session : ℕ) (form : Style) (begun_with : Lines) →
      pending_after_line addressing (Certificate s b) next ≡ Text session form begun_with → ⊥
  not_in_certificate s b next session form begun_with e = by (ends_certificate next) e
    where
      by : (t : Bool) → cond t Between (Certificate s (b ++ next ∷ [])) ≡ Text session form begun_with → ⊥
      by true h = cc
      by false h = cc

  -- where the lines behind a line go on with a text, the text begins among all of them, or they all go on with it
  goes_on : (p : Pending) (next : Line (List ℕ)) (front : Lines) (session : ℕ) (form : Style) (body : Lines) →
      GoesOn (pending_after_line addressing p next) front session form body →
      IsBegun p (next ∷ front) session form body ⊎ GoesOn p (next ∷ front) session form body
  goes_on Between next front session form body g = inl (at_load next front session form body g)
  goes_on (Text s f b) next front session form body g = inr (in_body s f b next front session form body g)
  goes_on (Certificate s b) next front session form body g =
      absurd (not_in_certificate s b next session form g.begun_with g.is)

  -- where lines leave a text unfinished, the text begins among them, or they all go on with one begun before
  begins : (p : Pending) (front : Lines) (session : ℕ) (form : Style) (body : Lines) →
      pending_after addressing p front ≡ Text session form body →
      IsBegun p front session form body ⊎ GoesOn p front session form body
  begins p [] session form body e =
      inr (record { begun_with = body; is = e; body_is = sym (append-nil body); asked = refl })
  begins p (next ∷ front) session form body e =
      by (begins (pending_after_line addressing p next) front session form body e)
    where
      by : IsBegun (pending_after_line addressing p next) front session form body
          ⊎ GoesOn (pending_after_line addressing p next) front session form body →
          IsBegun p (next ∷ front) session form body ⊎ GoesOn p (next ∷ front) session form body
      by (inl r) =
          inl
          (record {
            before = next ∷ r.before;
            load = r.load;
            cut = ap (λ ls. next ∷ ls) r.cut;
            between = r.between;
            is_load = r.is_load;
            asked = ap (λ asks. asks_of_line addressing p next ++ asks) r.asked;
          })
      by (inr g) = goes_on p next front session form body g

  -- ---- what the last line of a body asks

  -- two lists of one request each that are the same have the same request
  same_asked : (a b : Asked ExactAsk) → ◌≡◌ {A = Asks} (a ∷ []) (b ∷ []) → a ≡ b
  same_asked a b e = cc

  -- no command alone asks a session to hold a model
  not_by_command : (s : ℕ) (asked : ExactCommand) (session : ℕ) (m : Model) →
      asks_of_command s asked ≡ loaded session m ∷ [] → ⊥
  not_by_command s (command.Load form) session m e = cc
  not_by_command s command.Check session m e = cc
  not_by_command s (command.Plain asked) session m e =
      let z : ◌≡◌ {A = ExactAsk} (ask.Plain asked) (ask.Loaded m) = ap (λ a. a.ask) (same_asked _ _ e) in cc
  not_by_command s (command.Bad fault) session m e =
      let z : ◌≡◌ {A = ExactAsk} (ask.Bad fault) (ask.Loaded m) = ap (λ a. a.ask) (same_asked _ _ e) in cc

  -- no command of a line alone asks a session to hold a model
  not_by : (o : Option (Asked ExactCommand)) (session : ℕ) (m : Model) → asks_by o ≡ loaded session m ∷ [] → ⊥
  not_by None session m e = cc
  not_by (Some addressed) session m e = not_by_command addressed.session addressed.ask session m e

  -- no judgement of a certificate is a request to hold a model
  not_judged : (j : certificate.Judgement) (m : Model) → ask_of_judgement j ≡ ask.Loaded m → ⊥
  not_judged (certificate.Spelled raw) m e = cc
  not_judged (certificate.Refused n) m e = cc

  -- the last line of a certificate asks no session to hold a model
  not_certified : (t : Bool) (s : ℕ) (j : certificate.Judgement) (session : ℕ) (m : Model) →
      cond {A = Asks} t (record { session = s; ask = ask_of_judgement j } ∷ []) [] ≡ loaded session m ∷ [] → ⊥
  not_certified true s j session m e = not_judged j m (ap (λ a. a.ask) (same_asked _ _ e))
  not_certified false s j session m e = cc

  -- the session s is this session, and the verdict on a text is that it spells model m
  record IsSpelled (s : ℕ) (verdict : Verdict) (session : ℕ) (m : Model) : Type 0 where
    same_session : s ≡ session
    spelled : verdict ≡ Spelled m

  -- where the request of a verdict is to hold model m, the text spells m
  spelled_verdict : (verdict : Verdict) (m : Model) → ask_of_verdict verdict ≡ ask.Loaded m → verdict ≡ Spelled m
  spelled_verdict (Spelled other) m e = let same : other ≡ m = cc in ap Spelled same
  spelled_verdict (Refused n fault) m e = cc

  -- where the last line of a text asks this session to hold model m, the text is of this session and spells m
  spelled_by : (t : Bool) (s : ℕ) (verdict : Verdict) (session : ℕ) (m : Model) →
      cond {A = Asks} t (record { session = s; ask = ask_of_verdict verdict } ∷ []) [] ≡ loaded session m ∷ [] →
      IsSpelled s verdict session m
  spelled_by true s verdict session m e =
      let same = same_asked _ _ e in
      record {
        same_session = ap (λ a. a.session) same;
        spelled = spelled_verdict verdict m (ap (λ a. a.ask) same);
      }
  spelled_by false s verdict session m e = cc

  -- ---- a model that is to be held

  -- a model that lines ask a session to hold is spelled by the lines behind a LOAD of the session among them
  pub loaded_from : (lines : Lines) (before behind : Asks) (session : ℕ) (m : Model) →
      asks_from addressing Between lines ≡ before ++ loaded session m ∷ behind →
      IsLoadedFrom addressing lines before session m
  loaded_from lines before behind session m e =
      by (pending_after addressing Between r.front) refl r.here
    where
      r : IsAskedAt Between lines before (loaded session m)
      r = asked_at Between lines before behind (loaded session m) e

      in_text : (s : ℕ) (f : Style) (b : Lines) → IsSpelled s (judge usual_limits f start 1 (b ++ r.last ∷ [])) session
          m →
          IsBegun Between r.front s f b ⊎ GoesOn Between r.front s f b → IsLoadedFrom addressing lines before session m
      in_text s f b h (inl g) =
          record {
            style = f;
            front = g.before;
            command = g.load;
            body = b ++ r.last ∷ [];
            behind = r.behind;
            cut =
                r.cut ∙ ap (λ ls. ls ++ r.last ∷ r.behind) g.cut
                ∙ append_assoc g.before (g.load ∷ b) (r.last ∷ r.behind)
                ∙ ap (λ ls. g.before ++ g.load ∷ ls) (sym (append_assoc b (r.last ∷ []) r.behind));
            asked = sym g.asked ∙ r.asked;
            between = g.between;
            is_load = g.is_load ∙ ap (λ s. Some (addressed_as s (command.Load f))) h.same_session;
            spelled = h.spelled;
          }
      in_text s f b h (inr g) = let z = g.is in cc

      by : (p : Pending) → pending_after addressing Between r.front ≡ p →
          asks_of_line addressing p r.last ≡ loaded session m ∷ [] → IsLoadedFrom addressing lines before session m
      by Between is h = absurd (not_by (addressed_in addressing r.last) session m h)
      by (Text s f b) is h =
          in_text s f b (spelled_by (ends_text r.last) s (judge usual_limits f start 1 (b ++ r.last ∷ [])) session m h)
          (begins Between r.front s f b is)
      by (Certificate s b) is h =
          absurd
          (not_certified (ends_certificate r.last) s (certificate.judge None 1 (b ++ r.last ∷ [])) session m h)

  -- ---- the bytes of a script

  -- a model that the ended lines of bytes ask a session to hold is spelled by these lines, within the limit on bytes
  pub loaded_from_ended : (bytes : List ℕ) (before behind : Asks) (session : ℕ) (m : Model) →
      ended_asks_of addressing bytes ≡ before ++ loaded session m ∷ behind →
      IsLoadedFrom addressing (ended_lines_of (take input_limit bytes)) before session m
  unfolding ended_asks_of
  loaded_from_ended bytes before behind session m e =
      loaded_from (ended_lines_of (take input_limit bytes)) before behind session m e

  -- a model that a script within the limit on bytes asks a session to hold is spelled by the script's lines
  pub loaded_from_whole : (bytes : List ℕ) (before behind : Asks) (session : ℕ) (m : Model) →
      length bytes ≤ input_limit → (script_of addressing bytes).asks ≡ before ++ loaded session m ∷ behind →
      IsLoadedFrom addressing (lines_of bytes) before session m
  loaded_from_whole bytes before behind session m h e =
      loaded_from (lines_of bytes) before behind session m
      (ap (λ (s : Script). s.asks) (sym (script_within addressing bytes h)) ∙ e)
