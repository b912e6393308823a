-- What is written of the replies of many workers, and what the run is then.
--
-- `unanswered`: a run that has only read lines has moved these bytes, and has had no exchange.
-- `reads_some_of`: where a script was read to any end, some lines of it were read.
-- `one-more-read`: where a list is f of the first n items, and f of item n is pushed, the list is f of the first n + 1
--   items.
use Rattle.std.proofs.Common.{◌≡◌, ◌≢◌, ℕ, ◌<◌, ◌+◌, List, [], ◌∷◌, ◌++◌, length}
use Rattle.std.proofs.Common.{map, take, drop, get_or, min, Option, Result, Ok, Err, refl}
use Rattle.std.proofs.Common.{sym, ap, ◌∙◌, append_assoc, append-nil, inl, inr, subst, arith}
use Rattle.std.specs.List.{flat_map, zip}
use Rattle.std.specs.Io.KnownBytes.{Appends}
use Rattle.std.proofs.KnownBytes.{Appends-nil, Appends-trans}
use Rattle.std.proofs.lemmas.Grind.{flat_map-append}
use Rattle.std.proofs.lemmas.List.{take_more, take_all, take-append-drop, map-append}
use Rattle.std.proofs.lemmas.Slice.Zip.{length-zip, get_or-zip}
use Rattle.spec_text.specs.Lines.{IsPrefixOf}
use Rattle.spec_text.specs.declared.line.Line.{Line}
use Rattle.spec_server.specs.declared.asks.Asked.{Asked}
use Rattle.spec_server.specs.Machine.{ExactAsk, ExactReply, opening}
use Rattle.spec_server.specs.Exchanges.{Exchange, asked_in}
use Rattle.spec_server.specs.ScriptOut.{script_out}
use Rattle.spec_server.specs.Script.{Ended, Cut}
use Rattle.spec_serve.specs.Workers.{RunsBy}
use Rattle.lp_base.specs.Beside.{Takes}
use Rattle.lp_base.specs.Taking.{ReadsFront, ReadsPart, ReadsLittleMore}
use Rattle.lp_script.specs.AnswersAll.{AnswersAll}
use Rattle.lp_line.specs.declared.halt.Halt.{Halt}
use Rattle.lp_line.specs.declared.halt.Halt.TheVariants as halts
use Rattle.lp_script.specs.Replies.{lines_of_reply, replies_out}
use Rattle.lp_script.specs.Run.{Moves, EndsSo}
use Rattle.lp_script.specs.Script.{IsRead, ReadsSome}
use Rattle.spec_server.specs.Streams.{streams}
use Rattle.lp_script.proofs.Moving.{moves_in_part, moves_broken_off, moves_all, moves_past, whole_front}

-- ---- the replies as they are written

-- the lines of the replies of these pairs of a session and a reply, in order
abbrev pub out_of : List (ℕ × ExactReply) → List ℕ
out_of pairs = flat_map lines_of_reply pairs

-- the output of the first n + 1 replies is that of the first n and then the lines of the next
out_more : (pairs : List (ℕ × ExactReply)) (n : ℕ) (pair : ℕ × ExactReply) → n < length pairs →
    get_or pairs n pair ≡ pair → out_of (take (n + 1) pairs) ≡ out_of (take n pairs) ++ lines_of_reply pair
out_more pairs n pair within is =
    ap out_of (take_more pairs n pair within)
    ∙ flat_map-append lines_of_reply (take n pairs) (get_or pairs n pair ∷ [])
    ∙ ap (λ zs. out_of (take n pairs) ++ zs) (append-nil (lines_of_reply (get_or pairs n pair)))
    ∙ ap (λ (p : ℕ × ExactReply). out_of (take n pairs) ++ lines_of_reply p) is

-- the output of the first n replies and then that of the others is the output of all
out_rest : (pairs : List (ℕ × ExactReply)) (n : ℕ) → out_of (take n pairs) ++ out_of (drop n pairs) ≡ out_of pairs
out_rest pairs n =
    sym (flat_map-append lines_of_reply (take n pairs) (drop n pairs)) ∙ ap out_of (take-append-drop n pairs)

module _ (before now : Option (List ℕ)) (pairs : List (ℕ × ExactReply)) (n : ℕ)
    (written : Appends before now (out_of (take n pairs))) where
  -- where the output of the first n pairs was written, a beginning of the output of all pairs was
  pub takes_first : Takes before now (out_of pairs)
  takes_first =
      record { bytes = out_of (take n pairs); front = (out_of (drop n pairs), out_rest pairs n); taken = written }

  module _ (after : Option (List ℕ)) (pair : ℕ × ExactReply) (within : n < length pairs)
      (is : get_or pairs n pair ≡ pair) where
    -- where the output of the first n replies is written, and then the lines of the next one, that of the first n + 1
    -- is written
    pub appends_more : Appends now after (lines_of_reply pair) → Appends before after (out_of (take (n + 1) pairs))
    appends_more more =
        subst (Appends before after) (sym (out_more pairs n pair within is))
        (Appends-trans before now after (out_of (take n pairs)) (lines_of_reply pair) written more)

    -- where the output of the first n pairs and a beginning of the next one's was written, a beginning of the output of
    -- all pairs was
    pub takes_more : Takes now after (lines_of_reply pair) → Takes before after (out_of pairs)
    takes_more part =
        let first : List ℕ = out_of (take n pairs) in
        let rest : List ℕ = out_of (drop (n + 1) pairs) in
        record {
          bytes = first ++ part.bytes;
          front = (
            part.front.0 ++ rest,
            sym (append_assoc (first ++ part.bytes) part.front.0 rest)
                ∙ ap (λ zs. zs ++ rest) (append_assoc first part.bytes part.front.0)
                ∙ ap (λ zs. (first ++ zs) ++ rest) part.front.1
                ∙ ap (λ zs. zs ++ rest) (sym (out_more pairs n pair within is))
                ∙ out_rest pairs (n + 1),
          );
          taken = Appends-trans before now after first part.bytes written part.taken;
        }

-- the pair at which a loop over both stands
module _ (sessions : List ℕ) (replies : List ExactReply) where
  -- where n is below the number of sessions and of replies, pair n of their `zip` is the session and the reply that are
  -- read at n
  pub is_pair : (n session : ℕ) (reply : ExactReply) → n < length sessions → n < length replies →
      session ≡ get_or sessions n session → reply ≡ get_or replies n reply →
      (n < length (zip sessions replies)) × (get_or (zip sessions replies) n (session, reply) ≡ (session, reply))
  is_pair n session reply in_sessions in_replies is_session is_reply =
      let with_session : ℕ → ℕ × ExactReply = λ a. (a, get_or replies n reply) in
      let with_reply : ExactReply → ℕ × ExactReply = λ b. (session, b) in (
        omega (arith, length-zip sessions replies, in_sessions, in_replies),
        get_or-zip sessions replies n (session, reply) in_sessions in_replies
            ∙ ap with_session (sym is_session)
            ∙ ap with_reply (sym is_reply),
      )

  -- the output of all pairs of a session and a reply, as many as the shorter list has items, is that of the two lists
  pub all_out : (n : ℕ) → n ≡ min (length sessions) (length replies) →
      out_of (take n (zip sessions replies)) ≡ replies_out sessions replies
  all_out n is =
      ap out_of (take_all n (zip sessions replies) (omega (arith, length-zip sessions replies, is)))

-- the replies of exchanges are written as their output is
replies_of : (xs : List Exchange) → replies_out (map (λ x. x.session) xs) (map (λ x. x.reply) xs) ≡ script_out xs
replies_of [] = refl
replies_of (x ∷ xs) = ap (λ zs. lines_of_reply (x.session, x.reply) ++ zs) (replies_of xs)

-- the requests of exchanges are of the sessions of the exchanges
sessions_in : (xs : List Exchange) →
    map (λ (asked : Asked ExactAsk). asked.session) (map asked_in xs) ≡ map (λ (x : Exchange). x.session) xs
sessions_in [] = refl
sessions_in (x ∷ xs) = ap (λ zs. x.session ∷ zs) (sessions_in xs)

-- ---- where the run halts

-- nothing was answered yet
pub unanswered : (workers places : ℕ) {before after : Option (List ℕ)} (taken : Option (List ℕ)) →
    ReadsSome before after → Moves workers places (streams before after taken taken)
unanswered workers places taken some =
    moves_in_part [] [] (λ session. opening) [] (record { asks = refl; runs = λ session. refl; played = refl }) some.0
    [] (Appends-nil taken) ([], refl) some.1

-- where lines and little beyond them were read, a part of the input was read
reads_part : {before after : Option (List ℕ)} {lines : List (Line (List ℕ))} (front : ReadsFront before after lines) →
    ReadsLittleMore front.read lines → ReadsPart before after lines
reads_part {before} {after} {lines} front near = record {
  more = [];
  front = record { read = front.read; moved = front.moved; ended = front.ended ∙ sym (append-nil lines) };
  near = near;
}

-- some lines were read of a script
pub reads_some_of : {before after : Option (List ℕ)} {asks : List (Asked ExactAsk)} (end : Result (Unit {0}) Halt) →
    IsRead before after asks end → ReadsSome before after
reads_some_of (Ok u) read = (read.lines, inr read.reads.all)
reads_some_of (Err halts.Cut) read = (read.lines, inr read.reads.all)
reads_some_of (Err halts.Over) read = (read.lines, inl (reads_part read.reads.front read.reads.near))
reads_some_of (Err halts.Read) read = (read.lines, inl (reads_part read.reads.front read.reads.near))
reads_some_of (Err halts.Write) read = absurd read.reads
reads_some_of (Err halts.NoMemory) read = absurd read.reads

module _ {workers places : ℕ} {asks : List (Asked ExactAsk)} (many : workers ≢ 1) (replies : List ExactReply)
    (answers : AnswersAll workers places asks replies) where
  -- the exchanges of the answers are a run by so many workers, of which there is not one
  abbrev runs : RunsBy workers places answers.exchanges
  runs = record { many = answers.fits; one = λ one. absurd (many one) }

  -- where the sessions are those of the asks, the output of their replies is that of the answers' exchanges
  out_is : (sessions : List ℕ) → sessions ≡ map (λ (asked : Asked ExactAsk). asked.session) asks →
      replies_out sessions replies ≡ script_out answers.exchanges
  out_is sessions are =
      ap (λ (ss : List ℕ). replies_out ss replies)
      (are ∙ ap (map (λ (asked : Asked ExactAsk). asked.session)) (sym answers.asked) ∙ sessions_in answers.exchanges)
      ∙ ap (λ (rs : List ExactReply). replies_out (map (λ (x : Exchange). x.session) answers.exchanges) rs)
      (sym answers.replied)
      ∙ replies_of answers.exchanges

  module _ {before after taken now : Option (List ℕ)} where
    -- where a beginning of the output of the answers was written, the run has moved what was read and that; if it is
    -- the whole output, the run ends as the reading did
    answered : (end : Result (Unit {0}) Halt) → IsRead before after asks end → (written : List ℕ) →
        Appends taken now written → IsPrefixOf written (script_out answers.exchanges) →
        (moves : Moves workers places (streams before after taken now)) ×
        (written ≡ script_out answers.exchanges → EndsSo moves end)
    answered (Ok u) read written appended front =
        moves_all answers.exchanges read.lines (answers.asked ∙ read.asked) runs written appended front read.reads.all
        Ended read.reads.ends
    answered (Err halts.Cut) read written appended front =
        moves_all answers.exchanges read.lines (answers.asked ∙ read.asked) runs written appended front read.reads.all
        Cut read.reads.ends
    answered (Err halts.Over) read written appended front =
        moves_past answers.exchanges read.lines (answers.asked ∙ read.asked) runs written appended front
        read.reads.front read.reads.past
    answered (Err halts.Read) read written appended front =
        let m = moves_broken_off answers.exchanges read.lines (answers.asked ∙ read.asked) runs written appended front
        read.reads.front in
        (m.0, m.2)
    answered (Err halts.Write) read written appended front = absurd read.reads
    answered (Err halts.NoMemory) read written appended front = absurd read.reads

  module _ {before after : Option (List ℕ)} (end : Result (Unit {0}) Halt) (read : IsRead before after asks end)
      (sessions : List ℕ) (are : sessions ≡ map (λ (asked : Asked ExactAsk). asked.session) asks)
      (written : List ExactReply) (same : written ≡ replies) where
    -- the output of the replies that are written is that of the answers' exchanges
    all_is : replies_out sessions written ≡ script_out answers.exchanges
    all_is = ap (λ (rs : List ExactReply). replies_out sessions rs) same ∙ out_is sessions are

    module _ {taken now : Option (List ℕ)} where
      -- where a part of the replies' output is written, the run has moved what was read and that part
      pub replied_in_part : Takes taken now (replies_out sessions written) →
          Moves workers places (streams before after taken now)
      replied_in_part part =
          (answered end read part.bytes part.taken (part.front.0, part.front.1 ∙ all_is)).0

      -- where the whole output of the replies is written, the run has moved what was read and it, and ends as the
      -- reading did
      pub replied_whole : Appends taken now (replies_out sessions written) →
          (moves : Moves workers places (streams before after taken now)) × EndsSo moves end
      replied_whole all =
          let m = answered end read (script_out answers.exchanges) (subst (Appends taken now) all_is all)
          (whole_front answers.exchanges) in
          (m.0, m.1 refl)

-- ---- what is read of each item, one more and all

pub one-more-read : {X : Type 0} (f : X → ℕ) (items : List X) (at : ℕ) (item : X) (before after : List ℕ) →
    at < length items → item ≡ get_or items at item → before ≡ map f (take at items) → after ≡ before ++ f item ∷ [] →
    after ≡ map f (take (at + 1) items)
one-more-read f items at item before after inside is so_far pushed =
    pushed
    ∙ ap (λ read. read ++ f item ∷ []) so_far
    ∙ ap (λ x. map f (take at items) ++ f x ∷ []) is
    ∙ sym (ap (map f) (take_more items at item inside)
    ∙ map-append f (take at items) (get_or items at item ∷ []))
