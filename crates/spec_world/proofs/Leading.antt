-- What a session reads, where nobody else does anything, is what its acts read.
use Rattle.std.proofs.Common.{◌≡◌, ℕ, zero, suc, ◌<◌, Bool, true, false, List, [], ◌∷◌, ◌++◌, length, Some, refl}
use Rattle.std.proofs.Common.{sym, ap, ◌∙◌, subst, inl, inr, nat_eq, cond, arith}
use Rattle.std.proofs.lemmas.Bool.{eq-eqb, ne_eqb}
use Rattle.std.proofs.lemmas.List.{append_assoc, append-nil, length-take}
use Rattle.spec_text.specs.Words.{same}
use Rattle.spec_board.specs.declared.place.Place.TheVariants as place
use Rattle.spec_board.specs.declared.read.Put.{Put}
use Rattle.spec_board.specs.declared.read.Put.TheVariants.{Published, Full, Raced}
use Rattle.spec_board.specs.declared.read.Read.TheVariants as read
use Rattle.spec_board.specs.Reads.{ExactRead, Looked, basis_words, shape_words, front, has_shape, shown, SeenBy}
use Rattle.spec_board.specs.Reads.{SeesDown, PutReads, LookReads}
use Rattle.spec_board.specs.Places.{ExactPlace, place_at, with_place, IsShown, Logged, Plays, logged}
use Rattle.spec_server.specs.Machine.{ExactReply, State}
use Rattle.spec_server.specs.Step.{Pending, answered, after_put, Worked, Ends, Publishes, Works, Concludes}
use Rattle.spec_server.specs.Exchanges.{Exchange}
use Rattle.spec_serve.proofs.LeftPlaces.{logged-append, Plays-split}
use Rattle.spec_serve.proofs.Stays.{sees_stay}
use Rattle.spec_world.specs.declared.event.Act.TheVariants as act
use Rattle.spec_world.specs.World.{Server, ExactAct, Stage, Idle, Counts, Sees, Solving, Puts, Claims, Writes}
use Rattle.spec_world.specs.World.{Session, World, has_session, fits_stage, Left, Leaves, solve, ended, looking}
use Rattle.spec_world.specs.World.{read_of, seen_left, done_left, counted_left, worked_left}
use Rattle.spec_world.proofs.Acts.{front_front}
use Rattle.spec_world.proofs.Held.{Leads, leads_nowhere, leads_by}

-- ---- what is shown of a place

-- words that are read of a place with a shape are what is shown of its words for this shape
shown_is_read : (shape payload words : List ℕ) → IsShown payload words →
    (has_shape shape words ≡ true → length words ≡ basis_words) →
    (has_shape shape words ≡ false → front words ≡ words) → shown shape payload ≡ words
shown_is_read shape payload words (inl e) size fronts = by (has_shape shape payload) refl
  where
    by : (t : Bool) → has_shape shape payload ≡ t → cond t payload (front payload) ≡ words
    by true h = sym e
    by false h = ap front (sym e) ∙ fronts (ap (has_shape shape) e ∙ h)
shown_is_read shape payload words (inr e) size fronts = by (has_shape shape payload) refl
  where
    by : (t : Bool) → has_shape shape payload ≡ t → cond t payload (front payload) ≡ words
    by true h =
        let long : length words ≡ basis_words =
        size (ap (has_shape shape) e ∙ ap (λ ws. same ws shape) (front_front payload) ∙ h) in
        let short : length words ≡ _ = ap length e ∙ length-take shape_words payload in
        absurd (omega arith)
    by false h = sym e

module _ (server : Server) (old : World) (me : ℕ) (there : has_session server me ≡ true) (state : State)
    (finished : List Exchange) where
  -- the session with the state and the ended requests of this module, at this stage
  abbrev at : Stage → Session
  at stage = record { state = state; stage = stage; finished = finished }

  -- acts of session `me` alone lead from it at this stage, with the places `now`, to the session `new` and the places
  -- `next`
  abbrev Goes : Stage → List ExactPlace → Session → List ExactPlace → Type 0
  Goes stage now new next = Leads server old me there (at stage) now new next

  -- these reads, each as one of session `me`
  abbrev log : List ExactRead → List Logged
  log reads = logged me reads

  -- ---- puts

  -- the session once its solve has ended with these reads and this outcome of publishing
  abbrev put_ended : Pending → List ExactRead → Put → Session
  put_ended pending reads result =
      ended me (at Idle) solve reads (answered state pending.end) (after_put state pending result)

  -- where an act has the outcome x or y by a test, and the session goes on from the outcome that the test's value b
  -- picks, it goes on from its stage before the act
  decided : (stage : Stage) (now : List ExactPlace) (a : ExactAct) (t b : Bool) (x y : Left) (new : Session)
      (next : List ExactPlace) → t ≡ b → fits_stage stage a ≡ true →
      Leaves server me now (at stage) stage a (cond t x y) →
      Leads server old me there (cond b x y).session (cond b x y).places new next → Goes stage now new next
  decided stage now a t b x y new next e fits leaves l =
      leads_by server old me there (at stage) now a (cond t x y) new next fits leaves
      (subst (λ c. Leads server old me there (cond c x y).session (cond c x y).places new next) (sym e) l)

  -- where all places are claimed, a put's count leads to its end as `Full`
  full_leads : (now : List ExactPlace) (pending : Pending) (looked : List ExactRead) → length now ≡ server.places →
      Goes (Puts pending looked) now
      (put_ended pending (looked ++ read.Count (length now) ∷ []) (Full (length now))) now
  full_leads now pending looked e =
      decided (Puts pending looked) now act.Count (nat_eq (length now) server.places) true _ _ _ _
      (eq-eqb (length now) server.places e) refl refl
      (leads_nowhere server old me there
      (put_ended pending (looked ++ read.Count (length now) ∷ []) (Full (length now))) now)

  -- writing the words of a put to the claimed place leads to its end as `Published`
  done_leads : (now : List ExactPlace) (pending : Pending) (k : ℕ) (reads : List ExactRead) →
      Goes (Writes pending k reads) now (put_ended pending (reads ++ read.Done k pending.words ∷ []) (Published k))
      (with_place now k (place.Done pending.words))
  done_leads now pending k reads =
      leads_by server old me there (at (Writes pending k reads)) now act.Done
      (done_left me now (at (Writes pending k reads)) pending k reads) _ _ refl refl
      (leads_nowhere server old me there (put_ended pending (reads ++ read.Done k pending.words ∷ []) (Published k))
      (with_place now k (place.Done pending.words)))

  -- claiming the next place and writing the words there lead to a put's end as `Published`
  claim_leads : (now : List ExactPlace) (pending : Pending) (reads : List ExactRead) →
      Goes (Claims pending (length now) reads) now
      (put_ended pending ((reads ++ read.Claim (length now) ∷ []) ++ read.Done (length now) pending.words ∷ [])
      (Published (length now)))
      (with_place (now ++ place.Claimed me ∷ []) (length now) (place.Done pending.words))
  claim_leads now pending reads =
      decided (Claims pending (length now) reads) now act.Claim (nat_eq (length now) (length now)) true _ _ _ _
      (eq-eqb (length now) (length now) refl) refl refl
      (done_leads (now ++ place.Claimed me ∷ []) pending (length now) (reads ++ read.Claim (length now) ∷ []))

  -- where not all places are claimed, counting, claiming and writing lead from a put to its end as `Published`
  published_leads : (now : List ExactPlace) (pending : Pending) (looked : List ExactRead) → length now < server.places →
      Goes (Puts pending looked) now
      (put_ended pending
      (looked ++ read.Count (length now) ∷ read.Claim (length now) ∷ read.Done (length now) pending.words ∷ [])
      (Published (length now)))
      (with_place (now ++ place.Claimed me ∷ []) (length now) (place.Done pending.words))
  published_leads now pending looked room =
      let n : ℕ = length now in
      let one : (looked ++ read.Count (length now) ∷ []) ++ read.Claim (length now) ∷ []
      ≡ looked ++ read.Count (length now) ∷ read.Claim (length now) ∷ [] =
      append_assoc looked (read.Count (length now) ∷ []) (read.Claim (length now) ∷ []) in
      let all : ((looked ++ read.Count (length now) ∷ []) ++ read.Claim (length now) ∷ [])
      ++ read.Done (length now) pending.words ∷ []
      ≡ looked ++ read.Count (length now) ∷ read.Claim (length now) ∷ read.Done (length now) pending.words ∷ [] =
      ap (λ rs. rs ++ read.Done (length now) pending.words ∷ []) one
      ∙ append_assoc looked (read.Count (length now) ∷ read.Claim (length now) ∷ [])
      (read.Done (length now) pending.words ∷ []) in
      subst (λ rs. Goes (Puts pending looked) now (put_ended pending rs (Published (length now)))
      (with_place (now ++ place.Claimed me ∷ []) (length now) (place.Done pending.words))) all
      (decided (Puts pending looked) now act.Count (nat_eq (length now) server.places) false _ _ _ _
      (ne_eqb (length now) server.places (λ e. omega arith)) refl refl
      (claim_leads now pending (looked ++ read.Count (length now) ∷ [])))

  -- where places answer the reads of a put, its acts lead to its end, with these places
  put_leads : (now last : List ExactPlace) (pending : Pending) (looked tried : List ExactRead) (result : Put) →
      PutReads server.places pending.words result tried →
      Plays server.places now (log tried) last →
      Goes (Puts pending looked) now (put_ended pending (looked ++ tried) result) last
  put_leads now last pending looked tried (Full c) put plays =
      let p : Plays server.places now (log (read.Count c ∷ [])) last =
      subst (λ rs. Plays server.places now (log rs) last) put.1 plays in
      let counted : length now ≡ c = sym p.1.0 in
      let stays : now ≡ last = sym (p.2 ∙ p.1.1) in
      subst (λ ps. Goes (Puts pending looked) now (put_ended pending (looked ++ tried) (Full c)) ps) stays
      (subst (λ rs. Goes (Puts pending looked) now (put_ended pending (looked ++ rs) (Full c)) now) (sym put.1)
      (subst (λ n. Goes (Puts pending looked) now
      (put_ended pending (looked ++ read.Count n ∷ []) (Full n)) now) counted
      (full_leads now pending looked (counted ∙ put.0))))
  put_leads now last pending looked tried (Published k) put plays =
      let p : Plays server.places now (log (read.Count k ∷ read.Claim k ∷ read.Done k pending.words ∷ [])) last =
      subst (λ rs. Plays server.places now (log rs) last) put.1 plays in
      let counted : length now ≡ k = sym p.1.0 in
      let room : length now < server.places = subst (λ n. n < server.places) (sym counted) put.0 in
      let claimed : p.2.0 ≡ now ++ place.Claimed me ∷ [] = p.2.1.2 ∙ ap (λ ps. ps ++ place.Claimed me ∷ []) p.1.1 in
      let done : with_place (now ++ place.Claimed me ∷ []) k (place.Done pending.words) ≡ last =
      sym (p.2.2.2 ∙ p.2.2.1.1 ∙ ap (λ ps. with_place ps k (place.Done pending.words)) claimed) in
      subst (λ ps. Goes (Puts pending looked) now (put_ended pending (looked ++ tried) (Published k)) ps) done
      (subst (λ rs. Goes (Puts pending looked) now (put_ended pending (looked ++ rs) (Published k))
      (with_place (now ++ place.Claimed me ∷ []) k (place.Done pending.words))) (sym put.1)
      (subst (λ n. Goes (Puts pending looked) now
      (put_ended pending (looked ++ read.Count n ∷ read.Claim n ∷ read.Done n pending.words ∷ []) (Published n))
      (with_place (now ++ place.Claimed me ∷ []) n (place.Done pending.words))) counted
      (published_leads now pending looked room)))
  put_leads now last pending looked tried (Raced e) put plays =
      let p : Plays server.places now (log (read.Count put.0 ∷ read.Lost e ∷ [])) last =
      subst (λ rs. Plays server.places now (log rs) last) put.2 plays in
      let counted : put.0 ≡ length now = p.1.0 in
      let lost : e ≡ length now = p.2.1.0 ∙ ap length p.1.1 in
      let more : put.0 < e = put.1 in
      absurd (omega arith)

  -- ---- looks

  module _ (shape : List ℕ) (found : Looked) (now : List ExactPlace) (new : Session) (next : List ExactPlace) where
    -- where place k is read as `made`, and the session goes on from the stage behind this read, it goes on from the
    -- look at place k
    see_leads : (k : ℕ) (reads : List ExactRead) (made : ExactRead) → read_of shape k (place_at now k) ≡ made →
        Leads server old me there (seen_left now (at (Sees shape k reads)) shape k reads made).session now new next →
        Goes (Sees shape k reads) now new next
    see_leads k reads made e l =
        leads_by server old me there (at (Sees shape k reads)) now (act.See k)
        (seen_left now (at (Sees shape k reads)) shape k reads (read_of shape k (place_at now k))) new next
        (eq-eqb k k refl) refl
        (subst (λ r. Leads server old me there
        (seen_left now (at (Sees shape k reads)) shape k reads r).session now new next) (sym e) l)

    -- where place k is done and is read as these words, and the session goes on from what the look comes to by them, it
    -- goes on from the look at place k
    seen_leads : (k : ℕ) (reads : List ExactRead) (words : List ℕ) (rest : List ExactRead) (payload : List ℕ) →
        place_at now k ≡ Some (place.Done payload) → IsShown payload words →
        SeenBy (has_shape shape words) k words rest found (SeesDown shape k rest found) →
        (SeesDown shape k rest found → Goes (looking shape k (reads ++ read.Seen k words ∷ [])) now new next) →
        Goes (Solving found (reads ++ read.Seen k words ∷ rest)) now new next → Goes (Sees shape k reads) now new next
    seen_leads k reads words rest payload at' shows b more l =
        see_leads k reads (read.Seen k words)
        (ap (read_of shape k) at'
        ∙ ap (read.Seen k) (shown_is_read shape payload words shows
        (λ h. (subst (λ t. SeenBy t k words rest found (SeesDown shape k rest found)) h b).0)
        (λ h. (subst (λ t. SeenBy t k words rest found (SeesDown shape k rest found)) h b).0)))
        (by (has_shape shape words) b)
      where
        by : (t : Bool) → SeenBy t k words rest found (SeesDown shape k rest found) →
            Goes (cond t (Solving (Some (record { place = k; words = words })) (reads ++ read.Seen k words ∷ []))
            (looking shape k (reads ++ read.Seen k words ∷ []))) now new next
        by true c = subst (λ f. Goes (Solving f (reads ++ read.Seen k words ∷ [])) now new next) c.2
            (subst (λ rs. Goes (Solving found (reads ++ read.Seen k words ∷ rs)) now new next) c.1 l)
        by false c = more c.1

    -- where places answer reads that look down from place k, a look there goes on as the solve does that has them read
    sees_lead : (k : ℕ) (reads rest : List ExactRead) (last : List ExactPlace) → SeesDown shape k rest found →
        Plays server.places now (log rest) last → Goes (Solving found (reads ++ rest)) now new next →
        Goes (looking shape k reads) now new next
    sees_lead zero reads rest last d plays l =
        subst (λ f. Goes (Solving f reads) now new next) d.1
        (subst (λ rs. Goes (Solving found rs) now new next) (ap (λ rs. reads ++ rs) d.0 ∙ append-nil reads) l)
    sees_lead (suc k) reads [] last d plays l = absurd d
    sees_lead (suc k) reads (read.NotDone j ∷ rest) last d plays l =
        let there : place_at now k ≡ Some (place.Claimed plays.1.0) =
        subst (λ i. place_at now i ≡ Some (place.Claimed plays.1.0)) d.0 plays.1.1 in
        see_leads k reads (read.NotDone k) (ap (read_of shape k) there)
        (sees_lead k (reads ++ read.NotDone k ∷ []) rest last d.1
        (subst (λ ps. Plays server.places ps (log rest) last) plays.1.2 plays.2)
        (subst (λ rs. Goes (Solving found rs) now new next)
        (ap (λ i. reads ++ read.NotDone i ∷ rest) d.0 ∙ sym (append_assoc reads (read.NotDone k ∷ []) rest)) l))
    sees_lead (suc k) reads (read.Seen j words ∷ rest) last d plays l =
        seen_leads k reads words rest plays.1.0
        (subst (λ i. place_at now i ≡ Some (place.Done plays.1.0)) d.0 plays.1.1) plays.1.2 d.1
        (λ more. sees_lead k (reads ++ read.Seen k words ∷ []) rest last more
        (subst (λ ps. Plays server.places ps (log rest) last) plays.1.3 plays.2)
        (subst (λ rs. Goes (Solving found rs) now new next)
        (ap (λ i. reads ++ read.Seen i words ∷ rest) d.0
        ∙ sym (append_assoc reads (read.Seen k words ∷ []) rest)) l))
        (subst (λ i. Goes (Solving found (reads ++ read.Seen i words ∷ rest)) now new next) d.0 l)
    sees_lead (suc k) reads (read.Count c ∷ rest) last d plays l = absurd d
    sees_lead (suc k) reads (read.Claim c ∷ rest) last d plays l = absurd d
    sees_lead (suc k) reads (read.Lost c ∷ rest) last d plays l = absurd d
    sees_lead (suc k) reads (read.Done j words ∷ rest) last d plays l = absurd d

  -- ---- the whole of what a solve reads

  -- the session once its solve has ended with these reads, this reply and this state
  abbrev final : List ExactRead → ExactReply → State → Session
  final reads replied new = ended me (at Idle) solve reads replied new

  module _ (now last : List ExactPlace) (shape : List ℕ) (found : Looked) (looked reads : List ExactRead)
      (replied : ExactReply) (new : State) (look : LookReads shape looked found) where
    -- where the places answer the reads of a look, its count is that of the claimed places, and the places stay
    counted : (middle : List ExactPlace) → Plays server.places now (log looked) middle →
        (look.count ≡ length now) × (middle ≡ now)
    counted middle plays =
        let p : Plays server.places now (log (read.Count look.count ∷ look.seen)) middle =
        subst (λ rs. Plays server.places now (log rs) middle) look.all plays in
        (p.1.0, sees_stay server.places me shape look.count look.seen found p.0 middle look.down p.2 ∙ p.1.1)

    -- where the places answer the reads of a solve, the session goes on from the look's end to the reply
    works_lead : (worked : Worked) → Works state found worked →
        Concludes server.places state worked looked reads replied new → Plays server.places now (log reads) last →
        Goes (Solving found looked) now (final reads replied new) last
    works_lead (Ends stated next) works c plays =
        let same : last ≡ now = (counted last (subst (λ rs. Plays server.places now (log rs) last) c.0 plays)).1 in
        subst (λ ps. Goes (Solving found looked) now (final reads replied new) ps) (sym same)
        (subst (λ rs. Goes (Solving found looked) now (final rs replied new) now) (sym c.0)
        (subst (λ t. Goes (Solving found looked) now (final looked t new) now) (sym c.1)
        (subst (λ s. Goes (Solving found looked) now (final looked stated s) now) (sym c.2)
        (leads_by server old me there (at (Solving found looked)) now act.Work
        (worked_left me now (at (Solving found looked)) looked (Ends stated next))
        (final looked stated next) now refl (Ends stated next, works, refl)
        (leads_nowhere server old me there (final looked stated next) now)))))
    works_lead (Publishes pending) works c plays =
        let p = Plays-split server.places now last (log looked) (log c.tried)
        (subst (λ rs. Plays server.places now rs last) (ap log c.all ∙ logged-append me looked c.tried) plays) in
        let same : p.0 ≡ now = (counted p.0 p.1).1 in
        subst (λ rs. Goes (Solving found looked) now (final rs replied new) last) (sym c.all)
        (subst (λ t. Goes (Solving found looked) now (final (looked ++ c.tried) t new) last) (sym c.answer)
        (subst (λ s. Goes (Solving found looked) now (final (looked ++ c.tried) (answered state pending.end) s) last)
        (sym c.kept)
        (leads_by server old me there (at (Solving found looked)) now act.Work
        (worked_left me now (at (Solving found looked)) looked (Publishes pending)) _ last refl
        (Publishes pending, works, refl)
        (put_leads now last pending looked c.tried c.put c.puts
        (subst (λ ps. Plays server.places ps (log c.tried) last) same p.2)))))

    -- where the places answer the reads of the look, and the session goes on from the look's end to the reply, it does
    -- so from the look's count
    look_leads : (first : length now ≡ look.count) → Plays server.places now (log looked) now →
        Goes (Solving found looked) now (final reads replied new) last →
        Goes (Counts shape) now (final reads replied new) last
    look_leads first plays l =
        let p : Plays server.places now (log (read.Count look.count ∷ look.seen)) now =
        subst (λ rs. Plays server.places now (log rs) now) look.all plays in
        leads_by server old me there (at (Counts shape)) now act.Count (counted_left now (at (Counts shape)) shape)
        (final reads replied new) last refl refl
        (subst (λ n. Goes (looking shape n (read.Count n ∷ [])) now (final reads replied new) last) (sym first)
        (sees_lead shape found now (final reads replied new) last look.count
        (read.Count look.count ∷ []) look.seen now look.down
        (subst (λ ps. Plays server.places ps (log look.seen) now) p.1.1 p.2)
        (subst (λ rs. Goes (Solving found rs) now (final reads replied new) last) look.all l)))

    -- where the places answer all reads of a solve, they answer those of its look, which come first
    looked_first : (worked : Worked) → Concludes server.places state worked looked reads replied new →
        Plays server.places now (log reads) last →
        (middle : List ExactPlace) × Plays server.places now (log looked) middle
    looked_first (Ends stated next) c plays = (last, subst (λ rs. Plays server.places now (log rs) last) c.0 plays)
    looked_first (Publishes pending) c plays =
        let p = Plays-split server.places now last (log looked) (log c.tried)
        (subst (λ rs. Plays server.places now rs last) (ap log c.all ∙ logged-append me looked c.tried) plays) in
        (p.0, p.1)

    -- where the places answer all reads of a solve, whether its look finds a place or none, a session at the count of
    -- this look goes on to the reply
    pub look_runs : (worked : Worked) → Works state found worked →
        Concludes server.places state worked looked reads replied new → Plays server.places now (log reads) last →
        Goes (Counts shape) now (final reads replied new) last
    look_runs worked works c plays =
        let p = looked_first worked c plays in
        let f = counted p.0 p.1 in
        look_leads (sym f.0) (subst (λ ps. Plays server.places now (log looked) ps) f.1 p.1)
        (works_lead worked works c plays)
