-- Where each ask ends before the next one begins, as with one worker, each place that is claimed is done between two
-- asks.
--
-- `after_one`: where each session has a run of some exchanges, each has one of those behind the first, from its next
--   state.
-- `all_done`: where no place is claimed but not done at first, none is after whole runs of all sessions.
use Rattle.std.proofs.Common.{◌≡◌, ℕ, zero, suc, Bool, true, false, List, [], ◌∷◌, ◌++◌, length, Option, Some}
use Rattle.std.proofs.Common.{refl, sym, ap, ◌∙◌, subst, ◌⊎◌, inl, inr, nat_eq, eqb-true, cond}
use Rattle.std.proofs.lemmas.Bool.{eqb-false}
use Rattle.spec_board.specs.declared.place.Place.TheVariants as place
use Rattle.spec_board.specs.declared.read.Put.{Put}
use Rattle.spec_board.specs.declared.read.Put.TheVariants.{Published, Full, Raced}
use Rattle.spec_board.specs.declared.read.Read.TheVariants as read
use Rattle.spec_board.specs.Reads.{ExactRead, PutReads}
use Rattle.spec_board.specs.Places.{ExactPlace, place_at, with_place, Logged, Plays, logged}
use Rattle.spec_board.proofs.SharedPlaces.{with_same, with_other}
use Rattle.spec_server.specs.Machine.{ExactReply, State}
use Rattle.spec_server.specs.Step.{Begun, Looks, Worked, Ends, Publishes, Concludes, GoesOn}
use Rattle.spec_server.specs.Step as step
use Rattle.spec_server.specs.Exchanges.{Exchange, AloneRun, of_session, log_of}
use Rattle.spec_serve.proofs.LeftPlaces.{logged-append}
use Rattle.spec_serve.proofs.Stays.{look_stays}
use Rattle.spec_serve.proofs.LeftPlaces.{Plays-split}
use Rattle.spec_serve.proofs.OwnPart.{own_part, other_part}

-- none of these places is claimed and not done
abbrev pub NoneClaimed : List ExactPlace → Type 0
NoneClaimed now = (k owner : ℕ) → place_at now k ≡ Some (place.Claimed owner) → ⊥

-- where a new place stands behind others, what is at a place was there before, or the place is the new one
place_earlier : (ps : List ExactPlace) (j : ℕ) (p new : ExactPlace) → place_at (ps ++ new ∷ []) j ≡ Some p →
    (place_at ps j ≡ Some p) ⊎ (j ≡ length ps)
place_earlier [] zero p new h = inr refl
place_earlier [] (suc j) p new h = cc
place_earlier (q ∷ ps) zero p new h = inl h
place_earlier (q ∷ ps) (suc j) p new h = by (place_earlier ps j p new h)
  where
    by : (place_at ps j ≡ Some p) ⊎ (j ≡ length ps) → (place_at ps j ≡ Some p) ⊎ (suc j ≡ suc (length ps))
    by (inl e) = inl e
    by (inr e) = inr (ap suc e)

-- where no place is claimed, a place other than the next one is neither claimed nor the next one
none_or_last : (now : List ExactPlace) (k j owner : ℕ) → NoneClaimed now → (k ≡ j → ⊥) → k ≡ length now →
    (place_at now j ≡ Some (place.Claimed owner)) ⊎ (j ≡ length now) → ⊥
none_or_last now k j owner none apart last (inl h) = none j owner h
none_or_last now k j owner none apart last (inr h) = apart (last ∙ sym h)

-- where no place is claimed, and one is claimed and then done, none is claimed
claim_done : (now : List ExactPlace) (me k : ℕ) (words : List ℕ) →
    place_at (now ++ place.Claimed me ∷ []) k ≡ Some (place.Claimed me) → k ≡ length now → NoneClaimed now →
    NoneClaimed (with_place (now ++ place.Claimed me ∷ []) k (place.Done words))
claim_done now me k words mine last none j owner at = by (nat_eq k j) refl
  where
    by : (t : Bool) → nat_eq k j ≡ t → ⊥
    by true e =
        let same : k ≡ j = eqb-true k j e in
        let done : place_at (with_place (now ++ place.Claimed me ∷ []) k (place.Done words)) j ≡ Some
        (place.Done words) =
        subst (λ i. place_at (with_place (now ++ place.Claimed me ∷ []) k (place.Done words)) i ≡ Some
        (place.Done words)) same
        (with_same (now ++ place.Claimed me ∷ []) k (place.Claimed me) (place.Done words) mine) in
        let z : ◌≡◌ {A = Option ExactPlace} (Some (place.Done words)) (Some (place.Claimed owner)) = sym done ∙ at in cc
    by false e =
        let apart : k ≡ j → ⊥ = eqb-false k j e in
        none_or_last now k j owner none apart last
        (place_earlier now j (place.Claimed owner) (place.Claimed me)
        (sym (with_other (now ++ place.Claimed me ∷ []) k j (place.Done words) apart) ∙ at))

module _ (places me : ℕ) where
  -- these reads, each as one of session `me`
  abbrev log : List ExactRead → List Logged
  log reads = logged me reads

  -- where none of the places is claimed and not done, none is after the reads of a put that the places answer
  put_keeps : (words : List ℕ) (put : Put) (tried : List ExactRead) (now last : List ExactPlace) →
      PutReads places words put tried → Plays places now (log tried) last → NoneClaimed now → NoneClaimed last
  put_keeps words (Full c) tried now last put plays none =
      let p : Plays places now (log (read.Count c ∷ [])) last =
      subst (λ rs. Plays places now (log rs) last) put.1 plays in
      subst NoneClaimed (sym (p.2 ∙ p.1.1)) none
  put_keeps words (Raced e) tried now last put plays none =
      let p : Plays places now (log (read.Count put.0 ∷ read.Lost e ∷ [])) last =
      subst (λ rs. Plays places now (log rs) last) put.2 plays in
      subst NoneClaimed (sym (p.2.2 ∙ p.2.1.1 ∙ p.1.1)) none
  put_keeps words (Published k) tried now last put plays none =
      let p : Plays places now (log (read.Count k ∷ read.Claim k ∷ read.Done k words ∷ [])) last =
      subst (λ rs. Plays places now (log rs) last) put.1 plays in
      let claimed : p.2.0 ≡ now ++ place.Claimed me ∷ [] = p.2.1.2 ∙ ap (λ ps. ps ++ place.Claimed me ∷ []) p.1.1 in
      let mine : place_at (now ++ place.Claimed me ∷ []) k ≡ Some (place.Claimed me) =
      subst (λ ps. place_at ps k ≡ Some (place.Claimed me)) claimed p.2.2.1.0 in
      subst NoneClaimed (sym (p.2.2.2 ∙ p.2.2.1.1 ∙ ap (λ ps. with_place ps k (place.Done words)) claimed))
      (claim_done now me k words mine p.1.0 none)

-- where a look changes no place and none is claimed, none is claimed once the solve behind it concludes
concludes_keeps : (places : ℕ) (me : ℕ) (old : State) (worked : Worked) (looked reads : List ExactRead)
    (replied : ExactReply) (new : State) (now last : List ExactPlace) →
    Concludes places old worked looked reads replied new →
    ((middle : List ExactPlace) → Plays places now (logged me looked) middle → middle ≡ now) →
    Plays places now (logged me reads) last → NoneClaimed now → NoneClaimed last
concludes_keeps places me old (Ends stated next) looked reads replied new now last c stays plays none =
    subst NoneClaimed (sym (stays last (subst (λ rs. Plays places now (logged me rs) last) c.0 plays))) none
concludes_keeps places me old (Publishes pending) looked reads replied new now last c stays plays none =
    let p = Plays-split places now last (logged me looked) (logged me c.tried)
    (subst (λ rs. Plays places now rs last) (ap (logged me) c.all ∙ logged-append me looked c.tried) plays) in
    put_keeps places me pending.words c.put c.tried now last c.puts
    (subst (λ ps. Plays places ps (logged me c.tried) last) (stays p.0 p.1) p.2) none

-- where no place is claimed, none is claimed once a request that has begun goes on to its end
goes_keeps : (places : ℕ) (me : ℕ) (old : State) (begun : Begun) (reads : List ExactRead) (replied : ExactReply)
    (new : State) (now last : List ExactPlace) →
    GoesOn places old begun reads replied new → Plays places now (logged me reads) last → NoneClaimed now →
    NoneClaimed last
goes_keeps places me old (step.Answers stated next) reads replied new now last g plays none =
    let same : last ≡ now = subst (λ rs. Plays places now (logged me rs) last) g.0 plays in
    subst NoneClaimed (sym same) none
goes_keeps places me old (Looks shape) reads replied new now last g plays none =
    concludes_keeps places me old g.worked g.looked reads replied new now last g.concludes
    (λ middle p. look_stays places me shape g.looked g.found now middle g.look p) plays none

-- ---- all asks

-- what each session still does, once one of them has answered
pub after_one : (places : ℕ) (states : ℕ → State) (x : Exchange) (xs : List Exchange) (next end : State) →
    AloneRun places next (of_session x.session xs) end →
    ((session : ℕ) → (end : State) × AloneRun places (states session) (of_session session (x ∷ xs)) end) →
    (session : ℕ) → (end : State)
    × AloneRun places (cond (nat_eq x.session session) next (states session)) (of_session session xs) end
after_one places states x xs next end rest alone session = by (nat_eq x.session session) refl
  where
    by : (t : Bool) → nat_eq x.session session ≡ t →
        (end : State) × AloneRun places (cond t next (states session)) (of_session session xs) end
    by true e = (end, subst (λ i. AloneRun places next (of_session i xs) end) (eqb-true x.session session e) rest)
    by false e = let r = alone session in
        (r.0, other_part places (states session) x xs session r.0 (eqb-false x.session session e) r.1)

pub all_done : (places : ℕ) (states : ℕ → State) (xs : List Exchange) (now last : List ExactPlace) →
    ((session : ℕ) → (end : State) × AloneRun places (states session) (of_session session xs) end) →
    Plays places now (log_of xs) last → NoneClaimed now → NoneClaimed last
all_done places states [] now last alone plays none = subst NoneClaimed (sym plays) none
all_done places states (x ∷ xs) now last alone plays none =
    let own = alone x.session in
    let run = own_part places (states x.session) x xs own.0 own.1 in
    let p = Plays-split places now last (logged x.session x.reads) (log_of xs) plays in
    all_done places (λ session. cond (nat_eq x.session session) run.0 (states session)) xs p.0 last
    (after_one places states x xs run.0 own.0 run.2 alone)
    p.2 (goes_keeps places x.session
    (states x.session) run.1.begun x.reads x.reply run.0 now p.0 run.1.goes_on p.1 none)
