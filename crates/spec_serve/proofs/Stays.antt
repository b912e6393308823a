-- What a session reads in a look leaves the places as they are.
use Rattle.std.proofs.Common.{◌≡◌, ℕ, zero, suc, Bool, true, false, List, [], ◌∷◌, ◌∙◌, subst}
use Rattle.spec_board.specs.declared.read.Read.TheVariants as read
use Rattle.spec_board.specs.Reads.{ExactRead, Looked, has_shape, SeenBy, SeesDown, LookReads}
use Rattle.spec_board.specs.Places.{ExactPlace, Logged, Plays, logged}

module _ (places me : ℕ) where
  -- these reads, each as one of session `me`
  abbrev log : List ExactRead → List Logged
  log reads = logged me reads

  -- where the reads behind the read of a done place in a look leave the places as they are, so do the reads from that
  -- one on
  seen_stays : (shape : List ℕ) (k : ℕ) (words : List ℕ) (rest : List ExactRead) (found : Looked)
      (now last : List ExactPlace) (t : Bool) → (SeesDown shape k rest found → last ≡ now) →
      SeenBy t k words rest found (SeesDown shape k rest found) → Plays places now (log rest) last → last ≡ now
  seen_stays shape k words rest found now last true more b plays =
      subst (λ rs. Plays places now (log rs) last) b.1 plays
  seen_stays shape k words rest found now last false more b plays = more b.1

  -- reads of a look from place k down, which the places answer, leave them as they are
  pub sees_stay : (shape : List ℕ) (k : ℕ) (rest : List ExactRead) (found : Looked) (now last : List ExactPlace) →
      SeesDown shape k rest found → Plays places now (log rest) last → last ≡ now
  sees_stay shape zero rest found now last d plays = subst (λ rs. Plays places now (log rs) last) d.0 plays
  sees_stay shape (suc k) [] found now last d plays = absurd d
  sees_stay shape (suc k) (read.NotDone j ∷ rest) found now last d plays =
      sees_stay shape k rest found plays.0 last d.1 plays.2 ∙ plays.1.2
  sees_stay shape (suc k) (read.Seen j words ∷ rest) found now last d plays =
      seen_stays shape k words rest found plays.0 last (has_shape shape words)
      (λ more. sees_stay shape k rest found plays.0 last more plays.2) d.1 plays.2 ∙ plays.1.3
  sees_stay shape (suc k) (read.Count c ∷ rest) found now last d plays = absurd d
  sees_stay shape (suc k) (read.Claim c ∷ rest) found now last d plays = absurd d
  sees_stay shape (suc k) (read.Lost c ∷ rest) found now last d plays = absurd d
  sees_stay shape (suc k) (read.Done j words ∷ rest) found now last d plays = absurd d

  -- a look that the places answer leaves them as they are
  pub look_stays : (shape : List ℕ) (looked : List ExactRead) (found : Looked) (now last : List ExactPlace) →
      LookReads shape looked found → Plays places now (log looked) last → last ≡ now
  look_stays shape looked found now last l plays =
      let p : Plays places now (log (read.Count l.count ∷ l.seen)) last =
      subst (λ rs. Plays places now (log rs) last) l.all plays in
      sees_stay shape l.count l.seen found p.0 last l.down p.2 ∙ p.1.1
