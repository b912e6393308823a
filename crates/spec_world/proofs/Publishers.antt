-- Who published what stays so.
use Rattle.std.proofs.Common.{◌≡◌, ℕ, List, [], ◌∷◌, ◌++◌, Option, Some, None, ap, ◌∙◌}
use Rattle.std.proofs.lemmas.List.{append_assoc}
use Rattle.spec_server.specs.Machine.{ExactReply}
use Rattle.spec_server.specs.Exchanges.{Exchange}
use Rattle.spec_world.specs.World.{Session}
use Rattle.spec_world.specs.Sound.{IsPublisher}
use Rattle.spec_world.proofs.OneAct.{Grows}

-- a session that published words at a place is their publisher with more ended exchanges behind, too
publisher_more : (places : ℕ) (s new : Session) (more : List Exchange) (k : ℕ) (words : List ℕ) →
    new.finished ≡ s.finished ++ more → IsPublisher places s k words → IsPublisher places new k words
publisher_more places s new more k words e p = record {
  before = p.before;
  after = p.after ++ more;
  exchange = p.exchange;
  old = p.old;
  all = e ∙ ap (λ xs. xs ++ more) p.all ∙ append_assoc p.before (p.exchange ∷ p.after) more;
  run = p.run;
  puts = p.puts;
}

-- a session that published words at a place is their publisher as long as its ended exchanges are the same
same_finished : (places : ℕ) (s new : Session) (k : ℕ) (words : List ℕ) → new.finished ≡ s.finished →
    IsPublisher places s k words → IsPublisher places new k words
same_finished places s new k words e p = record {
  before = p.before;
  after = p.after;
  exchange = p.exchange;
  old = p.old;
  all = e ∙ p.all;
  run = p.run;
  puts = p.puts;
}

-- a session that published words at a place stays their publisher after each act
pub publisher_stays : (places : ℕ) (me : ℕ) (s new : Session) (replied : Option ExactReply) (k : ℕ) (words : List ℕ) →
    Grows me s replied new → IsPublisher places s k words → IsPublisher places new k words
publisher_stays places me s new None k words g p = same_finished places s new k words g p
publisher_stays places me s new (Some replied) k words g p = publisher_more places s new (g.0 ∷ []) k words g.1 p
