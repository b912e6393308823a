-- What a session publishes has as many words as a basis.
use Rattle.std.proofs.Common.{◌≡◌, ℕ, zero, suc, Bool, true, false, Option, Some, None, IfSome, List, [], ◌∷◌, length}
use Rattle.std.proofs.Common.{sym, ap, ◌∙◌, subst, cond, inl, inr}
use Rattle.spec_check.specs.declared.certificate.Known.TheVariants as known
use Rattle.spec_simplex.specs.Form.{Form}
use Rattle.spec_check.specs.declared.solve_end.SolveEnd.TheVariants.{Ended, Past, Spent}
use Rattle.spec_runs.specs.Cold.{ExactSolveEnd}
use Rattle.spec_board.proofs.PackedPlaces.{packed_length}
use Rattle.spec_board.specs.declared.read.Put.{Put}
use Rattle.spec_board.specs.declared.read.Put.TheVariants.{Published, Full, Raced}
use Rattle.spec_board.specs.declared.read.Read.TheVariants.{Count, NotDone, Seen, Claim, Lost, Done}
use Rattle.spec_board.specs.Reads.{Words, ExactRead, Looked, basis_words, has_shape, SeenBy, SeesDown, LookReads}
use Rattle.spec_board.specs.Reads.{PutReads}
use Rattle.spec_server.specs.declared.answer.How.{How}
use Rattle.spec_server.specs.declared.answer.Publication.TheVariants as publication
use Rattle.spec_server.specs.Machine.{ExactAsk, ExactReply, State}
use Rattle.spec_server.specs.Step as step
use Rattle.spec_server.specs.Step.{Pending, Worked, Ends, Publishes, is_found, words_of_end, worked_with}
use Rattle.spec_server.specs.Step.{how_by, Works, Concludes, Begun, GoesOn, AloneStep}
use Rattle.basis_board.specs.Board.{Each}
use Rattle.basis_board.proofs.Totals.{each_append}

-- a publication has as many words as a basis; of other reads nothing is asked
abbrev pub IsSized : ExactRead → Type 0
IsSized (Done k words) = length words ≡ basis_words
IsSized r = Unit {0}

-- ---- a look writes nothing
module _ (shape : Words) where
  -- the reads of a look behind a place that it saw publish no words of another size than a basis has
  seen_sized : (k : ℕ) (words : Words) (reads : List ExactRead) (found : Looked) (t : Bool) →
      (SeesDown shape k reads found → Each IsSized reads) →
      SeenBy t k words reads found (SeesDown shape k reads found) → Each IsSized reads
  seen_sized k words reads found true down s = subst (Each IsSized) (sym s.1) tt
  seen_sized k words reads found false down s = down s.1

  -- the reads of a look that goes down publish no words of another size than a basis has
  down_sized : (k : ℕ) (reads : List ExactRead) (found : Looked) → SeesDown shape k reads found → Each IsSized reads
  down_sized zero reads found d = subst (Each IsSized) (sym d.0) tt
  down_sized (suc k) [] found d = absurd d
  down_sized (suc k) (NotDone j ∷ reads) found d = (tt, down_sized k reads found d.1)
  down_sized (suc k) (Seen j words ∷ reads) found d =
      (tt, seen_sized k words reads found (has_shape shape words) (down_sized k reads found) d.1)
  down_sized (suc k) (Count c ∷ reads) found d = absurd d
  down_sized (suc k) (Claim j ∷ reads) found d = absurd d
  down_sized (suc k) (Lost c ∷ reads) found d = absurd d
  down_sized (suc k) (Done j words ∷ reads) found d = absurd d

  -- the reads of a look publish no words of another size than a basis has
  look_sized : (reads : List ExactRead) (found : Looked) → LookReads shape reads found → Each IsSized reads
  look_sized reads found l = subst (Each IsSized) (sym l.all) (tt, down_sized l.count l.seen found l.down)

-- ---- a put writes its words

-- where all words of a basis are published, each place that the reads publish has all words
put_sized : (places : ℕ) (words : Words) (put : Put) (reads : List ExactRead) → length words ≡ basis_words →
    PutReads places words put reads → Each IsSized reads
put_sized places words (Published k) reads sized p = subst (Each IsSized) (sym p.1) (tt, (tt, (sized, tt)))
put_sized places words (Full c) reads sized p = subst (Each IsSized) (sym p.1) (tt, tt)
put_sized places words (Raced e) reads sized p = subst (Each IsSized) (sym p.2) (tt, (tt, tt))

-- ---- what is to be published is a basis

-- the words of the basis that a solve ends with are all words of a basis
end_sized : (f : Form) (end : ExactSolveEnd) → IfSome (words_of_end f end) (λ words. length words ≡ basis_words)
end_sized f (Ended (known.Optimal v) certificate (Some basis) pivots) = packed_length f basis
end_sized f (Ended (known.Optimal v) certificate None pivots) = tt
end_sized f (Ended known.Infeasible certificate basis pivots) = tt
end_sized f (Ended known.Unbounded certificate basis pivots) = tt
end_sized f (Past p) = tt
end_sized f Spent = tt

-- the words that a solve goes on to publish; none where it replies at once
abbrev words_of : Worked → Words
words_of (Ends replied next) = []
words_of (Publishes pending) = pending.words

module _ (old : State) (found : Looked) (pending : Pending) where
  -- the words that a solve goes on to publish, by how it ended, are as many as those of a basis
  worked_sized : (end : ExactSolveEnd) (how : How) (words : Option Words) →
      IfSome words (λ words. length words ≡ basis_words) →
      Publishes pending ≡ worked_with old found end how words → length pending.words ≡ basis_words
  worked_sized end how None sized e = cc
  worked_sized end how (Some words) sized e = by (is_found found words) e
    where
      by : (t : Bool) →
          Publishes pending ≡
          cond t (Ends (step.answered old end) (step.with_answer old end how publication.Same))
          (Publishes (record { end = end; how = how; words = words })) → length pending.words ≡ basis_words
      by true h = cc
      by false h = ap (λ w. length (words_of w)) h ∙ sized

  -- where the work of a solve goes on to publish words, they are as many as those of a basis
  pending_sized : Works old found (Publishes pending) → length pending.words ≡ basis_words
  pending_sized (inl s) =
      worked_sized s.solved.end (how_by found s.solved.route) (words_of_end s.form s.solved.end)
      (end_sized s.form s.solved.end) s.goes_on
  pending_sized (inr e) = cc

-- ---- a step
module _ (places : ℕ) (old : State) (reads : List ExactRead) (replied : ExactReply) (new : State) where
  -- where a look's reads publish words of a basis's size alone, so do those of the whole solve
  concluded_sized : (found : Looked) (worked : Worked) (looked : List ExactRead) → Each IsSized looked →
      Works old found worked → Concludes places old worked looked reads replied new → Each IsSized reads
  concluded_sized found (Ends stated next) looked each works c = subst (Each IsSized) (sym c.0) each
  concluded_sized found (Publishes pending) looked each works c =
      subst (Each IsSized) (sym c.all)
      (each_append IsSized looked c.tried each
      (put_sized places pending.words c.put c.tried (pending_sized old found pending works) c.puts))

  -- the reads of a step, however it begins, publish words of a basis's size alone
  goes_sized : (begun : Begun) → GoesOn places old begun reads replied new → Each IsSized reads
  goes_sized (step.Answers stated next) g = subst (Each IsSized) (sym g.0) tt
  goes_sized (step.Looks shape) g =
      concluded_sized g.found g.worked g.looked (look_sized shape g.looked g.found g.look) g.works g.concludes

-- each place that a step of a session publishes has all words of a basis
pub step_sized : (places : ℕ) (old : State) (asked : ExactAsk) (reads : List ExactRead) (replied : ExactReply)
    (new : State) → AloneStep places old asked reads replied new → Each IsSized reads
step_sized places old asked reads replied new s = goes_sized places old reads replied new s.begun s.goes_on
