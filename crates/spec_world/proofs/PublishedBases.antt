-- What is published is the packed final basis of a solve.
--
-- `published_words`: where publishing p is the outcome of a solve that publishes nothing or q, p and q have the same
--   words.
-- `puts_basis`: what a session publishes after a look is the packed final basis of the solve that followed.
use Rattle.std.proofs.Common.{◌≡◌, ℕ, Bool, true, false, List, [], ◌∷◌, ◌++◌, Some, None, Ok, refl, ap, ◌⊎◌, inl, inr}
use Rattle.std.proofs.Common.{cond}
use Rattle.spec_exact.specs.Narrow.{number_limit}
use Rattle.spec_model.specs.Model.{Model}
use Rattle.spec_check.specs.declared.certificate.Known.TheVariants as known
use Rattle.spec_simplex.specs.Form.{Form, form_of}
use Rattle.spec_check.specs.declared.solve_end.SolveEnd.TheVariants.{Ended, Past, Spent}
use Rattle.spec_runs.specs.Cold.{ExactSolveEnd}
use Rattle.spec_runs.specs.Solve.{SolveEnd}
use Rattle.spec_solve.specs.Answers.{IsSolved}
use Rattle.spec_board.specs.Words.{packed}
use Rattle.spec_board.specs.declared.read.Read.TheVariants as read
use Rattle.spec_board.specs.Reads.{Words, ExactRead, Looked, LookReads}
use Rattle.spec_server.specs.declared.asks.Reply.TheVariants as reply
use Rattle.spec_server.specs.Machine.{State}
use Rattle.spec_server.specs.Step.{Looks, Begins, Pending, Worked, Ends, Publishes, handed_by, how_by, is_found}
use Rattle.spec_server.specs.Step.{words_of_end, worked_with, SolvesWith}
use Rattle.spec_server.specs.Exchanges.{Exchange}
use Rattle.spec_world.specs.Sound.{PutsBasis}
use Rattle.spec_world.proofs.Stages.{HasLooked}

-- the words that a solve goes on to publish; empty where it publishes none
abbrev words_of : Worked → Words
words_of (Ends replied next) = []
words_of (Publishes pending) = pending.words

pub published_words : (p q : Pending) (t : Bool) (end : Worked) → ((r : Pending) → Publishes r ≡ end → ⊥) →
    Publishes p ≡ cond t end (Publishes q) → p.words ≡ q.words
published_words p q true end none e = absurd (none p e)
published_words p q false end none e = ap words_of e

module _ (state : State) (pending : Pending) (looked : List ExactRead) (found : Looked) (x : Exchange) (k : ℕ)
    (model : Model) (form : Form) (solved : SolveEnd) (shape : Words)
    (begins : Begins state x.ask (Looks shape)) (look : LookReads shape looked found) (held : state.model ≡ Some model)
    (formed : form_of (Some number_limit) model ≡ Ok form)
    (is_solved : IsSolved model state.budget (handed_by found) solved)
    (reads : x.reads ≡ looked ++ read.Count k ∷ read.Claim k ∷ read.Done k pending.words ∷ []) where
  -- what a session publishes after a solve with this end is the packed basis of the end
  puts : (end : ExactSolveEnd) → solved.end ≡ end →
      Publishes pending ≡ worked_with state found end (how_by found solved.route) (words_of_end form end) →
      PutsBasis state x k pending.words
  puts (Ended (known.Optimal v) certificate (Some basis) pivots) is e = record {
    shape = shape;
    looked = looked;
    found = found;
    model = model;
    form = form;
    value = v;
    certificate = certificate;
    basis = basis;
    pivots = pivots;
    solved = solved;
    begins = begins;
    look = look;
    held = held;
    formed = formed;
    is_solved = is_solved;
    is_optimal = is;
    is_packed = published_words pending _ (is_found found (packed form basis)) _ (λ r d. cc) e;
    reads = reads;
  }
  puts (Ended (known.Optimal v) certificate None pivots) is e = cc
  puts (Ended known.Infeasible certificate basis pivots) is e = cc
  puts (Ended known.Unbounded certificate basis pivots) is e = cc
  puts (Past p) is e = cc
  puts Spent is e = cc

-- a session whose basis is to be published puts the basis of its solve
pub puts_basis : (state : State) (pending : Pending) (looked : List ExactRead) (l : HasLooked state pending looked)
    (x : Exchange) (k : ℕ) → Begins state x.ask (Looks l.shape) →
    x.reads ≡ looked ++ read.Count k ∷ read.Claim k ∷ read.Done k pending.words ∷ [] → PutsBasis state x k pending.words
puts_basis state pending looked l x k begins reads = by l.works
  where
    by : SolvesWith state l.found (Publishes pending) ⊎ (Publishes pending ≡ Ends reply.Memory state) →
        PutsBasis state x k pending.words
    by (inl s) =
        puts state pending looked l.found x k s.model s.form s.solved l.shape begins l.look s.held s.formed s.is_solved
        reads s.solved.end refl s.goes_on
    by (inr e) = cc
