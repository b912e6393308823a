-- The steps of the one-session machine. What it reads of what sessions share are values that come in: a solve makes one
-- look for the newest basis of its form's shape, solves with what was found, and tries at most once to publish the
-- basis that it ends with.
use Rattle.std.specs.Prelude.{ℕ, ◌≡◌, ◌⊎◌, ◌++◌, Bool, true, false, Option, Some, None, option_map, Result, Ok, Err}
use Rattle.std.specs.Prelude.{List, [], if◌then◌else◌}
use Rattle.spec_text.specs.Words.{same}
use Rattle.spec_exact.specs.Fraction.{ℚ}
use Rattle.spec_exact.specs.Narrow.{number_limit}
use Rattle.spec_model.specs.Model.{Model}
use Rattle.spec_check.specs.declared.certificate.Known.TheVariants as known
use Rattle.spec_pivot.specs.declared.status.Status.{Status}
use Rattle.spec_simplex.specs.declared.ends.FormFault.{FormFault}
use Rattle.spec_simplex.specs.Form.{Form, form_of}
use Rattle.spec_check.specs.declared.solve_end.SolveEnd.TheVariants.{Ended}
use Rattle.spec_runs.specs.Cold.{ExactSolveEnd, cold}
use Rattle.spec_runs.specs.declared.ends.Route.{Route}
use Rattle.spec_runs.specs.declared.ends.Route.TheVariants as route
use Rattle.spec_runs.specs.Solve.{SolveEnd}
use Rattle.spec_solve.specs.Answers.{IsSolved}
use Rattle.spec_solve.specs.Exact.{RationalEnd, IsExactEnd}
use Rattle.spec_board.specs.Words.{shape_of, packed, unpacked}
use Rattle.spec_board.specs.declared.read.Put.{Put}
use Rattle.spec_board.specs.Reads.{Words, ExactRead, Looked, LookReads, PutReads}
use Rattle.spec_server.specs.declared.answer.How.{How}
use Rattle.spec_server.specs.declared.answer.How.TheVariants as how
use Rattle.spec_server.specs.declared.answer.Publication.{Publication}
use Rattle.spec_server.specs.declared.answer.Publication.TheVariants as publication
use Rattle.spec_server.specs.declared.asks.Reply.TheVariants as reply
use Rattle.spec_server.specs.Machine.{ExactAsk, ExactReply, State, Due, Replies, Solves, SolvesWide, due, answer_of}
use Rattle.spec_server.specs.Machine.{takes_memory}
use Rattle.spec_server.specs.WideLines.{wide_lines}

-- ---- an ask begins

-- how a session begins a request: it replies and is in its next state, or looks up words of a shape
pub data Begun : Type 0 where
  Answers : (replied : ExactReply) → (next : State) → Begun
  Looks : (shape : Words) → Begun

-- the reply to a solve that ended so, within the budget of the session
abbrev pub answered : State → ExactSolveEnd → ExactReply
answered old end = answer_of old.budget end

-- the state that keeps this end as the last answer, with how it was found and what became of its basis
abbrev pub with_answer : State → ExactSolveEnd → How → Publication → State
with_answer old end how publication =
    record old { last = Some (record { solved = end; how = how; publication = publication }) }

-- how a solve begins, by the model's form: it looks for a basis of the form's shape; without a form it replies as the
-- cold solve ends, and keeps that answer
abbrev pub solve_begun : State → Model → Result Form (FormFault ℚ) → Begun
solve_begun old m (Ok f) = Looks (shape_of f)
solve_begun old m (Err fault) =
    let end : ExactSolveEnd = cold (Some number_limit) old.budget m in
    Answers (answered old end) (with_answer old end how.Cold publication.Nothing)

-- The session replies the lines of an end that an exact solve of the model may have, and keeps its state.
pub record AnswersWide (old : State) (m : Model) (begun : Begun) : Type 0 where
  pub end : RationalEnd
  pub is_end : IsExactEnd m old.budget None end
  pub answers : begun ≡ Answers (reply.Wide (wide_lines m end)) old

-- how a session begins what it is due to do: with the reply that is due; for a solve, by looking for a basis of the
-- form's shape, or by the reply where there is no form; for an exact solve, with the reply of its lines
abbrev pub BegunBy : State → Due → Begun → Type 0
BegunBy old (Replies replied next) begun = begun ≡ Answers replied next
BegunBy old (Solves m) begun = begun ≡ solve_begun old m (form_of (Some number_limit) m)
BegunBy old (SolvesWide m) begun = AnswersWide old m begun

-- the session begins a request as `due` has it; or, if memory may run out for the request, it may reply `MEMORY` and
-- keep its state
abbrev pub Begins : State → ExactAsk → Begun → Type 0
Begins old asked begun =
    BegunBy old (due old asked) begun ⊎ ((takes_memory asked ≡ true) × (begun ≡ Answers reply.Memory old))

-- ---- a solve goes on with what was found

-- the end of a solve whose basis is to be published: how it ended, how it was found, and the words of its basis
pub record Pending : Type 0 where
  pub end : ExactSolveEnd
  pub how : How
  pub words : Words

-- what a solve does once it has ended: it replies and is in the next state, or publishes words first
pub data Worked : Type 0 where
  Ends : (replied : ExactReply) → (next : State) → Worked
  Publishes : (pending : Pending) → Worked

-- the basis that is handed to a solve: that of the words which a look found; none where it found nothing
abbrev pub handed_by : Looked → Option (List Status)
handed_by found = option_map (λ place. unpacked place.words) found

-- how an answer was found where the basis at place k was handed to the solve, by the solve's route: from that basis,
-- or cold because the start from it stopped, or just cold
abbrev pub how_from : ℕ → Route → How
how_from k route.Cold = how.Cold
how_from k route.Warm = how.Basis k
how_from k (route.Fell why) = how.Fell k why

-- how an answer was found, by what the look found and by the solve's route; cold where nothing was found
abbrev pub how_by : Looked → Route → How
how_by None route = how.Cold
how_by (Some place) route = how_from place.place route

-- whether a look found these very words
abbrev pub is_found : Looked → Words → Bool
is_found None words = false
is_found (Some place) words = same words place.words

-- the words of the form and the basis of a solve that ended with an optimum and a basis; none for any other end
abbrev pub words_of_end : Form → ExactSolveEnd → Option Words
words_of_end f (Ended (known.Optimal v) certificate (Some basis) pivots) = Some (packed f basis)
words_of_end f other = None

-- what a solve does once it has ended so: the words of its basis are published, if it has any and the look did not
-- find the same; else it replies at once and keeps the answer, with `Same` or, without words, `Nothing`
abbrev pub worked_with : State → Looked → ExactSolveEnd → How → Option Words → Worked
worked_with old found end how None = Ends (answered old end) (with_answer old end how publication.Nothing)
worked_with old found end how (Some words) =
    if is_found found words
    then Ends (answered old end) (with_answer old end how publication.Same)
    else Publishes (record { end = end; how = how; words = words })

-- The session's model, which has a form, is solved with the basis that was found, if one was; and the solve goes on by
-- how it ended.
pub record SolvesWith (old : State) (found : Looked) (worked : Worked) : Type 0 where
  pub model : Model
  pub form : Form
  pub solved : SolveEnd
  pub held : old.model ≡ Some model
  pub formed : form_of (Some number_limit) model ≡ Ok form
  pub is_solved : IsSolved model old.budget (handed_by found) solved
  pub goes_on :
      worked ≡ worked_with old found solved.end (how_by found solved.route) (words_of_end form solved.end)

-- what a solve may do after its look: it solves the model with what was found; or memory runs out, and the state stays
abbrev pub Works : State → Looked → Worked → Type 0
Works old found worked = SolvesWith old found worked ⊎ (worked ≡ Ends reply.Memory old)

-- ---- words were published, or not

-- the state after the try to publish the basis of an answer: the answer is the last one, with what became of its basis
abbrev pub after_put : State → Pending → Put → State
after_put old pending put = with_answer old pending.end pending.how (publication.Tried put)

-- Behind the reads of the look stand those of one try to publish the words. The reply is that of the solve's end, and
-- the state keeps the answer with what became of its basis.
pub record PutStep (places : ℕ) (old : State) (pending : Pending) (looked reads : List ExactRead) (replied : ExactReply)
    (new : State) : Type 0 where
  pub put : Put
  pub tried : List ExactRead
  pub puts : PutReads places pending.words put tried
  pub all : reads ≡ looked ++ tried
  pub answer : replied ≡ answered old pending.end
  pub kept : new ≡ after_put old pending put

-- how a solve ends, of whose reads those of its look are the first: with its reply and state at once and no more
-- reads, or after one try to publish its words
abbrev pub Concludes : ℕ → State → Worked → List ExactRead → List ExactRead → ExactReply → State → Type 0
Concludes places old (Ends stated next) looked reads replied new = (reads ≡ looked) × (replied ≡ stated) × (new ≡ next)
Concludes places old (Publishes pending) looked reads replied new = PutStep places old pending looked reads replied new

-- ---- the whole step

-- The session looks for a basis of this shape, solves with what it found, and then replies, or makes one try to publish
-- and replies; these are its reads, its reply and its new state.
pub record LookStep (places : ℕ) (old : State) (shape : Words) (reads : List ExactRead) (replied : ExactReply)
    (new : State) : Type 0 where
  pub looked : List ExactRead
  pub found : Looked
  pub worked : Worked
  pub look : LookReads shape looked found
  pub works : Works old found worked
  pub concludes : Concludes places old worked looked reads replied new

-- How a step ends that began so: a reply that was given at once stands, without a read;
-- else it looks for a basis and solves.
abbrev pub GoesOn : ℕ → State → Begun → List ExactRead → ExactReply → State → Type 0
GoesOn places old (Answers stated next) reads replied new = (reads ≡ []) × (replied ≡ stated) × (new ≡ next)
GoesOn places old (Looks shape) reads replied new = LookStep places old shape reads replied new

-- One step of the machine, where sessions share so many places: from the state `old`, a request is answered, with these
-- reads and this reply, and leaves the state `new`.
pub record AloneStep (places : ℕ) (old : State) (asked : ExactAsk) (reads : List ExactRead) (replied : ExactReply)
    (new : State) : Type 0 where
  pub begun : Begun
  pub begins : Begins old asked begun
  pub goes_on : GoesOn places old begun reads replied new
