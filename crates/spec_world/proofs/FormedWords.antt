-- The words that a solve publishes are well formed, if those that it found are.
use Rattle.std.proofs.Common.{◌≡◌, ℕ, zero, suc, Bool, true, false, List, [], ◌∷◌, Option, Some, None, IfSome}
use Rattle.std.proofs.Common.{Result, Ok, refl, sym, ap, ◌∙◌, subst, ◌⊎◌, inl, inr}
use Rattle.spec_text.proofs.WordLemmas.{same_is_equal}
use Rattle.spec_exact.specs.Fraction.{ℚ}
use Rattle.spec_exact.specs.Narrow.{number_limit}
use Rattle.spec_model.specs.Model.{Model}
use Rattle.spec_model.specs.Kept.{IsUsualModel}
use Rattle.spec_check.specs.declared.certificate.Known.TheVariants as known
use Rattle.spec_simplex.specs.declared.ends.FormFault.{FormFault}
use Rattle.spec_simplex.specs.Form.{Form, IsForm, form_of}
use Rattle.spec_simplex.specs.Eliminate.{IsBasisOf}
use Rattle.spec_check.specs.declared.solve_end.SolveEnd.TheVariants.{Ended, Past, Spent}
use Rattle.spec_runs.specs.Cold.{ExactSolveEnd}
use Rattle.spec_solve.proofs.Left.{solved_left}
use Rattle.spec_board.specs.Words.{shape_of, packed, IsWellFormed}
use Rattle.spec_board.proofs.PackedBases.{packed_fits, unpacked_fits}
use Rattle.spec_board.specs.declared.read.Read.TheVariants as read
use Rattle.spec_board.specs.Reads.{Words, ExactRead, Looked, front, has_shape, SeenBy, SeesDown, LookReads}
use Rattle.spec_server.specs.declared.asks.Reply.TheVariants as reply
use Rattle.spec_server.specs.Machine.{State, solve_due}
use Rattle.spec_server.specs.Step.{Begun, Answers, Looks, solve_begun, BegunBy, Begins, Pending, Ends}
use Rattle.spec_server.specs.Step.{Publishes, handed_by, how_by, is_found, words_of_end, worked_with, SolvesWith, Works}
use Rattle.spec_world.specs.World.{solve}
use Rattle.spec_world.proofs.PublishedBases.{published_words}
use Rattle.spec_world.proofs.FormWords.{form_kept}

-- ---- what a look finds has the shape

-- if the look found a place, the words of the place have this shape in front
abbrev HasShape : Words → Looked → Type 0
HasShape shape found = IfSome found (λ p. has_shape shape p.words ≡ true)

-- what a look finds at the place that it sees, or further down, has the shape, where that further down has
seen_found : (shape : Words) (k : ℕ) (words : Words) (rest : List ExactRead) (found : Looked) (t : Bool) →
    has_shape shape words ≡ t → (SeesDown shape k rest found → HasShape shape found) →
    SeenBy t k words rest found (SeesDown shape k rest found) → HasShape shape found
seen_found shape k words rest found true e more b = subst (HasShape shape) (sym b.2) e
seen_found shape k words rest found false e more b = more b.1

-- what a look finds has the shape that it looks for
sees_found : (shape : Words) (k : ℕ) (reads : List ExactRead) (found : Looked) → SeesDown shape k reads found →
    HasShape shape found
sees_found shape zero reads found d = subst (HasShape shape) (sym d.1) tt
sees_found shape (suc k) [] found d = absurd d
sees_found shape (suc k) (read.NotDone j ∷ reads) found d = sees_found shape k reads found d.1
sees_found shape (suc k) (read.Seen j words ∷ reads) found d =
    seen_found shape k words reads found (has_shape shape words) refl (sees_found shape k reads found) d.1
sees_found shape (suc k) (read.Count c ∷ reads) found d = absurd d
sees_found shape (suc k) (read.Claim c ∷ reads) found d = absurd d
sees_found shape (suc k) (read.Lost c ∷ reads) found d = absurd d
sees_found shape (suc k) (read.Done j words ∷ reads) found d = absurd d

-- ---- the shape that is looked for is that of the model's form

-- two looks that are the same look for the same shape
looks_same : (shape other : Words) → ◌≡◌ {A = Begun} (Looks shape) (Looks other) → shape ≡ other
looks_same shape other e = cc

-- the shape that a solve looks for is that of the form of its model
shape_is : (state : State) (m : Model) (f : Form) (shape : Words) → state.model ≡ Some m →
    form_of (Some number_limit) m ≡ Ok f → Begins state solve (Looks shape) → shape ≡ shape_of f
shape_is state m f shape held formed (inl e) =
    let due : Looks shape ≡ solve_begun state m (form_of (Some number_limit) m) =
    subst (λ (h : Option Model). BegunBy state (solve_due state h) (Looks shape)) held e in
    let begun : solve_begun state m (form_of (Some number_limit) m) ≡ solve_begun state m (Ok f) =
    ap (λ (r : Result Form (FormFault ℚ)). solve_begun state m r) formed in
    looks_same shape (shape_of f) (due ∙ begun)
shape_is state m f shape held formed (inr e) =
    absurd (let z : ◌≡◌ {A = Begun} (Looks shape) (Answers reply.Memory state) = e.1 in cc)

-- ---- what is published

-- if the look found a place, the words of the place are well formed
abbrev pub IsFormedFound : Looked → Type 0
IsFormedFound found = IfSome found (λ p. IsWellFormed p.words)

-- where found words are well formed and have the shape of a form, the basis that they hand on is one of the form
handed_fits : (f : Form) → IsForm f → (found : Looked) → IsFormedFound found → HasShape (shape_of f) found →
    IfSome (handed_by found) (IsBasisOf f)
handed_fits f is None formed shaped = tt
handed_fits f is (Some p) formed shaped =
    let front_so : front p.words ≡ shape_of f = (same_is_equal (front p.words) (shape_of f)).0 shaped in
    unpacked_fits f is p.words front_so formed

module _ (state : State) (found : Looked) (pending : Pending) (s : SolvesWith state found (Publishes pending))
    (is : IsForm s.form) (fits : IfSome (handed_by found) (IsBasisOf s.form)) where
  -- the words that a solve goes on to publish are well formed, whatever its end
  by_end : (end : ExactSolveEnd) → s.solved.end ≡ end →
      Publishes pending ≡ worked_with state found end (how_by found s.solved.route) (words_of_end s.form end) →
      IsWellFormed pending.words
  by_end (Ended (known.Optimal v) certificate (Some basis) pivots) e w =
      let same : pending.words ≡ packed s.form basis =
      published_words pending _ (is_found found (packed s.form basis)) _ (λ r d. cc) w in
      subst IsWellFormed (sym same)
      (packed_fits s.form is basis
      (solved_left (known.Optimal v) certificate basis pivots s.model state.budget s.form s.formed s.solved e
      (handed_by found) fits s.is_solved))
  by_end (Ended (known.Optimal v) certificate None pivots) e w = cc
  by_end (Ended known.Infeasible certificate basis pivots) e w = cc
  by_end (Ended known.Unbounded certificate basis pivots) e w = cc
  by_end (Past p) e w = cc
  by_end Spent e w = cc

-- a solve of a usual model publishes well-formed words, where those that it found are well formed
pub published_formed : (state : State) (shape : Words) (found : Looked) (reads : List ExactRead) (pending : Pending) →
    IfSome state.model IsUsualModel → Begins state solve (Looks shape) → LookReads shape reads found →
    IsFormedFound found → Works state found (Publishes pending) → IsWellFormed pending.words
published_formed state shape found reads pending kept begins look formed works = by works
  where
    by : SolvesWith state found (Publishes pending) ⊎ (Publishes pending ≡ Ends reply.Memory state) →
        IsWellFormed pending.words
    by (inl s) =
        let model : IsUsualModel s.model = subst (λ (h : Option Model). IfSome h IsUsualModel) s.held kept in
        let is : IsForm s.form = form_kept (Some number_limit) s.model s.form model s.formed in
        let shape_so : shape ≡ shape_of s.form = shape_is state s.model s.form shape s.held s.formed begins in
        let shaped : HasShape (shape_of s.form) found =
        subst (λ w. HasShape w found) shape_so (sees_found shape look.count look.seen found look.down) in
        by_end state found pending s is (handed_fits s.form is found formed shaped) s.solved.end refl s.goes_on
    by (inr e) = cc
