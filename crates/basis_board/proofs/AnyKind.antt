-- A read that is so of the words is answered by the places that they spell.
use Rattle.std.proofs.Common.{ℕ, List, subst}
use Rattle.spec_board.specs.Places.{ExactPlace}
use Rattle.atomic_table.specs.Table.{State}
use Rattle.basis_board.specs.declared.seats.View.{View}
use Rattle.basis_board.specs.declared.seats.RawRead.{RawRead}
use Rattle.basis_board.specs.declared.seats.RawRead.TheVariants.{Count, Open, See, Claim, Lost, Done}
use Rattle.basis_board.specs.Rule.{Kept}
use Rattle.basis_board.specs.Moments.{viewed, IsTrueOf}
use Rattle.basis_board.proofs.InTime.{only_so}
use Rattle.basis_board.specs.PassReads.{exact_read}
use Rattle.basis_board.specs.Spelled.{AreSpelled, IsAnswered}
use Rattle.basis_board.specs.Noted.{IsOfClaimed, AnyKindIsAnswered}
use Rattle.basis_board.proofs.StepLemmas.{steps_read}

-- a read that is true of the board's words, and of a claimed place or the count, is answered by the places that the
-- words spell
answered : (places session : ℕ) (s : State ℕ View) (now : List ExactPlace) (r : RawRead) → Kept places s →
    AreSpelled s.words now → IsTrueOf s.words r → IsOfClaimed s.words r →
    IsAnswered places now session (exact_read r) s.words
answered places session s now (Count c) kept is t of =
    subst (λ (n : ℕ). IsAnswered places now session (exact_read (Count n)) s.words) t
    ((steps_read places s now kept is).counts session)
answered places session s now (Open k) kept is t of = (steps_read places s now kept is).opens session k of t
answered places session s now (See k xs) kept is t of =
    (steps_read places s now kept is).sees session k xs of.0 t of.1
answered places session s now (Claim k) kept is t of = absurd of
answered places session s now (Lost c) kept is t of =
    subst (λ (n : ℕ). IsAnswered places now session (exact_read (Lost n)) s.words) t
    ((steps_read places s now kept is).loses session)
answered places session s now (Done k xs) kept is t of = absurd of

-- whatever kind a step is that leaves its word as it was, the places answer the one read that it notes, if that is of
-- the count or of a claimed place
pub any_kind : AnyKindIsAnswered
any_kind places session i n id s v w slots act read now r at left r' l more is of =
    answered places session (viewed s) now read r.kept is
    (only_so places i n id s v w slots act read r at left r' l more) of
