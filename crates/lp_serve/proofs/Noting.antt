-- What a pass notes, one step after the other.
--
-- `none_noted`: `NotesOn` holds of a pass and itself.
-- `noted_on`: where `NotesOn` holds of a and b, and of b and c, it holds of a and c.
-- `noted_all`: all reads that a pass has noted since it had noted none were true when it noted them.
use Rattle.std.proofs.Common.{◌≡◌, [], refl, sym, subst}
use Rattle.basis_board.specs.Known.{Known}
use Rattle.basis_board.specs.Moments.{NotesMore, WereTrue}
use Rattle.basis_board.proofs.Timing.{notes_none, notes_on}
use Rattle.lp_session.specs.Boarding.{NotesOn}

pub none_noted : (pass : Known) → NotesOn pass pass
none_noted pass = record { notes = notes_none pass.moments pass.moments refl; were_true = λ h. h }

pub noted_on : (a b c : Known) → NotesOn a b → NotesOn b c → NotesOn a c
noted_on a b c p q = record {
  notes = notes_on a.moments b.moments c.moments p.notes q.notes;
  were_true = λ h. q.were_true (p.were_true h);
}

-- a pass that had noted nothing
pub noted_all : (old new : Known) → old.moments ≡ [] → old.view.reads ≡ [] → NotesOn old new →
    NotesMore [] new.moments × WereTrue new.moments new.view.reads
noted_all old new none fresh on = (
  subst (λ ms. NotesMore ms new.moments) none on.notes,
  on.were_true
      (subst (λ ms. WereTrue ms old.view.reads) (sym none) (subst (WereTrue []) (sym fresh) tt)),
)
