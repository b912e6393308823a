-- The lines of parts, one by one.
use Rattle.std.proofs.Common.{◌≡◌, ℕ, Bool, true, false, cond, List, [], ◌∷◌, ◌++◌, sym, ap, ◌∙◌}
use Rattle.std.proofs.lemmas.List.{append-nil}
use Rattle.spec_model.specs.Model.{Name}
use Rattle.spec_check.specs.declared.certificate.Letter.{Letter}
use Rattle.spec_certificate.specs.TextWritten.{Writing, part_text_by, part_lines_by}

module _ {F : Type 0} (write : Writing F) (letter : Letter) (name : Name) (v : F) where
  -- a number that is 0 has no line, so the lines stay
  pub no_line : (lines : List (List ℕ)) (none : Bool) → none ≡ write.is_none v → none ≡ true →
      lines ≡ lines ++ part_lines_by write letter name v
  no_line lines none e h =
      sym (ap (λ b. lines ++ cond b [] (part_text_by write letter name v ∷ [])) (sym e ∙ h) ∙ append-nil lines)

  -- a number that is not 0 has one line, which goes behind the lines
  pub one_line : (lines after : List (List ℕ)) (text : List ℕ) (none : Bool) → none ≡ write.is_none v →
      none ≡ false → after ≡ lines ++ text ∷ [] → text ≡ part_text_by write letter name v →
      after ≡ lines ++ part_lines_by write letter name v
  one_line lines after text none e h k t =
      k ∙ ap (λ w. lines ++ w ∷ []) t
      ∙ ap (λ b. lines ++ cond b [] (part_text_by write letter name v ∷ [])) (sym (sym e ∙ h))
