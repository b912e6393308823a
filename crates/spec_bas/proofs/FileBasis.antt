-- What a file gives is one basis of the form; every other file has one first wrong line.
use Rattle.std.proofs.Common.{◌≡◌, ℕ, ◌+◌, ◌⊎◌, inl, inr, List, [], ◌∷◌, Ok, Err, refl, subst}
use Rattle.spec_text.specs.declared.line.Line.{Line}
use Rattle.spec_model.specs.Model.{Model}
use Rattle.spec_pivot.specs.declared.status.Status.{Status}
use Rattle.spec_simplex.specs.Form.{Form}
use Rattle.spec_simplex.specs.Eliminate.{IsBasisOf}
use Rattle.spec_bas.specs.declared.fault.BasCode.{BasCode}
use Rattle.spec_bas.specs.Steps.{State, Verdict, Spelled, Refused, Outcome, More, Done, start, step, settled, judge}
use Rattle.spec_bas.specs.Steps.{Refuses}
use Rattle.spec_bas.specs.Fits.{HasSizeOf, IsMarking}
use Rattle.spec_bas.specs.Spelled.{SpellsBasis}
use Rattle.spec_bas.proofs.Marks.{start_marks}
use Rattle.spec_bas.proofs.MarkSteps.{step_keeps, step_fits}
use Rattle.spec_bas.proofs.Files.{gives_spells, spells_gives}

module _ (m : Model) (f : Form) (size : HasSizeOf m f) where
  -- where what was read so far gives a basis of the form, a basis that further lines give is one of the form
  judged_fits : (lines : List (Line (List ℕ))) (n : ℕ) (s : State) (b : List Status) → IsMarking f s →
      judge m f s n lines ≡ Spelled b → IsBasisOf f b
  judged_fits [] n s b g h = cc
  judged_fits (line ∷ lines) n s b g h =
      by (step m f s line) refl h (λ t k e. judged_fits lines (n + 1) t b k e)
    where
      by : (o : Outcome) → step m f s line ≡ o → settled n (λ t. judge m f t (n + 1) lines) o ≡ Spelled b →
          ((t : State) → IsMarking f t → judge m f t (n + 1) lines ≡ Spelled b → IsBasisOf f b) → IsBasisOf f b
      by (Ok (More t)) e h rest = rest t (step_keeps m f size s g line t e) h
      by (Ok (Done c)) e h rest =
          let z : c ≡ b = cc in subst (IsBasisOf f) z (step_fits m f size s g line c e)
      by (Err code) e h rest = cc

  -- a basis that lines spell is one of the form
  pub spelled_fits : (lines : List (Line (List ℕ))) (b : List Status) → SpellsBasis m f lines b → IsBasisOf f b
  spelled_fits lines b w = judged_fits lines 1 (start f) b (start_marks f) (spells_gives m f size lines b w)

  -- two bases that one verdict spells are the same
  same_spelled : (v : Verdict) (a b : List Status) → v ≡ Spelled a → v ≡ Spelled b → a ≡ b
  same_spelled v a b p q = cc

  -- two bases that the same lines spell are the same
  pub one_basis : (lines : List (Line (List ℕ))) (a b : List Status) → SpellsBasis m f lines a → SpellsBasis m f
      lines b → a ≡ b
  one_basis lines a b v w =
      same_spelled (judge m f (start f) 1 lines) a b (spells_gives m f size lines a v) (spells_gives m f size lines b w)

  -- lines spell a basis, or have a first wrong line with a fault
  pub judged : (lines : List (Line (List ℕ))) →
      ((b : List Status) × SpellsBasis m f lines b) ⊎ ((n : ℕ) × (code : BasCode) × Refuses m f lines n code)
  judged lines = by (judge m f (start f) 1 lines) refl
    where
      by : (v : Verdict) → judge m f (start f) 1 lines ≡ v →
          ((b : List Status) × SpellsBasis m f lines b) ⊎ ((n : ℕ) × (code : BasCode) × Refuses m f lines n code)
      by (Spelled b) e = inl (b, gives_spells m f size lines b e)
      by (Refused n code) e = inr (n, code, e)

  -- no verdict is both a basis and a fault
  not_two : (v : Verdict) (b : List Status) (n : ℕ) (code : BasCode) → v ≡ Spelled b → v ≡ Refused n code → ⊥
  not_two v b n code p q = cc

  -- lines that spell a basis are not refused
  pub not_both : (lines : List (Line (List ℕ))) (b : List Status) (n : ℕ) (code : BasCode) → SpellsBasis m f lines b →
      Refuses m f lines n code → ⊥
  not_both lines b n code w r =
      not_two (judge m f (start f) 1 lines) b n code (spells_gives m f size lines b w) r
