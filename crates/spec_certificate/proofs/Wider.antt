-- A text that is read with numbers of 127 bits is read alike with numbers of any width.
--
-- `is_read`: a text that is read as a number of 127 bits is read as the same number of any width.
-- `spelled_wide`: lines that spell a certificate with numbers of 127 bits spell it with numbers of any width.
use Rattle.std.proofs.Common.{◌≡◌, ℕ, ◌+◌, Bool, true, false, cond, Option, Some, None, List, [], ◌∷◌, ◌⊎◌, inl, inr}
use Rattle.std.proofs.Common.{refl, sym, ap, ◌∙◌}
use Rattle.spec_text.specs.declared.line.Line.{Line}
use Rattle.spec_text.specs.declared.line.Line.TheVariants.{Text, Long, End, Over}
use Rattle.spec_text.specs.Words.{words_of}
use Rattle.spec_exact.specs.Fraction.{ℚ}
use Rattle.spec_model.specs.Model.{Name}
use Rattle.spec_mps.specs.NumberText.{NumberReading, number_of}
use Rattle.spec_mps.specs.NumberText as number
use Rattle.spec_mps.specs.WideText.{wide_of}
use Rattle.spec_mps.proofs.Agree.{same_reading}
use Rattle.spec_check.specs.declared.certificate.Letter.{Letter}
use Rattle.spec_check.specs.Raw.{PartOf, RawOf, ExactKind, ExactRaw}
use Rattle.spec_certificate.specs.declared.progress.Progress.TheVariants.{More, Done, Unfit}
use Rattle.spec_certificate.specs.Text.{Reading, OutcomeOf, JudgementOf, Spelled, Refused, letter_of, takes, valued, lettered}
use Rattle.spec_certificate.specs.Text.{part_by, with_part, is_end, words_step, step_by, settled, judge_by, SpellsBy}
use Rattle.spec_certificate.specs.NarrowText.{narrow, value_in, Spells}
use Rattle.spec_certificate.specs.WideText.{wide, wide_in}

module _ {F : Type 0} (read other : Reading F)
    (wider : (text : List ℕ) (v : F) → read text ≡ Some v → other text ≡ Some v) where
  -- the wider reading makes the same part of a text, or the narrower one makes none
  valued_same : (letter : Letter) (name : Name) (text : List ℕ) →
      (valued letter name (other text) ≡ valued letter name (read text)) ⊎ (valued letter name (read text) ≡ None)
  valued_same letter name text = by (read text) refl
    where
      by : (o : Option F) → read text ≡ o →
          (valued letter name (other text) ≡ valued letter name (read text)) ⊎ (valued letter name (read text) ≡ None)
      by None e = inr (ap (valued letter name) e)
      by (Some v) e = inl (ap (valued letter name) (wider text v e ∙ sym e))

  -- the wider reading makes the same part of a letter, name and text, or the narrower one makes none
  lettered_same : (kind : ExactKind) (o : Option Letter) (name : Name) (text : List ℕ) →
      (lettered other kind o name text ≡ lettered read kind o name text) ⊎ (lettered read kind o name text ≡ None)
  lettered_same kind None name text = inl refl
  lettered_same kind (Some letter) name text = by (takes kind letter)
    where
      by : (t : Bool) →
          (cond t (valued letter name (other text)) None ≡ cond t (valued letter name (read text)) None)
          ⊎ (cond t (valued letter name (read text)) None ≡ None)
      by true = valued_same letter name text
      by false = inl refl

  -- the wider reading makes the same part of a line's words, or the narrower one makes none
  part_same : (kind : ExactKind) (words : List (List ℕ)) →
      (part_by other kind words ≡ part_by read kind words) ⊎ (part_by read kind words ≡ None)
  unfolding part_by
  part_same kind [] = inl refl
  part_same kind (a ∷ []) = inl refl
  part_same kind (a ∷ b ∷ []) = inl refl
  part_same kind (a ∷ b ∷ c ∷ []) = lettered_same kind (letter_of a) b c
  part_same kind (a ∷ b ∷ c ∷ d ∷ words) = inl refl

  -- a line adds the same part by the wider reading, or does not fit by the narrower one
  added_same : (raw : RawOf F) (words : List (List ℕ)) →
      (with_part raw (part_by other raw.kind words) ≡ with_part raw (part_by read raw.kind words))
      ⊎ (with_part raw (part_by read raw.kind words) ≡ Unfit)
  added_same raw words = by (part_same raw.kind words)
    where
      by : (part_by other raw.kind words ≡ part_by read raw.kind words) ⊎ (part_by read raw.kind words ≡ None) →
          (with_part raw (part_by other raw.kind words) ≡ with_part raw (part_by read raw.kind words))
          ⊎ (with_part raw (part_by read raw.kind words) ≡ Unfit)
      by (inl e) = inl (ap (with_part raw) e)
      by (inr e) = inr (ap (with_part raw) e)

  -- a line's words lead to the same by the wider reading, or do not fit by the narrower one
  words_same : (s : Option (RawOf F)) (words : List (List ℕ)) →
      (words_step other s words ≡ words_step read s words) ⊎ (words_step read s words ≡ Unfit)
  words_same None words = inl refl
  words_same (Some raw) words = by (is_end words)
    where
      by : (t : Bool) →
          (cond t (Done raw) (with_part raw (part_by other raw.kind words))
          ≡ cond t (Done raw) (with_part raw (part_by read raw.kind words)))
          ⊎ (cond t (Done raw) (with_part raw (part_by read raw.kind words)) ≡ Unfit)
      by true = inl refl
      by false = added_same raw words

  -- a line leads to the same by the wider reading, or does not fit by the narrower one
  pub step_same : (s : Option (RawOf F)) (line : Line (List ℕ)) →
      (step_by other s line ≡ step_by read s line) ⊎ (step_by read s line ≡ Unfit)
  unfolding step_by
  step_same s (Text bytes) = words_same s (words_of bytes)
  step_same s (Long len) = inl refl
  step_same s End = inl refl
  step_same s Over = inl refl

  -- the judgement of the lines from number n on, behind a certificate that was read so far
  abbrev after : Reading F → ℕ → List (Line (List ℕ)) → RawOf F → JudgementOf F
  after how n lines raw = judge_by how (Some raw) n lines

  -- where the lines behind a line spell by the wider reading what they spell by the narrower one, so does the outcome
  -- of the line with them
  on_outcome : (lines : List (Line (List ℕ))) (n : ℕ) (raw : RawOf F) →
      ((r : RawOf F) → after read (n + 1) lines r ≡ Spelled raw → after other (n + 1) lines r ≡ Spelled raw) →
      (o : OutcomeOf F) → settled n (after read (n + 1) lines) o ≡ Spelled raw →
      settled n (after other (n + 1) lines) o ≡ Spelled raw
  on_outcome lines n raw more (More r) e = more r e
  on_outcome lines n raw more (Done r) e = e
  on_outcome lines n raw more Unfit e = cc

  -- a refusal is not a certificate that is spelled
  no_refusal : (n : ℕ) (raw : RawOf F) → Refused n ≡ Spelled raw → ⊥
  no_refusal n raw e = cc

  -- where the lines behind a line spell the same by both readings, so do they with this line, if the narrower one
  -- spells
  on_line : (line : Line (List ℕ)) (lines : List (Line (List ℕ))) (s : Option (RawOf F)) (n : ℕ) (raw : RawOf F) →
      ((r : RawOf F) → after read (n + 1) lines r ≡ Spelled raw → after other (n + 1) lines r ≡ Spelled raw) →
      judge_by read s n (line ∷ lines) ≡ Spelled raw → judge_by other s n (line ∷ lines) ≡ Spelled raw
  on_line line lines s n raw more e = by (step_same s line)
    where
      by : (step_by other s line ≡ step_by read s line) ⊎ (step_by read s line ≡ Unfit) →
          settled n (after other (n + 1) lines) (step_by other s line) ≡ Spelled raw
      by (inl same) =
          ap (settled n (after other (n + 1) lines)) same ∙ on_outcome lines n raw more (step_by read s line) e
      by (inr unfit) = absurd (no_refusal n raw (sym (ap (settled n (after read (n + 1) lines)) unfit) ∙ e))

  -- lines that spell a certificate by the narrower reading spell it by the wider one
  pub spelled_same : (lines : List (Line (List ℕ))) (s : Option (RawOf F)) (n : ℕ) (raw : RawOf F) →
      judge_by read s n lines ≡ Spelled raw → judge_by other s n lines ≡ Spelled raw
  spelled_same [] s n raw e = cc
  spelled_same (line ∷ lines) s n raw e =
      on_line line lines s n raw (λ r h. spelled_same lines (Some r) (n + 1) raw h) e

pub is_read : (text : List ℕ) (v : ℚ) → narrow text ≡ Some v → wide text ≡ Some v
is_read text v e = by (number_of text) refl e
  where
    by : (reading : NumberReading) → number_of text ≡ reading → value_in reading ≡ Some v → wide text ≡ Some v
    by (number.Is q) h k = ap wide_in (same_reading text q h) ∙ k
    by number.Shape h k = cc
    by number.Wide h k = cc

pub spelled_wide : (lines : List (Line (List ℕ))) (raw : ExactRaw) → Spells lines raw → SpellsBy wide lines raw
spelled_wide lines raw e = spelled_same narrow wide is_read lines None 1 raw e
