-- The text of a certificate. Its first line says the kind: OPTIMAL, INFEASIBLE, UNBOUNDED, or CLASH and a column's
-- name. Each line after it is a part: a letter that the kind takes, a name and a number. The last line is END. Each
-- line is a step from what was read before it. All is over the type F of numbers, and how their texts are read.
use Rattle.std.specs.Prelude.{ℕ, ◌+◌, ◌≡◌, ◌⊎◌, Bool, true, false, Option, Some}
use Rattle.std.specs.Prelude.{None, List, [], ◌∷◌, ◌++◌, codes, if◌then◌else◌}
use Rattle.spec_text.specs.declared.line.Line.{Line}
use Rattle.spec_text.specs.declared.line.Line.TheVariants as line
use Rattle.spec_text.specs.Words.{same, words_of}
use Rattle.spec_model.specs.Model.{Name}
use Rattle.spec_mps.specs.Shapes.{look_up}
use Rattle.spec_check.specs.declared.certificate.Letter.{Letter}
use Rattle.spec_check.specs.declared.certificate.Letter.TheVariants.{X, Y, R}
use Rattle.spec_check.specs.declared.certificate.CertificateKind.TheVariants.{Optimal, Infeasible, Unbounded, Clash}
use Rattle.spec_check.specs.Raw.{PartOf, RawOf, ExactKind}
use Rattle.spec_certificate.specs.declared.progress.Progress.{Progress}
use Rattle.spec_certificate.specs.declared.progress.Progress.TheVariants.{More, Done, Unfit}

-- a way to read numbers of type F: the number that a text spells, or none
abbrev pub Reading : Type 0 → Type 0
Reading F = List ℕ → Option F

-- ---- one line

-- the letter that a word is: x, y or r; none for any other word
unfoldable pub letter_of : List ℕ → Option Letter
letter_of word = look_up word ((codes "x", X) ∷ (codes "y", Y) ∷ (codes "r", R) ∷ [])

-- whether a certificate of this kind may have parts with this letter: an optimum x and y, an infeasible one y, an
-- unbounded one x and r, and a clash none
abbrev pub takes : ExactKind → Letter → Bool
takes Optimal X = true
takes Optimal Y = true
takes Optimal R = false
takes Infeasible X = false
takes Infeasible Y = true
takes Infeasible R = false
takes Unbounded X = true
takes Unbounded Y = false
takes Unbounded R = true
takes (Clash name) letter = false

-- the kind that the words of a certificate's first line say; none where they say none
unfoldable pub kind_of : List (List ℕ) → Option ExactKind
kind_of (word ∷ []) =
    look_up word ((codes "OPTIMAL", Optimal) ∷ (codes "INFEASIBLE", Infeasible) ∷ (codes "UNBOUNDED", Unbounded) ∷ [])
kind_of (word ∷ name ∷ []) = if same word (codes "CLASH") then Some (Clash name) else None
kind_of words = None

-- the part with this letter, name and value; none without a value
abbrev pub valued : {F : Type 0} → Letter → Name → Option F → Option (PartOf F)
valued letter name None = None
valued letter name (Some value) = Some (record { letter = letter; name = name; value = value })

-- the part with this letter and name, and the number that the text spells; none where there is no letter, the kind does
-- not take it, or the text spells no number
abbrev pub lettered : {F : Type 0} → Reading F → ExactKind → Option Letter → Name → List ℕ → Option (PartOf F)
lettered read kind None name text = None
lettered read kind (Some letter) name text = if takes kind letter then valued letter name (read text) else None

-- the part that the words of a line say, a letter, a name and a number; none where they say none that the kind takes
unfoldable pub part_by : {F : Type 0} → Reading F → ExactKind → List (List ℕ) → Option (PartOf F)
part_by read kind (word ∷ name ∷ text ∷ []) = lettered read kind (letter_of word) name text
part_by read kind words = None

-- whether the words of a line are END alone
unfoldable pub is_end : List (List ℕ) → Bool
is_end (word ∷ []) = same word (codes "END")
is_end words = false

-- what a line of a certificate leads to: the text goes on (`More`), or has ended with the certificate (`Done`), or the
-- line does not fit (`Unfit`)
abbrev pub OutcomeOf : Type 0 → Type 0
OutcomeOf F = Progress (RawOf F)

-- what the first line of a certificate leads to, by the kind that it says: a certificate of this kind, without parts;
-- where it says no kind, the line does not fit
abbrev pub opened : {F : Type 0} → Option ExactKind → OutcomeOf F
opened None = Unfit
opened (Some kind) = More (record { kind = kind; parts = [] })

-- what a later line of a certificate leads to, by the part that it says: the certificate with this part behind the
-- others; where it says no part, the line does not fit
abbrev pub with_part : {F : Type 0} → RawOf F → Option (PartOf F) → OutcomeOf F
with_part raw None = Unfit
with_part raw (Some p) = More (record raw { parts = raw.parts ++ p ∷ [] })

-- What the words of a line of a certificate lead to. Where nothing was read before, they are to say the kind. Else END
-- ends the certificate that was read so far, and any other words are to say a part, which is added to it. Words that do
-- not say what they are to say do not fit.
abbrev pub words_step : {F : Type 0} → Reading F → Option (RawOf F) → List (List ℕ) → OutcomeOf F
words_step read None words = opened (kind_of words)
words_step read (Some raw) words =
    if is_end words then Done raw else with_part raw (part_by read raw.kind words)

-- What a line of a certificate leads to, with what was read before it: the kind first, then one more part for each
-- line, and the end at END. Any other line does not fit, nor does one that is too long, or the end of what may be read.
unfoldable pub step_by : {F : Type 0} → Reading F → Option (RawOf F) → Line (List ℕ) → OutcomeOf F
step_by read so_far (line.Text bytes) = words_step read so_far (words_of bytes)
step_by read so_far (line.Long len) = Unfit
step_by read so_far line.End = Unfit
step_by read so_far line.Over = Unfit

-- each of the lines goes on with what was read before it, and after the last one `after` is read; none of them ends the
-- certificate or does not fit
abbrev pub LeadsBy : {F : Type 0} → Reading F → Option (RawOf F) → List (Line (List ℕ)) → Option (RawOf F) → Type 0
LeadsBy {F} read so_far [] after = so_far ≡ after
LeadsBy {F} read so_far (line ∷ lines) after =
    (raw : RawOf F) × (step_by read so_far line ≡ More raw) × LeadsBy read (Some raw) lines after

-- ---- a whole text

-- the judgement of a certificate's text: the certificate that it spells, or the number of the line that refuses it: the
-- first that does not fit, or the one that would come next
pub data JudgementOf (F : Type 0) : Type 0 where
  Spelled : (raw : RawOf F) → JudgementOf F
  Refused : (line : ℕ) → JudgementOf F

-- the judgement of a text by what line n leads to: that of the lines behind it, which `next` makes, where the text goes
-- on; else the certificate that is spelled, or that line n is refused
abbrev pub settled : {F : Type 0} → ℕ → (RawOf F → JudgementOf F) → OutcomeOf F → JudgementOf F
settled n next (More raw) = next raw
settled n next (Done raw) = Spelled raw
settled n next Unfit = Refused n

-- The judgement of the lines of a certificate behind what was read so far, where the first of them is line n. Lines
-- behind END do not count. Where the lines end before END, the line that would come next does not fit.
abbrev pub judge_by : {F : Type 0} → Reading F → Option (RawOf F) → ℕ → List (Line (List ℕ)) → JudgementOf F
judge_by read so_far n [] = Refused n
judge_by read so_far n (line ∷ lines) =
    settled n (λ raw. judge_by read (Some raw) (n + 1) lines) (step_by read so_far line)

-- the lines up to END spell this certificate, whatever lines follow
abbrev pub SpellsBy : {F : Type 0} → Reading F → List (Line (List ℕ)) → RawOf F → Type 0
SpellsBy read lines raw = judge_by read None 1 lines ≡ Spelled raw

-- line n, counted from 1, is the first that does not fit a certificate; where the lines end before END, it is the one
-- that would come next
abbrev pub RefusesBy : {F : Type 0} → Reading F → List (Line (List ℕ)) → ℕ → Type 0
RefusesBy read lines n = judge_by read None 1 lines ≡ Refused n

-- a text spells one certificate or is refused at one line, and never both
pub record IsJudged {F : Type 0} (read : Reading F) (lines : List (Line (List ℕ))) : Type 0 where
  pub some : ((raw : RawOf F) × SpellsBy read lines raw) ⊎ ((n : ℕ) × RefusesBy read lines n)
  pub one_certificate : (raw other : RawOf F) → SpellsBy read lines raw → SpellsBy read lines other → raw ≡ other
  pub not_both : (raw : RawOf F) (n : ℕ) → SpellsBy read lines raw → ¬ (RefusesBy read lines n)
  pub one_line : (n k : ℕ) → RefusesBy read lines n → RefusesBy read lines k → n ≡ k
