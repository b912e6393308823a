-- Lines of certificates: runs of them, and the lines that are written.
use Rattle.std.proofs.Common.{◌≡◌, ℕ, zero, suc, ◌+◌, ◌<◌, Bool, true, false, cond, Option, Some, None, List}
use Rattle.std.proofs.Common.{[], ◌∷◌, ◌++◌, length, map, refl, sym, ap, ◌∙◌, subst, append_assoc, arith}
use Rattle.std.proofs.lemmas.List.{append-nil, map-append}
use Rattle.spec_text.specs.declared.line.Line.{Line}
use Rattle.spec_text.specs.declared.line.Line.TheVariants.{Text}
use Rattle.spec_text.specs.Words.{words_of}
use Rattle.spec_exact.specs.Fraction.{ℚ, 0ℚ, eq_ℚ}
use Rattle.spec_model.specs.Model.{Name, part}
use Rattle.spec_mps.specs.NumberWritten.{IsWord}
use Rattle.spec_mps.proofs.WrittenWords.{parts_word, parts_word_then}
use Rattle.spec_check.specs.declared.certificate.Letter.{Letter}
use Rattle.spec_check.specs.declared.certificate.Letter.TheVariants.{X, Y, R}
use Rattle.spec_certificate.specs.declared.progress.Progress.TheVariants.{More, Done, Unfit}
use Rattle.spec_check.specs.Raw.{RawOf, ExactPart, ExactRaw}
use Rattle.spec_certificate.specs.Text.{Reading, Refused, letter_of, takes, lettered, valued, part_by, with_part, is_end}
use Rattle.spec_certificate.specs.Text.{words_step, step_by, settled, judge_by, LeadsBy, SpellsBy, RefusesBy}
use Rattle.spec_certificate.specs.TextWritten.{Writing, writing_of, letter_text, part_text_by, part_lines_by}
use Rattle.spec_certificate.specs.TextWritten.{lines_below_by}

-- ---- runs of lines

module _ {F : Type 0} (read : Reading F) where
  -- where some lines lead from s to t, and further lines from t to u, all of them lead from s to u
  pub goes_on : (s t u : Option (RawOf F)) (xs ys : List (Line (List ℕ))) → LeadsBy read s xs t → LeadsBy read t ys u →
      LeadsBy read s (xs ++ ys) u
  goes_on s t u [] ys l k = subst (λ v. LeadsBy read v ys u) (sym l) k
  goes_on s t u (x ∷ xs) ys l k = (l.0, l.1, goes_on (Some l.0) t u xs ys l.2 k)

  -- where lines lead from s to t, the judgement of them and more lines from s is that of the more lines from t
  joined : (s t : Option (RawOf F)) (n : ℕ) (xs more : List (Line (List ℕ))) → LeadsBy read s xs t →
      judge_by read s n (xs ++ more) ≡ judge_by read t (n + length xs) more
  joined s t n [] more l = let e : n ≡ n + 0 = omega arith in ap (λ u. judge_by read u n more) l ∙ ap (λ k. judge_by read t k more) e
  joined s t n (x ∷ xs) more l =
      let e : n + 1 + length xs ≡ n + length (x ∷ xs) = omega arith in
      ap (settled n (λ raw. judge_by read (Some raw) (n + 1) (xs ++ more))) l.1
      ∙ joined (Some l.0) t (n + 1) xs more l.2 ∙ ap (λ k. judge_by read t k more) e

  -- where lines lead to t and one more line goes on from there with u, all of them lead to u
  pub one_more : (s t : Option (RawOf F)) (u : RawOf F) (xs : List (Line (List ℕ))) (x : Line (List ℕ)) → LeadsBy read s xs t →
      step_by read t x ≡ More u → LeadsBy read s (xs ++ x ∷ []) (Some u)
  one_more s t u xs x l h = goes_on s t (Some u) xs (x ∷ []) l (u, h, refl)

  -- where lines lead on from the start and the next line ends the certificate, they spell it, whatever lines follow
  pub ends : (xs more : List (Line (List ℕ))) (x : Line (List ℕ)) (s : Option (RawOf F)) (raw : RawOf F) →
      LeadsBy read None xs s → step_by read s x ≡ Done raw → SpellsBy read (xs ++ x ∷ more) raw
  ends xs more x s raw l h =
      joined None s 1 xs (x ∷ more) l ∙ ap (settled (1 + length xs) (λ raw. judge_by read (Some raw) (1 + length xs + 1) more)) h

  -- where lines lead on from the start and the next line does not fit, the text is refused at that line
  pub refuses : (xs more : List (Line (List ℕ))) (x : Line (List ℕ)) (s : Option (RawOf F)) → LeadsBy read None xs s →
      step_by read s x ≡ Unfit → RefusesBy read (xs ++ x ∷ more) (length xs + 1)
  refuses xs more x s l h =
      let e : 1 + length xs ≡ length xs + 1 = omega arith in
      joined None s 1 xs (x ∷ more) l
      ∙ ap (settled (1 + length xs) (λ raw. judge_by read (Some raw) (1 + length xs + 1) more)) h ∙ ap Refused e

  -- where all lines lead on from the start and none follows, the text is refused at the line that would come next
  pub cut_off : (xs : List (Line (List ℕ))) (s : Option (RawOf F)) → LeadsBy read None xs s → RefusesBy read xs (length xs + 1)
  cut_off xs s l =
      let e : 1 + length xs ≡ length xs + 1 = omega arith in
      ap (judge_by read None 1) (sym (append-nil xs)) ∙ joined None s 1 xs [] l ∙ ap Refused e

-- ---- a part that is written

-- the text of a letter is a word
letter_word : (letter : Letter) → IsWord (letter_text letter)
letter_word X = record { some = refl; printable = refl }
letter_word Y = record { some = refl; printable = refl }
letter_word R = record { some = refl; printable = refl }

-- the text of a letter is read as that letter
letter_known : (letter : Letter) → letter_of (letter_text letter) ≡ Some letter
unfolding letter_of
letter_known X = refl
letter_known Y = refl
letter_known R = refl

-- a certificate as its text has it, with these parts behind its own
abbrev pub with_parts : ExactRaw → List ExactPart → ExactRaw
with_parts raw parts = record raw { parts = raw.parts ++ parts }

-- the part with this letter, name and number
abbrev pub the_part : Letter → Name → ℚ → ExactPart
the_part letter name v = record { letter = letter; name = name; value = v }

-- ---- the parts of the first n columns, or rows

-- the list of the part with this letter, name and number; empty where the number is 0
abbrev pub part_if : Letter → Name → ℚ → List ExactPart
part_if letter name v = cond (eq_ℚ v 0ℚ) [] (the_part letter name v ∷ [])

-- the parts with this letter of the first n columns or rows, by their names and values, without those that are 0
abbrev pub parts_below : Letter → (ℕ → Name) → List ℚ → ℕ → List ExactPart
parts_below letter names values zero = []
parts_below letter names values (suc n) = parts_below letter names values n ++ part_if letter (names n) (part values n)

-- ---- with numbers that are written and read so

-- the text of a number is a word that is read as the number
pub record IsReadable (read : Reading ℚ) (text : ℚ → List ℕ) (v : ℚ) : Type 0 where
  pub word : IsWord (text v)
  pub back : read (text v) ≡ Some v

module _ (read : Reading ℚ) (text : ℚ → List ℕ) where
  -- fractions are written by this text of each
  abbrev write : Writing ℚ
  write = writing_of text

  -- the words of the line of a part are the letter, the name and the text of the number, where the last two are words
  part_words : (letter : Letter) (name : Name) (v : ℚ) → IsWord name → IsWord (text v) →
      words_of (part_text_by write letter name v) ≡ letter_text letter ∷ name ∷ text v ∷ []
  unfolding words_of
  part_words letter name v h k =
      parts_word_then (letter_text letter) (name ++ 32 ∷ text v) (letter_word letter)
      ∙ ap (λ ws. letter_text letter ∷ ws)
      (parts_word_then name (text v) h ∙ ap (λ ws. name ∷ ws) (parts_word (text v) k))

  -- where the kind takes the letter and the text of v is read as v, the words of a part are read as that part
  known : (raw : ExactRaw) (letter : Letter) (name : Name) (v : ℚ) → takes raw.kind letter ≡ true → IsReadable read text v →
      lettered read raw.kind (letter_of (letter_text letter)) name (text v) ≡ Some (the_part letter name v)
  known raw letter name v t n =
      ap (λ o. lettered read raw.kind o name (text v)) (letter_known letter)
      ∙ ap (λ b. cond b (valued letter name (read (text v))) None) t
      ∙ ap (valued letter name) n.back

  -- the line of a part whose letter the kind takes goes on with the certificate that has this part behind its own
  pub part_step : (raw : ExactRaw) (letter : Letter) (name : Name) (v : ℚ) → takes raw.kind letter ≡ true → IsWord name →
      IsReadable read text v → step_by read (Some raw) (Text (part_text_by write letter name v)) ≡ More (with_parts raw (the_part letter name v ∷ []))
  unfolding step_by part_by is_end
  part_step raw letter name v t h n =
      ap (words_step read (Some raw)) (part_words letter name v h n.word)
      ∙ ap (with_part raw) (known raw letter name v t n)

  -- the line of a part, or none where its number is 0, leads to the certificate with this part, or unchanged
  part_leads : (raw : ExactRaw) (letter : Letter) (name : Name) (v : ℚ) → takes raw.kind letter ≡ true → IsWord name →
      IsReadable read text v → LeadsBy read (Some raw) (map Text (part_lines_by write letter name v)) (Some (with_parts raw (part_if letter name v)))
  part_leads raw letter name v t h n = by (eq_ℚ v 0ℚ)
    where
      by : (b : Bool) →
          LeadsBy read (Some raw) (map Text (cond b [] (part_text_by write letter name v ∷ [])))
          (Some (with_parts raw (cond b [] (the_part letter name v ∷ []))))
      by true = ap (λ ps. Some (record raw { parts = ps })) (sym (append-nil raw.parts))
      by false = (with_parts raw (the_part letter name v ∷ []), part_step raw letter name v t h n, refl)

  -- the lines of the first n parts with a letter lead to the certificate with these parts behind its own
  pub parts_lead : (raw : ExactRaw) (letter : Letter) (names : ℕ → Name) (values : List ℚ) (n : ℕ) →
      takes raw.kind letter ≡ true → ((k : ℕ) → k < n → IsWord (names k)) → ((k : ℕ) → k < n → IsReadable read text (part values k))
      → LeadsBy read (Some raw) (map Text (lines_below_by write letter names values n))
      (Some (with_parts raw (parts_below letter names values n)))
  parts_lead raw letter names values zero t h k = ap (λ ps. Some (record raw { parts = ps })) (sym (append-nil raw.parts))
  parts_lead raw letter names values (suc n) t h k =
      let before : List ExactPart = parts_below letter names values n in
      let last : List ExactPart = part_if letter (names n) (part values n) in
      let a = parts_lead raw letter names values n t (λ i p. h i (omega (arith, p))) (λ i p. k i (omega (arith, p))) in
      let b =
      part_leads (with_parts raw before) letter (names n) (part values n) t (h n (omega arith)) (k n (omega arith)) in
      subst (λ ls. LeadsBy read (Some raw) ls (Some (with_parts raw (before ++ last))))
      (sym (map-append Text (lines_below_by write letter names values n) (part_lines_by write letter (names n) (part values n))))
      (subst (λ ps. LeadsBy read (Some raw)
      (map Text (lines_below_by write letter names values n) ++ map Text (part_lines_by write letter (names n) (part values n)))
      (Some (record raw { parts = ps }))) (append_assoc raw.parts before last)
      (goes_on read (Some raw) (Some (with_parts raw before)) (Some (with_parts (with_parts raw before) last)) _ _ a b))
