-- A written certificate is read back.
--
-- `read_back`: the written text of a certificate of a kept model, with numbers of 127 bits, is read as that
--   certificate.
-- `wide_read_back`: the written text of a certificate of a kept model, whose numbers have short enough texts, is read
--   as that certificate.
use Rattle.std.proofs.Common.{◌≡◌, ℕ, ◌<◌, true, false, Some, None, Ok, List, [], ◌∷◌, ◌++◌, length}
use Rattle.std.proofs.Common.{map, get_or, refl, sym, ap, ◌∙◌, subst, append_assoc, arith}
use Rattle.std.specs.Prelude.{codes, All, slice_set}
use Rattle.std.proofs.lemmas.List.{map-append}
use Rattle.spec_text.specs.declared.line.Line.{Line}
use Rattle.spec_text.specs.declared.line.Line.TheVariants.{Text}
use Rattle.spec_text.specs.Words.{words_of}
use Rattle.spec_exact.specs.Fraction.{ℚ, 0ℚ}
use Rattle.spec_exact.specs.Narrow.{IsNarrow}
use Rattle.spec_model.specs.Model.{Model, Name, width, height, part}
use Rattle.spec_model.specs.Kept.{IsModel}
use Rattle.spec_model.proofs.NamePlaces.{column_name, row_name, column_at}
use Rattle.spec_mps.specs.NumberWritten.{number_text, IsWord}
use Rattle.spec_mps.proofs.RoundTrip.{read_written}
use Rattle.spec_mps.proofs.WrittenNumbers.{number_word}
use Rattle.spec_mps.specs.WideWritten.{wide_text}
use Rattle.spec_mps.proofs.ReadBack.{read_again}
use Rattle.spec_mps.proofs.WrittenWords.{parts_word, parts_word_then}
use Rattle.spec_check.specs.declared.certificate.Letter.{Letter}
use Rattle.spec_check.specs.declared.certificate.Letter.TheVariants.{X, Y, R}
use Rattle.spec_check.specs.declared.certificate.CertificateKind.TheVariants as kind
use Rattle.spec_check.specs.declared.certificate.Certificate.{Certificate}
use Rattle.spec_check.specs.declared.certificate.Certificate.TheVariants.{Optimal, Infeasible, Clash, Unbounded}
use Rattle.spec_check.specs.Certificate.{IsFor, IsNarrowCertificate}
use Rattle.spec_certificate.specs.declared.progress.Progress.TheVariants.{More, Done}
use Rattle.spec_check.specs.Raw.{ExactPart, ExactRaw, ExactKind}
use Rattle.spec_certificate.specs.Text.{Reading, kind_of, takes, is_end, words_step, step_by, LeadsBy, SpellsBy}
use Rattle.spec_certificate.specs.NarrowText.{narrow, value_in}
use Rattle.spec_certificate.specs.WideText.{wide, wide_in}
use Rattle.spec_check.specs.Settle.{◌>>=◌, zeros, blank, with_value, same_letter, put_all, certificate_by}
use Rattle.spec_certificate.specs.TextWritten.{Writing, writing_of, lines_below_by, column_lines_by, kind_text}
use Rattle.spec_certificate.specs.TextWritten.{all_part_lines_by, certificate_lines_by}
use Rattle.spec_certificate.specs.TextRead.{IsReadBackBy, IsReadBack, IsWidelyReadBack, AllNumbers, IsShortNumber}
use Rattle.spec_certificate.proofs.TextSteps.{goes_on, ends, with_parts, parts_below, IsReadable, parts_lead}
use Rattle.spec_certificate.proofs.WideWords.{wide_word}
use Rattle.spec_certificate.proofs.NamesKnown.{AreNames, column_word, columns_named, rays_named, rows_named}
use Rattle.spec_certificate.proofs.PartsPlaced.{put_more, free_at_first, free_behind, filled}

-- the certificate of this kind with these parts, as its text has it
abbrev raw_of : ExactKind → List ExactPart → ExactRaw
raw_of kind parts = record { kind = kind; parts = parts }

-- ---- lines

-- the words of a text that is one word are that word alone
one_word : (w : List ℕ) → IsWord w → words_of w ≡ w ∷ []
unfolding words_of
one_word w h = parts_word w h

-- the text END is a word
end_word : IsWord (codes "END")
end_word = record { some = refl; printable = refl }

-- the words of a line with CLASH and a name are CLASH and that name
clash_words : (name : List ℕ) → IsWord name → words_of (codes "CLASH" ++ 32 ∷ name) ≡ codes "CLASH" ∷ name ∷ []
unfolding words_of
clash_words name h =
    parts_word_then (codes "CLASH") name (record { some = refl; printable = refl })
    ∙ ap (λ ws. codes "CLASH" ∷ ws) (parts_word name h)

module _ (read : Reading ℚ) (text : ℚ → List ℕ) where
  -- fractions are written by this text of each
  abbrev write : Writing ℚ
  write = writing_of text

  -- the line END ends the certificate that was read so far
  end_step : (raw : ExactRaw) → step_by read (Some raw) (Text (codes "END")) ≡ Done raw
  unfolding step_by is_end
  end_step raw = ap (words_step read (Some raw)) (one_word (codes "END") end_word)

  -- the first line OPTIMAL opens an optimal certificate without parts
  optimal_step : step_by read None (Text (codes "OPTIMAL")) ≡ More (raw_of kind.Optimal [])
  unfolding step_by kind_of
  optimal_step = ap (words_step read None) (one_word (codes "OPTIMAL") (record { some = refl; printable = refl }))

  -- the first line INFEASIBLE opens an infeasible certificate without parts
  infeasible_step : step_by read None (Text (codes "INFEASIBLE")) ≡ More (raw_of kind.Infeasible [])
  unfolding step_by kind_of
  infeasible_step = ap (words_step read None) (one_word (codes "INFEASIBLE") (record { some = refl; printable = refl }))

  -- the first line UNBOUNDED opens an unbounded certificate without parts
  unbounded_step : step_by read None (Text (codes "UNBOUNDED")) ≡ More (raw_of kind.Unbounded [])
  unfolding step_by kind_of
  unbounded_step = ap (words_step read None) (one_word (codes "UNBOUNDED") (record { some = refl; printable = refl }))

  -- the first line CLASH with a name opens a certificate of a clash of the column with this name
  clash_step : (name : List ℕ) → IsWord name →
      step_by read None (Text (codes "CLASH" ++ 32 ∷ name)) ≡ More (raw_of (kind.Clash name) [])
  unfolding step_by kind_of
  clash_step name h = ap (words_step read None) (clash_words name h)

  -- where the lines of a certificate before END lead to its parts, all its lines spell it with these parts, whatever
  -- lines follow
  whole : (m : Model) (cert : Certificate (List ℚ)) (raw : ExactRaw) →
      LeadsBy read None (map Text (kind_text m cert ∷ all_part_lines_by write m cert)) (Some raw)
      → (more : List (Line (List ℕ))) → SpellsBy read (map Text (certificate_lines_by write m cert) ++ more) raw
  unfolding certificate_lines_by
  whole m cert raw l more =
      subst (λ ls. SpellsBy read ls raw)
      (sym (ap (λ ls. ls ++ more) (map-append Text (kind_text m cert ∷ all_part_lines_by write m cert) (codes "END" ∷ []))
      ∙ append_assoc (map Text (kind_text m cert ∷ all_part_lines_by write m cert)) (Text (codes "END") ∷ []) more))
      (ends read (map Text (kind_text m cert ∷ all_part_lines_by write m cert)) more
      (Text (codes "END")) (Some raw) raw l (end_step raw))

  -- the lines of the parts with one letter, and then of those with another, lead to the certificate with all of these
  -- parts behind its own
  two_lead : (raw : ExactRaw) (a b : Letter) (names others : ℕ → List ℕ) (xs ys : List ℚ) (n k : ℕ) →
      takes raw.kind a ≡ true → takes raw.kind b ≡ true
      → ((i : ℕ) → i < n → IsWord (names i)) → ((i : ℕ) → i < n → IsReadable read text (part xs i)) →
      ((i : ℕ) → i < k → IsWord (others i)) → ((i : ℕ) → i < k → IsReadable read text (part ys i))
      → LeadsBy read (Some raw) (map Text (lines_below_by write a names xs n ++ lines_below_by write b others ys k))
      (Some (with_parts (with_parts raw (parts_below a names xs n)) (parts_below b others ys k)))
  two_lead raw a b names others xs ys n k s t h p i q =
      let one : ExactRaw = with_parts raw (parts_below a names xs n) in
      subst (λ ls. LeadsBy read (Some raw) ls (Some (with_parts one (parts_below b others ys k))))
      (sym (map-append Text (lines_below_by write a names xs n) (lines_below_by write b others ys k)))
      (goes_on read (Some raw) (Some one) (Some (with_parts one (parts_below b others ys k))) _ _
      (parts_lead read text raw a names xs n s h p) (parts_lead read text one b others ys k t i q))

  -- where the texts of all n numbers of a list are read back, so is that of each of the first n
  each_at : (xs : List ℚ) (n : ℕ) → length xs ≡ n → All (IsReadable read text) xs → (k : ℕ) → k < n →
      IsReadable read text (part xs k)
  each_at xs n e h k p = h k 0ℚ (omega (arith, e, p))

  -- ---- the four kinds

  -- a certificate that has a list for the columns, with the letter X, and one for n names, with another letter, is read
  -- back
  two_back : (m : Model) (k : ExactKind) (b : Letter) (names : ℕ → Name) (n : ℕ)
      (cert : List ℚ → List ℚ → Certificate (List ℚ)) (x y : List ℚ) → IsModel m → AreNames m b n names →
      (length x ≡ width m) × (length y ≡ n) → All (IsReadable read text) x × All (IsReadable read text) y →
      takes k X ≡ true → takes k b ≡ true → same_letter X b ≡ false →
      step_by read None (Text (kind_text m (cert x y))) ≡ More (raw_of k []) →
      all_part_lines_by write m (cert x y) ≡ column_lines_by write m X x ++ lines_below_by write b names y n →
      blank 0ℚ m k ≡ Ok (cert (zeros (width m)) (zeros n)) →
      ((u z : List ℚ) (j : ℕ) (v : ℚ) → with_value X j v (cert z u) ≡ cert (slice_set z j v) u) →
      ((u z : List ℚ) (j : ℕ) (v : ℚ) → with_value b j v (cert u z) ≡ cert u (slice_set z j v)) → IsReadBackBy read write m (cert x y)
  unfolding certificate_by
  two_back m k b names n cert x y h named f numbers first second apart begins lines blank_is fills_x fills_y =
      let start : ExactRaw = raw_of k [] in
      let xs : List ExactPart = parts_below X (column_name m) x (width m) in
      let ys : List ExactPart = parts_below b names y n in
      let raw : ExactRaw = raw_of k (xs ++ ys) in
      record {
        raw = raw;
        spelled = whole m (cert x y) raw (
          start,
          begins,
          subst (λ ls. LeadsBy read (Some start) (map Text ls) (Some raw)) (sym lines)
              (two_lead start X b (column_name m) names x y (width m) n first second
              (columns_named m h).words (each_at x (width m) f.0 numbers.0)
              named.words (each_at y n f.1 numbers.1)),
        );
        settled = ap (λ o. o >>= λ next. put_all m [] (xs ++ ys) next) blank_is
            ∙ put_more m [] xs ys (cert (zeros (width m)) (zeros n))
            ∙ ap (λ o. o >>= λ next. put_all m xs ys next)
            (filled m X (width m) (column_name m) (columns_named m h) x f.0
            (λ z. cert z (zeros n)) (fills_x (zeros n)) [] (free_at_first X))
            ∙ filled m b n names named y f.1 (cert x) (fills_y x) xs (free_behind b X (column_name m) x (width m) apart);
      }

  -- an optimal certificate of a kept model, whose numbers' texts are read back, is read back
  optimal_back : (m : Model) (x y : List ℚ) → IsModel m → IsFor m (Optimal x y) → AllNumbers (IsReadable read text) (Optimal x y) →
      IsReadBackBy read write m (Optimal x y)
  unfolding blank
  optimal_back m x y h f n =
      two_back m kind.Optimal Y (row_name m) (height m) Optimal x y h (rows_named m h) f n refl refl refl
      optimal_step refl refl (λ u z j v. refl) (λ u z j v. refl)

  -- an infeasible certificate of a kept model, whose numbers' texts are read back, is read back
  infeasible_back : (m : Model) (y : List ℚ) → IsModel m → IsFor m (Infeasible y) → AllNumbers (IsReadable read text) (Infeasible y) →
      IsReadBackBy read write m (Infeasible y)
  unfolding blank certificate_by
  infeasible_back m y h f n =
      let start : ExactRaw = raw_of kind.Infeasible [] in
      let ys : List ExactPart = parts_below Y (row_name m) y (height m) in
      let raw : ExactRaw = raw_of kind.Infeasible ys in
      record {
        raw = raw;
        spelled = whole m (Infeasible y) raw (
          start,
          infeasible_step,
          parts_lead read text start Y (row_name m) y (height m) refl (rows_named m h).words (each_at y (height m) f n),
        );
        settled =
            filled m Y (height m) (row_name m) (rows_named m h) y f
            (λ z. Infeasible z) (λ z k v. refl) [] (free_at_first Y);
      }

  -- an unbounded certificate of a kept model, whose numbers' texts are read back, is read back
  unbounded_back : (m : Model) (x r : List ℚ) → IsModel m → IsFor m (Unbounded x r) →
      AllNumbers (IsReadable read text) (Unbounded x r) → IsReadBackBy read write m (Unbounded x r)
  unfolding blank
  unbounded_back m x r h f n =
      two_back m kind.Unbounded R (column_name m) (width m) Unbounded x r h (rays_named m h) f n refl refl refl
      unbounded_step refl refl (λ u z j v. refl) (λ u z j v. refl)

  -- the certificate of a clash in a kept model is read back
  clash_back : (m : Model) (j : ℕ) → IsModel m → IsFor {F = ℚ} m (Clash j) → IsReadBackBy read write m (Clash j)
  unfolding blank certificate_by
  clash_back m j h f =
      let raw : ExactRaw = raw_of (kind.Clash (column_name m j)) [] in
      record {
        raw = raw;
        spelled = whole m (Clash j) raw (raw, clash_step (column_name m j) (column_word m h j f), refl);
        settled = rw (column_at m h j f) refl;
      }

  -- a certificate of a kept model, whose numbers' texts are read back, is read back
  pub read_back_by : (m : Model) (cert : Certificate (List ℚ)) → IsModel m → IsFor m cert →
      AllNumbers (IsReadable read text) cert → IsReadBackBy read write m cert
  read_back_by m (Optimal x y) h f n = optimal_back m x y h f n
  read_back_by m (Infeasible y) h f n = infeasible_back m y h f n
  read_back_by m (Unbounded x r) h f n = unbounded_back m x r h f n
  read_back_by m (Clash j) h f n = clash_back m j h f

-- ---- numbers of 127 bits

-- the text of a number of at most 127 bits is a word that is read as the number
narrow_back : (v : ℚ) → IsNarrow v → IsReadable narrow number_text v
narrow_back v n = record { word = number_word v n.top n.bottom; back = ap value_in (read_written v n.top n.bottom) }

-- where all numbers of a list have at most 127 bits, the text of each is read as the number
all_back : (xs : List ℚ) → All IsNarrow xs → All (IsReadable narrow number_text) xs
all_back xs h = λ k d l. narrow_back (get_or xs k d) (h k d l)

-- where a certificate's numbers have at most 127 bits, the text of each is read as the number
numbers_back : (cert : Certificate (List ℚ)) → IsNarrowCertificate cert → AllNumbers (IsReadable narrow number_text) cert
numbers_back (Optimal x y) n = (all_back x n.0, all_back y n.1)
numbers_back (Infeasible y) n = all_back y n
numbers_back (Clash j) n = tt
numbers_back (Unbounded x r) n = (all_back x n.0, all_back r n.1)

pub read_back : (m : Model) (cert : Certificate (List ℚ)) → IsModel m → IsFor m cert → IsNarrowCertificate cert →
    IsReadBack m cert
read_back m cert h f n = read_back_by narrow number_text m cert h f (numbers_back cert n)

-- ---- numbers of any width

-- the text of a short number of any width is a word that is read as the number
wide_back : (v : ℚ) → IsShortNumber v → IsReadable wide wide_text v
wide_back v n = record { word = wide_word v; back = ap wide_in (read_again v n) }

-- where all numbers of a list are short, the text of each in any width is read as the number
all_wide : (xs : List ℚ) → All IsShortNumber xs → All (IsReadable wide wide_text) xs
all_wide xs h = λ k d l. wide_back (get_or xs k d) (h k d l)

-- where a certificate's numbers are short, the text of each in any width is read as the number
numbers_wide : (cert : Certificate (List ℚ)) → AllNumbers IsShortNumber cert →
    AllNumbers (IsReadable wide wide_text) cert
numbers_wide (Optimal x y) n = (all_wide x n.0, all_wide y n.1)
numbers_wide (Infeasible y) n = all_wide y n
numbers_wide (Clash j) n = tt
numbers_wide (Unbounded x r) n = (all_wide x n.0, all_wide r n.1)

pub wide_read_back : (m : Model) (cert : Certificate (List ℚ)) → IsModel m → IsFor m cert →
    AllNumbers IsShortNumber cert → IsWidelyReadBack m cert
wide_read_back m cert h f n = read_back_by wide wide_text m cert h f (numbers_wide cert n)
