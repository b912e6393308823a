-- Data cards of a written text in fixed form are read as their fields.
--
-- `within`: more bytes at the end of a line do not change what is read in columns before them.
-- `none_1`: the columns 2 and 3 of field 1 are all inside a field.
-- `none_2`: the columns 5 to 12 of field 2 are all inside a field.
-- `none_3`: the columns 15 to 22 of field 3 are all inside a field.
-- `none_4`: the columns 25 to 36 of field 4 are all inside a field.
-- `ended`: a line with a last word within its field is short, printed, not blank and without a misplaced byte.
-- `last_is`: the last word of a line is what is read in its field's columns.
-- `type_card_read`: a written card with a type and a name is read as these two fields.
-- `number_card_read`: a written card with two names and a number is read as these three fields.
-- `unbound_card_read`: a written card with a kind of bounds, a set and a column is read as these three fields.
-- `bound_card_read`: a written card with a kind of bounds, a set, a column and a number is read as these four fields.
use Rattle.std.proofs.Common.{◌≡◌, ℕ, zero, suc, ◌+◌, ◌-◌, ◌≤◌, ◌&&◌, not, Bool, true, false, None, List, []}
use Rattle.std.proofs.Common.{◌∷◌, ◌++◌, length, refl, sym, ap, ◌∙◌, append_assoc, length-append, arith}
use Rattle.std.specs.List.{list_all}
use Rattle.std.proofs.lemmas.List.{append-nil, take-append-le, length-replicate}
use Rattle.std.proofs.lemmas.List.Folds.{list_all-append}
use Rattle.std.proofs.lemmas.Bool.{and_parts, not-true, and_right}
use borrow.Author.Count.{below_more}
use Rattle.spec_text.specs.Words.{is_blank}
use Rattle.spec_model.specs.Kept.{is_printable}
use Rattle.spec_mps.specs.declared.card.Card.TheVariants.{Given}
use Rattle.spec_mps.specs.declared.style.Style.TheVariants.{Fixed}
use Rattle.spec_mps.specs.Cards.{is_skipped, begins_with_blank, begins_with_star}
use Rattle.spec_mps.specs.Fields.{Fields, Is, field_of, in_columns, column_fields, fixed_fields, misplaced_from}
use Rattle.spec_mps.specs.Fields.{is_beside}
use Rattle.spec_mps.specs.Written.{Data, field_at, line_text}
use Rattle.spec_mps.specs.NumberWritten.{IsWord}
use Rattle.spec_mps.proofs.WrittenWords.{is_plain, plain_text, stripped_plain, no_blank}
use Rattle.spec_mps.proofs.WrittenColumns.{IsPrinted, blanks, HasNoneBeside, column_read}
use Rattle.spec_mps.proofs.WrittenColumns.{column_last, column_past, placed_blanks, placed_text}
use Rattle.spec_mps.proofs.WrittenShort.{plain_both}

-- ---- lines that grow at their end

pub within : (first last : ℕ) (line more : List ℕ) → last ≤ length line →
    in_columns first last (line ++ more) ≡ in_columns first last line
unfolding in_columns
within first last line more h = rw (take-append-le last line more h) refl

-- a printed text with blanks behind it is what stands in its columns
cell_read : (front w : List ℕ) (n first last size : ℕ) → IsPrinted w →
    length front + 1 ≡ first → length front + size ≡ last → length w ≤ size → size ≤ length w + n
    → in_columns first last ((front ++ w) ++ blanks n) ≡ w
cell_read front w n first last size h a b fits far =
    ap (in_columns first last)
    (append_assoc front w (blanks n) ∙ ap (λ l. front ++ (w ++ l)) (sym (append-nil (blanks n))))
    ∙ column_read front w [] n first last size h a b fits far

-- no byte of the line is misplaced, so the search for a misplaced byte goes on behind it, whatever follows
abbrev pub IsPlaced : List ℕ → Type 0
IsPlaced line = (rest : List ℕ) → misplaced_from 1 (line ++ rest) ≡ misplaced_from (length line + 1) rest

-- no byte of an empty line is misplaced
none_placed : IsPlaced []
none_placed rest = refl

-- blanks behind a line without misplaced bytes add none
blanks_placed : (line : List ℕ) (n : ℕ) → IsPlaced line → IsPlaced (line ++ blanks n)
blanks_placed line n h rest =
    let a : length (line ++ blanks n) ≡ length line + length (blanks n) = length-append line (blanks n) in
    let b : length (blanks n) ≡ n = length-replicate n 32 in
    ap (misplaced_from 1) (append_assoc line (blanks n) rest) ∙ h (blanks n ++ rest)
    ∙ placed_blanks (length line + 1) n rest ∙ ap (λ k. misplaced_from k rest) (omega arith)

-- a printed text that fits its field, behind a line without misplaced bytes, adds none
text_placed : (line w : List ℕ) (column size : ℕ) → IsPlaced line → length line + 1 ≡ column → IsPrinted w →
    length w ≤ size → HasNoneBeside column size → IsPlaced (line ++ w)
text_placed line w column size h e p fits none rest =
    let a = length-append line w in
    ap (misplaced_from 1) (append_assoc line w rest) ∙ h (w ++ rest) ∙ ap (λ k. misplaced_from k (w ++ rest)) e
    ∙ placed_text column size w rest p fits none ∙ ap (λ k. misplaced_from k rest) (omega arith)

-- a line without misplaced bytes has no first one
whole_placed : (line : List ℕ) → IsPlaced line → misplaced_from 1 line ≡ None
whole_placed line h = ap (misplaced_from 1) (sym (append-nil line)) ∙ h []

-- ---- the columns of the fields

-- none of so many columns from the first one is beside the fields
abbrev are_inside : ℕ → ℕ → Bool
are_inside first zero = true
are_inside first (suc size) = not (is_beside (first + size)) && are_inside first size

-- a field whose columns are inside by the test has no columns beside the fields
none_beside : (first size : ℕ) → are_inside first size ≡ true → HasNoneBeside first size
none_beside first zero h k a b = absurd (omega arith)
none_beside first (suc size) h k a b =
    let p = and_parts (not (is_beside (first + size))) (are_inside first size) h in
    below_more (λ c. first ≤ c → is_beside c ≡ false) (first + size)
    (λ c less above. none_beside first size p.1 c above less)
    (λ above. not-true (is_beside (first + size)) p.0) k (omega arith) a

pub none_1 : HasNoneBeside 2 2
none_1 = none_beside 2 2 refl

pub none_2 : HasNoneBeside 5 8
none_2 = none_beside 5 8 refl

pub none_3 : HasNoneBeside 15 8
none_3 = none_beside 15 8 refl

pub none_4 : HasNoneBeside 25 12
none_4 = none_beside 25 12 refl

-- ---- a line that begins with a blank and has a word is a data card

-- a word is not blank
word_not_blank : (w : List ℕ) → IsWord w → list_all is_blank w ≡ false
word_not_blank [] h = cc
word_not_blank (b ∷ w) h = rw (no_blank b (and_parts (is_printable b) (list_all is_printable w) h.printable).0) refl

-- a line with a word at its end is not blank
with_word : (line w : List ℕ) → IsWord w → list_all is_blank (line ++ w) ≡ false
with_word line w h = list_all-append is_blank line w ∙ rw (word_not_blank w h) (and_right (list_all is_blank line) false refl)

-- blanks are plain bytes
plain_blanks : (n : ℕ) → list_all is_plain (blanks n) ≡ true
plain_blanks zero = refl
plain_blanks (suc n) = plain_blanks n

-- a line without misplaced bytes is read by its columns
by_columns : (line : List ℕ) (fs : Fields) → begins_with_star line ≡ false → begins_with_blank line ≡ true →
    list_all is_plain line ≡ true → list_all is_blank line ≡ false → misplaced_from 1 line ≡ None
    → column_fields line ≡ fs → fixed_fields line ≡ Is (Given fs)
unfolding fixed_fields is_skipped
by_columns line fs star blank plain word none here = rw (star, stripped_plain line plain, word, blank, none, here) refl

-- a word that stands in the columns of a field is that field
a_field : (n : ℕ) (w : List ℕ) → IsWord w → field_of n w ≡ field_at n w ∷ []
a_field n [] h = cc
a_field n (b ∷ w) h = refl

-- ---- lines of cells

-- the line has so many bytes, all of them spaces or printable, and none is misplaced
pub record IsFront (line : List ℕ) (size : ℕ) : Type 0 where
  pub long : length line ≡ size
  pub plain : list_all is_plain line ≡ true
  pub placed : IsPlaced line

-- a line, a text behind it, and blanks up to so many bytes in all
abbrev pub cell : ℕ → List ℕ → List ℕ → List ℕ
cell next line w = (line ++ w) ++ blanks (next - length (line ++ w))

-- the text is a word that fits a field of this size, which begins in this column and has only columns of fields
pub record IsCell (column size : ℕ) (w : List ℕ) : Type 0 where
  pub word : IsWord w
  pub fits : length w ≤ size
  pub none : HasNoneBeside column size

-- a front with a word in its cell is the front of the next cell
cell_front : (line w : List ℕ) (at column size next : ℕ) → IsFront line at → at + 1 ≡ column →
    IsCell column size w → at + size ≤ next → IsFront (cell next line w) next
cell_front line w at column size next h e c room =
    let a : length (line ++ w) ≡ length line + length w = length-append line w in
    let n : ℕ = next - length (line ++ w) in
    let b : length (cell next line w) ≡ length (line ++ w) + length (blanks n) = length-append (line ++ w) (blanks n) in
    let d : length (blanks n) ≡ n = length-replicate n 32 in
    let l = h.long in
    let f = c.fits in
    record {
      long = omega arith;
      plain =
          plain_both (line ++ w) (blanks n)
          (plain_both line w h.plain (plain_text w c.word.printable)) (plain_blanks n);
      placed =
          blanks_placed (line ++ w) n
          (text_placed line w column size h.placed (ap (λ k. k + 1) h.long ∙ e) c.word.printable c.fits c.none);
    }

-- a word that is put in its cell behind a front is what stands in the cell's columns
cell_is : (line w : List ℕ) (at column last size next : ℕ) → IsFront line at → at + 1 ≡ column → at + size ≡ last →
    IsCell column size w → at + size ≤ next → in_columns column last (cell next line w) ≡ w
cell_is line w at column last size next h e f c room =
    let a : length (line ++ w) ≡ length line + length w = length-append line w in
    let l = h.long in
    let fits = c.fits in
    cell_read line w (next - length (line ++ w)) column last size c.word.printable
    (omega arith) (omega arith) c.fits (omega arith)

-- a word in a cell behind a line leaves what stands in the line's columns
cell_keeps : (line w : List ℕ) (first last next : ℕ) → last ≤ length line →
    in_columns first last (cell next line w) ≡ in_columns first last line
cell_keeps line w first last next h =
    let a : length (line ++ w) ≡ length line + length w = length-append line w in
    within first last (line ++ w) (blanks (next - length (line ++ w))) (omega arith) ∙ within first last line w h

-- a whole line of no more bytes than the limit, of spaces and printable bytes; it is not blank, and no byte is
-- misplaced
pub record IsEnded (line : List ℕ) (limit : ℕ) : Type 0 where
  pub short : length line ≤ limit
  pub plain : list_all is_plain line ≡ true
  pub word : list_all is_blank line ≡ false
  pub placed : misplaced_from 1 line ≡ None

pub ended : (line w : List ℕ) (at column size limit : ℕ) → IsFront line at → at + 1 ≡ column → IsCell column size w →
    at + size ≡ limit → IsEnded (line ++ w) limit
ended line w at column size limit h e c room =
    let a : length (line ++ w) ≡ length line + length w = length-append line w in
    let l = h.long in
    let f = c.fits in
    record {
      short = omega arith;
      plain = plain_both line w h.plain (plain_text w c.word.printable);
      word = with_word line w c.word;
      placed =
          whole_placed (line ++ w)
          (text_placed line w column size h.placed (ap (λ k. k + 1) h.long ∙ e) c.word.printable c.fits c.none);
    }

pub last_is : (line w : List ℕ) (at column last size : ℕ) → IsFront line at → at + 1 ≡ column → at + size ≡ last →
    IsCell column size w → in_columns column last (line ++ w) ≡ w
last_is line w at column last size h e f c =
    let l = h.long in
    column_last line w column last size c.word.printable (omega arith) (omega arith) c.fits

-- one blank is the front of a cell behind column 1
one_blank : IsFront (32 ∷ []) 1
one_blank = record { long = refl; plain = refl; placed = blanks_placed [] 1 none_placed }

-- four blanks are the front of a cell behind column 4
four_blanks : IsFront (32 ∷ 32 ∷ 32 ∷ 32 ∷ []) 4
four_blanks = record { long = refl; plain = refl; placed = blanks_placed [] 4 none_placed }

-- ---- the four kinds of cards

-- a line with nothing in fields 5 and 6 has the fields 1 to 4 alone
six_fields : (line k a b c : List ℕ) → in_columns 2 3 line ≡ k → in_columns 5 12 line ≡ a →
    in_columns 15 22 line ≡ b → in_columns 25 36 line ≡ c → in_columns 40 47 line ≡ [] → in_columns 50 61 line ≡ []
    → column_fields line ≡ field_of 1 k ++ field_of 2 a ++ field_of 3 b ++ field_of 4 c
unfolding column_fields
six_fields line k a b c c1 c2 c3 c4 c5 c6 = rw (c1, c2, c3, c4, c5, c6, append-nil, append-nil) refl

-- a line that ends before field 5 is read as its fields 1 to 4
cut_read : (line k a b c : List ℕ) (limit : ℕ) (fs : Fields) → IsEnded line limit → limit ≤ 36 →
    begins_with_star line ≡ false → begins_with_blank line ≡ true → in_columns 2 3 line ≡ k →
    in_columns 5 12 line ≡ a → in_columns 15 22 line ≡ b → in_columns 25 36 line ≡ c
    → field_of 1 k ++ field_of 2 a ++ field_of 3 b ++ field_of 4 c ≡ fs → fixed_fields line ≡ Is (Given fs)
cut_read line k a b c limit fs end few star blank c1 c2 c3 c4 e =
    let short = end.short in
    by_columns line fs star blank end.plain end.word end.placed
    (six_fields line k a b c c1 c2 c3 c4 (column_past line 40 47 (omega arith)) (column_past line 50 61 (omega arith))
    ∙ e)

-- a type and a name
pub type_card_read : (k a : List ℕ) → IsCell 2 2 k → IsCell 5 8 a
    → fixed_fields (line_text Fixed (Data (field_at 1 k ∷ field_at 2 a ∷ [])))
    ≡ Is (Given (field_at 1 k ∷ field_at 2 a ∷ []))
type_card_read k a hk ha =
    let two : List ℕ = cell 4 (32 ∷ []) k in
    let line : List ℕ = two ++ a in
    let front : IsFront two 4 = cell_front (32 ∷ []) k 1 2 2 4 one_blank refl hk (omega arith) in
    let end : IsEnded line 12 = ended two a 4 5 8 12 front refl ha refl in
    let long = front.long in
    let short = end.short in
    cut_read line k a [] [] 12 (field_at 1 k ∷ field_at 2 a ∷ []) end (omega arith) refl refl
    (within 2 3 two a (omega arith) ∙ cell_is (32 ∷ []) k 1 2 3 2 4 one_blank refl refl hk (omega arith))
    (last_is two a 4 5 12 8 front refl refl ha) (column_past line 15 22 (omega arith))
    (column_past line 25 36 (omega arith)) (rw (a_field 1 k hk.word, a_field 2 a ha.word) refl)

-- the line has 14 bytes, with the texts k and a in its fields 1 and 2
record HasTwo (k a line : List ℕ) : Type 0 where
  front : IsFront line 14
  first : in_columns 2 3 line ≡ k
  second : in_columns 5 12 line ≡ a

-- a set alone stands in field 2, with nothing in field 1
group_cell : (a : List ℕ) → IsCell 5 8 a → HasTwo [] a (cell 14 (32 ∷ 32 ∷ 32 ∷ 32 ∷ []) a)
unfolding in_columns
group_cell a ha =
    let start : List ℕ = 32 ∷ 32 ∷ 32 ∷ 32 ∷ [] in
    record {
      front = cell_front start a 4 5 8 14 four_blanks refl ha (omega arith);
      first = cell_keeps start a 2 3 14 (omega arith);
      second = cell_is start a 4 5 12 8 14 four_blanks refl refl ha (omega arith);
    }

-- a kind and a set stand in fields 1 and 2
kind_cells : (k a : List ℕ) → IsCell 2 2 k → IsCell 5 8 a → HasTwo k a (cell 14 (cell 4 (32 ∷ []) k) a)
kind_cells k a hk ha =
    let two : List ℕ = cell 4 (32 ∷ []) k in
    let front : IsFront two 4 = cell_front (32 ∷ []) k 1 2 2 4 one_blank refl hk (omega arith) in
    let long = front.long in
    record {
      front = cell_front two a 4 5 8 14 front refl ha (omega arith);
      first =
          cell_keeps two a 2 3 14 (omega arith)
          ∙ cell_is (32 ∷ []) k 1 2 3 2 4 one_blank refl refl hk (omega arith);
      second = cell_is two a 4 5 12 8 14 front refl refl ha (omega arith);
    }

-- a kind or none, a set, a name and a number are read as the fields 1 to 4
four_read : (three k a b c : List ℕ) (fs : Fields) → HasTwo k a three → IsCell 15 8 b → IsCell 25 12 c →
    begins_with_star (cell 24 three b ++ c) ≡ false → begins_with_blank (cell 24 three b ++ c) ≡ true →
    field_of 1 k ++ field_of 2 a ++ field_of 3 b ++ field_of 4 c ≡ fs
    → fixed_fields (cell 24 three b ++ c) ≡ Is (Given fs)
four_read three k a b c fs h hb hc star blank e =
    let four : List ℕ = cell 24 three b in
    let f4 : IsFront four 24 = cell_front three b 14 15 8 24 h.front refl hb (omega arith) in
    let l3 = h.front.long in
    let l4 = f4.long in
    cut_read (four ++ c) k a b c 36 fs (ended four c 24 25 12 36 f4 refl hc refl) (omega arith) star blank
    (within 2 3 four c (omega arith) ∙ cell_keeps three b 2 3 24 (omega arith) ∙ h.first)
    (within 5 12 four c (omega arith) ∙ cell_keeps three b 5 12 24 (omega arith) ∙ h.second)
    (within 15 22 four c (omega arith) ∙ cell_is three b 14 15 22 8 24 h.front refl refl hb (omega arith))
    (last_is four c 24 25 36 12 f4 refl refl hc) e

-- a column or a set, a row and a number
pub number_card_read : (a b c : List ℕ) → IsCell 5 8 a → IsCell 15 8 b → IsCell 25 12 c
    → fixed_fields (line_text Fixed (Data (field_at 2 a ∷ field_at 3 b ∷ field_at 4 c ∷ [])))
    ≡ Is (Given (field_at 2 a ∷ field_at 3 b ∷ field_at 4 c ∷ []))
number_card_read a b c ha hb hc =
    four_read (cell 14 (32 ∷ 32 ∷ 32 ∷ 32 ∷ []) a) [] a b c (field_at 2 a ∷ field_at 3 b ∷ field_at 4 c ∷ [])
    (group_cell a ha) hb hc refl refl (rw (a_field 2 a ha.word, a_field 3 b hb.word, a_field 4 c hc.word) refl)

-- a kind of bounds, a set and a column
pub unbound_card_read : (k a b : List ℕ) → IsCell 2 2 k → IsCell 5 8 a → IsCell 15 8 b
    → fixed_fields (line_text Fixed (Data (field_at 1 k ∷ field_at 2 a ∷ field_at 3 b ∷ [])))
    ≡ Is (Given (field_at 1 k ∷ field_at 2 a ∷ field_at 3 b ∷ []))
unbound_card_read k a b hk ha hb =
    let three : List ℕ = cell 14 (cell 4 (32 ∷ []) k) a in
    let h : HasTwo k a three = kind_cells k a hk ha in
    let long = h.front.long in
    let end : IsEnded (three ++ b) 22 = ended three b 14 15 8 22 h.front refl hb refl in
    let short = end.short in
    cut_read (three ++ b) k a b [] 22 (field_at 1 k ∷ field_at 2 a ∷ field_at 3 b ∷ []) end (omega arith) refl refl
    (within 2 3 three b (omega arith) ∙ h.first) (within 5 12 three b (omega arith) ∙ h.second)
    (last_is three b 14 15 22 8 h.front refl refl hb) (column_past (three ++ b) 25 36 (omega arith))
    (rw (a_field 1 k hk.word, a_field 2 a ha.word, a_field 3 b hb.word) refl)

-- .. and a number
pub bound_card_read : (k a b c : List ℕ) → IsCell 2 2 k → IsCell 5 8 a → IsCell 15 8 b → IsCell 25 12 c
    → fixed_fields (line_text Fixed (Data (field_at 1 k ∷ field_at 2 a ∷ field_at 3 b ∷ field_at 4 c ∷ [])))
    ≡ Is (Given (field_at 1 k ∷ field_at 2 a ∷ field_at 3 b ∷ field_at 4 c ∷ []))
bound_card_read k a b c hk ha hb hc =
    four_read (cell 14 (cell 4 (32 ∷ []) k) a) k a b c
    (field_at 1 k ∷ field_at 2 a ∷ field_at 3 b ∷ field_at 4 c ∷ []) (kind_cells k a hk ha) hb hc refl refl
    (rw (a_field 1 k hk.word, a_field 2 a ha.word, a_field 3 b hb.word, a_field 4 c hc.word) refl)
