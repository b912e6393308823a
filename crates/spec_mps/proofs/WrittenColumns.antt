-- The fields of a written line, in fixed form: texts that stand in their columns are read as those texts.
--
-- `column_read`: a text with blanks up to its field's end is what is read in the field's columns.
-- `column_last`: a text at the end of a line is what is read in its field's columns.
-- `column_past`: in columns past the end of a line nothing is read.
-- `placed_blanks`: blanks are never misplaced, so the search for a misplaced byte goes on behind them.
-- `placed_text`: a printed text within a field is never misplaced, so the search goes on behind it.
use Rattle.std.proofs.Common.{◌≡◌, ℕ, zero, suc, ◌+◌, ◌-◌, ◌≤◌, ◌<◌, ◌==◌, ◌&&◌, ◌||◌, Bool, true, false}
use Rattle.std.proofs.Common.{List, [], ◌∷◌, ◌++◌, length, take, drop, replicate, refl, sym, ap, ◌∙◌, arith}
use Rattle.std.specs.Prelude.{nat_le}
use Rattle.std.specs.List.{list_all}
use Rattle.std.proofs.lemmas.List.{append-nil, take_all, drop_all}
use Rattle.std.proofs.lemmas.Bool.{and_parts, and_right}
use borrow.Author.Tests.{leb-true, ne_eqb}
use Rattle.spec_model.specs.Kept.{is_printable}
use Rattle.spec_mps.specs.Fields.{is_space, without_front, without_end, in_columns}
use Rattle.spec_mps.specs.Fields.{is_beside, is_misplaced, misplaced_from}

-- all bytes of the text are printable and no blanks
abbrev pub IsPrinted : List ℕ → Type 0
IsPrinted w = list_all is_printable w ≡ true

-- this number of spaces
abbrev pub blanks : ℕ → List ℕ
blanks n = replicate n 32

-- a printed byte is no space
no_space : (b : ℕ) → is_printable b ≡ true → is_space b ≡ false
no_space b h =
    let p = and_parts (nat_le 33 b) (nat_le b 126) h in
    let low : 33 ≤ b = leb-true 33 b p.0 in
    ne_eqb b 32 (λ e. omega arith)

-- ---- blanks at both ends

-- all bytes of `blanks n` are spaces
all_blank : (n : ℕ) → list_all is_space (blanks n) ≡ true
all_blank zero = refl
all_blank (suc n) = all_blank n

-- blanks have nothing behind the spaces at their front
front_blank : (n : ℕ) → without_front (blanks n) ≡ []
front_blank zero = refl
front_blank (suc n) = front_blank n

-- blanks have nothing before the spaces at their end
end_blank : (n : ℕ) → without_end (blanks n) ≡ []
end_blank zero = refl
end_blank (suc n) = rw (all_blank n) refl

-- a printed text with blanks behind it is that text without the spaces at its end
end_printed : (w : List ℕ) (n : ℕ) → IsPrinted w → without_end (w ++ blanks n) ≡ w
end_printed [] n h = end_blank n
end_printed (b ∷ w) n h =
    let p = and_parts (is_printable b) (list_all is_printable w) h in
    rw (no_space b p.0) (ap (λ v. b ∷ v) (end_printed w n p.1))

-- a text that begins with no space loses nothing with the spaces at its front
front_kept : (b : ℕ) (bs : List ℕ) → is_space b ≡ false → without_front (b ∷ bs) ≡ b ∷ bs
front_kept b bs h = rw h refl

-- a printed text with blanks behind it is that text without the spaces at both ends
trimmed : (w : List ℕ) (n : ℕ) → IsPrinted w → without_end (without_front (w ++ blanks n)) ≡ w
trimmed [] n h = ap without_end (front_blank n)
trimmed (b ∷ w) n h =
    ap without_end (front_kept b (w ++ blanks n) (no_space b (and_parts (is_printable b) (list_all is_printable w) h).0))
    ∙ end_printed (b ∷ w) n h

-- ---- what stands between two columns

-- the first k bytes of a text that begins with k blanks or more are k blanks
take_blanks : (k n : ℕ) (rest : List ℕ) → k ≤ n → take k (blanks n ++ rest) ≡ blanks k
take_blanks zero n rest h = refl
take_blanks (suc k) zero rest h = absurd (omega arith)
take_blanks (suc k) (suc n) rest h = ap (λ l. 32 ∷ l) (take_blanks k n rest (omega arith))

-- the first bytes of a text with enough blanks behind it are the text and the blanks that fit
reach : (w rest : List ℕ) (n k size : ℕ) → size ≡ length w + k → k ≤ n →
    take size (w ++ (blanks n ++ rest)) ≡ w ++ blanks k
reach [] rest n k size e h = ap (λ t. take t (blanks n ++ rest)) (omega arith) ∙ take_blanks k n rest h
reach (b ∷ w) rest n k zero e h = absurd (omega arith)
reach (b ∷ w) rest n k (suc size) e h = ap (λ l. b ∷ l) (reach w rest n k size (omega arith) h)

-- the bytes behind a prefix, up to a size, are the first bytes of what stands behind the prefix
window : (front cell : List ℕ) (size total : ℕ) → total ≡ length front + size →
    drop (length front) (take total (front ++ cell)) ≡ take size cell
window [] cell size total e = ap (λ t. take t cell) (omega arith)
window (b ∷ front) cell size zero e = absurd (omega arith)
window (b ∷ front) cell size (suc total) e = window front cell size total (omega arith)

-- the first bytes of a list are no more than all
short : (n : ℕ) (l : List ℕ) → length (take n l) ≤ length l
short zero l = omega arith
short (suc n) [] = omega arith
short (suc n) (b ∷ l) = let h = short n l in omega arith

-- a text in its columns, with blanks after it
pub column_read : (front w rest : List ℕ) (n first last size : ℕ) → IsPrinted w →
    length front + 1 ≡ first → length front + size ≡ last → length w ≤ size → size ≤ length w + n
    → in_columns first last (front ++ (w ++ (blanks n ++ rest))) ≡ w
unfolding in_columns
column_read front w rest n first last size h a b fits far =
    let line : List ℕ = front ++ (w ++ (blanks n ++ rest)) in
    let e : drop (first - 1) (take last line) ≡ w ++ blanks (size - length w) =
    ap (λ d. drop d (take last line)) (omega arith) ∙ window front (w ++ (blanks n ++ rest)) size last (omega arith)
    ∙ reach w rest n (size - length w) size (omega arith) (omega arith) in
    ap (λ l. without_end (without_front l)) e ∙ trimmed w (size - length w) h

-- the last text of a line
pub column_last : (front w : List ℕ) (first last size : ℕ) → IsPrinted w →
    length front + 1 ≡ first → length front + size ≡ last → length w ≤ size
    → in_columns first last (front ++ w) ≡ w
unfolding in_columns
column_last front w first last size h a b fits =
    let e : drop (first - 1) (take last (front ++ w)) ≡ w ++ blanks 0 =
    ap (λ d. drop d (take last (front ++ w))) (omega arith)
    ∙ window front w size last (omega arith) ∙ take_all size w fits ∙ sym (append-nil w) in
    ap (λ l. without_end (without_front l)) e ∙ trimmed w 0 h

-- nothing follows a line
pub column_past : (line : List ℕ) (first last : ℕ) → length line < first → in_columns first last line ≡ []
unfolding in_columns
column_past line first last h =
    let k = short last line in
    ap (λ l. without_end (without_front l)) (drop_all (first - 1) (take last line) (omega arith))

-- ---- no byte is misplaced

-- a printed byte is no tab
no_tab : (b : ℕ) → is_printable b ≡ true → (b == 9) ≡ false
no_tab b h =
    let p = and_parts (nat_le 33 b) (nat_le b 126) h in
    let low : 33 ≤ b = leb-true 33 b p.0 in
    ne_eqb b 9 (λ e. omega arith)

-- a test and another one that asks for false do not both pass
never : (s t : Bool) → s && (false || (t && false)) ≡ false
never true true = refl
never true false = refl
never false t = refl

pub placed_blanks : (column n : ℕ) (rest : List ℕ) →
    misplaced_from column (blanks n ++ rest) ≡ misplaced_from (column + n) rest
placed_blanks column zero rest = ap (λ k. misplaced_from k rest) (omega arith)
placed_blanks column (suc n) rest =
    rw (never (nat_le column 62) (is_beside column))
    (placed_blanks (column + 1) n rest ∙ ap (λ k. misplaced_from k rest) (omega arith))

-- each of `size` columns of fixed form from `first` on belongs to a field
abbrev pub HasNoneBeside : ℕ → ℕ → Type 0
HasNoneBeside first size = (k : ℕ) → first ≤ k → k < first + size → is_beside k ≡ false

-- a printed byte in a column of a field is not misplaced
text_byte : (column b : ℕ) → is_printable b ≡ true → is_beside column ≡ false → is_misplaced column b ≡ false
text_byte column b h none = rw (no_tab b h, none) (and_right (nat_le column 62) false refl)

pub placed_text : (column size : ℕ) (w rest : List ℕ) → IsPrinted w → length w ≤ size → HasNoneBeside column size →
    misplaced_from column (w ++ rest) ≡ misplaced_from (column + length w) rest
placed_text column size [] rest h fits none = ap (λ k. misplaced_from k rest) (omega arith)
placed_text column zero (b ∷ w) rest h fits none = absurd (omega arith)
placed_text column (suc size) (b ∷ w) rest h fits none =
    let p = and_parts (is_printable b) (list_all is_printable w) h in
    let here : is_misplaced column b ≡ false = text_byte column b p.0 (none column (omega arith) (omega arith)) in
    let more : HasNoneBeside (column + 1) size = λ k a c. none k (omega arith) (omega arith) in
    rw here
    (placed_text (column + 1) size w rest p.1 (omega arith) more ∙ ap (λ k. misplaced_from k rest) (omega arith))
