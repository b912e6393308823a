-- The words of a written line in free form: words joined by single blanks are read as those words.
--
-- `no_blank`: a printable byte is no blank.
-- `parts_word`: a word alone splits into itself.
-- `parts_word_then`: a word, a blank and more text split into the word and the words of the rest.
-- `words_of_joined`: words with a blank before each are read as these words.
-- `stripped_plain`: a plain line has no carriage return at its end to strip.
-- `plain_text`: a text of printable bytes is of spaces and printed bytes.
-- `free_line`: a line of free form with fields is the line, and each field's text with a blank before it.
-- `free_card_read`: a data card whose fields are words is read in free form as these words.
use Rattle.std.proofs.Common.{◌≡◌, ℕ, zero, suc, ◌-◌, ◌≤◌, ◌==◌, ◌&&◌, Bool, true, false, List, []}
use Rattle.std.proofs.Common.{◌∷◌, ◌++◌, length, get_or, refl, sym, ap, ◌∙◌, append_assoc, arith}
use Rattle.std.specs.Prelude.{nat_le}
use Rattle.std.specs.List.{All, list_all, filter, slice_split}
use Rattle.std.specs.Str.Lines.{strip_carriage_return}
use Rattle.std.proofs.lemmas.List.{append-nil}
use Rattle.std.proofs.lemmas.List.Elements.{All-nil, All-cons}
use Rattle.std.proofs.lemmas.List.Splits.{slice_split_none, slice_split_at}
use Rattle.std.proofs.lemmas.List.Folds.{list_all-append}
use Rattle.std.proofs.lemmas.Bool.{and_parts}
use borrow.Author.Tests.{leb-true, le-leb, ne_eqb}
use Rattle.spec_text.specs.Words.{is_blank, has_bytes, words_of}
use Rattle.spec_model.specs.Kept.{is_printable}
use Rattle.spec_mps.specs.declared.card.Card.TheVariants.{Given}
use Rattle.spec_mps.specs.declared.style.Style.TheVariants.{Free}
use Rattle.spec_mps.specs.Cards.{is_skipped}
use Rattle.spec_mps.specs.Fields.{Field, Fields, Is, free_fields, word_fields, numbered_from, texts_of}
use Rattle.spec_mps.specs.Written.{Data, line_text, with_fields}
use Rattle.spec_mps.specs.NumberWritten.{IsWord}

-- each of these texts is a word
abbrev pub AreWords : List (List ℕ) → Type 0
AreWords [] = Unit {0}
AreWords (w ∷ ws) = IsWord w × AreWords ws

pub no_blank : (b : ℕ) → is_printable b ≡ true → is_blank b ≡ false
no_blank b h =
    let p = and_parts (nat_le 33 b) (nat_le b 126) h in
    let low : 33 ≤ b = leb-true 33 b p.0 in
    rw (ne_eqb b 32 (λ e. omega arith), ne_eqb b 9 (λ e. omega arith)) refl

-- a printed text has no blank
no_blanks : (w : List ℕ) → list_all is_printable w ≡ true → All (λ b. is_blank b ≡ false) w
no_blanks [] h = All-nil (λ b. is_blank b ≡ false)
no_blanks (b ∷ w) h =
    let p = and_parts (is_printable b) (list_all is_printable w) h in
    All-cons (λ x. is_blank x ≡ false) b w (no_blank b p.0) (no_blanks w p.1)

-- ---- words

-- the longest runs of bytes of a text without a blank
abbrev pub parts : List ℕ → List (List ℕ)
parts bs = filter has_bytes (slice_split is_blank bs)

pub parts_word : (w : List ℕ) → IsWord w → parts w ≡ w ∷ []
parts_word w h = ap (filter has_bytes) (slice_split_none is_blank w (no_blanks w h.printable)) ∙ rw h.some refl

pub parts_word_then : (w rest : List ℕ) → IsWord w → parts (w ++ 32 ∷ rest) ≡ w ∷ parts rest
parts_word_then w rest h =
    ap (filter has_bytes) (slice_split_at is_blank w 32 rest (no_blanks w h.printable) refl) ∙ rw h.some refl

-- these words, each with a blank before it
abbrev pub joined : List (List ℕ) → List ℕ
joined [] = []
joined (w ∷ ws) = 32 ∷ (w ++ joined ws)

-- the parts of words that are joined by single blanks are those words
parts_joined : (ws : List (List ℕ)) → AreWords ws → parts (joined ws) ≡ ws
parts_joined [] h = refl
parts_joined (w ∷ []) h = ap parts (append-nil w) ∙ parts_word w h.0
parts_joined (w ∷ v ∷ ws) h = parts_word_then w (v ++ joined ws) h.0 ∙ ap (λ vs. w ∷ vs) (parts_joined (v ∷ ws) h.1)

pub words_of_joined : (ws : List (List ℕ)) → AreWords ws → words_of (joined ws) ≡ ws
unfolding words_of
words_of_joined ws h = parts_joined ws h

-- ---- a line that is printed, with blanks

-- whether a byte is a space or printable
abbrev pub is_plain : ℕ → Bool
is_plain b = nat_le 32 b && nat_le b 126

-- a plain byte is no carriage return
no_return : (b : ℕ) → is_plain b ≡ true → (b == 13) ≡ false
no_return b h =
    let p = and_parts (nat_le 32 b) (nat_le b 126) h in
    let low : 32 ≤ b = leb-true 32 b p.0 in
    ne_eqb b 13 (λ e. omega arith)

-- no place of a line of plain bytes holds a carriage return
no_return_at : (line : List ℕ) (n : ℕ) → list_all is_plain line ≡ true → (get_or line n 0 == 13) ≡ false
no_return_at [] n h = refl
no_return_at (b ∷ line) zero h = no_return b (and_parts (is_plain b) (list_all is_plain line) h).0
no_return_at (b ∷ line) (suc n) h = no_return_at line n (and_parts (is_plain b) (list_all is_plain line) h).1

pub stripped_plain : (line : List ℕ) → list_all is_plain line ≡ true → strip_carriage_return line ≡ line
stripped_plain line h = rw (no_return_at line (length line - 1) h) refl

-- a printed byte is plain
plain_of : (b : ℕ) → is_printable b ≡ true → is_plain b ≡ true
plain_of b h =
    let p = and_parts (nat_le 33 b) (nat_le b 126) h in
    rw (le-leb 32 b (omega (arith, leb-true 33 b p.0)), p.1) refl

pub plain_text : (w : List ℕ) → list_all is_printable w ≡ true → list_all is_plain w ≡ true
plain_text [] h = refl
plain_text (b ∷ w) h =
    let p = and_parts (is_printable b) (list_all is_printable w) h in rw (plain_of b p.0, plain_text w p.1) refl

-- words that are joined by single blanks have plain bytes alone
plain_joined : (ws : List (List ℕ)) → AreWords ws → list_all is_plain (joined ws) ≡ true
plain_joined [] h = refl
plain_joined (w ∷ ws) h =
    rw (list_all-append is_plain w (joined ws), plain_text w h.0.printable, plain_joined ws h.1) refl

-- a line of words that are joined by single blanks is not skipped
not_skipped : (w : List ℕ) (ws : List (List ℕ)) → AreWords (w ∷ ws) → is_skipped (joined (w ∷ ws)) ≡ false
unfolding is_skipped
not_skipped [] ws h = cc
not_skipped (b ∷ w) ws h =
    let p = and_parts (is_printable b) (list_all is_printable w) h.0.printable in
    rw (stripped_plain (joined ((b ∷ w) ∷ ws)) (plain_joined ((b ∷ w) ∷ ws) h), no_blank b p.0) refl

-- ---- a data card

pub free_line : (line : List ℕ) (fs : Fields) → with_fields Free line fs ≡ line ++ joined (texts_of fs)
free_line line [] = sym (append-nil line)
free_line line (f ∷ fs) =
    free_line ((line ++ 32 ∷ []) ++ f.text) fs ∙ append_assoc (line ++ 32 ∷ []) f.text (joined (texts_of fs))
    ∙ append_assoc line (32 ∷ []) (f.text ++ joined (texts_of fs))

-- The fields of a data card in free form are read as its words.
pub free_card_read : (f : Field) (fs : Fields) → AreWords (texts_of (f ∷ fs))
    → free_fields (line_text Free (Data (f ∷ fs))) ≡ Is (Given (numbered_from 1 (texts_of (f ∷ fs))))
unfolding free_fields word_fields
free_card_read f fs h =
    let e : line_text Free (Data (f ∷ fs)) ≡ joined (texts_of (f ∷ fs)) = free_line [] (f ∷ fs) in
    ap free_fields e ∙ rw (not_skipped f.text (texts_of fs) h, words_of_joined (texts_of (f ∷ fs)) h) refl
