-- The lines of bytes, and their words, have no line feed.
--
-- `printed_no_feed`: a text of printed bytes has no line feed.
-- `words_plain`: the words of bytes without a line feed have none.
-- `lines_plain`: the lines of any bytes have no line feed in them.
use Rattle.std.proofs.Common.{◌≡◌, ◌≢◌, ◌≤◌, ℕ, ◌-◌, ◌&&◌, nat_le, leb-true, arith, Bool, true, false, cond, nat_eq, List, [], ◌∷◌, take, length, slice_index, get_or}
use Rattle.std.proofs.Common.{refl, sym, ap, ◌∙◌, subst, ◌⊎◌, inl, inr}
use Rattle.std.specs.Prelude.{All}
use Rattle.std.specs.List.{list_all, slice_split, onto_first}
use Rattle.std.proofs.lemmas.Bool.{and_parts}
use Rattle.std.specs.Str.Lines.{lines_of_parts, strip_carriage_return}
use Rattle.std.proofs.lemmas.List.Elements.{All-nil, All-cons, All-head, All-tail, All-filter, All-map, All-take, All-weaker}
use Rattle.spec_text.specs.declared.line.Line.{Line}
use Rattle.spec_text.specs.declared.line.Line.TheVariants as line
use Rattle.spec_text.specs.Lines.{line_of, lines_of}
use Rattle.spec_text.specs.Words.{is_blank, has_bytes, words_of}
use Rattle.spec_text.proofs.LineLemmas.{line_of_cases}
use Rattle.spec_text_truth.specs.TrueOutput.{HasNoFeed}
use Rattle.spec_text_truth.proofs.PlainText.{either_no_feed}

-- ---- printed bytes

pub printed_no_feed : (text : List ℕ) → list_all (λ b. nat_le 32 b && nat_le b 126) text ≡ true → HasNoFeed text
printed_no_feed [] h = All-nil (λ b. b ≢ 10)
printed_no_feed (b ∷ text) h =
    let p = and_parts (nat_le 32 b && nat_le b 126) (list_all (λ b. nat_le 32 b && nat_le b 126) text) h in
    let q = and_parts (nat_le 32 b) (nat_le b 126) p.0 in
    let low : 32 ≤ b = leb-true 32 b q.0 in
    All-cons (λ x. x ≢ 10) b text (λ e. omega (arith, e, low)) (printed_no_feed text p.1)

-- ---- parts of a list

module _ (P : ℕ → Type 0) (p : ℕ → Bool) where
  abbrev Holds : List ℕ → Type 0
  Holds part = All P part

  -- where P holds of b, and of each byte of the parts, it holds of each byte of the parts with b in front of the first
  onto_all : (b : ℕ) (parts : List (List ℕ)) → P b → All Holds parts → All Holds (onto_first b parts)
  onto_all b [] h k = All-cons Holds (b ∷ []) [] (All-cons P b [] h (All-nil P)) (All-nil Holds)
  onto_all b (part ∷ parts) h k =
      All-cons Holds (b ∷ part) parts (All-cons P b part h (All-head Holds part parts k)) (All-tail Holds part parts k)

  -- where P holds of each byte at which no part ends, it holds of each byte of the parts
  split_all : (bytes : List ℕ) → All (λ b. p b ≡ false → P b) bytes → All Holds (slice_split p bytes)
  split_all [] h = All-cons Holds [] [] (All-nil P) (All-nil Holds)
  split_all (b ∷ bytes) h =
      by (p b) refl (split_all bytes (All-tail (λ b. p b ≡ false → P b) b bytes h))
    where
      by : (t : Bool) → p b ≡ t → All Holds (slice_split p bytes) →
          All Holds (cond t ([] ∷ slice_split p bytes) (onto_first b (slice_split p bytes)))
      by true e k = All-cons Holds [] (slice_split p bytes) (All-nil P) k
      by false e k = onto_all b (slice_split p bytes) (All-head (λ b. p b ≡ false → P b) b bytes h e) k

-- ---- words

pub words_plain : (bytes : List ℕ) → HasNoFeed bytes → All HasNoFeed (words_of bytes)
unfolding words_of
words_plain bytes h =
    All-filter has_bytes HasNoFeed (slice_split is_blank bytes)
    (split_all (λ b. b ≢ 10) is_blank bytes (All-weaker (λ b. b ≢ 10) (λ b. is_blank b ≡ false → b ≢ 10) (λ b k e. k) bytes h))

-- ---- lines

abbrev pub IsPlainText : Line (List ℕ) → Type 0
IsPlainText (line.Text bytes) = HasNoFeed bytes
IsPlainText other = Unit {0}

-- where bytes have no line feed, they have none without the carriage return at their end
strip_plain : (bytes : List ℕ) → HasNoFeed bytes → HasNoFeed (strip_carriage_return bytes)
strip_plain bytes h =
    either_no_feed (nat_eq (slice_index bytes (length bytes - 1)) 13) (take (length bytes - 1) bytes) bytes
    (All-take (λ b. b ≢ 10) (length bytes - 1) bytes h) h

-- where no part of bytes has a line feed, no line made of a part has one
parts_plain : (parts : List (List ℕ)) → All HasNoFeed parts → All HasNoFeed (lines_of_parts parts)
parts_plain [] h = h
parts_plain (x ∷ []) h = by (nat_eq (length x) 0)
  where
    by : (t : Bool) → All HasNoFeed (cond {A = List (List ℕ)} t [] (x ∷ []))
    by true = All-nil HasNoFeed
    by false = h
parts_plain (x ∷ y ∷ parts) h =
    All-cons HasNoFeed (strip_carriage_return x) (lines_of_parts (y ∷ parts))
    (strip_plain x (All-head HasNoFeed x (y ∷ parts) h)) (parts_plain (y ∷ parts) (All-tail HasNoFeed x (y ∷ parts) h))

-- a byte that a test tells from a line feed is none
other_byte : (b : ℕ) → nat_eq b 10 ≡ false → b ≢ 10
other_byte b e is = let z : nat_eq 10 10 ≡ false = sym (ap (λ d. nat_eq d 10) is) ∙ e in cc

-- where bytes have no line feed, the line of them has none
line_plain : (bytes : List ℕ) → HasNoFeed bytes → IsPlainText (line_of bytes)
line_plain bytes h = by (line_of_cases bytes)
  where
    by : (line_of bytes ≡ line.Text bytes) ⊎ (line_of bytes ≡ line.Long (length bytes)) → IsPlainText (line_of bytes)
    by (inl e) = subst IsPlainText (sym e) h
    by (inr e) = subst IsPlainText (sym e) tt

pub lines_plain : (bytes : List ℕ) → All IsPlainText (lines_of bytes)
unfolding lines_of
lines_plain bytes =
    let parts : List (List ℕ) = slice_split (λ b. nat_eq b 10) bytes in
    let plain : All HasNoFeed parts =
    split_all (λ b. b ≢ 10) (λ b. nat_eq b 10) bytes (λ k d l. other_byte (get_or bytes k d)) in
    All-map IsPlainText line_of (lines_of_parts parts)
    (All-weaker HasNoFeed (λ bytes. IsPlainText (line_of bytes)) line_plain (lines_of_parts parts)
    (parts_plain parts plain))
