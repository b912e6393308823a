-- Each line of a written text is short, and has only spaces and printed bytes.
--
-- `column_small`: each field of fixed form begins in one of the first 50 columns.
-- `blanks_len`: a line with k blanks behind it is k bytes longer.
-- `plain_both`: two texts of spaces and printed bytes, one after the other, are such a text.
-- `plain_line`: the line of a card with few short fields is short and plain.
-- `name_short`: a valid name is short and plain.
-- `name_card_short`: the NAME card of a valid model name has few short fields.
-- `cards_short`: each card of a kept model has few short fields.
use Rattle.std.proofs.Common.{◌≡◌, ℕ, zero, suc, ◌+◌, ◌-◌, ◌*◌, ◌/◌, ◌^◌, ◌≤◌, ◌<◌, ◌==◌, ◌&&◌}
use Rattle.std.proofs.Common.{Bool, true, false, cond, Option, Some, None, List, [], ◌∷◌, ◌++◌, length}
use Rattle.std.proofs.Common.{map, get_or, replicate, pos, refl, ap, ◌∙◌, length-append, arith}
use Rattle.std.specs.Prelude.{codes, decimal, nat_le, nat_lt, int_lt, unsigned_abs, IfSome}
use Rattle.std.specs.List.{All, flat_map, list_all, list_any}
use Rattle.std.proofs.lemmas.Fmt.{length-decimal-le_wide}
use Rattle.std.proofs.lemmas.List.{length-replicate}
use Rattle.std.proofs.lemmas.List.Elements.{All-nil, All-cons, All-append, All-map}
use Rattle.std.proofs.lemmas.List.Folds.{list_all-append}
use Rattle.std.proofs.Math.Nat.{div-le_self}
use Rattle.std.proofs.lemmas.Bool.{and_parts}
use borrow.Author.Tests.{leb-true}
use Rattle.spec_exact.specs.Fraction.{ℚ, 0ℚ, neg_ℚ, eq_ℚ, lt_ℚ}
use Rattle.spec_exact.specs.Narrow.{IsNarrow, number_limit}
use Rattle.spec_exact.proofs.Narrow.{neg_narrow}
use Rattle.spec_model.specs.declared.parts.Kind.{Kind}
use Rattle.spec_model.specs.declared.parts.Kind.TheVariants.{L, G, E, N}
use Rattle.spec_model.specs.declared.parts.Sense.{Sense}
use Rattle.spec_model.specs.declared.parts.Sense.TheVariants.{Min, Max}
use Rattle.spec_model.specs.Model.{Name, Model, ExactColumn, no_row, row}
use Rattle.spec_model.specs.Kept.{IsModel, IsKeptColumn, IsNarrowColumn, is_name}
use Rattle.spec_model.specs.Kept.{is_row_name, is_model_name, is_printable}
use Rattle.spec_mps.specs.declared.style.Style.{Style}
use Rattle.spec_mps.specs.declared.style.Style.TheVariants.{Free, Fixed}
use Rattle.spec_mps.specs.Fields.{Fields}
use Rattle.spec_mps.specs.NumberWritten.{last_digits, pointed, quotient_text, placed, places, size_text, number_text}
use Rattle.spec_mps.specs.Written.{WrittenCard, WrittenCards, Head, Data, cards_of, name_card, sense_cards}
use Rattle.spec_mps.specs.Written.{rows_cards, columns_cards, sides_cards, ranges_cards, bounds_cards}
use Rattle.spec_mps.specs.Written.{section_card, type_card, number_card, bound_card, unbound_card}
use Rattle.spec_mps.specs.Written.{kind_word, row_card, column_cards, side_cards, range_cards, bound_cards}
use Rattle.spec_mps.specs.Written.{has_range, has_bounds, first_column, padded, with_fields, line_text}
use Rattle.spec_mps.proofs.WrittenSteps.{IsPlainLine}
use Rattle.spec_mps.proofs.DigitLemmas.{length-last}
use Rattle.spec_mps.proofs.RoundTrip.{found_place}
use Rattle.spec_mps.proofs.WrittenNumbers.{number_word}
use Rattle.spec_mps.proofs.WrittenWords.{is_plain, plain_text}

-- ---- lines

-- the text has at most 100 bytes, all of them spaces or printable
pub record IsShort (w : List ℕ) : Type 0 where
  pub fits : length w ≤ 100
  pub plain : list_all is_plain w ≡ true

-- the text of each field is short and plain
abbrev AreShort : Fields → Type 0
AreShort [] = Unit {0}
AreShort (f ∷ fs) = IsShort f.text × AreShort fs

pub column_small : (n : ℕ) → first_column n ≤ 50
column_small n = by (n == 1) (n == 2) (n == 3) (n == 4) (n == 5)
  where
    by : (a b c d e : Bool) → cond a 2 (cond b 5 (cond c 15 (cond d 25 (cond e 40 50)))) ≤ 50
    by true b c d e = omega arith
    by false true c d e = omega arith
    by false false true d e = omega arith
    by false false false true e = omega arith
    by false false false false true = omega arith
    by false false false false false = omega arith

pub blanks_len : (k : ℕ) (line : List ℕ) → length (line ++ replicate k 32) ≡ length line + k
blanks_len k line = length-append line (replicate k 32) ∙ ap (λ m. length line + m) (length-replicate k 32)

-- blanks up to a column of at most 50 make a line at most 50 bytes longer
up_to : (column : ℕ) (line : List ℕ) → column ≤ 50 →
    length (line ++ replicate (column - 1 - length line) 32) ≤ length line + 50
up_to column line h =
    let e : length (line ++ replicate (column - 1 - length line) 32) ≡ length line + (column - 1 - length line) =
    blanks_len (column - 1 - length line) line in
    omega arith

-- blanks up to a field make a line at most 50 bytes longer
padded_fits : (style : Style) (n : ℕ) (line : List ℕ) → length (padded style n line) ≤ length line + 50
padded_fits Free n line = let a = length-append line (32 ∷ []) in omega arith
padded_fits Fixed n line = up_to (first_column n) line (column_small n)

-- short fields make a line longer by at most 150 bytes each
line_fits : (style : Style) (line : List ℕ) (fs : Fields) → AreShort fs →
    length (with_fields style line fs) ≤ length line + 150 * length fs
line_fits style line [] h = omega arith
line_fits style line (f ∷ fs) h =
    let p = padded_fits style f.number line in
    let a = length-append (padded style f.number line) f.text in
    let t = h.0.fits in
    let r = line_fits style (padded style f.number line ++ f.text) fs h.1 in
    omega arith

pub plain_both : (a b : List ℕ) → list_all is_plain a ≡ true → list_all is_plain b ≡ true →
    list_all is_plain (a ++ b) ≡ true
plain_both a b h k = list_all-append is_plain a b ∙ rw (h, k) refl

-- blanks are plain bytes
plain_blanks : (n : ℕ) → list_all is_plain (replicate n 32) ≡ true
plain_blanks zero = refl
plain_blanks (suc n) = plain_blanks n

-- plain bytes with blanks up to a field behind them are plain bytes
plain_padded : (style : Style) (n : ℕ) (line : List ℕ) → list_all is_plain line ≡ true →
    list_all is_plain (padded style n line) ≡ true
plain_padded Free n line h = plain_both line (32 ∷ []) h refl
plain_padded Fixed n line h =
    plain_both line (replicate (first_column n - 1 - length line) 32) h
    (plain_blanks (first_column n - 1 - length line))

-- plain bytes with short fields behind them are plain bytes
line_plain : (style : Style) (line : List ℕ) (fs : Fields) → list_all is_plain line ≡ true → AreShort fs →
    list_all is_plain (with_fields style line fs) ≡ true
line_plain style line [] h k = h
line_plain style line (f ∷ fs) h k =
    line_plain style (padded style f.number line ++ f.text) fs
    (plain_both (padded style f.number line) f.text (plain_padded style f.number line h) k.0.plain) k.1

-- the card has at most four fields, and their texts and what begins a heading are short and plain
abbrev pub IsShortCard : WrittenCard → Type 0
IsShortCard (Head start fields) = IsShort start × AreShort fields × (length fields ≤ 4)
IsShortCard (Data fields) = AreShort fields × (length fields ≤ 4)

pub plain_line : (style : Style) (card : WrittenCard) → IsShortCard card → IsPlainLine (line_text style card)
plain_line style (Head start fields) h =
    let f = line_fits style start fields h.1 in
    let s = h.0.fits in
    let n = h.2 in
    record { short = omega arith; plain = line_plain style start fields h.0.plain h.1 }
plain_line style (Data fields) h =
    let f = line_fits style [] fields h.0 in
    let n = h.1 in
    record { short = omega arith; plain = line_plain style [] fields refl h.0 }

-- ---- names

pub name_short : (name : Name) → is_name name ≡ true → IsShort name
unfolding is_name
name_short name h =
    let p = and_parts (nat_lt 0 (length name) && nat_le (length name) 64) (list_all is_printable name) h in
    let q = and_parts (nat_lt 0 (length name)) (nat_le (length name) 64) p.0 in
    let l : length name ≤ 64 = leb-true (length name) 64 q.1 in
    record { fits = omega arith; plain = plain_text name p.1 }

-- a valid name of a row is a short text
row_name_short : (name : Name) → is_row_name name ≡ true → IsShort name
unfolding is_row_name
row_name_short name h = name_short name (and_parts _ _ h).0

-- a valid name of a model is a short text
model_name_short : (name : Name) → is_model_name name ≡ true → IsShort name
unfolding is_model_name
model_name_short name h =
    let p = and_parts (nat_le (length name) 64) (list_all is_printable name) h in
    let l : length name ≤ 64 = leb-true (length name) 64 p.0 in
    record { fits = omega arith; plain = plain_text name p.1 }

-- ---- numbers

-- the digits of a number within the limit are at most 39
decimal_fits : (n : ℕ) → n ≤ number_limit → length (decimal n) ≤ 39
decimal_fits n h = length-decimal-le_wide 39 n (omega arith) (omega arith) (omega arith)

-- the text of a quotient of two numbers within the limit has at most 79 bytes
quotient_fits : (n den : ℕ) → n ≤ number_limit → den ≤ number_limit → length (quotient_text n den) ≤ 79
unfolding quotient_text
quotient_fits n den h k =
    let a = length-append (decimal n) (47 ∷ decimal den) in
    let b = decimal_fits n h in
    let c = decimal_fits den k in
    omega arith

-- a number within the limit with fewer than 19 places has at most 79 bytes
pointed_fits : (d n : ℕ) → n ≤ number_limit → d < 19 → length (pointed d n) ≤ 79
unfolding pointed
pointed_fits d n h k =
    let small = div-le_self n (10 ^ d) in
    let a = length-append (decimal (n / 10 ^ d)) (46 ∷ last_digits d n) in
    let b = decimal_fits (n / 10 ^ d) (omega arith) in
    let c = length-last d n in
    omega arith

-- a fraction within the limit, with places or as a quotient, has at most 79 bytes
placed_fits : (n den : ℕ) (o : Option ℕ) → n ≤ number_limit → den ≤ number_limit → ((d : ℕ) → o ≡ Some d → d < 19) →
    length (placed n den o) ≤ 79
unfolding placed
placed_fits n den None h k few = quotient_fits n den h k
placed_fits n den (Some d) h k few = by (nat_le (n * (10 ^ d / den)) number_limit) refl
  where
    by : (t : Bool) → nat_le (n * (10 ^ d / den)) number_limit ≡ t →
        length (cond t (pointed d (n * (10 ^ d / den))) (quotient_text n den)) ≤ 79
    by true e = pointed_fits d (n * (10 ^ d / den)) (leb-true (n * (10 ^ d / den)) number_limit e) (few d refl)
    by false e = quotient_fits n den h k

-- a fraction within the limit has at most 79 bytes without its sign
size_fits : (n den : ℕ) → n ≤ number_limit → den ≤ number_limit → length (size_text n den) ≤ 79
unfolding size_text places
size_fits n den h k = by (den == 1)
  where
    by : (t : Bool) → length (cond t (decimal n) (placed n den (places den))) ≤ 79
    by true = let a = decimal_fits n h in omega arith
    by false = placed_fits n den (places den) h k (λ d e. (found_place 19 0 den d e).0)

-- the text of a number of 127 bits has at most 80 bytes
number_fits : (q : ℚ) → IsNarrow q → length (number_text q) ≤ 80
unfolding number_text
number_fits q h = by (int_lt q.num (pos 0))
  where
    size : length (size_text (unsigned_abs q.num) q.den) ≤ 79
    size = size_fits (unsigned_abs q.num) q.den h.top h.bottom

    by : (t : Bool) → length (cond t (45 ∷ []) [] ++ size_text (unsigned_abs q.num) q.den) ≤ 80
    by true = let s = size in omega arith
    by false = let s = size in omega arith

-- the text of a number of 127 bits is a short text
number_short : (q : ℚ) → IsNarrow q → IsShort (number_text q)
number_short q h =
    let f = number_fits q h in
    record { fits = omega arith; plain = plain_text (number_text q) (number_word q h.top h.bottom).printable }

-- ---- cards

-- each of these cards has few short fields
abbrev pub AreShortCards : WrittenCards → Type 0
AreShortCards cards = All IsShortCard cards

-- one short card makes a list of short cards
one_short : (card : WrittenCard) → IsShortCard card → AreShortCards (card ∷ [])
one_short card h = All-cons IsShortCard card [] h (All-nil IsShortCard)

-- two short cards make a list of short cards
two_short : (a b : WrittenCard) → IsShortCard a → IsShortCard b → AreShortCards (a ∷ b ∷ [])
two_short a b h k = All-cons IsShortCard a (b ∷ []) h (one_short b k)

-- lists of short cards, one behind the other, make a list of short cards
all_short : {X : Type 0} (f : X → WrittenCards) (xs : List X) → All (λ x. AreShortCards (f x)) xs →
    AreShortCards (flat_map f xs)
all_short f [] h = All-nil IsShortCard
all_short f (x ∷ xs) h =
    All-append IsShortCard (f x) (flat_map f xs) (h 0 x (omega arith))
    (all_short f xs (λ i d a. h (suc i) d (omega arith)))

-- a card of a short set or column, a short name and a number of 127 bits is short
number_card_short : (group name : Name) (q : ℚ) → IsShort group → IsShort name → IsNarrow q →
    IsShortCard (number_card group name q)
number_card_short group name q g h k = ((g, (h, (number_short q k, tt))), omega arith)

pub name_card_short : (name : Name) → is_model_name name ≡ true → IsShortCard (name_card name)
name_card_short [] h = (record { fits = omega arith; plain = refl }, tt, omega arith)
name_card_short (b ∷ bs) h =
    (record { fits = omega arith; plain = refl }, (model_name_short (b ∷ bs) h, tt), omega arith)

-- the cards that say a sense are short
sense_short : (sense : Sense) → AreShortCards (sense_cards sense)
sense_short Min = All-nil IsShortCard
sense_short Max =
    one_short (section_card (codes "OBJSENSE MAX")) (record { fits = omega arith; plain = refl }, tt, omega arith)

-- the word of each kind of rows is a short text
kind_short : (kind : Kind) → IsShort (kind_word kind)
kind_short L = record { fits = omega arith; plain = refl }
kind_short G = record { fits = omega arith; plain = refl }
kind_short E = record { fits = omega arith; plain = refl }
kind_short N = record { fits = omega arith; plain = refl }

-- the cards of ROWS of a kept model are short
rows_short : (m : Model) → IsModel m → AreShortCards (rows_cards m)
unfolding rows_cards
rows_short m kept =
    All-cons IsShortCard (section_card (codes "ROWS")) (type_card (codes "N") m.objective ∷ map row_card m.rows)
    (record { fits = omega arith; plain = refl }, tt, omega arith)
    (All-cons IsShortCard (type_card (codes "N") m.objective) (map row_card m.rows)
    ((record { fits = omega arith; plain = refl }, (row_name_short m.objective kept.objective, tt)), omega arith)
    (All-map IsShortCard row_card m.rows (λ i d a. (
      (kind_short (get_or m.rows i d).kind, (row_name_short (get_or m.rows i d).name (kept.rows i d a), tt)),
      omega arith,
    ))))

-- the cards of COLUMNS of one column of a kept model are short
column_short : (m : Model) (c : ExactColumn) → IsModel m → IsKeptColumn (length m.rows) c → IsNarrowColumn c →
    AreShortCards (column_cards m c)
column_short m c kept k n =
    All-cons IsShortCard (number_card c.name m.objective c.cost)
    (map (λ e. number_card c.name (row m e.0).name e.1) c.entries) (number_card_short c.name m.objective c.cost
    (name_short c.name k.name) (row_name_short m.objective kept.objective) n.cost)
    (All-map IsShortCard (λ e. number_card c.name (row m e.0).name e.1) c.entries (λ i d a.
    number_card_short c.name
    (row m (get_or c.entries i d).0).name (get_or c.entries i d).1 (name_short c.name k.name) (row_name_short
    (row m (get_or c.entries i d).0).name (kept.rows (get_or c.entries i d).0 no_row (k.entries.inside i d a)))
    (n.entries i d a)))

-- the cards of COLUMNS of a kept model are short
columns_short : (m : Model) → IsModel m → AreShortCards (columns_cards m)
unfolding columns_cards
columns_short m kept =
    All-cons IsShortCard (section_card (codes "COLUMNS")) (flat_map (column_cards m) m.columns)
    (record { fits = omega arith; plain = refl }, tt, omega arith)
    (all_short (column_cards m) m.columns
    (λ i d a. column_short m (get_or m.columns i d) kept (kept.columns i d a) (kept.narrow_columns i d a)))

-- the cards of a right side of 127 bits with a short name are short
side_short : (name : Name) (q : ℚ) → IsShort name → IsNarrow q → AreShortCards (side_cards name q)
side_short name q h k = by (eq_ℚ q 0ℚ)
  where
    by : (t : Bool) → AreShortCards (cond t [] (number_card (codes "RHS") name q ∷ []))
    by true = All-nil IsShortCard
    by false =
        one_short (number_card (codes "RHS") name q)
        (number_card_short (codes "RHS") name q (record { fits = omega arith; plain = refl }) h k)

-- the cards of RHS of a kept model are short
sides_short : (m : Model) → IsModel m → AreShortCards (sides_cards m)
unfolding sides_cards
sides_short m kept =
    All-cons IsShortCard (section_card (codes "RHS"))
    (side_cards m.objective (neg_ℚ m.offset) ++ flat_map (λ r. side_cards r.name r.rhs) m.rows)
    (record { fits = omega arith; plain = refl }, tt, omega arith)
    (All-append IsShortCard (side_cards m.objective (neg_ℚ m.offset)) (flat_map (λ r. side_cards r.name r.rhs) m.rows)
    (side_short m.objective (neg_ℚ m.offset)
    (row_name_short m.objective kept.objective) (neg_narrow m.offset kept.offset))
    (all_short (λ r. side_cards r.name r.rhs) m.rows (λ i d a. side_short (get_or m.rows i d).name (get_or m.rows
    i d).rhs (row_name_short (get_or m.rows i d).name (kept.rows i d a)) (kept.narrow_rows i d a).rhs)))

-- the cards of a range of 127 bits, or of none, with a short name are short
range_short : (name : Name) (o : Option ℚ) → IsShort name → IfSome o IsNarrow → AreShortCards (range_cards name o)
range_short name None h k = All-nil IsShortCard
range_short name (Some v) h k =
    one_short (number_card (codes "RNG") name v)
    (number_card_short (codes "RNG") name v (record { fits = omega arith; plain = refl }) h k)

-- the cards of RANGES of a kept model are short
ranges_short : (m : Model) → IsModel m → AreShortCards (ranges_cards m)
unfolding ranges_cards
ranges_short m kept = by (list_any has_range m.rows)
  where
    by : (t : Bool) →
        AreShortCards (cond t (section_card (codes "RANGES") ∷ flat_map (λ r. range_cards r.name r.range) m.rows) [])
    by true =
        All-cons IsShortCard (section_card (codes "RANGES")) (flat_map (λ r. range_cards r.name r.range) m.rows)
        (record { fits = omega arith; plain = refl }, tt, omega arith)
        (all_short (λ r. range_cards r.name r.range) m.rows
        (λ i d a. range_short (get_or m.rows i d).name (get_or m.rows i
        d).range (row_name_short (get_or m.rows i d).name (kept.rows i d a)) (kept.narrow_rows i d a).range))
    by false = All-nil IsShortCard

-- a card of BOUNDS with a short kind, a short name and a value of 127 bits is short
value_short : (kind : List ℕ) (name : Name) (q : ℚ) → IsShort kind → IsShort name → IsNarrow q →
    IsShortCard (bound_card kind name q)
value_short kind name q g h k =
    ((g, (record { fits = omega arith; plain = refl }, (h, (number_short q k, tt)))), omega arith)

-- a card of BOUNDS with a short kind, a short name and no value is short
unbound_short : (kind : List ℕ) (name : Name) → IsShort kind → IsShort name → IsShortCard (unbound_card kind name)
unbound_short kind name g h = ((g, (record { fits = omega arith; plain = refl }, (h, tt))), omega arith)

-- two plain bytes are a short text
two_bytes : (a b : ℕ) → is_plain a && (is_plain b && true) ≡ true → IsShort (a ∷ b ∷ [])
two_bytes a b h = record { fits = omega arith; plain = h }

-- the cards of the bounds of 127 bits of a column with a short name are short
bound_short : (name : Name) (lower upper : Option ℚ) → IsShort name → IfSome lower IsNarrow → IfSome upper IsNarrow →
    AreShortCards (bound_cards name lower upper)
bound_short name None None h l u =
    one_short (unbound_card (codes "FR") name) (unbound_short (codes "FR") name (two_bytes 70 82 refl) h)
bound_short name None (Some u) h k n =
    two_short (unbound_card (codes "MI") name) (bound_card (codes "UP") name u)
    (unbound_short (codes "MI") name (two_bytes 77 73 refl) h)
    (value_short (codes "UP") name u (two_bytes 85 80 refl) h n)
bound_short name (Some l) None h k n = by (eq_ℚ l 0ℚ)
  where
    by : (t : Bool) → AreShortCards (cond t [] (bound_card (codes "LO") name l ∷ []))
    by true = All-nil IsShortCard
    by false = one_short (bound_card (codes "LO") name l) (value_short (codes "LO") name l (two_bytes 76 79 refl) h k)
bound_short name (Some l) (Some u) h k n = by (eq_ℚ l u) (eq_ℚ l 0ℚ && lt_ℚ 0ℚ u)
  where
    up : IsShortCard (bound_card (codes "UP") name u)
    up = value_short (codes "UP") name u (two_bytes 85 80 refl) h n

    by : (s t : Bool) →
        AreShortCards (cond s (bound_card (codes "FX") name l ∷ []) (cond t (bound_card (codes "UP") name u ∷ [])
        (bound_card (codes "LO") name l ∷ bound_card (codes "UP") name u ∷ [])))
    by true t = one_short (bound_card (codes "FX") name l) (value_short (codes "FX") name l (two_bytes 70 88 refl) h k)
    by false true = one_short (bound_card (codes "UP") name u) up
    by false false =
        two_short (bound_card (codes "LO") name l) (bound_card (codes "UP") name u)
        (value_short (codes "LO") name l (two_bytes 76 79 refl) h k) up

-- the cards of BOUNDS of a kept model are short
bounds_short : (m : Model) → IsModel m → AreShortCards (bounds_cards m)
unfolding bounds_cards
bounds_short m kept = by (list_any has_bounds m.columns)
  where
    by : (t : Bool) →
        AreShortCards
        (cond t (section_card (codes "BOUNDS") ∷ flat_map (λ c. bound_cards c.name c.lower c.upper) m.columns) [])
    by true =
        All-cons IsShortCard (section_card (codes "BOUNDS"))
        (flat_map (λ c. bound_cards c.name c.lower c.upper) m.columns)
        (record { fits = omega arith; plain = refl }, tt, omega arith)
        (all_short (λ c. bound_cards c.name c.lower c.upper) m.columns (λ i d a.
        bound_short (get_or m.columns i d).name (get_or m.columns i d).lower (get_or m.columns
        i d).upper (name_short (get_or m.columns i d).name (kept.columns i d a).name)
        (kept.narrow_columns i d a).lower (kept.narrow_columns i d a).upper))
    by false = All-nil IsShortCard

pub cards_short : (m : Model) → IsModel m → AreShortCards (cards_of m)
unfolding cards_of
cards_short m kept =
    let start : WrittenCards = name_card m.name ∷ sense_cards m.sense in
    let a =
    All-cons IsShortCard (name_card m.name) (sense_cards m.sense)
    (name_card_short m.name kept.name) (sense_short m.sense) in
    let b = All-append IsShortCard start (rows_cards m) a (rows_short m kept) in
    let c = All-append IsShortCard (start ++ rows_cards m) (columns_cards m) b (columns_short m kept) in
    let d = All-append IsShortCard (start ++ rows_cards m ++ columns_cards m) (sides_cards m) c (sides_short m kept) in
    let e =
    All-append IsShortCard (start ++ rows_cards m ++ columns_cards m ++ sides_cards m)
    (ranges_cards m) d (ranges_short m kept) in
    let f =
    All-append IsShortCard (start ++ rows_cards m ++ columns_cards m ++ sides_cards m ++ ranges_cards m)
    (bounds_cards m) e (bounds_short m kept) in
    All-append IsShortCard
    (start ++ rows_cards m ++ columns_cards m ++ sides_cards m ++ ranges_cards m ++ bounds_cards m)
    (section_card (codes "ENDATA") ∷ []) f
    (one_short (section_card (codes "ENDATA")) (record { fits = omega arith; plain = refl }, tt, omega arith))
