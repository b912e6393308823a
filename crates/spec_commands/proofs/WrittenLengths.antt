-- The text of a model that may be kept, by its bytes.
--
-- `take_behind`: the first `limit` bytes of a shorter text and more bytes are the text and the first of the bytes
--   behind it.
-- `model_fits`: the text of a model within the usual limits has at most 61,000,000 bytes, in either form.
use Rattle.std.proofs.Common.{◌≡◌, ℕ, suc, ◌+◌, ◌-◌, ◌*◌, ◌≤◌, ◌<◌, ◌&&◌, Bool, true, false, cond, Option}
use Rattle.std.proofs.Common.{Some, None, List, [], ◌∷◌, ◌++◌, length, take, map, get_or, replicate, ap, ◌∙◌}
use Rattle.std.proofs.Common.{length-append, arith}
use Rattle.std.specs.Prelude.{codes, All, AllPairs}
use Rattle.std.specs.List.{flat_map, list_any}
use Rattle.std.proofs.Math.Seq.{take-append-add}
use Rattle.std.proofs.Math.Nat.{mul-le-mul}
use Rattle.spec_exact.specs.Fraction.{ℚ, 0ℚ, eq_ℚ, neg_ℚ, lt_ℚ}
use Rattle.spec_model.specs.declared.parts.Sense.{Sense}
use Rattle.spec_model.specs.declared.parts.Sense.TheVariants.{Min, Max}
use Rattle.spec_model.specs.Model.{Model, Name, ExactRow, ExactColumn, row, column}
use Rattle.spec_model.specs.Kept.{IsModel, IsUsualModel, IsKeptColumn}
use Rattle.spec_mps.specs.declared.style.Style.{Style}
use Rattle.spec_mps.specs.declared.style.Style.TheVariants.{Free, Fixed}
use Rattle.spec_mps.specs.Fields.{Fields}
use Rattle.spec_mps.specs.Written.{WrittenCard, WrittenCards, Head, Data, cards_of, name_card, sense_cards, rows_cards}
use Rattle.spec_mps.specs.Written.{columns_cards, sides_cards, ranges_cards, bounds_cards, section_card, number_card}
use Rattle.spec_mps.specs.Written.{bound_card, row_card, column_cards, side_cards, range_cards, bound_cards, has_range}
use Rattle.spec_mps.specs.Written.{has_bounds, first_column, padded, with_fields, line_text, cards_text}
use Rattle.spec_mps.proofs.WrittenShort.{IsShortCard, cards_short, column_small, blanks_len}

-- a text that is no longer than the limit, with more after it
pub take_behind : (limit : ℕ) (xs more : List ℕ) → length xs ≤ limit →
    take limit (xs ++ more) ≡ xs ++ take (limit - length xs) more
take_behind limit xs more h =
    let all : limit ≡ length xs + (limit - length xs) = omega arith in
    ap (λ (n : ℕ). take n (xs ++ more)) all ∙ take-append-add xs more (limit - length xs)

-- ---- a line

-- the text of each field has at most 100 bytes
abbrev AllFit : Fields → Type 0
AllFit [] = Unit {0}
AllFit (f ∷ fs) = (length f.text ≤ 100) × AllFit fs

-- a line within a size of at least 49 stays within it when blanks are put behind it up to a column of at most 50
blanks_fit : (column size : ℕ) (line : List ℕ) → column ≤ 50 → length line ≤ size → 49 ≤ size →
    length (line ++ replicate (column - 1 - length line) 32) ≤ size
blanks_fit column size line c h w =
    let e : length (line ++ replicate (column - 1 - length line) 32) ≡ length line + (column - 1 - length line) =
    blanks_len (column - 1 - length line) line in
    omega arith

-- a line, padded up to a field, is at most one byte longer than it was, or than 49 bytes
padded_fits : (style : Style) (n size : ℕ) (line : List ℕ) → length line ≤ size → 49 ≤ size →
    length (padded style n line) ≤ size + 1
padded_fits Free n size line h w = let a = length-append line (32 ∷ []) in omega arith
padded_fits Fixed n size line h w = let b = blanks_fit (first_column n) size line (column_small n) h w in omega arith

-- a line with more fields of at most 100 bytes each is at most 101 bytes longer for each field
fields_fit : (style : Style) (size : ℕ) (line : List ℕ) (fs : Fields) → AllFit fs → length line ≤ size → 49 ≤ size →
    length (with_fields style line fs) ≤ size + 101 * length fs
fields_fit style size line [] f h w = omega arith
fields_fit style size line (x ∷ fs) f h w =
    let p = padded_fits style x.number size line h w in
    let a = length-append (padded style x.number line) x.text in
    let t = f.0 in
    let r = fields_fit style (size + 101) (padded style x.number line ++ x.text) fs f.1 (omega arith) (omega arith) in
    omega arith

-- a line feed makes a line one byte longer
ended_len : (line : List ℕ) → length (line ++ 10 ∷ []) ≡ length line + 1
ended_len line = length-append line (10 ∷ [])

-- the most bytes of a card's line
abbrev weight : WrittenCard → ℕ
weight (Head start fields) = 505
weight (Data fields) = 454

-- the line of a data card with at most four fields of at most 100 bytes takes at most 454 bytes
data_fits : (style : Style) (fs : Fields) → AllFit fs → length fs ≤ 4 →
    length (line_text style (Data fs) ++ 10 ∷ []) ≤ 454
data_fits style fs f few =
    let e = ended_len (with_fields style [] fs) in
    let l = fields_fit style 49 [] fs f (omega arith) (omega arith) in
    omega arith

-- the line of a section card with a word and at most four fields of at most 100 bytes takes at most 505 bytes
head_fits : (style : Style) (start : List ℕ) (fs : Fields) → length start ≤ 100 → AllFit fs → length fs ≤ 4 →
    length (line_text style (Head start fs) ++ 10 ∷ []) ≤ 505
head_fits style start fs s f few =
    let e = ended_len (with_fields style start fs) in
    let l = fields_fit style 100 start fs f s (omega arith) in
    omega arith

-- the line of a short card takes at most as many bytes as its sort weighs
card_fits : (style : Style) (card : WrittenCard) → IsShortCard card →
    length (line_text style card ++ 10 ∷ []) ≤ weight card
card_fits style (Data []) h = data_fits style [] tt h.1
card_fits style (Data (a ∷ [])) h = data_fits style (a ∷ []) (h.0.0.fits, tt) h.1
card_fits style (Data (a ∷ b ∷ [])) h = data_fits style (a ∷ b ∷ []) (h.0.0.fits, (h.0.1.0.fits, tt)) h.1
card_fits style (Data (a ∷ b ∷ c ∷ [])) h =
    data_fits style (a ∷ b ∷ c ∷ []) (h.0.0.fits, (h.0.1.0.fits, (h.0.1.1.0.fits, tt))) h.1
card_fits style (Data (a ∷ b ∷ c ∷ d ∷ [])) h =
    data_fits style (a ∷ b ∷ c ∷ d ∷ []) (h.0.0.fits, (h.0.1.0.fits, (h.0.1.1.0.fits, (h.0.1.1.1.0.fits, tt)))) h.1
card_fits style (Data (a ∷ b ∷ c ∷ d ∷ e ∷ fs)) h = absurd (let few = h.1 in omega arith)
card_fits style (Head start []) h = head_fits style start [] h.0.fits tt h.2
card_fits style (Head start (a ∷ [])) h = head_fits style start (a ∷ []) h.0.fits (h.1.0.fits, tt) h.2
card_fits style (Head start (a ∷ b ∷ [])) h =
    head_fits style start (a ∷ b ∷ []) h.0.fits (h.1.0.fits, (h.1.1.0.fits, tt)) h.2
card_fits style (Head start (a ∷ b ∷ c ∷ [])) h =
    head_fits style start (a ∷ b ∷ c ∷ []) h.0.fits (h.1.0.fits, (h.1.1.0.fits, (h.1.1.1.0.fits, tt))) h.2
card_fits style (Head start (a ∷ b ∷ c ∷ d ∷ [])) h =
    head_fits style start (a ∷ b ∷ c ∷ d ∷ []) h.0.fits
    (h.1.0.fits, (h.1.1.0.fits, (h.1.1.1.0.fits, (h.1.1.1.1.0.fits, tt)))) h.2
card_fits style (Head start (a ∷ b ∷ c ∷ d ∷ e ∷ fs)) h = absurd (let few = h.2 in omega arith)

-- ---- cards

-- how many bytes the lines of cards may have, by the sorts of the cards
abbrev weights : WrittenCards → ℕ
weights [] = 0
weights (card ∷ cards) = weight card + weights cards

-- the text of short cards takes at most as many bytes as their sorts weigh
cards_fit : (style : Style) (cards : WrittenCards) → All IsShortCard cards →
    length (cards_text style cards) ≤ weights cards
cards_fit style [] h = omega arith
cards_fit style (card ∷ cards) h =
    let a = length-append (line_text style card ++ 10 ∷ []) (cards_text style cards) in
    let c = card_fits style card (h 0 card (omega arith)) in
    let r = cards_fit style cards (λ k d l. h (suc k) d (omega arith)) in
    omega arith

-- cards behind other cards weigh as much as both
weights-append : (xs ys : WrittenCards) → weights (xs ++ ys) ≡ weights xs + weights ys
weights-append [] ys = omega arith
weights-append (x ∷ xs) ys = let r = weights-append xs ys in omega arith

-- where f makes cards that weigh at most a bound, the cards of a list weigh at most the bound for each element
weights-map : {A : Type 0} (f : A → WrittenCard) (bound : ℕ) (xs : List A) → ((x : A) → weight (f x) ≤ bound) →
    weights (map f xs) ≤ bound * length xs
weights-map f bound [] h = omega arith
weights-map f bound (x ∷ xs) h = let a = h x in let r = weights-map f bound xs h in omega arith

-- where f makes lists of cards that weigh at most a bound, those of a list weigh at most it for each element
weights-flat_map : {A : Type 0} (f : A → WrittenCards) (bound : ℕ) (xs : List A) → All (λ x. weights (f x) ≤ bound) xs →
    weights (flat_map f xs) ≤ bound * length xs
weights-flat_map f bound [] h = omega arith
weights-flat_map f bound (x ∷ xs) h =
    let a = weights-append (f x) (flat_map f xs) in
    let c = h 0 x (omega arith) in
    let r = weights-flat_map f bound xs (λ k d l. h (suc k) d (omega arith)) in
    omega arith

-- entries in rows that ascend, from row `low` on and below row n, are at most n less `low`
few_entries : (low n : ℕ) (entries : List (ℕ × ℚ)) → low ≤ n → All (λ e. low ≤ e.0) entries →
    All (λ e. e.0 < n) entries → AllPairs (λ d e. d.0 < e.0) entries → low + length entries ≤ n
few_entries low n [] within from below ascend = omega arith
few_entries low n (e ∷ entries) within from below ascend =
    let f = from 0 e (omega arith) in
    let b = below 0 e (omega arith) in
    let r = few_entries (e.0 + 1) n entries (omega arith)
    (λ k d l. let a = ascend 0 (suc k) d (omega arith) (omega arith) in omega arith)
    (λ k d l. below (suc k) d (omega arith))
    (λ i k d p l. ascend (suc i) (suc k) d (omega arith) (omega arith)) in
    omega arith

-- ---- the cards of a model

-- the cards of a model's sense weigh at most 505
sense_weighs : (sense : Sense) → weights (sense_cards sense) ≤ 505
sense_weighs Min = omega arith
sense_weighs Max = omega arith

-- the cards of a model's rows weigh at most 959, and 454 for each row
rows_weigh : (m : Model) → weights (rows_cards m) ≤ 959 + 454 * length m.rows
unfolding rows_cards
rows_weigh m = let r = weights-map row_card 454 m.rows (λ r. omega arith) in omega arith

-- the cards of a column with entries in n rows at most weigh at most 454, and 454 for each of them
column_weighs : (m : Model) (n : ℕ) (c : ExactColumn) → IsKeptColumn n c → weights (column_cards m c) ≤ 454 + 454 * n
column_weighs m n c k =
    let w = weights-map (λ (e : ℕ × ℚ). number_card c.name (row m e.0).name e.1) 454 c.entries (λ e. omega arith) in
    let f = few_entries 0 n c.entries (omega arith) (λ k d l. omega arith) k.entries.inside k.entries.ascending in
    omega arith

-- the cards of a model's columns weigh at most 505, and for each column 454 and 454 for each row
columns_weigh : (m : Model) → IsModel m →
    weights (columns_cards m) ≤ 505 + (454 + 454 * length m.rows) * length m.columns
unfolding columns_cards
columns_weigh m kept =
    let w = weights-flat_map (column_cards m) (454 + 454 * length m.rows) m.columns
    (λ k d l. column_weighs m (length m.rows) (get_or m.columns k d) (kept.columns k d l)) in
    omega arith

-- the card of one right side weighs at most 454
side_weighs : (name : Name) (v : ℚ) → weights (side_cards name v) ≤ 454
side_weighs name v = by (eq_ℚ v 0ℚ)
  where
    by : (t : Bool) → weights (cond t [] (number_card (codes "RHS") name v ∷ [])) ≤ 454
    by true = omega arith
    by false = omega arith

-- the cards of a model's right sides weigh at most 959, and 454 for each row
sides_weigh : (m : Model) → weights (sides_cards m) ≤ 959 + 454 * length m.rows
unfolding sides_cards
sides_weigh m =
    let s = side_weighs m.objective (neg_ℚ m.offset) in
    let a = weights-append (side_cards m.objective (neg_ℚ m.offset))
    (flat_map (λ (r : ExactRow). side_cards r.name r.rhs) m.rows) in
    let w = weights-flat_map (λ (r : ExactRow). side_cards r.name r.rhs) 454 m.rows
    (λ k d l. side_weighs (get_or m.rows k d).name (get_or m.rows k d).rhs) in
    omega arith

-- the card of one range weighs at most 454
range_weighs : (name : Name) (o : Option ℚ) → weights (range_cards name o) ≤ 454
range_weighs name None = omega arith
range_weighs name (Some v) = omega arith

-- the cards of a model's ranges weigh at most 505, and 454 for each row
ranges_weigh : (m : Model) → weights (ranges_cards m) ≤ 505 + 454 * length m.rows
unfolding ranges_cards
ranges_weigh m = by (list_any has_range m.rows)
  where
    by : (t : Bool) →
        weights (cond t (section_card (codes "RANGES") ∷ flat_map (λ (r : ExactRow). range_cards r.name r.range)
        m.rows) []) ≤ 505 + 454 * length m.rows
    by true =
        let w = weights-flat_map (λ (r : ExactRow). range_cards r.name r.range) 454 m.rows
        (λ k d l. range_weighs (get_or m.rows k d).name (get_or m.rows k d).range) in
        omega arith
    by false = omega arith

-- the cards of one column's bounds weigh at most 908
bound_weighs : (name : Name) (lower upper : Option ℚ) → weights (bound_cards name lower upper) ≤ 908
bound_weighs name None None = omega arith
bound_weighs name None (Some u) = omega arith
bound_weighs name (Some l) None = by (eq_ℚ l 0ℚ)
  where
    by : (t : Bool) → weights (cond t [] (bound_card (codes "LO") name l ∷ [])) ≤ 908
    by true = omega arith
    by false = omega arith
bound_weighs name (Some l) (Some u) = by (eq_ℚ l u) (eq_ℚ l 0ℚ && lt_ℚ 0ℚ u)
  where
    by : (s t : Bool) →
        weights (cond s (bound_card (codes "FX") name l ∷ []) (cond t (bound_card (codes "UP") name u ∷ [])
        (bound_card (codes "LO") name l ∷ bound_card (codes "UP") name u ∷ []))) ≤ 908
    by true t = omega arith
    by false true = omega arith
    by false false = omega arith

-- the cards of a model's bounds weigh at most 505, and 908 for each column
bounds_weigh : (m : Model) → weights (bounds_cards m) ≤ 505 + 908 * length m.columns
unfolding bounds_cards
bounds_weigh m = by (list_any has_bounds m.columns)
  where
    by : (t : Bool) →
        weights (cond t (section_card (codes "BOUNDS") ∷ flat_map (λ (c : ExactColumn). bound_cards c.name c.lower
        c.upper) m.columns) []) ≤ 505 + 908 * length m.columns
    by true =
        let w = weights-flat_map (λ (c : ExactColumn). bound_cards c.name c.lower c.upper) 908 m.columns
        (λ k d l. bound_weighs (get_or m.columns k d).name (get_or m.columns k d).lower
        (get_or m.columns k d).upper) in
        omega arith
    by false = omega arith

-- the columns' cards of the largest usual model weigh at most 59,739,136 without those of the section
most : (rows columns : ℕ) → rows ≤ 256 → columns ≤ 512 → (454 + 454 * rows) * columns ≤ 59739136
most rows columns r c =
    let each : 454 + 454 * rows ≤ 116678 = omega arith in
    mul-le-mul each c

-- the cards of a usual model weigh at most 61,000,000
cards_weigh : (m : Model) → IsUsualModel m → weights (cards_of m) ≤ 61000000
unfolding cards_of
cards_weigh m kept =
    let start : WrittenCards = name_card m.name ∷ sense_cards m.sense in
    let a = weights-append start (rows_cards m) in
    let b = weights-append (start ++ rows_cards m) (columns_cards m) in
    let c = weights-append (start ++ rows_cards m ++ columns_cards m) (sides_cards m) in
    let d = weights-append (start ++ rows_cards m ++ columns_cards m ++ sides_cards m) (ranges_cards m) in
    let e = weights-append (start ++ rows_cards m ++ columns_cards m ++ sides_cards m ++ ranges_cards m)
    (bounds_cards m) in
    let f = weights-append (start ++ rows_cards m ++ columns_cards m ++ sides_cards m ++ ranges_cards m ++ bounds_cards
    m) (section_card (codes "ENDATA") ∷ []) in
    let sense = sense_weighs m.sense in
    let rows = rows_weigh m in
    let columns = columns_weigh m kept.0 in
    let sides = sides_weigh m in
    let ranges = ranges_weigh m in
    let bounds = bounds_weigh m in
    let few_rows = kept.1.few_rows in
    let few_columns = kept.1.few_columns in
    let largest = most (length m.rows) (length m.columns) kept.1.few_rows kept.1.few_columns in
    omega arith

pub model_fits : (style : Style) (m : Model) → IsUsualModel m → length (cards_text style (cards_of m)) ≤ 61000000
model_fits style m kept =
    let w = cards_weigh m kept in
    let f = cards_fit style (cards_of m) (cards_short m kept.0) in
    omega arith
