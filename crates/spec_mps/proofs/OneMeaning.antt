-- A text has one meaning.
use Rattle.std.proofs.Common.{◌≡◌, ◌≢◌, ℕ, suc, ◌<◌, ◌≤◌, Bool, true, false, cond, ltb, eqb, eqb→eq}
use Rattle.std.proofs.Common.{eq-eqb, Option, Some, List, [], ◌∷◌, length, map, refl, sym, ap}
use Rattle.std.proofs.Common.{◌∙◌, subst, subst₂, get_or, arith, All, T, le_refl, codes, inl, inr}
use borrow.Author.Tests.{ltb-true, ltb-false}
use Rattle.std.specs.List.{AllPairs}
use Rattle.std.proofs.lemmas.List.{ext_get_or, length-map}
use Rattle.std.proofs.Math.ListN.{get_or-map}
use Rattle.std.proofs.lemmas.Option.{same_Some}
use Rattle.spec_exact.specs.Fraction.{ℚ, 0ℚ, neg_ℚ}
use Rattle.spec_exact.proofs.Ruleset.{neg-neg}
use Rattle.spec_model.specs.declared.parts.SizeLimits.{SizeLimits}
use Rattle.spec_model.specs.declared.parts.Kind.{Kind}
use Rattle.spec_text.specs.Words.{same}
use Rattle.spec_text.proofs.WordLemmas.{same-refl}
use Rattle.spec_model.specs.declared.parts.Sense.{Sense}
use Rattle.spec_model.specs.declared.parts.Sense.TheVariants.{Min, Max}
use Rattle.spec_model.specs.Model.{Model, Name, ExactRow, ExactColumn, no_row}
use Rattle.spec_model.specs.Model.{no_column, row, column, height, width, entry_of, is_free}
use Rattle.spec_model.specs.Kept.{AreEntries, IsModel}
use Rattle.spec_mps.specs.declared.style.Style.{Style}
use Rattle.spec_mps.specs.Steps.{SpellsWithin}
use Rattle.spec_mps.specs.declared.section.Section.TheVariants as section
use Rattle.spec_mps.proofs.NarrowNumbers.{same_number}
use Rattle.spec_mps.specs.TextCards.{Lines, cards_in}
use Rattle.spec_mps.specs.RowCards.{IsSenseWord, IsSenseOf}
use Rattle.spec_mps.specs.NumberCards.{texts_for, used_pairs, IsTheNumber, IsTheRange, IsRangeIf, IsTheRangeOf}
use Rattle.spec_mps.specs.ColumnCards.{pairs_of_column}
use Rattle.spec_mps.specs.BoundCards.{bounds_of_column, lower_of, upper_of}
use Rattle.spec_mps.specs.Meaning.{Means}
use Rattle.spec_mps.proofs.Order.{not_both}
use Rattle.spec_mps.proofs.TitlesKept.{name_said, sense_said}
use Rattle.spec_mps.proofs.RowsKept.{rows_said, objective_said}
use Rattle.spec_mps.proofs.ColumnsSaid.{columns_named, coefficient_said, cost_said}
use Rattle.spec_mps.proofs.SidesKept.{right_side_said, offset_said}
use Rattle.spec_mps.proofs.RangesKept.{range_by_kind}
use Rattle.spec_mps.proofs.BoundsSaid.{bounds_said}

-- a text means the model that it spells, whatever the limits of size are
pub spelled_means : (limits : SizeLimits) (style : Style) (lines : Lines) (m : Model) →
    SpellsWithin limits style lines m → Means style lines m
spelled_means limits style lines m h =
    record {
      name = name_said limits style lines m h;
      sense = sense_said limits style lines m h;
      objective = objective_said limits style lines m h;
      rows = sym (rows_said limits style lines m h);
      columns = columns_named limits style lines m h;
      coefficients = coefficient_said limits style lines m h;
      costs = cost_said limits style lines m h;
      right_sides = right_side_said limits style lines m h;
      offset = offset_said limits style lines m h;
      ranges = range_by_kind limits style lines m h;
      lower = λ j l. (bounds_said limits style lines m h j l).0;
      upper = λ j l. (bounds_said limits style lines m h j l).1;
    }

-- ---- one number, one range, one sense

-- two numbers that the same texts give are equal
one_number : (texts : List (List ℕ)) (p q : ℚ) → IsTheNumber texts p → IsTheNumber texts q → p ≡ q
one_number [] p q h k = h ∙ sym k
one_number (text ∷ []) p q h k = same_number p q (sym h ∙ k)
one_number (text ∷ other ∷ more) p q h k = absurd h

-- two ranges that the same texts give are equal
one_range : (texts : List (List ℕ)) (p q : Option ℚ) → IsTheRange texts p → IsTheRange texts q → p ≡ q
one_range [] p q h k = h ∙ sym k
one_range (text ∷ []) p q h k = h.1 ∙ ap (λ x. Some x) (same_number h.0 k.0 (sym h.2 ∙ k.2)) ∙ sym k.1
one_range (text ∷ other ∷ more) p q h k = absurd h

-- no word is each of two words that differ by the test
words_differ : (word a b : List ℕ) → same a b ≡ false → word ≡ a → word ≡ b → ⊥
words_differ word a b n h k = not_both (same a b) (ap (same a) (sym (sym h ∙ k)) ∙ same-refl a) n

-- no word says both MIN and MAX
not_max : (word : List ℕ) → IsSenseWord Min word → IsSenseWord Max word → ⊥
not_max word (inl h) (inl k) = words_differ word (codes "MIN") (codes "MAX") refl h k
not_max word (inl h) (inr k) = words_differ word (codes "MIN") (codes "MAXIMIZE") refl h k
not_max word (inr h) (inl k) = words_differ word (codes "MINIMIZE") (codes "MAX") refl h k
not_max word (inr h) (inr k) = words_differ word (codes "MINIMIZE") (codes "MAXIMIZE") refl h k

-- two senses that one word says are the same
one_word : (s t : Sense) (word : List ℕ) → IsSenseWord s word → IsSenseWord t word → s ≡ t
one_word Min Min word h k = refl
one_word Min Max word h k = absurd (not_max word h k)
one_word Max Min word h k = absurd (not_max word k h)
one_word Max Max word h k = refl

-- two senses that the same words say are the same
one_sense : (words : List (List ℕ)) (s t : Sense) → IsSenseOf words s → IsSenseOf words t → s ≡ t
one_sense [] s t h k = h ∙ sym k
one_sense (word ∷ []) s t h k = one_word s t word h k
one_sense (word ∷ other ∷ more) s t h k = absurd h

-- two ranges that the same texts give to a row of one kind are equal
one_range_of : (kind : Kind) (texts : List (List ℕ)) (p q : Option ℚ) → IsTheRangeOf kind texts p →
    IsTheRangeOf kind texts q → p ≡ q
one_range_of kind texts p q h k = by (is_free kind) h k
  where
    by : (b : Bool) → IsRangeIf b texts p → IsRangeIf b texts q → p ≡ q
    by true h k = h ∙ sym k
    by false h k = one_range texts p q h k

-- ---- entries

-- entries of rows below n and not below low, each above the one before, and none 0
abbrev Rise : ℕ → ℕ → List (ℕ × ℚ) → Type 0
Rise n low [] = Unit {0}
Rise n low (e ∷ es) = (low ≤ e.0) × (e.0 < n) × (e.1 ≢ 0ℚ) × Rise n (suc e.0) es

-- entries that ascend, from row low on and below n, none of them 0, rise from low
rise_from : (n low : ℕ) (es : List (ℕ × ℚ)) → All (λ e. low ≤ e.0) es → All (λ e. e.0 < n) es →
    AllPairs (λ d e. d.0 < e.0) es → All (λ e. e.1 ≢ 0ℚ) es → Rise n low es
rise_from n low [] above inside ascending not_zero = tt
rise_from n low (e ∷ es) above inside ascending not_zero = (
  above 0 e (omega arith),
  inside 0 e (omega arith),
  not_zero 0 e (omega arith),
  rise_from n (suc e.0) es (λ i d l. ascending 0 (suc i) d (omega arith) (omega arith))
      (λ i d l. inside (suc i) d (omega arith))
      (λ i j d l k. ascending (suc i) (suc j) d (omega arith) (omega arith))
      (λ i d l. not_zero (suc i) d (omega arith)),
)

-- entries in order over n rows rise from 0
entries_rise : (n : ℕ) (es : List (ℕ × ℚ)) → AreEntries n es → Rise n 0 es
entries_rise n es h = rise_from n 0 es (λ i d l. omega arith) h.inside h.ascending h.not_zero

-- nothing stands below the first entry
none_below : (n low i : ℕ) (es : List (ℕ × ℚ)) → i < low → Rise n low es → entry_of es i ≡ 0ℚ
none_below n low i [] l h = refl
none_below n low i (e ∷ es) l h = by (eqb e.0 i) refl h.0 (λ k. none_below n (suc e.0) i es k h.3)
  where
    by : (b : Bool) → eqb e.0 i ≡ b → low ≤ e.0 → (i < suc e.0 → entry_of es i ≡ 0ℚ) → cond b e.1 (entry_of es i) ≡ 0ℚ
    by true f k g = let same : e.0 ≡ i = eqb→eq e.0 i (subst T (sym f) tt) in absurd (omega arith)
    by false f k g = g (omega arith)

-- the coefficient in the first entry's row is the first entry's number
first_here : (e : ℕ × ℚ) (es : List (ℕ × ℚ)) → entry_of (e ∷ es) e.0 ≡ e.1
first_here e es = ap (λ b. cond b e.1 (entry_of es e.0)) (eq-eqb e.0 e.0 refl)

-- the coefficient in a row other than the first entry's is that of the entries behind it
first_there : (e : ℕ × ℚ) (es : List (ℕ × ℚ)) (i : ℕ) → eqb e.0 i ≡ false → entry_of (e ∷ es) i ≡ entry_of es i
first_there e es i h = ap (λ b. cond b e.1 (entry_of es i)) h

-- two lists of entries that rise and have the same coefficient in each row are the same
one_list : (n low : ℕ) (es ds : List (ℕ × ℚ)) → Rise n low es → Rise n low ds →
    ((i : ℕ) → i < n → entry_of es i ≡ entry_of ds i) → es ≡ ds
one_list n low [] [] h k same = refl
one_list n low [] (d ∷ ds) h k same = absurd (k.2 (sym (first_here d ds) ∙ sym (same d.0 k.1)))
one_list n low (e ∷ es) [] h k same = absurd (h.2 (sym (first_here e es) ∙ same e.0 h.1))
one_list n low (e ∷ es) (d ∷ ds) h k same = by (ltb e.0 d.0) refl (ltb d.0 e.0) refl (λ m r s. one_list n m es ds r s)
  where
    -- where one begins below the other, that has 0 there
    lower_left : e.0 < d.0 → ⊥
    lower_left l =
        h.2 (sym (first_here e es) ∙ same e.0 h.1 ∙ none_below n d.0 e.0 (d ∷ ds) l (le_refl d.0, k.1, k.2, k.3))

    lower_right : d.0 < e.0 → ⊥
    lower_right l =
        k.2 (sym (first_here d ds) ∙ sym (same d.0 k.1) ∙ none_below n e.0 d.0 (e ∷ es) l (le_refl e.0, h.1, h.2, h.3))

    level : e.0 ≡ d.0 →
        ((m : ℕ) → Rise n m es → Rise n m ds → ((i : ℕ) → i < n → entry_of es i ≡ entry_of ds i) → es ≡ ds) →
        e ∷ es ≡ d ∷ ds
    level p f =
        let value : e.1 ≡ d.1 = sym (first_here e es) ∙ same e.0 h.1 ∙ ap (entry_of (d ∷ ds)) p ∙ first_here d ds in
        let behind : Rise n (suc e.0) ds = subst (λ x. Rise n (suc x) ds) (sym p) k.3 in
        let tails : es ≡ ds = f (suc e.0) h.3 behind (λ i l. by_place i l (eqb e.0 i) refl p behind) in
        λ i. (p i, value i) ∷ tails i
      where
        by_place : (i : ℕ) → i < n → (b : Bool) → eqb e.0 i ≡ b → e.0 ≡ d.0 → Rise n (suc e.0) ds →
            entry_of es i ≡ entry_of ds i
        by_place i l true f p behind =
            let here : e.0 ≡ i = eqb→eq e.0 i (subst T (sym f) tt) in
            let less : i < suc e.0 = omega arith in
            none_below n (suc e.0) i es less h.3 ∙ sym (none_below n (suc e.0) i ds less behind)
        by_place i l false f p behind =
            sym (first_there e es i f) ∙ same i l ∙ first_there d ds i (ap (λ x. eqb x i) (sym p) ∙ f)

    by : (a : Bool) → ltb e.0 d.0 ≡ a → (b : Bool) → ltb d.0 e.0 ≡ b →
        ((m : ℕ) → Rise n m es → Rise n m ds → ((i : ℕ) → i < n → entry_of es i ≡ entry_of ds i) → es ≡ ds) →
        e ∷ es ≡ d ∷ ds
    by true x b y f = absurd (lower_left (ltb-true e.0 d.0 x))
    by false x true y f = absurd (lower_right (ltb-true d.0 e.0 y))
    by false x false y f =
        let le : d.0 ≤ e.0 = ltb-false e.0 d.0 x in
        let ge : e.0 ≤ d.0 = ltb-false d.0 e.0 y in
        level (omega arith) f

-- two lists of entries in order that have the same coefficient in each row are the same
one_entries : (n : ℕ) (es ds : List (ℕ × ℚ)) → AreEntries n es → AreEntries n ds →
    ((i : ℕ) → i < n → entry_of es i ≡ entry_of ds i) → es ≡ ds
one_entries n es ds h k same = one_list n 0 es ds (entries_rise n es h) (entries_rise n ds k) same

-- ---- rows and columns

module _ (style : Style) (lines : Lines) (m o : Model) (h : Means style lines m) (k : Means style lines o) where
  objectives : m.objective ≡ o.objective
  objectives = same_Some m.objective o.objective (sym h.objective ∙ k.objective)

  labels_same : map (λ (r : ExactRow). (let x : Kind × Name = (r.kind, r.name) in x)) m.rows
      ≡ map (λ (r : ExactRow). (let x : Kind × Name = (r.kind, r.name) in x)) o.rows
  labels_same = h.rows ∙ sym k.rows

  heights : height m ≡ height o
  heights =
      sym (length-map m.rows (λ (r : ExactRow). (let x : Kind × Name = (r.kind, r.name) in x)))
      ∙ ap length labels_same ∙ length-map o.rows (λ (r : ExactRow). (let x : Kind × Name = (r.kind, r.name) in x))

  label_at : (i : ℕ) → (let x : Kind × Name = ((row m i).kind, (row m i).name) in x) ≡ ((row o i).kind, (row o i).name)
  label_at i =
      sym (get_or-map (λ (r : ExactRow). (let x : Kind × Name = (r.kind, r.name) in x)) m.rows i no_row)
      ∙ ap (λ xs. get_or xs i (no_row.kind, no_row.name)) labels_same
      ∙ get_or-map (λ (r : ExactRow). (let x : Kind × Name = (r.kind, r.name) in x)) o.rows i no_row

  row_at : (i : ℕ) → i < height m → row m i ≡ row o i
  row_at i l =
      let l' : i < height o = omega (arith, heights) in
      let name : (row m i).name ≡ (row o i).name = ap (λ (x : Kind × Name). x.1) (label_at i) in
      let rhs =
      one_number _ (row m i).rhs (row o i).rhs (h.right_sides i l)
      (subst (λ n. IsTheNumber (texts_for n (used_pairs (cards_in style section.RightSides lines))) (row o i).rhs)
      (sym name) (k.right_sides i l')) in
      let range =
      one_range_of (row m i).kind _ (row m i).range (row o i).range (h.ranges i l)
      (subst (λ (x : Kind × Name).
      IsTheRangeOf x.0 (texts_for x.1 (used_pairs (cards_in style section.Ranges lines))) (row o i).range)
      (sym (label_at i)) (k.ranges i l')) in
      λ j. record { name = name j; kind = (label_at i j).0; rhs = rhs j; range = range j }

  rows_same : m.rows ≡ o.rows
  rows_same = ext_get_or no_row m.rows o.rows heights row_at

  names_same : map (λ (c : ExactColumn). c.name) m.columns ≡ map (λ (c : ExactColumn). c.name) o.columns
  names_same = h.columns ∙ sym k.columns

  widths : width m ≡ width o
  widths =
      sym (length-map m.columns (λ (c : ExactColumn). c.name))
      ∙ ap length names_same ∙ length-map o.columns (λ (c : ExactColumn). c.name)

  name_at : (j : ℕ) → (column m j).name ≡ (column o j).name
  name_at j =
      sym (get_or-map (λ (c : ExactColumn). c.name) m.columns j no_column)
      ∙ ap (λ xs. get_or xs j []) names_same
      ∙ get_or-map (λ (c : ExactColumn). c.name) o.columns j no_column

  entries_at : IsModel m → IsModel o → (j : ℕ) → j < width m → (column m j).entries ≡ (column o j).entries
  entries_at a b j l =
      let l' : j < width o = omega (arith, widths) in
      one_entries (height m) (column m j).entries (column o j).entries (a.columns j no_column l).entries
      (subst (λ n. AreEntries n (column o j).entries) (sym heights) (b.columns j no_column l').entries)
      (λ i g.
      let g' : i < height o = omega (arith, heights) in
      one_number _ (entry_of (column m j).entries i) (entry_of (column o j).entries i) (h.coefficients i j g l)
      (subst₂ (λ r c. IsTheNumber (texts_for r (pairs_of_column c (cards_in style section.Columns lines)))
      (entry_of (column o j).entries i)) (sym (ap (λ (x : ExactRow). x.name) (row_at i g)))
      (sym (name_at j)) (k.coefficients i j g' l')))

  column_at : IsModel m → IsModel o → (j : ℕ) → j < width m → column m j ≡ column o j
  column_at a b j l =
      let l' : j < width o = omega (arith, widths) in
      let cost =
      one_number _ (column m j).cost (column o j).cost (h.costs j l) (subst₂
      (λ r c. IsTheNumber (texts_for r (pairs_of_column c (cards_in style section.Columns lines))) (column o j).cost)
      (sym objectives) (sym (name_at j)) (k.costs j l')) in
      let lower =
      h.lower j l
      ∙ ap (λ n. lower_of style (bounds_of_column style n (cards_in style section.Bounds lines))) (name_at j)
      ∙ sym (k.lower j l') in
      let upper =
      h.upper j l
      ∙ ap (λ n. upper_of style (bounds_of_column style n (cards_in style section.Bounds lines))) (name_at j)
      ∙ sym (k.upper j l') in
      let entries = entries_at a b j l in
      λ i. record { name = name_at j i; cost = cost i; lower = lower i; upper = upper i; entries = entries i }

  -- two models that may be kept, and that one text means, are the same
  pub one_meaning : IsModel m → IsModel o → m ≡ o
  one_meaning a b =
      let offset =
      sym (neg-neg m.offset) ∙ ap neg_ℚ (one_number _ (neg_ℚ m.offset) (neg_ℚ o.offset) h.offset
      (subst (λ n. IsTheNumber (texts_for n (used_pairs (cards_in style section.RightSides lines))) (neg_ℚ o.offset))
      (sym objectives) k.offset)) ∙ neg-neg o.offset in
      let columns = ext_get_or no_column m.columns o.columns widths (column_at a b) in
      let name = h.name ∙ sym k.name in
      let sense = one_sense _ m.sense o.sense h.sense k.sense in
      λ i. record {
        name = name i;
        sense = sense i;
        objective = objectives i;
        offset = offset i;
        rows = rows_same i;
        columns = columns i;
      }
