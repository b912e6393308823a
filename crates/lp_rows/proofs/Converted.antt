-- Fractions as whole numbers on a denominator, and the rows that are made of them.
--
-- `whole_gives`: a whole number that was converted, if it is within the width, has the value that it was made of.
-- `number_gives`: a natural number that was converted, if it is within the width, has the value that it was made of.
-- `if_some`: where P implies Q, an optional item that has P, if it is there, has Q.
-- `on_denominator`: the numerator of f times q, over q times the denominator of f, is f.
-- `fractions_map`: the fractions of a list of numbers on d are each number over d.
-- `row_with`: the numbers of a list of fractions, with a last one behind, are the row of that list and that last
--   value.
-- `row_of_is`: where a row's numbers are those of a list on the row's denominator, and the last one on d times that, the
--   row is that of the list and that last value.
-- `row_at-before`: a row that is pushed leaves the fractions of the rows before as they were.
-- `row_at-seam`: the fractions of a row that is pushed are found in the last row.
-- `rows_more`: the rows of the first i positions, with that of position i pushed, are those of the first i + 1.
use Rattle.std.proofs.Common.{◌≡◌, ℕ, zero, suc, ◌+◌, ◌*◌, ◌<◌, ℤ, pos, ◌*ℤ◌, List, [], ◌∷◌, ◌++◌, length, map}
use Rattle.std.proofs.Common.{get_or, Option, Some, None, option_map, refl, sym, ap, ap₂, subst, ◌∙◌, arith}
use Rattle.std.specs.Prelude.{IfSome}
use Rattle.std.proofs.Math.ListN.{get_or-append}
use Rattle.std.proofs.Math.Seq.{get_or-append_seam}
use Rattle.std.proofs.lemmas.List.{length-append}
use Rattle.std.proofs.lemmas.List.Elements.{All-push}
use Rattle.spec_exact.specs.Fraction.{ℚ, 0ℚ, over}
use Rattle.spec_exact.specs.Run.{made}
use Rattle.spec_exact.proofs.Ring.{◌⊗◌, v0, v1, v2}
use Rattle.spec_exact.proofs.WholeRing.{by_ring}
use Rattle.spec_exact.proofs.Fraction.{over-same, over-parts}
use Rattle.spec_exact.proofs.RunsInOrder.{length-made, get_or-made}
use Rattle.spec_pivot.proofs.Pivot.{by_eq}
use Rattle.spec_simplex.specs.Tableau.{Tableau, form_columns, entry_at, basic_at, value_at}
use Rattle.lp_natural.specs.Below.{below}
use Rattle.lp_natural.specs.Whole.{size_below}
use Rattle.lp_rows.proofs.Cleared.{below_gives}
use Rattle.lp_natural.specs.declared.words.signed.Signed.{Signed}
use Rattle.lp_rows.specs.declared.fractions.Row.{Row}
use Rattle.lp_rows.specs.Row.{fractions, fraction_at}
use Rattle.lp_rows.specs.Shows.{IsRow, row_at}
use Rattle.lp_rows.specs.Held.{IsRowOf, IsRowWith, AreRowsOf, whole_of}

pub whole_gives : {T : Type 0} (value : T → ℕ) (base : ℕ) (n m : ℤ) (o : Option (Signed T)) → m ≡ n →
    option_map (whole_of value) o ≡ size_below base m → IfSome o (λ x. whole_of value x ≡ n)
whole_gives value base n m None h e = tt
whole_gives value base n m (Some x) h e = gives (whole_of value x) base m e ∙ h
  where
    gives : (x : ℤ) (base : ℕ) (m : ℤ) → Some x ≡ size_below base m → x ≡ m
    gives x base m e = grind (arith, e)

pub number_gives : {T : Type 0} (value : T → ℕ) (base n m : ℕ) (o : Option T) → m ≡ n →
    option_map value o ≡ below base m → IfSome o (λ x. value x ≡ n)
number_gives value base n m None h e = tt
number_gives value base n m (Some x) h e = below_gives value base m x e ∙ h

pub if_some : {A : Type 0} (P Q : A → Type 0) (o : Option A) → ((a : A) → P a → Q a) → IfSome o P → IfSome o Q
if_some P Q (Some a) f h = f a h
if_some P Q None f h = tt

-- the numerator, as often as the denominator d has the fraction's own one
pub on_denominator : (f : ℚ) (n p : ℤ) (q d m : ℕ) → 0 < m → n ≡ f.num → d ≡ f.den → q * d ≡ m → p ≡ n *ℤ pos q →
    over p m ≡ f
on_denominator f n p q d m z a b e h =
    over-same p f.num m f.den z f.positive
    (ap (λ x. x *ℤ pos f.den) (h ∙ ap (λ x. x *ℤ pos q) a)
    ∙ by_ring (f.num ∷ pos q ∷ pos f.den ∷ []) (v0 ⊗ v1 ⊗ v2) (v0 ⊗ (v1 ⊗ v2)) refl
    ∙ ap (λ (x : ℕ). f.num *ℤ pos x) (ap (λ x. q * x) (sym b) ∙ e))
    ∙ over-parts f

-- ---- lists of numbers
pub fractions_map : {T : Type 0} (value : T → ℕ) (xs : List (Signed T)) (d : ℕ) →
    fractions value xs d ≡ map (λ n. over (whole_of value n) d) xs
unfolding fractions
fractions_map value [] d = refl
fractions_map value (x ∷ xs) d = ap (λ ys. over (whole_of value x) d ∷ ys) (fractions_map value xs d)

-- a list of numbers on a denominator has as many fractions as numbers
length-fractions : {T : Type 0} (value : T → ℕ) (xs : List (Signed T)) (d : ℕ) →
    length (fractions value xs d) ≡ length xs
unfolding fractions
length-fractions value [] d = refl
length-fractions value (x ∷ xs) d = omega (arith, length-fractions value xs d)

-- the fractions of a list with a number pushed are those of the list, and then the number's
fractions_more : {T : Type 0} (value : T → ℕ) (xs : List (Signed T)) (x : Signed T) (d : ℕ) →
    fractions value (xs ++ x ∷ []) d ≡ fractions value xs d ++ over (whole_of value x) d ∷ []
unfolding fractions
fractions_more value [] x d = refl
fractions_more value (y ∷ xs) x d = ap (λ ys. over (whole_of value y) d ∷ ys) (fractions_more value xs x d)

pub row_with : {T : Type 0} (value : T → ℕ) (list : List ℚ) (xs now : List (Signed T)) (x : Signed T) (last : ℚ)
    (own both : ℕ) → fractions value xs own ≡ list → over (whole_of value x) both ≡ last → now ≡ xs ++ x ∷ [] →
    IsRowWith value list last own both now
row_with value list xs now x last own both e h n =
    let l : length list ≡ length xs = sym (ap length e) ∙ length-fractions value xs own in
    subst (λ ys. IsRowWith value list last own both ys) (sym n) (record {
      len = omega (arith, length-append xs (x ∷ []), l);
      entries = λ k below.
          ap (λ ys. get_or ys k 0ℚ) (fractions_more value xs x own)
          ∙ get_or-append (fractions value xs own) (over (whole_of value x) own ∷ []) 0ℚ k
          (omega (arith, below, length-fractions value xs own, l))
          ∙ ap (λ ys. get_or ys k 0ℚ) e;
      value_last =
          ap₂ (λ ys k. get_or ys k 0ℚ) (fractions_more value xs x both) (l ∙ sym (length-fractions value xs both))
          ∙ get_or-append_seam (fractions value xs both) (over (whole_of value x) both) [] 0ℚ ∙ h;
    })

pub row_of_is : {T : Type 0} (value : T → ℕ) (list : List ℚ) (last : ℚ) (d both : ℕ) (own : T) (row : Row T) →
    both ≡ d * value own → 0 < value own →
    (row.denominator ≡ own) × IsRowWith value list last (value own) both row.numbers.items →
    IsRowOf value list last d row
row_of_is value list last d both own row e p h =
    let own_is : value row.denominator ≡ value own = ap value h.0 in
    record {
      is_row = record { numbers = h.1.len; positive = subst (λ n. 0 < n) (sym own_is) p };
      entries = λ k l. ap (λ n. fraction_at value row.numbers.items n k) own_is ∙ h.1.entries k l;
      value_last =
          ap (λ n. fraction_at value row.numbers.items (d * n) (length list)) own_is
          ∙ ap (λ n. fraction_at value row.numbers.items n (length list)) (sym e)
          ∙ h.1.value_last;
    }

-- ---- rows of a tableau
pub row_at-before : {T : Type 0} (value : T → ℕ) (d : ℕ) (rows : List (Row T)) (row : Row T) (i k : ℕ) → i < length rows →
    row_at value d (rows ++ row ∷ []) i k ≡ row_at value d rows i k
row_at-before value d [] row i k h = absurd (omega arith)
row_at-before value d (r ∷ rows) row zero k h = refl
row_at-before value d (r ∷ rows) row (suc i) k h = row_at-before value d rows row i k (omega (arith, h))

pub row_at-seam : {T : Type 0} (value : T → ℕ) (d : ℕ) (rows : List (Row T)) (row : Row T) (i k : ℕ) → i ≡ length rows →
    row_at value d (rows ++ row ∷ []) i k ≡ fraction_at value row.numbers.items (d * value row.denominator) k
row_at-seam value d [] row zero k h = refl
row_at-seam value d [] row (suc i) k h = absurd (omega (arith, h))
row_at-seam value d (r ∷ rows) row zero k h = absurd (omega (arith, h))
row_at-seam value d (r ∷ rows) row (suc i) k h = row_at-seam value d rows row i k (omega (arith, h))

pub rows_more : {T : Type 0} (value : T → ℕ) (t : Tableau) (d i : ℕ) (rows now : List (Row T)) (row : Row T) →
    AreRowsOf value t d i rows →
    IsRowOf value (made (form_columns t) (entry_at t i)) (value_at t (basic_at t i)) d row →
    now ≡ rows ++ row ∷ [] → AreRowsOf value t d (i + 1) now
rows_more value t d i rows now row so_far is n =
    let all : length (made (form_columns t) (entry_at t i)) ≡ form_columns t = length-made (form_columns t)
    (entry_at t i) in
    subst (λ ys. AreRowsOf value t d (i + 1) ys) (sym n) (record {
      len = omega (arith, length-append rows (row ∷ []), so_far.len);
      each = All-push (IsRow value (form_columns t)) rows row so_far.each
          (subst (λ m. IsRow value m row) all is.is_row);
      entries = λ j k l below.
          by_eq j i
          (λ e. row_at-seam value 1 rows row j k (e ∙ sym so_far.len)
          ∙ (let one : 1 * value row.denominator ≡ value row.denominator = omega arith in
          ap (λ m. fraction_at value row.numbers.items m k) one)
          ∙ is.entries k (omega (arith, below, all))
          ∙ get_or-made (form_columns t) (entry_at t i) k 0ℚ below
          ∙ ap (λ j. entry_at t j k) (sym e))
          (λ e. row_at-before value 1 rows row j k (omega (arith, l, e, so_far.len))
          ∙ so_far.entries j k (omega (arith, l, e)) below);
      values = λ j l.
          by_eq j i
          (λ e. row_at-seam value d rows row j (form_columns t) (e ∙ sym so_far.len)
          ∙ ap (λ m. fraction_at value row.numbers.items (d * value row.denominator) m) (sym all) ∙ is.value_last
          ∙ ap (λ j. value_at t (basic_at t j)) (sym e))
          (λ e. row_at-before value d rows row j (form_columns t) (omega (arith, l, e, so_far.len))
          ∙ so_far.values j (omega (arith, l, e)));
    })

-- end of Converted
