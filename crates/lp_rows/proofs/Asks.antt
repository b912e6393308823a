-- Rows and numbers that are read of a tableau of integer rows, and tests of 0.
--
-- `row-at`: the fraction of row i in column k is that of the row which was read at i.
-- `row-is`: a row that was read of a whole tableau of rows has a number of each column, and a denominator above 0.
-- `zero-over`: the test whether a magnitude is 0 tells whether the number over a positive denominator is 0.
-- `at-zero`: the test whether a position's last number is 0 tells whether the basic column's value is 0.
-- `some_artificial`: an artificial column is basic in the rows just where one is in the tableau that they show.
-- `not_yet`: where neither the first i basic columns nor that of position i is an artificial other than 0, none of the
--   first i + 1 is.
-- `none_wanting`: where none of the first i basic columns is an artificial other than 0, and i is at least the number
--   of rows, the tableau is not stuck after phase one.
use Rattle.std.proofs.Common.{◌≡◌, ◌↔◌, ℕ, zero, suc, ◌+◌, ◌*◌, ◌<◌, ◌≤◌, nat_le, List, [], ◌∷◌, length, get_or}
use Rattle.std.proofs.Common.{Bool, true, false, not, ◌&&◌, ◌||◌, IsTrue, ℤ, pos, ◌*ℤ◌, unsigned_abs, refl}
use Rattle.std.proofs.Common.{sym, ap, ap₂, subst, ◌∙◌, arith}
use Rattle.std.specs.List.{list_any}
use Rattle.std.proofs.Math.ListN.{take}
use Rattle.std.proofs.lemmas.List.Folds.{list_any_more}
use Rattle.spec_simplex.specs.Phases.{is_stuck}
use Rattle.std.proofs.lemmas.Int.{ints}
use Rattle.std.proofs.Math.Nat.{mul-pos}
use Rattle.std.proofs.lemmas.List.{take_all}
use Rattle.std.proofs.lemmas.List.Elements.{All-get_or}
use Rattle.spec_exact.specs.Fraction.{ℚ, 0ℚ, eq_ℚ, over, whole as whole_ℚ}
use Rattle.spec_exact.proofs.Ring.{◌⊗◌, lit, v0}
use Rattle.spec_exact.proofs.WholeRing.{by_ring}
use Rattle.spec_exact.proofs.Fraction.{over_cross, over-same}
use Rattle.spec_exact.proofs.Field.{whole_over}
use Rattle.spec_exact.proofs.Same.{same_is}
use Rattle.spec_simplex.specs.Tableau.{Tableau, is_artificial, basic_at, value_at}
use Rattle.lp_natural.specs.Whole.{whole}
use Rattle.lp_natural.specs.declared.words.signed.Signed.{Signed}
use Rattle.lp_rows.specs.declared.fractions.Row.{Row}
use Rattle.lp_rows.specs.Row.{fraction_at}
use Rattle.lp_rows.proofs.Done.{item-at}
use Rattle.lp_rows.proofs.Cleared.{fraction-at}
use Rattle.lp_rows.proofs.TakenMultiples.{whole_none}
use Rattle.lp_rows.specs.declared.tableau.tableau.RowTableau.{RowTableau}
use Rattle.lp_rows.specs.Shows.{IsRow, IsWhole, Shows, row_at, width, height}

pub row-at : {T : Type 0} (value : T → ℕ) (d : ℕ) (rows : List (Row T)) (i k : ℕ) (row : Row T) → i < length rows →
    row ≡ get_or rows i row →
    row_at value d rows i k ≡ fraction_at value row.numbers.items (d * value row.denominator) k
row-at value d [] i k row h e = absurd (omega arith)
row-at {T} value d (r ∷ rows) zero k row h e =
    ap (λ (z : Row T). fraction_at value z.numbers.items (d * value z.denominator) k) (sym e)
row-at value d (r ∷ rows) (suc i) k row h e = row-at value d rows i k row (omega (arith, h)) e

-- a row of the tableau
pub row-is : {T : Type 0} (value : T → ℕ) (r : RowTableau T) (i : ℕ) (row : Row T) → IsWhole value r → i < height r →
    row ≡ get_or r.rows.items i row → IsRow value (width r) row
row-is value r i row w h e =
    subst (IsRow value (width r)) (sym e) (All-get_or (IsRow value (width r)) r.rows.items i row h w.each_row)

-- ---- tests of 0

-- a whole number that is 0 has the magnitude 0
whole-none : (negative : Bool) (s : ℕ) → whole negative s ≡ pos 0 → s ≡ 0
whole-none true s e = omega (arith, ap unsigned_abs e, ints)
whole-none false s e = omega (arith, ap unsigned_abs e)

-- where n over a positive denominator is 0, n is 0
over-none : (n : ℤ) (d : ℕ) → 0 < d → over n d ≡ 0ℚ → n ≡ pos 0
unfolding whole_ℚ
over-none n d p e =
    by_ring (n ∷ []) v0 (v0 ⊗ lit (pos 1)) refl
    ∙ subst (λ (x : ℚ). n *ℤ pos x.den ≡ x.num *ℤ pos d) e (over_cross n d p)
    ∙ by_ring (pos d ∷ []) (lit (pos 0) ⊗ v0) (lit (pos 0)) refl

-- 0 over a positive denominator is 0
none-over : (n : ℤ) (d : ℕ) → 0 < d → n ≡ pos 0 → over n d ≡ 0ℚ
none-over n d p e =
    over-same n (pos 0) d 1 p (omega arith)
    (ap (λ z. z *ℤ pos 1) e ∙ by_ring (pos d ∷ []) (lit (pos 0) ⊗ lit (pos 1)) (lit (pos 0) ⊗ v0) refl)
    ∙ sym (whole_over (pos 0))

pub zero-over : (b negative : Bool) (s d : ℕ) → 0 < d → IsTrue b ↔ (s ≡ 0) → b ≡ eq_ℚ (over (whole negative s) d) 0ℚ
zero-over b negative s d p h =
    same_is (over (whole negative s) d) 0ℚ b (
      λ t. none-over (whole negative s) d p (whole_none negative s (h.0 t)),
      λ e. h.1 (whole-none negative s (over-none (whole negative s) d p e)),
    )

-- the last number of a position's row
pub at-zero : {T : Type 0} (value : T → ℕ) (r : RowTableau T) (i : ℕ) (row : Row T) (n : Signed T) (b : Bool) →
    IsWhole value r → i < height r → row ≡ get_or r.rows.items i row → n ≡ get_or row.numbers.items (width r) n →
    IsTrue b ↔ (value n.size ≡ 0) → b ≡ eq_ℚ (row_at value (value r.denominator) r.rows.items i (width r)) 0ℚ
at-zero value r i row n b w h e f z =
    let is = row-is value r i row w h e in
    let l : width r < length row.numbers.items = omega (arith, is.numbers) in
    zero-over b n.negative (value n.size) (value r.denominator * value row.denominator)
    (mul-pos w.positive is.positive) z
    ∙ ap (λ x. eq_ℚ x 0ℚ)
    (sym (row-at value (value r.denominator) r.rows.items i (width r) row h e
    ∙ fraction-at value row.numbers.items (value r.denominator * value row.denominator) (width r) l
    ∙ ap (λ x. over x (value r.denominator * value row.denominator)) (item-at value row.numbers.items (width r) n l f)))

-- ---- artificial columns
pub some_artificial : {T : Type 0} (value : T → ℕ) (r : RowTableau T) (t : Tableau) → Shows value r t →
    list_any (λ k. nat_le (width r) k) r.basic.items ≡ list_any (λ k. is_artificial t k) t.basic
some_artificial value r t s =
    ap₂ (λ n (ks : List ℕ). list_any (λ k. nat_le n k) ks) (ap₂ (λ a b. a + b) s.cols s.rows) s.basic

abbrev wanting : Tableau → ℕ → Bool
wanting t k = is_artificial t k && not (eq_ℚ (value_at t k) 0ℚ)

-- as many basic columns as rows
positions : {T : Type 0} (value : T → ℕ) (r : RowTableau T) (t : Tableau) → Shows value r t → IsWhole value r →
    length t.basic ≡ height r
positions value r t s w = sym (ap (λ (ks : List ℕ). length ks) s.basic) ∙ w.all_basic

pub not_yet : {T : Type 0} (value : T → ℕ) (r : RowTableau T) (t : Tableau) (i : ℕ) → Shows value r t →
    IsWhole value r → i < height r → list_any (wanting t) (take i t.basic) ≡ false →
    false ≡ wanting t (basic_at t i) → list_any (wanting t) (take (i + 1) t.basic) ≡ false
not_yet value r t i s w l h e =
    list_any_more (wanting t) t.basic i 0 (omega (arith, l, positions value r t s w))
    ∙ ap₂ (λ a b. a || b) h (sym e)

pub none_wanting : {T : Type 0} (value : T → ℕ) (r : RowTableau T) (t : Tableau) (i : ℕ) → Shows value r t →
    IsWhole value r → height r ≤ i → list_any (wanting t) (take i t.basic) ≡ false → false ≡ is_stuck t
none_wanting value r t i s w l h =
    sym h ∙ ap (λ (ks : List ℕ). list_any (wanting t) ks)
    (take_all i t.basic (omega (arith, l, positions value r t s w)))
