-- The equations of a form as rows of whole numbers.
--
-- `unsolved_at`: an entry of the stated equations is the start's entry of its row and column.
-- `rows_more`: one more row that holds equation i makes rows of the first i equations rows of the first i + 1.
-- `zeros_more`: where a number that is 0 is pushed onto a list of n zeros, the list is one of n + 1 zeros.
-- `unsolved_is`: rows of the form's equations, with its bounds and the basis's statuses, are the unsolved equations.
use Rattle.std.proofs.Common.{◌≡◌, ℕ, zero, suc, map, Option, Some, ◌+◌, ◌*◌, ◌<◌, List, [], ◌∷◌, ◌++◌, length, get_or}
use Rattle.std.proofs.Common.{replicate, pos, All, refl, sym, ap, subst, ◌∙◌, arith}
use Rattle.std.proofs.lemmas.List.{length-append, length-replicate, length-map, get_or-replicate}
use Rattle.std.proofs.Math.Seq.{get_or-append_seam}
use Rattle.std.proofs.lemmas.List.Elements.{All-push}
use Rattle.spec_exact.specs.Fraction.{ℚ, 0ℚ, 1ℚ, over}
use Rattle.spec_exact.specs.Run.{made}
use Rattle.spec_exact.proofs.Ruleset.{neg-zero}
use Rattle.spec_exact.proofs.RunsInOrder.{length-made, get_or-made}
use Rattle.spec_pivot.proofs.Pivot.{by_eq}
use Rattle.spec_pivot.specs.declared.status.Status.{Status}
use Rattle.spec_pivot.specs.declared.status.Status.TheVariants.{AtLower}
use Rattle.spec_simplex.specs.declared.ends.RowStart.TheVariants.{Within}
use Rattle.spec_simplex.specs.Form.{Form, IsForm, form_lower, form_upper}
use Rattle.spec_simplex.specs.Start.{one_at, start_entry}
use Rattle.spec_simplex.specs.Tableau.{at_place, is_fixed}
use Rattle.spec_simplex.specs.Eliminate.{equation, unsolved, basis_status, basis_lower, basis_upper, basis_value}
use Rattle.lp_natural.specs.Whole.{whole}
use Rattle.lp_natural.specs.declared.words.signed.Signed.{Signed}
use Rattle.lp_rows.specs.declared.fractions.Row.{Row}
use Rattle.lp_rows.specs.Row.{at, fraction_at}
use Rattle.lp_rows.specs.Ratio.{bound_of}
use Rattle.lp_rows.proofs.Done.{item-at}
use Rattle.lp_rows.proofs.Cleared.{fraction-at}
use Rattle.lp_rows.specs.declared.tableau.tableau.RowTableau.{RowTableau}
use Rattle.lp_rows.specs.Shows.{IsRow, width, all_width}
use Rattle.lp_rows.specs.Held.{IsRowOf}
use Rattle.lp_rows.specs.Moves.{number_at}
use Rattle.lp_rows.proofs.Lasts.{over_none}
use Rattle.lp_rows.proofs.Converted.{row_at-before, row_at-seam}
use Rattle.lp_rows.proofs.TableauNumbers.{row_at-one}
use Rattle.lp_row_runs.specs.Rows.{AreRowsAt, AreZeros, IsUnsolved}

-- ---- one entry
-- 1 where i is r, else 0
abbrev one : ℕ → ℕ → ℚ
one i r = one_at i r 1ℚ

-- ---- rows

-- an entry of the stated equations
pub unsolved_at : (f : Form) (i k : ℕ) → i < f.rows → k < f.cols + f.rows →
    at_place (unsolved f).rows i k ≡ start_entry f (Within 0ℚ) i k
unsolved_at f i k h l =
    ap (λ (row : List ℚ). get_or row k 0ℚ) (get_or-made f.rows (equation f) i [] h)
    ∙ get_or-made (f.cols + f.rows + f.rows) (start_entry f (Within 0ℚ) i) k 0ℚ (omega (arith, l))

-- one row more
pub rows_more : {T : Type 0} (value : T → ℕ) (d i n : ℕ) (x : ℕ → ℚ) (equations : ℕ → ℕ → ℚ) (entry : ℕ → ℚ)
    (rows now : List (Row T)) (row : Row T) → AreRowsAt value d i n 0 x equations rows →
    IsRowOf value (made n entry) 0ℚ d row → ((k : ℕ) → k < n → entry k ≡ equations i k) → now ≡ rows ++ row ∷ [] →
    AreRowsAt value d (i + 1) n 0 x equations now
rows_more value d i n x equations entry rows now row so_far is same e =
    let all : length (made n entry) ≡ n = length-made n entry in
    subst (λ ys. AreRowsAt value d (i + 1) n 0 x equations ys) (sym e) (record {
      len = omega (arith, length-append rows (row ∷ []), so_far.len);
      each = All-push (IsRow value n) rows row so_far.each (subst (λ m. IsRow value m row) all is.is_row);
      entries = λ j k l below.
          sym (row_at-one value (rows ++ row ∷ []) j k)
          ∙ by_eq j i
          (λ q. row_at-seam value 1 rows row j k (q ∙ sym so_far.len)
          ∙ (let one : 1 * value row.denominator ≡ value row.denominator = omega arith in
          ap (λ m. fraction_at value row.numbers.items m k) one)
          ∙ is.entries k (omega (arith, below, all))
          ∙ get_or-made n entry k 0ℚ below
          ∙ same k below
          ∙ ap (λ j. equations j k) (sym q))
          (λ q. row_at-before value 1 rows row j k (omega (arith, l, q, so_far.len))
          ∙ row_at-one value rows j k
          ∙ so_far.entries j k (omega (arith, l, q)) below);
      values = λ j l.
          by_eq j i
          (λ q. row_at-seam value d rows row j n (q ∙ sym so_far.len)
          ∙ ap (λ m. fraction_at value row.numbers.items (d * value row.denominator) m) (sym all) ∙ is.value_last
          ∙ sym neg-zero)
          (λ q. row_at-before value d rows row j n (omega (arith, l, q, so_far.len))
          ∙ so_far.values j (omega (arith, l, q)));
    })

-- ---- a list of zeros

-- pushing a number leaves each number before it as it was
at-append : {T : Type 0} (value : T → ℕ) (xs : List (Signed T)) (x : Signed T) (k : ℕ) → k < length xs →
    at value (xs ++ x ∷ []) k ≡ at value xs k
at-append value [] x k h = absurd (omega arith)
at-append value (y ∷ xs) x zero h = refl
at-append value (y ∷ xs) x (suc k) h = at-append value xs x k (omega (arith, h))

pub zeros_more : {T : Type 0} (value : T → ℕ) (n : ℕ) (xs now : List (Signed T)) (x : Signed T) →
    whole x.negative (value x.size) ≡ pos 0 → AreZeros value n xs → now ≡ xs ++ x ∷ [] → AreZeros value (n + 1) now
zeros_more value n xs now x z so_far e = subst (AreZeros value (n + 1)) (sym e) (record {
  len = omega (arith, length-append xs (x ∷ []), so_far.len);
  each = λ d k p h.
      fraction-at value (xs ++ x ∷ []) d k (omega (arith, h, length-append xs (x ∷ []), so_far.len))
      ∙ by_eq k n
      (λ q. ap (λ n. over n d)
      (item-at value (xs ++ x ∷ []) k x (omega (arith, h, length-append xs (x ∷ []), so_far.len))
      (sym (ap (λ k. get_or (xs ++ x ∷ []) k x) (q ∙ sym so_far.len) ∙ get_or-append_seam xs x [] x)) ∙ z)
      ∙ over_none d p)
      (λ q. ap (λ n. over n d) (at-append value xs x k (omega (arith, h, q, so_far.len)))
      ∙ sym (fraction-at value xs d k (omega (arith, h, q, so_far.len)))
      ∙ so_far.each d k p (omega (arith, h, q)));
})

-- ---- the whole
pub unsolved_is : {T : Type 0} (value : T → ℕ) (f : Form) (basis : List Status) (r : RowTableau T) → IsForm f →
    length basis ≡ f.cols + f.rows → r.cols ≡ f.cols →
    AreRowsAt value (value r.denominator) f.rows (f.cols + f.rows) 0 (basis_value f basis) (at_place (unsolved f).rows)
    r.rows.items → IsRow value (f.cols + f.rows) r.costs →
    ((k : ℕ) → k < f.cols + f.rows → number_at value r.costs k ≡ 0ℚ) → r.basic.items ≡ replicate f.rows 0 →
    r.status.items ≡ basis_status f basis → map (bound_of value (value r.denominator)) r.lower.items ≡ basis_lower f →
    map (bound_of value (value r.denominator)) r.upper.items ≡ basis_upper f →
    r.fixed.items ≡ made (f.cols + f.rows) (λ k. is_fixed (form_lower f k) (form_upper f k)) →
    0 < value r.denominator → IsUnsolved value f basis 0 r
unsolved_is value f basis r kept all cols rows costs none basic status lower upper fixed positive =
    let wide : f.cols + f.rows ≡ width r = omega (arith, cols, rows.len) in
    let bounds : (xs : List (Option (Signed _))) (ys : List (Option ℚ)) →
    map (bound_of value (value r.denominator)) xs ≡ ys ++ replicate f.rows (Some 0ℚ) →
    length ys ≡ f.cols + f.rows → length xs ≡ all_width r =
    (λ xs ys e l. omega (
      arith,
      sym (length-map xs (bound_of value (value r.denominator))) ∙ ap length e,
      length-append ys (replicate f.rows (Some 0ℚ)),
      length-replicate f.rows (Some 0ℚ),
      l,
      wide,
      rows.len,
    )) in
    record {
      whole = record {
        few_rows = omega (arith, rows.len, kept.few_rows);
        few_columns = omega (arith, cols, kept.few_columns);
        each_row = subst (λ n. All (IsRow value n) r.rows.items) wide rows.each;
        costs = subst (λ n. IsRow value n r.costs) wide costs;
        all_basic = ap length basic ∙ length-replicate {A = ℕ} f.rows 0 ∙ sym rows.len;
        in_range = λ i z h.
            let h' : i < f.rows = omega (arith, h, ap length basic, length-replicate {A = ℕ} f.rows 0) in
            omega (arith, ap (λ ks. get_or ks i z) basic, get_or-replicate f.rows i 0 z h', h', wide, rows.len);
        all_statuses = omega (
          arith,
          ap length status,
          length-append basis (replicate f.rows AtLower),
          length-replicate f.rows AtLower,
          all,
          wide,
          rows.len,
        );
        all_lower = bounds r.lower.items f.lower lower kept.all_lower;
        all_upper = bounds r.upper.items f.upper upper kept.all_upper;
        all_fixed = ap length fixed ∙ length-made (f.cols + f.rows) (λ k. is_fixed (form_lower f k) (form_upper f k))
            ∙ wide;
        positive = positive;
      };
      form = record {
        cols = cols;
        costs = none;
        status = status;
        lower = lower;
        upper = upper;
        fixed = fixed;
      };
      rows = rows;
      basic = basic;
    }

-- end of Unsolved
