-- The coefficients of a form's columns, written into rows of zeros.
--
-- `none_put`: where the columns below j are written, column j has none of its entries yet.
-- `all_put`: where all entries of column j are written, the rows have the coefficients of the columns below j + 1.
use Rattle.std.proofs.Common.{◌≡◌, ◌≢◌, ℕ, suc, ◌+◌, ◌-◌, ◌*◌, ◌<◌, ◌≤◌, List, [], ◌∷◌, length, replicate}
use Rattle.std.proofs.Common.{drop, get_or, cond, ne_eqb, sym, subst, subst₂, ap, ◌∙◌, arith, ⊎_elim}
use Rattle.std.proofs.Math.ListN.{set}
use Rattle.std.proofs.Math.Seq.{drop-length, drop-cons}
use Rattle.std.proofs.lemmas.Bool.{cases_eq, cases_lt, eq-eqb}
use Rattle.std.proofs.lemmas.List.{get_or-set_same, get_or-set_other, get_or-replicate, get_or_default}
use Rattle.std.proofs.lemmas.List.{length-replicate}
use Rattle.std.proofs.lemmas.List.Elements.{All-get_or, All-from_get_or}
use Rattle.spec_exact.specs.Fraction.{ℚ, 0ℚ}
use Rattle.spec_model.specs.Model.{entry_of}
use Rattle.spec_model.specs.Kept.{AreEntries}
use Rattle.spec_simplex.specs.Form.{Form, IsForm, form_entry}
use Rattle.spec_simplex.specs.Tableau.{at_place}
use Rattle.lp_tableau.specs.Begun.{HoldsColumns}
use Rattle.lp_tableau.specs.Grid.{rows_of, IsGrid}
use Rattle.lp_tableau.proofs.Done.{with_item, grid_row, row_inside, grid_set}
use Rattle.lp_tableau.proofs.BlockRows.{length-rows_of, at-rows_of, inside, row_width}

-- ---- one item of rows
module _ (rows : List (List ℚ)) (p k : ℕ) (v : ℚ) (h : p < length rows) where
  item_put : k < length (get_or rows p []) → at_place (with_item rows p k v) p k ≡ v
  item_put l =
      ap (λ row. get_or row k 0ℚ) (get_or-set_same rows p (set (get_or rows p []) k v) [] h)
      ∙ get_or-set_same (get_or rows p []) k v 0ℚ l

  row_stays : (i l : ℕ) → i ≢ p → at_place (with_item rows p k v) i l ≡ at_place rows i l
  row_stays i l n = ap (λ row. get_or row l 0ℚ) (get_or-set_other rows p i (set (get_or rows p []) k v) [] n)

  column_stays : (i l : ℕ) → l ≢ k → at_place (with_item rows p k v) i l ≡ at_place rows i l
  column_stays i l n =
      ⊎_elim
      (λ (e : i ≡ p). subst (λ q. at_place (with_item rows p k v) q l ≡ at_place rows q l) (sym e)
      (ap (λ row. get_or row l 0ℚ) (get_or-set_same rows p (set (get_or rows p []) k v) [] h)
      ∙ get_or-set_other (get_or rows p []) k l v 0ℚ n))
      (λ (e : i ≢ p). row_stays i l e)
      (cases_eq i p)

-- ---- of column j only these entries are put
pub record HoldsPart (f : Form) (j : ℕ) (entries : List (ℕ × ℚ)) (rows : List (List ℚ)) : Type 0 where
  pub shape : IsGrid f.rows f.cols rows
  pub done : (i k : ℕ) → i < f.rows → k < j → at_place rows i k ≡ form_entry f i k
  pub column : (i : ℕ) → i < f.rows → at_place rows i j ≡ entry_of entries i
  pub rest : (i k : ℕ) → i < f.rows → j < k → k < f.cols → at_place rows i k ≡ 0ℚ

-- rows that have these entries of column j have one entry more where v is written in row r
one_put : (f : Form) (j : ℕ) (entries : List (ℕ × ℚ)) (rows : List (List ℚ)) (r : ℕ) (v : ℚ) → j < f.cols →
    r < f.rows → HoldsPart f j entries rows → HoldsPart f j ((r, v) ∷ entries) (with_item rows r j v)
one_put f j entries rows r v l h o =
    let inside_r = row_inside f.rows f.cols rows r o.shape h in
    record {
      shape = grid_set f.rows f.cols rows r j v o.shape h;
      done =
          λ i k g m. column_stays rows r j v inside_r i k (λ e. absurd (let z : ⊥ = omega (arith, m, e) in z))
          ∙ o.done i k g m;
      column = λ i g.
          ⊎_elim
          (λ (e : r ≡ i). subst (λ q. at_place (with_item rows r j v) q j ≡ v) e
          (item_put rows r j v inside_r (omega (arith, l, grid_row f.rows f.cols rows r o.shape h)))
          ∙ sym (ap (λ b. cond b v (entry_of entries i)) (eq-eqb r i e)))
          (λ (n : r ≢ i). row_stays rows r j v inside_r i j (λ e. n (sym e))
          ∙ o.column i g ∙ sym (ap (λ b. cond b v (entry_of entries i)) (ne_eqb r i n)))
          (cases_eq r i);
      rest =
          λ i k g m. λ n. column_stays rows r j v inside_r i k (λ e. absurd (let z : ⊥ = omega (arith, m, e) in z))
          ∙ o.rest i k g m n;
    }

pub none_put : (f : Form) (j : ℕ) (entries : List (ℕ × ℚ)) (rows : List (List ℚ)) → j < f.cols → HoldsColumns f j rows →
    HoldsPart f j (drop (length entries) entries) rows
none_put f j entries rows l o =
    subst (λ none. HoldsPart f j none rows) (sym (drop-length entries))
    (record {
      shape = o.shape;
      done = o.done;
      column = λ i h. o.rest i j h (omega arith) l;
      rest = λ i k h m n. o.rest i k h (omega (arith, m)) n;
    })

-- the entry before place t is put too
module _ (f : Form) (j : ℕ) (entries : List (ℕ × ℚ)) (t : ℕ) (d e : ℕ × ℚ) (kept : AreEntries f.rows entries)
    (some : 0 < t) (few : t ≤ length entries) where
  pub entry_inside : (get_or entries (t - 1) d).0 < f.rows
  entry_inside = All-get_or (λ (x : ℕ × ℚ). x.0 < f.rows) entries (t - 1) d (omega (arith, some, few)) kept.inside

  pub more_put : (rows now : List (List ℚ)) → j < f.cols → HoldsPart f j (drop t entries) rows →
      now ≡ with_item rows (get_or entries (t - 1) d).0 j (get_or entries (t - 1) e).1 →
      HoldsPart f j (drop (t - 1) entries) now
  more_put rows now l o h =
      let i : t - 1 < length entries = omega (arith, some, few) in
      let x : ℕ × ℚ = get_or entries (t - 1) d in
      let after : suc (t - 1) ≡ t = omega (arith, some) in
      subst₂ (HoldsPart f j) (sym (drop-cons entries (t - 1) d i ∙ ap (λ n. x ∷ drop n entries) after))
      (sym (h ∙ ap (λ (y : ℕ × ℚ). with_item rows x.0 j y.1) (get_or_default entries (t - 1) e d i)))
      (one_put f j (drop t entries) rows x.0 x.1 l entry_inside o)

pub all_put : (f : Form) (j : ℕ) (entries : List (ℕ × ℚ)) (t : ℕ) (rows : List (List ℚ)) →
    entries ≡ get_or f.entries j [] → t ≤ 0 → HoldsPart f j (drop t entries) rows → HoldsColumns f (j + 1) rows
all_put f j entries t rows e z p =
    let none : t ≡ 0 = omega (arith, z) in
    let o : HoldsPart f j (get_or f.entries j []) rows =
    subst (λ es. HoldsPart f j es rows) (ap (λ n. drop n entries) none ∙ e) p in
    record {
      shape = o.shape;
      done = λ i k h l.
          ⊎_elim
          (λ (less : k < j). o.done i k h less)
          (λ (at_most : j ≤ k).
          let e : j ≡ k = omega (arith, l, at_most) in
          subst (λ q. at_place rows i q ≡ form_entry f i q) e (o.column i h))
          (cases_lt k j);
      rest = λ i k h g. o.rest i k h (omega (arith, g));
    }

-- ---- rows of zeros
module _ (f : Form) (g : IsForm f) (xs : List ℚ) (e : xs ≡ replicate (f.rows * f.cols) 0ℚ) where
  size : length xs ≡ f.rows * f.cols
  size = ap length e ∙ length-replicate (f.rows * f.cols) 0ℚ

  pub zero_columns : HoldsColumns f 0 (rows_of f.cols f.rows xs)
  zero_columns =
      record {
        shape = record {
          height = length-rows_of f.cols f.rows xs;
          width =
              All-from_get_or (λ row. length row ≡ f.cols) (rows_of f.cols f.rows xs) []
              (λ i h. row_width f.cols f.rows i xs (omega (arith, h, length-rows_of f.cols f.rows xs)) size);
        };
        done = λ i k h l. absurd (let z : ⊥ = omega (arith, l) in z);
        rest =
            λ i k h l m. at-rows_of f.cols f.rows i k xs h m ∙ ap (λ ys. get_or ys (i * f.cols + k) 0ℚ) e
            ∙ get_or-replicate (f.rows * f.cols) (i * f.cols + k) 0ℚ 0ℚ (inside f.cols f.rows i k h m);
      }
