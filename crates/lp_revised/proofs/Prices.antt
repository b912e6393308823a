-- Reduced costs over a column's entries alone: where the entry is 0 nothing happens.
use Rattle.std.proofs.Common.{◌≡◌, ◌≢◌, ℕ, ◌+◌, ◌-◌, ◌<◌, ◌≤◌, List, [], length, get_or, All, Some, Ok, Err, refl, sym}
use Rattle.std.proofs.Common.{ap, ap₂, ◌∙◌, subst, arith, eq-eqb, ne_eqb, lt-ltb, le-ltb}
use Rattle.std.proofs.lemmas.List.{get_or_default}
use Rattle.std.proofs.lemmas.List.Elements.{All-get_or}
use Rattle.spec_exact.specs.Fraction.{ℚ, 0ℚ, 1ℚ, neg_ℚ}
use Rattle.spec_exact.specs.Narrow.{IsNarrow, number_limit}
use Rattle.spec_exact.specs.declared.past.Past.{Past}
use Rattle.spec_exact.proofs.Ruleset.{neg-zero}
use Rattle.spec_model.specs.Model.{entry_of}
use Rattle.spec_model.specs.Kept.{AreEntries}
use Rattle.spec_simplex.specs.Form.{Form}
use Rattle.spec_exact.specs.Run.{Run, less_product, steps}
use Rattle.spec_simplex.specs.Start.{cost_at}
use Rattle.spec_exact.proofs.RunsInOrder.{steps_more, steps_stop}
use Rattle.spec_factor.specs.Factors.{column_entry}
use Rattle.spec_factor.specs.Revised.{price_run}
use Rattle.lp_revised.proofs.Gaps.{Entries, row_at, value_at, bound, less_zero_right, entry_there, row_inside, bound_at}
use Rattle.lp_revised.proofs.Gaps.{bound_end, bound_least, next_bound, none_first, none_between, steps_to}

-- what pricing column k does at row i: it takes the row's multiplier times the column's entry off d
abbrev pub price_at : Form → List ℚ → ℕ → ℕ → ℚ → Run ℚ
price_at f y k i d = less_product (Some number_limit) (get_or y i 0ℚ) (column_entry f i k) d

-- column k is priced up to entry c: its cost less what the rows before that entry take off is d, of at most 127 bits
pub record PricedTo (f : Form) (costs y : List ℚ) (k : ℕ) (es : Entries) (c : ℕ) (d : ℚ) : Type 0 where
  pub done : steps (bound f.rows es c) (price_at f y k) (cost_at costs k) ≡ Ok d
  pub narrow : IsNarrow d

module _ (f : Form) (costs y : List ℚ) (k : ℕ) (all : length y ≡ f.rows) (narrow : All IsNarrow y) where
  skipped : (i : ℕ) (d : ℚ) → i < f.rows → column_entry f i k ≡ 0ℚ → IsNarrow d → price_at f y k i d ≡ Ok d
  skipped i d l e n =
      ap (λ a. less_product (Some number_limit) (get_or y i 0ℚ) a d) e
      ∙ less_zero_right (get_or y i 0ℚ) d (All-get_or IsNarrow y i 0ℚ (subst (λ n. i < n) (sym all) l) narrow) n

  -- ---- a structural column
  module _ (es : Entries) (es_is : es ≡ get_or f.entries k []) (h : AreEntries f.rows es) (inside : k < f.cols) where
    structural : (i : ℕ) → column_entry f i k ≡ neg_ℚ (entry_of es i)
    structural i = rw (lt-ltb k f.cols inside) (ap (λ xs. neg_ℚ (entry_of xs i)) (sym es_is))

    nothing : (i : ℕ) → entry_of es i ≡ 0ℚ → column_entry f i k ≡ 0ℚ
    nothing i e = structural i ∙ ap neg_ℚ e ∙ neg-zero

    -- before the first entry the price of column k is its cost
    pub priced_first : (d : ℚ) → d ≡ cost_at costs k → IsNarrow d → PricedTo f costs y k es 0 d
    priced_first d e n = record {
      done = steps_to (price_at f y k) (cost_at costs k) d 0 (bound f.rows es 0) (ap Ok (sym e)) (omega arith)
          (λ i _ l. let b = bound_least f.rows es h 0 in skipped i d (omega (arith, l, b))
          (nothing i (none_first f.rows es h i l)) n);
      narrow = n;
    }

    module _ (c : ℕ) (item : ℕ × ℚ) (is : item ≡ get_or es c item) (here : c < length es) where
      item_is : item ≡ get_or es c (0, 0ℚ)
      item_is = is ∙ get_or_default es c item (0, 0ℚ) here

      row_is : row_at es c ≡ item.0
      row_is = sym (ap (λ (e : ℕ × ℚ). e.0) item_is)

      value_is : value_at es c ≡ item.1
      value_is = sym (ap (λ (e : ℕ × ℚ). e.1) item_is)

      -- the row of entry c has a multiplier
      pub item_in : item.0 < length y
      item_in = subst (λ n. item.0 < n) (sym all) (subst (λ r. r < f.rows) row_is (row_inside f.rows es h c here))

      module _ (d : ℚ) (so_far : PricedTo f costs y k es c d) (x v : ℚ) (x_is : x ≡ get_or y item.0 x)
          (v_is : v ≡ neg_ℚ item.1) where
        step_is : (r : Run ℚ) → less_product (Some number_limit) x v d ≡ r → price_at f y k (row_at es c) d ≡ r
        step_is r e =
            ap₂ (λ a b. less_product (Some number_limit) a b d)
            (ap (λ i. get_or y i 0ℚ) row_is ∙ sym (x_is ∙ get_or_default y item.0 x 0ℚ item_in))
            (structural (row_at es c) ∙ ap neg_ℚ (entry_there es h.ascending c here ∙ value_is) ∙ sym v_is)
            ∙ e

        before : steps (row_at es c) (price_at f y k) (cost_at costs k) ≡ Ok d
        before =
            subst (λ b. steps b (price_at f y k) (cost_at costs k) ≡ Ok d) (bound_at f.rows es h c here) so_far.done

        -- where column k is priced up to entry c, and the operation there is refused, its price is refused
        pub priced_stop : (p : Past ℚ) → less_product (Some number_limit) x v d ≡ Err p →
            price_run (Some number_limit) f costs y k ≡ Err p
        priced_stop p e =
            steps_stop (row_at es c) f.rows (price_at f y k) (cost_at costs k) d p (row_inside f.rows es h c here)
            before (step_is (Err p) e)

        -- where column k is priced up to entry c with d, it is priced up to the next entry with d less the multiplier
        -- times the entry's negative
        pub priced_next : (r : ℚ) → less_product (Some number_limit) x v d ≡ Ok r → IsNarrow r →
            PricedTo f costs y k es (c + 1) r
        priced_next r e n = record {
          done =
              let l : row_at es c < bound f.rows es (c + 1) = next_bound f.rows es h c here in
              steps_to (price_at f y k) (cost_at costs k) r (row_at es c + 1) (bound f.rows es (c + 1))
              (steps_more (row_at es c) (price_at f y k) (cost_at costs k) d r before (step_is (Ok r) e))
              (omega (arith, l))
              (λ i p q. let b = bound_least f.rows es h (c + 1) in skipped i r (omega (arith, q, b))
              (nothing i (none_between f.rows es h c i here (omega (arith, p)) q)) n);
          narrow = n;
        }

    -- where column k is priced past its last entry with d, its reduced cost is d
    pub priced_whole : (c : ℕ) (d : ℚ) → length es ≤ c → PricedTo f costs y k es c d →
        price_run (Some number_limit) f costs y k ≡ Ok d
    priced_whole c d l p =
        subst (λ b. steps b (price_at f y k) (cost_at costs k) ≡ Ok d) (bound_end f.rows es h c l) p.done

  -- ---- a logical column
  module _ (r : ℕ) (r_is : r ≡ k - f.cols) (out : f.cols ≤ k) (d : ℚ) (d_is : d ≡ cost_at costs k) (n : IsNarrow d)
    where
      own : column_entry f r k ≡ 1ℚ
      own = rw (le-ltb k f.cols out, eq-eqb r (k - f.cols) r_is) refl

      other : (i : ℕ) → i ≢ r → column_entry f i k ≡ 0ℚ
      other i e = rw (le-ltb k f.cols out, ne_eqb i (k - f.cols) (λ z. e (z ∙ sym r_is))) refl

      -- where k is behind the logical columns, its reduced cost is its cost, as the column is 0 in each row
      pub priced_nothing : f.rows ≤ r → price_run (Some number_limit) f costs y k ≡ Ok d
      priced_nothing l =
          steps_to (price_at f y k) (cost_at costs k) d 0 f.rows (ap Ok (sym d_is)) (omega arith)
          (λ i _ q. skipped i d q (other i (λ z. let w : ⊥ = omega (arith, q, l, z) in w)) n)

      module _ (here : r < f.rows) (x v : ℚ) (x_is : x ≡ get_or y r x) (v_is : v ≡ 1ℚ) where
        begun : steps r (price_at f y k) (cost_at costs k) ≡ Ok d
        begun =
            steps_to (price_at f y k) (cost_at costs k) d 0 r (ap Ok (sym d_is)) (omega arith)
            (λ i _ q. skipped i d (omega (arith, q, here)) (other i (λ z. let w : ⊥ = omega (arith, q, z) in w)) n)

        step_own : (o : Run ℚ) → less_product (Some number_limit) x v d ≡ o → price_at f y k r d ≡ o
        step_own o e =
            ap₂ (λ a b. less_product (Some number_limit) a b d)
            (sym (x_is ∙ get_or_default y r x 0ℚ (subst (λ m. r < m) (sym all) here))) (own ∙ sym v_is) ∙ e

        -- where the operation for a logical column's row is refused, the price of the column is refused
        pub logical_stop : (p : Past ℚ) → less_product (Some number_limit) x v d ≡ Err p →
            price_run (Some number_limit) f costs y k ≡ Err p
        logical_stop p e = steps_stop r f.rows (price_at f y k) (cost_at costs k) d p here begun (step_own (Err p) e)

        -- the reduced cost of a logical column is its cost less the multiplier of its row times 1
        pub logical_priced : (w : ℚ) → less_product (Some number_limit) x v d ≡ Ok w → IsNarrow w →
            price_run (Some number_limit) f costs y k ≡ Ok w
        logical_priced w e m =
            steps_to (price_at f y k) (cost_at costs k) w (r + 1) f.rows
            (steps_more r (price_at f y k) (cost_at costs k) d w begun (step_own (Ok w) e)) (omega (arith, here))
            (λ i p q. skipped i w q (other i (λ z. let u : ⊥ = omega (arith, p, z) in u)) m)
