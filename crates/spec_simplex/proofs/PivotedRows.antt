-- The rows after a pivot.
use Rattle.std.proofs.Common.{◌≡◌, ◌≢◌, ℕ, suc, ◌<◌, ◌≤◌, List, [], length, get_or, set, Option, Ok}
use Rattle.std.proofs.Common.{Bool, true, false, cond, nat_eq, refl, sym, ap, ap₂, ◌∙◌, subst, arith}
use Rattle.std.proofs.lemmas.Bool.{eqb-true, eqb-false}
use Rattle.std.proofs.lemmas.List.{length-set, get_or-set_same, get_or-set_other}
use Rattle.spec_exact.specs.Fraction.{ℚ, 0ℚ, ◌-ℚ◌, ◌*ℚ◌, inverse}
use Rattle.spec_exact.proofs.Ruleset.{ring}
use Rattle.spec_pivot.specs.Tableau.{Matrix, pivot_row, pivoted}
use Rattle.spec_pivot.proofs.Pivot.{by_eq, pivoted_at, pivoted_off, kept}
use Rattle.spec_exact.specs.Run.{◌>>=◌, less_product, quotient_run, steps, list_run}
use Rattle.spec_simplex.specs.Tableau.{at_place}
use Rattle.spec_simplex.specs.Step.{scaled_run, cleared_run, turned_run}
use Rattle.spec_simplex.proofs.RunParts.{then_ok, quotient_ok, less_ok, steps_ok, IsListOf, list_ok}
use Rattle.spec_simplex.proofs.ListIndices.{by_lt, past_row, past_rows}

module _ (limit : Option ℕ) (m n : ℕ) (rows : List (List ℚ)) (all : length rows ≡ m)
    (whole : (i : ℕ) → i < m → length (get_or rows i []) ≡ n) (p j : ℕ) (p_in : p < m) where
  -- the entries of the rows before the pivot, by position and column
  abbrev E : Matrix
  E = at_place rows

  -- row p is the pivot's row, each other row below i is cleared as by the pivot, and those from i on are the old ones
  record Turned (i : ℕ) (out : List (List ℚ)) : Type 0 where
    all_out : length out ≡ m
    whole_out : (r : ℕ) → r < m → length (get_or out r []) ≡ n
    own : (k : ℕ) → k < n → at_place out p k ≡ pivot_row E p j k
    before : (r k : ℕ) → r < i → r ≢ p → k < n → at_place out r k ≡ pivoted E p j r k
    behind : (r : ℕ) → i ≤ r → r ≢ p → get_or out r [] ≡ get_or rows r []

  -- once the pivot's row is divided by its entry in column j, the rows are those of the pivot with no other row cleared
  -- yet
  scaled_is : (out : List (List ℚ)) → scaled_run limit n rows p j ≡ Ok out → Turned 0 out
  unfolding scaled_run
  scaled_is out h =
      let o =
      then_ok (list_run n (λ k. quotient_run limit (at_place rows p k) (at_place rows p j)))
      (λ row. Ok (set rows p row)) out h in
      let l : IsListOf n _ 0ℚ o.0 =
      list_ok n (λ k. quotient_run limit (at_place rows p k) (at_place rows p j)) 0ℚ o.0 o.1 in
      let e : set rows p o.0 ≡ out = cc in
      let at_p : get_or (set rows p o.0) p [] ≡ o.0 = get_or-set_same rows p o.0 [] (omega (arith, all, p_in)) in
      subst (Turned 0) e (record {
        all_out = length-set rows p o.0 ∙ all;
        whole_out = λ r q. by_eq r p
            (λ e. ap (λ r. length (get_or (set rows p o.0) r [])) e ∙ ap length at_p ∙ l.all)
            (λ d. ap length (get_or-set_other rows p r o.0 [] d) ∙ whole r q);
        own =
            λ k q. ap (λ row. get_or row k 0ℚ) at_p
            ∙ quotient_ok limit (at_place rows p k) (at_place rows p j) _ (l.each k q);
        before = λ r k z d q. absurd (let y : ⊥ = omega (arith, z) in y);
        behind = λ r z d. get_or-set_other rows p r o.0 [] d;
      })

  -- where the rows below i are cleared, and the run clears row i, those below i + 1 are
  step_is : (i : ℕ) (x y : List (List ℚ)) → i < m → Turned i x →
      cond (nat_eq i p) (Ok x) (cleared_run limit n p j i x) ≡ Ok y → Turned (suc i) y
  unfolding cleared_run
  step_is i x y i_in t h = go (nat_eq i p) refl h
    where
      go : (c : Bool) → nat_eq i p ≡ c → cond c (Ok x) (cleared_run limit n p j i x) ≡ Ok y → Turned (suc i) y
      go true c h =
          let z : i ≡ p = eqb-true i p c in
          let e : x ≡ y = cc in
          subst (Turned (suc i)) e (record {
            all_out = t.all_out;
            whole_out = t.whole_out;
            own = t.own;
            before = λ r k q d. t.before r k (omega (arith, q, d, z)) d;
            behind = λ r q d. t.behind r (omega (arith, q)) d;
          })
      go false c h =
          let z : i ≢ p = eqb-false i p c in
          let f : ℕ → Rattle.spec_exact.specs.Run.Run ℚ =
          (λ k. less_product limit (at_place x i j) (at_place x p k) (at_place x i k)) in
          let o = then_ok (list_run n f) (λ row. Ok (set x i row)) y h in
          let l : IsListOf n f 0ℚ o.0 = list_ok n f 0ℚ o.0 o.1 in
          let e : set x i o.0 ≡ y = cc in
          let at_i : get_or (set x i o.0) i [] ≡ o.0 = get_or-set_same x i o.0 [] (omega (arith, t.all_out, i_in)) in
          let old : get_or x i [] ≡ get_or rows i [] = t.behind i (omega arith) z in
          subst (Turned (suc i)) e (record {
            all_out = length-set x i o.0 ∙ t.all_out;
            whole_out = λ r q. by_eq r i
                (λ e. ap (λ r. length (get_or (set x i o.0) r [])) e ∙ ap length at_i ∙ l.all)
                (λ d. ap length (get_or-set_other x i r o.0 [] d) ∙ t.whole_out r q);
            own = λ k q. ap (λ row. get_or row k 0ℚ) (get_or-set_other x i p o.0 [] (λ e. z (sym e))) ∙ t.own k q;
            before = λ r k q d q'. by_eq r i
                (λ e. subst (λ r. at_place (set x i o.0) r k ≡ pivoted E p j r k) (sym e)
                (ap (λ row. get_or row k 0ℚ) at_i
                ∙ less_ok limit (at_place x i j) (at_place x p k) (at_place x i k) (get_or o.0 k 0ℚ) (l.each k q')
                ∙ ap₂ (λ row a. get_or row k 0ℚ -ℚ get_or row j 0ℚ *ℚ a) old (t.own k q')
                ∙ sym (pivoted_off E p j i k z)))
                (λ e. ap (λ row. get_or row k 0ℚ) (get_or-set_other x i r o.0 [] e)
                ∙ t.before r k (omega (arith, q, e)) d q');
            behind =
                λ r q d. get_or-set_other x i r o.0 [] (λ e. let y : ⊥ = omega (arith, q, e) in y)
                ∙ t.behind r (omega (arith, q)) d;
          })

  module _ (out : List (List ℚ)) (ok : turned_run limit m n rows p j ≡ Ok out) where
    -- the run's rows after a pivot are the pivoted ones, each row cleared
    turned_is : Turned m out
    unfolding turned_run
    turned_is =
        let o =
        then_ok (scaled_run limit n rows p j)
        (λ scaled. steps m (λ i rows. cond (nat_eq i p) (Ok rows) (cleared_run limit n p j i rows)) scaled) out ok in
        steps_ok Turned m (λ i rows. cond (nat_eq i p) (Ok rows) (cleared_run limit n p j i rows)) o.0 out o.2
        (scaled_is o.0 o.1) step_is

    -- after a pivot there are as many rows as before
    pub turned_rows : length out ≡ m
    turned_rows = turned_is.all_out

    -- after a pivot each row has n entries
    pub turned_whole : (r : ℕ) → r < m → length (get_or out r []) ≡ n
    turned_whole = turned_is.whole_out

    -- row p after a pivot is the old row p divided by its entry in column j
    pub turned_own : (k : ℕ) → at_place out p k ≡ pivot_row E p j k
    turned_own k = by_lt k n
        (λ q. turned_is.own k q)
        (λ q. past_row out p k n (turned_whole p p_in) q
        ∙ sym (none (at_place rows p j) (at_place rows p k) (past_row rows p k n (whole p p_in) q)))
      where
        none : (a v : ℚ) → v ≡ 0ℚ → v *ℚ inverse a ≡ 0ℚ
        none a v e = ap (λ v. v *ℚ inverse a) e ∙ Rattle.spec_exact.proofs.Ruleset.zero-*ℚ (inverse a)

    -- the entries after a pivot of the run are those of the pivoted matrix
    pub turned_entry : (i k : ℕ) → at_place out i k ≡ pivoted E p j i k
    turned_entry i k = by_eq i p
        (λ e. subst (λ i. at_place out i k ≡ pivoted E p j i k) (sym e) (turned_own k ∙ sym (pivoted_at E p j k)))
        (λ d. by_lt i m
        (λ l. by_lt k n
        (λ q. turned_is.before i k l d q)
        (λ q. past_row out i k n (turned_whole i l) q
        ∙ sym (kept E p j i k (past_row rows p k n (whole p p_in) q) ∙ past_row rows i k n (whole i l) q)))
        (λ l. past_rows out i k (omega (arith, l, turned_rows))
        ∙ sym (pivoted_off E p j i k d ∙ none (pivot_row E p j k)
        (past_rows rows i k (omega (arith, l, all))) (past_rows rows i j (omega (arith, l, all))))))
      where
        none : {v w : ℚ} (a : ℚ) → v ≡ 0ℚ → w ≡ 0ℚ → v -ℚ w *ℚ a ≡ 0ℚ
        none a e f = ap₂ (λ v w. v -ℚ w *ℚ a) e f ∙ close a
          where
            close : (a : ℚ) → 0ℚ -ℚ 0ℚ *ℚ a ≡ 0ℚ
            close a = simp ring
