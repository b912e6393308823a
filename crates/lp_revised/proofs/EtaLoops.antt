-- The loops over a pair's entries, as the code has their facts.
use Rattle.std.proofs.Common.{◌≡◌, ◌≢◌, ℕ, ◌+◌, ◌<◌, ◌≤◌, List, length, get_or, set}
use Rattle.std.proofs.Common.{slice_get, All, Some, Ok, Err, sym, ap, ap₂, ◌∙◌, subst}
use Rattle.std.proofs.lemmas.List.{length-set, get_or_default}
use Rattle.std.proofs.lemmas.List.Elements.{All-get_or, All-set}
use Rattle.std.proofs.lemmas.Option.{get_or_from_slice_get}
use Rattle.spec_exact.specs.Fraction.{ℚ, 0ℚ}
use Rattle.spec_exact.specs.Narrow.{IsNarrow, number_limit}
use Rattle.spec_exact.specs.declared.past.Past.{Past}
use Rattle.spec_exact.specs.Run.{Run, quotient_run, less_product}
use Rattle.spec_exact.proofs.RunsInOrder.{length-made}
use Rattle.spec_model.specs.Model.{entry_of}
use Rattle.spec_factor.specs.Factors.{Pair, forward_run, backward_run}
use Rattle.lp_revised.specs.Eta.{IsEta, pair_of}
use Rattle.lp_revised.proofs.Gaps.{Entries, row_at, value_at, row_inside}
use Rattle.lp_revised.proofs.EtaRuns.{ForwardTo, BackwardTo, forward_first, forward_other, forward_own, forward_stops}
use Rattle.lp_revised.proofs.EtaRuns.{forward_ends, forward_by, forward_nothing, forward_refused, backward_first}
use Rattle.lp_revised.proofs.EtaRuns.{backward_other, backward_own, backward_stops, backward_ends, backward_refused}

module _ {m place : ℕ} {pivot : ℚ} {es : Entries} {now : Pair} (view : pair_of m place es ≡ now)
    (h : IsEta m place pivot es) (v : List ℚ) (same : length now.column ≡ length v) where
  -- the list has as many items as there are places
  pub long : length v ≡ m
  long = sym same ∙ ap (λ (e : Pair). length e.column) (sym view) ∙ length-made m (λ i. entry_of es i)

  -- the pair's place is a place of the list
  pub place_in : place < length v
  place_in = subst (λ n. place < n) (sym long) h.inside

  as_forward : (r : Run (List ℚ)) → forward_run (Some number_limit) m (pair_of m place es) v ≡ r →
      forward_run (Some number_limit) (length v) now v ≡ r
  as_forward r e = ap₂ (λ n p. forward_run (Some number_limit) n p v) long (sym view) ∙ e

  as_backward : (r : Run (List ℚ)) → backward_run (Some number_limit) m (pair_of m place es) v ≡ r →
      backward_run (Some number_limit) (length v) now v ≡ r
  as_backward r e = ap₂ (λ n p. backward_run (Some number_limit) n p v) long (sym view) ∙ e

  own : (x : ℚ) → slice_get v place ≡ Some x → get_or v place 0ℚ ≡ x
  own x e = get_or_from_slice_get v place x 0ℚ e

  -- the entry that the loop has
  module _ {items : Entries} (all_items : items ≡ es) (c : ℕ) {item : ℕ × ℚ}
      (is : item ≡ get_or items c item) (c_in : c < length items) where
    c_here : c < length es
    c_here = subst (λ xs. c < length xs) all_items c_in

    item_is : item ≡ get_or es c (0, 0ℚ)
    item_is = is ∙ ap (λ xs. get_or xs c item) all_items ∙ get_or_default es c item (0, 0ℚ) c_here

    row_is : row_at es c ≡ item.0
    row_is = sym (ap (λ (e : ℕ × ℚ). e.0) item_is)

    value_is : value_at es c ≡ item.1
    value_is = sym (ap (λ (e : ℕ × ℚ). e.1) item_is)

    -- the place of entry c is a place of each list of that length
    pub item_in : (w : List ℚ) → length w ≡ m → item.0 < length w
    item_in w e = subst (λ n. item.0 < n) (sym e) (subst (λ r. r < m) row_is (row_inside m es h.entries c c_here))

    -- the value of entry c has at most 127 bits
    pub value_narrow : IsNarrow item.1
    value_narrow =
        subst IsNarrow value_is (All-get_or (λ (e : ℕ × ℚ). IsNarrow e.1) es c (0, 0ℚ) c_here h.narrow)

    -- ---- ftran
    module _ (narrow : All IsNarrow v) {q : ℚ} (narrow_q : IsNarrow q) {x0 : ℚ} (x0_is : slice_get v place ≡ Some x0)
        (q_is : quotient_run (Some number_limit) x0 pivot ≡ Ok q) {w : List ℚ} (d : ForwardTo m place es v q c w) where
      q_own : quotient_run (Some number_limit) (get_or v place 0ℚ) pivot ≡ Ok q
      q_own = ap (λ a. quotient_run (Some number_limit) a pivot) (own x0 x0_is) ∙ q_is

      run_is : (x : ℚ) (r : Run ℚ) → slice_get w item.0 ≡ Some x → less_product (Some number_limit) item.1 q x ≡ r →
          less_product (Some number_limit) (value_at es c) q (get_or w (row_at es c) 0ℚ) ≡ r
      run_is x r e k =
          ap₂ (λ a s. less_product (Some number_limit) a q s) value_is
          (ap (λ i. get_or w i 0ℚ) row_is ∙ get_or_from_slice_get w item.0 x 0ℚ e)
          ∙ k

      -- where ftran's loop came to entry c, which is not at the pair's place, and is refused its operation, ftran over
      -- the pair is refused it
      pub forward_stop : (x : ℚ) (p : Past ℚ) → item.0 ≢ place → slice_get w item.0 ≡ Some x →
          less_product (Some number_limit) item.1 q x ≡ Err p → forward_run (Some number_limit) (length v) now v ≡ Err p
      forward_stop x p n e k =
          as_forward (Err p) (forward_by m place pivot es h v q long narrow narrow_q q_own
          ∙ forward_stops m place pivot es h v q long narrow narrow_q c w p c_here
          (λ z. n (sym row_is ∙ z)) d.done (run_is x (Err p) e k))

      -- where ftran's loop came to entry c, which is not at the pair's place, setting the item there to itself less the
      -- entry times q brings the loop to entry c + 1
      pub forward_next : (x r : ℚ) (u : List ℚ) → item.0 ≢ place → slice_get w item.0 ≡ Some x →
          less_product (Some number_limit) item.1 q x ≡ Ok r → IsNarrow r → u ≡ set w item.0 r →
          ForwardTo m place es v q (c + 1) u
      forward_next x r u n e k narrow_r z =
          subst (ForwardTo m place es v q (c + 1)) (ap (λ i. set w i r) row_is ∙ sym z) (record {
            done =
                forward_other m place pivot es h v q long narrow narrow_q c w r c_here
                (λ z. n (sym row_is ∙ z)) d.done (run_is x (Ok r) e k);
            narrow = All-set IsNarrow w (row_at es c) r narrow_r d.narrow;
          })

      -- where ftran's loop came to entry c, which is at the pair's place, the list as it is brings the loop to entry c
      -- + 1
      pub forward_same : (u : List ℚ) → item.0 ≡ place → u ≡ w → ForwardTo m place es v q (c + 1) u
      forward_same u e z =
          subst (ForwardTo m place es v q (c + 1)) (sym z) (record {
            done = forward_own m place pivot es h v q long narrow narrow_q c w c_here (row_is ∙ e) d.done;
            narrow = d.narrow;
          })

    -- ---- btran
    module _ (narrow : All IsNarrow v) {s : ℚ} (d : BackwardTo m place es v c s) where
      back_is : (x : ℚ) (r : Run ℚ) → slice_get v item.0 ≡ Some x → less_product (Some number_limit) x item.1 s ≡ r →
          less_product (Some number_limit) (get_or v (row_at es c) 0ℚ) (value_at es c) s ≡ r
      back_is x r e k =
          ap₂ (λ a b. less_product (Some number_limit) a b s)
          (ap (λ i. get_or v i 0ℚ) row_is ∙ get_or_from_slice_get v item.0 x 0ℚ e) value_is
          ∙ k

      -- where btran's loop came to entry c, which is not at the pair's place, and is refused its operation, btran over
      -- the pair is refused it
      pub backward_stop : (x : ℚ) (p : Past ℚ) → item.0 ≢ place → slice_get v item.0 ≡ Some x →
          less_product (Some number_limit) x item.1 s ≡ Err p →
          backward_run (Some number_limit) (length v) now v ≡ Err p
      backward_stop x p n e k =
          as_backward (Err p) (backward_stops m place pivot es h v long narrow c s p c_here
          (λ z. n (sym row_is ∙ z)) d.done (back_is x (Err p) e k))

      -- where btran's loop came to entry c, which is not at the pair's place, taking the item there times the entry off
      -- s brings the loop to entry c + 1
      pub backward_next : (x r u : ℚ) → item.0 ≢ place → slice_get v item.0 ≡ Some x →
          less_product (Some number_limit) x item.1 s ≡ Ok r → IsNarrow r → u ≡ r → BackwardTo m place es v (c + 1) u
      backward_next x r u n e k narrow_r z =
          subst (BackwardTo m place es v (c + 1)) (sym z) (record {
            done =
                backward_other m place pivot es h v long narrow c s r c_here
                (λ z. n (sym row_is ∙ z)) narrow_r d.done (back_is x (Ok r) e k);
            narrow = narrow_r;
          })

      -- where btran's loop came to entry c, which is at the pair's place, s as it is brings the loop to entry c + 1
      pub backward_same : (u : ℚ) → item.0 ≡ place → u ≡ s → BackwardTo m place es v (c + 1) u
      backward_same u e z =
          subst (BackwardTo m place es v (c + 1)) (sym z) (record {
            done = backward_own m place pivot es h v long narrow c s c_here (row_is ∙ e) d.narrow d.done;
            narrow = d.narrow;
          })

  -- ---- before and after the loops
  -- before its first entry ftran's loop has the list with q, the item at the pair's place over the pivot, set there
  pub forward_starts : (narrow : All IsNarrow v) {q : ℚ} {w : List ℚ} → IsNarrow q → w ≡ set v place q →
      ForwardTo m place es v q 0 w
  forward_starts narrow {q} {w} narrow_q e =
      subst (ForwardTo m place es v q 0) (sym e) (record {
        done = forward_first m place pivot es h v q long narrow narrow_q;
        narrow = All-set IsNarrow v place q narrow_q narrow;
      })

  -- where the item at the pair's place over the pivot is 0, ftran over the pair gives the list with 0 set there
  pub forward_zero : (narrow : All IsNarrow v) {q x : ℚ} {w : List ℚ} → IsNarrow q → slice_get v place ≡ Some x →
      quotient_run (Some number_limit) x pivot ≡ Ok q → q ≡ 0ℚ → w ≡ set v place q →
      forward_run (Some number_limit) (length v) now v ≡ Ok w
  forward_zero narrow {q} {x} {w} narrow_q e k z is =
      as_forward (Ok w) (forward_by m place pivot es h v q long narrow narrow_q
      (ap (λ a. quotient_run (Some number_limit) a pivot) (own x e) ∙ k)
      ∙ forward_nothing m place pivot es h v q long narrow narrow_q z ∙ ap Ok (sym is))

  -- where the division by the pivot is refused, ftran over the pair is refused it
  pub forward_not : {x : ℚ} {p : Past ℚ} → slice_get v place ≡ Some x →
      quotient_run (Some number_limit) x pivot ≡ Err p →
      forward_run (Some number_limit) (length v) now v ≡ Err p
  forward_not {x} {p} e k =
      as_forward (Err p)
      (forward_refused m place pivot es h v p (ap (λ a. quotient_run (Some number_limit) a pivot) (own x e) ∙ k))

  -- where ftran's loop has passed all entries with the list w, ftran over the pair gives w
  pub forward_whole : (narrow : All IsNarrow v) {q x : ℚ} (c : ℕ) {w : List ℚ} → IsNarrow q →
      slice_get v place ≡ Some x → quotient_run (Some number_limit) x pivot ≡ Ok q → length es ≤ c →
      ForwardTo m place es v q c w
      → forward_run (Some number_limit) (length v) now v ≡ Ok w
  forward_whole narrow {q} {x} c {w} narrow_q e k l d =
      as_forward (Ok w) (forward_by m place pivot es h v q long narrow narrow_q
      (ap (λ a. quotient_run (Some number_limit) a pivot) (own x e) ∙ k)
      ∙ forward_ends m place pivot es h v q long narrow narrow_q c w l d.done)

  -- the list that ftran's loop has is as long as the one at the start
  pub forward_long : {q : ℚ} {c : ℕ} {w : List ℚ} → ForwardTo m place es v q c w → length w ≡ length v
  forward_long {q} d = d.done.all ∙ length-set v place q

  -- before its first entry btran's loop has the item at the pair's place
  pub backward_starts : (narrow : All IsNarrow v) {x : ℚ} → slice_get v place ≡ Some x → IsNarrow x →
      BackwardTo m place es v 0 x
  backward_starts narrow {x} e n =
      let z : get_or v place 0ℚ ≡ x = own x e in
      record { done = backward_first m place pivot es h v long narrow (subst IsNarrow (sym z) n) ∙ ap Ok z; narrow = n }

  -- where btran's loop has passed all entries with s, and the division of s by the pivot is refused, btran over the
  -- pair is refused it
  pub backward_not : (narrow : All IsNarrow v) (c : ℕ) {s : ℚ} {p : Past ℚ} → length es ≤ c →
      BackwardTo m place es v c s → quotient_run (Some number_limit) s pivot ≡ Err p →
      backward_run (Some number_limit) (length v) now v ≡ Err p
  backward_not narrow c {s} {p} l d k =
      as_backward (Err p) (backward_refused m place pivot es h v long narrow c s p l d.done k)

  -- where btran's loop has passed all entries with s, btran over the pair gives the list with s over the pivot set at
  -- the pair's place
  pub backward_whole : (narrow : All IsNarrow v) (c : ℕ) {s q : ℚ} {w : List ℚ} → length es ≤ c →
      BackwardTo m place es v c s → quotient_run (Some number_limit) s pivot ≡ Ok q → w ≡ set v place q →
      backward_run (Some number_limit) (length v) now v ≡ Ok w
  backward_whole narrow c {s} {q} {w} l d k e =
      as_backward (Ok w) (backward_ends m place pivot es h v long narrow c s q l d.done k ∙ ap Ok (sym e))
