-- Both solves, pair by pair.
use Rattle.std.proofs.Common.{◌≡◌, ℕ, ◌+◌, ◌-◌, ◌<◌, List, [], ◌∷◌, ◌++◌, length, take, drop}
use Rattle.std.proofs.Common.{get_or, All, Some, Ok, Err, sym, ap, ap₂, ◌∙◌, subst, arith}
use Rattle.std.proofs.lemmas.List.{take_more, drop_more, take-append-drop}
use Rattle.spec_exact.specs.Fraction.{ℚ}
use Rattle.spec_exact.specs.Narrow.{IsNarrow, number_limit}
use Rattle.spec_exact.specs.declared.past.Past.{Past}
use Rattle.spec_exact.specs.Run.{Run, ◌>>=◌}
use Rattle.spec_factor.specs.Factors.{Pair, forward_run, ftran_run, backward_run, btran_run}

-- ---- ftran

-- where ftran by a first list of pairs gives w, ftran by this list and a second one is ftran of w by the second one
ftran-append : (m : ℕ) (es fs : List Pair) (v w : List ℚ) → ftran_run (Some number_limit) m es v ≡ Ok w →
    ftran_run (Some number_limit) m (es ++ fs) v ≡ ftran_run (Some number_limit) m fs w
ftran-append m [] fs v w h = let e : v ≡ w = cc in ap (ftran_run (Some number_limit) m fs) e
ftran-append m (e ∷ es) fs v w h = by (forward_run (Some number_limit) m e v) h (λ u k. ftran-append m es fs u w k)
  where
    by : (o : Run (List ℚ)) → (o >>= λ u. ftran_run (Some number_limit) m es u) ≡ Ok w →
        ((u : List ℚ) → ftran_run (Some number_limit) m es u ≡ Ok w →
        ftran_run (Some number_limit) m (es ++ fs) u ≡ ftran_run (Some number_limit) m fs w)
        → (o >>= λ u. ftran_run (Some number_limit) m (es ++ fs) u) ≡ ftran_run (Some number_limit) m fs w
    by (Ok u) h more = more u h
    by (Err p) h more = cc

-- ftran of v by the first k pairs gives w, which has m items, each of at most 127 bits
pub record ForwardDone (m : ℕ) (pairs : List Pair) (v : List ℚ) (k : ℕ) (w : List ℚ) : Type 0 where
  pub done : ftran_run (Some number_limit) (m) (take k pairs) v ≡ Ok w
  pub all : length w ≡ m
  pub narrow : All IsNarrow w

-- btran of v by the last k pairs gives w, which has m items, each of at most 127 bits
pub record BackwardDone (m : ℕ) (pairs : List Pair) (v : List ℚ) (k : ℕ) (w : List ℚ) : Type 0 where
  pub done : btran_run (Some number_limit) (m) (drop (length pairs - k) pairs) v ≡ Ok w
  pub all : length w ≡ m
  pub narrow : All IsNarrow w

module _ (m : ℕ) (pairs : List Pair) (ok : All (λ (e : Pair). length e.column ≡ m) pairs)
    (v : List ℚ) (same : length v ≡ m) where
  -- where ftran by the first k pairs gives w, and by pair k then u, of numbers of at most 127 bits, ftran by the first
  -- k + 1 pairs gives u
  pub ftran_next : (k : ℕ) (e : Pair) (w u : List ℚ) → e ≡ get_or pairs k e → k < length pairs →
      ForwardDone m pairs v k w → forward_run (Some number_limit) (length w) e w ≡ Ok u → length u ≡ length w →
      All IsNarrow u → ForwardDone m pairs v (k + 1) u
  ftran_next k e w u is l d h long n = record {
    done =
        ap (λ es. ftran_run (Some number_limit) m es v) (take_more pairs k e l ∙ ap (λ x. take k pairs ++ x ∷ []) (sym
        is))
        ∙ ftran-append m (take k pairs) (e ∷ []) v w d.done
        ∙ ap (λ o. o >>= λ x. Ok x) (subst (λ n. forward_run (Some number_limit) n e w ≡ Ok u) d.all h);
    all = long ∙ d.all;
    narrow = n;
  }

  -- where ftran by the first k pairs gives w, and pair k is refused an operation on w, ftran by all pairs is refused it
  pub ftran_stops : (k : ℕ) (e : Pair) (w : List ℚ) (p : Past ℚ) → e ≡ get_or pairs k e → k < length pairs →
      ForwardDone m pairs v k w → forward_run (Some number_limit) (length w) e w ≡ Err p →
      ftran_run (Some number_limit) m pairs v ≡ Err p
  ftran_stops k e w p is l d h =
      ap (λ es. ftran_run (Some number_limit) m es v) (split k e is l)
      ∙ ftran-append m (take k pairs) (e ∷ drop (k + 1) pairs) v w d.done
      ∙ ap (λ o. o >>= λ x. ftran_run (Some number_limit) m (drop (k + 1) pairs) x)
      (subst (λ n. forward_run (Some number_limit) n e w ≡ Err p) d.all h)
    where
      split : (k : ℕ) (e : Pair) → e ≡ get_or pairs k e → k < length pairs →
          pairs ≡ take k pairs ++ e ∷ drop (k + 1) pairs
      split k e is l =
          sym (take-append-drop k pairs)
          ∙ ap (λ xs. take k pairs ++ xs) (drop_more pairs k e l ∙ ap (λ x. x ∷ drop (k + 1) pairs) (sym is))

  -- ---- btran
  -- the last k + 1 pairs are the pair before the last k, and then these
  behind : (k : ℕ) (e : Pair) → k < length pairs → e ≡ get_or pairs (length pairs - 1 - k) e →
      drop (length pairs - (k + 1)) pairs ≡ e ∷ drop (length pairs - k) pairs
  behind k e l is =
      let z : length pairs - (k + 1) ≡ length pairs - 1 - k = omega arith in
      let y : length pairs - 1 - k + 1 ≡ length pairs - k = omega (arith, l) in
      ap (λ i. drop i pairs) z ∙ drop_more pairs (length pairs - 1 - k) e (omega (arith, l))
      ∙ ap₂ (λ x i. x ∷ drop i pairs) (sym is) y

  btran_stays : (es fs : List Pair) (p : Past ℚ) → btran_run (Some number_limit) m fs v ≡ Err p →
      btran_run (Some number_limit) m (es ++ fs) v ≡ Err p
  btran_stays [] fs p h = h
  btran_stays (e ∷ es) fs p h = ap (λ o. o >>= λ x. backward_run (Some number_limit) m e x) (btran_stays es fs p h)

  -- where btran by the last k pairs gives w, and the pair before these is refused an operation on w, btran by all pairs
  -- is refused it
  pub btran_stops : (k : ℕ) (e : Pair) (w : List ℚ) (p : Past ℚ) → e ≡ get_or pairs (length pairs - 1 - k) e →
      k < length pairs → BackwardDone m pairs v k w → backward_run (Some number_limit) (length w) e w ≡ Err p →
      btran_run (Some number_limit) m pairs v ≡ Err p
  btran_stops k e w p is l d h =
      ap (λ es. btran_run (Some number_limit) m es v) (sym (take-append-drop (length pairs - (k + 1)) pairs))
      ∙ btran_stays (take (length pairs - (k + 1)) pairs) (drop (length pairs - (k + 1)) pairs) p
      (ap (λ es. btran_run (Some number_limit) m es v) (behind k e l is)
      ∙ ap (λ o. o >>= λ x. backward_run (Some number_limit) m e x) d.done
      ∙ subst (λ n. backward_run (Some number_limit) n e w ≡ Err p) d.all h)
