-- The runs of ftran and btran over a pair, entry by entry.
use Rattle.std.proofs.Common.{◌≡◌, ◌≢◌, ℕ, ◌+◌, ◌<◌, ◌≤◌, List, length, take, get_or, set, All, Some, Ok}
use Rattle.std.proofs.Common.{Err, cond, nat_eq, refl, sym, ap, ap₂, ◌∙◌, subst, arith, eq-eqb, ne_eqb}
use Rattle.std.proofs.lemmas.List.{length-set, get_or-set_same, get_or-set_other}
use Rattle.std.proofs.lemmas.List.Elements.{All-get_or}
use Rattle.spec_exact.specs.Fraction.{ℚ, 0ℚ}
use Rattle.spec_exact.specs.Narrow.{IsNarrow, number_limit}
use Rattle.spec_exact.specs.declared.past.Past.{Past}
use Rattle.spec_model.specs.Model.{entry_of}
use Rattle.spec_pivot.proofs.Pivot.{by_eq}
use Rattle.spec_exact.specs.Run.{Run, ◌>>=◌, quotient_run, less_product, steps, list_run}
use Rattle.spec_exact.proofs.RunsInOrder.{get_or-made, list_stops, steps_more, steps_stop}
use Rattle.spec_factor.specs.Factors.{Pair, pair_at, forward_run, backward_run}
use Rattle.lp_revised.specs.Eta.{IsEta, pair_of}
use Rattle.lp_revised.proofs.Gaps.{Entries, row_at, value_at, bound, less_zero_left, less_zero_right, entry_there}
use Rattle.lp_revised.proofs.Gaps.{entry_narrow, row_inside, bound_at, bound_end, bound_least, next_bound, none_first}
use Rattle.lp_revised.proofs.Gaps.{none_between, DoneTo, none_done, one_done, still_to, whole_done, steps_to}

-- what ftran over a pair makes of item i of v: q at the pair's place, and else the item less the pair's entry times q
abbrev pub forward_at : ℕ → ℕ → Entries → List ℚ → ℚ → ℕ → Run ℚ
forward_at m place es v q i =
    cond (nat_eq i place) (Ok q) (less_product (Some number_limit) (pair_at (pair_of m place es) i) q (get_or v i 0ℚ))

-- what btran over a pair does at place i: it takes the item of v times the pair's entry off s; at the pair's own place
-- nothing
abbrev pub backward_at : ℕ → ℕ → Entries → List ℚ → ℕ → ℚ → Run ℚ
backward_at m place es v i s =
    cond (nat_eq i place) (Ok s) (less_product (Some number_limit) (get_or v i 0ℚ) (pair_at (pair_of m place es) i) s)

-- ftran over a pair has come to entry c, and the list is w, whose items have at most 127 bits
pub record ForwardTo (m place : ℕ) (es : Entries) (v : List ℚ) (q : ℚ) (c : ℕ) (w : List ℚ) : Type 0 where
  pub done : DoneTo (forward_at m place es v q) (bound m es c) (set v place q) w
  pub narrow : All IsNarrow w

-- btran over a pair has come to entry c, and what is left of the pair's own item is s, of at most 127 bits
pub record BackwardTo (m place : ℕ) (es : Entries) (v : List ℚ) (c : ℕ) (s : ℚ) : Type 0 where
  pub done : steps (bound m es c) (backward_at m place es v) (get_or v place 0ℚ) ≡ Ok s
  pub narrow : IsNarrow s

module _ (m place : ℕ) (pivot : ℚ) (es : Entries) (h : IsEta m place pivot es) where
  -- the eta pair of these entries
  abbrev pub pair : Pair
  pair = pair_of m place es

  -- the number of the pair at place i is that of its entries
  pub pair_is : (i : ℕ) → i < m → pair_at pair i ≡ entry_of es i
  pair_is i l = get_or-made m (λ i. entry_of es i) i 0ℚ l

  -- the number of the pair at its own place is the pivot
  pub pivot_is : pair_at pair place ≡ pivot
  pivot_is = pair_is place h.inside ∙ h.own

  entry_is : (c : ℕ) → c < length es → pair_at pair (row_at es c) ≡ value_at es c
  entry_is c l = pair_is (row_at es c) (row_inside m es h.entries c l) ∙ entry_there es h.entries.ascending c l

  -- ---- ftran
  module _ (v : List ℚ) (q : ℚ) (all : length v ≡ m) (narrow : All IsNarrow v) (narrow_q : IsNarrow q) where
    abbrev at : ℕ → Run ℚ
    at = forward_at m place es v q

    -- the list v with q at the pair's place
    abbrev pub begun : List ℚ
    begun = set v place q

    begun_long : length begun ≡ m
    begun_long = length-set v place q ∙ all

    begun_other : (i : ℕ) → i ≢ place → get_or begun i 0ℚ ≡ get_or v i 0ℚ
    begun_other i d = get_or-set_other v place i q 0ℚ d

    at_own : at place ≡ Ok (get_or begun place 0ℚ)
    at_own =
        rw (eq-eqb place place refl)
        (ap Ok (sym (get_or-set_same v place q 0ℚ (subst (λ n. place < n) (sym all) h.inside))))

    at_other : (i : ℕ) → i ≢ place → at i ≡ less_product (Some number_limit) (pair_at pair i) q (get_or v i 0ℚ)
    at_other i d = rw (ne_eqb i place d) refl

    skipped : (i : ℕ) → i < m → entry_of es i ≡ 0ℚ → at i ≡ Ok (get_or begun i 0ℚ)
    skipped i l e =
        by_eq i place
        (λ d. subst (λ i. at i ≡ Ok (get_or begun i 0ℚ)) (sym d) at_own)
        (λ d. at_other i d ∙ ap (λ a. less_product (Some number_limit) a q (get_or v i 0ℚ)) (pair_is i l ∙ e)
        ∙ less_zero_left q (get_or v i 0ℚ) narrow_q (All-get_or IsNarrow v i 0ℚ (subst (λ n. i < n) (sym all) l) narrow)
        ∙ ap Ok (sym (begun_other i d)))

    -- up to the place of the first entry ftran changes nothing but the pair's own item
    pub forward_first : DoneTo at (bound m es 0) begun begun
    forward_first =
        still_to at 0 (bound m es 0) begun begun (none_done at begun) (omega arith)
        (subst (λ n. bound m es 0 ≤ n) (sym begun_long) (bound_least m es h.entries 0))
        (λ i _ l. let b = bound_least m es h.entries 0 in
        skipped i (omega (arith, l, b)) (none_first m es h.entries i l))

    -- where q, the pair's own item over the pivot, is 0, ftran's run changes no other item: it gives v with q at the
    -- place
    pub forward_nothing : q ≡ 0ℚ → list_run m at ≡ Ok begun
    forward_nothing e =
        whole_done at m begun begun
        (still_to at 0 m begun begun (none_done at begun) (omega arith)
        (subst (λ n. m ≤ n) (sym begun_long) (omega arith)) (λ i _ l. at_zero i l)) begun_long
      where
        at_zero : (i : ℕ) → i < m → at i ≡ Ok (get_or begun i 0ℚ)
        at_zero i l =
            by_eq i place
            (λ d. subst (λ i. at i ≡ Ok (get_or begun i 0ℚ)) (sym d) at_own)
            (λ d. at_other i d ∙ ap₂ (λ a c. less_product (Some number_limit) a c (get_or v i 0ℚ)) (pair_is i l) e
            ∙ less_zero_right (entry_of es i) (get_or v i 0ℚ) (entry_narrow es h.narrow i)
            (All-get_or IsNarrow v i 0ℚ (subst (λ n. i < n) (sym all) l) narrow)
            ∙ ap Ok (sym (begun_other i d)))

    -- where the run is done past the place of entry c, it is done up to the next entry, or the end
    on : (c : ℕ) (w : List ℚ) → c < length es → DoneTo at (row_at es c + 1) begun w →
        DoneTo at (bound m es (c + 1)) begun w
    on c w l d =
        let n : row_at es c < bound m es (c + 1) = next_bound m es h.entries c l in
        let b = bound_least m es h.entries (c + 1) in
        still_to at (row_at es c + 1) (bound m es (c + 1)) begun w d (omega (arith, n))
        (subst (λ n. bound m es (c + 1) ≤ n) (sym (d.all ∙ begun_long)) b)
        (λ i p q. skipped i (omega (arith, q, b)) (none_between m es h.entries c i l (omega (arith, p)) q))

    at_entry : (c : ℕ) (w : List ℚ) → c < length es → DoneTo at (bound m es c) begun w → DoneTo at (row_at es c) begun w
    at_entry c w l d = subst (λ b. DoneTo at b begun w) (bound_at m es h.entries c l) d

    in_list : (c : ℕ) (w : List ℚ) → c < length es → DoneTo at (row_at es c) begun w → row_at es c < length w
    in_list c w l d = subst (λ n. row_at es c < n) (sym (d.all ∙ begun_long)) (row_inside m es h.entries c l)

    same_run : (c : ℕ) (w : List ℚ) → c < length es → row_at es c ≢ place → DoneTo at (row_at es c) begun w
        → at (row_at es c) ≡ less_product (Some number_limit) (value_at es c) q (get_or w (row_at es c) 0ℚ)
    same_run c w l n d =
        at_other (row_at es c) n
        ∙ ap₂ (λ a s. less_product (Some number_limit) a q s) (entry_is c l)
        (sym (d.rest (row_at es c) (omega arith) ∙ begun_other (row_at es c) n))

    -- where ftran is done up to entry c, which is not at the pair's place, setting the item there to itself less the
    -- entry times q does it up to the next entry
    pub forward_other : (c : ℕ) (w : List ℚ) (x : ℚ) → c < length es → row_at es c ≢ place →
        DoneTo at (bound m es c) begun w
        → less_product (Some number_limit) (value_at es c) q (get_or w (row_at es c) 0ℚ) ≡ Ok x →
        DoneTo at (bound m es (c + 1)) begun (set w (row_at es c) x)
    forward_other c w x l n d e =
        let d' = at_entry c w l d in
        on c (set w (row_at es c) x) l
        (one_done at (row_at es c) begun w x d' (in_list c w l d') (same_run c w l n d' ∙ e))

    -- where ftran is done up to entry c, which is at the pair's place, it is done up to the next entry
    pub forward_own : (c : ℕ) (w : List ℚ) → c < length es → row_at es c ≡ place → DoneTo at (bound m es c) begun w →
        DoneTo at (bound m es (c + 1)) begun w
    forward_own c w l e d =
        let d' = at_entry c w l d in
        let k : at (row_at es c) ≡ Ok (get_or begun (row_at es c) 0ℚ) =
        subst (λ i. at i ≡ Ok (get_or begun i 0ℚ)) (sym e) at_own in
        on c w l (still_to at (row_at es c) (row_at es c + 1) begun w d'
        (omega arith) (let z = in_list c w l d' in omega (arith, z))
        (λ i p q. let z : row_at es c ≡ i = omega (arith, p, q) in subst (λ i. at i ≡ Ok (get_or begun i 0ℚ)) z k))

    -- where ftran is done up to entry c, which is not at the pair's place, and its operation is refused there, the
    -- whole run is refused it
    pub forward_stops : (c : ℕ) (w : List ℚ) (p : Past ℚ) → c < length es → row_at es c ≢ place →
        DoneTo at (bound m es c) begun w
        → less_product (Some number_limit) (value_at es c) q (get_or w (row_at es c) 0ℚ) ≡ Err p → list_run m at ≡ Err p
    forward_stops c w p l n d e =
        let d' = at_entry c w l d in
        list_stops (row_at es c) m at (take (row_at es c) w) p
        (row_inside m es h.entries c l) d'.done (same_run c w l n d' ∙ e)

    -- where ftran is done past the last entry with the list w, the whole run gives w
    pub forward_ends : (c : ℕ) (w : List ℚ) → length es ≤ c → DoneTo at (bound m es c) begun w → list_run m at ≡ Ok w
    forward_ends c w l d =
        whole_done at m begun w (subst (λ b. DoneTo at b begun w) (bound_end m es h.entries c l) d) begun_long

    -- where the item at the pair's place over the pivot is q, ftran over the pair is the run that sets each place with
    -- q
    pub forward_by : (e : quotient_run (Some number_limit) (get_or v place 0ℚ) pivot ≡ Ok q) →
        forward_run (Some number_limit) m pair v ≡ list_run m at
    unfolding forward_run
    forward_by e =
        ap (λ o. o >>= λ q.
        list_run m (λ i. cond (nat_eq i place) (Ok q) (less_product (Some number_limit) (pair_at pair i) q (get_or v i
        0ℚ))))
        (ap (quotient_run (Some number_limit) (get_or v place 0ℚ)) pivot_is ∙ e)

  -- where the division of the pair's own item by the pivot is refused, ftran over the pair is refused it
  pub forward_refused : (v : List ℚ) (p : Past ℚ) → quotient_run (Some number_limit) (get_or v place 0ℚ) pivot ≡ Err p →
      forward_run (Some number_limit) m pair v ≡ Err p
  unfolding forward_run
  forward_refused v p e =
      ap (λ o. o >>= λ q.
      list_run m (λ i. cond (nat_eq i place) (Ok q) (less_product (Some number_limit) (pair_at pair i) q (get_or v i
      0ℚ))))
      (ap (quotient_run (Some number_limit) (get_or v place 0ℚ)) pivot_is ∙ e)

  -- ---- btran
  module _ (v : List ℚ) (all : length v ≡ m) (narrow : All IsNarrow v) where
    abbrev back_at : ℕ → ℚ → Run ℚ
    back_at = backward_at m place es v

    -- the item of v at the pair's place
    abbrev pub own_item : ℚ
    own_item = get_or v place 0ℚ

    left_out : (i : ℕ) (s : ℚ) → i < m → IsNarrow s → entry_of es i ≡ 0ℚ → back_at i s ≡ Ok s
    left_out i s l n e =
        by_eq i place
        (λ d. rw (eq-eqb i place d) refl)
        (λ d. rw (ne_eqb i place d) (ap (λ a. less_product (Some number_limit) (get_or v i 0ℚ) a s) (pair_is i l ∙ e)
        ∙ less_zero_right (get_or v i 0ℚ) s (All-get_or IsNarrow v i 0ℚ (subst (λ n. i < n) (sym all) l) narrow) n))

    -- up to the place of the first entry btran takes nothing off the pair's own item
    pub backward_first : IsNarrow own_item → steps (bound m es 0) back_at own_item ≡ Ok own_item
    backward_first n =
        steps_to back_at own_item own_item 0 (bound m es 0) refl (omega arith)
        (λ i _ l. let b = bound_least m es h.entries 0 in
        left_out i own_item (omega (arith, l, b)) n (none_first m es h.entries i l))

    further : (c : ℕ) (s : ℚ) → c < length es → IsNarrow s → steps (row_at es c + 1) back_at own_item ≡ Ok s →
        steps (bound m es (c + 1)) back_at own_item ≡ Ok s
    further c s l n e =
        let k : row_at es c < bound m es (c + 1) = next_bound m es h.entries c l in
        let b = bound_least m es h.entries (c + 1) in
        steps_to back_at own_item s (row_at es c + 1) (bound m es (c + 1)) e (omega (arith, k))
        (λ i p q. left_out i s (omega (arith, q, b)) n (none_between m es h.entries c i l (omega (arith, p)) q))

    there : (c : ℕ) (s : ℚ) → c < length es → steps (bound m es c) back_at own_item ≡ Ok s →
        steps (row_at es c) back_at own_item ≡ Ok s
    there c s l e = subst (λ b. steps b back_at own_item ≡ Ok s) (bound_at m es h.entries c l) e

    same_step : (c : ℕ) (s : ℚ) → c < length es → row_at es c ≢ place →
        back_at (row_at es c) s ≡ less_product (Some number_limit) (get_or v (row_at es c) 0ℚ) (value_at es c) s
    same_step c s l n =
        rw (ne_eqb (row_at es c) place n)
        (ap (λ a. less_product (Some number_limit) (get_or v (row_at es c) 0ℚ) a s) (entry_is c l))

    -- where btran has s up to entry c, which is not at the pair's place, it has s less the item there times the entry
    -- up to the next one
    pub backward_other : (c : ℕ) (s x : ℚ) → c < length es → row_at es c ≢ place → IsNarrow x →
        steps (bound m es c) back_at own_item ≡ Ok s
        → less_product (Some number_limit) (get_or v (row_at es c) 0ℚ) (value_at es c) s ≡ Ok x →
        steps (bound m es (c + 1)) back_at own_item ≡ Ok x
    backward_other c s x l n k e g =
        further c x l k (steps_more (row_at es c) back_at own_item s x (there c s l e) (same_step c s l n ∙ g))

    -- where btran has s up to entry c, which is at the pair's place, it has s up to the next entry
    pub backward_own : (c : ℕ) (s : ℚ) → c < length es → row_at es c ≡ place → IsNarrow s →
        steps (bound m es c) back_at own_item ≡ Ok s → steps (bound m es (c + 1)) back_at own_item ≡ Ok s
    backward_own c s l d k e =
        further c s l k
        (steps_more (row_at es c) back_at own_item s s (there c s l e) (rw (eq-eqb (row_at es c) place d) refl))

    abbrev after_steps : ℚ → Run (List ℚ)
    after_steps s = quotient_run (Some number_limit) s (pair_at pair place) >>= λ q. Ok (set v place q)

    -- where btran has s up to entry c, which is not at the pair's place, and its operation is refused there, btran over
    -- the pair is refused it
    pub backward_stops : (c : ℕ) (s : ℚ) (p : Past ℚ) → c < length es → row_at es c ≢ place →
        steps (bound m es c) back_at own_item ≡ Ok s
        → less_product (Some number_limit) (get_or v (row_at es c) 0ℚ) (value_at es c) s ≡ Err p →
        backward_run (Some number_limit) m pair v ≡ Err p
    unfolding backward_run
    backward_stops c s p l n e g =
        ap (λ o. o >>= after_steps) (steps_stop (row_at es c) m back_at own_item s p
        (row_inside m es h.entries c l) (there c s l e) (same_step c s l n ∙ g))

    ended : (c : ℕ) (s : ℚ) → length es ≤ c → steps (bound m es c) back_at own_item ≡ Ok s →
        steps m back_at own_item ≡ Ok s
    ended c s l e = subst (λ b. steps b back_at own_item ≡ Ok s) (bound_end m es h.entries c l) e

    -- where btran has s past the last entry, and s over the pivot is q, btran over the pair gives the list with q set
    -- at the pair's place
    pub backward_ends : (c : ℕ) (s q : ℚ) → length es ≤ c → steps (bound m es c) back_at own_item ≡ Ok s →
        quotient_run (Some number_limit) s pivot ≡ Ok q → backward_run (Some number_limit) m pair v ≡ Ok (set v place q)
    unfolding backward_run
    backward_ends c s q l e g =
        ap (λ o. o >>= after_steps) (ended c s l e)
        ∙ ap (λ o. o >>= λ q. Ok (set v place q)) (ap (quotient_run (Some number_limit) s) pivot_is ∙ g)

    -- where btran has s past the last entry, and the division of s by the pivot is refused, btran over the pair is
    -- refused it
    pub backward_refused : (c : ℕ) (s : ℚ) (p : Past ℚ) → length es ≤ c → steps (bound m es c) back_at own_item ≡ Ok s →
        quotient_run (Some number_limit) s pivot ≡ Err p → backward_run (Some number_limit) m pair v ≡ Err p
    unfolding backward_run
    backward_refused c s p l e g =
        ap (λ o. o >>= after_steps) (ended c s l e)
        ∙ ap (λ o. o >>= λ q. Ok (set v place q)) (ap (quotient_run (Some number_limit) s) pivot_is ∙ g)
