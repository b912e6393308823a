-- A pivot, part by part: the values, the value of the column that enters, the rows, and the reduced costs.
use Rattle.std.proofs.Common.{◌≡◌, ℕ, List, Option, Some, Ok, Err, sym, ap, ◌∙◌}
use Rattle.spec_exact.specs.Fraction.{ℚ}
use Rattle.spec_exact.specs.declared.past.Past.{Past}
use Rattle.spec_pivot.specs.declared.status.Status.{Status}
use Rattle.spec_exact.specs.Run.{Run, ◌>>=◌}
use Rattle.spec_simplex.specs.Tableau.{Tableau, all_columns}
use Rattle.spec_simplex.specs.Step.{moved_run, shifted_run, turned_run, repriced_run, turned, exchanged, pivot_run}
use Rattle.lp_tableau.proofs.Moved.{MovedFrom}

-- u is t but for its rows
abbrev pub TurnedFrom : Tableau → Tableau → Type 0
TurnedFrom t u = u ≡ record t { entries = u.entries }

abbrev pub RepricedFrom : Tableau → Tableau → Type 0
RepricedFrom t u = u ≡ record t { reduced = u.reduced }

abbrev with_value : List ℚ → Tableau → Tableau
with_value value t = record t { value = value }

abbrev with_entries : List (List ℚ) → Tableau → Tableau
with_entries entries t = record t { entries = entries }

abbrev with_reduced : List ℚ → Tableau → Tableau
with_reduced reduced t = record t { reduced = reduced }

module _ (limit : Option ℕ) (t : Tableau) (p j : ℕ) (theta : ℚ) (to : Status) where
  -- what is left of a pivot after the shifted values and the turned rows: the new reduced costs, and the exchange
  abbrev after_rows : List ℚ → List (List ℚ) → Run Tableau
  after_rows shifted rows =
      repriced_run limit (all_columns t) t.reduced rows p j >>=
      λ reduced. Ok (exchanged (turned t shifted rows reduced) p j to)

  abbrev after_shift : List ℚ → Run Tableau
  after_shift shifted = turned_run limit t.rows (all_columns t) t.entries p j >>= λ rows. after_rows shifted rows

  abbrev after_move : List ℚ → Run Tableau
  after_move values = shifted_run limit values j theta >>= λ shifted. after_shift shifted

  pub move_stops : (e : Past ℚ) → moved_run limit t j theta (Some p) ≡ Err e → pivot_run limit t p j theta to ≡ Err e
  unfolding pivot_run
  move_stops e h = ap (λ o. o >>= λ values. after_move values) h

  module _ (u : Tableau) (m : moved_run limit t j theta (Some p) ≡ Ok u.value) where
    from_move : pivot_run limit t p j theta to ≡ after_move u.value
    unfolding pivot_run
    from_move = ap (λ o. o >>= λ values. after_move values) m

    pub shift_stops : (e : Past ℚ) → shifted_run limit u.value j theta ≡ Err e → pivot_run limit t p j theta to ≡ Err e
    shift_stops e h = from_move ∙ ap (λ o. o >>= λ shifted. after_shift shifted) h

    module _ (v : Tableau) (s : shifted_run limit u.value j theta ≡ Ok v.value)
        (f : MovedFrom t u) (g : MovedFrom u v) where
      from_shift : pivot_run limit t p j theta to ≡ after_shift v.value
      from_shift = from_move ∙ ap (λ o. o >>= λ shifted. after_shift shifted) s

      moved_twice : MovedFrom t v
      moved_twice = g ∙ ap (with_value v.value) f

      same_rows : turned_run limit v.rows (all_columns v) v.entries p j
          ≡ turned_run limit t.rows (all_columns t) t.entries p j
      same_rows = ap (λ x. turned_run limit x.rows (all_columns x) x.entries p j) moved_twice

      pub turn_stops : (e : Past ℚ) → turned_run limit v.rows (all_columns v) v.entries p j ≡ Err e →
          pivot_run limit t p j theta to ≡ Err e
      turn_stops e h = from_shift ∙ ap (λ o. o >>= λ rows. after_rows v.value rows) (sym same_rows ∙ h)

      module _ (w : Tableau) (r : turned_run limit v.rows (all_columns v) v.entries p j ≡ Ok w.entries)
          (k : TurnedFrom v w) where
        from_turn : pivot_run limit t p j theta to ≡ after_rows v.value w.entries
        from_turn = from_shift ∙ ap (λ o. o >>= λ rows. after_rows v.value rows) (sym same_rows ∙ r)

        all_turned : w ≡ record t { value = v.value; entries = w.entries }
        all_turned = k ∙ ap (with_entries w.entries) moved_twice

        same_costs : repriced_run limit (all_columns w) w.reduced w.entries p j
            ≡ repriced_run limit (all_columns t) t.reduced w.entries p j
        same_costs = ap (λ x. repriced_run limit (all_columns x) x.reduced w.entries p j) all_turned

        pub reprice_stops : (e : Past ℚ) → repriced_run limit (all_columns w) w.reduced w.entries p j ≡ Err e →
            pivot_run limit t p j theta to ≡ Err e
        reprice_stops e h =
            from_turn
            ∙ ap (λ o. o >>= λ reduced. Ok (exchanged (turned t v.value w.entries reduced) p j to)) (sym same_costs ∙ h)

        pub pivot_made : (x z : Tableau) → repriced_run limit (all_columns w) w.reduced w.entries p j ≡ Ok x.reduced →
            RepricedFrom w x → z ≡ exchanged x p j to → pivot_run limit t p j theta to ≡ Ok z
        pivot_made x z h l e =
            let all : x ≡ turned t v.value w.entries x.reduced = l ∙ ap (with_reduced x.reduced) all_turned in
            from_turn
            ∙ ap (λ o. o >>= λ reduced. Ok (exchanged (turned t v.value w.entries reduced) p j to)) (sym same_costs ∙ h)
            ∙ ap (λ y. Ok (exchanged y p j to)) (sym all) ∙ ap Ok (sym e)
