-- Steps up to an end within a budget, and the two phases of the cold solve, at a limit.
use Rattle.std.specs.Prelude.{ℕ, zero, suc, ◌+◌, ◌-◌, List, slice_set, Option, Some}
use Rattle.std.specs.Prelude.{Result, Ok, Err, Bool, not, ◌&&◌, if◌then◌else◌}
use Rattle.std.specs.List.{list_any}
use Rattle.spec_exact.specs.Fraction.{ℚ, 0ℚ, eq_ℚ}
use Rattle.spec_simplex.specs.Form.{Form}
use Rattle.spec_simplex.specs.declared.ends.PrimalEnd.{PrimalEnd}
use Rattle.spec_simplex.specs.declared.ends.PrimalEnd.TheVariants.{Optimal}
use Rattle.spec_simplex.specs.declared.ends.Choice.{Choice}
use Rattle.spec_simplex.specs.declared.ends.Choice.TheVariants.{End, Flip, Pivot}
use Rattle.spec_simplex.specs.declared.ends.RunStop.{RunStop}
use Rattle.spec_simplex.specs.declared.ends.RunStop.TheVariants as stop
use Rattle.spec_exact.specs.Run.{Run, ◌>>=◌, refused_as}
use Rattle.spec_simplex.specs.Tableau.{Tableau, form_columns, is_artificial, value_at}
use Rattle.spec_simplex.specs.Start.{priced_run, with_reduced, start_of}
use Rattle.spec_simplex.specs.Step.{choice_run, flip_run, pivot_run}

-- ---- steps up to an end

-- how steps ended, with the last tableau and the count of pivots and flips
pub record PrimalEnded : Type 0 where
  pub end : PrimalEnd
  pub tableau : Tableau
  pub used : ℕ

-- the tableau after the flip or the pivot that a choice is, or the refusal of an operation; a choice that is an end
-- leaves the tableau as it is
abbrev pub done_run : Option ℕ → Tableau → Choice ℚ → Run Tableau
done_run limit t (End end) = Ok t
done_run limit t (Flip j) = flip_run limit t j
done_run limit t (Pivot p j theta to) = pivot_run limit t p j theta to

-- how the steps end where the budget is used up: with the end that the choice is; as `Spent` if it is a flip or a pivot
abbrev pub end_or_spent : Tableau → ℕ → Choice ℚ → Result PrimalEnded (RunStop ℚ)
end_or_spent t used (End end) = Ok (record { end = end; tableau = t; used = used })
end_or_spent t used (Flip j) = Err stop.Spent
end_or_spent t used (Pivot p j theta to) = Err stop.Spent

-- a choice that is an end ends the steps; after a flip or a pivot, `next` goes on from the tableau that it leaves. A
-- refused operation ends them too.
abbrev pub end_or_next : Option ℕ → Tableau → ℕ → (Tableau → Result PrimalEnded (RunStop ℚ)) → Choice ℚ →
    Result PrimalEnded (RunStop ℚ)
end_or_next limit t used next (End end) = Ok (record { end = end; tableau = t; used = used })
end_or_next limit t used next (Flip j) = refused_as stop.Past (flip_run limit t j) >>= next
end_or_next limit t used next (Pivot p j theta to) = refused_as stop.Past (pivot_run limit t p j theta to) >>= next

-- steps of the primal method from the tableau t, up to an end or to the first refusal. Before t `used` flips and pivots
-- were made, and at most `left` more are; where more are needed, the run is `Spent`
unfoldable pub run_from : Option ℕ → ℕ → ℕ → Tableau → Result PrimalEnded (RunStop ℚ)
run_from limit zero used t = refused_as stop.Past (choice_run limit t) >>= end_or_spent t used
run_from limit (suc left) used t =
    refused_as stop.Past (choice_run limit t) >>= end_or_next limit t used (λ u. run_from limit left (used + 1) u)

-- ---- phase two: all artificials are fixed at 0, and the costs are the form's

-- these bounds, but with 0 in place of those of the m columns n to n + m - 1
abbrev pub fixed_at_zero : ℕ → ℕ → List (Option ℚ) → List (Option ℚ)
fixed_at_zero n zero bounds = bounds
fixed_at_zero n (suc m) bounds = slice_set (fixed_at_zero n m bounds) (n + m) (Some 0ℚ)

-- the tableau t with 0 as both bounds of each artificial column
abbrev pub without_artificials : Tableau → Tableau
without_artificials t =
    record t {
      lower = fixed_at_zero (form_columns t) t.rows t.lower;
      upper = fixed_at_zero (form_columns t) t.rows t.upper;
    }

-- the tableau with which phase two begins, by that with which phase one ended: artificial columns are fixed at 0, and
-- the reduced costs are those of the form's costs. An operation may be refused.
unfoldable pub phase_two_run : Option ℕ → Form → Tableau → Run Tableau
phase_two_run limit f t =
    priced_run limit (without_artificials t) f.cost >>= λ reduced. Ok (with_reduced (without_artificials t) reduced)

-- ---- the two phases

-- whether phase one is needed: whether some artificial column is basic in the tableau
abbrev pub wants_phase_one : Tableau → Bool
wants_phase_one t = list_any (λ k. is_artificial t k) t.basic

-- whether some artificial column of the tableau is basic and not 0; after phase one this says that no point is feasible
abbrev pub is_stuck : Tableau → Bool
is_stuck t = list_any (λ k. is_artificial t k && not (eq_ℚ (value_at t k) 0ℚ)) t.basic

-- phase one, where it is wanted: its end, or why it stops before one; else an optimal end at the same tableau, after no
-- step
abbrev pub phase_one : Option ℕ → ℕ → Tableau → Result PrimalEnded (RunStop ℚ)
phase_one limit budget t =
    if wants_phase_one t then run_from limit budget 0 t else Ok (record { end = Optimal; tableau = t; used = 0 })

-- how both phases ended: infeasible after phase one, with its last tableau and its count of flips and pivots; or
-- finished, as phase two ended
pub data PhasesEnd : Type 0 where
  Infeasible : Tableau → ℕ → PhasesEnd
  Finished : PrimalEnded → PhasesEnd

-- phase two from the end `one` of phase one, within what phase one left of the budget: its end, whose count of flips
-- and pivots goes on from that of phase one; or why it stops before an end
abbrev pub phase_two : Option ℕ → ℕ → Form → PrimalEnded → Result PhasesEnd (RunStop ℚ)
phase_two limit budget f one =
    refused_as stop.Past (phase_two_run limit f one.tableau) >>= λ t.
    run_from limit (budget - one.used) one.used t >>= λ two. Ok (Finished two)

-- the cold solve: the start, phase one, and phase two where a point is feasible. Both phases share the budget. It gives
-- how they end, or why they stop before an end.
unfoldable pub phases_run : Option ℕ → ℕ → Form → Result PhasesEnd (RunStop ℚ)
phases_run limit budget f =
    refused_as stop.Past (start_of limit f) >>= λ t.
    phase_one limit budget t >>= λ one.
    if is_stuck one.tableau then Ok (Infeasible one.tableau one.used) else phase_two limit budget f one
