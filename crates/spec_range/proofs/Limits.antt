-- A range at a limit beside the one without a limit.
use Rattle.std.proofs.Common.{◌≡◌, ◌≢◌, ◌⊎◌, inl, inr, ⊎_elim, ℕ, Option, Some, None, Result, Ok, Err, Bool}
use Rattle.std.proofs.Common.{◌+◌, not, ◌||◌, is_some, refl, sym, ap, ◌∙◌, List}
use Rattle.spec_exact.specs.Fraction.{ℚ, neg_ℚ, 1ℚ, lt_ℚ, 0ℚ}
use Rattle.spec_exact.specs.declared.past.Past.{Past}
use Rattle.spec_exact.specs.Run.{Run, ◌>>=◌, refused_as}
use Rattle.spec_model.specs.declared.parts.Sense.{Sense}
use Rattle.spec_model.specs.Model.{Model, cost, row}
use Rattle.spec_pivot.specs.declared.status.Status.{Status}
use Rattle.spec_pivot.specs.declared.status.Status.TheVariants.{Basic, AtLower, AtUpper, AtZero}
use Rattle.spec_simplex.specs.declared.ends.StartStop.{StartStop}
use Rattle.spec_simplex.specs.declared.ends.StartStop.TheVariants as stop
use Rattle.spec_simplex.specs.Form.{Form, form_of, least_cost}
use Rattle.spec_simplex.specs.Tableau.{Tableau, all_columns, entry_at, value_at, reduced_at, status_at}
use Rattle.spec_simplex.specs.Tableau.{lower_at, upper_at, is_basic, is_fixed}
use Rattle.spec_simplex.specs.Dual.{place_of}
use Rattle.spec_simplex.specs.Eliminate.{start_from}
use Rattle.spec_simplex.proofs.Refusals.{Agrees, as_it_is, agrees_then, agrees_if, agrees_steps, agrees_as}
use Rattle.spec_simplex.proofs.Refusals.{agrees_sum, agrees_difference, agrees_quotient, agrees_order}
use Rattle.spec_simplex.proofs.LimitStart.{ok, also, form_without}
use Rattle.spec_runs.proofs.LimitSteps.{from_agrees}
use Rattle.spec_range.specs.declared.range.Ends.{Ends}
use Rattle.spec_range.specs.declared.range.Range.{Range}
use Rattle.spec_range.specs.Span.{Keeps}
use Rattle.spec_range.specs.Rule.{no_ends, greater_run, lesser_run, at_least, at_most, at_side}
use Rattle.spec_range.specs.Rule.{ends_by, falls_by, own_number, own_ends, is_moved, moved_ends, basic_ends}
use Rattle.spec_range.specs.Rule.{cost_run, shifted_run, still_ends, bound_ends, carried_ends, is_carried}
use Rattle.spec_range.specs.Rule.{nonbasic_ends, side_run, cost_range, side_range}
use Rattle.spec_exact.proofs.Results.{ok_same}

module _ (limit : Option ℕ) where
  -- ---- ends
  -- the greater of two lower ends at a limit is that without a limit, or its comparison is refused
  greater_agrees : (new : ℚ) (kept : Option ℚ) → Agrees as_it_is (greater_run limit new kept) (greater_run None new kept)
  greater_agrees new None = ok _
  greater_agrees new (Some kept) = also _ _ _ _ (agrees_order limit new kept) (λ o. ok _)

  -- the lesser of two upper ends at a limit is that without a limit, or its comparison is refused
  lesser_agrees : (new : ℚ) (kept : Option ℚ) → Agrees as_it_is (lesser_run limit new kept) (lesser_run None new kept)
  lesser_agrees new None = ok _
  lesser_agrees new (Some kept) = also _ _ _ _ (agrees_order limit new kept) (λ o. ok _)

  -- ends with a further lower end at a limit are those without a limit, or an operation is refused
  least_agrees : (v : ℚ) (e : Ends ℚ) → Agrees as_it_is (at_least limit v e) (at_least None v e)
  least_agrees v e = also _ _ _ _ (greater_agrees v e.low) (λ o. ok _)

  -- ends with a further upper end at a limit are those without a limit, or an operation is refused
  most_agrees : (v : ℚ) (e : Ends ℚ) → Agrees as_it_is (at_most limit v e) (at_most None v e)
  most_agrees v e = also _ _ _ _ (lesser_agrees v e.high) (λ o. ok _)

  -- ends with a further end at a side, at a limit, are those without a limit, or an operation is refused
  at_side_agrees : (upper : Bool) (v : ℚ) (e : Ends ℚ) → Agrees as_it_is (at_side limit upper v e) (at_side None upper v e)
  at_side_agrees upper v e = agrees_if as_it_is upper _ _ _ _ (most_agrees v e) (least_agrees v e)

  -- ---- costs
  -- the ends that a status asks of a cost at a limit are those without a limit, or an operation is refused
  by_agrees : (s : Status) (falls : Bool) (v : ℚ) (e : Ends ℚ) →
      Agrees as_it_is (ends_by limit s falls v e) (ends_by None s falls v e)
  by_agrees Basic falls v e = ok _
  by_agrees AtLower falls v e = at_side_agrees falls v e
  by_agrees AtUpper falls v e = at_side_agrees (not falls) v e
  by_agrees AtZero falls v e = also _ _ _ _ (least_agrees v e) (λ e. most_agrees v e)

  -- the cost at which a column's own reduced cost is 0, at a limit, is that without a limit, or an operation is refused
  number_agrees : (s : Sense) (c : ℚ) (st : Status) (d : ℚ) →
      Agrees as_it_is (own_number limit s c st d) (own_number None s c st d)
  number_agrees s c Basic d = ok _
  number_agrees s c AtLower d = agrees_difference limit c (least_cost s d)
  number_agrees s c AtUpper d = agrees_difference limit c (least_cost s d)
  number_agrees s c AtZero d = ok _

  -- the ends for the cost of a nonbasic column at a limit are those without a limit, or an operation is refused
  own_agrees : (s : Sense) (c : ℚ) (t : Tableau) (j : ℕ) →
      Agrees as_it_is (own_ends limit s c t j) (own_ends None s c t j)
  own_agrees s c t j =
      agrees_if as_it_is (is_fixed (lower_at t j) (upper_at t j)) _ _ _ _ (ok _)
      (also _ _ _ _ (number_agrees s c (status_at t j) (reduced_at t j))
      (λ v. by_agrees (status_at t j) (falls_by s (neg_ℚ 1ℚ)) v no_ends))

  -- the ends that one column gives for a basic column's cost, at a limit, are those without a limit, or an operation is
  -- refused
  moved_agrees : (s : Sense) (c : ℚ) (t : Tableau) (p k : ℕ) (e : Ends ℚ) →
      Agrees as_it_is (moved_ends limit s c t p k e) (moved_ends None s c t p k e)
  moved_agrees s c t p k e =
      also _ _ _ _ (agrees_quotient limit (least_cost s (reduced_at t k)) (entry_at t p k)) (λ q.
      also _ _ _ _ (agrees_sum limit c q) (λ v.
      by_agrees (status_at t k) (falls_by s (entry_at t p k)) v e))

  -- the ends for the cost of a basic column at a limit are those without a limit, or an operation is refused
  basic_agrees : (s : Sense) (c : ℚ) (t : Tableau) (p : ℕ) →
      Agrees as_it_is (basic_ends limit s c t p) (basic_ends None s c t p)
  basic_agrees s c t p =
      agrees_steps as_it_is (all_columns t) _ _ no_ends (λ k e. agrees_if as_it_is (is_moved t p k) _ _ _ _
      (moved_agrees s c t p k e) (ok e))

  -- the range of a cost over a tableau at a limit is that without a limit, or an operation is refused
  cost_agrees : (m : Model) (t : Tableau) (j : ℕ) → Agrees as_it_is (cost_run limit m t j) (cost_run None m t j)
  unfolding cost_run
  cost_agrees m t j =
      also _ _ _ _ (agrees_if as_it_is (is_basic (status_at t j)) _ _ _ _
      (basic_agrees m.sense (cost m j) t (place_of t j)) (own_agrees m.sense (cost m j) t j)) (λ e. ok _)

  -- ---- right sides
  -- the right side that a limit of a row gives, at a limit on numbers, is that without one, or an operation is refused
  shifted_agrees : (b v : ℚ) (bound : Option ℚ) →
      Agrees as_it_is (shifted_run limit b v bound) (shifted_run None b v bound)
  shifted_agrees b v None = ok _
  shifted_agrees b v (Some bound) =
      also _ _ _ _ (agrees_difference limit v bound) (λ g. also _ _ _ _ (agrees_sum limit b g) (λ x. ok _))

  -- the ends for a right side whose logical is basic at a limit are those without a limit, or an operation is refused
  still_agrees : (b v : ℚ) (lower upper : Option ℚ) →
      Agrees as_it_is (still_ends limit b v lower upper) (still_ends None b v lower upper)
  still_agrees b v lower upper =
      also _ _ _ _ (shifted_agrees b v lower) (λ high. also _ _ _ _ (shifted_agrees b v upper) (λ low. ok _))

  -- the ends with that of one bound of a basic column at a limit are those without a limit, or an operation is refused
  bound_agrees : (b v a : ℚ) (bound : Option ℚ) (upper : Bool) (e : Ends ℚ) →
      Agrees as_it_is (bound_ends limit b v a bound upper e) (bound_ends None b v a bound upper e)
  bound_agrees b v a None upper e = ok _
  bound_agrees b v a (Some bound) upper e =
      also _ _ _ _ (agrees_difference limit v bound) (λ g. also _ _ _ _ (agrees_quotient limit g a) (λ q.
      also _ _ _ _ (agrees_sum limit b q) (λ x. at_side_agrees upper x e)))

  -- the ends with those of both bounds of a basic column at a limit are those without a limit, or an operation is
  -- refused
  carried_agrees : (b v a : ℚ) (lower upper : Option ℚ) (e : Ends ℚ) →
      Agrees as_it_is (carried_ends limit b v a lower upper e) (carried_ends None b v a lower upper e)
  carried_agrees b v a lower upper e =
      also _ _ _ _ (bound_agrees b v a lower (lt_ℚ 0ℚ a) e) (λ e. bound_agrees b v a upper (not (lt_ℚ 0ℚ a)) e)

  -- the ends for a right side whose logical is nonbasic at a limit are those without a limit, or an operation is
  -- refused
  nonbasic_agrees : (b : ℚ) (t : Tableau) (s : ℕ) →
      Agrees as_it_is (nonbasic_ends limit b t s) (nonbasic_ends None b t s)
  nonbasic_agrees b t s =
      agrees_steps as_it_is (all_columns t) _ _ no_ends (λ k e. agrees_if as_it_is (is_carried t s k) _ _ _ _
      (carried_agrees b (value_at t k) (entry_at t (place_of t k) s) (lower_at t k) (upper_at t k) e) (ok e))

  -- the range of a right side over a tableau at a limit is that without a limit, or an operation is refused
  side_agrees : (m : Model) (t : Tableau) (i : ℕ) → Agrees as_it_is (side_run limit m t i) (side_run None m t i)
  unfolding side_run
  side_agrees m t i =
      also _ _ _ _ (agrees_if as_it_is (is_basic (status_at t (t.cols + i))) _ _ _ _
      (still_agrees (row m i).rhs (value_at t (t.cols + i)) (lower_at t (t.cols + i)) (upper_at t (t.cols + i)))
      (agrees_if as_it_is (is_some (lower_at t (t.cols + i)) || is_some (upper_at t (t.cols + i))) _ _ _ _
      (nonbasic_agrees (row m i).rhs t (t.cols + i)) (ok _))) (λ e. ok _)

  -- ---- the whole
  -- the range of a cost from a basis at a limit is that without a limit, or an operation is refused
  cost_range_agrees : (m : Model) (f : Form) (basis : List Status) (j : ℕ) →
      Agrees stop.Past (cost_range limit m f basis j) (cost_range None m f basis j)
  unfolding cost_range
  cost_range_agrees m f basis j =
      agrees_then stop.Past _ _ _ _ (from_agrees limit f basis) (λ t. agrees_as stop.Past _ _ (cost_agrees m t j))

  -- the range of a right side from a basis at a limit is that without a limit, or an operation is refused
  side_range_agrees : (m : Model) (f : Form) (basis : List Status) (i : ℕ) →
      Agrees stop.Past (side_range limit m f basis i) (side_range None m f basis i)
  unfolding side_range
  side_range_agrees m f basis i =
      agrees_then stop.Past _ _ _ _ (from_agrees limit f basis) (λ t. agrees_as stop.Past _ _ (side_agrees m t i))

-- ---- a basis that keeps a model has its range, unless an operation is refused
-- the second result is a range, and the first is the same range or says that an operation is refused
abbrev pub IsOr : Result (Range ℚ) (StartStop ℚ) → Result (Range ℚ) (StartStop ℚ) → Type 0
IsOr o u = (r : Range ℚ) × (u ≡ Ok r) × ((o ≡ Ok r) ⊎ ((p : Past ℚ) × (o ≡ Err (stop.Past p))))

module _ (limit : Option ℕ) (m : Model) (f : Form) (formed : form_of limit m ≡ Ok f) (basis : List Status)
    (keeps : Keeps m basis) where
  -- a basis that keeps the model has a tableau in its form without a limit
  started : start_from None f basis ≡ Ok keeps.tableau
  started =
      ap (λ f. start_from None f basis) (ok_same f keeps.form (sym (form_without limit m f formed) ∙ keeps.formed))
      ∙ keeps.started

  -- a run over the tableau of a basis that keeps the model, if nothing is refused, gives a range
  ends : (run : Tableau → Run (Range ℚ)) → ((p : Past ℚ) → (start_from None f basis >>=
      λ t. refused_as stop.Past (run t)) ≢ Err (stop.Past p)) →
      (r : Range ℚ) × ((start_from None f basis >>= λ t. refused_as stop.Past (run t)) ≡ Ok r)
  ends run never = by (run keeps.tableau) refl
    where
      here : (o : Run (Range ℚ)) → run keeps.tableau ≡ o →
          (start_from None f basis >>= λ t. refused_as stop.Past (run t)) ≡ refused_as stop.Past o
      here o e = ap (λ z. z >>= λ t. refused_as stop.Past (run t)) started ∙ ap (refused_as stop.Past) e

      by : (o : Run (Range ℚ)) → run keeps.tableau ≡ o →
          (r : Range ℚ) × ((start_from None f basis >>= λ t. refused_as stop.Past (run t)) ≡ Ok r)
      by (Ok r) e = (r, here (Ok r) e)
      by (Err p) e = absurd (never p (here (Err p) e))

  -- where a basis keeps the model, the cost of column j has a range without a limit, and at a limit the same or a
  -- refusal
  pub cost_gives : (j : ℕ) → IsOr (cost_range limit m f basis j) (cost_range None m f basis j)
  unfolding cost_range
  cost_gives j =
      let a = cost_range_agrees limit m f basis j in
      let o = ends (λ t. cost_run None m t j) a.exact in
      (o.0, o.1, ⊎_elim (λ e. inl (e ∙ o.1)) (λ p. inr p) a.same)

  -- where a basis keeps the model, the right side of row i has a range without a limit, and at a limit the same or a
  -- refusal
  pub side_gives : (i : ℕ) → IsOr (side_range limit m f basis i) (side_range None m f basis i)
  unfolding side_range
  side_gives i =
      let a = side_range_agrees limit m f basis i in
      let o = ends (λ t. side_run None m t i) a.exact in
      (o.0, o.1, ⊎_elim (λ e. inl (e ∙ o.1)) (λ p. inr p) a.same)
