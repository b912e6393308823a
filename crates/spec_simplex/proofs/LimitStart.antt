-- The form, the start and the steps at a limit agree with those without one, or an operation is refused.
--
-- `ok`: a run that gives a agrees with itself: at a limit and without one it is the same result.
-- `also`: where two runs agree, and so do what goes on from each result of theirs, the two go on in agreement.
-- `form_without`: the form of a model at a limit, where it has one, is its form without a limit.
use Rattle.std.proofs.Common.{◌≡◌, ℕ, ◌+◌, List, Option, Some, None, Ok, nat_eq, ⊎_elim, Result, Err, sym, ◌∙◌}
use Rattle.std.specs.declared.cmp.Ordering.{Ordering}
use Rattle.std.specs.declared.cmp.Ordering.TheVariants.{Less, Equal, Greater}
use Rattle.spec_exact.specs.Fraction.{ℚ, 0ℚ, abs_ℚ, lt_ℚ}
use Rattle.spec_model.specs.declared.parts.RowLimit.{RowLimit}
use Rattle.spec_model.specs.declared.parts.RowLimit.TheVariants.{Absent, Given, Sum, Difference}
use Rattle.spec_model.specs.Model.{Model, ExactRow, width, height, row, column, lower_of, upper_of, limit_run}
use Rattle.spec_pivot.specs.declared.status.Status.{Status}
use Rattle.spec_simplex.specs.declared.ends.Best.{Best}
use Rattle.spec_simplex.specs.declared.ends.Entering.{Entering}
use Rattle.spec_simplex.specs.declared.ends.FormFault.{FormFault}
use Rattle.spec_simplex.specs.declared.ends.FormFault.TheVariants as fault
use Rattle.spec_exact.specs.Run.{Run, ◌>>=◌}
use Rattle.spec_simplex.specs.Form.{Form, form_entry, form_lower, form_upper, limits_run}
use Rattle.spec_simplex.specs.Form.{clash_by, bounds_clash, column_clash, formed, form_of}
use Rattle.spec_simplex.specs.Start.{first_value, below_by, below_run, above_by, above_run, row_start_by}
use Rattle.spec_simplex.specs.Start.{row_start, cost_at, reduced_run, priced_run, start_of}
use Rattle.spec_simplex.specs.Tableau.{Tableau, all_columns, basic_at, entry_at, lower_at, upper_at, value_at}
use Rattle.spec_pivot.specs.declared.status.Way.{Way}
use Rattle.spec_simplex.specs.Step.{entering, range_run, rise_run, fall_run, directed, gap_run, better_run, with_gap}
use Rattle.spec_simplex.specs.Step.{best_with, best_run, choice_of, choice_run, is_place, moved_at, moved_run}
use Rattle.spec_simplex.specs.Step.{flip_run, scaled_run, cleared_run, shifted_run, turned_run, repriced_run, pivot_run}
use Rattle.spec_simplex.proofs.Refusals.{Agrees, as_it_is, agrees_ok, agrees_err, agrees_then, agrees_if}
use Rattle.spec_simplex.proofs.Refusals.{agrees_steps, agrees_as, agrees_list, agrees_sum, agrees_difference}
use Rattle.spec_simplex.proofs.Refusals.{agrees_quotient, agrees_order, agrees_plus, agrees_less}

pub ok : {A : Type 0} (a : A) → Agrees {A = A} as_it_is (Ok a) (Ok a)
ok a = agrees_ok as_it_is a

pub also : {A B : Type 0} (o u : Run A) (f g : A → Run B) → Agrees as_it_is o u →
    ((a : A) → Agrees as_it_is (f a) (g a)) → Agrees as_it_is (o >>= f) (u >>= g)
also o u f g = agrees_then as_it_is o u f g

module _ (limit : Option ℕ) where
  -- ---- the form
  -- without a limit of numbers a row's limit is never refused; at one it is the same, or it is refused
  limit_agrees : (o : RowLimit ℚ) → Agrees as_it_is (limit_run limit o) (limit_run None o)
  limit_agrees Absent = ok _
  limit_agrees (Given v) = ok _
  limit_agrees (Sum v w) = also _ _ _ _ (agrees_sum limit v w) (λ s. ok _)
  limit_agrees (Difference v w) = also _ _ _ _ (agrees_difference limit v w) (λ d. ok _)

  -- without a limit the limits of a row are never refused; at a limit they are the same, or they are refused
  limits_agrees : (r : ExactRow) → Agrees as_it_is (limits_run limit r) (limits_run None r)
  limits_agrees r =
      also _ _ _ _ (limit_agrees (lower_of r)) (λ l. also _ _ _ _ (limit_agrees (upper_of r)) (λ u. ok (l, u)))

  -- the fault of two bounds by how they compare is never a refusal of an operation
  clash_agrees : (j : ℕ) (o : Ordering) → Agrees fault.Past (clash_by j o) (clash_by j o)
  clash_agrees j Less = agrees_ok fault.Past tt
  clash_agrees j Equal = agrees_ok fault.Past tt
  clash_agrees j Greater =
      agrees_err fault.Past (fault.Clash j)
      (λ p e. let z : ◌≡◌ {A = FormFault ℚ} (fault.Clash j) (fault.Past p) = e in cc)

  -- without a limit the test for a clash of two bounds is never refused; at a limit it is the same, or it is refused
  bounds_agrees : (j : ℕ) (l u : Option ℚ) → Agrees fault.Past (bounds_clash limit j l u) (bounds_clash None j l u)
  bounds_agrees j None u = agrees_ok fault.Past tt
  bounds_agrees j (Some l) None = agrees_ok fault.Past tt
  bounds_agrees j (Some l) (Some u) =
      agrees_then fault.Past _ _ _ _ (agrees_as fault.Past _ _ (agrees_order limit l u)) (λ o. clash_agrees j o)

  -- without a limit the form of a model is never refused; at a limit it is the same, or it is refused
  pub form_agrees : (m : Model) → Agrees fault.Past (form_of limit m) (form_of None m)
  unfolding form_of
  form_agrees m =
      agrees_then fault.Past _ _ _ _ (agrees_as fault.Past _ _ (agrees_list (height m) (λ i. limits_run limit (row m i))
      (λ i. limits_run None (row m i)) (λ i. limits_agrees (row m i)))) (λ ls.
      agrees_then fault.Past _ _ _ _ (agrees_steps fault.Past (width m) (λ j _. column_clash limit m j)
      (λ j _. column_clash None m j) tt (λ j _. bounds_agrees j (column m j).lower (column m j).upper)) (λ _.
      agrees_ok fault.Past (formed m ls)))

  -- ---- the start
  -- without a limit the gap below a lower limit, by how it compares, is never refused; at a limit it is the same, or it
  -- is refused
  below_by_agrees : (l v : ℚ) (o : Ordering) → Agrees as_it_is (below_by limit l v o) (below_by None l v o)
  below_by_agrees l v Less = also _ _ _ _ (agrees_difference limit l v) (λ gap. ok _)
  below_by_agrees l v Equal = ok _
  below_by_agrees l v Greater = ok _

  -- without a limit the gap below a lower limit is never refused; at a limit it is the same, or it is refused
  below_agrees : (l : Option ℚ) (v : ℚ) → Agrees as_it_is (below_run limit l v) (below_run None l v)
  below_agrees None v = ok _
  below_agrees (Some l) v = also _ _ _ _ (agrees_order limit v l) (below_by_agrees l v)

  -- without a limit the gap above an upper limit, by how it compares, is never refused; at a limit it is the same, or
  -- it is refused
  above_by_agrees : (u v : ℚ) (o : Ordering) → Agrees as_it_is (above_by limit u v o) (above_by None u v o)
  above_by_agrees u v Less = ok _
  above_by_agrees u v Equal = ok _
  above_by_agrees u v Greater = also _ _ _ _ (agrees_difference limit v u) (λ gap. ok _)

  -- without a limit the gap above an upper limit is never refused; at a limit it is the same, or it is refused
  above_agrees : (u : Option ℚ) (v : ℚ) → Agrees as_it_is (above_run limit u v) (above_run None u v)
  above_agrees None v = ok _
  above_agrees (Some u) v = also _ _ _ _ (agrees_order limit v u) (above_by_agrees u v)

  -- without a limit the start of a row, by its gap below, is never refused; at a limit it is the same, or it is refused
  start_by_agrees : (u : Option ℚ) (v : ℚ) (gap : Option ℚ) →
      Agrees as_it_is (row_start_by limit u v gap) (row_start_by None u v gap)
  start_by_agrees u v None = also _ _ _ _ (above_agrees u v) (λ gap. ok _)
  start_by_agrees u v (Some gap) = ok _

  -- without a limit the start of a row is never refused; at a limit it is the same, or it is refused
  pub row_start_agrees : (f : Form) (i : ℕ) → Agrees as_it_is (row_start limit f i) (row_start None f i)
  row_start_agrees f i =
      also _ _ _ _
      (agrees_steps as_it_is f.cols _ _ 0ℚ (λ j s. agrees_plus limit (form_entry f i j) (first_value f j) s)) (λ v.
      also _ _ _ _ (below_agrees (form_lower f (f.cols + i)) v)
      (λ gap. start_by_agrees (form_upper f (f.cols + i)) v gap))

  -- without a limit the reduced costs are never refused; at a limit they are the same, or they are refused
  pub priced_agrees : (t : Tableau) (costs : List ℚ) →
      Agrees as_it_is (priced_run limit t costs) (priced_run None t costs)
  unfolding priced_run
  priced_agrees t costs =
      agrees_list (all_columns t) (reduced_run limit t costs) (reduced_run None t costs)
      (λ k. agrees_steps as_it_is t.rows _ _ (cost_at costs k)
      (λ i d. agrees_less limit (cost_at costs (basic_at t i)) (entry_at t i k) d))

  -- without a limit the start of a form is never refused; at a limit it is the same, or it is refused
  pub start_agrees : (f : Form) → Agrees as_it_is (start_of limit f) (start_of None f)
  unfolding start_of
  start_agrees f =
      also _ _ _ _ (agrees_list f.rows (row_start limit f) (row_start None f) (row_start_agrees f)) (λ starts.
      also _ _ _ _ (priced_agrees _ _) (λ reduced. ok _))

  -- ---- one step
  -- without a limit the distance of the entering column's bounds is never refused; at a limit it is the same, or it is
  -- refused
  range_agrees : (e : Entering) (l u : Option ℚ) → Agrees as_it_is (range_run limit e l u) (range_run None e l u)
  range_agrees e None u = ok _
  range_agrees e (Some l) None = ok _
  range_agrees e (Some l) (Some u) = also _ _ _ _ (agrees_difference limit u l) (λ range. ok _)

  -- without a limit the gap of a value that rises is never refused; at a limit it is the same, or it is refused
  rise_agrees : (u : Option ℚ) (v : ℚ) → Agrees as_it_is (rise_run limit u v) (rise_run None u v)
  rise_agrees None v = ok _
  rise_agrees (Some u) v = also _ _ _ _ (agrees_difference limit u v) (λ gap. ok _)

  -- without a limit the gap of a value that falls is never refused; at a limit it is the same, or it is refused
  fall_agrees : (l : Option ℚ) (v : ℚ) → Agrees as_it_is (fall_run limit l v) (fall_run None l v)
  fall_agrees None v = ok _
  fall_agrees (Some l) v = also _ _ _ _ (agrees_difference limit v l) (λ gap. ok _)

  -- without a limit the gap of a position is never refused; at a limit it is the same, or it is refused
  gap_agrees : (way : Way) (a : ℚ) (l u : Option ℚ) (v : ℚ) →
      Agrees as_it_is (gap_run limit way a l u v) (gap_run None way a l u v)
  gap_agrees way a l u v =
      agrees_if as_it_is (lt_ℚ (directed way a) 0ℚ) _ _ _ _ (rise_agrees u v)
      (agrees_if as_it_is (lt_ℚ 0ℚ (directed way a)) _ _ _ _ (fall_agrees l v) (ok _))

  -- without a limit the better of two ratios is never refused; at a limit it is the same, or it is refused
  better_agrees : (new : Best ℚ) (best : Option (Best ℚ)) →
      Agrees as_it_is (better_run limit new best) (better_run None new best)
  better_agrees new None = ok _
  better_agrees new (Some best) = also _ _ _ _ (agrees_order limit new.ratio best.ratio) (λ o. ok _)

  -- without a limit the best ratio with a gap more is never refused; at a limit it is the same, or it is refused
  with_gap_agrees : (i k : ℕ) (a : ℚ) (best : Option (Best ℚ)) (gap : Option (ℚ × Status)) →
      Agrees as_it_is (with_gap limit i k a best gap) (with_gap None i k a best gap)
  with_gap_agrees i k a best None = ok _
  with_gap_agrees i k a best (Some (gap, to)) =
      also _ _ _ _ (agrees_quotient limit gap (abs_ℚ a)) (λ ratio. better_agrees _ best)

  -- without a limit the best ratio with a position more is never refused; at a limit it is the same, or it is refused
  best_with_agrees : (t : Tableau) (e : Entering) (i : ℕ) (best : Option (Best ℚ)) →
      Agrees as_it_is (best_with limit t e i best) (best_with None t e i best)
  best_with_agrees t e i best =
      also _ _ _ _ (gap_agrees e.direction (entry_at t i e.col) (lower_at t (basic_at t i)) (upper_at t (basic_at t i))
      (value_at t (basic_at t i))) (λ gap. with_gap_agrees i (basic_at t i) (entry_at t i e.col) best gap)

  -- without a limit the best ratio is never refused; at a limit it is the same, or it is refused
  pub best_agrees : (t : Tableau) (e : Entering) → Agrees as_it_is (best_run limit t e) (best_run None t e)
  best_agrees t e =
      also _ _ _ _ (range_agrees e _ _)
      (λ best. agrees_steps as_it_is t.rows (best_with limit t e) (best_with None t e) best (best_with_agrees t e))

  -- without a limit the choice by the entering column is never refused; at a limit it is the same, or it is refused
  choice_of_agrees : (t : Tableau) (e : Option Entering) → Agrees as_it_is (choice_of limit t e) (choice_of None t e)
  choice_of_agrees t None = ok _
  choice_of_agrees t (Some e) = also _ _ _ _ (best_agrees t e) (λ best. ok _)

  -- without a limit the choice of a step is never refused; at a limit it is the same, or it is refused
  pub choice_agrees : (t : Tableau) → Agrees as_it_is (choice_run limit t) (choice_run None t)
  unfolding choice_run
  choice_agrees t = choice_of_agrees t (entering t)

  -- without a limit the values after the move of one position are never refused; at a limit they are the same, or they
  -- are refused
  moved_at_agrees : (t : Tableau) (j : ℕ) (theta : ℚ) (i : ℕ) (values : List ℚ) →
      Agrees as_it_is (moved_at limit t j theta i values) (moved_at None t j theta i values)
  moved_at_agrees t j theta i values = also _ _ _ _ (agrees_less limit _ theta _) (λ v. ok _)

  -- without a limit the values after a move are never refused; at a limit they are the same, or they are refused
  pub moved_agrees : (t : Tableau) (j : ℕ) (theta : ℚ) (but : Option ℕ) →
      Agrees as_it_is (moved_run limit t j theta but) (moved_run None t j theta but)
  unfolding moved_run
  moved_agrees t j theta but =
      agrees_steps as_it_is t.rows _ _ t.value
      (λ i values. agrees_if as_it_is (is_place but i) _ _ _ _ (ok values) (moved_at_agrees t j theta i values))

  -- without a limit a flip is never refused; at a limit it is the same, or it is refused
  pub flip_agrees : (t : Tableau) (j : ℕ) → Agrees as_it_is (flip_run limit t j) (flip_run None t j)
  unfolding flip_run
  flip_agrees t j =
      also _ _ _ _ (agrees_difference limit _ _) (λ range. also _ _ _ _ (moved_agrees t j _ None) (λ values. ok _))

  -- without a limit the pivot's scaled row is never refused; at a limit it is the same, or it is refused
  scaled_agrees : (n : ℕ) (rows : List (List ℚ)) (p j : ℕ) →
      Agrees as_it_is (scaled_run limit n rows p j) (scaled_run None n rows p j)
  unfolding scaled_run
  scaled_agrees n rows p j = also _ _ _ _ (agrees_list n _ _ (λ k. agrees_quotient limit _ _)) (λ row. ok _)

  -- without a limit the clearing of a row is never refused; at a limit it is the same, or it is refused
  cleared_agrees : (n p j i : ℕ) (rows : List (List ℚ)) →
      Agrees as_it_is (cleared_run limit n p j i rows) (cleared_run None n p j i rows)
  unfolding cleared_run
  cleared_agrees n p j i rows = also _ _ _ _ (agrees_list n _ _ (λ k. agrees_less limit _ _ _)) (λ row. ok _)

  -- without a limit the rows after a pivot are never refused; at a limit they are the same, or they are refused
  pub turned_agrees : (m n : ℕ) (rows : List (List ℚ)) (p j : ℕ) →
      Agrees as_it_is (turned_run limit m n rows p j) (turned_run None m n rows p j)
  unfolding turned_run
  turned_agrees m n rows p j =
      also _ _ _ _ (scaled_agrees n rows p j) (λ scaled. agrees_steps as_it_is m _ _ scaled
      (λ i rows. agrees_if as_it_is (nat_eq i p) _ _ _ _ (ok rows) (cleared_agrees n p j i rows)))

  -- without a limit the reduced costs after a pivot are never refused; at a limit they are the same, or they are
  -- refused
  repriced_agrees : (n : ℕ) (reduced : List ℚ) (rows : List (List ℚ)) (p j : ℕ) →
      Agrees as_it_is (repriced_run limit n reduced rows p j) (repriced_run None n reduced rows p j)
  unfolding repriced_run
  repriced_agrees n reduced rows p j = agrees_list n _ _ (λ k. agrees_less limit _ _ _)

  -- without a limit values of which one is shifted are never refused; at a limit they are the same, or they are refused
  pub shifted_agrees : (values : List ℚ) (j : ℕ) (theta : ℚ) →
      Agrees as_it_is (shifted_run limit values j theta) (shifted_run None values j theta)
  unfolding shifted_run
  shifted_agrees values j theta = also _ _ _ _ (agrees_sum limit _ theta) (λ v. ok _)

  -- without a limit a pivot is never refused; at a limit it is the same, or it is refused
  pub pivot_agrees : (t : Tableau) (p j : ℕ) (theta : ℚ) (to : Status) →
      Agrees as_it_is (pivot_run limit t p j theta to) (pivot_run None t p j theta to)
  unfolding pivot_run
  pivot_agrees t p j theta to =
      also _ _ _ _ (moved_agrees t j theta (Some p)) (λ values.
      also _ _ _ _ (shifted_agrees values j theta) (λ shifted.
      also _ _ _ _ (turned_agrees _ _ _ p j) (λ rows.
      also _ _ _ _ (repriced_agrees _ _ rows p j) (λ reduced. ok _))))

-- a form at a limit is the one without
pub form_without : (limit : Option ℕ) (m : Model) (f : Form) → form_of limit m ≡ Ok f → form_of None m ≡ Ok f
form_without limit m f e =
    ⊎_elim
    (λ z. sym z ∙ e)
    (λ p. let z : ◌≡◌ {A = Result Form (FormFault ℚ)} (Ok f) (Err (fault.Past p.0)) = sym e ∙ p.1 in cc)
    ((form_agrees limit m).same)
