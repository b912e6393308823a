-- The computational form of a model from its parts, and the faults for which it has none.
--
-- `column_more`: pushing f of column j onto a list of f of the first j columns gives that of the first j + 1.
-- `row_more`: pushing the limits of row i onto the bounds of the columns and the first i rows gives those with row i.
-- `usual_form`: the form of a usual model is within the usual limits.
use Rattle.std.proofs.Common.{◌≡◌, ℕ, ◌+◌, ◌<◌, ◌≤◌, List, [], ◌∷◌, ◌++◌, length, take, get_or, map}
use Rattle.std.proofs.Common.{replicate, Option, Some, Result, Ok, Err, sym, subst, ap, ap₂, ◌∙◌, arith}
use Rattle.std.specs.Prelude.{All}
use Rattle.std.proofs.lemmas.List.{length-append, length-map, length-replicate, map_more, append_assoc, map-append}
use Rattle.spec_exact.specs.Fraction.{ℚ, 0ℚ}
use Rattle.spec_model.specs.Model.{Model, ExactColumn, width, height, row, no_column}
use Rattle.spec_model.specs.Kept.{AreEntries, IsUsual, large_limits}
use Rattle.spec_simplex.specs.declared.ends.FormFault.{FormFault}
use Rattle.spec_simplex.specs.declared.ends.FormFault.TheVariants as fault
use Rattle.spec_exact.specs.Run.{◌>>=◌, refused_as, list_run, steps}
use Rattle.spec_simplex.specs.Form.{Form, IsForm, IsFormWithin, limits_run, column_clash, least_cost, formed, form_of}
use Rattle.spec_simplex.proofs.FormOfModel.{form_is as form_of_is}
use Rattle.lp_form.specs.Answer.{IsFaultOf, IsStopOf}
use Rattle.spec_exact.proofs.RunsInOrder.{list_more}
use Rattle.spec_exact.specs.Narrow.{number_limit}
use Rattle.lp_form.specs.Bounds.{AreBounds}
use Rattle.lp_form.specs.Fault.{stop_of}
use Rattle.lp_frac.specs.declared.stop.Stop.{Stop}
use Rattle.lp_form.specs.declared.fault.Clash.{Clash}
use Rattle.lp_frac.specs.declared.stop.Stop.TheVariants.{Cause, NoMemory}
use Rattle.lp_frac.specs.declared.stop.Stop.TheVariants as stop

-- ---- one column more
pub column_more : {B : Type 0} (f : ExactColumn → B) (xs : List ExactColumn) (j : ℕ) (before after : List B) (v : B) →
    after ≡ before ++ v ∷ [] → before ≡ map f (take j xs) → v ≡ f (get_or xs j no_column) → j < length xs →
    after ≡ map f (take (j + 1) xs)
column_more f xs j before after v put so_far is l =
    put ∙ ap₂ (λ ys y. ys ++ y ∷ []) so_far is ∙ sym (map_more f xs j no_column l)

-- ---- one row more

-- where a list is a front and f of each item done, appending f of one more item gives the front and f of each item with
-- that one
pushed : {A B : Type 0} (f : A → B) (front : List B) (done : List A) (a : A) (all : List B) →
    all ≡ front ++ map f done → all ++ f a ∷ [] ≡ front ++ map f (done ++ a ∷ [])
pushed f front done a all h =
    ap (λ all. all ++ f a ∷ []) h
    ∙ append_assoc front (map f done) (f a ∷ [])
    ∙ ap (λ back. front ++ back) (sym (map-append f done (a ∷ [])))

pub row_more : (m : Model) (lower upper : List (Option ℚ)) (i : ℕ) (least most : Option ℚ) →
    AreBounds m i lower upper → limits_run (Some number_limit) (row m i) ≡ Ok (least, most) →
    AreBounds m (i + 1) (lower ++ least ∷ []) (upper ++ most ∷ [])
row_more m lower upper i least most b e =
    record {
      limits = b.limits ++ (least, most) ∷ [];
      taken = list_more i (λ i. limits_run (Some number_limit) (row m i)) b.limits (least, most) b.taken e;
      lower_is = pushed (λ l. l.0) (map (λ c. c.lower) m.columns) b.limits (least, most) lower b.lower_is;
      upper_is = pushed (λ l. l.1) (map (λ c. c.upper) m.columns) b.limits (least, most) upper b.upper_is;
    }

-- ---- the parts are those of a form
module _ (m : Model) (limits : List (Option ℚ × Option ℚ)) (rows cols : ℕ)
    (entries : List (List (ℕ × ℚ))) (lower upper : List (Option ℚ)) (cost : List ℚ)
    (a : rows ≡ height m) (b : cols ≡ width m) (c : entries ≡ map (λ c. c.entries) m.columns)
    (d : lower ≡ map (λ c. c.lower) m.columns ++ map (λ l. l.0) limits)
    (e : upper ≡ map (λ c. c.upper) m.columns ++ map (λ l. l.1) limits)
    (f : cost ≡ map (λ c. least_cost m.sense c.cost) m.columns ++ replicate (height m) 0ℚ) where
  -- the parts that the code has made are together the form of the model with these limits
  pub parts_are : record { rows = rows; cols = cols; entries = entries; lower = lower; upper = upper; cost = cost }
      ≡ formed m limits
  parts_are = cc

  -- a list of the bounds of all columns and the limits of all rows is as long as columns and rows together
  bounds_length : (of_column : ExactColumn → Option ℚ) (of_row : Option ℚ × Option ℚ → Option ℚ)
      (xs : List (Option ℚ)) → xs ≡ map of_column m.columns ++ map of_row limits → length limits ≡ height m →
      length xs ≡ cols + rows
  bounds_length of_column of_row xs h g =
      omega (
        arith,
        ap length h,
        length-append (map of_column m.columns) (map of_row limits),
        length-map m.columns of_column,
        length-map limits of_row,
        a,
        b,
        g,
      )

  -- the parts that the code has made are a form within the large limits
  pub is_form : length limits ≡ height m → rows ≤ 65536 → cols ≤ 131072 → All (AreEntries (height m)) entries →
      IsFormWithin large_limits (record { rows = rows; cols = cols; entries = entries; lower = lower; upper = upper; cost = cost })
  is_form g h i k =
      record {
        few_rows = h;
        few_columns = i;
        all_entries = ap length c ∙ length-map m.columns (λ (c : ExactColumn). c.entries) ∙ sym b;
        all_lower = bounds_length (λ c. c.lower) (λ l. l.0) lower d g;
        all_upper = bounds_length (λ c. c.upper) (λ l. l.1) upper e g;
        all_costs =
            omega (
              arith,
              ap length f,
              length-append (map (λ (c : ExactColumn). least_cost m.sense c.cost) m.columns) (replicate (height m) 0ℚ),
              length-map m.columns (λ (c : ExactColumn). least_cost m.sense c.cost),
              length-replicate (height m) 0ℚ,
              a,
              b,
            );
        columns = subst (λ n. All (AreEntries n) entries) (sym a) k;
      }

-- the form of a usual model is within the usual limits
pub usual_form : (m : Model) (f : Form) → IsUsual m → form_of (Some number_limit) m ≡ Ok f →
    IsFormWithin large_limits f → IsForm f
usual_form m f usual made within =
    let is = form_of_is (Some number_limit) m f made in
    record {
      few_rows = subst (λ (f : Form). f.rows ≤ 256) is.2 usual.few_rows;
      few_columns = subst (λ (f : Form). f.cols ≤ 512) is.2 usual.few_columns;
      all_entries = within.all_entries;
      all_lower = within.all_lower;
      all_upper = within.all_upper;
      all_costs = within.all_costs;
      columns = within.columns;
    }

-- ---- the form, or why there is none
module _ (limit : Option ℕ) (m : Model) where
  -- how the form comes of the limits of the rows: the first clash of bounds is the fault, else there is the form
  abbrev after_limits : List (Option ℚ × Option ℚ) → Result Form (FormFault ℚ)
  after_limits limits = steps (width m) (λ j _. column_clash limit m j) tt >>= λ _. Ok (formed m limits)

  -- where the limits of the rows are refused, that is why the model has no form
  pub limits_stop : (s : Stop Clash) → IsStopOf (list_run (height m) (λ i. limits_run limit (row m i))) s →
      IsFaultOf (form_of limit m) s
  unfolding form_of
  limits_stop (Cause clash) h = absurd h
  limits_stop (stop.Past p) h = ap (λ o. refused_as fault.Past o >>= λ limits. after_limits limits) h
  limits_stop NoMemory h = tt

  module _ (limits : List (Option ℚ × Option ℚ))
      (r : list_run (height m) (λ i. limits_run limit (row m i)) ≡ Ok limits) where
    -- where the limits of all rows are taken, the model's form is that after these limits
    from_limits : form_of limit m ≡ after_limits limits
    unfolding form_of
    from_limits = ap (λ o. refused_as fault.Past o >>= λ limits. after_limits limits) r

    -- where the limits are taken and the bounds of a column clash or are refused, that is why the model has no form
    clash_stops : (f : FormFault ℚ) → steps (width m) (λ j _. column_clash limit m j) tt ≡ Err f →
        form_of limit m ≡ Err f
    clash_stops f h = from_limits ∙ ap (λ o. o >>= λ _. Ok (formed m limits)) h

    -- where the limits are taken, the first clash or refusal of the columns' bounds is the code's reason for no form
    pub clash_is : (f : FormFault ℚ) → steps (width m) (λ j _. column_clash limit m j) tt ≡ Err f →
        IsFaultOf (form_of limit m) (stop_of f)
    clash_is (fault.Clash j) h = clash_stops (fault.Clash j) h
    clash_is (fault.Past p) h = clash_stops (fault.Past p) h

    -- where the limits are taken and no bounds clash, the form of the parts is the model's form
    pub form_is : (f : Form) → steps (width m) (λ j _. column_clash limit m j) tt ≡ Ok tt → f ≡ formed m limits →
        form_of limit m ≡ Ok f
    form_is f h e = from_limits ∙ ap (λ o. o >>= λ _. Ok (formed m limits)) h ∙ ap Ok (sym e)
