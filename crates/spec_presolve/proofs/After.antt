-- The model after a reduction, with what the step from the model before needs for its certificates.
--
-- `row_less`: a model has one row, at i, more than the model without row i.
-- `empty_step`: where row i is found to be without entries and 0 within its limits, the model has this row more than
--   the model without it, and nothing else.
-- `single_step`: where row i is found with one entry, in column j, the model has this row more than the model without
--   it, in which column j alone has other bounds: those that the row tightens.
-- `shifted_ok`: where moving all right sides for column j at v succeeds, each row has its own side less the entry times
--   v.
-- `fixed_parts`: where column j is removed at v, the right sides and the offset were moved before, without a refusal.
-- `fixed_step`: where column j is found to be fixed at v, the model has this column more than the one after its
--   removal, whose limits and offset are moved by what the column adds at v.
use Rattle.std.proofs.Common.{◌≡◌, ℕ, suc, ◌+◌, ◌<◌, ◌≤◌, Bool, true, false, cond, ltb, length, get_or}
use Rattle.std.proofs.Common.{Option, Ok, refl, sym, ap, ap₂, ◌∙◌, subst, arith, ⊎_elim}
use borrow.Author.Tests.{ltb-true, ltb-false}
use Rattle.std.proofs.lemmas.Bool.{cases_eq}
use Rattle.std.proofs.lemmas.List.{get_or-set_same, get_or-set_other, length-map, length-set}
use Rattle.std.proofs.lemmas.List.Edits.{length-remove, get_or-remove_below, get_or-remove_above}
use Rattle.std.specs.List.{remove}
use Rattle.spec_exact.specs.Fraction.{ℚ, ◌+ℚ◌, ◌-ℚ◌, ◌*ℚ◌}
use Rattle.spec_exact.specs.Run.{◌>>=◌, plus_product, less_product}
use Rattle.spec_exact.proofs.Results.{ok_same}
use Rattle.spec_simplex.proofs.RunParts.{then_ok, plus_ok, less_ok, steps_ok}
use Rattle.spec_simplex.proofs.FormRowLimits.{limits_ordered}
use Rattle.spec_model.specs.Model.{Model, Limits, ExactRow, ExactColumn, no_row, no_column, limits_of, bounds_of}
use Rattle.spec_model.specs.Model.{width, height, bounds, row, column, cost, coefficient, entry_of}
use Rattle.spec_edit.specs.Changes.{without_row, without_column, with_bounds, with_rhs, with_offset}
use Rattle.spec_edit.specs.Meaning.{skipping}
use Rattle.spec_edit.proofs.Keeping.{lowered}
use Rattle.spec_edit.proofs.Meanings.{without_row-means, column-lowered}
use Rattle.spec_presolve.specs.declared.reduction.Reduction.TheVariants.{Fixed}
use Rattle.spec_presolve.specs.Reduce.{tightened, shifted, after}
use Rattle.spec_presolve.proofs.NextReduction.{EmptyFound, SingleFound, FixedFound}
use Rattle.spec_presolve.proofs.RowMore.{HasRow}
use Rattle.spec_presolve.proofs.OverEmpty.{EmptyStep}
use Rattle.spec_presolve.proofs.OverSingle.{SingleStep}
use Rattle.spec_presolve.proofs.OverFixed.{FixedStep, limits_moved}

-- ---- a row less
pub row_less : (m : Model) (i : ℕ) → i < height m → HasRow m (without_row m i) i
row_less m i l =
    let w = without_row-means m i l in
    let e = w.height in
    record {
      inside = omega (arith, e, l);
      height_is = omega (arith, e);
      width_is = sym (length-map m.columns (lowered i));
      sense_is = refl;
      offset_is = refl;
      limits_are = λ a. ap limits_of (sym (w.rows a));
      coefficients_are = λ a k. sym (w.coefficients a k);
      costs_are = λ k. ap (λ (c : ExactColumn). c.cost) (sym (column-lowered m i k));
    }

pub empty_step : (m : Model) (i : ℕ) → EmptyFound m i → EmptyStep m (without_row m i) i
empty_step m i f =
    record {
      row = row_less m i f.inside;
      nothing = f.nothing;
      within = f.within;
      bounds_are = λ k. ap bounds_of (column-lowered m i k);
    }

-- ---- other bounds of a column

module _ (m : Model) (j : ℕ) (l : Limits) (inside : j < width m) where
  abbrev changed : ExactColumn
  changed = record (column m j) { lower = l.lower; upper = l.upper }

  column_own : column (with_bounds m j l) j ≡ changed
  column_own = get_or-set_same m.columns j changed no_column inside

  column_other : (k : ℕ) → ¬ (k ≡ j) → column (with_bounds m j l) k ≡ column m k
  column_other k o = get_or-set_other m.columns j k changed no_column o

  -- what bounds do not change in column j, each column has as before in the model with other bounds of column j
  same_of : {A : Type 0} (f : ExactColumn → A) → f changed ≡ f (column m j) → (k : ℕ) →
      f (column (with_bounds m j l) k) ≡ f (column m k)
  same_of f e k =
      ⊎_elim
      (λ q. subst (λ k. f (column (with_bounds m j l) k) ≡ f (column m k)) (sym q) (ap f column_own ∙ e))
      (λ o. ap f (column_other k o)) (cases_eq k j)

pub single_step : (limit : Option ℕ) (m : Model) (i j : ℕ) (a : ℚ) (lower upper : Option ℚ) → SingleFound limit m i j a lower upper →
    SingleStep m (without_row (with_bounds m j (tightened (bounds m j) lower upper)) i) i j a lower upper
single_step limit m i j a lower upper f =
    record {
      row = record {
        inside = r.inside;
        height_is = r.height_is;
        width_is = sym (length-set m.columns j (changed m j t f.alone.inside)) ∙ r.width_is;
        sense_is = refl;
        offset_is = refl;
        limits_are = r.limits_are;
        coefficients_are = λ b k. sym (entry_same (skipping i b) k) ∙ r.coefficients_are b k;
        costs_are = λ k. sym (same_of m j t f.alone.inside (λ c. c.cost) refl k) ∙ r.costs_are k;
      };
      inside = f.alone.inside;
      entry = f.alone.entry;
      not_zero = f.alone.not_zero;
      alone = f.alone.alone;
      others = λ k o. ap bounds_of (column-lowered narrowed i k ∙ ap (lowered i) (column_other m j t f.alone.inside k o));
      own = ap bounds_of (column-lowered narrowed i j ∙ ap (lowered i) (column_own m j t f.alone.inside));
      tightens = f.tightens;
      ordered = limits_ordered (row m i).kind (row m i).rhs (row m i).range;
    }
  where
    t : Limits
    t = tightened (bounds m j) lower upper

    narrowed : Model
    narrowed = with_bounds m j t

    r : HasRow narrowed (without_row narrowed i) i
    r = row_less narrowed i f.inside

    entry_same : (b k : ℕ) → coefficient narrowed b k ≡ coefficient m b k
    entry_same b k = ap (λ es. entry_of es b) (same_of m j t f.alone.inside (λ c. c.entries) refl k)

-- ---- right sides that are moved

-- x is the model m in which the first k right sides are less by v times their row's coefficient in column j; its offset
-- is left open
pub record Shifted (m : Model) (j : ℕ) (v : ℚ) (k : ℕ) (x : Model) : Type 0 where
  pub name_is : x.name ≡ m.name
  pub objective_is : x.objective ≡ m.objective
  pub columns_are : x.columns ≡ m.columns
  pub sense_is : x.sense ≡ m.sense
  pub height_is : length x.rows ≡ length m.rows
  pub done : (r : ℕ) → r < k → row x r ≡ record (row m r) { rhs = (row m r).rhs -ℚ coefficient m r j *ℚ v }
  pub rest : (r : ℕ) → k ≤ r → row x r ≡ row m r

-- where the first k right sides are moved and row k takes its moved one, the first k + 1 are moved
shifted_more : (m : Model) (j : ℕ) (v : ℚ) (k : ℕ) (x : Model) (b : ℚ) → k < height m → Shifted m j v k x →
    b ≡ (row m k).rhs -ℚ coefficient m k j *ℚ v → Shifted m j v (suc k) (with_rhs x k b)
shifted_more m j v k x b l h e =
    record {
      name_is = h.name_is;
      objective_is = h.objective_is;
      columns_are = h.columns_are;
      sense_is = h.sense_is;
      height_is = length-set x.rows k new ∙ h.height_is;
      done = λ r p. ⊎_elim
          (λ q. subst (λ r. row (with_rhs x k b) r ≡ record (row m r) { rhs = (row m r).rhs -ℚ coefficient m r j *ℚ v })
          (sym q)
          (get_or-set_same x.rows k new no_row (omega (arith, h.height_is, l))
          ∙ ap₂ (λ (s : ExactRow) w. record s { rhs = w }) (h.rest k (omega arith)) e))
          (λ o. get_or-set_other x.rows k r new no_row o ∙ h.done r (omega (arith, p, o))) (cases_eq r k);
      rest = λ r p. get_or-set_other x.rows k r new no_row (λ q. absurd (omega (arith, p, q))) ∙ h.rest r (omega (arith, p));
    }
  where
    new : ExactRow
    new = record (row x k) { rhs = b }

pub shifted_ok : (limit : Option ℕ) (m : Model) (j : ℕ) (v : ℚ) (x : Model) → shifted limit m j v ≡ Ok x →
    Shifted m j v (height m) x
shifted_ok limit m j v x h =
    steps_ok (Shifted m j v) (height m)
    (λ i n. less_product limit (coefficient m i j) v (row m i).rhs >>= λ b. Ok (with_rhs n i b)) m x h
    (record {
      name_is = refl;
      objective_is = refl;
      columns_are = refl;
      sense_is = refl;
      height_is = refl;
      done = λ r p. absurd (omega (arith, p));
      rest = λ r p. refl;
    })
    (λ i y z l s k.
    let b = then_ok (less_product limit (coefficient m i j) v (row m i).rhs) (λ b. Ok (with_rhs y i b)) z k in
    subst (Shifted m j v (suc i)) (ok_same (with_rhs y i b.0) z b.2)
    (shifted_more m j v i y b.0 l s (less_ok limit (coefficient m i j) v (row m i).rhs b.0 b.1)))

-- ---- a column less

-- column k of a model without column j is the model's column at the index that skips j
column_others : (m : Model) (j k : ℕ) → j < width m → column (without_column m j) k ≡ column m (skipping j k)
column_others m j k l = by (ltb k j) refl
  where
    by : (t : Bool) → ltb k j ≡ t → column (without_column m j) k ≡ column m (cond t k (k + 1))
    by true e = get_or-remove_below m.columns j no_column k (ltb-true k j e) l
    by false e = get_or-remove_above m.columns j no_column k (ltb-false k j e) l

-- where x has the columns of m, those of x without column j are those of m at the indexes that skip j
fixed_columns : (m x : Model) (j : ℕ) (offset : ℚ) → x.columns ≡ m.columns → j < width m → (k : ℕ) →
    column (without_column (with_offset x offset) j) k ≡ column m (skipping j k)
fixed_columns m x j offset e l k =
    ap (λ cs. get_or (remove cs j) k no_column) e ∙ column_others m j k l

pub record Fixed_parts (limit : Option ℕ) (m n : Model) (j : ℕ) (v : ℚ) : Type 0 where
  pub moved_model : Model
  pub offset : ℚ
  pub moved_is : shifted limit m j v ≡ Ok moved_model
  pub offset_is : plus_product limit (cost m j) v m.offset ≡ Ok offset
  pub same : without_column (with_offset moved_model offset) j ≡ n

pub fixed_parts : (limit : Option ℕ) (m n : Model) (j : ℕ) (v : ℚ) → after limit m (Fixed j v) ≡ Ok n →
    Fixed_parts limit m n j v
unfolding after
fixed_parts limit m n j v h =
    let x = then_ok (shifted limit m j v) _ n h in
    let o = then_ok (plus_product limit (cost m j) v m.offset) _ n x.2 in
    record {
      moved_model = x.0;
      offset = o.0;
      moved_is = x.1;
      offset_is = o.1;
      same = ok_same (without_column (with_offset x.0 o.0) j) n o.2;
    }

pub fixed_step : (limit : Option ℕ) (m n : Model) (j : ℕ) (v : ℚ) → FixedFound m j v →
    after limit m (Fixed j v) ≡ Ok n → FixedStep m n j v
fixed_step limit m n j v f h =
    let p = fixed_parts limit m n j v h in
    let s = shifted_ok limit m j v p.moved_model p.moved_is in
    subst (λ n. FixedStep m n j v) p.same (step p.moved_model p.offset s
    (plus_ok limit (cost m j) v m.offset p.offset p.offset_is))
  where
    step : (x : Model) (offset : ℚ) → Shifted m j v (height m) x → offset ≡ m.offset +ℚ cost m j *ℚ v →
        FixedStep m (without_column (with_offset x offset) j) j v
    step x offset s e =
        let w : length (remove x.columns j) + 1 ≡ length x.columns =
        length-remove x.columns j (subst (λ cs. j < length cs) (sym s.columns_are) f.inside) in
        let c : length x.columns ≡ length m.columns = ap length s.columns_are in
        record {
          inside = omega (arith, w, c, f.inside);
          width_is = omega (arith, w, c);
          height_is = sym s.height_is;
          sense_is = sym s.sense_is;
          offset_is = e;
          coefficients_are = λ r k. ap (λ (c : ExactColumn). entry_of c.entries r)
              (sym (fixed_columns m x j offset s.columns_are f.inside k));
          costs_are = λ k. ap (λ (c : ExactColumn). c.cost) (sym (fixed_columns m x j offset s.columns_are f.inside k));
          bounds_are = λ k. ap bounds_of (sym (fixed_columns m x j offset s.columns_are f.inside k));
          lower_is = f.lower_is;
          upper_is = f.upper_is;
          limits_are = λ r p. ap limits_of (s.done r (omega (arith, p, s.height_is)))
              ∙ limits_moved (row m r).kind (row m r).rhs (coefficient m r j *ℚ v) (row m r).range;
        }
