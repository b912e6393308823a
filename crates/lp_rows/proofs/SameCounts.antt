-- After a flip or a pivot a tableau of rows has as many rows and lists as before, and its whole numbers as fractions.
--
-- `none_on`: 0 over a positive denominator is 0.
-- `whole_on`: n as a fraction, times 1 / d, is n / d.
-- `before_all`: a column before n is before n + m.
use Rattle.std.proofs.Common.{◌≡◌, ℕ, ◌+◌, ◌*◌, ◌<◌, List, length, get_or, set, All, Option, None}
use Rattle.std.proofs.Common.{refl, sym, ap, ap₂, ◌∙◌, subst, subst₂, arith}
use Rattle.std.proofs.Common.{ℤ, pos, ◌-ℤ◌, [], ◌∷◌}
use Rattle.std.proofs.lemmas.List.{length-set, get_or_default}
use Rattle.std.proofs.lemmas.List.Elements.{All-set}
use Rattle.spec_exact.specs.Fraction.{ℚ, 0ℚ, over, ◌-ℚ◌, ◌*ℚ◌}
use Rattle.spec_exact.proofs.Ring.{◌⊗◌, lit, v0}
use Rattle.spec_exact.proofs.WholeRing.{by_ring}
use Rattle.spec_exact.proofs.Field.{over-*}
use Rattle.spec_pivot.specs.declared.status.Status.{Status}
use Rattle.spec_pivot.specs.declared.status.Status.TheVariants.{Basic}
use Rattle.spec_pivot.specs.declared.status.Way.{Way}
use Rattle.spec_pivot.specs.declared.status.Way.TheVariants.{Up, Down}
use Rattle.spec_simplex.specs.Tableau.{or_zero, stand}
use Rattle.spec_simplex.specs.Step.{directed, other_bound, flip_way}
use Rattle.lp_rows.specs.declared.fractions.Row.{Row}
use Rattle.lp_natural.specs.declared.words.signed.Signed.{Signed}
use Rattle.lp_rows.specs.Row.{toward}
use Rattle.lp_rows.specs.Ratio.{bound_of}
use Rattle.lp_rows.proofs.Cleared.{over_neg}
use Rattle.lp_rows.proofs.Gaps.{together}
use Rattle.lp_rows.specs.declared.tableau.tableau.RowTableau.{RowTableau}
use Rattle.lp_rows.specs.Shows.{IsRow, IsWhole, height, width, all_width}
use Rattle.lp_rows.specs.Moves.{AreMoved, AreTurned}
use Rattle.lp_rows.proofs.Lasts.{over_none}
use Rattle.lp_rows.specs.Changes.{lower_in, upper_in, status_in, basic_in, left_upper, IsFlipped, IsPivoted}

pub none_on : (n d : ℕ) → n ≡ 0 → 0 < d → over (pos n) d ≡ 0ℚ
none_on n d e p = ap (λ n. over (pos n) d) e ∙ over_none d p

-- a whole number on d
pub whole_on : (n : ℤ) (d : ℕ) → 0 < d → over n 1 *ℚ over (pos 1) d ≡ over n d
whole_on n d p =
    over-* n (pos 1) 1 d (omega arith) p
    ∙ ap₂ over (by_ring (n ∷ []) (v0 ⊗ lit (pos 1)) v0 refl) (once d)
  where
    once : (d : ℕ) → 1 * d ≡ d
    once d = omega arith

-- n, negated if the column falls, over d, is n / d, negated if the column falls
directed_on : (way : Way) (n : ℤ) (d : ℕ) → 0 < d → over (toward way n) d ≡ directed way (over n d)
directed_on Up n d p = refl
directed_on Down n d p = over_neg n d p

-- in a flip a column moves from one bound to the other, by their distance over the common denominator
range_on : (way : Way) (d : ℕ) (by range u l : ℤ) (upper lower : Option ℚ) → 0 < d → by ≡ toward way range →
    range ≡ u -ℤ l → over u d ≡ or_zero upper → over l d ≡ or_zero lower →
    over by 1 *ℚ over (pos 1) d ≡ directed way (or_zero upper -ℚ or_zero lower)
range_on way d by range u l upper lower p e f h k =
    whole_on by d p
    ∙ ap (λ z. over z d) e
    ∙ directed_on way range d p
    ∙ ap (directed way) (ap (λ z. over z d) f ∙ sym (together u l d p) ∙ ap₂ (λ x y. x -ℚ y) h k)

pub before_all : (k n m : ℕ) → k < n → k < n + m
before_all k n m h = omega arith

module _ {T : Type 0} (value : T → ℕ) (r s : RowTableau T) (w : IsWhole value r) where
  -- where a flip moves the last numbers of rows and sets one status, a whole tableau of rows stays whole
  pub whole_flipped : (j : ℕ) (v : ℚ) → AreMoved value (width r) j v r.rows.items s.rows.items → s.cols ≡ r.cols →
      s.costs ≡ r.costs → s.basic ≡ r.basic → length s.status.items ≡ length r.status.items → s.lower ≡ r.lower →
      s.upper ≡ r.upper → s.fixed ≡ r.fixed → s.denominator ≡ r.denominator → IsWhole value s
  whole_flipped j v m cols costs basic status lower upper fixed denominator =
      let wide : width s ≡ width r = omega (arith, cols, m.len) in
      let all : all_width s ≡ all_width r = omega (arith, cols, m.len) in
      record {
        few_rows = omega (arith, m.len, w.few_rows);
        few_columns = omega (arith, cols, w.few_columns);
        each_row = subst (λ n. All (IsRow value n) s.rows.items) (sym wide) m.rows;
        costs = subst (λ n. IsRow value n s.costs) (sym wide) (subst (IsRow value (width r)) (sym costs) w.costs);
        all_basic = ap (λ v. length v.items) basic ∙ w.all_basic ∙ sym m.len;
        in_range = λ i z h.
            let h' : i < length r.basic.items = subst (λ v. i < length v.items) basic h in
            let q = w.in_range i z h' in
            omega (arith, q, all, ap (λ v. get_or v.items i z) basic);
        all_statuses = status ∙ w.all_statuses ∙ sym all;
        all_lower = ap (λ v. length v.items) lower ∙ w.all_lower ∙ sym all;
        all_upper = ap (λ v. length v.items) upper ∙ w.all_upper ∙ sym all;
        all_fixed = ap (λ v. length v.items) fixed ∙ w.all_fixed ∙ sym wide;
        positive = subst (λ d. 0 < value d) (sym denominator) w.positive;
      }

  -- where a pivot turns the rows and costs, and sets one basic column and as many statuses and bounds as before, a
  -- whole tableau of rows stays whole
  pub whole_pivoted : (p j : ℕ) (v x : ℚ) →
      AreTurned value (width r) p j v x r.rows.items s.rows.items r.costs s.costs →
      j < width r → s.cols ≡ r.cols → s.basic.items ≡ set r.basic.items p j →
      length s.status.items ≡ length r.status.items → s.lower ≡ r.lower →
      length s.upper.items ≡ length r.upper.items → s.fixed ≡ r.fixed → s.denominator ≡ r.denominator → IsWhole value s
  whole_pivoted p j v x m column cols basic status lower upper fixed denominator =
      let wide : width s ≡ width r = omega (arith, cols, m.len) in
      let all : all_width s ≡ all_width r = omega (arith, cols, m.len) in
      record {
        few_rows = omega (arith, m.len, w.few_rows);
        few_columns = omega (arith, cols, w.few_columns);
        each_row = subst (λ n. All (IsRow value n) s.rows.items) (sym wide) m.rows;
        costs = subst (λ n. IsRow value n s.costs) (sym wide) m.costs_row;
        all_basic = ap length basic ∙ length-set r.basic.items p j ∙ w.all_basic ∙ sym m.len;
        in_range =
            subst (λ n. All (λ k. k < n) s.basic.items) (sym all)
            (subst (All (λ k. k < all_width r)) (sym basic)
            (All-set (λ k. k < all_width r) r.basic.items p j (omega (arith, column)) w.in_range));
        all_statuses = status ∙ w.all_statuses ∙ sym all;
        all_lower = ap (λ v. length v.items) lower ∙ w.all_lower ∙ sym all;
        all_upper = upper ∙ w.all_upper ∙ sym all;
        all_fixed = ap (λ v. length v.items) fixed ∙ w.all_fixed ∙ sym wide;
        positive = subst (λ d. 0 < value d) (sym denominator) w.positive;
      }

-- ---- a flip and a pivot, from what each call gives
module _ {T : Type 0} (value : T → ℕ) (r s : RowTableau T) (w : IsWhole value r) where
  abbrev d : ℕ
  d = value r.denominator

  lower_read : (k : ℕ) (x z : Option (Signed T)) → k < all_width r → x ≡ get_or r.lower.items k z →
      bound_of value d x ≡ lower_in value r k
  lower_read k x z h e =
      ap (bound_of value d) (e ∙ get_or_default r.lower.items k z None (omega (arith, h, w.all_lower)))

  upper_read : (k : ℕ) (x z : Option (Signed T)) → k < all_width r → x ≡ get_or r.upper.items k z →
      bound_of value d x ≡ upper_in value r k
  upper_read k x z h e =
      ap (bound_of value d) (e ∙ get_or_default r.upper.items k z None (omega (arith, h, w.all_upper)))

  status_read : (k : ℕ) (x z : Status) → k < all_width r → x ≡ get_or r.status.items k z → x ≡ status_in r k
  status_read k x z h e = e ∙ get_or_default r.status.items k z Basic (omega (arith, h, w.all_statuses))

  -- the basic column that is read at position p is the one that `basic_in` gives for p
  pub basic_read : (p q z : ℕ) → p < height r → q ≡ get_or r.basic.items p z → q ≡ basic_in r p
  basic_read p q z h e = e ∙ get_or_default r.basic.items p z 0 (omega (arith, h, w.all_basic))

  -- the basic column that is read at position p is one of all columns
  pub basic_inside : (p q z : ℕ) → p < height r → q ≡ get_or r.basic.items p z → q < all_width r
  basic_inside p q z h e =
      subst (λ k. k < all_width r) (sym e) (w.in_range p z (subst (λ n. p < n) (sym w.all_basic) h))

  -- where the last numbers are moved by column j's distance between its bounds, and its status is set to the other
  -- bound, the rows s are r after the flip of j
  pub flipped_is : (j n : ℕ) (lent new : List (Row T)) (way : Way) (by range u l : ℤ) (st sz to : Status)
      (upper lower uz lz : Option (Signed T)) → j < width r → n ≡ width r → lent ≡ r.rows.items →
      AreMoved value n j (over by 1) lent new → s.rows.items ≡ new → st ≡ get_or r.status.items j sz →
      way ≡ flip_way st →
      upper ≡ get_or r.upper.items j uz → lower ≡ get_or r.lower.items j lz →
      ((d : ℕ) → 0 < d → over u d ≡ or_zero (bound_of value d upper)) →
      ((d : ℕ) → 0 < d → over l d ≡ or_zero (bound_of value d lower)) → range ≡ u -ℤ l → by ≡ toward way range →
      to ≡ other_bound way → s.status.items ≡ set r.status.items j to → s.cols ≡ r.cols → s.costs ≡ r.costs →
      s.basic ≡ r.basic → s.lower ≡ r.lower → s.upper ≡ r.upper → s.fixed ≡ r.fixed → s.denominator ≡ r.denominator →
      IsFlipped value j r s
  flipped_is j n lent new way by range u l st sz to upper lower uz lz column n_is lent_is m rows_is st_is up_is upper_is
      lower_is u_is l_is range_is by_is to_is status cols costs basic lower' upper' fixed denominator =
      let inside : j < all_width r = omega (arith, column) in
      let same : way ≡ flip_way (status_in r j) = up_is ∙ ap flip_way (status_read j st sz inside st_is) in
      let moved : AreMoved value (width r) j (over by 1) r.rows.items s.rows.items =
      subst (λ n. AreMoved value n j (over by 1) r.rows.items s.rows.items) n_is
      (subst₂ (AreMoved value n j (over by 1)) lent_is (sym rows_is) m) in
      record {
        whole =
            whole_flipped value r s w j (over by 1) moved cols costs basic
            (ap length status ∙ length-set r.status.items j to) lower' upper' fixed denominator;
        kept = record { cols = cols; lower = lower'; fixed = fixed; denominator = denominator };
        costs = costs;
        basic = basic;
        upper = upper';
        status = status ∙ ap (set r.status.items j) (to_is ∙ ap other_bound same);
        by = over by 1;
        range =
            range_on way d by range u l (bound_of value d upper) (bound_of value d lower) w.positive by_is range_is
            (u_is d w.positive) (l_is d w.positive)
            ∙ ap (λ way. directed way (or_zero (bound_of value d upper) -ℚ or_zero (bound_of value d lower))) same
            ∙ ap₂ (λ x y. directed (flip_way (status_in r j)) (or_zero x -ℚ or_zero y))
            (upper_read j upper uz inside upper_is) (lower_read j lower lz inside lower_is);
        rows = moved;
      }

  -- where the rows were turned for column j at position p, and the basic column, the statuses and the bound are set to
  -- match, the rows s are r after that pivot
  pub pivoted_is : (p j n q : ℕ) (to st sz : Status) (lent new : List (Row T)) (costs : Row T) (u v : ℤ)
      (lower upper lower' upper' z1 z2 z3 z4 : Option (Signed T)) → p < height r → j < width r → n ≡ width r →
      lent ≡ r.rows.items → q ≡ basic_in r p → st ≡ get_or r.status.items j sz →
      AreTurned value n p j (over u 1) (over v 1) lent new r.costs costs → s.rows.items ≡ new → s.costs ≡ costs →
      lower ≡ get_or r.lower.items q z1 → upper ≡ get_or r.upper.items q z2 →
      lower' ≡ get_or r.lower.items j z3 → upper' ≡ get_or r.upper.items j z4 →
      ((d : ℕ) → 0 < d → over u d ≡ stand to (bound_of value d lower) (bound_of value d upper)) →
      ((d : ℕ) → 0 < d → over v d ≡ stand st (bound_of value d lower') (bound_of value d upper')) →
      s.basic.items ≡ set r.basic.items p j →
      s.status.items ≡ set (set r.status.items (basic_in r p) to) j Basic →
      ((k : ℕ) → upper_in value s k ≡ left_upper (width r) (basic_in r p) k (upper_in value r k)) →
      length s.upper.items ≡ length r.upper.items → s.cols ≡ r.cols → s.lower ≡ r.lower → s.fixed ≡ r.fixed →
      s.denominator ≡ r.denominator → IsPivoted value p j to r s
  pivoted_is p j n q to st sz lent new costs u v lower upper lower' upper' z1 z2 z3 z4 place column n_is lent_is q_is
      st_is m rows_is costs_is lower_is upper_is lower_is' upper_is' u_is v_is basic status uppers upper_len cols
      same_lower
      fixed denominator =
      let inside : j < all_width r = omega (arith, column) in
      let q_in : q < all_width r =
      let h = w.in_range p 0 (omega (arith, place, w.all_basic)) in omega (arith, h, q_is) in
      let turned : AreTurned value (width r) p j (over u 1) (over v 1) r.rows.items s.rows.items r.costs s.costs =
      subst (λ c. AreTurned value (width r) p j (over u 1) (over v 1) r.rows.items s.rows.items r.costs c)
      (sym costs_is)
      (subst (λ n. AreTurned value n p j (over u 1) (over v 1) r.rows.items s.rows.items r.costs costs) n_is
      (subst₂ (λ x y. AreTurned value n p j (over u 1) (over v 1) x y r.costs costs) lent_is (sym rows_is) m)) in
      record {
        whole =
            whole_pivoted value r s w p j (over u 1) (over v 1) turned column cols basic
            (ap length status ∙ length-set (set r.status.items (basic_in r p) to) j Basic
            ∙ length-set r.status.items (basic_in r p) to)
            same_lower upper_len fixed denominator;
        kept = record { cols = cols; lower = same_lower; fixed = fixed; denominator = denominator };
        basic = basic;
        status = status;
        upper = λ k h. uppers k;
        leaves_at = over u 1;
        enters_from = over v 1;
        leaves =
            whole_on u d w.positive
            ∙ u_is d w.positive
            ∙ ap₂ (stand to) (lower_read q lower z1 q_in lower_is ∙ ap (lower_in value r) q_is)
            (upper_read q upper z2 q_in upper_is ∙ ap (upper_in value r) q_is);
        enters =
            whole_on v d w.positive
            ∙ v_is d w.positive
            ∙ ap (λ st. stand st (bound_of value d lower') (bound_of value d upper')) (status_read j st sz inside st_is)
            ∙ ap₂ (stand (status_in r j)) (lower_read j lower' z3 inside lower_is')
            (upper_read j upper' z4 inside upper_is');
        rows = turned;
      }

-- end of SameCounts
