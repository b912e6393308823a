-- The numbers of a range are of at most 127 bits at the limit of the program, where those of the model are.
--
-- `cost_range_narrow`: the range of a cost has numbers of at most 127 bits, where the model's are and the program's
--   limit is kept.
-- `side_range_narrow`: the range of a right side has numbers of at most 127 bits in the same case.
use Rattle.std.proofs.Common.{◌≡◌, ◌+◌, ◌<◌, ℕ, Bool, true, false, not, cond, Option, Some, None, Ok, List, set}
use Rattle.std.proofs.Common.{replicate, subst}
use Rattle.std.specs.Prelude.{All, ◌||◌, is_some}
use Rattle.std.specs.declared.cmp.Ordering.{Ordering}
use Rattle.std.specs.declared.cmp.Ordering.TheVariants.{Less, Equal, Greater}
use Rattle.std.proofs.lemmas.List.Elements.{All-append, All-replicate, All-set}
use Rattle.spec_exact.specs.Fraction.{ℚ, 0ℚ, 1ℚ, neg_ℚ, lt_ℚ}
use Rattle.spec_exact.specs.Narrow.{IsNarrow, number_limit}
use Rattle.spec_exact.specs.Run.{Run, ◌>>=◌, refused_as, sum_run, difference_run, quotient_run, order_run}
use Rattle.spec_exact.specs.Run.{less_product}
use Rattle.spec_exact.proofs.Narrow.{zero_narrow}
use Rattle.spec_exact.proofs.RunsInOrder.{All-made}
use Rattle.spec_model.specs.declared.parts.Sense.{Sense}
use Rattle.spec_model.specs.Model.{Model, width, row, cost, no_column}
use Rattle.spec_pivot.specs.declared.status.Status.{Status}
use Rattle.spec_pivot.specs.declared.status.Status.TheVariants.{Basic, AtLower, AtUpper, AtZero}
use Rattle.spec_simplex.specs.declared.ends.StartStop.TheVariants as stop
use Rattle.spec_simplex.specs.Form.{Form, form_of, least_cost}
use Rattle.spec_simplex.specs.Tableau.{Tableau, all_columns, entry_at, value_at, reduced_at, status_at, basic_at}
use Rattle.spec_simplex.specs.Tableau.{lower_at, upper_at, is_basic, is_fixed}
use Rattle.spec_simplex.specs.Start.{priced_run, with_reduced}
use Rattle.spec_simplex.specs.Eliminate.{Elimination, basis_lower, basis_upper, basis_value, with_basis}
use Rattle.spec_simplex.specs.Eliminate.{position_run, valued_run, with_values, filled_run, eliminate_run, start_from}
use Rattle.spec_simplex.specs.Dual.{place_of}
use Rattle.spec_simplex.proofs.RunParts.{then_ok, refused_ok, steps_ok}
use Rattle.spec_solve.proofs.NarrowRuns.{sum_narrow, difference_narrow, less_narrow}
use Rattle.spec_solve.proofs.NarrowSteps.{NarrowBound, number_at, bound_at, stand_narrow}
use Rattle.spec_solve.proofs.NarrowStart.{IsNarrowModel, IsNarrowForm, form_narrow, priced_narrow, least_narrow}
use Rattle.spec_range.specs.declared.range.Ends.{Ends}
use Rattle.spec_range.specs.declared.range.Range.{Range}
use Rattle.spec_range.specs.Rule.{no_ends, greater_by, lesser_by, greater_run, lesser_run, at_least, at_most, at_side}
use Rattle.spec_range.specs.Rule.{ends_by, falls_by, own_number, own_ends, is_moved, moved_ends, moved_if, basic_ends}
use Rattle.spec_range.specs.Rule.{cost_ends, cost_run, shifted_run, still_ends, bound_ends, carried_ends, is_carried}
use Rattle.spec_range.specs.Rule.{carried_if, nonbasic_ends, side_ends, side_run, cost_range, side_range}

-- the limit of the program on numbers, of 127 bits
abbrev limit : Option ℕ
limit = Some number_limit

-- each end of a range, where there is one, has at most 127 bits
pub record NarrowEnds (e : Ends ℚ) : Type 0 where
  pub low : NarrowBound e.low
  pub high : NarrowBound e.high

-- both ends of a range, where there are any, and its slope have at most 127 bits
pub record NarrowRange (r : Range ℚ) : Type 0 where
  pub ends : NarrowEnds r.ends
  pub slope : IsNarrow r.slope

-- ---- the ends so far

-- a range without ends has no end wider than 127 bits
none_narrow : NarrowEnds no_ends
none_narrow = record { low = tt; high = tt }

-- where a run returns ends as they are, and these have at most 127 bits, so have the returned ones
same_narrow : (e x : Ends ℚ) → (let r : Run (Ends ℚ) = Ok e in r) ≡ Ok x → NarrowEnds e → NarrowEnds x
same_narrow e x h n = let same : e ≡ x = cc in subst NarrowEnds same n

-- the greater of a new number and a kept one has at most 127 bits, where both have
greater_narrow : (new : ℚ) (kept : Option ℚ) (x : ℚ) → greater_run limit new kept ≡ Ok x → IsNarrow new →
    NarrowBound kept → IsNarrow x
greater_narrow new None x h n k = let e : new ≡ x = cc in subst IsNarrow e n
greater_narrow new (Some old) x h n k =
    let o = then_ok (order_run limit new old) (λ o. Ok (greater_by new old o)) x h in
    let e : greater_by new old o.0 ≡ x = cc in
    subst IsNarrow e (by o.0)
  where
    by : (o : Ordering) → IsNarrow (greater_by new old o)
    by Less = k
    by Equal = k
    by Greater = n

-- the lesser of a new number and a kept one has at most 127 bits, where both have
lesser_narrow : (new : ℚ) (kept : Option ℚ) (x : ℚ) → lesser_run limit new kept ≡ Ok x → IsNarrow new →
    NarrowBound kept → IsNarrow x
lesser_narrow new None x h n k = let e : new ≡ x = cc in subst IsNarrow e n
lesser_narrow new (Some old) x h n k =
    let o = then_ok (order_run limit new old) (λ o. Ok (lesser_by new old o)) x h in
    let e : lesser_by new old o.0 ≡ x = cc in
    subst IsNarrow e (by o.0)
  where
    by : (o : Ordering) → IsNarrow (lesser_by new old o)
    by Less = n
    by Equal = k
    by Greater = k

-- where v and a range's ends have at most 127 bits, so do the ends with v as one more lower end
at_least_narrow : (v : ℚ) (e x : Ends ℚ) → at_least limit v e ≡ Ok x → IsNarrow v → NarrowEnds e → NarrowEnds x
at_least_narrow v e x h n k =
    let o = then_ok (greater_run limit v e.low) (λ low. Ok (record { low = Some low; high = e.high })) x h in
    same_narrow (record { low = Some o.0; high = e.high }) x o.2
    (record { low = greater_narrow v e.low o.0 o.1 n k.low; high = k.high })

-- where v and a range's ends have at most 127 bits, so do the ends with v as one more upper end
at_most_narrow : (v : ℚ) (e x : Ends ℚ) → at_most limit v e ≡ Ok x → IsNarrow v → NarrowEnds e → NarrowEnds x
at_most_narrow v e x h n k =
    let o = then_ok (lesser_run limit v e.high) (λ high. Ok (record { low = e.low; high = Some high })) x h in
    same_narrow (record { low = e.low; high = Some o.0 }) x o.2
    (record { low = k.low; high = lesser_narrow v e.high o.0 o.1 n k.high })

-- where v and a range's ends have at most 127 bits, so do the ends with v as one more end of either side
at_side_narrow : (upper : Bool) (v : ℚ) (e x : Ends ℚ) → at_side limit upper v e ≡ Ok x → IsNarrow v →
    NarrowEnds e → NarrowEnds x
at_side_narrow true v e x h n k = at_most_narrow v e x h n k
at_side_narrow false v e x h n k = at_least_narrow v e x h n k

-- ---- a cost

-- where v and a range's ends have at most 127 bits, so do the ends with v as the end that a column's status gives
ends_by_narrow : (status : Status) (falls : Bool) (v : ℚ) (e x : Ends ℚ) → ends_by limit status falls v e ≡ Ok x →
    IsNarrow v → NarrowEnds e → NarrowEnds x
ends_by_narrow Basic falls v e x h n k = same_narrow e x h k
ends_by_narrow AtLower falls v e x h n k = at_side_narrow falls v e x h n k
ends_by_narrow AtUpper falls v e x h n k = at_side_narrow (not falls) v e x h n k
ends_by_narrow AtZero falls v e x h n k =
    let o = then_ok (at_least limit v e) (λ e. at_most limit v e) x h in
    at_most_narrow v o.0 x o.2 n (at_least_narrow v e o.0 o.1 n k)

-- the cost at which a nonbasic column's own reduced cost is 0 has at most 127 bits, where its cost has
own_number_narrow : (s : Sense) (c : ℚ) (status : Status) (d v : ℚ) → own_number limit s c status d ≡ Ok v →
    IsNarrow c → IsNarrow v
own_number_narrow s c Basic d v h n = let e : c ≡ v = cc in subst IsNarrow e n
own_number_narrow s c AtLower d v h n = difference_narrow c (least_cost s d) v h
own_number_narrow s c AtUpper d v h n = difference_narrow c (least_cost s d) v h
own_number_narrow s c AtZero d v h n = let e : c ≡ v = cc in subst IsNarrow e n

module _ (s : Sense) (c : ℚ) (t : Tableau) (n : IsNarrow c) where
  -- the ends that the reduced cost of a nonbasic column gives the range of its cost have at most 127 bits, where the
  -- cost has
  own_narrow : (j : ℕ) (x : Ends ℚ) → own_ends limit s c t j ≡ Ok x → NarrowEnds x
  own_narrow j x h = by (is_fixed (lower_at t j) (upper_at t j)) h
    where
      run : Run (Ends ℚ)
      run =
          own_number limit s c (status_at t j) (reduced_at t j) >>= λ v.
          ends_by limit (status_at t j) (falls_by s (neg_ℚ 1ℚ)) v no_ends

      by : (b : Bool) → cond b (Ok no_ends) run ≡ Ok x → NarrowEnds x
      by true q = same_narrow no_ends x q none_narrow
      by false q =
          let o = then_ok (own_number limit s c (status_at t j) (reduced_at t j))
          (λ v. ends_by limit (status_at t j) (falls_by s (neg_ℚ 1ℚ)) v no_ends) x q in
          ends_by_narrow (status_at t j) (falls_by s (neg_ℚ 1ℚ)) o.0 no_ends x o.2
          (own_number_narrow s c (status_at t j) (reduced_at t j) o.0 o.1 n) none_narrow

  -- where ends have at most 127 bits, so have those that one more nonbasic column leaves
  moved_narrow : (p k : ℕ) (e x : Ends ℚ) → moved_ends limit s c t p k e ≡ Ok x → NarrowEnds e → NarrowEnds x
  moved_narrow p k e x h m =
      let q = then_ok (quotient_run limit (least_cost s (reduced_at t k)) (entry_at t p k))
      (λ q. sum_run limit c q >>= λ v. ends_by limit (status_at t k) (falls_by s (entry_at t p k)) v e) x h in
      let v = then_ok (sum_run limit c q.0)
      (λ v. ends_by limit (status_at t k) (falls_by s (entry_at t p k)) v e) x q.2 in
      ends_by_narrow (status_at t k) (falls_by s (entry_at t p k)) v.0 e x v.2 (sum_narrow c q.0 v.0 v.1) m

  -- where ends have at most 127 bits, so have those that one more column leaves, whether or not it counts
  moved_if_narrow : (p k : ℕ) (e x : Ends ℚ) → moved_if limit s c t p k e ≡ Ok x → NarrowEnds e → NarrowEnds x
  moved_if_narrow p k e x h m = by (is_moved t p k) h
    where
      by : (b : Bool) → cond b (moved_ends limit s c t p k e) (Ok e) ≡ Ok x → NarrowEnds x
      by true q = moved_narrow p k e x q m
      by false q = same_narrow e x q m

  -- the ends of the range of a column's cost have at most 127 bits, where the cost has
  cost_ends_narrow : (j : ℕ) (x : Ends ℚ) → cost_ends limit s c t j ≡ Ok x → NarrowEnds x
  cost_ends_narrow j x h = by (is_basic (status_at t j)) h
    where
      by : (b : Bool) → cond b (basic_ends limit s c t (place_of t j)) (own_ends limit s c t j) ≡ Ok x → NarrowEnds x
      by true q =
          steps_ok (λ _ e. NarrowEnds e) (all_columns t) (moved_if limit s c t (place_of t j)) no_ends x q none_narrow
          (λ k e y l m r. moved_if_narrow (place_of t j) k e y r m)
      by false q = own_narrow j x q

-- the range of a cost has at most 127 bits, where the cost and the tableau's values have
cost_run_narrow : (m : Model) (t : Tableau) (j : ℕ) (r : Range ℚ) → cost_run limit m t j ≡ Ok r → IsNarrow (cost m j) →
    All IsNarrow t.value → NarrowRange r
unfolding cost_run
cost_run_narrow m t j r h n k =
    let o = then_ok (cost_ends limit m.sense (cost m j) t j) (λ e. Ok (record { ends = e; slope = value_at t j })) r h in
    let same : record { ends = o.0; slope = value_at t j } ≡ r = cc in
    subst NarrowRange same
    (record { ends = cost_ends_narrow m.sense (cost m j) t n j o.0 o.1; slope = number_at t.value k j })

-- ---- a right side

-- a right side that is moved to where a bound meets the logical's value has at most 127 bits
shifted_narrow : (b v : ℚ) (bound x : Option ℚ) → shifted_run limit b v bound ≡ Ok x → NarrowBound x
shifted_narrow b v None x h = let e : None ≡ x = cc in subst NarrowBound e tt
shifted_narrow b v (Some u) x h =
    let g = then_ok (difference_run limit v u) (λ g. sum_run limit b g >>= λ x. Ok (Some x)) x h in
    let y = then_ok (sum_run limit b g.0) (λ x. Ok (Some x)) x g.2 in
    let e : Some y.0 ≡ x = cc in
    subst NarrowBound e (sum_narrow b g.0 y.0 y.1)

-- the ends for the right side of a row with a basic logical have at most 127 bits
still_narrow : (b v : ℚ) (lower upper : Option ℚ) (x : Ends ℚ) → still_ends limit b v lower upper ≡ Ok x → NarrowEnds x
still_narrow b v lower upper x h =
    let high = then_ok (shifted_run limit b v lower)
    (λ high. shifted_run limit b v upper >>= λ low. Ok (record { low = low; high = high })) x h in
    let low = then_ok (shifted_run limit b v upper) (λ low. Ok (record { low = low; high = high.0 })) x high.2 in
    same_narrow (record { low = low.0; high = high.0 }) x low.2
    (record { low = shifted_narrow b v upper low.0 low.1; high = shifted_narrow b v lower high.0 high.1 })

-- where a range's ends have at most 127 bits, so do the ends with that at which a basic column comes to a bound
bound_narrow : (b v a : ℚ) (bound : Option ℚ) (upper : Bool) (e x : Ends ℚ) →
    bound_ends limit b v a bound upper e ≡ Ok x → NarrowEnds e → NarrowEnds x
bound_narrow b v a None upper e x h n = same_narrow e x h n
bound_narrow b v a (Some u) upper e x h n =
    let g = then_ok (difference_run limit v u)
    (λ g. quotient_run limit g a >>= λ q. sum_run limit b q >>= λ y. at_side limit upper y e) x h in
    let q = then_ok (quotient_run limit g.0 a) (λ q. sum_run limit b q >>= λ y. at_side limit upper y e) x g.2 in
    let y = then_ok (sum_run limit b q.0) (λ y. at_side limit upper y e) x q.2 in
    at_side_narrow upper y.0 e x y.2 (sum_narrow b q.0 y.0 y.1) n

-- where a range's ends have at most 127 bits, so do the ends with those at which a basic column comes to its bounds
carried_narrow : (b v a : ℚ) (lower upper : Option ℚ) (e x : Ends ℚ) →
    carried_ends limit b v a lower upper e ≡ Ok x → NarrowEnds e → NarrowEnds x
carried_narrow b v a lower upper e x h n =
    let o = then_ok (bound_ends limit b v a lower (lt_ℚ 0ℚ a) e)
    (λ e. bound_ends limit b v a upper (not (lt_ℚ 0ℚ a)) e) x h in
    bound_narrow b v a upper (not (lt_ℚ 0ℚ a)) o.0 x o.2 (bound_narrow b v a lower (lt_ℚ 0ℚ a) e o.0 o.1 n)

module _ (b : ℚ) (t : Tableau) (s : ℕ) where
  -- where ends have at most 127 bits, so have those that one more basic column leaves, whether or not it counts
  carried_if_narrow : (k : ℕ) (e x : Ends ℚ) → carried_if limit b t s k e ≡ Ok x → NarrowEnds e → NarrowEnds x
  carried_if_narrow k e x h n = by (is_carried t s k) h
    where
      run : Run (Ends ℚ)
      run = carried_ends limit b (value_at t k) (entry_at t (place_of t k) s) (lower_at t k) (upper_at t k) e

      by : (c : Bool) → cond c run (Ok e) ≡ Ok x → NarrowEnds x
      by true q =
          carried_narrow b (value_at t k) (entry_at t (place_of t k) s) (lower_at t k) (upper_at t k) e x q n
      by false q = same_narrow e x q n

  -- the ends of the range of a right side have at most 127 bits
  side_ends_narrow : (x : Ends ℚ) → side_ends limit b t s ≡ Ok x → NarrowEnds x
  side_ends_narrow x h = by (is_basic (status_at t s)) (is_some (lower_at t s) || is_some (upper_at t s)) h
    where
      by : (c d : Bool) →
          cond c (still_ends limit b (value_at t s) (lower_at t s) (upper_at t s))
          (cond d (nonbasic_ends limit b t s) (Ok no_ends)) ≡ Ok x → NarrowEnds x
      by true d q = still_narrow b (value_at t s) (lower_at t s) (upper_at t s) x q
      by false true q =
          steps_ok (λ _ e. NarrowEnds e) (all_columns t) (carried_if limit b t s) no_ends x q none_narrow
          (λ k e y l m r. carried_if_narrow k e y r m)
      by false false q = same_narrow no_ends x q none_narrow

-- the range of a right side has at most 127 bits, where the tableau's reduced costs have
side_run_narrow : (m : Model) (t : Tableau) (i : ℕ) (r : Range ℚ) → side_run limit m t i ≡ Ok r →
    All IsNarrow t.reduced → NarrowRange r
unfolding side_run
side_run_narrow m t i r h k =
    let slope : ℚ = least_cost m.sense (reduced_at t (t.cols + i)) in
    let o = then_ok (side_ends limit (row m i).rhs t (t.cols + i)) (λ e. Ok (record { ends = e; slope = slope })) r h in
    let same : record { ends = o.0; slope = slope } ≡ r = cc in
    subst NarrowRange same
    (record {
      ends = side_ends_narrow (row m i).rhs t (t.cols + i) o.0 o.1;
      slope = least_narrow m.sense (reduced_at t (t.cols + i)) (number_at t.reduced k (t.cols + i));
    })

-- ---- the tableau of a basis

-- each value and each reduced cost of a tableau has at most 127 bits
pub record NarrowNumbers (t : Tableau) : Type 0 where
  pub value : All IsNarrow t.value
  pub reduced : All IsNarrow t.reduced

-- the value that is computed for a position of a tableau has at most 127 bits
position_narrow : (t : Tableau) (i : ℕ) (v : ℚ) → position_run limit t i ≡ Ok v → IsNarrow v
position_narrow t i v h =
    steps_ok (λ _ s. IsNarrow s) (all_columns t)
    (λ k s. cond (is_basic (status_at t k)) (Ok s) (less_product limit (entry_at t i k) (value_at t k) s)) 0ℚ v h
    zero_narrow (λ k x y l n q. by k x y n (is_basic (status_at t k)) q)
  where
    by : (k : ℕ) (x y : ℚ) → IsNarrow x → (b : Bool) →
        cond b (Ok x) (less_product limit (entry_at t i k) (value_at t k) x) ≡ Ok y → IsNarrow y
    by k x y n true q = let e : x ≡ y = cc in subst IsNarrow e n
    by k x y n false q = less_narrow (entry_at t i k) (value_at t k) x y q

-- the values that are computed for all columns have at most 127 bits, where those of a tableau have
valued_narrow : (t : Tableau) (values : List ℚ) → valued_run limit t ≡ Ok values → All IsNarrow t.value →
    All IsNarrow values
unfolding valued_run
valued_narrow t values h n =
    steps_ok (λ _ vs. All IsNarrow vs) t.rows
    (λ i vs. position_run limit t i >>= λ v. Ok (set vs (basic_at t i) v)) t.value values h n
    (λ i xs ys l k q.
    let o = then_ok (position_run limit t i) (λ v. Ok (set xs (basic_at t i) v)) ys q in
    let e : set xs (basic_at t i) o.0 ≡ ys = cc in
    subst (λ (vs : List ℚ). All IsNarrow vs) e
    (All-set IsNarrow xs (basic_at t i) o.0 (position_narrow t i o.0 o.1) k))

-- the values of a basis' tableau behind elimination have at most 127 bits, where the form's numbers have
with_basis_narrow : (f : Form) (basis : List Status) (e : Elimination) → IsNarrowForm f →
    All IsNarrow (with_basis f basis e).value
with_basis_narrow f basis e n =
    All-made IsNarrow (f.cols + f.rows + f.rows) (basis_value f basis)
    (λ k l. stand_narrow _ _ _ (bound_at (basis_lower f) lower k) (bound_at (basis_upper f) upper k))
  where
    lower : All NarrowBound (basis_lower f)
    lower = All-append NarrowBound f.lower (replicate f.rows (Some 0ℚ)) n.lower
        (All-replicate NarrowBound f.rows (Some 0ℚ) zero_narrow)

    upper : All NarrowBound (basis_upper f)
    upper = All-append NarrowBound f.upper (replicate f.rows (Some 0ℚ)) n.upper
        (All-replicate NarrowBound f.rows (Some 0ℚ) zero_narrow)

-- a tableau whose values and reduced costs are computed has numbers of at most 127 bits
filled_narrow : (f : Form) (t u : Tableau) → filled_run limit f t ≡ Ok u → IsNarrowForm f → All IsNarrow t.value →
    NarrowNumbers u
filled_narrow f t u h n k =
    let a = then_ok (valued_run limit t)
    (λ values. priced_run limit t f.cost >>= λ reduced. Ok (with_reduced (with_values t values) reduced)) u h in
    let b = then_ok (priced_run limit t f.cost) (λ reduced. Ok (with_reduced (with_values t a.0) reduced)) u a.2 in
    let e : with_reduced (with_values t a.0) b.0 ≡ u = cc in
    subst NarrowNumbers e
    (record { value = valued_narrow t a.0 a.1 k; reduced = priced_narrow t f.cost b.0 b.1 n.cost })

-- the tableau that is made of a basis has numbers of at most 127 bits, where the form has
from_basis_narrow : (f : Form) (basis : List Status) (t : Tableau) → start_from limit f basis ≡ Ok t →
    IsNarrowForm f → NarrowNumbers t
unfolding start_from
from_basis_narrow f basis t h n =
    let o = then_ok (eliminate_run limit f basis) (λ e. refused_as stop.Past (filled_run limit f (with_basis f basis e)))
    t h in
    filled_narrow f (with_basis f basis o.0) t
    (refused_ok stop.Past (filled_run limit f (with_basis f basis o.0)) t o.2) n (with_basis_narrow f basis o.0 n)

-- ---- the range

pub cost_range_narrow : (m : Model) (f : Form) (basis : List Status) (j : ℕ) (r : Range ℚ) → IsNarrowModel m →
    form_of limit m ≡ Ok f → j < width m → cost_range limit m f basis j ≡ Ok r → NarrowRange r
unfolding cost_range
cost_range_narrow m f basis j r n is l h =
    let o = then_ok (start_from limit f basis) (λ t. refused_as stop.Past (cost_run limit m t j)) r h in
    let t = from_basis_narrow f basis o.0 o.1 (form_narrow m f is n) in
    cost_run_narrow m o.0 j r (refused_ok stop.Past (cost_run limit m o.0 j) r o.2) (n.columns j no_column l).cost
    t.value

pub side_range_narrow : (m : Model) (f : Form) (basis : List Status) (i : ℕ) (r : Range ℚ) → IsNarrowModel m →
    form_of limit m ≡ Ok f → side_range limit m f basis i ≡ Ok r → NarrowRange r
unfolding side_range
side_range_narrow m f basis i r n is h =
    let o = then_ok (start_from limit f basis) (λ t. refused_as stop.Past (side_run limit m t i)) r h in
    let t = from_basis_narrow f basis o.0 o.1 (form_narrow m f is n) in
    side_run_narrow m o.0 i r (refused_ok stop.Past (side_run limit m o.0 i) r o.2) t.reduced
