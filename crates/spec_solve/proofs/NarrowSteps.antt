-- The numbers of a tableau, of at most 127 bits, stay so in each step of the method at the limit of the program.
--
-- `at`: where all items of a list and the default have a property, so has the item at any place, or the default behind
--   the list.
-- `number_at`: where the numbers of a list have at most 127 bits, so has the number at any place, which is 0 behind the
--   list.
-- `place_narrow`: each entry of rows of numbers within 127 bits, or 0, is within 127 bits.
-- `bound_at`: each bound of a list of bounds within 127 bits, or none, is within 127 bits.
-- `or_zero_narrow`: a bound within 127 bits, or 0 where there is none, is within 127 bits.
-- `stand_narrow`: where a nonbasic column stands between bounds within 127 bits is within 127 bits.
-- `moved_narrow`: values within 127 bits stay so as a column moves, where nothing is refused.
-- `flip_narrow`: the numbers of a tableau within 127 bits stay so in a flip, where nothing is refused.
-- `shifted_narrow`: values within 127 bits stay so where one of them is shifted and nothing is refused.
-- `exchanged_narrow`: the numbers of a tableau within 127 bits stay so as two columns exchange their statuses.
-- `pivot_narrow`: the numbers of a tableau within 127 bits stay so in a pivot, where nothing is refused.
use Rattle.std.proofs.Common.{◌≡◌, ℕ, Bool, true, false, cond, Option, Some, None, Ok, List, [], length, get_or, set}
use Rattle.std.proofs.Common.{sym, subst, ⊎_elim}
use Rattle.std.specs.Prelude.{All, IfSome, nat_eq}
use Rattle.std.proofs.lemmas.Bool.{cases_lt}
use Rattle.std.proofs.lemmas.List.{get_or_past}
use Rattle.std.proofs.lemmas.List.Elements.{All-nil, All-set}
use Rattle.spec_exact.specs.Fraction.{ℚ, 0ℚ}
use Rattle.spec_exact.specs.Narrow.{IsNarrow, number_limit}
use Rattle.spec_pivot.specs.declared.status.Status.{Status}
use Rattle.spec_pivot.specs.declared.status.Status.TheVariants.{Basic, AtLower, AtUpper, AtZero}
use Rattle.spec_exact.specs.Run.{Run, difference_run, list_run, less_product, quotient_run, sum_run}
use Rattle.spec_exact.proofs.Narrow.{zero_narrow}
use Rattle.spec_simplex.specs.Tableau.{Tableau, all_columns, at_place, entry_at, basic_at, status_at, lower_at}
use Rattle.spec_simplex.specs.Tableau.{upper_at, is_artificial, or_zero, stand}
use Rattle.spec_simplex.specs.Step.{directed, other_bound, is_place, moved_at, moved_run, flip_way, flipped, flip_run}
use Rattle.spec_simplex.specs.Step.{scaled_run, cleared_run, turned_run, repriced_run, leave_bound, exchanged, turned}
use Rattle.spec_simplex.specs.Step.{shifted_run, pivot_run}
use Rattle.spec_simplex.proofs.RunParts.{then_ok, steps_ok}
use Rattle.spec_solve.proofs.NarrowRuns.{sum_narrow, quotient_narrow, less_narrow, all_given}

-- a bound, if it is there, has at most 127 bits
abbrev pub NarrowBound : Option ℚ → Type 0
NarrowBound bound = IfSome bound IsNarrow

-- all numbers of a tableau, its entries, values, reduced costs and bounds, have at most 127 bits
pub record AreNarrow (t : Tableau) : Type 0 where
  pub entries : All (All IsNarrow) t.entries
  pub value : All IsNarrow t.value
  pub reduced : All IsNarrow t.reduced
  pub lower : All NarrowBound t.lower
  pub upper : All NarrowBound t.upper

-- what stands at a place, or in its stead where nothing does
pub at : {A : Type 0} (P : A → Type 0) (xs : List A) (d : A) → All P xs → P d → (k : ℕ) → P (get_or xs k d)
at P xs d h p k = ⊎_elim (λ l. h k d l) (λ l. subst P (sym (get_or_past xs k d l)) p) (cases_lt k (length xs))

pub number_at : (xs : List ℚ) → All IsNarrow xs → (k : ℕ) → IsNarrow (get_or xs k 0ℚ)
number_at xs h k = at IsNarrow xs 0ℚ h zero_narrow k

pub place_narrow : (rows : List (List ℚ)) → All (All IsNarrow) rows → (i k : ℕ) → IsNarrow (at_place rows i k)
place_narrow rows h i k = number_at (get_or rows i []) (at (All IsNarrow) rows [] h (All-nil IsNarrow) i) k

pub bound_at : (bounds : List (Option ℚ)) → All NarrowBound bounds → (k : ℕ) → NarrowBound (get_or bounds k None)
bound_at bounds h k = at NarrowBound bounds None h tt k

pub or_zero_narrow : (bound : Option ℚ) → NarrowBound bound → IsNarrow (or_zero bound)
or_zero_narrow None h = zero_narrow
or_zero_narrow (Some v) h = h

pub stand_narrow : (status : Status) (lower upper : Option ℚ) → NarrowBound lower → NarrowBound upper →
    IsNarrow (stand status lower upper)
stand_narrow Basic lower upper h k = zero_narrow
stand_narrow AtLower lower upper h k = or_zero_narrow lower h
stand_narrow AtUpper lower upper h k = or_zero_narrow upper k
stand_narrow AtZero lower upper h k = zero_narrow

-- ---- moving

-- where values have at most 127 bits, they stay so as the basic column at position i moves
moved_at_narrow : (t : Tableau) (j : ℕ) (theta : ℚ) (i : ℕ) (xs ys : List ℚ) →
    moved_at (Some number_limit) t j theta i xs ≡ Ok ys → All IsNarrow xs → All IsNarrow ys
moved_at_narrow t j theta i xs ys h n =
    let o = then_ok (less_product (Some number_limit) (entry_at t i j) theta (get_or xs (basic_at t i) 0ℚ))
    (λ v. Ok (set xs (basic_at t i) v)) ys h in
    let e : set xs (basic_at t i) o.0 ≡ ys = cc in
    subst (All IsNarrow) e (All-set IsNarrow xs (basic_at t i) o.0
    (less_narrow (entry_at t i j) theta (get_or xs (basic_at t i) 0ℚ) o.0 o.1) n)

pub moved_narrow : (t : Tableau) (j : ℕ) (theta : ℚ) (but : Option ℕ) (values : List ℚ) →
    moved_run (Some number_limit) t j theta but ≡ Ok values → All IsNarrow t.value → All IsNarrow values
unfolding moved_run
moved_narrow t j theta but values h n =
    steps_ok (λ _ xs. All IsNarrow xs) t.rows
    (λ i xs. cond (is_place but i) (Ok xs) (moved_at (Some number_limit) t j theta i xs)) t.value values h n
    (λ i xs ys l p. by (is_place but i) i xs ys p)
  where
    by : (c : Bool) (i : ℕ) (xs ys : List ℚ) → All IsNarrow xs →
        cond c (Ok xs) (moved_at (Some number_limit) t j theta i xs) ≡ Ok ys → All IsNarrow ys
    by true i xs ys n h = let e : xs ≡ ys = cc in subst (All IsNarrow) e n
    by false i xs ys n h = moved_at_narrow t j theta i xs ys h n

-- ---- a flip

pub flip_narrow : (t u : Tableau) (j : ℕ) → flip_run (Some number_limit) t j ≡ Ok u → AreNarrow t → AreNarrow u
unfolding flip_run
flip_narrow t u j h n =
    let o = then_ok (difference_run (Some number_limit) (or_zero (upper_at t j)) (or_zero (lower_at t j))) _ u h in
    let p = then_ok (moved_run (Some number_limit) t j (directed (flip_way (status_at t j)) o.0) None) _ u o.2 in
    let to : Status = other_bound (flip_way (status_at t j)) in
    let e : flipped t j to p.0 ≡ u = cc in
    subst AreNarrow e
    (record {
      entries = n.entries;
      value = All-set IsNarrow p.0 j (stand to (lower_at t j) (upper_at t j))
          (stand_narrow to (lower_at t j) (upper_at t j) (bound_at t.lower n.lower j) (bound_at t.upper n.upper j))
          (moved_narrow t j _ None p.0 p.1 n.value);
      reduced = n.reduced;
      lower = n.lower;
      upper = n.upper;
    })

-- ---- a pivot

-- where all rows have at most 127 bits, they stay so as the pivot's row is scaled
scaled_narrow : (n : ℕ) (rows new : List (List ℚ)) (p j : ℕ) → scaled_run (Some number_limit) n rows p j ≡ Ok new →
    All (All IsNarrow) rows → All (All IsNarrow) new
unfolding scaled_run
scaled_narrow n rows new p j h k =
    let o = then_ok (list_run n (λ k. quotient_run (Some number_limit) (at_place rows p k) (at_place rows p j)))
    (λ row. Ok (set rows p row)) new h in
    let e : set rows p o.0 ≡ new = cc in
    subst (All (All IsNarrow)) e
    (All-set (All IsNarrow) rows p o.0
    (all_given IsNarrow n _ o.0 o.1 (λ i x l q. quotient_narrow (at_place rows p i) (at_place rows p j) x q)) k)

-- where all rows have at most 127 bits, they stay so as row i is cleared of the entering column
cleared_narrow : (n p j i : ℕ) (rows new : List (List ℚ)) → cleared_run (Some number_limit) n p j i rows ≡ Ok new →
    All (All IsNarrow) rows → All (All IsNarrow) new
unfolding cleared_run
cleared_narrow n p j i rows new h k =
    let o = then_ok (list_run n (λ k. less_product (Some number_limit) (at_place rows i j) (at_place rows p k)
    (at_place rows i k))) (λ row. Ok (set rows i row)) new h in
    let e : set rows i o.0 ≡ new = cc in
    subst (All (All IsNarrow)) e
    (All-set (All IsNarrow) rows i o.0
    (all_given IsNarrow n _ o.0 o.1 (λ k x l q. less_narrow (at_place rows i j) (at_place rows p k) (at_place rows i k)
    x q)) k)

-- where all rows have at most 127 bits, they stay so in a pivot
turned_narrow : (m n : ℕ) (rows new : List (List ℚ)) (p j : ℕ) → turned_run (Some number_limit) m n rows p j ≡ Ok new →
    All (All IsNarrow) rows → All (All IsNarrow) new
unfolding turned_run
turned_narrow m n rows new p j h k =
    let o = then_ok (scaled_run (Some number_limit) n rows p j) _ new h in
    steps_ok (λ _ rows. All (All IsNarrow) rows) m
    (λ i rows. cond (nat_eq i p) (Ok rows) (cleared_run (Some number_limit) n p j i rows)) o.0 new o.2
    (scaled_narrow n rows o.0 p j o.1 k)
    (λ i xs ys l q. by (nat_eq i p) i xs ys q)
  where
    by : (c : Bool) (i : ℕ) (xs ys : List (List ℚ)) → All (All IsNarrow) xs →
        cond c (Ok xs) (cleared_run (Some number_limit) n p j i xs) ≡ Ok ys → All (All IsNarrow) ys
    by true i xs ys k h = let e : xs ≡ ys = cc in subst (All (All IsNarrow)) e k
    by false i xs ys k h = cleared_narrow n p j i xs ys h k

-- reduced costs that a pivot works out at the limit of the program have at most 127 bits
repriced_narrow : (n : ℕ) (reduced : List ℚ) (rows : List (List ℚ)) (p j : ℕ) (new : List ℚ) →
    repriced_run (Some number_limit) n reduced rows p j ≡ Ok new → All IsNarrow new
unfolding repriced_run
repriced_narrow n reduced rows p j new h =
    all_given IsNarrow n _ new h (λ k x l q. less_narrow (get_or reduced j 0ℚ) (at_place rows p k)
    (get_or reduced k 0ℚ) x q)

pub shifted_narrow : (values new : List ℚ) (j : ℕ) (theta : ℚ) → shifted_run (Some number_limit) values j theta ≡ Ok
    new →
    All IsNarrow values → All IsNarrow new
unfolding shifted_run
shifted_narrow values new j theta h n =
    let o = then_ok (sum_run (Some number_limit) (get_or values j 0ℚ) theta) (λ v. Ok (set values j v)) new h in
    let e : set values j o.0 ≡ new = cc in
    subst (All IsNarrow) e (All-set IsNarrow values j o.0 (sum_narrow (get_or values j 0ℚ) theta o.0 o.1) n)

-- where bounds have at most 127 bits, they stay so as an artificial column that leaves is bounded by 0
leave_narrow : (t : Tableau) (q : ℕ) (bounds : List (Option ℚ)) → All NarrowBound bounds →
    All NarrowBound (leave_bound t q bounds)
leave_narrow t q bounds h = by (is_artificial t q)
  where
    by : (c : Bool) → All NarrowBound (cond c (set bounds q (Some 0ℚ)) bounds)
    by true = All-set NarrowBound bounds q (Some 0ℚ) zero_narrow h
    by false = h

pub exchanged_narrow : (t : Tableau) (p j : ℕ) (to : Status) → AreNarrow t → AreNarrow (exchanged t p j to)
exchanged_narrow t p j to n =
    let q : ℕ = basic_at t p in
    record {
      entries = n.entries;
      value =
          All-set IsNarrow t.value q (stand to (lower_at t q) (upper_at t q))
          (stand_narrow to (lower_at t q) (upper_at t q) (bound_at t.lower n.lower q) (bound_at t.upper n.upper q))
          n.value;
      reduced = n.reduced;
      lower = leave_narrow t q t.lower n.lower;
      upper = leave_narrow t q t.upper n.upper;
    }

pub pivot_narrow : (t u : Tableau) (p j : ℕ) (theta : ℚ) (to : Status) →
    pivot_run (Some number_limit) t p j theta to ≡ Ok u → AreNarrow t → AreNarrow u
unfolding pivot_run
pivot_narrow t u p j theta to h n =
    let a = then_ok (moved_run (Some number_limit) t j theta (Some p)) _ u h in
    let b = then_ok (shifted_run (Some number_limit) a.0 j theta) _ u a.2 in
    let c = then_ok (turned_run (Some number_limit) t.rows (all_columns t) t.entries p j) _ u b.2 in
    let d = then_ok (repriced_run (Some number_limit) (all_columns t) t.reduced c.0 p j) _ u c.2 in
    last b.0 c.0 d.0
    (record {
      entries = turned_narrow t.rows (all_columns t) t.entries c.0 p j c.1 n.entries;
      value = shifted_narrow a.0 b.0 j theta b.1 (moved_narrow t j theta (Some p) a.0 a.1 n.value);
      reduced = repriced_narrow (all_columns t) t.reduced c.0 p j d.0 d.1;
      lower = n.lower;
      upper = n.upper;
    })
    d.2
  where
    last : (values : List ℚ) (rows : List (List ℚ)) (reduced : List ℚ) → AreNarrow (turned t values rows reduced) →
        ◌≡◌ {A = Run Tableau} (Ok (exchanged (turned t values rows reduced) p j to)) (Ok u) → AreNarrow u
    last values rows reduced k h =
        let e : exchanged (turned t values rows reduced) p j to ≡ u = cc in
        subst AreNarrow e (exchanged_narrow (turned t values rows reduced) p j to k)
