-- Where a model's numbers are of at most 127 bits, so are those of its form and of the tableau that the form begins
-- with, at the limit of the program.
--
-- `one_narrow`: the number 1 is within 127 bits.
-- `least_narrow`: a cost of at most 127 bits has at most 127 bits with the sign of the sense.
-- `form_narrow`: the form of a model whose numbers are within 127 bits has such numbers.
-- `form_entry_narrow`: each entry of a form whose numbers have at most 127 bits has at most 127 bits.
-- `row_start_narrow`: the sum or gap with which a row begins, where nothing is refused at 127 bits, is within them.
-- `one_at_narrow`: where v has at most 127 bits, so has each number of the list with v at one place and 0 at all
--   others.
-- `priced_narrow`: the reduced costs that a tableau gives for costs within 127 bits, where nothing is refused, are
--   within 127 bits.
-- `start_narrow`: the first tableau of a form whose numbers are within 127 bits has such numbers.
use Rattle.std.proofs.Common.{◌≡◌, ◌+◌, ◌-◌, ℕ, suc, Bool, true, false, cond, Option, Some, None, Ok, List, [], ◌∷◌}
use Rattle.std.proofs.Common.{get_or, map, replicate, nat_eq, subst, arith}
use Rattle.std.specs.Prelude.{All, nat_lt}
use Rattle.std.specs.declared.cmp.Ordering.{Ordering}
use Rattle.std.specs.declared.cmp.Ordering.TheVariants.{Less, Equal, Greater}
use Rattle.std.proofs.lemmas.List.Elements.{All-nil, All-append, All-map, All-replicate}
use Rattle.spec_exact.specs.Fraction.{ℚ, 0ℚ, 1ℚ, whole, lt_ℚ}
use Rattle.spec_exact.specs.Narrow.{IsNarrow, number_limit}
use Rattle.spec_model.specs.declared.parts.Sense.{Sense}
use Rattle.spec_model.specs.declared.parts.Sense.TheVariants.{Min, Max}
use Rattle.spec_model.specs.declared.parts.Kind.{Kind}
use Rattle.spec_model.specs.declared.parts.Kind.TheVariants.{L, G, E, N}
use Rattle.spec_model.specs.declared.parts.RowLimit.{RowLimit}
use Rattle.spec_model.specs.declared.parts.RowLimit.TheVariants.{Absent, Given, Sum, Difference}
use Rattle.spec_model.specs.Model.{Model, ExactRow, ExactColumn, no_row, width, height, row, entry_of}
use Rattle.spec_model.specs.Model.{lower_by, upper_by, lower_of, upper_of, limit_run, lower_run, upper_run}
use Rattle.spec_model.specs.Kept.{IsNarrowRow, IsNarrowColumn}
use Rattle.spec_simplex.specs.declared.ends.FormFault.TheVariants as fault
use Rattle.spec_simplex.specs.declared.ends.RowStart.{RowStart}
use Rattle.spec_simplex.specs.declared.ends.RowStart.TheVariants.{Within, Below, Above}
use Rattle.spec_exact.specs.Run.{Run, ◌>>=◌, refused_as, sum_run, difference_run, order_run, plus_product, less_product}
use Rattle.spec_exact.specs.Run.{steps, list_run}
use Rattle.spec_simplex.specs.Form.{Form, form_entry, form_lower, form_upper, limits_run}
use Rattle.spec_simplex.specs.Form.{column_clash, least_cost, formed, form_of}
use Rattle.spec_simplex.specs.Tableau.{Tableau, all_columns, entry_at, basic_at}
use Rattle.spec_simplex.specs.Start.{first_status, first_value, row_sum, below_by, below_run, above_by, above_run}
use Rattle.spec_simplex.specs.Start.{within_or_above, row_start_by, row_start, logical_value, logical_sign}
use Rattle.spec_simplex.specs.Start.{structural_entry, artificial_value, artificial_upper, start_at, by_column, one_at}
use Rattle.spec_simplex.specs.Start.{start_entry, start_value, start_row, begun, cost_at, reduced_run, priced_run}
use Rattle.spec_simplex.specs.Start.{with_reduced, first_cost, first_costs, start_of}
use Rattle.spec_exact.proofs.Results.{ok_same}
use Rattle.spec_exact.proofs.RunsInOrder.{All-made}
use Rattle.spec_exact.proofs.Narrow.{neg_narrow, zero_narrow}
use Rattle.spec_simplex.proofs.RunParts.{then_ok, refused_ok, steps_ok}
use Rattle.spec_solve.proofs.NarrowRuns.{sum_narrow, difference_narrow, plus_narrow, less_narrow}
use Rattle.spec_solve.proofs.NarrowRuns.{all_given}
use Rattle.spec_solve.proofs.NarrowSteps.{NarrowBound, AreNarrow, at, number_at, bound_at, or_zero_narrow}
use Rattle.spec_solve.proofs.NarrowSteps.{stand_narrow}

pub one_narrow : IsNarrow 1ℚ
unfolding whole
one_narrow = record { top = omega arith; bottom = omega arith }

-- ---- the form

-- all numbers of a model's rows and columns have at most 127 bits
pub record IsNarrowModel (m : Model) : Type 0 where
  pub rows : All IsNarrowRow m.rows
  pub columns : All IsNarrowColumn m.columns

-- all numbers of a form, its entries, bounds and costs, have at most 127 bits
pub record IsNarrowForm (f : Form) : Type 0 where
  pub entries : All (All (λ e. IsNarrow e.1)) f.entries
  pub lower : All NarrowBound f.lower
  pub upper : All NarrowBound f.upper
  pub cost : All IsNarrow f.cost

-- a lower and an upper limit, each of which may be absent
abbrev Pair : Type 0
Pair = Option ℚ × Option ℚ

-- each of both limits, if it is there, has at most 127 bits
abbrev NarrowPair : Pair → Type 0
NarrowPair p = NarrowBound p.0 × NarrowBound p.1

-- a limit of a row that takes no operation has at most 127 bits; of each other one nothing is asked
abbrev IsNarrowGiven : RowLimit ℚ → Type 0
IsNarrowGiven (Given v) = IsNarrow v
IsNarrowGiven other = Unit {0}

-- where a row's right side has at most 127 bits, a lower limit that takes no operation has at most 127 bits
lower_given : (kind : Kind) (b : ℚ) (range : Option ℚ) → IsNarrow b → IsNarrowGiven (lower_by kind b range)
lower_given L b None n = tt
lower_given L b (Some r) n = tt
lower_given G b range n = n
lower_given N b range n = tt
lower_given E b None n = n
lower_given E b (Some r) n = by (lt_ℚ r 0ℚ)
  where
    by : (t : Bool) → IsNarrowGiven (cond t (Sum b r) (Given b))
    by true = tt
    by false = n

-- where a row's right side has at most 127 bits, an upper limit that takes no operation has at most 127 bits
upper_given : (kind : Kind) (b : ℚ) (range : Option ℚ) → IsNarrow b → IsNarrowGiven (upper_by kind b range)
upper_given L b range n = n
upper_given G b None n = tt
upper_given G b (Some r) n = tt
upper_given N b range n = tt
upper_given E b None n = n
upper_given E b (Some r) n = by (lt_ℚ r 0ℚ)
  where
    by : (t : Bool) → IsNarrowGiven (cond t (Given b) (Sum b r))
    by true = n
    by false = tt

-- a row's limit has at most 127 bits where it comes of an operation at the program's limit, or is given as narrow
limit_narrow : (o : RowLimit ℚ) (l : Option ℚ) → limit_run (Some number_limit) o ≡ Ok l → IsNarrowGiven o → NarrowBound l
limit_narrow Absent l h n = subst NarrowBound (ok_same None l h) tt
limit_narrow (Given v) l h n = subst NarrowBound (ok_same (Some v) l h) n
limit_narrow (Sum v w) l h n =
    let o = then_ok (sum_run (Some number_limit) v w) (λ s. Ok (Some s)) l h in
    subst NarrowBound (ok_same (Some o.0) l o.2) (sum_narrow v w o.0 o.1)
limit_narrow (Difference v w) l h n =
    let o = then_ok (difference_run (Some number_limit) v w) (λ d. Ok (Some d)) l h in
    subst NarrowBound (ok_same (Some o.0) l o.2) (difference_narrow v w o.0 o.1)

-- both limits of a row with a right side of at most 127 bits, worked out at the program's limit, have at most 127 bits
limits_narrow : (r : ExactRow) (p : Pair) → limits_run (Some number_limit) r ≡ Ok p → IsNarrow r.rhs → NarrowPair p
limits_narrow r p h n =
    let l = then_ok (lower_run (Some number_limit) r) (λ l. upper_run (Some number_limit) r >>= λ u. Ok (l, u)) p h in
    let u = then_ok (upper_run (Some number_limit) r) (λ u. Ok (l.0, u)) p l.2 in
    subst NarrowPair (ok_same (l.0, u.0) p u.2) (
      limit_narrow (lower_of r) l.0 l.1 (lower_given r.kind r.rhs r.range n),
      limit_narrow (upper_of r) u.0 u.1 (upper_given r.kind r.rhs r.range n),
    )

pub least_narrow : (sense : Sense) (c : ℚ) → IsNarrow c → IsNarrow (least_cost sense c)
least_narrow Min c h = h
least_narrow Max c h = neg_narrow c h

-- the form of a model and row limits with numbers of at most 127 bits has numbers of at most 127 bits
formed_narrow : (m : Model) (ls : List Pair) → IsNarrowModel m → All NarrowPair ls → IsNarrowForm (formed m ls)
formed_narrow m ls n h = record {
  entries =
      All-map (All (λ e. IsNarrow e.1)) (λ (c : ExactColumn). c.entries) m.columns (λ k d l. (n.columns k d l).entries);
  lower = All-append NarrowBound (map (λ (c : ExactColumn). c.lower) m.columns) (map (λ (p : Pair). p.0) ls)
      (All-map NarrowBound (λ (c : ExactColumn). c.lower) m.columns (λ k d l. (n.columns k d l).lower))
      (All-map NarrowBound (λ (p : Pair). p.0) ls (λ k d l. (h k d l).0));
  upper = All-append NarrowBound (map (λ (c : ExactColumn). c.upper) m.columns) (map (λ (p : Pair). p.1) ls)
      (All-map NarrowBound (λ (c : ExactColumn). c.upper) m.columns (λ k d l. (n.columns k d l).upper))
      (All-map NarrowBound (λ (p : Pair). p.1) ls (λ k d l. (h k d l).1));
  cost = All-append IsNarrow (map (λ (c : ExactColumn). least_cost m.sense c.cost) m.columns) (replicate (height m) 0ℚ)
      (All-map IsNarrow (λ (c : ExactColumn). least_cost m.sense c.cost) m.columns
      (λ k d l. least_narrow m.sense (get_or m.columns k d).cost (n.columns k d l).cost))
      (All-replicate IsNarrow (height m) 0ℚ zero_narrow);
}

pub form_narrow : (m : Model) (f : Form) → form_of (Some number_limit) m ≡ Ok f → IsNarrowModel m → IsNarrowForm f
unfolding form_of
form_narrow m f h n =
    let o = then_ok (refused_as fault.Past (list_run (height m) (λ i. limits_run (Some number_limit) (row m i))))
    (λ ls. steps (width m) (λ j _. column_clash (Some number_limit) m j) tt >>= λ _. Ok (formed m ls)) f h in
    let p = then_ok (steps (width m) (λ j _. column_clash (Some number_limit) m j) tt) (λ _. Ok (formed m o.0)) f o.2 in
    let e : formed m o.0 ≡ f = cc in
    subst IsNarrowForm e
    (formed_narrow m o.0 n
    (all_given NarrowPair (height m) (λ i. limits_run (Some number_limit) (row m i)) o.0
    (refused_ok fault.Past _ o.0 o.1)
    (λ i q l g. limits_narrow (row m i) q g (n.rows i no_row l).rhs)))

-- each entry of a column whose listed entries have at most 127 bits has at most 127 bits
entry_narrow : (es : List (ℕ × ℚ)) (i : ℕ) → All (λ e. IsNarrow e.1) es → IsNarrow (entry_of es i)
entry_narrow [] i h = zero_narrow
entry_narrow (e ∷ es) i h = by (nat_eq e.0 i) (entry_narrow es i (λ k d l. h (suc k) d (omega arith)))
  where
    by : (t : Bool) → IsNarrow (entry_of es i) → IsNarrow (cond t e.1 (entry_of es i))
    by true rest = h 0 e (omega arith)
    by false rest = rest

pub form_entry_narrow : (f : Form) → IsNarrowForm f → (i j : ℕ) → IsNarrow (form_entry f i j)
form_entry_narrow f n i j =
    entry_narrow (get_or f.entries j []) i (at (All (λ e. IsNarrow e.1)) f.entries [] n.entries
    (All-nil (λ (e : ℕ × ℚ). IsNarrow e.1)) j)

-- ---- what rows begin with

-- the number with which a row begins, its sum or its gap to a limit, has at most 127 bits
abbrev pub NarrowStart : RowStart ℚ → Type 0
NarrowStart (Within v) = IsNarrow v
NarrowStart (Below gap) = IsNarrow gap
NarrowStart (Above gap) = IsNarrow gap

-- the sum with which a row begins, worked out at the limit of the program, has at most 127 bits
sum_of_row : (f : Form) (i : ℕ) (v : ℚ) → row_sum (Some number_limit) f i ≡ Ok v → IsNarrow v
sum_of_row f i v h =
    steps_ok (λ _ s. IsNarrow s) f.cols (λ j s. plus_product (Some number_limit) (form_entry f i j) (first_value f j)
    s) 0ℚ v h zero_narrow
    (λ j s t l k q. plus_narrow (form_entry f i j) (first_value f j) s t q)

-- ---- no gap, and one that is a difference

-- a gap that is not there has at most 127 bits
no_gap : (gap : Option ℚ) → (let r : Run (Option ℚ) = Ok None in r) ≡ Ok gap → NarrowBound gap
no_gap gap h = let e : None ≡ gap = cc in subst NarrowBound e tt

-- a gap that is a difference worked out at the limit of the program has at most 127 bits
some_gap : (v w : ℚ) (gap : Option ℚ) →
    (difference_run (Some number_limit) v w >>= λ gap. Ok (Some gap)) ≡ Ok gap → NarrowBound gap
some_gap v w gap h =
    let g = then_ok (difference_run (Some number_limit) v w) (λ gap. Ok (Some gap)) gap h in
    let e : Some g.0 ≡ gap = cc in
    subst NarrowBound e (difference_narrow v w g.0 g.1)

-- the gap by which v is below a lower limit, if it is, has at most 127 bits
below_narrow : (lower : Option ℚ) (v : ℚ) (gap : Option ℚ) → below_run (Some number_limit) lower v ≡ Ok gap →
    NarrowBound gap
below_narrow None v gap h = no_gap gap h
below_narrow (Some l) v gap h =
    let o = then_ok (order_run (Some number_limit) v l) (λ o. below_by (Some number_limit) l v o) gap h in by o.0 o.2
  where
    by : (o : Ordering) → below_by (Some number_limit) l v o ≡ Ok gap → NarrowBound gap
    by Less q = some_gap l v gap q
    by Equal q = no_gap gap q
    by Greater q = no_gap gap q

-- the gap by which v is above an upper limit, if it is, has at most 127 bits
above_narrow : (upper : Option ℚ) (v : ℚ) (gap : Option ℚ) → above_run (Some number_limit) upper v ≡ Ok gap →
    NarrowBound gap
above_narrow None v gap h = no_gap gap h
above_narrow (Some u) v gap h =
    let o = then_ok (order_run (Some number_limit) v u) (λ o. above_by (Some number_limit) u v o) gap h in by o.0 o.2
  where
    by : (o : Ordering) → above_by (Some number_limit) u v o ≡ Ok gap → NarrowBound gap
    by Less q = no_gap gap q
    by Equal q = no_gap gap q
    by Greater q = some_gap v u gap q

-- where a row's sum and the gap below its lower limit have at most 127 bits, the row begins with numbers of at most 127
-- bits
start_by_narrow : (upper : Option ℚ) (v : ℚ) (gap : Option ℚ) (s : RowStart ℚ) →
    row_start_by (Some number_limit) upper v gap ≡ Ok s → IsNarrow v → NarrowBound gap → NarrowStart s
start_by_narrow upper v None s h n k =
    let o = then_ok (above_run (Some number_limit) upper v) (λ gap. Ok (within_or_above v gap)) s h in
    let e : within_or_above v o.0 ≡ s = cc in
    subst NarrowStart e (by o.0 (above_narrow upper v o.0 o.1))
  where
    by : (gap : Option ℚ) → NarrowBound gap → NarrowStart (within_or_above v gap)
    by None g = n
    by (Some a) g = g
start_by_narrow upper v (Some gap) s h n k = let e : Below gap ≡ s = cc in subst NarrowStart e k

pub row_start_narrow : (f : Form) (i : ℕ) (s : RowStart ℚ) → row_start (Some number_limit) f i ≡ Ok s → NarrowStart s
row_start_narrow f i s h =
    let o = then_ok (row_sum (Some number_limit) f i) _ s h in
    let p = then_ok (below_run (Some number_limit) (form_lower f (f.cols + i)) o.0) _ s o.2 in
    start_by_narrow (form_upper f (f.cols + i)) o.0 p.0 s p.2 (sum_of_row f i o.0 o.1)
    (below_narrow (form_lower f (f.cols + i)) o.0 p.0 p.1)

-- ---- the tableau

-- where the numbers for structural, logical and artificial columns have at most 127 bits, that of column k has at most
-- 127 bits
by_column_narrow : (f : Form) (k : ℕ) (s : ℚ) (l a : ℕ → ℚ) → IsNarrow s → ((r : ℕ) → IsNarrow (l r)) →
    ((r : ℕ) → IsNarrow (a r)) → IsNarrow (by_column f k s l a)
by_column_narrow f k s l a p q r = by (nat_lt k f.cols) (nat_lt k (f.cols + f.rows))
  where
    by : (t u : Bool) → IsNarrow (cond t s (cond u (l (k - f.cols)) (a (k - (f.cols + f.rows)))))
    by true u = p
    by false true = q (k - f.cols)
    by false false = r (k - (f.cols + f.rows))

pub one_at_narrow : (i r : ℕ) (v : ℚ) → IsNarrow v → IsNarrow (one_at i r v)
one_at_narrow i r v h = by (nat_eq i r)
  where
    by : (t : Bool) → IsNarrow (cond t v 0ℚ)
    by true = h
    by false = zero_narrow

-- the entry of a structural column with a coefficient of at most 127 bits has at most 127 bits
structural_narrow : (s : RowStart ℚ) (a : ℚ) → IsNarrow a → IsNarrow (structural_entry s a)
structural_narrow (Within v) a h = neg_narrow a h
structural_narrow (Below gap) a h = h
structural_narrow (Above gap) a h = neg_narrow a h

-- the entry of a logical column in its row has at most 127 bits
sign_narrow : (s : RowStart ℚ) → IsNarrow (logical_sign s)
sign_narrow (Within v) = one_narrow
sign_narrow (Below gap) = neg_narrow 1ℚ one_narrow
sign_narrow (Above gap) = one_narrow

-- where a row's start and its limits have at most 127 bits, its logical column begins at a value of at most 127 bits
logical_narrow : (s : RowStart ℚ) (lower upper : Option ℚ) → NarrowStart s → NarrowBound lower → NarrowBound upper →
    IsNarrow (logical_value s lower upper)
logical_narrow (Within v) lower upper h k l = h
logical_narrow (Below gap) lower upper h k l = or_zero_narrow lower k
logical_narrow (Above gap) lower upper h k l = or_zero_narrow upper l

-- where a row's start has at most 127 bits, its artificial column begins at a value of at most 127 bits
artificial_narrow : (s : RowStart ℚ) → NarrowStart s → IsNarrow (artificial_value s)
artificial_narrow (Within v) h = zero_narrow
artificial_narrow (Below gap) h = h
artificial_narrow (Above gap) h = h

-- the upper bound of an artificial column has at most 127 bits, if there is one
artificial_bound : (s : RowStart ℚ) → NarrowBound (artificial_upper s)
artificial_bound (Within v) = zero_narrow
artificial_bound (Below gap) = tt
artificial_bound (Above gap) = tt

-- the cost of an artificial column in phase one has at most 127 bits
first_cost_narrow : (s : RowStart ℚ) → IsNarrow (first_cost s)
first_cost_narrow (Within v) = zero_narrow
first_cost_narrow (Below gap) = one_narrow
first_cost_narrow (Above gap) = one_narrow

module _ (f : Form) (starts : List (RowStart ℚ)) (n : IsNarrowForm f) (h : All NarrowStart starts) where
  -- each lower bound of the form has at most 127 bits
  lower_narrow : (k : ℕ) → NarrowBound (form_lower f k)
  lower_narrow k = bound_at f.lower n.lower k

  -- each upper bound of the form has at most 127 bits
  upper_narrow : (k : ℕ) → NarrowBound (form_upper f k)
  upper_narrow k = bound_at f.upper n.upper k

  -- the first value of each structural column has at most 127 bits
  first_narrow : (k : ℕ) → IsNarrow (first_value f k)
  first_narrow k =
      stand_narrow (first_status (form_lower f k) (form_upper f k)) (form_lower f k) (form_upper f k) (lower_narrow k)
      (upper_narrow k)

  -- the number with which row r begins has at most 127 bits
  at_start : (r : ℕ) → NarrowStart (start_at starts r)
  at_start r = at NarrowStart starts (Within 0ℚ) h zero_narrow r

  -- each entry of the first tableau has at most 127 bits
  start_entry_narrow : (i k : ℕ) → IsNarrow (start_entry f (start_at starts i) i k)
  start_entry_narrow i k =
      by_column_narrow f k (structural_entry (start_at starts i) (form_entry f i k))
      (λ r. one_at i r (logical_sign (start_at starts i))) (λ r. one_at i r 1ℚ)
      (structural_narrow (start_at starts i) (form_entry f i k) (form_entry_narrow f n i k))
      (λ r. one_at_narrow i r (logical_sign (start_at starts i)) (sign_narrow (start_at starts i)))
      (λ r. one_at_narrow i r 1ℚ one_narrow)

  -- each value of the first tableau has at most 127 bits
  start_value_narrow : (k : ℕ) → IsNarrow (start_value f starts k)
  start_value_narrow k =
      by_column_narrow f k (first_value f k) (λ r. logical_value (start_at starts r) (form_lower f k) (form_upper f k))
      (λ r. artificial_value (start_at starts r))
      (first_narrow k)
      (λ r. logical_narrow (start_at starts r) (form_lower f k) (form_upper f k) (at_start r) (lower_narrow k)
      (upper_narrow k)) (λ r. artificial_narrow (start_at starts r) (at_start r))

  -- where the form and the rows' starts have numbers of at most 127 bits, so has the tableau that begins with them
  pub begun_narrow : AreNarrow (begun f starts)
  begun_narrow = record {
    entries = All-made (All IsNarrow) f.rows (start_row f starts)
        (λ i l. All-made IsNarrow (f.cols + f.rows + f.rows) (start_entry f (start_at starts i) i)
        (λ k q. start_entry_narrow i k));
    value = All-made IsNarrow (f.cols + f.rows + f.rows) (start_value f starts) (λ k l. start_value_narrow k);
    reduced = All-replicate IsNarrow (f.cols + f.rows + f.rows) 0ℚ zero_narrow;
    lower =
        All-append NarrowBound f.lower (replicate f.rows (Some 0ℚ)) n.lower
        (All-replicate NarrowBound f.rows (Some 0ℚ) zero_narrow);
    upper =
        All-append NarrowBound f.upper (map artificial_upper starts) n.upper
        (All-map NarrowBound artificial_upper starts (λ k d l. artificial_bound (get_or starts k d)));
  }

  -- where the form and the rows' starts have numbers of at most 127 bits, so have the costs of phase one
  pub first_costs_narrow : All IsNarrow (first_costs f starts)
  first_costs_narrow =
      All-append IsNarrow (replicate (f.cols + f.rows) 0ℚ) (map first_cost starts)
      (All-replicate IsNarrow (f.cols + f.rows) 0ℚ zero_narrow)
      (All-map IsNarrow first_cost starts (λ k d l. first_cost_narrow (get_or starts k d)))

-- reduced costs
pub priced_narrow : (t : Tableau) (costs reduced : List ℚ) → priced_run (Some number_limit) t costs ≡ Ok reduced →
    All IsNarrow costs → All IsNarrow reduced
unfolding priced_run
priced_narrow t costs reduced h n =
    all_given IsNarrow (all_columns t) (reduced_run (Some number_limit) t costs) reduced h
    (λ k d l q.
    steps_ok (λ _ d. IsNarrow d) t.rows (λ i d. less_product (Some number_limit) (cost_at costs (basic_at t i))
    (entry_at t i k) d) (cost_at costs k) d q (number_at costs n k)
    (λ i x y l p r. less_narrow (cost_at costs (basic_at t i)) (entry_at t i k) x y r))

pub start_narrow : (f : Form) (t : Tableau) → start_of (Some number_limit) f ≡ Ok t → IsNarrowForm f → AreNarrow t
unfolding start_of
start_narrow f t h n =
    let o = then_ok (list_run f.rows (row_start (Some number_limit) f)) _ t h in
    let p = then_ok (priced_run (Some number_limit) (begun f o.0) (first_costs f o.0)) _ t o.2 in
    let starts : All NarrowStart o.0 = all_given NarrowStart f.rows (row_start (Some number_limit) f) o.0 o.1
    (λ i s l q. row_start_narrow f i s q) in
    let b : AreNarrow (begun f o.0) = begun_narrow f o.0 n starts in
    let e : with_reduced (begun f o.0) p.0 ≡ t = cc in
    subst AreNarrow e
    (record {
      entries = b.entries;
      value = b.value;
      reduced = priced_narrow (begun f o.0) (first_costs f o.0) p.0 p.1 (first_costs_narrow f o.0 n starts);
      lower = b.lower;
      upper = b.upper;
    })
