-- Where the conditions that no point is feasible hold, the run without a limit accepts the certificate.
--
-- `infeasible_all`: Farkas multipliers that meet the conditions are accepted by the run without a limit.
-- `clash_all`: a column whose bounds clash is accepted by the run without a limit.
use Rattle.std.proofs.Common.{◌≡◌, ℕ, List, Option, Some, None, Ok, Bool, true, false, cond}
use Rattle.std.proofs.Common.{Ordering, Less, Equal, Greater, refl, sym, ap, ap₂, ◌∙◌, subst}
use Rattle.std.specs.Ordering.{is_lt, is_gt}
use Rattle.spec_exact.specs.Fraction.{ℚ, 0ℚ, ◌+ℚ◌, ◌*ℚ◌, ◌<ℚ◌, lt_ℚ}
use Rattle.spec_exact.specs.Limit.{compare, order}
use Rattle.spec_exact.specs.declared.past.Op.TheVariants.{Cmp}
use Rattle.spec_exact.proofs.Field.{+ℚ_zero, *ℚ_zero}
use Rattle.spec_exact.proofs.Ruleset.{zero-+ℚ}
use Rattle.spec_exact.proofs.Order.{clash_ℚ, <ℚ-le, lt_if}
use Rattle.spec_exact.proofs.Strict.{<ℚ_irrefl}
use Rattle.spec_exact.proofs.Compare.{order_less, order_equal, order_greater}
use Rattle.spec_exact.specs.Run.{◌>>=◌}
use Rattle.spec_model.specs.Model.{Model, Limits, width, height, bounds, limits, row, coefficient, part}
use Rattle.spec_check.specs.declared.certificate.Known.TheVariants as known
use Rattle.spec_check.specs.Checks.{priced, asked, or_zero, HasLimit, turned_limits}
use Rattle.spec_check.specs.Checks.{rows_ask, columns_give, ChecksInfeasible, ChecksClash}
use Rattle.spec_check.specs.Run.{Run, step, need, lower_run, upper_run}
use Rattle.spec_check.specs.Run.{weighed_at, weighed, row_asks_run, priced_run, column_gives_run}
use Rattle.spec_check.specs.Run.{rows_ask_run, columns_give_run, infeasible_run, crossed_run, clash_run}
use Rattle.spec_check.proofs.StepsComplete.{then_ok, need_true, from_all, plus_all}
use Rattle.spec_check.proofs.StepsComplete.{sum_all, lower_all, upper_all, ordered}

-- where a bound is given, weighing it by d without a limit on numbers adds d times the bound
weighed_at_all : (n : ℕ) (d : ℚ) (o : Option ℚ) (b s : ℚ) → o ≡ Some b →
    weighed_at n None d o s ≡ Ok (s +ℚ d *ℚ or_zero o)
weighed_at_all n d o b s e = subst (λ z. weighed_at n None d z s ≡ Ok (s +ℚ d *ℚ or_zero z)) (sym e) (plus_all d b s)

-- a run that gives s gives s plus d times 0
nothing : (s d : ℚ) → ◌≡◌ {A = Run ℚ} (Ok s) (Ok (s +ℚ d *ℚ 0ℚ))
nothing s d = ap Ok (sym (+ℚ_zero s) ∙ ap (λ z. s +ℚ z) (sym (*ℚ_zero d)))

-- where the limit that goes with the sign of d is there, weighing without a limit on numbers adds d times that limit
weighed_all : (n : ℕ) (l : Limits) (d s : ℚ) → HasLimit l d → weighed n None l d s ≡ Ok (s +ℚ d *ℚ asked l d)
weighed_all n l d s h = by (lt_ℚ 0ℚ d) (lt_ℚ d 0ℚ) refl refl
  where
    by : (a b : Bool) → lt_ℚ 0ℚ d ≡ a → lt_ℚ d 0ℚ ≡ b
        → cond a (weighed_at n None d l.lower s) (cond b (weighed_at n None d l.upper s) (Ok s))
        ≡ Ok (s +ℚ d *ℚ cond a (or_zero l.lower) (cond b (or_zero l.upper) 0ℚ))
    by true b p q = let w = h.above (lt_if 0ℚ d p) in weighed_at_all n d l.lower w.0 s w.1
    by false true p q = let w = h.below (lt_if d 0ℚ q) in weighed_at_all n d l.upper w.0 s w.1
    by false false p q = nothing s d

-- where row i has the limit that goes with its multiplier's sign, the run without a limit on numbers adds their product
row_all : (m : Model) (y : List ℚ) (i : ℕ) (s : ℚ) → HasLimit (limits m i) (part y i) →
    row_asks_run None m y i s ≡ Ok (s +ℚ part y i *ℚ asked (limits m i) (part y i))
row_all m y i s h = by (lt_ℚ 0ℚ d) (lt_ℚ d 0ℚ) refl refl
  where
    d : ℚ
    d = part y i

    l : Limits
    l = limits m i

    low : Run ℚ
    low = lower_run None (row m i) >>= λ l. weighed_at 1 None (part y i) l s

    high : Run ℚ
    high = upper_run None (row m i) >>= λ u. weighed_at 1 None (part y i) u s

    by : (a b : Bool) → lt_ℚ 0ℚ d ≡ a → lt_ℚ d 0ℚ ≡ b →
        cond a low (cond b high (Ok s)) ≡ Ok (s +ℚ d *ℚ cond a (or_zero l.lower) (cond b (or_zero l.upper) 0ℚ))
    by true b p q =
        let w = h.above (lt_if 0ℚ d p) in
        then_ok (lower_run None (row m i)) (limits m i).lower (λ l. weighed_at 1 None (part y i) l s) _
        (lower_all (row m i)) (weighed_at_all 1 d l.lower w.0 s w.1)
    by false true p q =
        let w = h.below (lt_if d 0ℚ q) in
        then_ok (upper_run None (row m i)) (limits m i).upper (λ u. weighed_at 1 None (part y i) u s) _
        (upper_all (row m i)) (weighed_at_all 1 d l.upper w.0 s w.1)
    by false false p q = nothing s d

-- where column j has the bound that goes with the sign of the multipliers' part, the run adds the part times that bound
column_all : (m : Model) (y : List ℚ) (j : ℕ) (s : ℚ) → HasLimit (turned_limits (bounds m j)) (priced m y j)
    → column_gives_run None m y j s ≡ Ok (s +ℚ priced m y j *ℚ asked (turned_limits (bounds m j)) (priced m y j))
column_all m y j s h =
    then_ok (priced_run None m y j) (priced m y j) (λ g. weighed 2 None (turned_limits (bounds m j)) g s)
    (s +ℚ priced m y j *ℚ asked (turned_limits (bounds m j)) (priced m y j))
    (sum_all (height m) (λ i. part y i) (λ i. coefficient m i j))
    (weighed_all 2 (turned_limits (bounds m j)) (priced m y j) s h)

-- where v is below k, the order of v and k is less
less_test : (o : Ordering) (v k : ℚ) → order v k ≡ o → v <ℚ k → is_lt o ≡ true
less_test Less v k e h = refl
less_test Equal v k e h = absurd (<ℚ_irrefl k (subst (λ z. z <ℚ k) ((order_equal v k).0 e) h))
less_test Greater v k e h = clash_ℚ v k h (<ℚ-le k v ((order_greater v k).0 e))

-- where v is above k, the order of v and k is greater
greater_test : (o : Ordering) (v k : ℚ) → order v k ≡ o → k <ℚ v → is_gt o ≡ true
greater_test Less v k e h = clash_ℚ k v h (<ℚ-le v k ((order_less v k).0 e))
greater_test Equal v k e h = absurd (<ℚ_irrefl k (subst (λ z. k <ℚ z) ((order_equal v k).0 e) h))
greater_test Greater v k e h = refl

pub infeasible_all : (m : Model) (y : List ℚ) → ChecksInfeasible m y → infeasible_run None m y ≡ Ok known.Infeasible
infeasible_all m y h =
    then_ok (rows_ask_run None m y) (rows_ask m y) _ known.Infeasible
    (from_all 0ℚ (height m) (row_asks_run None m y) (λ i. part y i *ℚ asked (limits m i) (part y i))
    (λ i u p. row_all m y i u (h.rows i p)) ∙ ap Ok (zero-+ℚ _))
    (then_ok (columns_give_run None m y) (columns_give m y) _ known.Infeasible
    (from_all 0ℚ (width m) (column_gives_run None m y)
    (λ j. priced m y j *ℚ asked (turned_limits (bounds m j)) (priced m y j))
    (λ j u p. column_all m y j u (h.columns j p)) ∙ ap Ok (zero-+ℚ _))
    (then_ok (step Cmp (columns_give m y) (rows_ask m y) (compare None (columns_give m y) (rows_ask m y)))
    (order (columns_give m y) (rows_ask m y)) (λ o. need 3 (is_lt o) >>= λ _. Ok known.Infeasible)
    known.Infeasible (ordered (columns_give m y) (rows_ask m y))
    (then_ok (need 3 (is_lt (order (columns_give m y) (rows_ask m y)))) tt (λ _. Ok known.Infeasible) known.Infeasible
    (need_true 3 _ (less_test (order (columns_give m y) (rows_ask m y)) (columns_give m y) (rows_ask m y) refl h.less))
    refl)))

pub clash_all : (m : Model) (j : ℕ) → ChecksClash m j → clash_run None m j ≡ Ok known.Infeasible
clash_all m j h =
    ap₂ (λ l u. crossed_run None l u >>= λ _. Ok known.Infeasible) h.lower h.upper
    ∙ then_ok (crossed_run None (Some h.low) (Some h.high)) tt (λ _. Ok known.Infeasible) known.Infeasible
    (then_ok (step Cmp h.low h.high (compare None h.low h.high))
    (order h.low h.high) (λ o. need 1 (is_gt o)) tt (ordered h.low h.high)
    (need_true 1 _ (greater_test (order h.low h.high) h.low h.high refl h.crossed)))
    refl
