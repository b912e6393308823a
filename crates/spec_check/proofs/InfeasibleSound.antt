-- Where the run accepts that no point is feasible, the conditions hold.
--
-- `infeasible_ok`: Farkas multipliers that the run accepts meet the conditions, and the run says infeasible.
-- `clash_ok`: a column that the run accepts as a clash has bounds that clash, and the run says infeasible.
use Rattle.std.proofs.Common.{◌≡◌, ℕ, ◌<◌, List, Option, Some, None, Ok, Bool}
use Rattle.std.proofs.Common.{true, false, cond, refl, sym, ap, ◌∙◌, subst}
use Rattle.std.specs.Prelude.{⊤}
use Rattle.std.specs.Ordering.{is_lt, is_gt}
use Rattle.spec_exact.specs.Fraction.{ℚ, 0ℚ, ◌+ℚ◌, ◌*ℚ◌, ◌<ℚ◌, lt_ℚ}
use Rattle.spec_exact.specs.Sums.{sum_below}
use Rattle.spec_exact.specs.Limit.{compare}
use Rattle.spec_exact.specs.declared.past.Op.TheVariants.{Cmp}
use Rattle.spec_exact.proofs.Field.{+ℚ_zero, *ℚ_zero}
use Rattle.spec_exact.proofs.Ruleset.{zero-+ℚ}
use Rattle.spec_exact.proofs.Order.{clash_ℚ, <ℚ-le, lt_if, le_if_not, lt_test, not_lt_test}
use Rattle.spec_exact.specs.Run.{◌>>=◌, steps}
use Rattle.spec_exact.proofs.Results.{ok_same}
use Rattle.spec_model.specs.Model.{Model, Limits, width, height, bounds, limits, row, coefficient, part}
use Rattle.spec_check.specs.declared.certificate.Known.{Known}
use Rattle.spec_check.specs.declared.certificate.Known.TheVariants as known
use Rattle.spec_check.specs.Checks.{priced, asked, or_zero, HasLimit, turned_limits}
use Rattle.spec_check.specs.Checks.{rows_ask, ChecksInfeasible, ChecksClash}
use Rattle.spec_check.specs.Run.{Run, step, need, lower_run, upper_run}
use Rattle.spec_check.specs.Run.{weighed_at, weighed, row_asks_run, priced_run, column_gives_run}
use Rattle.spec_check.specs.Run.{rows_ask_run, columns_give_run, infeasible_run, crossed_run, clash_run}
use Rattle.spec_check.proofs.StepsSound.{after_ok, need_ok, sum_ok, some_ok_at, plus_ok}
use Rattle.spec_check.proofs.StepsSound.{products_ok, lower_ok, upper_ok, less_from, greater_from, compared}

-- l has the limit that goes with the sign of d, and u is s with d times that limit added
pub record Weighed (l : Limits) (d s u : ℚ) : Type 0 where
  pub there : HasLimit l d
  pub sum : u ≡ s +ℚ d *ℚ asked l d

-- where weighing a bound by d gives a sum, the bound is given and d times it was added
weighed_at_ok : (n : ℕ) (limit : Option ℕ) (d : ℚ) (o : Option ℚ) (s u : ℚ) → weighed_at n limit d o s ≡ Ok u →
    (b : ℚ) × (o ≡ Some b) × (u ≡ s +ℚ d *ℚ b)
weighed_at_ok n limit d None s u e = cc
weighed_at_ok n limit d (Some b) s u e = (b, refl, plus_ok limit d b s u e)

-- ---- with a multiplier above 0, with one below 0, and with none

-- for d above 0, s plus d times the lower limit is s with the limits weighed by d
above_weighed : (l : Limits) (d s u b : ℚ) → 0ℚ <ℚ d → l.lower ≡ Some b → u ≡ s +ℚ d *ℚ b → Weighed l d s u
above_weighed l d s u b p e h = record {
  there = record { above = λ _. (b, e); below = λ k. clash_ℚ 0ℚ d p (<ℚ-le d 0ℚ k) };
  sum = h ∙ ap (λ z. s +ℚ d *ℚ z) (sym (rw (lt_test 0ℚ d p) (ap or_zero e)));
}

-- for d below 0, s plus d times the upper limit is s with the limits weighed by d
below_weighed : (l : Limits) (d s u b : ℚ) → d <ℚ 0ℚ → l.upper ≡ Some b → u ≡ s +ℚ d *ℚ b → Weighed l d s u
below_weighed l d s u b p e h = record {
  there = record { above = λ k. clash_ℚ 0ℚ d k (<ℚ-le d 0ℚ p); below = λ _. (b, e) };
  sum = h ∙ ap (λ z. s +ℚ d *ℚ z) (sym (rw (not_lt_test 0ℚ d (<ℚ-le d 0ℚ p), lt_test d 0ℚ p) (ap or_zero e)));
}

-- for d = 0, s itself is s with the limits weighed by d
none_weighed : (l : Limits) (d s u : ℚ) → lt_ℚ 0ℚ d ≡ false → lt_ℚ d 0ℚ ≡ false → s ≡ u → Weighed l d s u
none_weighed l d s u p q h = record {
  there = record { above = λ k. clash_ℚ 0ℚ d k (le_if_not 0ℚ d p); below = λ k. clash_ℚ d 0ℚ k (le_if_not d 0ℚ q) };
  sum = sym h ∙ sym (+ℚ_zero s) ∙ ap (λ z. s +ℚ z) (sym (*ℚ_zero d)) ∙ ap (λ z. s +ℚ d *ℚ z) (sym (rw (p, q) refl));
}

-- ---- the limit that a row's multiplier asks for

-- where the run of row i gives a sum, the row's multiplier times the limit that goes with its sign was added
row_ok : (limit : Option ℕ) (m : Model) (y : List ℚ) (i : ℕ) (s u : ℚ) → row_asks_run limit m y i s ≡ Ok u →
    Weighed (limits m i) (part y i) s u
row_ok limit m y i s u e = by (lt_ℚ 0ℚ d) (lt_ℚ d 0ℚ) refl refl e
  where
    d : ℚ
    d = part y i

    low : Run ℚ
    low = lower_run limit (row m i) >>= λ l. weighed_at 1 limit (part y i) l s

    high : Run ℚ
    high = upper_run limit (row m i) >>= λ h. weighed_at 1 limit (part y i) h s

    by : (a b : Bool) → lt_ℚ 0ℚ d ≡ a → lt_ℚ d 0ℚ ≡ b → cond a low (cond b high (Ok s)) ≡ Ok u →
        Weighed (limits m i) d s u
    by true b p q h =
        let a = after_ok (lower_run limit (row m i)) (λ l. weighed_at 1 limit (part y i) l s) u h in
        let w = weighed_at_ok 1 limit d a.0 s u a.2 in
        above_weighed (limits m i) d s u w.0 (lt_if 0ℚ d p) (sym (lower_ok limit (row m i) a.0 a.1) ∙ w.1) w.2
    by false true p q h =
        let a = after_ok (upper_run limit (row m i)) (λ l. weighed_at 1 limit (part y i) l s) u h in
        let w = weighed_at_ok 1 limit d a.0 s u a.2 in
        below_weighed (limits m i) d s u w.0 (lt_if d 0ℚ q) (sym (upper_ok limit (row m i) a.0 a.1) ∙ w.1) w.2
    by false false p q h = none_weighed (limits m i) d s u p q (ok_same s u h)

-- where the run of weighing limits by d gives a sum, d times the limit that goes with the sign of d was added
weighed_ok : (n : ℕ) (limit : Option ℕ) (l : Limits) (d s u : ℚ) → weighed n limit l d s ≡ Ok u → Weighed l d s u
weighed_ok n limit l d s u e = by (lt_ℚ 0ℚ d) (lt_ℚ d 0ℚ) refl refl e
  where
    by : (a b : Bool) → lt_ℚ 0ℚ d ≡ a → lt_ℚ d 0ℚ ≡ b →
        cond a (weighed_at n limit d l.lower s) (cond b (weighed_at n limit d l.upper s) (Ok s)) ≡ Ok u →
        Weighed l d s u
    by true b p q h = let w = weighed_at_ok n limit d l.lower s u h in above_weighed l d s u w.0 (lt_if 0ℚ d p) w.1 w.2
    by false true p q h =
        let w = weighed_at_ok n limit d l.upper s u h in below_weighed l d s u w.0 (lt_if d 0ℚ q) w.1 w.2
    by false false p q h = none_weighed l d s u p q (ok_same s u h)

-- where the run of column j gives a sum, the multipliers' part of the column times the bound that goes with the part's
-- sign was added
column_ok : (limit : Option ℕ) (m : Model) (y : List ℚ) (j : ℕ) (s u : ℚ) → column_gives_run limit m y j s ≡ Ok u →
    Weighed (turned_limits (bounds m j)) (priced m y j) s u
column_ok limit m y j s u e =
    let a = after_ok (priced_run limit m y j) (λ g. weighed 2 limit (turned_limits (bounds m j)) g s) u e in
    subst (λ g. Weighed (turned_limits (bounds m j)) g s u)
    (products_ok limit (height m) (λ i. part y i) (λ i. coefficient m i j) a.0 a.1)
    (weighed_ok 2 limit (turned_limits (bounds m j)) a.0 s u a.2)

-- where each step weighs a limit and all give v, each limit asked for is given and v is the sum of all
total_ok : (n : ℕ) (f : ℕ → ℚ → Run ℚ) (l : ℕ → Limits) (d : ℕ → ℚ) →
    ((k : ℕ) (s u : ℚ) → f k s ≡ Ok u → Weighed (l k) (d k) s u) → (v : ℚ) → steps n f 0ℚ ≡ Ok v
    → ((k : ℕ) → k < n → HasLimit (l k) (d k)) × (v ≡ sum_below n (λ k. d k *ℚ asked (l k) (d k)))
total_ok n f l d h v e = (
  λ k p. let a = some_ok_at 0ℚ n f v e k p in (h k a.0 a.1 a.2).there,
  sum_ok 0ℚ n f (λ k. d k *ℚ asked (l k) (d k)) (λ k s u _ q. (h k s u q).sum) v e ∙ zero-+ℚ _,
)

pub infeasible_ok : (limit : Option ℕ) (m : Model) (y : List ℚ) (said : Known ℚ) → infeasible_run limit m y ≡ Ok said →
    ChecksInfeasible m y × (said ≡ known.Infeasible)
infeasible_ok limit m y said e =
    let a = after_ok (rows_ask_run limit m y) _ said e in
    let b = after_ok (columns_give_run limit m y) _ said a.2 in
    let c =
    after_ok (step Cmp b.0 a.0 (compare limit b.0 a.0))
    (λ o. need 3 (is_lt o) >>= λ _. Ok known.Infeasible) said b.2 in
    let d = after_ok (need 3 (is_lt c.0)) (λ _. Ok known.Infeasible) said c.2 in
    let rows = total_ok (height m) (row_asks_run limit m y) (limits m) (λ i. part y i) (row_ok limit m y) a.0 a.1 in
    let columns =
    total_ok (width m) (column_gives_run limit m y)
    (λ j. turned_limits (bounds m j)) (priced m y) (column_ok limit m y) b.0 b.1 in (
      record {
        rows = rows.0;
        columns = columns.0;
        less =
            subst (λ z. z <ℚ rows_ask m y) columns.1 (subst (λ z. b.0 <ℚ z) rows.1
            (less_from c.0 b.0 a.0 (compared limit b.0 a.0 c.0 c.1) (need_ok 3 (is_lt c.0) d.0 d.1)));
      },
      sym (ok_same known.Infeasible said d.2),
    )

pub clash_ok : (limit : Option ℕ) (m : Model) (j : ℕ) (said : Known ℚ) → j < width m → clash_run limit m j ≡ Ok said →
    ChecksClash m j × (said ≡ known.Infeasible)
clash_ok limit m j said p e =
    let a = after_ok (crossed_run limit (bounds m j).lower (bounds m j).upper) (λ _. Ok known.Infeasible) said e in
    (by (bounds m j).lower (bounds m j).upper refl refl a.0 a.1, sym (ok_same known.Infeasible said a.2))
  where
    by : (l u : Option ℚ) → (bounds m j).lower ≡ l → (bounds m j).upper ≡ u → (t : ⊤) → crossed_run limit l u ≡ Ok t →
        ChecksClash m j
    by None u f g t h = cc
    by (Some l) None f g t h = cc
    by (Some l) (Some u) f g t h =
        let a = after_ok (step Cmp l u (compare limit l u)) (λ o. need 1 (is_gt o)) t h in
        record {
          inside = p;
          low = l;
          high = u;
          lower = f;
          upper = g;
          crossed = greater_from a.0 l u (compared limit l u a.0 a.1) (need_ok 1 (is_gt a.0) t a.2);
        }
