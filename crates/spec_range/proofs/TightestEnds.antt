-- The tightest ends are kept: a number is within the ends after a step where it was before and meets the new end.
--
-- `at_least_ok`: with v as a lower end too, the ends have the numbers from before that are at least v.
-- `at_most_ok`: with v as an upper end too, the ends have the numbers from before that are at most v.
-- `at_side_ok`: with v as an end at a side too, the ends have the numbers from before that are within v at this side.
-- `cuts_as`: where two conditions hold of the same numbers, ends that are cut by one are cut by the other.
-- `cuts_none`: ends that stay as they are are cut by each condition that all numbers meet.
-- `cuts_both`: ends that are cut by one condition and then by another are cut by both together.
use Rattle.std.proofs.Common.{◌≡◌, ◌↔◌, ℕ, Option, Some, None, IfSome, Ok, Bool, true, false, subst}
use Rattle.spec_exact.specs.Fraction.{ℚ, ◌≤ℚ◌}
use Rattle.spec_exact.proofs.Order.{≤ℚ_refl, ≤ℚ_trans, <ℚ-le}
use Rattle.spec_exact.specs.Run.{Run}
use Rattle.spec_simplex.proofs.RunParts.{then_ok}
use Rattle.spec_simplex.proofs.Orders.{by_order, given}
use Rattle.spec_range.specs.declared.range.Ends.{Ends}
use Rattle.spec_range.specs.Span.{IsIn}
use Rattle.spec_range.specs.Rule.{greater_by, lesser_by, greater_run, lesser_run, at_least, at_most, at_side}

-- x is the greater of the new end and the kept one, if that is there: the least number that neither exceeds
record IsGreater (new : ℚ) (kept : Option ℚ) (x : ℚ) : Type 0 where
  own : new ≤ℚ x
  other : IfSome kept (λ k. k ≤ℚ x)
  least : (t : ℚ) → new ≤ℚ t → IfSome kept (λ k. k ≤ℚ t) → x ≤ℚ t

-- where the greater of a new end and the kept one is not refused, it is the greater of the two
greater_ok : (limit : Option ℕ) (new : ℚ) (kept : Option ℚ) (x : ℚ) → greater_run limit new kept ≡ Ok x →
    IsGreater new kept x
greater_ok limit new None x h =
    given (IsGreater new None) new x h (record { own = ≤ℚ_refl new; other = tt; least = λ t a b. a })
greater_ok limit new (Some k) x h =
    by_order limit new k (λ o. Ok (greater_by new k o)) x (IsGreater new (Some k) x) h
    (λ p e. given (IsGreater new (Some k)) k x e
    (record { own = <ℚ-le new k p; other = ≤ℚ_refl k; least = λ t a b. b }))
    (λ p e. given (IsGreater new (Some k)) k x e
    (record { own = subst (λ a. new ≤ℚ a) p (≤ℚ_refl new); other = ≤ℚ_refl k; least = λ t a b. b }))
    (λ p e. given (IsGreater new (Some k)) new x e
    (record { own = ≤ℚ_refl new; other = <ℚ-le k new p; least = λ t a b. a }))

-- x is the lesser of the new end and the kept one, if that is there: the greatest number that exceeds neither
record IsLesser (new : ℚ) (kept : Option ℚ) (x : ℚ) : Type 0 where
  own : x ≤ℚ new
  other : IfSome kept (λ k. x ≤ℚ k)
  most : (t : ℚ) → t ≤ℚ new → IfSome kept (λ k. t ≤ℚ k) → t ≤ℚ x

-- where the lesser of a new end and the kept one is not refused, it is the lesser of the two
lesser_ok : (limit : Option ℕ) (new : ℚ) (kept : Option ℚ) (x : ℚ) → lesser_run limit new kept ≡ Ok x →
    IsLesser new kept x
lesser_ok limit new None x h =
    given (IsLesser new None) new x h (record { own = ≤ℚ_refl new; other = tt; most = λ t a b. a })
lesser_ok limit new (Some k) x h =
    by_order limit new k (λ o. Ok (lesser_by new k o)) x (IsLesser new (Some k) x) h
    (λ p e. given (IsLesser new (Some k)) new x e
    (record { own = ≤ℚ_refl new; other = <ℚ-le new k p; most = λ t a b. a }))
    (λ p e. given (IsLesser new (Some k)) k x e
    (record { own = subst (λ a. a ≤ℚ new) p (≤ℚ_refl new); other = ≤ℚ_refl k; most = λ t a b. b }))
    (λ p e. given (IsLesser new (Some k)) k x e
    (record { own = <ℚ-le k new p; other = ≤ℚ_refl k; most = λ t a b. b }))

-- where a kept end is at most x, and x at most t, the kept end is at most t
from_below : (kept : Option ℚ) (x t : ℚ) → IfSome kept (λ k. k ≤ℚ x) → x ≤ℚ t → IfSome kept (λ k. k ≤ℚ t)
from_below None x t h p = tt
from_below (Some k) x t h p = ≤ℚ_trans k x t h p

-- where a kept end is at least x, and x at least t, the kept end is at least t
from_above : (kept : Option ℚ) (x t : ℚ) → IfSome kept (λ k. x ≤ℚ k) → t ≤ℚ x → IfSome kept (λ k. t ≤ℚ k)
from_above None x t h p = tt
from_above (Some k) x t h p = ≤ℚ_trans t x k p h

-- the numbers within the ends x are those within the ends e that meet the condition
abbrev pub Cuts : Ends ℚ → (ℚ → Type 0) → Ends ℚ → Type 0
Cuts e P x = (t : ℚ) → IsIn x t ↔ (IsIn e t × P t)

pub at_least_ok : (limit : Option ℕ) (v : ℚ) (e x : Ends ℚ) → at_least limit v e ≡ Ok x → Cuts e (λ t. v ≤ℚ t) x
at_least_ok limit v e x h =
    let o = then_ok (greater_run limit v e.low) (λ low. Ok (record { low = Some low; high = e.high })) x h in
    let g = greater_ok limit v e.low o.0 o.1 in
    given (Cuts e (λ t. v ≤ℚ t)) (record { low = Some o.0; high = e.high }) x o.2
    (λ t. (
      λ i. (
        record { lower = from_below e.low o.0 t g.other i.lower; upper = i.upper },
        ≤ℚ_trans v o.0 t g.own i.lower,
      ),
      λ i. record { lower = g.least t i.1 i.0.lower; upper = i.0.upper },
    ))

pub at_most_ok : (limit : Option ℕ) (v : ℚ) (e x : Ends ℚ) → at_most limit v e ≡ Ok x → Cuts e (λ t. t ≤ℚ v) x
at_most_ok limit v e x h =
    let o = then_ok (lesser_run limit v e.high) (λ high. Ok (record { low = e.low; high = Some high })) x h in
    let g = lesser_ok limit v e.high o.0 o.1 in
    given (Cuts e (λ t. t ≤ℚ v)) (record { low = e.low; high = Some o.0 }) x o.2
    (λ t. (
      λ i. (
        record { lower = i.lower; upper = from_above e.high o.0 t g.other i.upper },
        ≤ℚ_trans t o.0 v i.upper g.own,
      ),
      λ i. record { lower = i.0.lower; upper = g.most t i.1 i.0.upper },
    ))

-- t is at most v if the flag says the upper side, else at least v
abbrev pub Meets : Bool → ℚ → ℚ → Type 0
Meets true v t = t ≤ℚ v
Meets false v t = v ≤ℚ t

pub at_side_ok : (limit : Option ℕ) (upper : Bool) (v : ℚ) (e x : Ends ℚ) → at_side limit upper v e ≡ Ok x →
    Cuts e (Meets upper v) x
at_side_ok limit true v e x h = at_most_ok limit v e x h
at_side_ok limit false v e x h = at_least_ok limit v e x h

-- ends that one condition cuts are cut by each equivalent condition
pub cuts_as : (e x : Ends ℚ) (P Q : ℚ → Type 0) → ((t : ℚ) → P t ↔ Q t) → Cuts e P x → Cuts e Q x
cuts_as e x P Q h c t = (
  λ i. let o = (c t).0 i in (o.0, (h t).0 o.1),
  λ i. (c t).1 (i.0, (h t).1 i.1),
)

pub cuts_none : (e x : Ends ℚ) (P : ℚ → Type 0) → ((t : ℚ) → P t) → ◌≡◌ {A = Run (Ends ℚ)} (Ok e) (Ok x) → Cuts e P x
cuts_none e x P h q = given (Cuts e P) e x q (λ t. (λ i. (i, h t), λ i. i.0))

-- ends that are cut by one condition and then by another are cut by both together
pub cuts_both : (e x y : Ends ℚ) (P Q : ℚ → Type 0) → Cuts e P x → Cuts x Q y → Cuts e (λ t. P t × Q t) y
cuts_both e x y P Q c d t = (
  λ i. let o = (d t).0 i in let p = (c t).0 o.0 in (p.0, (p.1, o.1)),
  λ i. (d t).1 ((c t).1 (i.0, i.1.0), i.1.1),
)
