-- Signs of entries and of reduced costs, and the ratio of a candidate.
--
-- `size_below`: an entry that is below 0 along the leaving column's way has the negative of that as its magnitude.
-- `helps_nonzero`: the entry of a column that can help the leaving one is not 0.
-- `helps_nonbasic`: a column that can help the leaving one is not basic.
-- `ratio_is`: the magnitude of the reduced cost over that of the entry is the ratio of a column that can help, where
--   the reduced cost suits its status.
-- `ratio_least`: a ratio of magnitudes is at least 0, where the entry is not 0.
-- `by_ratio`: a reduced cost that suits the status of a column that can help is the negative of its ratio times its
--   entry.
-- `suits_after`: a reduced cost keeps its sign when it changes by r times its entry, with r at least 0, and at most its
--   ratio if the column can help.
use Rattle.std.proofs.Common.{◌≡◌, sym, ap, ap₂, ◌∙◌, subst, subst₂}
use Rattle.spec_exact.specs.Fraction.{ℚ, ◌+ℚ◌, ◌*ℚ◌, neg_ℚ, 0ℚ, ◌≤ℚ◌, ◌<ℚ◌, abs_ℚ, inverse}
use Rattle.spec_exact.proofs.Field.{+ℚ_zero, *ℚ_assoc, *ℚ_comm, *ℚ_one, *ℚ_zero, *ℚ_inverse}
use Rattle.spec_exact.proofs.Order.{≤ℚ_refl, ≤ℚ_antisym, <ℚ-le, *ℚ_mono, *ℚ-nonneg}
use Rattle.spec_exact.proofs.Ruleset.{ring, zero-*ℚ, neg-neg, neg-zero}
use Rattle.spec_exact.proofs.Magnitudes.{abs_above, abs_below, abs_at_most, abs_least}
use Rattle.spec_exact.proofs.Magnitudes.{abs_positive, below_turned, turned_down, turned_back}
use Rattle.spec_exact.proofs.Strict.{<ℚ_irrefl, by_sign, inv_pos, +ℚ_mono₂, not-zero_from_lt, not-zero_from_below}
use Rattle.spec_pivot.specs.declared.status.Status.{Status}
use Rattle.spec_pivot.specs.declared.status.Status.TheVariants.{Basic, AtLower, AtUpper, AtZero}
use Rattle.spec_pivot.specs.declared.status.Way.{Way}
use Rattle.spec_pivot.specs.declared.status.Way.TheVariants.{Up, Down}
use Rattle.spec_pivot.specs.Simplex.{sign}
use Rattle.spec_pivot.specs.Dual.{Suits, Helps}

-- ---- the sign of a way

-- the sign of the way up, times a number, is that number
up_is : (e : ℚ) → sign Up *ℚ e ≡ e
up_is e = simp ring

-- the sign of the way down, times a number, is the negative of that number
down_is : (e : ℚ) → sign Down *ℚ e ≡ neg_ℚ e
down_is e = simp ring

-- the size of an entry, by the way of the row
pub size_below : (way : Way) (e : ℚ) → (sign way *ℚ e) <ℚ 0ℚ → abs_ℚ e ≡ neg_ℚ (sign way *ℚ e)
size_below Up e h = abs_below e (subst (λ a. a <ℚ 0ℚ) (up_is e) h) ∙ ap neg_ℚ (sym (up_is e))
size_below Down e h =
    abs_above e (<ℚ-le 0ℚ e (turned_back e (subst (λ a. a <ℚ 0ℚ) (down_is e) h)))
    ∙ sym (ap neg_ℚ (down_is e) ∙ neg-neg e)

-- an entry above 0 along a way has itself times the way's sign as its magnitude
size_above : (way : Way) (e : ℚ) → 0ℚ <ℚ (sign way *ℚ e) → abs_ℚ e ≡ sign way *ℚ e
size_above Up e h = abs_above e (<ℚ-le 0ℚ e (subst (λ a. 0ℚ <ℚ a) (up_is e) h)) ∙ sym (up_is e)
size_above Down e h = abs_below e (turned_down e (subst (λ a. 0ℚ <ℚ a) (down_is e) h)) ∙ sym (down_is e)

-- ---- an entry that helps
pub helps_nonzero : (s : Status) (way : Way) (e : ℚ) → Helps s (sign way *ℚ e) → ¬ (e ≡ 0ℚ)
helps_nonzero Basic way e h z = h
helps_nonzero AtLower way e h z = <ℚ_irrefl 0ℚ (subst (λ a. a <ℚ 0ℚ) (ap (λ x. sign way *ℚ x) z ∙ *ℚ_zero (sign way)) h)
helps_nonzero AtUpper way e h z = <ℚ_irrefl 0ℚ (subst (λ a. 0ℚ <ℚ a) (ap (λ x. sign way *ℚ x) z ∙ *ℚ_zero (sign way)) h)
helps_nonzero AtZero way e h z = h (ap (λ x. sign way *ℚ x) z ∙ *ℚ_zero (sign way))

pub helps_nonbasic : (s : Status) (a : ℚ) → Helps s a → ¬ (s ≡ Basic)
helps_nonbasic s a h e = subst (λ s. Helps s a) e h

-- ---- ratios

-- r is the ratio of a candidate with this status, reduced cost and entry
abbrev pub IsRatio : Status → ℚ → ℚ → ℚ → Type 0
IsRatio Basic d a r = Unit {0}
IsRatio AtLower d a r = r *ℚ neg_ℚ a ≡ d
IsRatio AtUpper d a r = r *ℚ a ≡ neg_ℚ d
IsRatio AtZero d a r = r ≡ 0ℚ

-- a quotient by a number that is not 0, times that number, is the dividend
divided : (x y : ℚ) → ¬ (y ≡ 0ℚ) → (x *ℚ inverse y) *ℚ y ≡ x
divided x y n = *ℚ_assoc x (inverse y) y ∙ ap (λ a. x *ℚ a) (*ℚ_comm (inverse y) y ∙ *ℚ_inverse y n) ∙ *ℚ_one x

pub ratio_is : (s : Status) (way : Way) (d e : ℚ) → Suits s d → Helps s (sign way *ℚ e) →
    IsRatio s d (sign way *ℚ e) (abs_ℚ d *ℚ inverse (abs_ℚ e))
ratio_is Basic way d e f h = tt
ratio_is AtLower way d e f h =
    ap (λ a. (abs_ℚ d *ℚ inverse (abs_ℚ e)) *ℚ a) (sym (size_below way e h))
    ∙ divided (abs_ℚ d) (abs_ℚ e) (not-zero_from_lt (abs_ℚ e) (abs_positive e (helps_nonzero AtLower way e h)))
    ∙ abs_above d f
ratio_is AtUpper way d e f h =
    ap (λ a. (abs_ℚ d *ℚ inverse (abs_ℚ e)) *ℚ a) (sym (size_above way e h))
    ∙ divided (abs_ℚ d) (abs_ℚ e) (not-zero_from_lt (abs_ℚ e) (abs_positive e (helps_nonzero AtUpper way e h)))
    ∙ abs_at_most d f
ratio_is AtZero way d e f h =
    ap (λ a. a *ℚ inverse (abs_ℚ e)) (ap abs_ℚ f ∙ abs_above 0ℚ (≤ℚ_refl 0ℚ)) ∙ zero-*ℚ (inverse (abs_ℚ e))

pub ratio_least : (d e : ℚ) → ¬ (e ≡ 0ℚ) → 0ℚ ≤ℚ (abs_ℚ d *ℚ inverse (abs_ℚ e))
ratio_least d e n =
    *ℚ-nonneg (abs_ℚ d) (inverse (abs_ℚ e)) (abs_least d)
    (<ℚ-le 0ℚ (inverse (abs_ℚ e)) (inv_pos (abs_ℚ e) (abs_positive e n)))

-- the reduced cost of a candidate, by its ratio
pub by_ratio : (s : Status) (d a r : ℚ) → Suits s d → Helps s a → IsRatio s d a r → d ≡ neg_ℚ (r *ℚ a)
by_ratio Basic d a r f h e = absurd h
by_ratio AtLower d a r f h e = sym e ∙ turn r a
  where
    turn : (r a : ℚ) → r *ℚ neg_ℚ a ≡ neg_ℚ (r *ℚ a)
    turn r a = simp ring
by_ratio AtUpper d a r f h e = sym (ap neg_ℚ e ∙ neg-neg d)
by_ratio AtZero d a r f h e = f ∙ sym (ap (λ r. neg_ℚ (r *ℚ a)) e ∙ ap neg_ℚ (zero-*ℚ a) ∙ neg-zero)

-- ---- a reduced cost that changes by a rate that is not greater than its ratio keeps its sign

-- a product of two factors that are at least 0 is at least 0
product_least : (r a : ℚ) → 0ℚ ≤ℚ r → 0ℚ ≤ℚ a → 0ℚ ≤ℚ (r *ℚ a)
product_least r a h k = *ℚ-nonneg r a h k

-- a sum of two numbers that are at least 0 is at least 0
least_sum : (d x : ℚ) → 0ℚ ≤ℚ d → 0ℚ ≤ℚ x → 0ℚ ≤ℚ (d +ℚ x)
least_sum d x h k = subst (λ z. z ≤ℚ (d +ℚ x)) (+ℚ_zero 0ℚ) (+ℚ_mono₂ 0ℚ d 0ℚ x h k)

-- a sum of two numbers that are at most 0 is at most 0
most_sum : (d x : ℚ) → d ≤ℚ 0ℚ → x ≤ℚ 0ℚ → (d +ℚ x) ≤ℚ 0ℚ
most_sum d x h k = subst (λ z. (d +ℚ x) ≤ℚ z) (+ℚ_zero 0ℚ) (+ℚ_mono₂ d 0ℚ x 0ℚ h k)

-- with an entry below 0, a change within the ratio keeps a reduced cost at least 0
less_at_lower : (d a q r : ℚ) → a <ℚ 0ℚ → q *ℚ neg_ℚ a ≡ d → r ≤ℚ q → 0ℚ ≤ℚ (d +ℚ r *ℚ a)
less_at_lower d a q r h e l =
    subst (λ d. 0ℚ ≤ℚ (d +ℚ r *ℚ a)) e
    (subst₂ ◌≤ℚ◌ (none r a) (swap q r a)
    (+ℚ_mono₂ (neg_ℚ a *ℚ r) (neg_ℚ a *ℚ q) (r *ℚ a) (r *ℚ a) (*ℚ_mono r q (neg_ℚ a) turned l) (≤ℚ_refl (r *ℚ a))))
  where
    turned : 0ℚ ≤ℚ neg_ℚ a
    turned = <ℚ-le 0ℚ (neg_ℚ a) (below_turned a h)

    none : (r a : ℚ) → neg_ℚ a *ℚ r +ℚ r *ℚ a ≡ 0ℚ
    none r a = simp ring

    swap : (q r a : ℚ) → neg_ℚ a *ℚ q +ℚ r *ℚ a ≡ q *ℚ neg_ℚ a +ℚ r *ℚ a
    swap q r a = simp ring

-- with an entry above 0, a change within the ratio keeps a reduced cost at most 0
less_at_upper : (d a q r : ℚ) → 0ℚ <ℚ a → q *ℚ a ≡ neg_ℚ d → r ≤ℚ q → (d +ℚ r *ℚ a) ≤ℚ 0ℚ
less_at_upper d a q r h e l =
    subst₂ ◌≤ℚ◌ (swap d r a) (ap (λ x. d +ℚ x) (*ℚ_comm a q ∙ e) ∙ none d)
    (+ℚ_mono₂ d d (a *ℚ r) (a *ℚ q) (≤ℚ_refl d) (*ℚ_mono r q a (<ℚ-le 0ℚ a h) l))
  where
    swap : (d r a : ℚ) → d +ℚ a *ℚ r ≡ d +ℚ r *ℚ a
    swap d r a = simp ring

    none : (d : ℚ) → d +ℚ neg_ℚ d ≡ 0ℚ
    none d = simp ring

pub suits_after : (s : Status) (d a q r : ℚ) → 0ℚ ≤ℚ r → Suits s d → (Helps s a → IsRatio s d a q × (r ≤ℚ q)) →
    Suits s (d +ℚ r *ℚ a)
suits_after Basic d a q r h f k = tt
suits_after AtLower d a q r h f k =
    by_sign a
    (λ p. least_sum d (r *ℚ a) f (product_least r a h (<ℚ-le 0ℚ a p)))
    (λ p. let o = k p in less_at_lower d a q r p o.0 o.1)
    (λ e. subst (λ a. 0ℚ ≤ℚ (d +ℚ r *ℚ a)) (sym e) (least_sum d (r *ℚ 0ℚ) f (product_least r 0ℚ h (≤ℚ_refl 0ℚ))))
suits_after AtUpper d a q r h f k =
    by_sign a
    (λ p. let o = k p in less_at_upper d a q r p o.0 o.1)
    (λ p. most_sum d (r *ℚ a) f (subst (λ z. (r *ℚ a) ≤ℚ z) (*ℚ_zero r) (*ℚ_mono a 0ℚ r h (<ℚ-le a 0ℚ p))))
    (λ e. subst (λ a. (d +ℚ r *ℚ a) ≤ℚ 0ℚ) (sym e)
    (most_sum d (r *ℚ 0ℚ) f (subst (λ z. (r *ℚ 0ℚ) ≤ℚ z) (*ℚ_zero r) (≤ℚ_refl (r *ℚ 0ℚ)))))
suits_after AtZero d a q r h f k =
    by_sign a
    (λ p. none (k (not-zero_from_lt a p)))
    (λ p. none (k (not-zero_from_below a p)))
    (λ e. ap₂ (λ d a. d +ℚ r *ℚ a) f e ∙ ap (λ x. 0ℚ +ℚ x) (*ℚ_zero r) ∙ +ℚ_zero 0ℚ)
  where
    none : (q ≡ 0ℚ) × (r ≤ℚ q) → d +ℚ r *ℚ a ≡ 0ℚ
    none o =
        let z : r ≡ 0ℚ = ≤ℚ_antisym r 0ℚ (subst (λ q. r ≤ℚ q) o.0 o.1) h in
        ap₂ (λ d r. d +ℚ r *ℚ a) f z ∙ ap (λ x. 0ℚ +ℚ x) (zero-*ℚ a) ∙ +ℚ_zero 0ℚ
