-- The ratio test finds a move for which there is room, or that nothing stops the column.
use Rattle.std.proofs.Common.{◌≡◌, ℕ, ◌⊎◌, Option, Some, None, Bool, true, false, cond}
use Rattle.std.proofs.Common.{option_map, IfSome, refl, ap, ◌∙◌, subst, inl, inr, ⊎_elim}
use Rattle.spec_exact.specs.Fraction.{ℚ, ◌-ℚ◌, ◌*ℚ◌, neg_ℚ, inverse, 0ℚ, ◌≤ℚ◌, ◌<ℚ◌, lt_ℚ}
use Rattle.spec_exact.proofs.Order.{≤ℚ_trans, <ℚ-le, lt_if, ≤ℚ-difference, *ℚ-nonneg}
use Rattle.spec_exact.proofs.Strict.{inv_pos}
use Rattle.spec_exact.proofs.Magnitudes.{below_turned}
use Rattle.spec_pivot.specs.Tableau.{Matrix}
use Rattle.spec_pivot.specs.declared.status.Way.{Way}
use Rattle.spec_pivot.specs.Simplex.{Bounds, IsInside, IsWithin, Table, ray, IsTableau, Enters}
use Rattle.spec_pivot.specs.Ratio.{room, room_at, Best, range_of, best_of, HasRoom, GoesOn}
use Rattle.spec_pivot.proofs.Ratio.{no_more, none_before, none_first, found, scan_first, scan_least}

-- ---- no room is below 0 where the value is within its bounds

-- a value at most its upper bound has room of at least 0 up to it
upper_least : (o : Option ℚ) (v r q : ℚ) → 0ℚ <ℚ r → IfSome o (λ k. v ≤ℚ k) →
    option_map (λ u. (u -ℚ v) *ℚ inverse r) o ≡ Some q → 0ℚ ≤ℚ q
upper_least None v r q p i e = cc
upper_least (Some u) v r q p i e =
    let z : (u -ℚ v) *ℚ inverse r ≡ q = cc in
    subst (λ a. 0ℚ ≤ℚ a) z (*ℚ-nonneg (u -ℚ v) (inverse r) (≤ℚ-difference v u i) (<ℚ-le 0ℚ (inverse r) (inv_pos r p)))

-- a value at least its lower bound has room of at least 0 down to it
lower_least : (o : Option ℚ) (v r q : ℚ) → r <ℚ 0ℚ → IfSome o (λ k. k ≤ℚ v) →
    option_map (λ l. (v -ℚ l) *ℚ inverse (neg_ℚ r)) o ≡ Some q → 0ℚ ≤ℚ q
lower_least None v r q p i e = cc
lower_least (Some l) v r q p i e =
    let z : (v -ℚ l) *ℚ inverse (neg_ℚ r) ≡ q = cc in
    subst (λ a. 0ℚ ≤ℚ a) z
    (*ℚ-nonneg (v -ℚ l) (inverse (neg_ℚ r)) (≤ℚ-difference l v i)
    (<ℚ-le 0ℚ (inverse (neg_ℚ r)) (inv_pos (neg_ℚ r) (below_turned r p))))

-- the room of a column whose value is within its bounds is at least 0
room_least : (b : Bounds) (k : ℕ) (v r q : ℚ) → IsInside (b.lower k) (b.upper k) v → room b k v r ≡ Some q → 0ℚ ≤ℚ q
room_least b k v r q i e = by (lt_ℚ 0ℚ r) (lt_ℚ r 0ℚ) refl refl e
  where
    by : (s t : Bool) → lt_ℚ 0ℚ r ≡ s → lt_ℚ r 0ℚ ≡ t
        → cond s (option_map (λ u. (u -ℚ v) *ℚ inverse r) (b.upper k))
        (cond t (option_map (λ l. (v -ℚ l) *ℚ inverse (neg_ℚ r)) (b.lower k)) None) ≡ Some q
        → 0ℚ ≤ℚ q
    by true t p w h = upper_least (b.upper k) v r q (lt_if 0ℚ r p) i.upper h
    by false true p w h = lower_least (b.lower k) v r q (lt_if r 0ℚ w) i.lower h
    by false false p w h = cc

-- ---- the range of the entering column, with which the test begins

-- the range of a column whose value is within its bounds is at least 0
range_least : (j : ℕ) (l u : Option ℚ) (v : ℚ) (x : Best) → IsInside l u v → range_of j l u ≡ Some x → 0ℚ ≤ℚ x.ratio
range_least j None u v x i e = cc
range_least j (Some l) None v x i e = cc
range_least j (Some l) (Some u) v x i e =
    let z : ◌≡◌ {A = Best} (record { ratio = u -ℚ l; column = j; position = None }) x = cc in
    subst (λ (b : Best). 0ℚ ≤ℚ b.ratio) z (≤ℚ-difference l u (≤ℚ_trans l v u i.lower i.upper))

-- a column that has no range lacks a lower or an upper bound
range_none : (j : ℕ) (l u : Option ℚ) → range_of j l u ≡ None → (l ≡ None) ⊎ (u ≡ None)
range_none j None u e = inl refl
range_none j (Some l) None e = inr refl
range_none j (Some l) (Some u) e = cc

module _ (m n : ℕ) (f : Matrix) (cost : ℕ → ℚ) (b : Bounds) (t : Table) (way : Way) (j : ℕ)
    (g : IsTableau m n f cost b t) (within : IsWithin n b t) (e : Enters n b t way j) where
  abbrev rooms : ℕ → Option ℚ
  rooms = room_at m b t way j

  abbrev range : Option Best
  range = range_of j (b.lower j) (b.upper j)

  pub best_has_room : (x : Best) → best_of m b t way j ≡ Some x → HasRoom m b t way j x.ratio
  best_has_room x h = record {
    forward =
        ⊎_elim
        (λ a. range_least j (b.lower j) (b.upper j) (t.value j) x (within j e.in_range) a)
        (λ a. let i : ℕ = a.0 in let at = a.1 in room_least b (t.basic i) (t.value (t.basic i))
        (ray m t way j (t.basic i)) x.ratio (within (t.basic i) (g.in_range i at.in_range)) at.ratio)
        (found rooms t.basic range m x h);
    own =
        λ l u p q. scan_first rooms t.basic range m x (record { ratio = u -ℚ l; column = j; position = None })
        (ap (λ o. range_of j o (b.upper j)) p ∙ ap (λ o. range_of j (Some l) o) q) h;
    others = λ i p q k. no_more x q (t.basic i) (scan_least rooms t.basic range m x h i p q k);
  }

  pub none_goes_on : best_of m b t way j ≡ None → GoesOn m n b t way j
  none_goes_on h = record {
    enters = e;
    own = range_none j (b.lower j) (b.upper j) (none_first rooms t.basic range m h);
    others = none_before rooms t.basic range m h;
  }
