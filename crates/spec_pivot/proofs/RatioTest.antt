-- The best that the ratio test finds is a step by the rule: a pivot at its position, or a flip where it has none.
use Rattle.std.proofs.Common.{◌≡◌, ℕ, ◌<◌, ◌≤◌, Option, Some, None, IfSome, refl}
use Rattle.std.proofs.Common.{sym, ap, ◌∙◌, subst, subst₂, arith, inl, inr, ⊎_elim}
use Rattle.spec_exact.specs.Fraction.{ℚ, ◌+ℚ◌, ◌-ℚ◌, ◌*ℚ◌, neg_ℚ, 0ℚ, 1ℚ, ◌≤ℚ◌, ◌<ℚ◌}
use Rattle.spec_exact.proofs.Order.{≤ℚ_trans, ≤ℚ_antisym, <ℚ-le, by_le, lt_test, not_lt_test}
use Rattle.spec_exact.proofs.Ruleset.{ring}
use Rattle.spec_exact.proofs.Strict.{+ℚ_strict}
use Rattle.spec_pivot.specs.Tableau.{Matrix}
use Rattle.spec_pivot.specs.declared.status.Status.{Status}
use Rattle.spec_pivot.specs.declared.status.Status.TheVariants.{Basic, AtLower, AtUpper, AtZero}
use Rattle.spec_pivot.specs.declared.status.Way.{Way}
use Rattle.spec_pivot.specs.declared.status.Way.TheVariants.{Up, Down}
use Rattle.spec_pivot.specs.Simplex.{Bounds, IsFixed, IsInside, IsWithin, Stands, Table, IsTableau, CanMove}
use Rattle.spec_pivot.specs.Simplex.{Enters, sign, ray, moved, IsBlocked, IsBlockedAt, Pivots, Flips}
use Rattle.spec_pivot.specs.Ratio.{room_at, Best, NoWorse, range_of, best_of, way_of, bound_ahead}
use Rattle.spec_pivot.proofs.SameEquations.{j_outside}
use Rattle.spec_pivot.proofs.Ray.{ray_at}
use Rattle.spec_pivot.proofs.Ratio.{no_later, IsFoundAt, found, scan_least, blocked_room, room_blocked}
use Rattle.spec_pivot.proofs.Best.{best_has_room}

-- a column that is blocked is at its upper bound where it rises, and at its lower bound where it falls
ahead_stands : (b : Bounds) (k : ℕ) (v r : ℚ) → IsBlocked b k v r →
    Stands (bound_ahead (way_of r)) (b.lower k) (b.upper k) v
ahead_stands b k v r (inl h) = rw (lt_test 0ℚ r h.0) h.1
ahead_stands b k v r (inr h) = rw (not_lt_test 0ℚ r (<ℚ-le r 0ℚ h.0)) h.1

-- the status of the bound that lies a way is not that of a basic column
ahead_nonbasic : (way : Way) → ¬ (bound_ahead way ≡ Basic)
ahead_nonbasic Up e = cc
ahead_nonbasic Down e = cc

-- the range of a column between two bounds
record Ranges (l u : Option ℚ) (x : Best) : Type 0 where
  bottom : ℚ
  top : ℚ
  at_bottom : l ≡ Some bottom
  at_top : u ≡ Some top
  length : x.ratio ≡ top -ℚ bottom
  position : x.position ≡ None

-- a best from the entering column's range has the distance of both bounds and no position
ranges : (j : ℕ) (l u : Option ℚ) (x : Best) → range_of j l u ≡ Some x → Ranges l u x
ranges j None u x e = cc
ranges j (Some l) None x e = cc
ranges j (Some l) (Some u) x e =
    let z : ◌≡◌ {A = Best} (record { ratio = u -ℚ l; column = j; position = None }) x = cc in
    record {
      bottom = l;
      top = u;
      at_bottom = refl;
      at_top = refl;
      length = ap (λ (x : Best). x.ratio) (sym z);
      position = ap (λ (x : Best). x.position) (sym z);
    }

-- a column that moves by its whole range ends at its other bound
pub whole_range : (l u v : ℚ) (low high : Option ℚ) (way : Way) (s : Status) →
    low ≡ Some l → high ≡ Some u → CanMove way s → Stands s low high v
    → Stands (bound_ahead way) low high (v +ℚ (u -ℚ l) *ℚ sign way)
whole_range l u v low high Up AtLower p q c st =
    let e : Some l ≡ Some v = sym p ∙ st in let z : l ≡ v = cc in
    q ∙ ap Some (sym (up l u) ∙ ap (λ a. a +ℚ (u -ℚ l) *ℚ 1ℚ) z)
  where
    up : (l u : ℚ) → l +ℚ (u -ℚ l) *ℚ 1ℚ ≡ u
    up l u = simp ring
whole_range l u v low high Down AtUpper p q c st =
    let e : Some u ≡ Some v = sym q ∙ st in let z : u ≡ v = cc in
    p ∙ ap Some (sym (down l u) ∙ ap (λ a. a +ℚ (u -ℚ l) *ℚ neg_ℚ 1ℚ) z)
  where
    down : (l u : ℚ) → u +ℚ (u -ℚ l) *ℚ neg_ℚ 1ℚ ≡ l
    down l u = simp ring
whole_range l u v low high Up AtZero p q c st = let e : Some l ≡ None = sym p ∙ st.0 in cc
whole_range l u v low high Down AtZero p q c st = let e : Some l ≡ None = sym p ∙ st.0 in cc
whole_range l u v low high Up Basic p q c st = absurd c
whole_range l u v low high Up AtUpper p q c st = absurd c
whole_range l u v low high Down Basic p q c st = absurd c
whole_range l u v low high Down AtLower p q c st = absurd c

-- a column that is not fixed has a range above 0
range_above : (b : Bounds) (k : ℕ) (v l u : ℚ) → ¬ (IsFixed b k) → IsInside (b.lower k) (b.upper k) v →
    b.lower k ≡ Some l → b.upper k ≡ Some u → 0ℚ <ℚ (u -ℚ l)
range_above b k v l u n i p q =
    by_le u l
    (λ h. absurd (n (l, p, q ∙ ap Some (≤ℚ_antisym u l h below))))
    (λ h. subst (λ a. a <ℚ (u -ℚ l)) (none l) (+ℚ_strict l u (neg_ℚ l) h))
  where
    below : l ≤ℚ u
    below =
        ≤ℚ_trans l v u (subst (λ o. IfSome o (λ c. c ≤ℚ v)) p i.lower) (subst (λ o. IfSome o (λ c. v ≤ℚ c)) q i.upper)

    none : (a : ℚ) → a -ℚ a ≡ 0ℚ
    none a = simp ring

module _ (m n : ℕ) (f : Matrix) (cost : ℕ → ℚ) (b : Bounds) (t : Table)
    (way : Way) (j : ℕ) (g : IsTableau m n f cost b t) (within : IsWithin n b t)
    (e : Enters n b t way j) (x : Best) (best : best_of m b t way j ≡ Some x) where
  abbrev rooms : ℕ → Option ℚ
  rooms = room_at m b t way j

  abbrev range : Option Best
  range = range_of j (b.lower j) (b.upper j)

  pub best_pivots : (p : ℕ) → x.position ≡ Some p →
      Pivots m n b t way j p x.ratio (bound_ahead (way_of (ray m t way j (t.basic p))))
  best_pivots p h = record {
    enters = e;
    position = there.in_range;
    forward = (best_has_room m n f cost b t way j g within e x best).forward;
    blocked = stopped;
    least = λ i lt less stop.
        let h : x.column ≤ t.basic i = no_later x (t.basic i) (least_of i lt stop) in
        let z : ⊥ = omega (arith, h, less, there.column) in z;
    to_nonbasic = ahead_nonbasic (way_of (ray m t way j (t.basic p)));
    lands = ahead_stands b (t.basic p) (moved m t way j x.ratio (t.basic p)) (ray m t way j (t.basic p)) stopped;
  }
    where
      there : IsFoundAt rooms t.basic m x p
      there =
          ⊎_elim
          (λ a. let z : None ≡ Some p = sym (ranges j (b.lower j) (b.upper j) x a).position ∙ h in cc)
          (λ a. let at = a.1 in
          let z : Some a.0 ≡ Some p = sym at.position ∙ h in
          let y : a.0 ≡ p = cc in subst (IsFoundAt rooms t.basic m x) y at)
          (found rooms t.basic range m x best)

      stopped : IsBlockedAt m b t way j x.ratio p
      stopped = room_blocked b (t.basic p) (t.value (t.basic p)) x.ratio (ray m t way j (t.basic p)) there.ratio

      least_of : (i : ℕ) → i < m → IsBlockedAt m b t way j x.ratio i → NoWorse x x.ratio (t.basic i)
      least_of i lt stop =
          scan_least rooms t.basic range m x best i lt x.ratio
          (blocked_room b (t.basic i) (t.value (t.basic i)) x.ratio (ray m t way j (t.basic i)) stop)

  pub best_flips : x.position ≡ None → Flips m n b t way j x.ratio (bound_ahead way)
  best_flips h = record {
    enters = e;
    forward =
        subst (λ a. 0ℚ <ℚ a) (sym own.length)
        (range_above b j (t.value j) own.bottom own.top e.eligible.may_enter.1
        (within j e.in_range) own.at_bottom own.at_top);
    to_nonbasic = ahead_nonbasic way;
    lands =
        subst₂ (λ r q. Stands (bound_ahead way) (b.lower j) (b.upper j) (t.value j +ℚ q *ℚ r))
        (sym (ray_at m t g.units way j (j_outside m n f cost b t g way j e))) (sym own.length)
        (whole_range own.bottom own.top (t.value j) (b.lower j) (b.upper j) way
        (t.status j) own.at_bottom own.at_top e.eligible.status (g.stands j e.in_range));
  }
    where
      own : Ranges (b.lower j) (b.upper j) x
      own =
          ⊎_elim
          (λ a. ranges j (b.lower j) (b.upper j) x a)
          (λ a. let at = a.1 in let z : None ≡ Some a.0 = sym h ∙ at.position in cc)
          (found rooms t.basic range m x best)
