-- What the scan of the ratio test finds, and how the room of a column follows from its bounds.
--
-- `won`: a ratio that replaces the best one found before it is less, or equal in a column of a lesser number.
-- `better_still`: a ratio that replaces the best one is no worse than anything that the replaced one was no worse than.
-- `no_more`: a best that is no worse than a ratio is at most that ratio.
-- `no_later`: a best that is no worse than its own ratio in another column has a column that is no greater.
-- `reaches`: a move by (a - v) / r at the rate r leads from v to a.
-- `reaches_down`: a move by (v - a) / s downward at the rate s leads from v to a.
-- `blocked_room`: where a column is blocked by a bound after a move by q, its room before the move is q.
-- `room_blocked`: a column with the room q is blocked by a bound after a move by q.
use Rattle.std.proofs.Common.{◌≡◌, ℕ, zero, suc, ◌<◌, ◌≤◌, ◌⊎◌, Option, Some, None, Bool, true}
use Rattle.std.proofs.Common.{false, not, ◌&&◌, ◌||◌, cond, nat_lt, option_map, refl, sym}
use Rattle.std.proofs.Common.{ap, ◌∙◌, subst, arith, inl, inr, ⊎_elim, ltb-true, ltb-false}
use Rattle.spec_exact.specs.Fraction.{ℚ, ◌+ℚ◌, ◌-ℚ◌, ◌*ℚ◌, neg_ℚ, 0ℚ, 1ℚ, ◌≤ℚ◌, ◌<ℚ◌, inverse, lt_ℚ}
use Rattle.spec_exact.proofs.Field.{*ℚ_assoc, *ℚ_comm, *ℚ_one, *ℚ_inverse}
use Rattle.spec_exact.proofs.Order.{≤ℚ_refl, ≤ℚ_trans, lt_if, le_if_not, lt_test, not_lt_test, ≤ℚ_antisym, <ℚ-le}
use Rattle.spec_exact.proofs.Ruleset.{ring}
use Rattle.spec_exact.proofs.Strict.{<ℚ_irrefl, <ℚ-≤ℚ_trans, not-zero_from_lt}
use Rattle.spec_exact.proofs.Magnitudes.{below_turned}
use Rattle.spec_pivot.specs.Simplex.{Bounds, IsBlocked}
use Rattle.spec_pivot.specs.Ratio.{room, Best, NoWorse, is_better, take_room, scan}
use Rattle.spec_pivot.proofs.Pivot.{by_eq}

-- ---- one room against the best so far
pub won : (q : ℚ) (k : ℕ) (y : Best) → is_better q k (Some y) ≡ true → (q <ℚ y.ratio) ⊎ ((q ≡ y.ratio) × (k < y.column))
won q k y e = go (lt_ℚ q y.ratio) (lt_ℚ y.ratio q) (nat_lt k y.column) refl refl refl e
  where
    go : (a c d : Bool) → lt_ℚ q y.ratio ≡ a → lt_ℚ y.ratio q ≡ c → nat_lt k y.column ≡ d → a || (not c && d) ≡ true →
        (q <ℚ y.ratio) ⊎ ((q ≡ y.ratio) × (k < y.column))
    go true c d p r s e = inl (lt_if q y.ratio p)
    go false true d p r s e = cc
    go false false true p r s e =
        inr (≤ℚ_antisym q y.ratio (le_if_not y.ratio q r) (le_if_not q y.ratio p), ltb-true k y.column s)
    go false false false p r s e = cc

-- a best that the ratio q of column k does not beat is no worse than that ratio
lost : (q : ℚ) (k : ℕ) (y : Best) → is_better q k (Some y) ≡ false → NoWorse y q k
unfolding NoWorse
lost q k y e = go (lt_ℚ q y.ratio) (lt_ℚ y.ratio q) (nat_lt k y.column) refl refl refl e
  where
    go : (a c d : Bool) → lt_ℚ q y.ratio ≡ a → lt_ℚ y.ratio q ≡ c → nat_lt k y.column ≡ d → a || (not c && d) ≡ false →
        (y.ratio <ℚ q) ⊎ ((y.ratio ≡ q) × (y.column ≤ k))
    go true c d p r s e = cc
    go false true d p r s e = inl (lt_if y.ratio q r)
    go false false true p r s e = cc
    go false false false p r s e =
        inr (≤ℚ_antisym y.ratio q (le_if_not q y.ratio p) (le_if_not y.ratio q r), ltb-false k y.column s)

pub better_still : (q : ℚ) (k : ℕ) (i : Option ℕ) (y : Best) (p : ℚ) (c : ℕ) → is_better q k (Some y) ≡ true →
    NoWorse y p c → NoWorse (record { ratio = q; column = k; position = i }) p c
unfolding NoWorse
better_still q k i y p c e w =
    ⊎_elim
    (λ a. inl (⊎_elim (λ z. <ℚ-≤ℚ_trans _ _ _ a (<ℚ-le _ _ z)) (λ z. subst (λ x. q <ℚ x) z.0 a) w))
    (λ a. ⊎_elim (λ z. inl (subst (λ x. x <ℚ p) (sym a.0) z)) (λ z. inr (a.0 ∙ z.0, omega (arith, a.1, z.1))) w)
    (won q k y e)

pub no_more : (x : Best) (q : ℚ) (k : ℕ) → NoWorse x q k → x.ratio ≤ℚ q
unfolding NoWorse
no_more x q k w = ⊎_elim (λ a. <ℚ-le x.ratio q a) (λ a. subst (λ z. x.ratio ≤ℚ z) a.0 (≤ℚ_refl x.ratio)) w

pub no_later : (x : Best) (k : ℕ) → NoWorse x x.ratio k → x.column ≤ k
unfolding NoWorse
no_later x k w = ⊎_elim (λ a. absurd (<ℚ_irrefl x.ratio a)) (λ a. a.1) w

-- after a position that has room, there is a best
never_none : (q : ℚ) (k i : ℕ) (s : Option Best) → take_room i k (Some q) s ≡ None → ⊥
never_none q k i None e = cc
never_none q k i (Some y) e = go (is_better q k (Some y)) e
  where
    go : (b : Bool) → cond b (Some (record { ratio = q; column = k; position = Some i })) (Some y) ≡ None → ⊥
    go true e = cc
    go false e = cc

-- ---- all positions

-- position p has the ratio and the column of x
pub record IsFoundAt (r : ℕ → Option ℚ) (c : ℕ → ℕ) (m : ℕ) (x : Best) (p : ℕ) : Type 0 where
  pub in_range : p < m
  pub ratio : r p ≡ Some x.ratio
  pub column : c p ≡ x.column
  pub position : x.position ≡ Some p

module _ (r : ℕ → Option ℚ) (c : ℕ → ℕ) (s : Option Best) where
  -- where nothing is found, no position has room, and there was nothing at first
  pub none_before : (m : ℕ) → scan m r c s ≡ None → (i : ℕ) → i < m → r i ≡ None
  none_before zero e i h = absurd (let z : ⊥ = omega arith in z)
  none_before (suc m) e i h = go (r m) refl e (none_before m)
    where
      go : (o : Option ℚ) → r m ≡ o → take_room m (c m) o (scan m r c s) ≡ None →
          (scan m r c s ≡ None → (i : ℕ) → i < m → r i ≡ None) → r i ≡ None
      go None p e ih = by_eq i m (λ z. ap r z ∙ p) (λ z. ih e i (omega arith))
      go (Some q) p e ih = absurd (never_none q (c m) m (scan m r c s) e)

  pub none_first : (m : ℕ) → scan m r c s ≡ None → s ≡ None
  none_first zero e = e
  none_first (suc m) e = go (r m) e (none_first m)
    where
      go : (o : Option ℚ) → take_room m (c m) o (scan m r c s) ≡ None → (scan m r c s ≡ None → s ≡ None) → s ≡ None
      go None e ih = ih e
      go (Some q) e ih = absurd (never_none q (c m) m (scan m r c s) e)

  -- the best is the first, or is found at a position
  pub found : (m : ℕ) (x : Best) → scan m r c s ≡ Some x → (s ≡ Some x) ⊎ ((p : ℕ) × IsFoundAt r c m x p)
  found zero x e = inl e
  found (suc m) x e = go (r m) refl (scan m r c s) refl e (λ h. found m x h)
    where
      later : (s ≡ Some x) ⊎ ((p : ℕ) × IsFoundAt r c m x p) → (s ≡ Some x) ⊎ ((p : ℕ) × IsFoundAt r c (suc m) x p)
      later w =
          ⊎_elim
          (λ a. inl a)
          (λ a. let at = a.1 in inr (
            a.0,
            record {
              in_range = omega (arith, at.in_range);
              ratio = at.ratio;
              column = at.column;
              position = at.position;
            },
          ))
          w

      here : (q : ℚ) → r m ≡ Some q → record { ratio = q; column = c m; position = Some m } ≡ x →
          (s ≡ Some x) ⊎ ((p : ℕ) × IsFoundAt r c (suc m) x p)
      here q g w =
          inr (
            m,
            record {
              in_range = omega arith;
              ratio = g ∙ ap (λ (y : Best). Some y.ratio) w;
              column = ap (λ (y : Best). y.column) w;
              position = sym (ap (λ (y : Best). y.position) w);
            },
          )

      go : (o : Option ℚ) → r m ≡ o → (u : Option Best) → scan m r c s ≡ u → take_room m (c m) o u ≡ Some x
          → (scan m r c s ≡ Some x → (s ≡ Some x) ⊎ ((p : ℕ) × IsFoundAt r c m x p))
          → (s ≡ Some x) ⊎ ((p : ℕ) × IsFoundAt r c (suc m) x p)
      go None g u w h ih = later (ih (w ∙ h))
      go (Some q) g None w h ih = here q g cc
      go (Some q) g (Some y) w h ih = pick (is_better q (c m) (Some y)) h
        where
          pick : (t : Bool) → cond t (Some (record { ratio = q; column = c m; position = Some m })) (Some y) ≡ Some x →
              (s ≡ Some x) ⊎ ((p : ℕ) × IsFoundAt r c (suc m) x p)
          pick true h = here q g cc
          pick false h = later (ih (w ∙ h))

  -- the best is at most the first
  pub scan_first : (m : ℕ) (x y : Best) → s ≡ Some y → scan m r c s ≡ Some x → x.ratio ≤ℚ y.ratio
  scan_first zero x y f e = same x y (sym e ∙ f)
    where
      same : (x y : Best) → Some x ≡ Some y → x.ratio ≤ℚ y.ratio
      same x y e = let z : x ≡ y = cc in subst (λ (z : Best). z.ratio ≤ℚ y.ratio) (sym z) (≤ℚ_refl y.ratio)
  scan_first (suc m) x y f e = go (r m) (scan m r c s) refl e (λ z k. scan_first m z y f k)
    where
      go : (o : Option ℚ) (u : Option Best) → scan m r c s ≡ u → take_room m (c m) o u ≡ Some x →
          ((z : Best) → scan m r c s ≡ Some z → z.ratio ≤ℚ y.ratio) → x.ratio ≤ℚ y.ratio
      go None u w h ih = ih x (w ∙ h)
      go (Some q) None w h ih = let z : Some y ≡ None = sym f ∙ none_first m w in cc
      go (Some q) (Some z) w h ih = pick (is_better q (c m) (Some z)) refl h
        where
          pick : (t : Bool) → is_better q (c m) (Some z) ≡ t →
              cond t (Some (record { ratio = q; column = c m; position = Some m })) (Some z) ≡ Some x →
              x.ratio ≤ℚ y.ratio
          pick true p h =
              let same : ◌≡◌ {A = Best} (record { ratio = q; column = c m; position = Some m }) x = cc in
              let less : q ≤ℚ z.ratio =
              ⊎_elim (λ a. <ℚ-le q z.ratio a) (λ a. subst (λ b. q ≤ℚ b) a.0 (≤ℚ_refl q)) (won q (c m) z p) in
              subst (λ (b : Best). b.ratio ≤ℚ y.ratio) same (≤ℚ_trans q z.ratio y.ratio less (ih z w))
          pick false p h = let same : z ≡ x = cc in subst (λ (b : Best). b.ratio ≤ℚ y.ratio) same (ih z w)

  -- the best is no worse than the room of any position
  pub scan_least : (m : ℕ) (x : Best) → scan m r c s ≡ Some x → (i : ℕ) → i < m → (q : ℚ) → r i ≡ Some q →
      NoWorse x q (c i)
  unfolding NoWorse
  scan_least zero x e i h q f = absurd (let z : ⊥ = omega arith in z)
  scan_least (suc m) x e i h q f = go (r m) refl (scan m r c s) refl e (λ y z j k p w. scan_least m y z j k p w)
    where
      -- at the last position
      last : (p : ℚ) → r m ≡ Some p → i ≡ m → p ≡ q
      last p g a = let v : Some p ≡ Some q = sym g ∙ ap r (sym a) ∙ f in cc

      at_last : (p : ℚ) → p ≡ q → i ≡ m → NoWorse (record { ratio = p; column = c m; position = Some m }) q (c i)
      at_last p u a = inr (u, subst (λ i. c m ≤ c i) (sym a) (let k : c m ≤ c m = omega arith in k))

      go : (o : Option ℚ) → r m ≡ o → (y : Option Best) → scan m r c s ≡ y → take_room m (c m) o y ≡ Some x
          → ((y : Best) → scan m r c s ≡ Some y → (j : ℕ) → j < m → (p : ℚ) → r j ≡ Some p → NoWorse y p (c j))
          → NoWorse x q (c i)
      go None g y z e ih =
          by_eq i m
          (λ a. let w : None ≡ Some q = sym g ∙ ap r (sym a) ∙ f in cc)
          (λ a. ih x (z ∙ e) i (omega arith) q f)
      go (Some p) g None z e ih =
          let w : record { ratio = p; column = c m; position = Some m } ≡ x = cc in
          by_eq i m
          (λ a. subst (λ (x : Best). NoWorse x q (c i)) w (at_last p (last p g a) a))
          (λ a. let v : None ≡ Some q = sym (none_before m z i (omega arith)) ∙ f in cc)
      go (Some p) g (Some y) z e ih = pick (is_better p (c m) (Some y)) refl e
        where
          pick : (b : Bool) → is_better p (c m) (Some y) ≡ b →
              cond b (Some (record { ratio = p; column = c m; position = Some m })) (Some y) ≡ Some x →
              NoWorse x q (c i)
          pick true b e =
              let w : record { ratio = p; column = c m; position = Some m } ≡ x = cc in
              by_eq i m
              (λ a. subst (λ (x : Best). NoWorse x q (c i)) w (at_last p (last p g a) a))
              (λ a. subst (λ (x : Best). NoWorse x q (c i)) w
              (better_still p (c m) (Some m) y q (c i) b (ih y z i (omega arith) q f)))
          pick false b e =
              let w : y ≡ x = cc in
              by_eq i m
              (λ a. subst (λ (x : Best). NoWorse x q (c i)) w
              (subst (λ q. NoWorse y q (c i)) (last p g a) (subst (λ i. NoWorse y p (c i)) (sym a) (lost p (c m) y b))))
              (λ a. subst (λ (x : Best). NoWorse x q (c i)) w (ih y z i (omega arith) q f))

-- ---- room and bounds
pub reaches : (a v r : ℚ) → ¬ (r ≡ 0ℚ) → v +ℚ ((a -ℚ v) *ℚ inverse r) *ℚ r ≡ a
reaches a v r n =
    ap (λ x. v +ℚ x)
    (*ℚ_assoc (a -ℚ v) (inverse r) r ∙ ap (λ x. (a -ℚ v) *ℚ x) (*ℚ_comm (inverse r) r ∙ *ℚ_inverse r n)) ∙ back_ v a
  where
    back_ : (v a : ℚ) → v +ℚ (a -ℚ v) *ℚ 1ℚ ≡ a
    back_ v a = simp ring

pub reaches_down : (a v s : ℚ) → ¬ (s ≡ 0ℚ) → v -ℚ ((v -ℚ a) *ℚ inverse s) *ℚ s ≡ a
reaches_down a v s n =
    ap (λ x. v -ℚ x)
    (*ℚ_assoc (v -ℚ a) (inverse s) s ∙ ap (λ x. (v -ℚ a) *ℚ x) (*ℚ_comm (inverse s) s ∙ *ℚ_inverse s n)) ∙ back_ v a
  where
    back_ : (v a : ℚ) → v -ℚ (v -ℚ a) *ℚ 1ℚ ≡ a
    back_ v a = simp ring

-- a move by q at the rate r, measured at that rate, has the length q
measured : (q v r : ℚ) → ¬ (r ≡ 0ℚ) → ((v +ℚ q *ℚ r) -ℚ v) *ℚ inverse r ≡ q
measured q v r n =
    ap (λ x. x *ℚ inverse r) (only v (q *ℚ r)) ∙ *ℚ_assoc q r (inverse r) ∙ ap (λ x. q *ℚ x) (*ℚ_inverse r n) ∙ *ℚ_one q
  where
    only : (v a : ℚ) → (v +ℚ a) -ℚ v ≡ a
    only v a = simp ring

-- a move by q at the rate r, measured backwards at the rate -r, has the length q
measured_down : (q v r : ℚ) → ¬ (neg_ℚ r ≡ 0ℚ) → (v -ℚ (v +ℚ q *ℚ r)) *ℚ inverse (neg_ℚ r) ≡ q
measured_down q v r n =
    ap (λ x. x *ℚ inverse (neg_ℚ r)) (turn v q r) ∙ *ℚ_assoc q (neg_ℚ r) (inverse (neg_ℚ r))
    ∙ ap (λ x. q *ℚ x) (*ℚ_inverse (neg_ℚ r) n) ∙ *ℚ_one q
  where
    turn : (v q r : ℚ) → v -ℚ (v +ℚ q *ℚ r) ≡ q *ℚ neg_ℚ r
    turn v q r = simp ring

-- what is blocked after a move by q has the room q
pub blocked_room : (b : Bounds) (k : ℕ) (v q r : ℚ) → IsBlocked b k (v +ℚ q *ℚ r) r → room b k v r ≡ Some q
blocked_room b k v q r (inl h) =
    rw (lt_test 0ℚ r h.0, h.1) (ap Some (measured q v r (not-zero_from_lt r h.0)))
blocked_room b k v q r (inr h) =
    rw (not_lt_test 0ℚ r (<ℚ-le r 0ℚ h.0), lt_test r 0ℚ h.0, h.1)
    (ap Some (measured_down q v r (not-zero_from_lt (neg_ℚ r) (below_turned r h.0))))

-- a rising value with the room q is at its upper bound after a move by q
room_up : (o : Option ℚ) (v q r : ℚ) → 0ℚ <ℚ r → option_map (λ u. (u -ℚ v) *ℚ inverse r) o ≡ Some q →
    o ≡ Some (v +ℚ q *ℚ r)
room_up None v q r p e = cc
room_up (Some u) v q r p e =
    let z : (u -ℚ v) *ℚ inverse r ≡ q = cc in
    ap Some (sym (reaches u v r (not-zero_from_lt r p)) ∙ ap (λ x. v +ℚ x *ℚ r) z)

-- a falling value with the room q is at its lower bound after a move by q
room_down : (o : Option ℚ) (v q r : ℚ) → r <ℚ 0ℚ → option_map (λ l. (v -ℚ l) *ℚ inverse (neg_ℚ r)) o ≡ Some q →
    o ≡ Some (v +ℚ q *ℚ r)
room_down None v q r p e = cc
room_down (Some l) v q r p e =
    let z : (v -ℚ l) *ℚ inverse (neg_ℚ r) ≡ q = cc in
    ap Some (sym (reaches_down l v (neg_ℚ r) (not-zero_from_lt (neg_ℚ r) (below_turned r p)))
    ∙ ap (λ x. v -ℚ x *ℚ neg_ℚ r) z ∙ turn v q r)
  where
    turn : (v q r : ℚ) → v -ℚ q *ℚ neg_ℚ r ≡ v +ℚ q *ℚ r
    turn v q r = simp ring

pub room_blocked : (b : Bounds) (k : ℕ) (v q r : ℚ) → room b k v r ≡ Some q → IsBlocked b k (v +ℚ q *ℚ r) r
room_blocked b k v q r e = by (lt_ℚ 0ℚ r) (lt_ℚ r 0ℚ) refl refl e
  where
    by : (s t : Bool) → lt_ℚ 0ℚ r ≡ s → lt_ℚ r 0ℚ ≡ t
        → cond s (option_map (λ u. (u -ℚ v) *ℚ inverse r) (b.upper k))
        (cond t (option_map (λ l. (v -ℚ l) *ℚ inverse (neg_ℚ r)) (b.lower k)) None) ≡ Some q
        → IsBlocked b k (v +ℚ q *ℚ r) r
    by true t p w h = inl (lt_if 0ℚ r p, room_up (b.upper k) v q r (lt_if 0ℚ r p) h)
    by false true p w h = inr (lt_if r 0ℚ w, room_down (b.lower k) v q r (lt_if r 0ℚ w) h)
    by false false p w h = cc
