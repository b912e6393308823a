-- The ratio test.
use Rattle.std.specs.Prelude.{◌≡◌, ◌<◌, ◌≤◌, ◌⊎◌, ℕ, zero, suc, Option, Some, None}
use Rattle.std.specs.Prelude.{Bool, true, not, ◌&&◌, ◌||◌, cond, nat_lt, option_map}
use Rattle.spec_exact.specs.Fraction.{◌<ℚ◌, ◌≤ℚ◌, lt_ℚ, ℚ, ◌-ℚ◌, ◌*ℚ◌, neg_ℚ, 0ℚ, inverse}
use Rattle.spec_pivot.specs.declared.status.Status.{Status}
use Rattle.spec_pivot.specs.declared.status.Status.TheVariants.{AtLower, AtUpper}
use Rattle.spec_pivot.specs.declared.status.Way.{Way}
use Rattle.spec_pivot.specs.declared.status.Way.TheVariants.{Up, Down}
use Rattle.spec_pivot.specs.Simplex.{Bounds, Table, Enters, ray}

-- how far the entering column can move until column k, which is at v and moves by r a unit, comes to a bound; none
-- where no bound stops it
abbrev pub room : Bounds → ℕ → ℚ → ℚ → Option ℚ
room b k v r =
    cond (lt_ℚ 0ℚ r) (option_map (λ u. (u -ℚ v) *ℚ inverse r) (b.upper k))
    (cond (lt_ℚ r 0ℚ) (option_map (λ l. (v -ℚ l) *ℚ inverse (neg_ℚ r)) (b.lower k)) None)

-- how far column j can move until the basic column at position i comes to a bound; none where no bound stops it
abbrev pub room_at : ℕ → Bounds → Table → Way → ℕ → ℕ → Option ℚ
room_at m b t way j i = room b (t.basic i) (t.value (t.basic i)) (ray m t way j (t.basic i))

-- the least room so far: its ratio, its column, and the position of that column unless it is the entering one
pub record Best : Type 0 where
  pub ratio : ℚ
  pub column : ℕ
  pub position : Option ℕ

-- whether the ratio q of column k is less than the best so far, or as small and of a lesser column;
-- yes where there is none
abbrev pub is_better : ℚ → ℕ → Option Best → Bool
is_better q k None = true
is_better q k (Some x) = lt_ℚ q x.ratio || (not (lt_ℚ x.ratio q) && nat_lt k x.column)

-- the best once position i is seen, whose column k has this room: that so far, or this one where it is better; without
-- a room it stays
abbrev pub take_room : ℕ → ℕ → Option ℚ → Option Best → Option Best
take_room i k None s = s
take_room i k (Some q) s = cond (is_better q k s) (Some (record { ratio = q; column = k; position = Some i })) s

-- the best once the positions 0 .. i - 1 are seen, with the rooms r and the columns c, from s on
abbrev pub scan : ℕ → (ℕ → Option ℚ) → (ℕ → ℕ) → Option Best → Option Best
scan zero r c s = s
scan (suc i) r c s = take_room i (c i) (r i) (scan i r c s)

-- the best at the start: the entering column's distance from one bound to the other; none where it has not both
abbrev pub range_of : ℕ → Option ℚ → Option ℚ → Option Best
range_of j None upper = None
range_of j (Some l) None = None
range_of j (Some l) (Some u) = Some (record { ratio = u -ℚ l; column = j; position = None })

-- the result of the ratio test as column j moves this way: the least room of it and of all positions; none where
-- nothing stops it
abbrev pub best_of : ℕ → Bounds → Table → Way → ℕ → Option Best
best_of m b t way j = scan m (room_at m b t way j) t.basic (range_of j (b.lower j) (b.upper j))

-- x is no worse than the ratio q of column k: it is smaller, or as small in a column that is no greater
unfoldable pub NoWorse : Best → ℚ → ℕ → Type 0
NoWorse x q k = (x.ratio <ℚ q) ⊎ ((x.ratio ≡ q) × (x.column ≤ k))

-- column j enters by Bland's rule and is never stopped: it has not both bounds, and no position has a room
pub record GoesOn (m n : ℕ) (b : Bounds) (t : Table) (way : Way) (j : ℕ) : Type 0 where
  pub enters : Enters n b t way j
  pub own : (b.lower j ≡ None) ⊎ (b.upper j ≡ None)
  pub others : (i : ℕ) → i < m → room_at m b t way j i ≡ None

-- column j may move by theta, at least 0: that is no more than from one of its bounds to the other, where it has both,
-- and no more than the room of any basic column
pub record HasRoom (m : ℕ) (b : Bounds) (t : Table) (way : Way) (j : ℕ) (theta : ℚ) : Type 0 where
  pub forward : 0ℚ ≤ℚ theta
  pub own : (l u : ℚ) → b.lower j ≡ Some l → b.upper j ≡ Some u → theta ≤ℚ (u -ℚ l)
  pub others : (i : ℕ) → i < m → (q : ℚ) → room_at m b t way j i ≡ Some q → theta ≤ℚ q

-- the way of a column that moves by r a unit: up where r is above 0, else down
abbrev pub way_of : ℚ → Way
way_of r = cond (lt_ℚ 0ℚ r) Up Down

-- the status at the bound that lies this way: the upper one for up, the lower one for down
abbrev pub bound_ahead : Way → Status
bound_ahead Up = AtUpper
bound_ahead Down = AtLower
