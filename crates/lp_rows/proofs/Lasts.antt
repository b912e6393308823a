-- What a move does to the last number of a row, and a pivot to all rows.
--
-- `over_none`: 0 over a positive denominator is 0.
-- `less_neg`: where a is the negative of b, a as a fraction is the negative of b as one.
use Rattle.std.proofs.Common.{◌≡◌, ◌≢◌, ℕ, ◌+◌, ◌<◌, ◌≤◌, List, [], ◌∷◌, length, get_or, set, All, refl, sym, ap}
use Rattle.std.proofs.Common.{ap₂, ◌∙◌, subst, subst₂, arith}
use Rattle.std.proofs.Common.{ℤ, pos, neg_ℤ, ◌*ℤ◌, ◌-ℤ◌, Bool, true, false, cond, nat_eq, eq-eqb, ne_eqb}
use Rattle.std.proofs.Math.Nat.{mul-one}
use Rattle.std.proofs.lemmas.List.{length-set}
use Rattle.std.proofs.lemmas.List.Elements.{All-set}
use Rattle.spec_exact.specs.Fraction.{ℚ, 0ℚ, over, ◌+ℚ◌, ◌-ℚ◌, ◌*ℚ◌, neg_ℚ, inverse}
use Rattle.spec_exact.proofs.Ring.{◌⊕◌, ◌⊗◌, minus, lit, v0, v1, v2}
use Rattle.spec_exact.proofs.WholeRing.{by_ring}
use Rattle.spec_exact.proofs.Fraction.{over-same}
use Rattle.spec_exact.proofs.Field.{over-*, whole_over}
use Rattle.spec_exact.proofs.Ruleset.{ring}
use Rattle.spec_pivot.specs.Tableau.{pivot_row, pivoted}
use Rattle.spec_pivot.proofs.Pivot.{by_eq, pivoted_at, pivoted_off}
use Rattle.lp_natural.specs.Whole.{whole}
use Rattle.lp_natural.specs.declared.words.signed.Signed.{Signed}
use Rattle.lp_rows.specs.declared.fractions.Row.{Row}
use Rattle.lp_rows.specs.Row.{at}
use Rattle.lp_rows.proofs.Done.{item-at, at-set_same, at-set_other}
use Rattle.lp_rows.proofs.Cleared.{fraction-at, over_neg}
use Rattle.lp_rows.proofs.Gaps.{together}
use Rattle.lp_rows.specs.Shows.{IsRow}
use Rattle.lp_rows.specs.Moves.{number_at, number_in, IsLess, IsScaled, IsCleared, AreCleared, AreMoved}
use Rattle.lp_rows.specs.Moves.{AreTurned, step_to}
use Rattle.lp_rows.proofs.TableauNumbers.{number_in-get, number_in-set, number_in-other}
use Rattle.lp_rows.proofs.Taken.{nothing_off}

pub over_none : (e : ℕ) → 0 < e → over (pos 0) e ≡ 0ℚ
over_none e p =
    over-same (pos 0) (pos 0) e 1 p (omega arith)
    (by_ring (pos e ∷ []) (lit (pos 0) ⊗ lit (pos 1)) (lit (pos 0) ⊗ v0) refl)
    ∙ sym (whole_over (pos 0))

-- n * e over e is the whole number n
over-whole : (n : ℤ) (e : ℕ) → 0 < e → over (n *ℤ pos e) e ≡ over n 1
over-whole n e p =
    over-same (n *ℤ pos e) n e 1 p (omega arith) (by_ring (n ∷ pos e ∷ []) (v0 ⊗ v1 ⊗ lit (pos 1)) (v0 ⊗ v1) refl)

-- n * m over e is n / e times m
over-product : (n m : ℤ) (e : ℕ) → 0 < e → over (n *ℤ m) e ≡ over n e *ℚ over m 1
over-product n m e p = ap (over (n *ℤ m)) (sym (mul-one e)) ∙ sym (over-* n m e 1 p (omega arith))

module _ {T : Type 0} (value : T → ℕ) where
  -- number k of a row, as a fraction, is its whole number k over the row's denominator
  number-at : (row : Row T) (k n : ℕ) → IsRow value n row → k < n + 1 →
      number_at value row k ≡ over (at value row.numbers.items k) (value row.denominator)
  number-at row k n r h = fraction-at value row.numbers.items (value row.denominator) k (omega (arith, h, r.numbers))

  -- ---- the last number
  -- where the last whole number of a row becomes x - a * b, the row is the old one with its last entry less by a * b
  -- over the denominator
  pub less_is : (n : ℕ) (old new : Row T) (x last : Signed T) (one : ℕ) (a b : ℤ) → IsRow value n old →
      new.numbers.items ≡ set old.numbers.items n last → new.denominator ≡ old.denominator →
      x ≡ get_or old.numbers.items n x → one ≡ 1 →
      whole last.negative (value last.size) ≡ pos one *ℤ whole x.negative (value x.size) -ℤ a *ℤ b →
      IsLess value n (over (a *ℤ b) (value old.denominator)) old new
  less_is n old new x last one a b r e f h i k =
      let shape : IsRow value n new = record {
        numbers = ap length e ∙ length-set old.numbers.items n last ∙ r.numbers;
        positive = subst (λ z. 0 < value z) (sym f) r.positive;
      } in
      let inside : n < length old.numbers.items = omega (arith, r.numbers) in
      record {
        row = shape;
        others = λ j l.
            number-at new j n shape (omega (arith, l))
            ∙ ap₂ (λ xs z. over (at value xs j) (value z)) e f
            ∙ ap (λ z. over z (value old.denominator))
            (at-set_other value old.numbers.items n j last (λ s. absurd (omega (arith, l, s))))
            ∙ sym (number-at old j n r (omega (arith, l)));
        last =
            number-at new n n shape (omega arith)
            ∙ ap₂ (λ xs z. over (at value xs n) (value z)) e f
            ∙ ap (λ z. over z (value old.denominator))
            (at-set_same value old.numbers.items n last inside ∙ k
            ∙ ap (λ z. pos z *ℤ whole x.negative (value x.size) -ℤ a *ℤ b) i
            ∙ by_ring (whole x.negative (value x.size) ∷ a ∷ b ∷ []) (lit (pos 1) ⊗ v0 ⊕ minus (v1 ⊗ v2))
            (v0 ⊕ minus (v1 ⊗ v2)) refl)
            ∙ sym (together (whole x.negative (value x.size)) (a *ℤ b) (value old.denominator) r.positive)
            ∙ ap (λ z. z -ℚ over (a *ℤ b) (value old.denominator))
            (ap (λ z. over z (value old.denominator)) (sym (item-at value old.numbers.items n x inside h))
            ∙ sym (number-at old n n r (omega arith)));
      }

  -- a row whose last entry is less by a * d over d, its denominator, has it less by a
  pub less_whole : (n : ℕ) (old new : Row T) (a : ℤ) → IsRow value n old →
      IsLess value n (over (a *ℤ pos (value old.denominator)) (value old.denominator)) old new →
      IsLess value n (over a 1) old new
  less_whole n old new a r l = subst (λ v. IsLess value n v old new) (over-whole a (value old.denominator) r.positive) l

  -- a row whose last entry is less by its whole number j times a, over its denominator, has it less by its entry j
  -- times a
  pub less_times : (n j : ℕ) (old new : Row T) (x : Signed T) (a : ℤ) → IsRow value n old → j < n →
      x ≡ get_or old.numbers.items j x →
      IsLess value n (over (whole x.negative (value x.size) *ℤ a) (value old.denominator)) old new →
      IsLess value n (number_at value old j *ℚ over a 1) old new
  less_times n j old new x a r h e l =
      subst (λ v. IsLess value n v old new)
      (over-product (whole x.negative (value x.size)) a (value old.denominator) r.positive
      ∙ ap (λ z. z *ℚ over a 1)
      (ap (λ z. over z (value old.denominator))
      (sym (item-at value old.numbers.items j x (omega (arith, h, r.numbers)) e))
      ∙ sym (number-at old j n r (omega (arith, h))))) l

  -- ---- a row without as much of another
  -- a row whose number j is 0 is itself the row cleared in column j
  pub clear_already : (n j : ℕ) (own row : Row T) (x : Signed T) → IsRow value n row → j < n →
      x ≡ get_or row.numbers.items j x → value x.size ≡ 0 → IsCleared value n j own row row
  clear_already n j own row x r h e z =
      record {
        row = r;
        each = λ k i.
            nothing_off (number_at value row k) (number_at value own k)
            ∙ ap (λ a. number_at value row k -ℚ a *ℚ number_at value own k) (sym none);
      }
    where
      no_whole : (b : Bool) (s : ℕ) → s ≡ 0 → whole b s ≡ pos 0
      no_whole true s e = ap (λ n. neg_ℤ (pos n)) e ∙ by_ring [] (minus (lit (pos 0))) (lit (pos 0)) refl
      no_whole false s e = ap pos e

      none : number_at value row j ≡ 0ℚ
      none =
          number-at row j n r (omega (arith, h))
          ∙ ap (λ a. over a (value row.denominator))
          (item-at value row.numbers.items j x (omega (arith, h, r.numbers)) e ∙ no_whole x.negative (value x.size) z)
          ∙ over_none (value row.denominator) r.positive

  -- ---- many rows: the numbers of the first `done` of them are those of f
  pub record AreSoFar (n done : ℕ) (f : ℕ → ℕ → ℚ) (old new : List (Row T)) : Type 0 where
    pub len : length new ≡ length old
    pub rows : All (IsRow value n) new
    pub each : (i k : ℕ) → i < done → i < length old → k < n + 1 → number_in value new i k ≡ f i k
    pub rest : (i k : ℕ) → done ≤ i → number_in value new i k ≡ number_in value old i k

  -- before the first row none is changed
  pub none_yet : (n : ℕ) (f : ℕ → ℕ → ℚ) (old : List (Row T)) → All (IsRow value n) old → AreSoFar n 0 f old old
  none_yet n f old is =
      record { len = refl; rows = is; each = λ i k l. absurd (omega (arith, l)); rest = λ i k l. refl }

  one_more : (n done : ℕ) (f : ℕ → ℕ → ℚ) (old new : List (Row T)) (row : Row T) → AreSoFar n done f old new →
      done < length new → IsRow value n row → ((k : ℕ) → k < n + 1 → number_at value row k ≡ f done k) →
      AreSoFar n (done + 1) f old (set new done row)
  one_more n done f old new row a h r e =
      record {
        len = length-set new done row ∙ a.len;
        rows = All-set (IsRow value n) new done row r a.rows;
        each = λ i k l m o. by_eq i done
            (λ s. subst (λ i. number_in value (set new done row) i k ≡ f i k) (sym s)
            (number_in-set value new done k row h ∙ e k o))
            (λ d. number_in-other value new done i k row d ∙ a.each i k (omega (arith, l, d)) m o);
        rest = λ i k l.
            number_in-other value new done i k row (λ s. absurd (omega (arith, l, s))) ∙ a.rest i k (omega (arith, l));
      }

  was : (n done : ℕ) (f : ℕ → ℕ → ℚ) (old new : List (Row T)) (z : Row T) → AreSoFar n done f old new →
      done < length new → (k : ℕ) → number_at value (get_or new done z) k ≡ number_in value old done k
  was n done f old new z a h k = sym (number_in-get value new done k z h) ∙ a.rest done k (omega arith)

  -- clearing
  abbrev pub cleared_at : ℕ → Row T → List (Row T) → ℕ → ℕ → ℚ
  cleared_at j own old i k = number_in value old i k -ℚ number_in value old i j *ℚ number_at value own k

  -- where the first `done` rows are cleared in column j, and the next one is set to itself cleared, the first `done` +
  -- 1 are
  pub one_cleared : (n j done : ℕ) (own : Row T) (old new : List (Row T)) (z cleared : Row T) →
      AreSoFar n done (cleared_at j own old) old new → done < length new →
      IsCleared value n j own (get_or new done z) cleared →
      AreSoFar n (done + 1) (cleared_at j own old) old (set new done cleared)
  one_cleared n j done own old new z cleared a h d =
      let f = cleared_at j own old in
      one_more n done f old new cleared a h d.row
      (λ k l. d.each k l
      ∙ ap₂ (λ x y. x -ℚ y *ℚ number_at value own k) (was n done f old new z a h k) (was n done f old new z a h j))

  -- where as many rows are cleared as there are, all are
  pub all_cleared : (n j done : ℕ) (own : Row T) (old new : List (Row T)) →
      AreSoFar n done (cleared_at j own old) old new → length old ≤ done → AreCleared value n j own old new
  all_cleared n j done own old new a e =
      record { len = a.len; rows = a.rows; each = λ i k h l. a.each i k (omega (arith, h, e)) h l }

  -- moving
  abbrev pub moved_at : ℕ → ℕ → ℚ → List (Row T) → ℕ → ℕ → ℚ
  moved_at n j v old i k =
      cond (nat_eq k n) (number_in value old i n -ℚ number_in value old i j *ℚ v) (number_in value old i k)

  -- where the first `done` rows are moved by v times their entry j, and the next one is set to itself moved, the first
  -- `done` + 1 are
  pub one_moved : (n j done : ℕ) (v : ℚ) (old new : List (Row T)) (z moved : Row T) →
      AreSoFar n done (moved_at n j v old) old new → done < length new →
      IsLess value n (number_at value (get_or new done z) j *ℚ v) (get_or new done z) moved →
      AreSoFar n (done + 1) (moved_at n j v old) old (set new done moved)
  one_moved n j done v old new z moved a h d =
      let f = moved_at n j v old in
      one_more n done f old new moved a h d.row
      (λ k l. by_eq k n
      (λ s. ap (number_at value moved) s ∙ d.last
      ∙ ap₂ (λ x y. x -ℚ y *ℚ v) (was n done f old new z a h n) (was n done f old new z a h j)
      ∙ sym (rw (eq-eqb k n s) refl))
      (λ o. d.others k (omega (arith, l, o)) ∙ was n done f old new z a h k ∙ sym (rw (ne_eqb k n o) refl)))

  -- where as many rows are moved as there are, all are
  pub all_moved : (n j done : ℕ) (v : ℚ) (old new : List (Row T)) → AreSoFar n done (moved_at n j v old) old new →
      length old ≤ done → AreMoved value n j v old new
  all_moved n j done v old new a e =
      record {
        len = a.len;
        rows = a.rows;
        others = λ i k h l.
            a.each i k (omega (arith, h, e)) h (omega (arith, l))
            ∙ rw (ne_eqb k n (λ s. let z : ⊥ = omega (arith, l, s) in z)) refl;
        last = λ i h. a.each i n (omega (arith, h, e)) h (omega arith) ∙ rw (eq-eqb n n refl) refl;
      }

  -- ---- a pivot: `scaled` is row p over its entry, and the costs stand in its place while rows are cleared
  module _ (n p j : ℕ) (v w : ℚ) (old : List (Row T)) (cost : Row T) (rows_is : All (IsRow value n) old)
      (place : p < length old)
      (column : j < n) (z scaled : Row T) (s : IsScaled value n j v (get_or old p z) scaled)
      (lent cleared back : List (Row T)) (costs : Row T) (len : length lent ≡ length old)
      (lent_own : (k : ℕ) → number_in value lent p k ≡ number_at value cost k)
      (lent_other : (i k : ℕ) → i ≢ p → number_in value lent i k ≡ number_in value old i k)
      (d : AreCleared value n j scaled lent cleared) (third : Row T) (costs_is : costs ≡ get_or cleared p third)
      (moved : Row T) (m : IsLess value n (neg_ℚ w) scaled moved) (back_is : back ≡ set cleared p moved) where
    in_cleared : p < length cleared
    in_cleared = omega (arith, place, len, d.len)

    own_at : (k : ℕ) → number_at value (get_or old p z) k ≡ number_in value old p k
    own_at k = sym (number_in-get value old p k z place)

    scaled_at : (k : ℕ) → k < n → number_at value scaled k ≡ pivot_row (number_in value old) p j k
    scaled_at k h = s.others k h ∙ ap₂ (λ x y. x *ℚ inverse y) (own_at k) (own_at j)

    scaled_last : number_at value scaled n ≡ step_to value n p j v old
    scaled_last = s.last ∙ ap₂ (λ x y. (x -ℚ v) *ℚ inverse y) (own_at n) (own_at j)

    back_at : (i k : ℕ) → i ≢ p → number_in value back i k ≡ number_in value cleared i k
    back_at i k o = ap (λ xs. number_in value xs i k) back_is ∙ number_in-other value cleared p i k moved o

    other_at : (i k : ℕ) → i < length old → i ≢ p → k < n + 1 →
        number_in value back i k ≡ number_in value old i k -ℚ number_in value old i j *ℚ number_at value scaled k
    other_at i k h o l =
        back_at i k o
        ∙ d.each i k (omega (arith, h, len)) l
        ∙ ap₂ (λ x y. x -ℚ y *ℚ number_at value scaled k) (lent_other i k o) (lent_other i j o)

    own_back : (k : ℕ) → number_in value back p k ≡ number_at value moved k
    own_back k = ap (λ xs. number_in value xs p k) back_is ∙ number_in-set value cleared p k moved in_cleared

    costs_at : (k : ℕ) → number_at value costs k ≡ number_in value cleared p k
    costs_at k = ap (λ z. number_at value z k) costs_is ∙ sym (number_in-get value cleared p k third in_cleared)

    twice : (a w : ℚ) → a -ℚ neg_ℚ w ≡ a +ℚ w
    twice a w = simp ring

    pub turned_is : AreTurned value n p j v w old back cost costs
    turned_is = record {
      len = ap length back_is ∙ length-set cleared p moved ∙ d.len ∙ len;
      rows = subst (All (IsRow value n)) (sym back_is) (All-set (IsRow value n) cleared p moved m.row d.rows);
      costs_row = subst (IsRow value n) (sym costs_is) (d.rows p third in_cleared);
      entries = λ i k h l. by_eq i p
          (λ e. subst (λ i. number_in value back i k ≡ pivoted (number_in value old) p j i k) (sym e)
          (own_back k ∙ m.others k l ∙ scaled_at k l ∙ sym (pivoted_at (number_in value old) p j k)))
          (λ o. other_at i k h o (omega (arith, l))
          ∙ ap (λ y. number_in value old i k -ℚ number_in value old i j *ℚ y) (scaled_at k l)
          ∙ sym (pivoted_off (number_in value old) p j i k o));
      own = own_back n ∙ m.last ∙ twice (number_at value scaled n) w ∙ ap (λ a. a +ℚ w) scaled_last;
      last = λ i h o.
          other_at i n h o (omega arith)
          ∙ ap (λ y. number_in value old i n -ℚ number_in value old i j *ℚ y) scaled_last;
      reduced = λ k l.
          costs_at k
          ∙ d.each p k (omega (arith, place, len)) (omega (arith, l))
          ∙ ap₂ (λ x y. x -ℚ y *ℚ number_at value scaled k) (lent_own k) (lent_own j)
          ∙ ap (λ y. number_at value cost k -ℚ number_at value cost j *ℚ y) (scaled_at k l);
    }

  -- the same from what each call gives
  pub turned_by : (n p j : ℕ) (v w less : ℚ) (old : List (Row T)) (cost : Row T) → All (IsRow value n) old →
      p < length old →
      j < n → (z scaled : Row T) → IsScaled value n j v (get_or old p z) scaled → (x y : Row T) → x ≡ cost →
      y ≡ scaled → (cleared : List (Row T)) → AreCleared value n j y (set old p x) cleared →
      (third x' costs : Row T) → x' ≡ y → costs ≡ get_or cleared p third → (moved : Row T) → less ≡ neg_ℚ w →
      IsLess value n less x' moved → AreTurned value n p j v w old (set cleared p moved) cost costs
  turned_by n p j v w less old cost rows_is place column z scaled s x y x_is y_is cleared d third x' costs x_is'
      costs_is moved less_is m =
      turned_is n p j v w old cost rows_is place column z scaled s (set old p x) cleared (set cleared p moved) costs
      (length-set old p x)
      (λ k. number_in-set value old p k x place ∙ ap (λ z. number_at value z k) x_is)
      (λ i k o. number_in-other value old p i k x o)
      (subst (λ z. AreCleared value n j z (set old p x) cleared) y_is d) third costs_is moved
      (subst₂ (λ v u. IsLess value n v u moved) less_is (x_is' ∙ y_is) m) refl

pub less_neg : (a b : ℤ) → a ≡ neg_ℤ b → over a 1 ≡ neg_ℚ (over b 1)
less_neg a b e = ap (λ z. over z 1) e ∙ over_neg b 1 (omega arith)
