-- The columns in which a row is not 0, and the operations with 0 that are passed over.
--
-- `less_no_times`: s - v * w is s where v is 0, and is not refused where w and s are within the limit.
-- `less_times_no`: s - v * w is s where w is 0, and is not refused where v and s are within the limit.
-- `one_listed`: the list of columns in which a row is not 0, with column n added, covers the columns up to n.
-- `zero_passed`: the list of columns in which a row is not 0 covers column n too where the row is 0 there.
-- `set_out`: before any entry is replaced, clearing a row is on its way along the listed columns.
-- `none_cleared`: where the multiple is 0, the row with nothing taken off is the row cleared in all columns.
-- `not_moved`: a basic column whose entry in the moving column is 0 keeps its value.
use Rattle.std.proofs.Common.{◌≡◌, ℕ, zero, suc, ◌+◌, ◌-◌, ◌<◌, ◌≤◌, List, [], ◌∷◌, ◌++◌, length}
use Rattle.std.proofs.Common.{take, drop, get_or, Some, Ok, sym, ap, ◌∙◌, subst, arith, ⊎_elim}
use Rattle.std.proofs.Math.ListN.{set}
use Rattle.std.proofs.lemmas.Bool.{cases_eq}
use Rattle.std.proofs.lemmas.List.{set-get_or, take_more_set, drop_more, drop_all}
use Rattle.spec_exact.specs.Fraction.{ℚ, 0ℚ}
use Rattle.spec_exact.specs.Laws.{IsWithin}
use Rattle.spec_exact.specs.declared.past.Op.TheVariants.{Mul, Sub}
use Rattle.spec_exact.specs.Answer.{told}
use Rattle.spec_exact.proofs.Zero.{mul_left, mul_right, sub_right}
use Rattle.spec_exact.specs.Run.{Run, ◌>>=◌, difference_run, less_product}
use Rattle.spec_exact.specs.Narrow.{number_limit}
use Rattle.spec_simplex.specs.Tableau.{Tableau, at_place, entry_at, basic_at}
use Rattle.spec_simplex.specs.Step.{moved_at}
use Rattle.lp_tableau.specs.Grid.{IsNext, Covers, IsListed, IsNarrowGrid}
use Rattle.lp_tableau.proofs.Done.{IsDone, IsRowDone, one_done, as_before, no_row_done}

-- ---- no times v, and v times no
pub less_no_times : (m : ℕ) (v w s : ℚ) → v ≡ 0ℚ → IsWithin m w → IsWithin m s → less_product (Some m) v w s ≡ Ok s
less_no_times m v w s e h g =
    ap (λ (x : ℚ). less_product (Some m) x w s) e
    ∙ ap (λ o. told Mul 0ℚ w o >>= λ p. difference_run (Some m) s p) (mul_left m w h)
    ∙ ap (told Sub s 0ℚ) (sub_right m s g)

pub less_times_no : (m : ℕ) (v w s : ℚ) → w ≡ 0ℚ → IsWithin m v → IsWithin m s → less_product (Some m) v w s ≡ Ok s
less_times_no m v w s e h g =
    ap (λ (x : ℚ). less_product (Some m) v x s) e
    ∙ ap (λ o. told Mul v 0ℚ o >>= λ p. difference_run (Some m) s p) (mul_right m v h)
    ∙ ap (told Sub s 0ℚ) (sub_right m s g)

-- ---- items that stay as they are
module _ (f : ℕ → Run ℚ) (old new : List ℚ) where
  pub one_kept : (k : ℕ) → IsDone k f old new → k < length new → f k ≡ Ok (get_or old k 0ℚ) → IsDone (k + 1) f old new
  one_kept k d h e =
      let g : set new k (get_or new k 0ℚ) ≡ new = set-get_or new k 0ℚ in
      subst (IsDone (k + 1) f old) g
      (one_done k f old new (get_or new k 0ℚ) d h (e ∙ ap Ok (sym (as_before k f old new d))))

  kept : (a d : ℕ) → IsDone a f old new → a + d ≤ length new →
      ((k : ℕ) → a ≤ k → k < a + d → f k ≡ Ok (get_or old k 0ℚ)) → IsDone (a + d) f old new
  kept a zero d h e = (let z : a ≡ a + 0 = omega arith in subst (λ i. IsDone i f old new) z d)
  kept a (suc n) d h e =
      let z : (a + n) + 1 ≡ a + suc n = omega arith in
      subst (λ i. IsDone i f old new) z
      (one_kept (a + n) (kept a n d (omega (arith, h)) (λ k l g. e k l (omega (arith, g))))
      (omega (arith, h)) (e (a + n) (omega arith) (omega arith)))

  pub all_kept : (a b : ℕ) → IsDone a f old new → a ≤ b → b ≤ length new →
      ((k : ℕ) → a ≤ k → k < b → f k ≡ Ok (get_or old k 0ℚ)) → IsDone b f old new
  all_kept a b d l h e =
      let z : a + (b - a) ≡ b = omega (arith, l) in
      subst (λ i. IsDone i f old new) z (kept a (b - a) d (omega (arith, z, h)) (λ k g m. e k g (omega (arith, m, z))))

-- where row p is done up to item a, and for each item from a up to b the run gives what the old row has there, row p is
-- done up to item b
row_kept : (p a b : ℕ) (f : ℕ → Run ℚ) (old new : List (List ℚ)) → IsRowDone p a f old new → a ≤ b →
    b ≤ length (get_or new p []) → ((k : ℕ) → a ≤ k → k < b → f k ≡ Ok (at_place old p k)) → IsRowDone p b f old new
row_kept p a b f old new d l h e =
    record { row = all_kept f (get_or old p []) (get_or new p []) a b d.row l h e; frame = d.frame }

-- ---- the list of columns

-- columns that cover a row up to column n cover it up to n + 1 with n added as the last one
more : (row : List ℚ) (a n : ℕ) (ks : List ℕ) → a ≤ n → Covers row a n ks → Covers row a (n + 1) (ks ++ n ∷ [])
more row a n [] l c = (record { from = l; inside = omega arith; before = c }, λ k h g. absurd (omega (arith, h, g)))
more row a n (k ∷ ks) l c =
    let x : IsNext row a k n = c.0 in (
      record { from = x.from; inside = omega (arith, x.inside); before = x.before },
      more row (k + 1) n ks (omega (arith, x.inside)) c.1,
    )

-- columns that cover a row up to column n cover it up to n + 1 where the row is 0 in column n
zero_more : (row : List ℚ) (a n : ℕ) (ks : List ℕ) → get_or row n 0ℚ ≡ 0ℚ → Covers row a n ks → Covers row a (n + 1) ks
zero_more row a n [] e c =
    λ k h g. ⊎_elim (λ s. ap (λ i. get_or row i 0ℚ) s ∙ e) (λ ne. c k h (omega (arith, g, ne))) (cases_eq k n)
zero_more row a n (k ∷ ks) e c =
    let x : IsNext row a k n = c.0 in
    (record { from = x.from; inside = omega (arith, x.inside); before = x.before }, zero_more row (k + 1) n ks e c.1)

-- one column more, in which the row is not 0, and in which it is
pub one_listed : (row : List ℚ) (n count : ℕ) (spots : List ℕ) → count < length spots →
    IsListed row n (take count spots) → IsListed row (n + 1) (take (count + 1) (set spots count n))
one_listed row n count spots h c =
    subst (IsListed row (n + 1)) (sym (take_more_set spots count n h))
    (record { covers = more row 0 n (take count spots) (omega arith) c.covers })

pub zero_passed : (row : List ℚ) (n : ℕ) (spots : List ℕ) → IsListed row n spots → get_or row n 0ℚ ≡ 0ℚ →
    IsListed row (n + 1) spots
zero_passed row n spots c e = record { covers = zero_more row 0 n spots e c.covers }

-- ---- a row that is cleared in these columns
abbrev pub cleared_at : List (List ℚ) → ℕ → ℚ → ℕ → ℕ → Run ℚ
cleared_at rows p times i k = less_product (Some number_limit) times (at_place rows p k) (at_place rows i k)

-- row i is done up to some column, from which on the columns are those in which row p may not be 0
pub record IsOnWay (n p : ℕ) (times : ℚ) (i : ℕ) (spots : List ℕ) (old new : List (List ℚ)) : Type 0 where
  pub so_far : ℕ
  pub inside : so_far ≤ n
  pub done : IsRowDone i so_far (cleared_at old p times i) old new
  pub ahead : Covers (get_or old p []) so_far n spots

pub set_out : (n p : ℕ) (times : ℚ) (i : ℕ) (spots : List ℕ) (rows : List (List ℚ)) →
    IsListed (get_or rows p []) n spots → IsOnWay n p times i spots rows rows
set_out n p times i spots rows c =
    record { so_far = 0; inside = omega arith; done = no_row_done i (cleared_at rows p times i) rows; ahead = c.covers }

module _ (n p : ℕ) (times : ℚ) (i : ℕ) (old new : List (List ℚ))
    (t : IsWithin number_limit times) (w : IsNarrowGrid old) where
  zero_kept : (k : ℕ) → at_place old p k ≡ 0ℚ → cleared_at old p times i k ≡ Ok (at_place old i k)
  zero_kept k e = less_times_no number_limit times (at_place old p k) (at_place old i k) e t (w.each i k)

  -- before the next listed column k, row i is done up to k
  pub there : (k : ℕ) (ks : List ℕ) → IsOnWay n p times i (k ∷ ks) old new → length (get_or new i []) ≡ n →
      IsRowDone i k (cleared_at old p times i) old new
  there k ks o e =
      let x : IsNext (get_or old p []) o.so_far k n = o.ahead.0 in
      row_kept i o.so_far k (cleared_at old p times i) old new o.done x.from
      (omega (arith, e, x.inside)) (λ c l g. zero_kept c (x.before c l g))

  pub next_inside : (k : ℕ) (ks : List ℕ) → IsOnWay n p times i (k ∷ ks) old new → k < n
  next_inside k ks o = (let x : IsNext (get_or old p []) o.so_far k n = o.ahead.0 in x.inside)

  -- once item k of row i is replaced, clearing is on its way along the listed columns behind k
  pub gone_on : (k : ℕ) (ks : List ℕ) (next : List (List ℚ)) → IsOnWay n p times i (k ∷ ks) old new →
      IsRowDone i (k + 1) (cleared_at old p times i) old next → IsOnWay n p times i ks old next
  gone_on k ks next o d =
      record {
        so_far = k + 1;
        inside = (let l : k < n = next_inside k ks o in omega (arith, l));
        done = d;
        ahead = o.ahead.1;
      }

  -- where no listed column is left, row i is done up to its end
  pub arrived : IsOnWay n p times i [] old new → length (get_or new i []) ≡ n →
      IsRowDone i n (cleared_at old p times i) old new
  arrived o e =
      row_kept i o.so_far n (cleared_at old p times i) old new o.done o.inside
      (omega (arith, e)) (λ c l g. zero_kept c (o.ahead c l g))

-- a row from which row p is taken no times stays
pub none_cleared : (n p : ℕ) (times : ℚ) (i : ℕ) (rows : List (List ℚ)) → IsNarrowGrid rows → times ≡ 0ℚ →
    length (get_or rows i []) ≡ n → IsRowDone i n (cleared_at rows p times i) rows rows
none_cleared n p times i rows w e h =
    row_kept i 0 n (cleared_at rows p times i) rows rows
    (no_row_done i (cleared_at rows p times i) rows) (omega arith) (omega (arith, h))
    (λ k l g. less_no_times number_limit times (at_place rows p k) (at_place rows i k) e (w.each p k) (w.each i k))

-- in a list of columns that is read from its start
module _ (n p : ℕ) (times : ℚ) (i : ℕ) (old new : List (List ℚ)) (spots : List ℕ)
    (s : ℕ) (o : IsOnWay n p times i (drop s spots) old new) where
  pub at_spot : s < length spots → IsOnWay n p times i (get_or spots s 0 ∷ drop (s + 1) spots) old new
  at_spot h = subst (λ ks. IsOnWay n p times i ks old new) (drop_more spots s 0 h) o

  pub past_spots : length spots ≤ s → IsOnWay n p times i [] old new
  past_spots h = subst (λ ks. IsOnWay n p times i ks old new) (drop_all s spots h) o

-- ---- a basic column whose entry is 0 does not move
pub not_moved : (t : Tableau) (j : ℕ) (theta : ℚ) (i : ℕ) → entry_at t i j ≡ 0ℚ → IsWithin number_limit theta →
    IsWithin number_limit (get_or t.value (basic_at t i) 0ℚ) →
    moved_at (Some number_limit) t j theta i t.value ≡ Ok t.value
not_moved t j theta i e h g =
    ap (λ o. o >>= λ v. Ok (set t.value (basic_at t i) v))
    (less_no_times number_limit (entry_at t i j) theta (get_or t.value (basic_at t i) 0ℚ) e h g)
    ∙ ap Ok (set-get_or t.value (basic_at t i) 0ℚ)
