-- A model without its free rows: one free row after the other goes, the last first.
--
-- `optimal_without`: a number is a model's optimal value exactly where it is that of the model without its free rows.
-- `infeasible_without`: a model is infeasible exactly where the model without its free rows is infeasible.
-- `unbounded_without`: a model is unbounded exactly where the model without its free rows is unbounded.
-- `rows_without`: the rows of a model without its free rows are those of its rows that are not free, in their order.
-- `checks_without`: a certificate checks exactly where its multipliers of free rows are 0 and, without these, it checks
--   for the model without free rows.
-- `fits_and_shows`: without the free rows' multipliers a certificate fits the model without these rows, and shows the
--   same.
-- `comes_from`: a certificate that checks for the model without free rows comes from one that checks for the model,
--   less the multipliers of free rows.
use mathlib.Core.Logic.Iff.{trans}
use Rattle.std.proofs.Common.{◌≡◌, ◌↔◌, ℕ, zero, suc, ◌+◌, ◌<◌, ◌≤◌, Bool, true, false, not, cond}
use Rattle.std.proofs.Common.{List, [], ◌∷◌, length, get_or, refl, sym, ap, ◌∙◌, subst, arith, ⊎_elim}
use Rattle.std.specs.List.{filter, insert, remove}
use Rattle.std.proofs.lemmas.Bool.{cases_lt}
use Rattle.std.proofs.lemmas.List.Edits.{length-remove, get_or-remove_below, get_or-remove_above}
use Rattle.spec_exact.specs.Fraction.{ℚ, 0ℚ}
use Rattle.spec_model.specs.Model.{Model, ExactRow, no_row, width, height, row, part, is_free, value_of}
use Rattle.spec_model.specs.Truth.{IsOptimal, IsInfeasible, IsUnbounded}
use Rattle.spec_edit.specs.Changes.{without_row}
use Rattle.spec_edit.specs.Meaning.{skipping}
use Rattle.spec_edit.proofs.Meanings.{without_row-means}
use Rattle.spec_edit.proofs.FreeRows.{points_same, optimal_same, infeasible_same, unbounded_same, skipping_from}
use Rattle.spec_edit.proofs.FreeRows.{skipping_below}
use Rattle.spec_check.specs.declared.certificate.Certificate.TheVariants.{Optimal, Infeasible, Clash, Unbounded}
use Rattle.spec_check.specs.declared.certificate.Known.TheVariants as known
use Rattle.spec_check.specs.Certificate.{IsFor, shown}
use Rattle.spec_check.specs.Checks.{Checks}
use Rattle.spec_presolve.specs.Carry.{ExactCertificate, over_empty}
use Rattle.spec_presolve.specs.FreeRows.{without_free_below, without_free_rows, but_free, without_free_multipliers}
use Rattle.spec_presolve.specs.FreeRows.{IsZeroAtFree, TakesNoFreeRow}
use Rattle.spec_presolve.proofs.After.{row_less}
use Rattle.spec_presolve.proofs.FreeRow.{free_row-checks, free_row-optimal, free_row-infeasible}
use Rattle.spec_presolve.proofs.RowMore.{length_more}
use Rattle.spec_presolve.proofs.Skips.{by_skip, skipping_inside}

-- ---- a statement on each model along the way

abbrev NoneFrom : ℕ → Model → Type 0
NoneFrom k m = (a : ℕ) → k ≤ a → a < height m → is_free (row m a).kind ≡ false

-- where no row after row i is free, no row from i on is free once row i is removed
none_removed : (m : Model) (i : ℕ) → i < height m → NoneFrom (suc i) m → NoneFrom i (without_row m i)
none_removed m i l none a p q =
    let w = without_row-means m i l in
    let h = w.height in
    ap (λ (r : ExactRow). is_free r.kind) (w.rows a ∙ ap (row m) (skipping_from i a p))
    ∙ none (a + 1) (omega (arith, p)) (omega (arith, h, q))

-- where row i is not free and no row after it is, no row from i on is free
none_kept : (m : Model) (i : ℕ) → is_free (row m i).kind ≡ false → NoneFrom (suc i) m → NoneFrom i m
none_kept m i e none a p q =
    ⊎_elim (λ l. none a (omega (arith, l)) q)
    (λ l. let same : i ≡ a = omega (arith, l, p) in ap (λ a. is_free (row m a).kind) (sym same) ∙ e) (cases_lt i a)

-- Where P holds of a model without free rows and itself, and still holds when a free row is put into its first model,
-- it holds of a model whose rows from k on are not free and of this model without the free ones of its first k rows.
along : (P : Model → Model → Type 0) → ((m : Model) → NoneFrom 0 m → P m m) →
    ((m n : Model) (i : ℕ) → i < height m → is_free (row m i).kind ≡ true → P (without_row m i) n → P m n) →
    (k : ℕ) (m : Model) → k ≤ height m → NoneFrom k m → P m (without_free_below k m)
along P same less zero m l none = same m none
along P same less (suc i) m l none =
    by (is_free (row m i).kind) refl (λ n l none. along P same less i n l none)
  where
    by : (t : Bool) → is_free (row m i).kind ≡ t →
        ((n : Model) → i ≤ height n → NoneFrom i n → P n (without_free_below i n)) →
        P m (without_free_below i (cond t (without_row m i) m))
    by true e go =
        let h = (without_row-means m i (omega (arith, l))).height in
        less m (without_free_below i (without_row m i)) i (omega (arith, l)) e
        (go (without_row m i) (omega (arith, h, l)) (none_removed m i (omega (arith, l)) none))
    by false e go = go m (omega (arith, l)) (none_kept m i e none)

abbrev Same : (Model → Model → Type 0) → Type 0
Same P = (m : Model) → NoneFrom 0 m → P m m

abbrev Less : (Model → Model → Type 0) → Type 0
Less P = (m n : Model) (i : ℕ) → i < height m → is_free (row m i).kind ≡ true → P (without_row m i) n → P m n

-- Where P holds of a model without free rows and itself, and still holds when a free row is put into its first model,
-- it holds of each model and of this model without its free rows.
all_gone : (P : Model → Model → Type 0) → Same P → Less P → (m : Model) → P m (without_free_rows m)
unfolding without_free_rows
all_gone P same less m = along P same less (height m) m (omega arith) (λ a p q. absurd (omega (arith, p, q)))

-- ---- what is true

pub optimal_without : (m : Model) (v : ℚ) → IsOptimal m v ↔ IsOptimal (without_free_rows m) v
optimal_without m v =
    all_gone (λ m n. IsOptimal m v ↔ IsOptimal n v) (λ m none. (λ h. h, λ h. h))
    (λ m n i l e h. trans (optimal_same m i l e v) h) m

pub infeasible_without : (m : Model) → IsInfeasible m ↔ IsInfeasible (without_free_rows m)
infeasible_without m =
    all_gone (λ m n. IsInfeasible m ↔ IsInfeasible n) (λ m none. (λ h. h, λ h. h))
    (λ m n i l e h. trans (infeasible_same m i l e) h) m

pub unbounded_without : (m : Model) → IsUnbounded m ↔ IsUnbounded (without_free_rows m)
unbounded_without m =
    all_gone (λ m n. IsUnbounded m ↔ IsUnbounded n) (λ m none. (λ h. h, λ h. h))
    (λ m n i l e h. trans (unbounded_same m i l e) h) m

-- a point has the same value in a model and in the model without its free rows
value_without : (m : Model) (z : List ℚ) → value_of (without_free_rows m) z ≡ value_of m z
value_without m z =
    all_gone (λ m n. value_of n z ≡ value_of m z) (λ m none. refl)
    (λ m n i l e h. h ∙ (points_same m i l e z).1) m

-- ---- rows

-- where no row is free, leaving out the free rows leaves all rows
filter_none : (rows : List ExactRow) → ((a : ℕ) → a < length rows → is_free (get_or rows a no_row).kind ≡ false) →
    filter (λ r. not (is_free r.kind)) rows ≡ rows
filter_none [] h = refl
filter_none (r ∷ rows) h =
    ap (λ t. cond (not t) (r ∷ filter (λ r. not (is_free r.kind)) rows) (filter (λ r. not (is_free r.kind)) rows))
    (h 0 (omega arith))
    ∙ ap (λ rs. r ∷ rs) (filter_none rows (λ a l. h (suc a) (omega (arith, l))))

-- removing a free row before the free rows are left out leaves the same rows
filter_removed : (rows : List ExactRow) (i : ℕ) → i < length rows → is_free (get_or rows i no_row).kind ≡ true →
    filter (λ r. not (is_free r.kind)) (remove rows i) ≡ filter (λ r. not (is_free r.kind)) rows
filter_removed [] i l e = absurd (omega (arith, l))
filter_removed (r ∷ rows) zero l e =
    sym (ap (λ t. cond (not t) (r ∷ filter (λ r. not (is_free r.kind)) rows) (filter (λ r. not (is_free r.kind)) rows)) e)
filter_removed (r ∷ rows) (suc i) l e =
    ap (λ (rs : List ExactRow). cond (not (is_free r.kind)) (r ∷ rs) rs) (filter_removed rows i (omega (arith, l)) e)

pub rows_without : (m : Model) → (without_free_rows m).rows ≡ filter (λ r. not (is_free r.kind)) m.rows
rows_without m =
    all_gone (λ m n. n.rows ≡ filter (λ r. not (is_free r.kind)) m.rows)
    (λ m none. sym (filter_none m.rows (λ a l. none a (omega arith) l)))
    (λ m n i l e h. h ∙ filter_removed m.rows i l e) m

-- ---- multipliers

-- where no row is free, leaving out the multipliers of free rows leaves all multipliers
but_free_none : (rows : List ExactRow) (y : List ℚ) → length y ≡ length rows →
    ((a : ℕ) → a < length rows → is_free (get_or rows a no_row).kind ≡ false) → but_free rows y ≡ y
but_free_none [] [] e h = refl
but_free_none [] (v ∷ y) e h = absurd (omega (arith, e))
but_free_none (r ∷ rows) [] e h = absurd (omega (arith, e))
but_free_none (r ∷ rows) (v ∷ y) e h =
    ap (λ t. cond t (but_free rows y) (v ∷ but_free rows y)) (h 0 (omega arith))
    ∙ ap (λ ys. v ∷ ys) (but_free_none rows y (omega (arith, e)) (λ a l. h (suc a) (omega (arith, l))))

-- removing a free row and its multiplier first leaves the same multipliers of the other rows
but_free_removed : (rows : List ExactRow) (y : List ℚ) (i : ℕ) → length y ≡ length rows → i < length rows →
    is_free (get_or rows i no_row).kind ≡ true → but_free (remove rows i) (remove y i) ≡ but_free rows y
but_free_removed [] y i e l f = absurd (omega (arith, l))
but_free_removed (r ∷ rows) [] i e l f = absurd (omega (arith, e))
but_free_removed (r ∷ rows) (v ∷ y) zero e l f = sym (ap (λ t. cond t (but_free rows y) (v ∷ but_free rows y)) f)
but_free_removed (r ∷ rows) (v ∷ y) (suc i) e l f =
    ap (λ ys. cond (is_free r.kind) ys (v ∷ ys)) (but_free_removed rows y i (omega (arith, e)) (omega (arith, l)) f)

-- a list whose item i is removed and inserted again is the list as it was
insert_removed : (y : List ℚ) (i : ℕ) → i < length y → insert (remove y i) i (part y i) ≡ y
insert_removed [] i l = absurd (omega (arith, l))
insert_removed (v ∷ y) zero l = refl
insert_removed (v ∷ y) (suc i) l = ap (λ ys. v ∷ ys) (insert_removed y i (omega (arith, l)))

-- a list in which an item is inserted at i and removed again is the list as it was
remove_inserted : (y : List ℚ) (i : ℕ) (v : ℚ) → i ≤ length y → remove (insert y i v) i ≡ y
remove_inserted [] zero v l = refl
remove_inserted [] (suc i) v l = absurd (omega (arith, l))
remove_inserted (w ∷ y) zero v l = refl
remove_inserted (w ∷ y) (suc i) v l = ap (λ ys. w ∷ ys) (remove_inserted y i v (omega (arith, l)))

-- part a of a list without item i is the list's part at the index that skips i
part_removed : (y : List ℚ) (i a : ℕ) → i < length y → part (remove y i) a ≡ part y (skipping i a)
part_removed y i a l =
    ⊎_elim (λ p. get_or-remove_below y i 0ℚ a p l ∙ ap (part y) (sym (skipping_below i a p)))
    (λ p. get_or-remove_above y i 0ℚ a p l ∙ ap (part y) (sym (skipping_from i a p))) (cases_lt a i)

-- the certificate without the multiplier of row i; one that has no multipliers, a clash or a ray, stays
abbrev less_at : ℕ → ExactCertificate → ExactCertificate
less_at i (Optimal x y) = Optimal x (remove y i)
less_at i (Infeasible y) = Infeasible (remove y i)
less_at i (Clash j) = Clash j
less_at i (Unbounded x r) = Unbounded x r

abbrev IsZeroAt : ℕ → ExactCertificate → Type 0
IsZeroAt i (Optimal x y) = part y i ≡ 0ℚ
IsZeroAt i (Infeasible y) = part y i ≡ 0ℚ
IsZeroAt i (Clash j) = Unit {0}
IsZeroAt i (Unbounded x r) = Unit {0}

module _ (m : Model) (i : ℕ) (l : i < height m) where
  abbrev n : Model
  n = without_row m i

  height_is : height m ≡ height n + 1
  height_is = (without_row-means m i l).height

  width_is : width m ≡ width n
  width_is = (row_less m i l).width_is

  row_is : (a : ℕ) → row n a ≡ row m (skipping i a)
  row_is = (without_row-means m i l).rows

  within : (y : List ℚ) → length y ≡ height m → i < length y
  within y e = subst (λ k. i < k) (sym e) l

  shorter : (y : List ℚ) → length y ≡ height m → length (remove y i) ≡ height n
  shorter y e = let r = length-remove y i (within y e) in let h = height_is in omega (arith, r, h, e)

  fits_less : (c : ExactCertificate) → IsFor m c → IsFor n (less_at i c)
  fits_less (Optimal x y) f = (f.0 ∙ width_is, shorter y f.1)
  fits_less (Infeasible y) f = shorter y f
  fits_less (Clash j) f = subst (λ k. j < k) width_is f
  fits_less (Unbounded x r) f = (f.0 ∙ width_is, f.1 ∙ width_is)

  fits_more : (c : ExactCertificate) → IsFor n c → IsFor m (over_empty i c)
  fits_more (Optimal x y) f = (f.0 ∙ sym width_is, length_more m n i (row_less m i l) y 0ℚ f.1)
  fits_more (Infeasible y) f = length_more m n i (row_less m i l) y 0ℚ f
  fits_more (Clash j) f = subst (λ k. j < k) (sym width_is) f
  fits_more (Unbounded x r) f = (f.0 ∙ sym width_is, f.1 ∙ sym width_is)

  zero_less : (y : List ℚ) → length y ≡ height m → IsZeroAtFree m y → IsZeroAtFree n (remove y i)
  zero_less y e z a p f =
      part_removed y i a (within y e)
      ∙ z (skipping i a) (subst (λ k. skipping i a < k) (sym height_is) (skipping_inside (height n) i a p))
      (ap (λ (r : ExactRow). is_free r.kind) (sym (row_is a)) ∙ f)

  zero_more : (y : List ℚ) → length y ≡ height m → part y i ≡ 0ℚ → IsZeroAtFree n (remove y i) → IsZeroAtFree m y
  zero_more y e at z k p =
      by_skip (λ k. is_free (row m k).kind ≡ true → part y k ≡ 0ℚ) (height n) i (λ f. at)
      (λ a q f. sym (part_removed y i a (within y e)) ∙ z a q (ap (λ (r : ExactRow). is_free r.kind) (row_is a) ∙ f))
      (let h = height_is in omega (arith, h, l)) k (subst (λ b. k < b) height_is p)

  takes_less : (c : ExactCertificate) → IsFor m c → TakesNoFreeRow m c → TakesNoFreeRow n (less_at i c)
  takes_less (Optimal x y) f z = zero_less y f.1 z
  takes_less (Infeasible y) f z = zero_less y f z
  takes_less (Clash j) f z = tt
  takes_less (Unbounded x r) f z = tt

  takes_more : (c : ExactCertificate) → IsFor m c → IsZeroAt i c → TakesNoFreeRow n (less_at i c) → TakesNoFreeRow m c
  takes_more (Optimal x y) f at z = zero_more y f.1 at z
  takes_more (Infeasible y) f at z = zero_more y f at z
  takes_more (Clash j) f at z = tt
  takes_more (Unbounded x r) f at z = tt

  whole_again : (c : ExactCertificate) → IsFor m c → IsZeroAt i c → over_empty i (less_at i c) ≡ c
  whole_again (Optimal x y) f at =
      ap (λ y. Optimal x y) (ap (insert (remove y i) i) (sym at) ∙ insert_removed y i (within y f.1))
  whole_again (Infeasible y) f at =
      ap (λ y. Infeasible y) (ap (insert (remove y i) i) (sym at) ∙ insert_removed y i (within y f))
  whole_again (Clash j) f at = refl
  whole_again (Unbounded x r) f at = refl

  less_again : (c : ExactCertificate) → IsFor n c → less_at i (over_empty i c) ≡ c
  less_again (Optimal x y) f =
      ap (λ y. Optimal x y) (remove_inserted y i 0ℚ (subst (λ k. i ≤ k) (sym f.1) (row_less m i l).inside))
  less_again (Infeasible y) f =
      ap (λ y. Infeasible y) (remove_inserted y i 0ℚ (subst (λ k. i ≤ k) (sym f) (row_less m i l).inside))
  less_again (Clash j) f = refl
  less_again (Unbounded x r) f = refl

  module _ (free : is_free (row m i).kind ≡ true) where
    same_less : (c : ExactCertificate) → IsFor m c →
        without_free_multipliers n (less_at i c) ≡ without_free_multipliers m c
    unfolding without_free_multipliers
    same_less (Optimal x y) f = ap (λ y. Optimal x y) (but_free_removed m.rows y i f.1 l free)
    same_less (Infeasible y) f = ap (λ y. Infeasible y) (but_free_removed m.rows y i f l free)
    same_less (Clash j) f = refl
    same_less (Unbounded x r) f = refl

    zero_at : (c : ExactCertificate) → Checks m c → IsZeroAt i c
    zero_at (Optimal x y) h = free_row-optimal m i l free x y h
    zero_at (Infeasible y) h = free_row-infeasible m i l free y h
    zero_at (Clash j) h = tt
    zero_at (Unbounded x r) h = tt

    taken_at : (c : ExactCertificate) → IsFor m c → TakesNoFreeRow m c → IsZeroAt i c
    taken_at (Optimal x y) f z = z i l free
    taken_at (Infeasible y) f z = z i l free
    taken_at (Clash j) f z = tt
    taken_at (Unbounded x r) f z = tt

    checks_less : (c : ExactCertificate) → IsFor m c → Checks m c → Checks n (less_at i c)
    checks_less c f h =
        (free_row-checks m i l free (less_at i c) (fits_less c f)).1
        (subst (Checks m) (sym (whole_again c f (zero_at c h))) h)

    checks_more : (c : ExactCertificate) → IsFor m c → IsZeroAt i c → Checks n (less_at i c) → Checks m c
    checks_more c f at h =
        subst (Checks m) (whole_again c f at) ((free_row-checks m i l free (less_at i c) (fits_less c f)).0 h)

-- ---- certificates

-- where no row is free, a certificate without the multipliers of free rows is the certificate itself
none_gone : (m : Model) → NoneFrom 0 m → (c : ExactCertificate) → IsFor m c → without_free_multipliers m c ≡ c
unfolding without_free_multipliers
none_gone m none (Optimal x y) f =
    ap (λ y. Optimal x y) (but_free_none m.rows y f.1 (λ a l. none a (omega arith) l))
none_gone m none (Infeasible y) f = ap (λ y. Infeasible y) (but_free_none m.rows y f (λ a l. none a (omega arith) l))
none_gone m none (Clash j) f = refl
none_gone m none (Unbounded x r) f = refl

-- where no row is free, any multipliers are 0 at each free row
none_zero : (m : Model) (y : List ℚ) → NoneFrom 0 m → IsZeroAtFree m y
none_zero m y none i l e = let o = none i (omega arith) l in absurd (cc)

-- where no row is free, each certificate has the multiplier 0 for each free row
none_taken : (m : Model) → NoneFrom 0 m → (c : ExactCertificate) → TakesNoFreeRow m c
none_taken m none (Optimal x y) = none_zero m y none
none_taken m none (Infeasible y) = none_zero m y none
none_taken m none (Clash j) = tt
none_taken m none (Unbounded x r) = tt

abbrev Fits : Model → Model → Type 0
Fits m n = (c : ExactCertificate) → IsFor m c → IsFor n (without_free_multipliers m c)

-- a certificate that fits a model fits it without its free rows, once their multipliers are left out
fits_without : (m : Model) → Fits m (without_free_rows m)
fits_without =
    all_gone Fits (λ m none c f. subst (IsFor m) (sym (none_gone m none c f)) f)
    (λ m n i l e h c f. subst (IsFor n) (same_less m i l e c f) (h (less_at i c) (fits_less m i l c f)))

abbrev IsLess : Model → Model → Type 0
IsLess m n = (c : ExactCertificate) → IsFor m c →
    Checks m c ↔ (TakesNoFreeRow m c × Checks n (without_free_multipliers m c))

-- where no row is free, a certificate checks exactly where its free rows have 0 and the rest checks
less_same : Same IsLess
less_same m none c f = (
  λ h. (none_taken m none c, subst (Checks m) (sym (none_gone m none c f)) h),
  λ h. subst (Checks m) (none_gone m none c f) h.1,
)

-- where certificates check exactly if free rows have 0 and the rest checks once free row i is gone, so they do before
less_one : Less IsLess
less_one m n i l e h c f =
    let f' = fits_less m i l c f in
    let same = same_less m i l e c f in (
      λ k. let r = (h (less_at i c) f').0 (checks_less m i l e c f k) in
          (takes_more m i l c f (zero_at m i l e c k) r.0, subst (Checks n) same r.1),
      λ k. checks_more m i l e c f (taken_at m i l e c f k.0)
          ((h (less_at i c) f').1 (takes_less m i l c f k.0, subst (Checks n) (sym same) k.1)),
    )

pub checks_without : (m : Model) (c : ExactCertificate) → IsFor m c →
    Checks m c ↔ (TakesNoFreeRow m c × Checks (without_free_rows m) (without_free_multipliers m c))
checks_without = all_gone IsLess less_same less_one

-- a certificate without its free rows' multipliers shows of the model without these rows what it showed
shown_without : (m : Model) (c : ExactCertificate) → shown (without_free_rows m) (without_free_multipliers m c) ≡ shown m c
unfolding without_free_multipliers
shown_without m (Optimal x y) = ap known.Optimal (value_without m x)
shown_without m (Infeasible y) = refl
shown_without m (Clash j) = refl
shown_without m (Unbounded x r) = refl

pub fits_and_shows : (m : Model) (c : ExactCertificate) → IsFor m c →
    IsFor (without_free_rows m) (without_free_multipliers m c)
    × (shown (without_free_rows m) (without_free_multipliers m c) ≡ shown m c)
fits_and_shows m c f = (fits_without m c f, shown_without m c)

abbrev Comes : Model → Model → Type 0
Comes m n = (c : ExactCertificate) → IsFor n c → Checks n c →
    (whole : ExactCertificate) × IsFor m whole × Checks m whole × (without_free_multipliers m whole ≡ c)

-- a certificate that comes from one of the model without free row i comes from one of the model itself
comes_one : Less Comes
comes_one m n i l e h c f k =
    let w = h c f k in
    let fits = fits_more m i l w.0 w.1 in (
      over_empty i w.0,
      fits,
      (free_row-checks m i l e w.0 w.1).0 w.2,
      sym (same_less m i l e (over_empty i w.0) fits)
          ∙ ap (without_free_multipliers (without_row m i)) (less_again m i l w.0 w.1) ∙ w.3,
    )

pub comes_from : (m : Model) (c : ExactCertificate) → IsFor (without_free_rows m) c → Checks (without_free_rows m) c →
    (whole : ExactCertificate) × IsFor m whole × Checks m whole × (without_free_multipliers m whole ≡ c)
comes_from = all_gone Comes (λ m none c f k. (c, f, k, none_gone m none c f)) comes_one
