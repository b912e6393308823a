-- Sums taken entry by entry over the columns of a model.
--
-- `inside_at`: the row of an entry of a column is below the number of rows.
-- `column_step`: adding an entry's coefficient times x to its row's sum leaves each sum with its remaining entry as it
--   was.
-- `column_end`: when no entry is left, each row's sum has grown by its coefficient times x.
-- `sums_more`: adding column j to the rows' sums over the first j columns gives those over j + 1.
-- `weigh_step`: adding an entry's coefficient times its multiplier leaves the sum with the remaining products as it
--   was.
-- `weigh_end`: when no entry is left, the sum of coefficients times multipliers is complete.
-- `part_is`: a number read inside a list is the definition's `part` of the list there.
use Rattle.std.proofs.Common.{◌≡◌, ◌≢◌, ℕ, zero, suc, ◌+◌, ◌<◌, ◌≤◌, List, [], ◌∷◌, length, drop, get_or, set, All, cond, eqb}
use Rattle.std.proofs.Common.{refl, sym, ap, ap₂, ◌∙◌, subst, arith, ⊎_elim, add-one, length-set, length-drop, get_or-drop}
use Rattle.std.proofs.Common.{get_or-set_same, get_or-set_other}
use Rattle.std.proofs.lemmas.Bool.{cases_eq, eq-eqb, ne_eqb}
use Rattle.std.proofs.lemmas.List.{drop_more, drop_all, get_or_default}
use Rattle.std.proofs.lemmas.List.Elements.{All-head, All-tail}
use Rattle.std.specs.List.{AllPairs}
use Rattle.spec_exact.specs.Fraction.{ℚ, 0ℚ, ◌+ℚ◌, ◌*ℚ◌}
use Rattle.spec_exact.specs.Sums.{sum_below}
use Rattle.spec_exact.proofs.Field.{+ℚ_zero, +ℚ_comm, +ℚ_assoc, *ℚ_comm, *ℚ_zero}
use Rattle.spec_exact.proofs.Ruleset.{zero-*ℚ}
use Rattle.spec_exact.proofs.Sums.{sum_below_same, sum_below_none}
use Rattle.spec_model.specs.Kept.{AreEntries}
use Rattle.spec_model.specs.Model.{Model, height, column, coefficient, entry_of, part}

-- ---- the entry of a row

-- the entry of row i from place k on is the one at k where that is of row i, and else the one behind
next_is : (es : List (ℕ × ℚ)) (k i : ℕ) (e : ℕ × ℚ) → k < length es → e ≡ get_or es k e →
    entry_of (drop k es) i ≡ cond (eqb e.0 i) e.1 (entry_of (drop (k + 1) es) i)
next_is es k i e l h =
    ap (λ xs. entry_of xs i) (drop_more es k e l)
    ∙ ap (λ (x : ℕ × ℚ). cond (eqb x.0 i) x.1 (entry_of (drop (k + 1) es) i)) (sym h)

-- where the entry at place k is of row i, it is the entry of row i from k on
entry_here : (es : List (ℕ × ℚ)) (k i : ℕ) (e : ℕ × ℚ) → k < length es → e ≡ get_or es k e → e.0 ≡ i →
    entry_of (drop k es) i ≡ e.1
entry_here es k i e l h q =
    next_is es k i e l h ∙ ap (λ t. cond t e.1 (entry_of (drop (k + 1) es) i)) (eq-eqb e.0 i q)

-- where the entry at place k is of another row, the entry of row i from k on is the one behind k
entry_on : (es : List (ℕ × ℚ)) (k i : ℕ) (e : ℕ × ℚ) → k < length es → e ≡ get_or es k e → ¬ (e.0 ≡ i) →
    entry_of (drop k es) i ≡ entry_of (drop (k + 1) es) i
entry_on es k i e l h o =
    next_is es k i e l h ∙ ap (λ t. cond t e.1 (entry_of (drop (k + 1) es) i)) (ne_eqb e.0 i o)

-- where all entries are of later rows, row i has the entry 0
none_behind : (i : ℕ) (es : List (ℕ × ℚ)) → All (λ e. i < e.0) es → entry_of es i ≡ 0ℚ
none_behind i [] h = refl
none_behind i (e ∷ es) h =
    let l : i < e.0 = All-head (λ e. i < e.0) e es h in
    ap (λ t. cond t e.1 (entry_of es i)) (ne_eqb e.0 i (λ q. omega arith))
    ∙ none_behind i es (All-tail (λ e. i < e.0) e es h)

-- the row of an entry has none behind it
none_after : (es : List (ℕ × ℚ)) (k : ℕ) (e : ℕ × ℚ) → AllPairs (λ d e. d.0 < e.0) es → k < length es → e ≡ get_or es k e →
    entry_of (drop (k + 1) es) e.0 ≡ 0ℚ
none_after es k e pairs h q = none_behind e.0 (drop (k + 1) es) behind
  where
    behind : All (λ f. e.0 < f.0) (drop (k + 1) es)
    behind = λ i d l.
        let here : get_or es k d ≡ e = get_or_default es k d e h ∙ sym q in
        let there : get_or (drop (k + 1) es) i d ≡ get_or es (k + 1 + i) d = get_or-drop (k + 1) es i d in
        subst (λ (f : ℕ × ℚ). e.0 < f.0) (sym there)
        (subst (λ (f : ℕ × ℚ). f.0 < (get_or es (k + 1 + i) d).0) here
        (pairs k (k + 1 + i) d (omega (arith, l, length-drop (k + 1) es)) (omega (arith, l, length-drop (k + 1) es))))

pub inside_at : (n : ℕ) (es : List (ℕ × ℚ)) (k : ℕ) (e : ℕ × ℚ) → AreEntries n es → k < length es → e ≡ get_or es k e → e.0 < n
inside_at n es k e a h q = subst (λ (f : ℕ × ℚ). f.0 < n) (sym q) (a.inside k e h)

-- ---- a column's coefficients times its number, onto the sums of their rows
pub column_step : (n : ℕ) (es : List (ℕ × ℚ)) (k : ℕ) (e : ℕ × ℚ) (x v : ℚ) (old now new : List ℚ) → AreEntries n es →
    k < length es → e ≡ get_or es k e → new ≡ set now e.0 v → v ≡ part now e.0 +ℚ e.1 *ℚ x →
    (length now ≡ n)
    × ((i : ℕ) → i < n → part now i +ℚ entry_of (drop k es) i *ℚ x ≡ part old i +ℚ entry_of es i *ℚ x) →
    (length new ≡ n)
    × ((i : ℕ) → i < n → part new i +ℚ entry_of (drop (k + 1) es) i *ℚ x ≡ part old i +ℚ entry_of es i *ℚ x)
column_step n es k e x v old now new a h q s t w = (
  ap length s ∙ length-set now e.0 v ∙ w.0,
  λ i l. ⊎_elim (at_row i l) (off_row i l) (cases_eq i e.0),
)
  where
    at_row : (i : ℕ) → i < n → i ≡ e.0 →
        part new i +ℚ entry_of (drop (k + 1) es) i *ℚ x ≡ part old i +ℚ entry_of es i *ℚ x
    at_row i l g =
        ap₂ (λ y z. y +ℚ z *ℚ x)
        (ap (λ us. part us i) s ∙ ap (λ r. part (set now e.0 v) r) g
        ∙ get_or-set_same now e.0 v 0ℚ (omega (arith, inside_at n es k e a h q, w.0)) ∙ t)
        (ap (entry_of (drop (k + 1) es)) g ∙ none_after es k e a.ascending h q)
        ∙ ap (λ z. part now e.0 +ℚ e.1 *ℚ x +ℚ z) (zero-*ℚ x) ∙ +ℚ_zero _
        ∙ ap (λ r. part now r +ℚ e.1 *ℚ x) (sym g)
        ∙ ap (λ z. part now i +ℚ z *ℚ x) (sym (entry_here es k i e h q (sym g)))
        ∙ w.1 i l

    off_row : (i : ℕ) → i < n → i ≢ e.0 →
        part new i +ℚ entry_of (drop (k + 1) es) i *ℚ x ≡ part old i +ℚ entry_of es i *ℚ x
    off_row i l o =
        ap₂ (λ y z. y +ℚ z *ℚ x) (ap (λ us. part us i) s ∙ get_or-set_other now e.0 i v 0ℚ o)
        (sym (entry_on es k i e h q (λ g. o (sym g))))
        ∙ w.1 i l

pub column_end : (n : ℕ) (es : List (ℕ × ℚ)) (k : ℕ) (x : ℚ) (old now : List ℚ) → length es ≤ k →
    ((i : ℕ) → i < n → part now i +ℚ entry_of (drop k es) i *ℚ x ≡ part old i +ℚ entry_of es i *ℚ x) →
    (i : ℕ) → i < n → part now i ≡ part old i +ℚ entry_of es i *ℚ x
column_end n es k x old now h w i l =
    sym (+ℚ_zero (part now i)) ∙ ap (λ z. part now i +ℚ z) (sym (zero-*ℚ x))
    ∙ ap (λ ds. part now i +ℚ entry_of ds i *ℚ x) (sym (drop_all k es h)) ∙ w i l

pub sums_more : (m : Model) (z now new : List ℚ) (j : ℕ) (es : List (ℕ × ℚ)) (x : ℚ) → es ≡ (column m j).entries →
    x ≡ part z j → length new ≡ length now →
    ((i : ℕ) → i < length now → part new i ≡ part now i +ℚ entry_of es i *ℚ x) →
    (length now ≡ height m)
    × ((i : ℕ) → i < height m → part now i ≡ sum_below j (λ k. coefficient m i k *ℚ part z k)) →
    (length new ≡ height m)
    × ((i : ℕ) → i < height m → part new i ≡ sum_below (j + 1) (λ k. coefficient m i k *ℚ part z k))
sums_more m z now new j es x e f a b w = (
  a ∙ w.0,
  λ i l. b i (omega (arith, l, w.0)) ∙ ap₂ (λ s (ds : List (ℕ × ℚ)). s +ℚ entry_of ds i *ℚ x) (w.1 i l) e
      ∙ ap (λ y. sum_below j (λ k. coefficient m i k *ℚ part z k) +ℚ coefficient m i j *ℚ y) f
      ∙ ap (λ n. sum_below n (λ k. coefficient m i k *ℚ part z k)) (sym (add-one j)),
)

-- ---- a column's coefficients times the numbers of their rows

-- the last two of three numbers that are added may change places
swap_last : (a b c : ℚ) → a +ℚ b +ℚ c ≡ a +ℚ c +ℚ b
swap_last a b c = +ℚ_assoc a b c ∙ ap (λ z. a +ℚ z) (+ℚ_comm b c) ∙ sym (+ℚ_assoc a c b)

-- where f and g differ at r alone, where g is 0, the weighted sum of f is that of g plus the term of r
taken_out : (n r : ℕ) (y f g : ℕ → ℚ) → r < n → g r ≡ 0ℚ → ((i : ℕ) → i ≢ r → f i ≡ g i) →
    sum_below n (λ i. y i *ℚ f i) ≡ sum_below n (λ i. y i *ℚ g i) +ℚ f r *ℚ y r
taken_out zero r y f g h z s = absurd (omega (arith, h))
taken_out (suc n) r y f g h z s =
    ⊎_elim last (λ o. before o (taken_out n r y f g (omega (arith, h, o)) z s)) (cases_eq r n)
  where
    whole : ℚ
    whole = sum_below n (λ i. y i *ℚ g i)

    last : r ≡ n → sum_below n (λ i. y i *ℚ f i) +ℚ y n *ℚ f n ≡ whole +ℚ y n *ℚ g n +ℚ f r *ℚ y r
    last e =
        ap₂ (λ a b. a +ℚ b)
        (sum_below_same n (λ i. y i *ℚ f i) (λ i. y i *ℚ g i) (λ i l. ap (λ b. y i *ℚ b) (s i (λ k. omega (arith, l, k, e)))))
        (*ℚ_comm (y n) (f n))
        ∙ ap₂ (λ a k. a +ℚ f k *ℚ y k)
        (sym (ap (λ b. whole +ℚ y n *ℚ b) (ap g (sym e) ∙ z) ∙ ap (λ b. whole +ℚ b) (*ℚ_zero (y n)) ∙ +ℚ_zero whole))
        (sym e)

    before : r ≢ n → sum_below n (λ i. y i *ℚ f i) ≡ whole +ℚ f r *ℚ y r →
        sum_below n (λ i. y i *ℚ f i) +ℚ y n *ℚ f n ≡ whole +ℚ y n *ℚ g n +ℚ f r *ℚ y r
    before o e =
        ap₂ (λ a b. a +ℚ b) e (ap (λ b. y n *ℚ b) (s n (λ k. o (sym k))))
        ∙ swap_last whole (f r *ℚ y r) (y n *ℚ g n)

pub weigh_step : (n : ℕ) (es : List (ℕ × ℚ)) (y : List ℚ) (k : ℕ) (e : ℕ × ℚ) (x s more t : ℚ) → AreEntries n es →
    k < length es → e ≡ get_or es k e → x ≡ part y e.0 → more ≡ s +ℚ e.1 *ℚ x →
    s +ℚ sum_below n (λ i. part y i *ℚ entry_of (drop k es) i) ≡ t →
    more +ℚ sum_below n (λ i. part y i *ℚ entry_of (drop (k + 1) es) i) ≡ t
weigh_step n es y k e x s more t a h q f g w =
    ap (λ z. z +ℚ rest) (g ∙ ap (λ z. s +ℚ e.1 *ℚ z) f) ∙ swap_last s (e.1 *ℚ part y e.0) rest
    ∙ +ℚ_assoc s rest (e.1 *ℚ part y e.0)
    ∙ ap (λ z. s +ℚ (rest +ℚ z *ℚ part y e.0)) (sym (entry_here es k e.0 e h q refl))
    ∙ ap (λ z. s +ℚ z)
    (sym (taken_out n e.0 (part y) (entry_of (drop k es)) (entry_of (drop (k + 1) es)) (inside_at n es k e a h q)
    (none_after es k e a.ascending h q) (λ i o. entry_on es k i e h q (λ z. o (sym z)))))
    ∙ w
  where
    rest : ℚ
    rest = sum_below n (λ i. part y i *ℚ entry_of (drop (k + 1) es) i)

pub weigh_end : (n : ℕ) (es : List (ℕ × ℚ)) (y : List ℚ) (k : ℕ) (s t : ℚ) → length es ≤ k →
    s +ℚ sum_below n (λ i. part y i *ℚ entry_of (drop k es) i) ≡ t → s ≡ t
weigh_end n es y k s t h w =
    sym (+ℚ_zero s)
    ∙ ap (λ z. s +ℚ z) (sym (sum_below_none n (λ i. part y i *ℚ entry_of [] i) (λ i _. *ℚ_zero (part y i))))
    ∙ ap (λ (ds : List (ℕ × ℚ)). s +ℚ sum_below n (λ i. part y i *ℚ entry_of ds i)) (sym (drop_all k es h))
    ∙ w

-- ---- a number of a list
pub part_is : (z : List ℚ) (k : ℕ) (x : ℚ) → k < length z → x ≡ get_or z k x → x ≡ part z k
part_is z k x h e = e ∙ get_or_default z k x 0ℚ h
