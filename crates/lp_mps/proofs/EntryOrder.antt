-- Entries put one by one at the places of their rows are in the order of a stable sort by rows.
--
-- `put_pushed`: inserting a list of entries with one more at its end is inserting that entry last.
-- `sorted_in_order`: a stable sort of entries by their rows gives the entries inserted one by one at their places.
use Rattle.std.proofs.Common.{◌≡◌, ◌≢◌, ℕ, zero, suc, ◌<◌, ◌≤◌, Bool, true, false, cond, ltb, eqb, List, []}
use Rattle.std.proofs.Common.{◌∷◌, ◌++◌, length, drop, get_or, Less, Equal, Greater, refl, sym, ap, ap₂, ◌∙◌}
use Rattle.std.proofs.Common.{arith}
use borrow.Author.Tests.{lt-ltb, le-ltb, ltb-true, ltb-false, eqb-true, eqb-false}
use Rattle.std.specs.List.{filter}
use Rattle.std.specs.List.Sorted.{IsNonDecreasingBy, IsStableByKey, ties}
use Rattle.std.specs.Ordering.{is_lt, nat_cmp}
use Rattle.std.proofs.lemmas.List.{append-nil, append_assoc}
use Rattle.std.proofs.lemmas.List.Elements.{filter-append}
use Rattle.spec_exact.specs.Fraction.{ℚ}
use Rattle.spec_mps.specs.Reader.{put_entry}
use Rattle.lp_mps.specs.InOrder.{put_all, in_order}

abbrev Entry : Type 0
Entry = ℕ × ℚ

abbrev Entries : Type 0
Entries = List Entry

abbrev IsOrdered : Entries → Type 0
IsOrdered = IsNonDecreasingBy (λ e. e.0)

-- one more that is put in
pub put_pushed : (placed es : Entries) (e : Entry) →
    put_all placed (es ++ e ∷ []) ≡ put_entry e.0 e.1 (put_all placed es)
put_pushed placed [] e = refl
put_pushed placed (d ∷ es) e = put_pushed (put_entry d.0 d.1 placed) es e

-- ---- the order

-- each is at least n, and they are in order
record IsAbove (n : ℕ) (es : Entries) : Type 0 where
  above : (j : ℕ) (d : Entry) → j < length es → n ≤ (get_or es j d).0
  order : IsOrdered es

-- entries behind a first one in order are in order, of its row or later ones
first_above : (e : Entry) (es : Entries) → IsOrdered (e ∷ es) → IsAbove e.0 es
first_above e es h =
    record {
      above = λ j d l. h 0 (suc j) d (omega arith) (omega arith);
      order = λ i j d l m. h (suc i) (suc j) d (omega arith) (omega arith);
    }

-- an entry in front of ordered entries of its row or later ones makes ordered entries
in_front : (e : Entry) (es : Entries) → IsAbove e.0 es → IsOrdered (e ∷ es)
in_front e es h zero zero d l m = omega arith
in_front e es h zero (suc j) d l m = h.above j d (omega arith)
in_front e es h (suc i) zero d l m = absurd (omega arith)
in_front e es h (suc i) (suc j) d l m = h.order i j d (omega arith) (omega arith)

-- a first entry of row n or later, before ordered ones of its row or later, makes them all of row n or later
front_above : (n : ℕ) (x : Entry) (es : Entries) → n ≤ x.0 → IsAbove x.0 es → IsAbove n (x ∷ es)
front_above n x es l h = record { above = by; order = in_front x es h }
  where
    by : (j : ℕ) (d : Entry) → j < length (x ∷ es) → n ≤ (get_or (x ∷ es) j d).0
    by zero d m = l
    by (suc j) d m = let g : x.0 ≤ (get_or es j d).0 = h.above j d (omega arith) in omega arith

-- entries in order are of the first one's row or later ones
all_above : (e : Entry) (es : Entries) → IsOrdered (e ∷ es) → IsAbove e.0 (e ∷ es)
all_above e es h = front_above e.0 e es (omega arith) (first_above e es h)

-- an entry of row n or later, inserted among such entries, leaves entries of row n or later, in order
put-above : (n i : ℕ) (v : ℚ) → n ≤ i → (es : Entries) → IsAbove n es → IsAbove n (put_entry i v es)
put-above n i v l [] h =
    front_above n (i, v) [] l (record { above = λ j d m. absurd (omega arith); order = h.order })
put-above n i v l (e ∷ es) h =
    go (ltb i e.0) refl (first_above e es h.order) (h.above 0 e (omega arith))
    (λ m behind. put-above e.0 i v m es behind)
  where
    go : (t : Bool) → ltb i e.0 ≡ t → IsAbove e.0 es → n ≤ e.0 →
        (e.0 ≤ i → IsAbove e.0 es → IsAbove e.0 (put_entry i v es)) →
        IsAbove n (cond t ((i, v) ∷ e ∷ es) (e ∷ put_entry i v es))
    go true q behind low more =
        let later : i < e.0 = ltb-true i e.0 q in
        front_above n (i, v) (e ∷ es) l (front_above i e es (omega arith) behind)
    go false q behind low more = front_above n e (put_entry i v es) low (more (ltb-false i e.0 q) behind)

-- an entry inserted among ordered entries leaves them in order
put-ordered : (i : ℕ) (v : ℚ) (es : Entries) → IsOrdered es → IsOrdered (put_entry i v es)
put-ordered i v es h = (put-above 0 i v (omega arith) es (record { above = λ j d l. omega arith; order = h })).order

-- entries inserted one by one among ordered entries leave them in order
all-ordered : (placed es : Entries) → IsOrdered placed → IsOrdered (put_all placed es)
all-ordered placed [] h = h
all-ordered placed (e ∷ es) h = all-ordered (put_entry e.0 e.1 placed) es (put-ordered e.0 e.1 placed h)

-- a list without entries is in order
none-ordered : IsOrdered []
none-ordered i j d l m = absurd (omega arith)

-- ---- entries of the same row

abbrev tie : Entry → Entry → Bool
tie = ties (λ x y. is_lt (nat_cmp x.0 y.0))

-- comparing two numbers gives less exactly where the first is below the second
before_is : (a b : ℕ) → is_lt (nat_cmp a b) ≡ ltb a b
before_is a b = go (ltb a b) (eqb a b)
  where
    go : (t u : Bool) → is_lt (cond t Less (cond u Equal Greater)) ≡ t
    go true u = refl
    go false true = refl
    go false false = refl

-- an entry of the same row is a tie
tie_same : (x e : Entry) → x.0 ≡ e.0 → tie x e ≡ true
tie_same x e h =
    rw (before_is x.0 e.0, before_is e.0 x.0, le-ltb x.0 e.0 (omega (arith, h)), le-ltb e.0 x.0 (omega (arith, h)))
    refl

-- an entry of a later row is no tie
tie_later : (x e : Entry) → x.0 < e.0 → tie x e ≡ false
tie_later x e h = rw (before_is x.0 e.0, lt-ltb x.0 e.0 h) refl

-- an entry of an earlier row is no tie
tie_earlier : (x e : Entry) → e.0 < x.0 → tie x e ≡ false
tie_earlier x e h =
    rw (before_is x.0 e.0, before_is e.0 x.0, le-ltb x.0 e.0 (omega (arith, h)), lt-ltb e.0 x.0 h) refl

-- an entry of another row is no tie
tie_other : (x e : Entry) → x.0 ≢ e.0 → tie x e ≡ false
tie_other x e h = go (ltb x.0 e.0) refl
  where
    go : (t : Bool) → ltb x.0 e.0 ≡ t → tie x e ≡ false
    go true q = tie_later x e (ltb-true x.0 e.0 q)
    go false q = tie_earlier x e (let l : e.0 ≤ x.0 = ltb-false x.0 e.0 q in grind (arith, h, l))

-- among entries of later rows none is a tie
none_tie : (x : Entry) (n : ℕ) → x.0 < n → (es : Entries) → IsAbove n es → filter (tie x) es ≡ []
none_tie x n l [] h = refl
none_tie x n l (e ∷ es) h =
    let low : n ≤ e.0 = h.above 0 e (omega arith) in
    rw (tie_later x e (omega arith)) (none_tie x e.0 (omega arith) es (first_above e es h.order))

-- the ties of x are the same with an entry before others of later rows as with it behind them
filter_front : (x d : Entry) (n : ℕ) → d.0 < n → (es : Entries) → IsAbove n es →
    filter (tie x) (d ∷ es) ≡ filter (tie x) es ++ filter (tie x) (d ∷ [])
filter_front x d n l es h = go (eqb x.0 d.0) refl
  where
    go : (t : Bool) → eqb x.0 d.0 ≡ t → filter (tie x) (d ∷ es) ≡ filter (tie x) es ++ filter (tie x) (d ∷ [])
    go true q =
        let same : x.0 ≡ d.0 = eqb-true x.0 d.0 q in
        let low : x.0 < n = omega (arith, same, l) in
        rw (tie_same x d same, none_tie x n low es h) refl
    go false q = rw (tie_other x d (eqb-false x.0 d.0 q)) (sym (append-nil (filter (tie x) es)))

-- an entry that a test keeps in front of two joined lists is kept in front of the first one
joined : (t : Bool) (e : Entry) (es more : Entries) →
    cond t (e ∷ (es ++ more)) (es ++ more) ≡ cond t (e ∷ es) es ++ more
joined true e es more = refl
joined false e es more = refl

-- of one row, an entry that is inserted comes after those that are there
filter_put : (x : Entry) (i : ℕ) (v : ℚ) (es : Entries) → IsOrdered es →
    filter (tie x) (put_entry i v es) ≡ filter (tie x) es ++ filter (tie x) ((i, v) ∷ [])
filter_put x i v [] h = refl
filter_put x i v (e ∷ es) h = go (ltb i e.0) refl (filter_put x i v es (first_above e es h).order)
  where
    go : (t : Bool) → ltb i e.0 ≡ t →
        filter (tie x) (put_entry i v es) ≡ filter (tie x) es ++ filter (tie x) ((i, v) ∷ []) →
        filter (tie x) (cond t ((i, v) ∷ e ∷ es) (e ∷ put_entry i v es))
        ≡ filter (tie x) (e ∷ es) ++ filter (tie x) ((i, v) ∷ [])
    go true q more = filter_front x (i, v) e.0 (ltb-true i e.0 q) (e ∷ es) (all_above e es h)
    go false q more =
        ap (λ fs. cond (tie x e) (e ∷ fs) fs) more
        ∙ joined (tie x e) e (filter (tie x) es) (filter (tie x) ((i, v) ∷ []))

-- of one row, entries inserted one by one come after those that are there, in their order
filter_all : (x : Entry) (placed es : Entries) → IsOrdered placed →
    filter (tie x) (put_all placed es) ≡ filter (tie x) placed ++ filter (tie x) es
filter_all x placed [] h = sym (append-nil (filter (tie x) placed))
filter_all x placed (e ∷ es) h =
    filter_all x (put_entry e.0 e.1 placed) es (put-ordered e.0 e.1 placed h)
    ∙ ap (λ fs. fs ++ filter (tie x) es) (filter_put x e.0 e.1 placed h)
    ∙ append_assoc (filter (tie x) placed) (filter (tie x) (e ∷ [])) (filter (tie x) es)
    ∙ ap (λ fs. filter (tie x) placed ++ fs) (sym (filter-append (tie x) (e ∷ []) es))

-- ---- lists in order that have the same entries of each row, in the same order

-- an entry is a tie of itself, so it stays first among its ties
own : (x : Entry) (es : Entries) → filter (tie x) (x ∷ es) ≡ x ∷ filter (tie x) es
own x es = rw (tie_same x x refl) refl

-- where all entries of a list are of row n or later, and one of them has the row of x, this row is n or later
first_low : (x : Entry) (n : ℕ) (es : Entries) → IsAbove n es → (y : Entry) (ys : Entries) →
    filter (tie x) es ≡ y ∷ ys → n ≤ x.0
first_low x n es h y ys e = go (ltb x.0 n) refl
  where
    go : (t : Bool) → ltb x.0 n ≡ t → n ≤ x.0
    go true q =
        absurd (let long : 0 ≡ length (y ∷ ys) = ap length (sym (none_tie x n (ltb-true x.0 n q) es h) ∙ e) in
        omega (arith, long))
    go false q = ltb-false x.0 n q

-- where two lists with the same first entry have the same ties of x, so have the lists behind it
rest_same : (x u v : Entry) (us vs : Entries) → u ≡ v → filter (tie x) (u ∷ us) ≡ filter (tie x) (v ∷ vs) →
    filter (tie x) us ≡ filter (tie x) vs
rest_same x u v us vs same e = go (tie x u) (e ∙ ap (λ z. filter (tie x) (z ∷ vs)) (sym same))
  where
    go : (t : Bool) →
        cond t (u ∷ filter (tie x) us) (filter (tie x) us) ≡ cond t (u ∷ filter (tie x) vs) (filter (tie x) vs) →
        filter (tie x) us ≡ filter (tie x) vs
    go true e = ap (drop 1) e
    go false e = e

-- two lists in order that have the same ties of each entry are the same
same_entries : (us vs : Entries) → IsOrdered us → IsOrdered vs →
    ((x : Entry) → filter (tie x) us ≡ filter (tie x) vs) → us ≡ vs
same_entries [] [] g h f = refl
same_entries [] (v ∷ vs) g h f =
    absurd (let long : 0 ≡ length (v ∷ filter (tie v) vs) = ap length (f v ∙ own v vs) in omega (arith, long))
same_entries (u ∷ us) [] g h f =
    absurd (let long : 0 ≡ length (u ∷ filter (tie u) us) = ap length (sym (f u) ∙ own u us) in omega (arith, long))
same_entries (u ∷ us) (v ∷ vs) g h f =
    let low : u.0 ≤ v.0 = first_low v u.0 (u ∷ us) (all_above u us g) v (filter (tie v) vs) (f v ∙ own v vs) in
    let high : v.0 ≤ u.0 =
    first_low u v.0 (v ∷ vs) (all_above v vs h) u (filter (tie u) us) (sym (f u) ∙ own u us) in
    let rows : u.0 ≡ v.0 = omega (arith, low, high) in
    let heads : u ∷ filter (tie u) us ≡ v ∷ filter (tie u) vs =
    sym (own u us) ∙ f u ∙ rw (tie_same u v rows) refl in
    let same : u ≡ v = ap (λ es. get_or es 0 u) heads in
    ap₂ (λ x xs. x ∷ xs) same
    (same_entries us vs (first_above u us g).order (first_above v vs h).order
    (λ x. rest_same x u v us vs same (f x)))

-- what a stable sort by rows leaves
pub sorted_in_order : (xs ys : Entries) → IsOrdered ys → IsStableByKey (λ e. e.0) nat_cmp xs ys → ys ≡ in_order xs
sorted_in_order xs ys up stable =
    same_entries ys (in_order xs) up (all-ordered [] xs none-ordered)
    (λ x. stable x ∙ sym (filter_all x [] xs none-ordered))
