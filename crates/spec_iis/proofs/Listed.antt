-- Sides that are listed, in lists that are put together or filtered.
--
-- `listed_holds`: what holds of all sides of a list holds of a side that is listed.
-- `listed_first`: the first side of a list is listed.
-- `all_listed`: each side of a list is listed in it.
-- `listed_left`: a side that is listed in one list is listed with another list behind it.
-- `listed_right`: a side that is listed in one list is listed with another list before it.
-- `among_both`: sides without the one between are among those with it.
-- `among_without`: where each of a few sides is in a list and none of them is x, each is in the list without x.
-- `among_filter`: the sides that pass a test are among all of them.
-- `listed_filter`: a side that is listed and passes a test is listed among those that pass.
use Rattle.std.proofs.Common.{◌≡◌, ℕ, Bool, true, false, cond, eqb, List, [], ◌∷◌, ◌++◌, All, get_or}
use Rattle.std.proofs.Common.{refl, sym, ◌∙◌, subst, eq-eqb, ◌&&◌, ◌||◌}
use borrow.Author.Tests.{eqb-true}
use Rattle.std.specs.List.{list_any, filter}
use Rattle.std.proofs.lemmas.List.Elements.{All-nil, All-cons, All-head, All-tail, All-weaker, All-append, All-filter}
use Rattle.std.proofs.lemmas.Bool.{or_right, and_parts}
use Rattle.spec_iis.specs.declared.side.Side.{Side}
use Rattle.spec_iis.specs.Sides.{same_way, same_side, is_listed, Among}

-- ---- the same side

-- two flags that test as the same are the same
same_way_is : (a b : Bool) → same_way a b ≡ true → a ≡ b
same_way_is true b h = sym h
same_way_is false true h = h
same_way_is false false h = refl

-- a flag tests as the same as itself
same_way_refl : (a : Bool) → same_way a a ≡ true
same_way_refl true = refl
same_way_refl false = refl

-- the upper or lower side, by the second flag, of row i if the first flag says so, else of column i
abbrev side : Bool → ℕ → Bool → Side
side r i u = record { row = r; at = i; upper = u }

-- two sides that test as the same are the same
same_side_is : (s t : Side) → same_side s t ≡ true → s ≡ t
same_side_is s t h =
    let a : s.row ≡ t.row = same_way_is s.row t.row (and_parts _ _ h).0 in
    let rest : eqb s.at t.at && same_way s.upper t.upper ≡ true = (and_parts (same_way s.row t.row) _ h).1 in
    let b : s.at ≡ t.at = eqb-true s.at t.at (and_parts _ _ rest).0 in
    let c : s.upper ≡ t.upper = same_way_is s.upper t.upper (and_parts (eqb s.at t.at) _ rest).1 in
    joined s.row t.row s.at t.at s.upper t.upper a b c
  where
    joined : (r q : Bool) (i j : ℕ) (u v : Bool) → r ≡ q → i ≡ j → u ≡ v → side r i u ≡ side q j v
    joined r q i j u v e f g = cc

-- a side tests as the same as itself
same_side_refl : (s : Side) → same_side s s ≡ true
same_side_refl s = rw (same_way_refl s.row, eq-eqb s.at s.at refl, same_way_refl s.upper) refl

-- ---- listed
pub listed_holds : (P : Side → Type 0) (sides : List Side) (s : Side) → All P sides → is_listed sides s ≡ true → P s
unfolding is_listed
listed_holds P [] s h e = absurd (let g : false ≡ true = e in cc)
listed_holds P (t ∷ sides) s h e = by (same_side s t) refl (listed_holds P sides s (All-tail P t sides h)) e
  where
    by : (b : Bool) → same_side s t ≡ b → (list_any (same_side s) sides ≡ true → P s) →
        b || list_any (same_side s) sides ≡ true → P s
    by true f rest g = subst P (sym (same_side_is s t f)) (All-head P t sides h)
    by false f rest g = rest g

pub listed_first : (s : Side) (sides : List Side) → is_listed (s ∷ sides) s ≡ true
unfolding is_listed
listed_first s sides = rw (same_side_refl s) refl

-- a side that is listed is listed with one more side in front
listed_more : (t : Side) (sides : List Side) (s : Side) → is_listed sides s ≡ true → is_listed (t ∷ sides) s ≡ true
unfolding is_listed
listed_more t sides s h = or_right (same_side s t) (list_any (same_side s) sides) h

pub all_listed : (sides : List Side) → All (λ s. is_listed sides s ≡ true) sides
all_listed [] = All-nil (λ s. is_listed [] s ≡ true)
all_listed (t ∷ sides) =
    All-cons (λ s. is_listed (t ∷ sides) s ≡ true) t sides (listed_first t sides)
    (All-weaker (λ s. is_listed sides s ≡ true) (λ s. is_listed (t ∷ sides) s ≡ true) (listed_more t sides) sides
    (all_listed sides))

-- ---- lists put together
pub listed_left : (xs ys : List Side) (s : Side) → is_listed xs s ≡ true → is_listed (xs ++ ys) s ≡ true
unfolding is_listed
listed_left [] ys s h = absurd (let g : false ≡ true = h in cc)
listed_left (x ∷ xs) ys s h = by (same_side s x) (listed_left xs ys s) h
  where
    by : (b : Bool) → (list_any (same_side s) xs ≡ true → list_any (same_side s) (xs ++ ys) ≡ true) →
        b || list_any (same_side s) xs ≡ true → b || list_any (same_side s) (xs ++ ys) ≡ true
    by true rest g = refl
    by false rest g = rest g

pub listed_right : (xs ys : List Side) (s : Side) → is_listed ys s ≡ true → is_listed (xs ++ ys) s ≡ true
listed_right [] ys s h = h
listed_right (x ∷ xs) ys s h = listed_more x (xs ++ ys) s (listed_right xs ys s h)

-- the sides of a list are among those of the list with another behind
among_left : (xs ys : List Side) → Among xs (xs ++ ys)
among_left xs ys =
    All-weaker (λ s. is_listed xs s ≡ true) (λ s. is_listed (xs ++ ys) s ≡ true) (listed_left xs ys) xs (all_listed xs)

-- without the one between
pub among_both : (xs : List Side) (x : Side) (ys : List Side) → Among (xs ++ ys) (xs ++ x ∷ ys)
among_both xs x ys =
    All-append (λ s. is_listed (xs ++ x ∷ ys) s ≡ true) xs ys (among_left xs (x ∷ ys))
    (All-weaker (λ s. is_listed (x ∷ ys) s ≡ true) (λ s. is_listed (xs ++ x ∷ ys) s ≡ true) (listed_right xs (x ∷ ys)) ys
    (All-weaker (λ s. is_listed ys s ≡ true) (λ s. is_listed (x ∷ ys) s ≡ true) (listed_more x ys) ys (all_listed ys)))

-- a side that is in a list and differs from x is in the list without x
listed_between : (xs : List Side) (x : Side) (ys : List Side) (s : Side) → same_side s x ≡ false →
    is_listed (xs ++ x ∷ ys) s ≡ true → is_listed (xs ++ ys) s ≡ true
unfolding is_listed
listed_between [] x ys s f h = by (same_side s x) f h
  where
    by : (b : Bool) → b ≡ false → b || list_any (same_side s) ys ≡ true → list_any (same_side s) ys ≡ true
    by true f h = absurd (let g : true ≡ false = f in cc)
    by false f h = h
listed_between (y ∷ xs) x ys s f h = by (same_side s y) (listed_between xs x ys s f) h
  where
    by : (b : Bool) → (list_any (same_side s) (xs ++ x ∷ ys) ≡ true → list_any (same_side s) (xs ++ ys) ≡ true) →
        b || list_any (same_side s) (xs ++ x ∷ ys) ≡ true → b || list_any (same_side s) (xs ++ ys) ≡ true
    by true rest g = refl
    by false rest g = rest g

pub among_without : (few xs : List Side) (x : Side) (ys : List Side) → is_listed few x ≡ false →
    Among few (xs ++ x ∷ ys) → Among few (xs ++ ys)
among_without few xs x ys f among = λ k d l. by (get_or few k d) (all_listed few k d l) (among k d l)
  where
    by : (s : Side) → is_listed few s ≡ true → is_listed (xs ++ x ∷ ys) s ≡ true → is_listed (xs ++ ys) s ≡ true
    by s listed h = apart (same_side s x) refl
      where
        apart : (b : Bool) → same_side s x ≡ b → is_listed (xs ++ ys) s ≡ true
        apart true e =
            absurd (let g : is_listed few x ≡ true = subst (λ t. is_listed few t ≡ true) (same_side_is s x e) listed in
            let q : true ≡ false = sym g ∙ f in cc)
        apart false e = listed_between xs x ys s e h

-- ---- those that pass a test
pub among_filter : (p : Side → Bool) (sides : List Side) → Among (filter p sides) sides
among_filter p sides = All-filter p (λ s. is_listed sides s ≡ true) sides (all_listed sides)

pub listed_filter : (p : Side → Bool) (sides : List Side) (s : Side) → is_listed sides s ≡ true → p s ≡ true →
    is_listed (filter p sides) s ≡ true
listed_filter p sides s h passes =
    listed_holds (λ t. p t ≡ true → is_listed (filter p sides) t ≡ true) sides s (all p sides) h passes
  where
    all : (p : Side → Bool) (sides : List Side) → All (λ t. p t ≡ true → is_listed (filter p sides) t ≡ true) sides
    all p [] = All-nil (λ t. p t ≡ true → is_listed (filter p []) t ≡ true)
    all p (x ∷ sides) =
        All-cons (λ t. p t ≡ true → is_listed (filter p (x ∷ sides)) t ≡ true) x sides
        (λ e. rw e (listed_first x (filter p sides)))
        (All-weaker (λ t. p t ≡ true → is_listed (filter p sides) t ≡ true)
        (λ t. p t ≡ true → is_listed (filter p (x ∷ sides)) t ≡ true) (λ t f e. more t (p x) (f e)) sides (all p sides))
      where
        more : (t : Side) (b : Bool) → is_listed (filter p sides) t ≡ true →
            is_listed (cond b (x ∷ filter p sides) (filter p sides)) t ≡ true
        more t true h = listed_more x (filter p sides) t h
        more t false h = h
