-- Names kept in a list beside the rows or columns that have them.
--
-- `pointwise_is`: std's comparison of two names byte by byte is the definition's `same`.
-- `same_turned`: `same` of two names does not depend on their order.
-- `pointwise_turned`: std's comparison of two names is `same` of them in the other order.
-- `name_pushed`: adding a key whose name is not among those of the keys adds its name at the end of the list of names.
-- `names_before`: where names are distinct, none of those before place k is the name at place k.
-- `names_stay`: names kept for one list of names are kept for an equal list.
-- `names_new`: a name that none of the rows or columns has is none of the kept names.
use Rattle.std.proofs.Common.{◌≡◌, ◌≢◌, ℕ, ◌+◌, ◌<◌, Bool, true, false, ◌&&◌, ◌||◌, not, cond}
use Rattle.std.proofs.Common.{nat_eq, ltb, Option, Some, None, List, [], ◌∷◌, ◌++◌, length, map, take}
use Rattle.std.proofs.Common.{get_or, set, All, refl, sym, ap, ap₂, ◌∙◌, subst, arith, get_or-take}
use Rattle.std.specs.Prelude.{IfSome}
use Rattle.std.specs.List.{list_any, position, position_or_len, AllPairs}
use Rattle.std.specs.Cmp.Lexicographic.{pointwise}
use Rattle.std.proofs.lemmas.Bool.Decides.{nat_tests}
use Rattle.std.proofs.lemmas.List.{length-map, length-take-le, map-append, take-map, get_or-map}
use Rattle.std.proofs.lemmas.List.Elements.{All-weaker}
use Rattle.std.proofs.lemmas.List.Folds.{list_any_none}
use Rattle.spec_edit.proofs.ListLemmas.{map-set_unseen}
use Rattle.spec_text.specs.Words.{same}
use Rattle.spec_text.proofs.WordLemmas.{same_true}

-- a name, by its bytes
abbrev pub Name : Type 0
Name = List ℕ

-- ---- two names

pub pointwise_is : (a b : Name) → pointwise nat_eq a b ≡ same a b
pointwise_is [] [] = refl
pointwise_is [] (y ∷ ys) = refl
pointwise_is (x ∷ xs) [] = refl
pointwise_is (x ∷ xs) (y ∷ ys) = ap (λ t. nat_eq x y && t) (pointwise_is xs ys)

pub same_turned : (a b : Name) → same a b ≡ same b a
same_turned [] [] = refl
same_turned [] (y ∷ ys) = refl
same_turned (x ∷ xs) [] = refl
same_turned (x ∷ xs) (y ∷ ys) =
    let e : nat_eq x y ≡ nat_eq y x = grind (arith, nat_tests) in ap₂ ◌&&◌ e (same_turned xs ys)

pub pointwise_turned : (a b : Name) → pointwise nat_eq a b ≡ same b a
pointwise_turned a b = pointwise_is a b ∙ same_turned a b

-- ---- a test of what has names, which asks for the name alone

module _ {X : Type 0} (p : X → Bool) (q : Name → Bool) (f : X → Name) (e : (x : X) → p x ≡ q (f x)) where
  -- the first item that passes a test of its name is at the first place of the list of names that passes it
  first_named : (xs : List X) → position_or_len p xs ≡ position_or_len q (map f xs)
  first_named [] = refl
  first_named (x ∷ xs) = ap₂ (λ t n. cond (not t) (1 + n) 0) (e x) (first_named xs)

  -- the place of the first item that passes a test of its name is that of the first such name among the names
  pub place_named : (xs : List X) → position p xs ≡ position q (map f xs)
  place_named xs =
      ap₂ (λ n m. cond (ltb n m) (Some n) None) (first_named xs) (sym (length-map xs f))

  -- an item passes a test of its name exactly where one of the names passes it
  pub any_named : (xs : List X) → list_any p xs ≡ list_any q (map f xs)
  any_named [] = refl
  any_named (x ∷ xs) = ap₂ ◌||◌ (e x) (any_named xs)

-- ---- one name more

-- a name that differs from each name of a list is not found among them
other_names : (name : Name) (xs : List Name) → All (λ x. x ≢ name) xs → list_any (same name) xs ≡ false
other_names name xs h =
    list_any_none (same name) xs
    (All-weaker (λ x. x ≢ name) (λ x. same name x ≡ false) (λ x n. by x n (same name x) refl) xs h)
  where
    by : (x : Name) → x ≢ name → (t : Bool) → same name x ≡ t → t ≡ false
    by x n true e = absurd (n (sym (same_true name x e)))
    by x n false e = refl

-- a new key goes last, so its name does
pub name_pushed : {X : Type 0} (f : X → Name) (k : X) (ks new : List X) (name : Name) (old : List Name) →
    map f ks ≡ old → f k ≡ name → All (λ x. x ≢ name) old →
    new ≡ cond (list_any (λ x. pointwise nat_eq (f k) (f x)) ks) ks (ks ++ k ∷ []) → map f new ≡ old ++ name ∷ []
name_pushed f k ks new name old seen own others e =
    let none : list_any (λ x. pointwise nat_eq (f k) (f x)) ks ≡ false =
    any_named (λ x. pointwise nat_eq (f k) (f x)) (same (f k)) f (λ x. pointwise_is (f k) (f x)) ks
    ∙ ap₂ (λ n xs. list_any (same n) xs) own seen ∙ other_names name old others in
    ap (map f) (e ∙ ap (λ t. cond t ks (ks ++ k ∷ [])) none) ∙ map-append f ks (k ∷ [])
    ∙ ap₂ (λ xs n. xs ++ n ∷ []) seen own

-- the names before one of distinct names are others
pub names_before : {X : Type 0} (f : X → Name) (xs : List X) (k : ℕ) (x : X) → x ≡ get_or xs k x → k < length xs →
    AllPairs (λ a b. a ≢ b) (map f xs) → All (λ a. a ≢ f x) (map f (take k xs))
names_before f xs k x here l h = λ i e m.
    let long : length (map f (take k xs)) ≡ k = length-map (take k xs) f ∙ length-take-le k xs (omega arith) in
    let before : i < k = omega arith in
    let before_is : get_or (map f (take k xs)) i e ≡ get_or (map f xs) i e =
    ap (λ ys. get_or ys i e) (sym (take-map f k xs)) ∙ get_or-take k (map f xs) i e before in
    let own : get_or (map f xs) k e ≡ f x = get_or-map f xs k x e l ∙ sym (ap f here) in
    λ (q : get_or (map f (take k xs)) i e ≡ f x).
    h i k e before (omega (arith, length-map xs f)) (sym before_is ∙ q ∙ sym own)

-- ---- the names that are kept beside rows or columns, if they are

pub names_stay : (kept : Option (List Name)) (xs ys : List Name) → ys ≡ xs → IfSome kept (λ ns. ns ≡ xs) →
    IfSome kept (λ ns. ns ≡ ys)
names_stay kept xs ys e h = subst (λ zs. IfSome kept (λ ns. ns ≡ zs)) (sym e) h

-- they do not have a name that is new
pub names_new : (kept given : Option (List Name)) (names : List Name) (name own : Name) → given ≡ kept →
    IfSome kept (λ ns. ns ≡ names) → own ≡ name → All (λ x. x ≢ name) names →
    IfSome given (λ ns. All (λ x. x ≢ own) ns)
names_new kept given names name own e h f new =
    subst (λ o. IfSome o (λ ns. All (λ x. x ≢ own) ns)) (sym e) (by kept h)
  where
    by : (o : Option (List Name)) → IfSome o (λ ns. ns ≡ names) → IfSome o (λ ns. All (λ x. x ≢ own) ns)
    by None k = tt
    by (Some ns) k =
        subst (λ ys. All (λ x. x ≢ own) ys) (sym k) (subst (λ n. All (λ x. x ≢ n) names) (sym f) new)

module _ {X : Type 0} (f : X → Name) where
  -- names that are kept for items, with the name of a new item at their end, are kept for the items with this one
  pub names_more : (kept given made : Option (List Name)) (xs new : List X) (x : X) (own : Name) → given ≡ kept →
      IfSome kept (λ ns. ns ≡ map f xs) → own ≡ f x → new ≡ xs ++ x ∷ [] →
      ((names : List Name) → IfSome given (λ old. old ≡ names) → IfSome made (λ ns. ns ≡ names ++ own ∷ [])) →
      IfSome made (λ ns. ns ≡ map f new)
  names_more kept given made xs new x own e h g k makes =
      subst (λ zs. IfSome made (λ ns. ns ≡ zs))
      (ap (λ n. map f xs ++ n ∷ []) g ∙ sym (map-append f xs (x ∷ [])) ∙ sym (ap (map f) k))
      (makes (map f xs) (subst (λ o. IfSome o (λ ns. ns ≡ map f xs)) (sym e) h))

  -- names that are kept for items are kept when one item is changed that has its name still
  pub names_set : (kept : Option (List Name)) (xs : List X) (i : ℕ) (x y : X) → x ≡ get_or xs i x → i < length xs →
      f y ≡ f x → IfSome kept (λ ns. ns ≡ map f xs) → IfSome kept (λ ns. ns ≡ map f (set xs i y))
  names_set kept xs i x y here l e h =
      names_stay kept (map f xs) (map f (set xs i y)) (map-set_unseen f xs i x y l (e ∙ ap f here)) h
