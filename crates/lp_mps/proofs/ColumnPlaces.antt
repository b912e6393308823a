-- Names of columns, of which the last one may be the one that cards are read of.
use Rattle.std.proofs.Common.{◌≡◌, ◌≢◌, ℕ, ◌+◌, ◌<◌, ◌≤◌, Bool, true, false, ◌||◌, cond}
use Rattle.std.proofs.Common.{not, eqb, ltb, Option, Some, None, List, [], ◌∷◌, ◌++◌, length}
use Rattle.std.proofs.Common.{map, All, refl, sym, ap, ap₂, ◌∙◌, arith, ◌⊎◌, inl, inr, ⊎_elim}
use borrow.Author.Tests.{lt-ltb, le-ltb, eqb-true, eqb-false}
use Rattle.std.specs.List.{list_any, position, position_or_len}
use Rattle.std.proofs.lemmas.List.{length-append}
use Rattle.std.proofs.lemmas.List.Elements.{All-weaker}
use Rattle.std.proofs.lemmas.List.Folds.{position_or_len_push}
use Rattle.std.proofs.lemmas.List.Quantifiers.{position-Some}
use Rattle.std.proofs.lemmas.List.Sums.{prefix_len-le-length}
use Rattle.spec_text.specs.Words.{same}
use Rattle.spec_text.proofs.WordLemmas.{same_false}
use Rattle.spec_model.specs.Model.{Name, ExactColumn, no_column}
use Rattle.spec_mps.specs.Reader.{columns_with}
use Rattle.spec_mps.proofs.Names.{none_pass}
use Rattle.lp_model.proofs.NamePlaces.{place_named, same_turned}
use Rattle.lp_mps.specs.Named.{ColumnsRead, AreColumns}
use Rattle.lp_mps.proofs.NewNames.{name_of, names_new}

-- ---- a column by its name

-- a test that asks for the name alone passes an item of a list exactly where it passes a name
any_named : {X : Type 0} (p : X → Bool) (q : Name → Bool) (f : X → Name) → ((x : X) → p x ≡ q (f x)) →
    (xs : List X) → list_any p xs ≡ list_any q (map f xs)
any_named p q f e [] = refl
any_named p q f e (x ∷ xs) = ap₂ ◌||◌ (e x) (any_named p q f e xs)

module _ (columns : ColumnsRead) (names : List Name) (kept : AreColumns columns names) (name : Name) where
  -- a name is among the names just where some column has it, a whole one or the current one
  pub has_named : list_any (same name) names
      ≡ list_any (λ (c : ExactColumn). same c.name name) (columns_with columns.whole columns.current)
  has_named =
      ap (list_any (same name)) kept.named
      ∙ sym (any_named (λ (c : ExactColumn). same c.name name) (same name) name_of
      (λ c. same_turned c.name name) (columns_with columns.whole columns.current))

  -- the name of a new column is none of the names
  pub begin_new : (old : ColumnsRead) → columns ≡ old → old.current ≡ None →
      list_any (λ (c : ExactColumn). same c.name name) old.whole ≡ false → All (λ x. x ≢ name) names
  begin_new old e closed new =
      let current : columns.current ≡ None = ap (λ (v : ColumnsRead). v.current) e ∙ closed in
      let whole : list_any (λ (c : ExactColumn). same c.name name) columns.whole ≡ false =
      ap (λ (v : ColumnsRead). list_any (λ (c : ExactColumn). same c.name name) v.whole) e ∙ new in
      names_new name_of columns.whole names name name
      (kept.named ∙ ap (λ c. map name_of (columns_with columns.whole c)) current) refl
      (All-weaker (λ (c : ExactColumn). same c.name name ≡ false)
      (λ c. c.name ≢ name) (λ c. same_false c.name name) columns.whole
      (none_pass (λ (c : ExactColumn). same c.name name) columns.whole whole))

-- ---- a place in a list with one more at its end

module _ {X : Type 0} (p : X → Bool) where
  -- where the search for an item that passes p stops at k, inside the list, k is the place of the first one
  found : (xs : List X) (k : ℕ) → position_or_len p xs ≡ k → k < length xs → position p xs ≡ Some k
  found xs k e l =
      ap (λ n. cond (ltb n (length xs)) (Some n) None) e ∙ ap (λ t. cond t (Some k) None) (lt-ltb k (length xs) l)

  -- where the search for an item that passes p stops at the end of the list, there is none
  missing : (xs : List X) (k : ℕ) → position_or_len p xs ≡ k → length xs ≤ k → position p xs ≡ None
  missing xs k e l =
      ap (λ n. cond (ltb n (length xs)) (Some n) None) e ∙ ap (λ t. cond t (Some k) None) (le-ltb k (length xs) l)

  -- after y is pushed, the first place of an item that passes p is what it was, or it is the last place, and there was
  -- none before
  pushed : (xs : List X) (y : X) → (position p (xs ++ y ∷ []) ≡ position p xs)
      ⊎ ((position p (xs ++ y ∷ []) ≡ Some (length xs)) × (position p xs ≡ None))
  pushed xs y = by (eqb (position_or_len p xs) (length xs)) refl (p y) refl
    where
      long : length (xs ++ y ∷ []) ≡ length xs + 1
      long = length-append xs (y ∷ [])

      by : (t : Bool) → eqb (position_or_len p xs) (length xs) ≡ t → (u : Bool) → p y ≡ u →
          (position p (xs ++ y ∷ []) ≡ position p xs)
          ⊎ ((position p (xs ++ y ∷ []) ≡ Some (length xs)) × (position p xs ≡ None))
      by true e true f =
          let own : position_or_len p xs ≡ length xs = eqb-true _ _ e in
          let zero_more : length xs + 0 ≡ length xs = omega arith in
          inr (
            found (xs ++ y ∷ []) (length xs)
                (position_or_len_push p xs y ∙ ap (λ t. cond t (length xs + cond (p y) 0 1) (position_or_len p xs)) e
                ∙ ap (λ u. length xs + cond u 0 1) f ∙ zero_more) (omega (arith, long)),
            missing xs (length xs) own (omega arith),
          )
      by true e false f =
          let own : position_or_len p xs ≡ length xs = eqb-true _ _ e in
          inl (missing (xs ++ y ∷ []) (length xs + 1)
          (position_or_len_push p xs y ∙ ap (λ t. cond t (length xs + cond (p y) 0 1) (position_or_len p xs)) e
          ∙ ap (λ u. length xs + cond u 0 1) f) (omega (arith, long)) ∙ sym (missing xs (length xs) own (omega arith)))
      by false e u f =
          let other : position_or_len p xs ≢ length xs = eqb-false _ _ e in
          let low : position_or_len p xs ≤ length xs = prefix_len-le-length (λ x. not (p x)) xs in
          let inside : position_or_len p xs < length xs = grind (arith, other, low) in
          inl (found (xs ++ y ∷ []) (position_or_len p xs)
          (position_or_len_push p xs y ∙ ap (λ t. cond t (length xs + cond (p y) 0 1) (position_or_len p xs)) e)
          (omega (arith, long, inside)) ∙ sym (found xs (position_or_len p xs) refl inside))

-- ---- the place of a whole column, by the place of its name

abbrev place_in : Option ℕ → ℕ
place_in None = 0
place_in (Some k) = k

module _ (columns : ColumnsRead) (names : List Name) (kept : AreColumns columns names) (name : Name) where
  abbrev test : ExactColumn → Bool
  test c = same c.name name

  -- a name's place among the names is the place of the column with this name, the current column standing last
  all_placed : position (λ x. same x name) names ≡ position test (columns_with columns.whole columns.current)
  all_placed =
      ap (position (λ x. same x name)) kept.named
      ∙ sym (place_named test (λ x. same x name) name_of (λ c. refl) (columns_with columns.whole columns.current))

  -- where a name's place among the names is below the count of whole columns, it is the place of the whole column with
  -- this name
  pub place_inside : (k : ℕ) → Some k ≡ position (λ x. same x name) names → k < length columns.whole →
      Some k ≡ position test columns.whole
  place_inside k e l = by columns.current (e ∙ all_placed)
    where
      by : (c : Option ExactColumn) → Some k ≡ position test (columns_with columns.whole c) →
          Some k ≡ position test columns.whole
      by None f = f
      by (Some c) f =
          ⊎_elim
          (λ (a : position test (columns.whole ++ c ∷ []) ≡ position test columns.whole). f ∙ a)
          (λ (b : (position test (columns.whole ++ c ∷ []) ≡ Some (length columns.whole))
          × (position test columns.whole ≡ None)).
          absurd (let g : k ≡ length columns.whole = ap place_in (f ∙ b.0) in omega (arith, g, l)))
          (pushed test columns.whole c)

  -- where a name's place among the names is not below the count of whole columns, no whole column has this name
  pub place_outside : (k : ℕ) → Some k ≡ position (λ x. same x name) names → length columns.whole ≤ k →
      None ≡ position test columns.whole
  place_outside k e l = by columns.current (e ∙ all_placed)
    where
      not_inside : Some k ≡ position test columns.whole → ⊥
      not_inside f =
          let g : k < length columns.whole = (position-Some test columns.whole k no_column (sym f)).0 in
          omega (arith, g, l)

      by : (c : Option ExactColumn) → Some k ≡ position test (columns_with columns.whole c) →
          None ≡ position test columns.whole
      by None f = absurd (not_inside f)
      by (Some c) f =
          ⊎_elim
          (λ (a : position test (columns.whole ++ c ∷ []) ≡ position test columns.whole). absurd (not_inside (f ∙ a)))
          (λ (b : (position test (columns.whole ++ c ∷ []) ≡ Some (length columns.whole))
          × (position test columns.whole ≡ None)). sym b.1)
          (pushed test columns.whole c)

  -- where a name has no place among the names, no whole column has it
  pub place_nowhere : None ≡ position (λ x. same x name) names → None ≡ position test columns.whole
  place_nowhere e = by columns.current (e ∙ all_placed)
    where
      by : (c : Option ExactColumn) → None ≡ position test (columns_with columns.whole c) →
          None ≡ position test columns.whole
      by None f = f
      by (Some c) f =
          ⊎_elim
          (λ (a : position test (columns.whole ++ c ∷ []) ≡ position test columns.whole). f ∙ a)
          (λ (b : (position test (columns.whole ++ c ∷ []) ≡ Some (length columns.whole))
          × (position test columns.whole ≡ None)). sym b.1)
          (pushed test columns.whole c)
