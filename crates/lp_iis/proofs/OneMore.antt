-- Parts of the model with some sides alone, one more at a time.
use Rattle.std.proofs.Common.{◌≡◌, ℕ, suc, ◌+◌, Bool, true, false, cond, List, [], ◌∷◌, ◌++◌, map, take}
use Rattle.std.proofs.Common.{Option, Some, None, refl, sym, ap, ◌∙◌, add-one}
use Rattle.std.specs.Prelude.{is_some}
use Rattle.std.specs.List.{filter}
use Rattle.std.proofs.lemmas.List.{append_assoc}
use Rattle.spec_exact.specs.Fraction.{ℚ}
use Rattle.spec_model.specs.declared.parts.Kind.TheVariants.{L, G}
use Rattle.spec_model.specs.Model.{ExactRow, limits_of}
use Rattle.spec_iis.specs.Only.{picked, rank, single, with_sides, only_row, only_entries}
use Rattle.spec_iis.specs.Rule.{gathered}
use Rattle.lp_iis.specs.Reading.{place_by, entry_by}

module _ {A : Type 0} (p : ℕ → Bool) (f : ℕ → A) where
  -- where index k passes the test, the items picked below k and then item k are the items picked below k + 1
  pub picked_more : (k : ℕ) (xs : List A) → xs ≡ picked p f k → p k ≡ true → xs ++ f k ∷ [] ≡ picked p f (k + 1)
  picked_more k xs h e = ap (λ ys. ys ++ f k ∷ []) h ∙ sym (ap (picked p f) (add-one k) ∙ step)
    where
      step : picked p f (suc k) ≡ picked p f k ++ f k ∷ []
      step = rw e refl

  -- where index k fails the test, the items picked below k are the items picked below k + 1
  pub picked_same : (k : ℕ) (xs : List A) → xs ≡ picked p f k → p k ≡ false → xs ≡ picked p f (k + 1)
  picked_same k xs h e = h ∙ sym (ap (picked p f) (add-one k) ∙ step)
    where
      step : picked p f (suc k) ≡ picked p f k
      step = rw e refl

-- the lists of f below k one after the other, and then f k, are those below k + 1, whatever list stands first
pub gathered_more : {A : Type 0} (f : ℕ → List A) (k : ℕ) (first before after more : List A) →
    before ≡ first ++ gathered f k → after ≡ before ++ more → more ≡ f k → after ≡ first ++ gathered f (k + 1)
gathered_more f k first before after more h e is =
    e ∙ ap (λ xs. xs ++ more) h ∙ ap (λ ys. (first ++ gathered f k) ++ ys) is ∙ append_assoc first (gathered f k) (f k)
    ∙ ap (λ i. first ++ gathered f i) (sym (add-one k))

-- ---- rows
module _ (r : ExactRow) where
  -- a row with both limits, as a row of kind G with its lower limit, is the row with its lower side alone
  pub lower_single : (b : ℚ) → (limits_of r).lower ≡ Some b → is_some (limits_of r).upper ≡ true →
      single G r b ≡ only_row true false r
  unfolding only_row
  lower_single b e h = by (limits_of r).lower (limits_of r).upper e h
    where
      by : (l u : Option ℚ) → l ≡ Some b → is_some u ≡ true → single G r b ≡ with_sides true false r l u
      by None u e h = absurd (let z : None ≡ Some b = e in cc)
      by (Some l) None e h = absurd (let z : false ≡ true = h in cc)
      by (Some l) (Some u) e h = ap (single G r) (let z : Some l ≡ Some b = e in sym cc)

  -- a row without an upper limit is the row with its lower side alone
  pub lower_copy : is_some (limits_of r).upper ≡ false → r ≡ only_row true false r
  unfolding only_row
  lower_copy h = by (limits_of r).lower (limits_of r).upper h
    where
      by : (l u : Option ℚ) → is_some u ≡ false → r ≡ with_sides true false r l u
      by None u h = refl
      by (Some l) None h = refl
      by (Some l) (Some u) h = absurd (let z : true ≡ false = h in cc)

  -- a row without a lower limit, as it is, is the row with its lower side alone
  pub lower_none : (limits_of r).lower ≡ None → r ≡ only_row true false r
  unfolding only_row
  lower_none h = by (limits_of r).lower (limits_of r).upper h
    where
      by : (l u : Option ℚ) → l ≡ None → r ≡ with_sides true false r l u
      by None u h = refl
      by (Some l) u h = absurd (let z : Some l ≡ None = h in cc)

  -- a row with both limits, as a row of kind L with its upper limit, is the row with its upper side alone
  pub upper_single : (b : ℚ) → (limits_of r).upper ≡ Some b → is_some (limits_of r).lower ≡ true →
      single L r b ≡ only_row false true r
  unfolding only_row
  upper_single b e h = by (limits_of r).lower (limits_of r).upper e h
    where
      by : (l u : Option ℚ) → u ≡ Some b → is_some l ≡ true → single L r b ≡ with_sides false true r l u
      by None u e h = absurd (let z : false ≡ true = h in cc)
      by (Some l) None e h = absurd (let z : None ≡ Some b = e in cc)
      by (Some l) (Some u) e h = ap (single L r) (let z : Some u ≡ Some b = e in sym cc)

  -- a row without a lower limit is the row with its upper side alone
  pub upper_copy : is_some (limits_of r).lower ≡ false → r ≡ only_row false true r
  unfolding only_row
  upper_copy h = by (limits_of r).lower (limits_of r).upper h
    where
      by : (l u : Option ℚ) → is_some l ≡ false → r ≡ with_sides false true r l u
      by None u h = refl
      by (Some l) u h = absurd (let z : true ≡ false = h in cc)

  -- a row without an upper limit, as it is, is the row with its upper side alone
  pub upper_none : (limits_of r).upper ≡ None → r ≡ only_row false true r
  unfolding only_row
  upper_none h = by (limits_of r).lower (limits_of r).upper h
    where
      by : (l u : Option ℚ) → u ≡ None → r ≡ with_sides false true r l u
      by None u h = refl
      by (Some l) None h = refl
      by (Some l) (Some u) h = absurd (let z : Some u ≡ None = h in cc)

-- ---- entries
module _ (p : ℕ → Bool) where
  -- the entries of two lists in the rows that stay are those of the first and then those of the second
  pub only_entries-append : (xs ys : List (ℕ × ℚ)) → only_entries p (xs ++ ys) ≡ only_entries p xs ++ only_entries p ys
  unfolding only_entries
  only_entries-append [] ys = refl
  only_entries-append (x ∷ xs) ys = by (p x.0) (only_entries-append xs ys)
    where
      moved : ℕ × ℚ → ℕ × ℚ
      moved e = (rank p e.0, e.1)

      left : List (ℕ × ℚ) → List (ℕ × ℚ)
      left es = filter (λ e. p e.0) es

      by : (t : Bool) → map moved (left (xs ++ ys)) ≡ map moved (left xs) ++ map moved (left ys) →
          map moved (cond t (x ∷ left (xs ++ ys)) (left (xs ++ ys)))
          ≡ map moved (cond t (x ∷ left xs) (left xs)) ++ map moved (left ys)
      by true h = ap (λ es. moved x ∷ es) h
      by false h = h

  -- an entry in its new place, if its row stays, is what stays of the list of it alone
  one_left : (e : ℕ × ℚ) → entry_by (place_by p e.0) e.1 ≡ only_entries p (e ∷ [])
  unfolding only_entries
  one_left e = by (p e.0)
    where
      by : (t : Bool) → entry_by (cond t (Some (rank p e.0)) None) e.1
          ≡ map (λ e. (rank p e.0, e.1)) (cond t (e ∷ []) [])
      by true = refl
      by false = refl

  -- the entries of the first k that stay, with entry k in its new place if its row stays, are the entries of the first
  -- k + 1 that stay
  pub entry_more : (es : List (ℕ × ℚ)) (k : ℕ) (e : ℕ × ℚ) (before after : List (ℕ × ℚ)) (place : Option ℕ) →
      take (k + 1) es ≡ take k es ++ e ∷ [] → before ≡ only_entries p (take k es) → place ≡ place_by p e.0 →
      after ≡ before ++ entry_by place e.1 → after ≡ only_entries p (take (k + 1) es)
  entry_more es k e before after place more h is put =
      put ∙ ap (λ b. b ++ entry_by place e.1) h
      ∙ ap (λ o. only_entries p (take k es) ++ entry_by o e.1) is
      ∙ ap (λ o. only_entries p (take k es) ++ o) (one_left e)
      ∙ sym (only_entries-append (take k es) (e ∷ [])) ∙ ap (only_entries p) (sym more)
