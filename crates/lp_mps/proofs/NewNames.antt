-- Names that no row or column has yet, and lists of names kept beside them.
--
-- `rows_new`: where a name has no place in the state, no row has it.
-- `names_changed`: changing one item of a list by what keeps its name keeps the list of names.
-- `written_back`: changing an item of a slice of the whole list and writing it back changes that item of the list.
-- `rows_changed`: changing a row by what keeps its name keeps the list of names that belongs to the rows.
-- `names_beside`: where the columns whose cards are all read keep their names, all names with the current column stay.
-- `names_current`: where the current column keeps its name, all names stay.
-- `names_sorted`: sorting the entries of the current column keeps all names.
-- `row_placed`: a name's place in the list of names is the place of the row with that name.
use Rattle.std.proofs.Common.{◌≡◌, ◌≢◌, ℕ, zero, suc, ◌<◌, ◌^◌, Bool, true, false, cond, Option, Some, None, List}
use Rattle.std.proofs.Common.{[], ◌∷◌, ◌++◌, length, map, take, drop, All, refl, sym, ap, ◌∙◌, subst, arith}
use Rattle.std.specs.List.{position}
use Rattle.std.specs.Prelude.{option_map}
use Rattle.std.proofs.lemmas.List.{map-append, append-nil, drop_all, take_all}
use Rattle.std.proofs.lemmas.List.Elements.{All-map, All-weaker}
use Rattle.spec_text.specs.Words.{same}
use Rattle.spec_text.proofs.WordLemmas.{same_false}
use Rattle.spec_model.specs.Model.{Name, ExactRow, ExactColumn}
use Rattle.spec_mps.specs.declared.target.Target.TheVariants.{Objective}
use Rattle.spec_mps.specs.Reader.{State, is_objective, row_at, place_of, columns_with}
use Rattle.spec_mps.specs.Sides.{changed_at}
use Rattle.spec_mps.proofs.Names.{nowhere}
use Rattle.spec_mps.proofs.NarrowSoFar.{changed_length}
use Rattle.lp_model.proofs.NamePlaces.{place_named}
use Rattle.lp_mps.specs.InOrder.{ordered}
use Rattle.lp_mps.specs.Named.{AreRows}

-- ---- a name that stands for nothing

-- a name that stands for nothing has no place among the rows
no_row_placed : (a : Bool) (o : Option ℕ) → cond a (Some Objective) (row_at o) ≡ None → o ≡ None
no_row_placed true o h = absurd (cc)
no_row_placed false None h = refl
no_row_placed false (Some i) h = absurd (cc)

pub rows_new : (s : State) (name : Name) → place_of s name ≡ None → All (λ (r : ExactRow). r.name ≢ name) s.rows
unfolding place_of
rows_new s name h =
    All-weaker (λ (r : ExactRow). same r.name name ≡ false) (λ r. r.name ≢ name) (λ r. same_false r.name name) s.rows
    (nowhere (λ (r : ExactRow). same r.name name) s.rows
    (no_row_placed (is_objective s.objective name) (position (λ r. same r.name name) s.rows) h))

-- ---- names beside what has them

module _ {X : Type 0} (f : X → Name) where
  -- a name that none of them has is none of the names
  pub names_new : (xs : List X) (names : List Name) (name own : Name) → names ≡ map f xs → own ≡ name →
      All (λ x. f x ≢ name) xs → All (λ x. x ≢ own) names
  names_new xs names name own e g h =
      subst (λ ns. All (λ x. x ≢ own) ns) (sym e)
      (subst (λ n. All (λ x. x ≢ n) (map f xs)) (sym g) (All-map (λ x. x ≢ name) f xs h))

-- ---- rows and columns that are changed in place

-- a change that keeps each name leaves the names
pub names_changed : {X : Type 0} (f : X → Name) (i : ℕ) (change : X → X) → ((x : X) → f (change x) ≡ f x) →
    (xs : List X) → map f (changed_at i change xs) ≡ map f xs
names_changed f i change same [] = refl
names_changed f zero change same (x ∷ xs) = ap (λ n. n ∷ map f xs) (same x)
names_changed f (suc i) change same (x ∷ xs) = ap (λ ns. f x ∷ ns) (names_changed f i change same xs)

-- a change of the slice that a vector is seen as, written back to it
pub written_back : {X : Type 0} (i : ℕ) (change : X → X) (n : ℕ) (xs seen new : List X) → seen ≡ xs →
    length seen ≡ n → new ≡ changed_at i change seen → take n (new ++ drop (length new) xs) ≡ changed_at i change xs
written_back i change n xs seen new e l g =
    let long : length new ≡ length seen = ap length g ∙ changed_length i change seen in
    let same : length seen ≡ length xs = ap length e in
    ap (λ ys. take n (new ++ ys)) (drop_all (length new) xs (omega arith)) ∙ ap (take n) (append-nil new)
    ∙ take_all n new (omega arith) ∙ g ∙ ap (changed_at i change) e

pub rows_changed : (i : ℕ) (change : ExactRow → ExactRow) (n : ℕ) (xs seen new : List ExactRow) (names : List Name) →
    ((r : ExactRow) → (change r).name ≡ r.name) → seen ≡ xs → length seen ≡ n → new ≡ changed_at i change seen →
    AreRows xs names → AreRows (take n (new ++ drop (length new) xs)) names
rows_changed i change n xs seen new names keeps e l g h =
    let written = written_back i change n xs seen new e l g in
    record {
      few = subst (λ ys. length ys < 2 ^ 32) (sym written) (omega (arith, changed_length i change xs, h.few));
      named =
          h.named ∙ sym (ap (map (λ (r : ExactRow). r.name)) written
          ∙ names_changed (λ (r : ExactRow). r.name) i change keeps xs);
    }

-- ---- columns, of which the last may be current

abbrev pub name_of : ExactColumn → Name
name_of c = c.name

-- the names of all of them, where those of the whole ones stay
pub names_beside : (xs ys : List ExactColumn) (c : Option ExactColumn) → map name_of ys ≡ map name_of xs →
    map name_of (columns_with ys c) ≡ map name_of (columns_with xs c)
names_beside xs ys None e = e
names_beside xs ys (Some c) e =
    map-append name_of ys (c ∷ []) ∙ ap (λ ns. ns ++ name_of c ∷ []) e ∙ sym (map-append name_of xs (c ∷ []))

pub names_current : (xs : List ExactColumn) (c d : ExactColumn) → name_of d ≡ name_of c →
    map name_of (columns_with xs (Some d)) ≡ map name_of (columns_with xs (Some c))
names_current xs c d e =
    map-append name_of xs (d ∷ []) ∙ ap (λ n. map name_of xs ++ n ∷ []) e ∙ sym (map-append name_of xs (c ∷ []))

-- the names of columns with a current one are those of the columns and then the current one's
names_parted : (xs : List ExactColumn) (c : Option ExactColumn) →
    map name_of (columns_with xs c) ≡ map name_of xs ++ map name_of (columns_with [] c)
names_parted xs None = sym (append-nil (map name_of xs))
names_parted xs (Some c) = map-append name_of xs (c ∷ [])

-- putting the entries of the current column in order leaves the column's name
name_sorted : (c : Option ExactColumn) →
    map name_of (columns_with [] (option_map ordered c)) ≡ map name_of (columns_with [] c)
name_sorted None = refl
name_sorted (Some c) = refl

-- the names of all of them, where the one that cards are read of keeps its own
pub names_sorted : (xs : List ExactColumn) (c d : Option ExactColumn) →
    map name_of (columns_with [] d) ≡ map name_of (columns_with [] c) →
    map name_of (columns_with xs (option_map ordered d)) ≡ map name_of (columns_with xs (option_map ordered c))
names_sorted xs c d e =
    names_parted xs (option_map ordered d)
    ∙ ap (λ ns. map name_of xs ++ ns) (name_sorted d ∙ e ∙ sym (name_sorted c))
    ∙ sym (names_parted xs (option_map ordered c))

pub row_placed : (rows : List ExactRow) (names : List Name) (name : Name) → AreRows rows names →
    position (λ x. same x name) names ≡ position (λ (r : ExactRow). same r.name name) rows
row_placed rows names name h =
    ap (position (λ x. same x name)) h.named
    ∙ sym (place_named (λ (r : ExactRow). same r.name name)
    (λ x. same x name) (λ (r : ExactRow). r.name) (λ r. refl) rows)
