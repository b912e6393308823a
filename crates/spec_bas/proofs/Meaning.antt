-- The cards that a basis is written as mean that basis.
use Rattle.std.proofs.Common.{◌≡◌, ◌≢◌, ℕ, ◌+◌, ◌<◌, true, false, not, Option, Some}
use Rattle.std.proofs.Common.{List, [], ◌∷◌, ◌++◌, length, map, All, refl, sym, ap, ◌∙◌, subst, arith}
use Rattle.std.specs.List.{AllPairs, zip}
use Rattle.std.proofs.lemmas.List.{map-append}
use Rattle.std.proofs.lemmas.Grind.{flat_map-append}
use Rattle.std.proofs.lemmas.List.Elements.{All-append, All-map, All-weaker}
use Rattle.std.proofs.lemmas.List.{append-nil}
use Rattle.std.proofs.lemmas.Bool.{not-true, not-false}
use Rattle.spec_exact.specs.Fraction.{ℚ}
use Rattle.spec_model.specs.Model.{Model, Name}
use Rattle.spec_model.specs.Kept.{IsModel, row_place, column_place}
use Rattle.spec_model.proofs.NamePlaces.{column_name, row_name, column_at, row_at}
use Rattle.spec_model.proofs.Pairs.{AllPairs-append, AllPairs-map}
use Rattle.spec_pivot.specs.declared.status.Status.{Status}
use Rattle.spec_pivot.specs.declared.status.Status.TheVariants.{Basic, AtLower, AtUpper, AtZero}
use Rattle.spec_simplex.specs.Form.{Form, form_lower, form_upper}
use Rattle.spec_simplex.specs.Tableau.{is_basic}
use Rattle.spec_simplex.specs.Start.{first_status}
use Rattle.spec_simplex.specs.Eliminate.{basis_at, CanStand, IsBasisOf}
use Rattle.spec_simplex.proofs.Statuses.{basic_if}
use Rattle.spec_bas.specs.Steps.{lower_first}
use Rattle.spec_bas.specs.Fits.{HasSizeOf}
use Rattle.spec_bas.specs.Spelled.{AreCardsOf, Means, HasNoCard, column_on, row_on, columns_on, rows_on}
use Rattle.spec_bas.specs.Written.{is_at_upper, basic_columns, other_rows, upper_columns, paired, pair_card, upper_card}
use Rattle.spec_bas.specs.Written.{cards_of}
use Rattle.spec_bas.proofs.NumbersBelow.{all_front, all_back, all_named, all_zip, chosen_all}
use Rattle.spec_bas.proofs.NumbersBelow.{chosen_missing, chosen_once, basics_chosen, others_chosen}
use Rattle.spec_bas.proofs.NamePlaces.{named_once, unnamed}

-- ---- statuses

-- a status that tests as at the upper bound is at the upper bound
upper_is : (s : Status) → is_at_upper s ≡ true → s ≡ AtUpper
upper_is Basic e = cc
upper_is AtLower e = cc
upper_is AtUpper e = refl
upper_is AtZero e = cc

-- a status that tests as at the upper bound does not test as basic
upper_not_basic : (s : Status) → is_at_upper s ≡ true → is_basic s ≡ false
upper_not_basic Basic e = cc
upper_not_basic AtLower e = refl
upper_not_basic AtUpper e = refl
upper_not_basic AtZero e = refl

-- a column that can stand at its upper bound has an upper bound
bound_of : (s : Status) (l u : Option ℚ) → is_at_upper s ≡ true → CanStand s l u → (v : ℚ) × (u ≡ Some v)
bound_of Basic l u e c = cc
bound_of AtLower l u e c = cc
bound_of AtUpper l u e c = c
bound_of AtZero l u e c = cc

-- a status that a column's bounds allow, neither basic nor at the upper bound, is the first status for these bounds
usual_is : (s : Status) (l u : Option ℚ) → is_basic s ≡ false → is_at_upper s ≡ false → CanStand s l u →
    s ≡ first_status l u
usual_is Basic l u b a c = cc
usual_is AtLower l u b a c = rw c.1 refl
usual_is AtUpper l u b a c = cc
usual_is AtZero l u b a c = rw (c.0, c.1) refl

-- ---- names on cards

-- the card of a pair names its column, and no other
column_paired : (s : Status) (column row : Name) → column_on (paired s column row) ≡ column ∷ []
column_paired Basic column row = refl
column_paired AtLower column row = refl
column_paired AtUpper column row = refl
column_paired AtZero column row = refl

-- the card of a pair names its row, and no other
row_paired : (s : Status) (column row : Name) → row_on (paired s column row) ≡ row ∷ []
row_paired Basic column row = refl
row_paired AtLower column row = refl
row_paired AtUpper column row = refl
row_paired AtZero column row = refl

module _ (m : Model) (f : Form) (basis : List Status) where
  -- the cards of as many columns as rows name these columns in their order
  columns_paired : (bs os : List ℕ) → length bs ≡ length os →
      columns_on (map (pair_card m f basis) (zip bs os)) ≡ map (column_name m) bs
  columns_paired [] os e = refl
  columns_paired (b ∷ bs) [] e = absurd (omega arith)
  columns_paired (b ∷ bs) (o ∷ os) e =
      ap (λ cs. cs ++ columns_on (map (pair_card m f basis) (zip bs os)))
      (column_paired (basis_at basis (f.cols + o)) (column_name m b) (row_name m o))
      ∙ ap (λ cs. column_name m b ∷ cs) (columns_paired bs os (omega arith))

  -- the cards of as many columns as rows name these rows in their order
  rows_paired : (bs os : List ℕ) → length bs ≡ length os →
      rows_on (map (pair_card m f basis) (zip bs os)) ≡ map (row_name m) os
  rows_paired [] [] e = refl
  rows_paired [] (o ∷ os) e = absurd (omega arith)
  rows_paired (b ∷ bs) [] e = absurd (omega arith)
  rows_paired (b ∷ bs) (o ∷ os) e =
      ap (λ cs. cs ++ rows_on (map (pair_card m f basis) (zip bs os)))
      (row_paired (basis_at basis (f.cols + o)) (column_name m b) (row_name m o))
      ∙ ap (λ cs. row_name m o ∷ cs) (rows_paired bs os (omega arith))

-- the cards of columns at their upper bounds name these columns in their order
columns_upper : (m : Model) (us : List ℕ) → columns_on (map (upper_card m) us) ≡ map (column_name m) us
columns_upper m [] = refl
columns_upper m (u ∷ us) = ap (λ cs. column_name m u ∷ cs) (columns_upper m us)

-- the cards of columns at their upper bounds name no row
rows_upper : (m : Model) (us : List ℕ) → rows_on (map (upper_card m) us) ≡ []
rows_upper m [] = refl
rows_upper m (u ∷ us) = rows_upper m us

-- ---- what the cards mean

module _ (m : Model) (f : Form) (size : HasSizeOf m f) (kept : IsModel m) (basis : List Status)
    (fits : IsBasisOf f basis) where
  -- the numbers of the basic columns of the basis
  abbrev bs : List ℕ
  bs = basic_columns f basis

  -- the numbers of the rows whose logical columns are not basic
  abbrev os : List ℕ
  os = other_rows f basis

  -- the numbers of the columns at their upper bounds
  abbrev us : List ℕ
  us = upper_columns f basis

  -- the basic columns are as many as the rows whose logical columns are not basic
  as_many : length bs ≡ length os
  as_many =
      let a = basics_chosen basis f.cols in
      let b = others_chosen basis f.cols f.rows in
      let c = fits.count in
      omega arith

  -- the name of column j has the place j
  column_stands : (j : ℕ) → j < f.cols → column_place m (column_name m j) ≡ Some j
  column_stands j l = column_at m kept j (omega (arith, l, size.cols))

  -- the name of row i has the place i
  row_stands : (i : ℕ) → i < f.rows → row_place m (row_name m i) ≡ Some i
  row_stands i l = row_at m kept i (omega (arith, l, size.rows))

  -- each column of the form can have its status in the basis
  can : (k : ℕ) → k < f.cols + f.rows → CanStand (basis_at basis k) (form_lower f k) (form_upper f k)
  can = fits.stand

  -- ---- the names

  -- the cards of a basis name its basic columns and then those at their upper bounds
  columns_are : columns_on (cards_of m f basis) ≡ map (column_name m) (bs ++ us)
  unfolding cards_of
  columns_are =
      flat_map-append column_on (map (pair_card m f basis) (zip bs os)) (map (upper_card m) us)
      ∙ ap (λ cs. cs ++ columns_on (map (upper_card m) us)) (columns_paired m f basis bs os as_many)
      ∙ ap (λ cs. map (column_name m) bs ++ cs) (columns_upper m us)
      ∙ sym (map-append (column_name m) bs us)

  -- the cards of a basis name the rows whose logical columns are not basic
  rows_are : rows_on (cards_of m f basis) ≡ map (row_name m) os
  unfolding cards_of
  rows_are =
      flat_map-append row_on (map (pair_card m f basis) (zip bs os)) (map (upper_card m) us)
      ∙ ap (λ cs. cs ++ rows_on (map (upper_card m) us)) (rows_paired m f basis bs os as_many)
      ∙ ap (λ cs. map (row_name m) os ++ cs) (rows_upper m us)
      ∙ append-nil (map (row_name m) os)

  -- the numbers of the named columns are below the number of the form's structural columns
  low_columns : All (λ j. j < f.cols) (bs ++ us)
  low_columns =
      All-append (λ j. j < f.cols) bs us
      (chosen_all (λ j. is_basic (basis_at basis j)) (λ j. j < f.cols) f.cols (λ k l e. l))
      (chosen_all (λ j. is_at_upper (basis_at basis j)) (λ j. j < f.cols) f.cols (λ k l e. l))

  -- the numbers of the named rows are below the number of the form's rows
  low_rows : All (λ i. i < f.rows) os
  low_rows =
      chosen_all (λ i. not (is_basic (basis_at basis (f.cols + i)))) (λ i. i < f.rows) f.rows (λ k l e. l)

  -- no column is basic and at its upper bound
  apart : All (λ j. All (λ k. j ≢ k) us) bs
  apart = chosen_all (λ j. is_basic (basis_at basis j)) (λ j. All (λ k. j ≢ k) us) f.cols
      (λ j l e. chosen_all (λ k. is_at_upper (basis_at basis k)) (λ k. j ≢ k) f.cols (λ k r g z. clash j k e g z))
    where
      clash : (j k : ℕ) → is_basic (basis_at basis j) ≡ true → is_at_upper (basis_at basis k) ≡ true → j ≡ k → ⊥
      clash j k e g z =
          let a : is_basic (basis_at basis k) ≡ false = upper_not_basic (basis_at basis k) g in
          let b : is_basic (basis_at basis j) ≡ is_basic (basis_at basis k) = ap (λ q. is_basic (basis_at basis q)) z in
          let c : true ≡ false = sym e ∙ b ∙ a in
          cc

  -- the cards of a basis name no column twice
  columns_once : AllPairs (λ x y. x ≢ y) (columns_on (cards_of m f basis))
  columns_once =
      subst (AllPairs (λ x y. x ≢ y)) (sym columns_are)
      (AllPairs-map (λ x y. x ≢ y) (column_name m) (bs ++ us)
      (named_once (column_place m) (column_name m) f.cols column_stands (bs ++ us) low_columns
      (AllPairs-append (λ j k. j ≢ k) bs us
      (chosen_once (λ j. is_basic (basis_at basis j)) f.cols)
      (chosen_once (λ j. is_at_upper (basis_at basis j)) f.cols) apart)))

  -- the cards of a basis name no row twice
  rows_once : AllPairs (λ x y. x ≢ y) (rows_on (cards_of m f basis))
  rows_once =
      subst (AllPairs (λ x y. x ≢ y)) (sym rows_are)
      (AllPairs-map (λ x y. x ≢ y) (row_name m) os
      (named_once (row_place m) (row_name m) f.rows row_stands os low_rows
      (chosen_once (λ i. not (is_basic (basis_at basis (f.cols + i)))) f.rows)))

  -- ---- pairs and columns at their upper bounds

  -- the card of a basic column and a row that is not basic says what is so in the basis, by the row's status
  pair_means_by : (j i : ℕ) → j < f.cols → is_basic (basis_at basis j) ≡ true → i < f.rows → (s : Status) →
      basis_at basis (f.cols + i) ≡ s → CanStand s (form_lower f (f.cols + i)) (form_upper f (f.cols + i)) →
      is_basic s ≡ false → Means m f basis (paired s (column_name m j) (row_name m i))
  pair_means_by j i l b r Basic e c out = cc
  pair_means_by j i l b r AtLower e c out = record {
    j = j;
    i = i;
    is_column = column_stands j l;
    is_row = row_stands i r;
    basic = basic_if (basis_at basis j) b;
    stands = e ∙ rw c.1 refl;
  }
  pair_means_by j i l b r AtUpper e c out = record {
    j = j;
    i = i;
    is_column = column_stands j l;
    is_row = row_stands i r;
    basic = basic_if (basis_at basis j) b;
    stands = e ∙ rw c.1 refl;
  }
  pair_means_by j i l b r AtZero e c out = record {
    j = j;
    i = i;
    is_column = column_stands j l;
    is_row = row_stands i r;
    basic = basic_if (basis_at basis j) b;
    stands = e ∙ rw (c.0, c.1) refl;
  }

  -- each card of a basic column and a row says what is so in the basis
  pairs_mean : All (Means m f basis) (map (pair_card m f basis) (zip bs os))
  pairs_mean =
      All-map (Means m f basis) (pair_card m f basis) (zip bs os)
      (All-weaker (λ p. IsOfBasic p.0 × IsOfOther p.1) (λ p. Means m f basis (pair_card m f basis p))
      (λ p h. pair_means_by p.0 p.1 h.0.0 h.0.1 h.1.0 (basis_at basis (f.cols + p.1)) refl
      (can (f.cols + p.1) (omega (arith, h.1.0))) h.1.1)
      (zip bs os)
      (all_zip IsOfBasic IsOfOther bs os
      (chosen_all (λ j. is_basic (basis_at basis j)) IsOfBasic f.cols (λ k l e. (l, e)))
      (chosen_all (λ i. not (is_basic (basis_at basis (f.cols + i)))) IsOfOther f.rows
      (λ k l e. (l, not-true (is_basic (basis_at basis (f.cols + k))) e)))))
    where
      IsOfBasic : ℕ → Type 0
      IsOfBasic j = (j < f.cols) × (is_basic (basis_at basis j) ≡ true)

      IsOfOther : ℕ → Type 0
      IsOfOther i = (i < f.rows) × (is_basic (basis_at basis (f.cols + i)) ≡ false)

  -- each card of a column at its upper bound says what is so in the basis
  uppers_mean : All (Means m f basis) (map (upper_card m) us)
  uppers_mean =
      All-map (Means m f basis) (upper_card m) us
      (chosen_all (λ j. is_at_upper (basis_at basis j)) (λ j. Means m f basis (upper_card m j)) f.cols
      (λ j l e. record {
        j = j;
        is_column = column_stands j l;
        bound = bound_of (basis_at basis j) (form_lower f j) (form_upper f j) e (can j (omega (arith, l)));
        stands = upper_is (basis_at basis j) e;
      }))

  -- each card of a basis says what is so in it
  all_mean : All (Means m f basis) (cards_of m f basis)
  unfolding cards_of
  all_mean =
      All-append (Means m f basis) (map (pair_card m f basis) (zip bs os)) (map (upper_card m) us)
      pairs_mean uppers_mean

  -- ---- the others

  -- a column that the cards of a basis do not name is at its lower bound, else at its upper one, else at 0
  other_columns : (j : ℕ) → j < f.cols → HasNoCard (column_place m) (columns_on (cards_of m f basis)) j →
      basis_at basis j ≡ lower_first f j
  other_columns j l h =
      usual_is (basis_at basis j) (form_lower f j) (form_upper f j)
      (chosen_missing (λ k. is_basic (basis_at basis k)) f.cols j (all_front (λ k. k ≢ j) bs us none) l)
      (chosen_missing (λ k. is_at_upper (basis_at basis k)) f.cols j (all_back (λ k. k ≢ j) bs us none) l)
      (can j (omega (arith, l)))
    where
      none : All (λ k. k ≢ j) (bs ++ us)
      none =
          unnamed (column_place m) (column_name m) f.cols column_stands (bs ++ us) j l
          (all_named (λ name. column_place m name ≢ Some j) (column_name m) (bs ++ us)
          (subst (All (λ name. column_place m name ≢ Some j)) columns_are h))

  -- the logical of a row that the cards of a basis do not name is basic
  unnamed_rows : (i : ℕ) → i < f.rows → HasNoCard (row_place m) (rows_on (cards_of m f basis)) i →
      basis_at basis (f.cols + i) ≡ Basic
  unnamed_rows i l h =
      basic_if (basis_at basis (f.cols + i)) (not-false (is_basic (basis_at basis (f.cols + i)))
      (chosen_missing (λ k. not (is_basic (basis_at basis (f.cols + k)))) f.rows i none l))
    where
      none : All (λ k. k ≢ i) os
      none =
          unnamed (row_place m) (row_name m) f.rows row_stands os i l
          (all_named (λ name. row_place m name ≢ Some i) (row_name m) os
          (subst (All (λ name. row_place m name ≢ Some i)) rows_are h))

  -- the cards that a basis is written as spell that basis
  pub cards_mean : AreCardsOf m f (cards_of m f basis) basis
  cards_mean = record {
    columns_once = columns_once;
    rows_once = rows_once;
    mean = all_mean;
    all = fits.all;
    other_columns = other_columns;
    other_rows = unnamed_rows;
  }
