-- Packed words are the words of their basis, and well-formed words of a form's shape have one of its bases.
--
-- `unpacked_length`: words that say n columns unpack to n statuses.
-- `unpacked_at`: the status of a column of the words is the one at its place in the unpacked basis.
-- `front_is`: the first 25 packed words of a form and a basis are the shape of the form.
-- `same_bases`: a basis of one form is one of each form of the same shape.
use Rattle.std.proofs.Common.{◌≡◌, ℕ, ◌+◌, ◌*◌, ◌/◌, ◌%◌, ◌^◌, ◌<◌, ◌≤◌, List, length, get_or, take}
use Rattle.std.proofs.Common.{Option, Some, None, true, false, refl, sym, ap, ap₂, ◌∙◌, subst, arith}
use Rattle.std.proofs.lemmas.List.{ext_get_or, get_or-take, take_at}
use Rattle.spec_exact.specs.Fraction.{ℚ}
use Rattle.spec_pivot.specs.declared.status.Status.{Status}
use Rattle.spec_pivot.specs.declared.status.Status.TheVariants.{Basic, AtLower, AtUpper, AtZero}
use Rattle.spec_simplex.specs.Form.{Form, IsForm, form_lower, form_upper}
use Rattle.spec_exact.proofs.RunsInOrder.{length-made, get_or-made}
use Rattle.spec_simplex.specs.Eliminate.{basis_at, basics_below, CanStand, IsBasisOf}
use Rattle.spec_board.specs.Words.{bounds_code, status_code, status_of, suits, words_of, places}
use Rattle.spec_board.specs.Words.{form_code, basis_code, shape_of, packed, unpacked, rows_of, cols_of}
use Rattle.spec_board.specs.Words.{columns_of, bounds_at, status_at, IsWellFormed, SameShape}
use Rattle.spec_board.proofs.PackedPlaces.{form_unused, basis_unused, shape_length, packed_length, shape_bits, front_bits}
use Rattle.spec_board.proofs.PackedPlaces.{basis_bits, shape_rows, shape_cols, packed_rows, packed_cols, packed_columns}

-- ---- statuses

-- the status of the code of a status is that status
status_back : (s : Status) → status_of (status_code s) ≡ s
status_back Basic = refl
status_back AtLower = refl
status_back AtUpper = refl
status_back AtZero = refl

-- a status that a column between bounds can have suits the code of the bounds
can_suits : (s : Status) (l u : Option ℚ) → CanStand s l u → suits s (bounds_code l u) ≡ true
can_suits Basic l u h = refl
can_suits AtLower None u h = cc
can_suits AtLower (Some l) None h = refl
can_suits AtLower (Some l) (Some u) h = refl
can_suits AtUpper l None h = cc
can_suits AtUpper None (Some u) h = refl
can_suits AtUpper (Some l) (Some u) h = refl
can_suits AtZero None None h = refl
can_suits AtZero None (Some u) h = cc
can_suits AtZero (Some l) u h = cc

-- a status that suits the code of two bounds is one that a column between these bounds can have
suits_can : (s : Status) (l u : Option ℚ) → suits s (bounds_code l u) ≡ true → CanStand s l u
suits_can Basic l u h = tt
suits_can AtLower None None h = let z : false ≡ true = h in cc
suits_can AtLower None (Some u) h = let z : false ≡ true = h in cc
suits_can AtLower (Some l) u h = (l, refl)
suits_can AtUpper None None h = let z : false ≡ true = h in cc
suits_can AtUpper (Some l) None h = let z : false ≡ true = h in cc
suits_can AtUpper l (Some u) h = (u, refl)
suits_can AtZero None None h = (refl, refl)
suits_can AtZero None (Some u) h = let z : false ≡ true = h in cc
suits_can AtZero (Some l) None h = let z : false ≡ true = h in cc
suits_can AtZero (Some l) (Some u) h = let z : false ≡ true = h in cc

-- ---- unpacked words, column by column
pub unpacked_length : (words : List ℕ) → length (unpacked words) ≡ columns_of words
unfolding unpacked
unpacked_length words = length-made (columns_of words) (status_at words)

pub unpacked_at : (words : List ℕ) (c : ℕ) → c < columns_of words → basis_at (unpacked words) c ≡ status_at words c
unfolding unpacked
unpacked_at words c h = get_or-made (columns_of words) (status_at words) c Basic h

module _ (f : Form) (is : IsForm f) where
  -- a form has at most as many structural and logical columns as words have room for
  few : f.cols + f.rows ≤ places
  few = omega (arith, is.few_rows, is.few_columns)

  -- ---- packed words
  module _ (basis : List Status) (all : length basis ≡ f.cols + f.rows) where
    -- the status of a column that the packed words say is that of the basis
    packed_status : (c : ℕ) → c < f.cols + f.rows → status_at (packed f basis) c ≡ basis_at basis c
    packed_status c h = ap status_of (basis_bits f basis c (omega (arith, h, few))) ∙ status_back (basis_at basis c)

    -- the packed words of a list of statuses, one for each column, are unpacked to that list
    pub unpacked_packed : unpacked (packed f basis) ≡ basis
    unpacked_packed =
        ext_get_or Basic (unpacked (packed f basis)) basis
        (unpacked_length (packed f basis) ∙ packed_columns f basis is ∙ sym all)
        (λ c h. let l : c < columns_of (packed f basis) = omega (arith, h, unpacked_length (packed f basis)) in
        unpacked_at (packed f basis) c l ∙ packed_status c (omega (arith, l, packed_columns f basis is)))

  -- the packed words of a basis of the form are well formed
  pub packed_fits : (basis : List Status) → IsBasisOf f basis → IsWellFormed (packed f basis)
  packed_fits basis b = record {
    all = packed_length f basis;
    few_rows = omega (arith, packed_rows f basis is, is.few_rows);
    few_columns = omega (arith, packed_cols f basis is, is.few_columns);
    count =
        ap₂ basics_below (unpacked_packed basis b.all) (packed_columns f basis is)
        ∙ b.count ∙ sym (packed_rows f basis is);
    suit = λ c h. let l : c < f.cols + f.rows = omega (arith, h, packed_columns f basis is) in
        ap₂ suits (packed_status basis b.all c l) (front_bits f basis c (omega (arith, l, few)))
        ∙ can_suits (basis_at basis c) (form_lower f c) (form_upper f c) (b.stand c l);
    rest = λ c h p. let l : f.cols + f.rows ≤ c = omega (arith, h, packed_columns f basis is) in (
      front_bits f basis c p ∙ form_unused f is c l,
      basis_bits f basis c p ∙ basis_unused basis c (omega (arith, l, b.all)),
    );
  }

  -- ---- well-formed words of the form's shape
  module _ (words : List ℕ) (same : take 25 words ≡ shape_of f) where
    -- where words begin with the form's shape, each of their first 25 words is that of the shape
    pub same_word : (w : ℕ) → w < 25 → get_or words w 0 ≡ get_or (shape_of f) w 0
    same_word w h = sym (get_or-take 25 words w 0 h) ∙ ap (λ ws. get_or ws w 0) same

    -- words that begin with the form's shape say its number of rows
    same_rows : rows_of words ≡ f.rows
    same_rows = ap (λ w. w / 65536) (same_word 0 (omega arith)) ∙ shape_rows f is

    -- words that begin with the form's shape say its number of structural columns
    same_cols : cols_of words ≡ f.cols
    same_cols = ap (λ w. w % 65536) (same_word 0 (omega arith)) ∙ shape_cols f is

    -- words that begin with the form's shape say its number of structural and logical columns
    same_columns : columns_of words ≡ f.cols + f.rows
    same_columns = ap₂ ◌+◌ same_cols same_rows

    -- words that begin with the form's shape say of each column which bounds it has in the form
    same_bounds : (c : ℕ) → c < places → bounds_at words c ≡ form_code f c
    same_bounds c h =
        ap (λ w. w / 2 ^ (2 * (c % 32)) % 4) (same_word (1 + c / 32) (omega (arith, h))) ∙ shape_bits f c h

    -- well-formed words that begin with the form's shape are unpacked to a basis of the form
    pub unpacked_fits : IsWellFormed words → IsBasisOf f (unpacked words)
    unpacked_fits w = record {
      all = unpacked_length words ∙ same_columns;
      stand = λ c h. let l : c < columns_of words = omega (arith, h, same_columns) in
          suits_can (basis_at (unpacked words) c) (form_lower f c) (form_upper f c)
          (ap₂ suits (unpacked_at words c l) (sym (same_bounds c (omega (arith, h, few)))) ∙ w.suit c l);
      count = ap (basics_below (unpacked words)) (sym same_columns) ∙ w.count ∙ same_rows;
    }

-- ---- two forms of one shape
pub front_is : (f : Form) (basis : List Status) → take 25 (packed f basis) ≡ shape_of f
unfolding packed
front_is f basis = take_at (shape_of f) (words_of (basis_code basis)) 25 (shape_length f)

pub same_bases : (f g : Form) → IsForm f → IsForm g → SameShape f g → (basis : List Status) → IsBasisOf f basis →
    IsBasisOf g basis
same_bases f g is that same basis b =
    subst (IsBasisOf g) (unpacked_packed f is basis b.all)
    (unpacked_fits g that (packed f basis) (front_is f basis ∙ same) (packed_fits f is basis b))
