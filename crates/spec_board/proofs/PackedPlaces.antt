-- Which words, and which bits of them, packed words have for the rows, the columns and the statuses.
--
-- `form_small`: the code of a column's bounds is less than 4.
-- `basis_small`: the code of a column's status is less than 4.
-- `form_unused`: beyond the columns and rows of a form the code of bounds is 0.
-- `basis_unused`: beyond the statuses of a basis the code of a status is 0.
-- `shape_length`: a shape has 25 words.
-- `packed_length`: the packed words of a basis are 49.
-- `front_word`: the first 25 words of a packed basis are those of its form's shape.
-- `shape_bits`: the bits of a column in the shape are the code of its bounds.
-- `front_bits`: the bits of a column in front of the packed words are the code of its bounds.
-- `basis_bits`: the bits of a column behind the shape are the code of its status.
-- `shape_rows`: word 0 of a form's shape has the form's number of rows.
-- `shape_cols`: word 0 of a form's shape has the form's number of structural columns.
-- `packed_rows`: word 0 of a packed basis has the form's number of rows.
-- `packed_cols`: word 0 of a packed basis has the form's number of structural columns.
-- `packed_columns`: word 0 of a packed basis has the form's number of structural and logical columns.
-- `packed_small`: each packed word is less than 2 ^ 64.
use Rattle.std.proofs.Common.{◌≡◌, ℕ, suc, ◌+◌, ◌-◌, ◌*◌, ◌/◌, ◌%◌, ◌^◌, ◌<◌, ◌≤◌, List}
use Rattle.std.proofs.Common.{length, get_or, Option, Some, None, refl, ap, ap₂, ◌∙◌, arith}
use Rattle.std.proofs.lemmas.List.{length-append, get_or_past, get_or_append_left, get_or-append_right}
use Rattle.std.proofs.lemmas.List.Elements.{All-cons, All-append}
use Rattle.std.specs.Prelude.{All}
use Rattle.spec_exact.specs.Fraction.{ℚ}
use Rattle.spec_pivot.specs.declared.status.Status.{Status}
use Rattle.spec_pivot.specs.declared.status.Status.TheVariants.{Basic, AtLower, AtUpper, AtZero}
use Rattle.spec_simplex.specs.Form.{Form, IsForm, form_lower, form_upper}
use Rattle.spec_exact.proofs.RunsInOrder.{length-made, get_or-made, All-made}
use Rattle.spec_board.specs.Words.{bounds_code, status_code, word_from, words_of, places, code_at, form_code}
use Rattle.spec_board.specs.Words.{basis_code, shape_of, packed, rows_of, cols_of, columns_of, bounds_at}
use Rattle.spec_board.proofs.Digits.{word_fits, digit_is}

-- ---- codes

-- the code of two bounds is below 4
small_bounds : (l u : Option ℚ) → bounds_code l u < 4
small_bounds None None = omega arith
small_bounds (Some l) None = omega arith
small_bounds None (Some u) = omega arith
small_bounds (Some l) (Some u) = omega arith

-- the code of a status is below 4
small_status : (s : Status) → status_code s < 4
small_status Basic = omega arith
small_status AtLower = omega arith
small_status AtUpper = omega arith
small_status AtZero = omega arith

pub form_small : (f : Form) (c : ℕ) → form_code f c < 4
form_small f c = small_bounds (form_lower f c) (form_upper f c)

pub basis_small : (basis : List Status) (c : ℕ) → basis_code basis c < 4
basis_small basis c = small_status _

-- columns that a form does not have
pub form_unused : (f : Form) → IsForm f → (c : ℕ) → f.cols + f.rows ≤ c → form_code f c ≡ 0
form_unused f h c p =
    ap₂ bounds_code (get_or_past f.lower c None (omega (arith, p, h.all_lower)))
    (get_or_past f.upper c None (omega (arith, p, h.all_upper)))

pub basis_unused : (basis : List Status) (c : ℕ) → length basis ≤ c → basis_code basis c ≡ 0
basis_unused basis c p = ap status_code (get_or_past basis c Basic p)

-- ---- words
pub shape_length : (f : Form) → length (shape_of f) ≡ 25
unfolding shape_of
shape_length f = ap suc (length-made 24 (λ w. word_from (form_code f) (32 * w) 32))

pub packed_length : (f : Form) (basis : List Status) → length (packed f basis) ≡ 49
unfolding packed
packed_length f basis =
    omega (
      arith,
      length-append (shape_of f) (words_of (basis_code basis)),
      shape_length f,
      length-made 24 (λ w. word_from (basis_code basis) (32 * w) 32),
    )

-- the first word of a form's shape is 65,536 times its rows plus its columns
first_word : (f : Form) → get_or (shape_of f) 0 0 ≡ 65536 * f.rows + f.cols
unfolding shape_of
first_word f = refl

-- word w + 1 of a form's shape is made of the codes of the bounds of 32 columns from 32 w on
shape_word : (f : Form) (w : ℕ) → w < 24 → get_or (shape_of f) (1 + w) 0 ≡ word_from (form_code f) (32 * w) 32
unfolding shape_of
shape_word f w h =
    (let z : 1 + w ≡ suc w = omega arith in ap (λ k. get_or (shape_of f) k 0) z)
    ∙ get_or-made 24 (λ w. word_from (form_code f) (32 * w) 32) w 0 h

pub front_word : (f : Form) (basis : List Status) (w : ℕ) → w < 25 →
    get_or (packed f basis) w 0 ≡ get_or (shape_of f) w 0
unfolding packed
front_word f basis w h =
    get_or_append_left (shape_of f) (words_of (basis_code basis)) 0 w (omega (arith, h, shape_length f))

-- word w of the statuses is made of the codes of the statuses of 32 columns from 32 w on
basis_word : (f : Form) (basis : List Status) (w : ℕ) → w < 24 →
    get_or (packed f basis) (25 + w) 0 ≡ word_from (basis_code basis) (32 * w) 32
unfolding packed
basis_word f basis w h =
    get_or-append_right (shape_of f) (words_of (basis_code basis)) 25 (25 + w) 0 (shape_length f) (omega arith)
    ∙ (let z : 25 + w - 25 ≡ w = omega arith in ap (λ k. get_or (words_of (basis_code basis)) k 0) z)
    ∙ get_or-made 24 (λ w. word_from (basis_code basis) (32 * w) 32) w 0 h

-- ---- bits

-- where each word is made of the codes of its 32 columns, the code of column c is read from its word
code_in : (code : ℕ → ℕ) → ((c : ℕ) → code c < 4) → (first : ℕ) (words : List ℕ) (c : ℕ) →
    get_or words (first + c / 32) 0 ≡ word_from code (32 * (c / 32)) 32 → code_at first words c ≡ code c
code_in code small first words c e =
    ap (λ w. w / 2 ^ (2 * (c % 32)) % 4) e ∙ digit_is code small (32 * (c / 32)) 32 (c % 32) (omega arith)
    ∙ (let z : 32 * (c / 32) + c % 32 ≡ c = omega arith in ap code z)

pub shape_bits : (f : Form) (c : ℕ) → c < places → bounds_at (shape_of f) c ≡ form_code f c
shape_bits f c h = code_in (form_code f) (form_small f) 1 (shape_of f) c (shape_word f (c / 32) (omega (arith, h)))

pub front_bits : (f : Form) (basis : List Status) (c : ℕ) → c < places → bounds_at (packed f basis) c ≡ form_code f c
front_bits f basis c h =
    code_in (form_code f) (form_small f) 1 (packed f basis) c
    (front_word f basis (1 + c / 32) (omega (arith, h)) ∙ shape_word f (c / 32) (omega (arith, h)))

pub basis_bits : (f : Form) (basis : List Status) (c : ℕ) → c < places →
    code_at 25 (packed f basis) c ≡ basis_code basis c
basis_bits f basis c h =
    code_in (basis_code basis) (basis_small basis) 25
    (packed f basis) c (basis_word f basis (c / 32) (omega (arith, h)))

-- ---- the numbers of rows and columns

-- where n is below 65,536, the quotient of 65,536 m + n by 65,536 is m
rows_in : (m n : ℕ) → n < 65536 → (65536 * m + n) / 65536 ≡ m
rows_in m n h = omega (arith, h)

-- where n is below 65,536, the remainder of 65,536 m + n by 65,536 is n
cols_in : (m n : ℕ) → n < 65536 → (65536 * m + n) % 65536 ≡ n
cols_in m n h = omega (arith, h)

pub shape_rows : (f : Form) → IsForm f → rows_of (shape_of f) ≡ f.rows
shape_rows f h = ap (λ w. w / 65536) (first_word f) ∙ rows_in f.rows f.cols (omega (arith, h.few_columns))

pub shape_cols : (f : Form) → IsForm f → cols_of (shape_of f) ≡ f.cols
shape_cols f h = ap (λ w. w % 65536) (first_word f) ∙ cols_in f.rows f.cols (omega (arith, h.few_columns))

pub packed_rows : (f : Form) (basis : List Status) → IsForm f → rows_of (packed f basis) ≡ f.rows
packed_rows f basis h = ap (λ w. w / 65536) (front_word f basis 0 (omega arith)) ∙ shape_rows f h

pub packed_cols : (f : Form) (basis : List Status) → IsForm f → cols_of (packed f basis) ≡ f.cols
packed_cols f basis h = ap (λ w. w % 65536) (front_word f basis 0 (omega arith)) ∙ shape_cols f h

pub packed_columns : (f : Form) (basis : List Status) → IsForm f → columns_of (packed f basis) ≡ f.cols + f.rows
packed_columns f basis h = ap₂ ◌+◌ (packed_cols f basis h) (packed_rows f basis h)

-- ---- each word has 64 bits

-- words that are made of codes below 4 are below 2 ^ 64
words_small : (code : ℕ → ℕ) → ((c : ℕ) → code c < 4) → All (λ w. w < 2 ^ 64) (words_of code)
words_small code small =
    All-made (λ w. w < 2 ^ 64) 24 (λ w. word_from code (32 * w) 32) (λ w h. word_fits code small (32 * w) 32)

-- each word of a form's shape is below 2 ^ 64
shape_small : (f : Form) → IsForm f → All (λ w. w < 2 ^ 64) (shape_of f)
unfolding shape_of
shape_small f h =
    All-cons (λ w. w < 2 ^ 64) (65536 * f.rows + f.cols) (words_of (form_code f))
    (omega (arith, h.few_rows, h.few_columns)) (words_small (form_code f) (form_small f))

pub packed_small : (f : Form) (basis : List Status) → IsForm f → All (λ w. w < 2 ^ 64) (packed f basis)
unfolding packed
packed_small f basis h =
    All-append (λ w. w < 2 ^ 64) (shape_of f) (words_of (basis_code basis))
    (shape_small f h) (words_small (basis_code basis) (basis_small basis))
