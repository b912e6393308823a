-- Words in which the shape of a form, and a basis of it, are passed on.
--
-- Word 0 has the numbers of rows and columns. Words 1 to 24 have two bits for each structural and then each logical
-- column, which say what bounds it has, and words 25 to 48 two bits for its status: those of column c stand at bit 2 *
-- (c % 32) of word 1 + c / 32 and of word 25 + c / 32. There are 24 * 32 = 768 columns at most; the bits of those that
-- a form does not have are 0. The first 25 words are the shape of the form.
use Rattle.std.specs.Prelude.{◌≡◌, ℕ, zero, suc, ◌+◌, ◌*◌, ◌/◌, ◌%◌, ◌^◌, ◌<◌, ◌≤◌, List, ◌∷◌}
use Rattle.std.specs.Prelude.{◌++◌, length, get_or, Option, Some, None, Bool, true, nat_eq, nat_le}
use Rattle.spec_exact.specs.Fraction.{ℚ}
use Rattle.spec_model.specs.Kept.{row_limit, column_limit}
use Rattle.spec_pivot.specs.declared.status.Status.{Status}
use Rattle.spec_pivot.specs.declared.status.Status.TheVariants.{Basic, AtLower, AtUpper, AtZero}
use Rattle.spec_simplex.specs.Form.{Form, form_lower, form_upper}
use Rattle.spec_exact.specs.Run.{made}
use Rattle.spec_simplex.specs.Eliminate.{basis_at, basics_below}

-- ---- two bits for each column

-- the number for which bounds a column has: 0 for none, 1 for the lower, 2 for the upper, 3 for both
abbrev pub bounds_code : Option ℚ → Option ℚ → ℕ
bounds_code None None = 0
bounds_code (Some l) None = 1
bounds_code None (Some u) = 2
bounds_code (Some l) (Some u) = 3

-- the two bits for a status
abbrev pub status_code : Status → ℕ
status_code Basic = 0
status_code AtLower = 1
status_code AtUpper = 2
status_code AtZero = 3

-- the status of which these are the two bits by `status_code`; a number above 3 stands for `AtZero`, as 3 does
abbrev pub status_of : ℕ → Status
status_of zero = Basic
status_of (suc zero) = AtLower
status_of (suc (suc zero)) = AtUpper
status_of (suc (suc (suc n))) = AtZero

-- whether a column with the bounds of this code can have this status: basic always, at a bound only if it has that one,
-- at 0 only if it has none
abbrev pub suits : Status → ℕ → Bool
suits Basic bounds = true
suits AtLower bounds = nat_eq (bounds % 2) 1
suits AtUpper bounds = nat_le 2 bounds
suits AtZero bounds = nat_eq bounds 0

-- ---- words

-- the most columns that the words of a basis have room for: 768
abbrev pub places : ℕ
places = 768

-- the word of n columns from column c, of which each has the bits `code`; those of the first column are the lowest
abbrev pub word_from : (ℕ → ℕ) → ℕ → ℕ → ℕ
word_from code c zero = 0
word_from code c (suc n) = code c + 4 * word_from code (c + 1) n

-- the 24 words with the two bits of each of 768 columns, by their numbers
abbrev pub words_of : (ℕ → ℕ) → List ℕ
words_of code = made 24 (λ w. word_from code (32 * w) 32)

-- the two bits of column c, in words of which the bits of columns begin with word `first`; a word that is not there
-- counts as 0
abbrev pub code_at : ℕ → List ℕ → ℕ → ℕ
code_at first words c = get_or words (first + c / 32) 0 / 2 ^ (2 * (c % 32)) % 4

-- ---- of a form and a basis

-- the two bits for the bounds of column c of a form
abbrev pub form_code : Form → ℕ → ℕ
form_code f c = bounds_code (form_lower f c) (form_upper f c)

-- the two bits for the status of column c in a basis
abbrev pub basis_code : List Status → ℕ → ℕ
basis_code basis c = status_code (basis_at basis c)

-- the shape of a form: a word with 65,536 times the number of its rows, plus that of its structural columns; and 24
-- words that say which bounds its structural and logical columns have
unfoldable pub shape_of : Form → List ℕ
shape_of f = (65536 * f.rows + f.cols) ∷ words_of (form_code f)

-- the words of a basis of a form: the form's shape, and 24 words with the statuses
unfoldable pub packed : Form → List Status → List ℕ
packed f basis = shape_of f ++ words_of (basis_code basis)

-- ---- of words

-- the number of rows that word 0 says: its quotient by 65,536
abbrev pub rows_of : List ℕ → ℕ
rows_of words = get_or words 0 0 / 65536

-- the number of structural columns that word 0 says: its remainder by 65,536
abbrev pub cols_of : List ℕ → ℕ
cols_of words = get_or words 0 0 % 65536

-- the number of structural and logical columns that word 0 says
abbrev pub columns_of : List ℕ → ℕ
columns_of words = cols_of words + rows_of words

-- the two bits that say which bounds column c has
abbrev pub bounds_at : List ℕ → ℕ → ℕ
bounds_at words c = code_at 1 words c

-- the status of column c that words of a basis say
abbrev pub status_at : List ℕ → ℕ → Status
status_at words c = status_of (code_at 25 words c)

-- the basis that packed words hold: the statuses of all columns
unfoldable pub unpacked : List ℕ → List Status
unpacked words = made (columns_of words) (status_at words)

-- each column's status suits the bounds that the words say it has
abbrev pub AllSuit : List ℕ → Type 0
AllSuit words = (c : ℕ) → c < columns_of words → suits (status_at words c) (bounds_at words c) ≡ true

-- the bits of bounds and of statuses that belong to no column of the words, up to the 768 that have room, are 0
abbrev pub RestIsZero : List ℕ → Type 0
RestIsZero words = (c : ℕ) → columns_of words ≤ c → c < places → (bounds_at words c ≡ 0) × (code_at 25 words c ≡ 0)

-- what holds of the words of a basis, and is enough for them to have one: they are 49, with no more rows and columns
-- than there can be, as many basic columns as rows, statuses that suit their bounds, and bits 0 for other columns
pub record IsWellFormed (words : List ℕ) : Type 0 where
  pub all : length words ≡ 49
  pub few_rows : rows_of words ≤ row_limit
  pub few_columns : cols_of words ≤ column_limit
  pub count : basics_below (unpacked words) (columns_of words) ≡ rows_of words
  pub suit : AllSuit words
  pub rest : RestIsZero words

-- the words of the two forms' shapes are the same: those of their sizes, and of which bounds each column has
abbrev pub SameShape : Form → Form → Type 0
SameShape f g = shape_of f ≡ shape_of g
