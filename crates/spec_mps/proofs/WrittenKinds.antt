-- The kinds of bounds in a written text: their words, and what their cards are read as.
--
-- `kind_item`: the word of a kind of bounds is a word with room in field 1.
-- `value_known`: a written card of bounds with a value is read as of its own kind.
-- `value_shape`: a written card of a kind that takes a value is read as its set, its column and the number's text.
-- `value_is`: a kind that takes a value, with the text of a finite bound, sets that bound.
-- `name_known`: a written card of bounds without a value is read as of its own kind.
-- `name_shape`: a written card of a kind without a value is read as its set and its column, with an empty value.
-- `name_is`: a kind that takes no value sets what the kind alone says.
use Rattle.std.proofs.Common.{◌≡◌, ℕ, ◌≤◌, true, false, Some, None, Ok, List, []}
use Rattle.std.proofs.Common.{◌∷◌, length, refl, ap, arith}
use Rattle.std.specs.Prelude.{codes}
use Rattle.spec_exact.specs.Fraction.{ℚ, 0ℚ, abs_ℚ, ◌<ℚ◌}
use Rattle.spec_exact.specs.Narrow.{IsNarrow}
use Rattle.spec_model.specs.Model.{Name}
use Rattle.spec_mps.specs.declared.style.Style.{Style}
use Rattle.spec_mps.specs.declared.style.Style.TheVariants.{Free, Fixed}
use Rattle.spec_mps.specs.declared.bound_kind.BoundKind.{BoundKind}
use Rattle.spec_mps.specs.declared.bound_kind.BoundKind.TheVariants.{Up, Lo, Fx, Fr, Mi, Pl}
use Rattle.spec_mps.specs.declared.number.BoundValue.TheVariants as value
use Rattle.spec_mps.specs.BoundText.{bound_answer, infinite}
use Rattle.spec_mps.specs.NumberWritten.{number_text, IsWord}
use Rattle.spec_mps.specs.Checks.{coded, ◌>>=◌}
use Rattle.spec_mps.specs.Shapes.{bound_kind_of, has_shape}
use Rattle.spec_mps.specs.Fields.{Fields, text_at}
use Rattle.spec_mps.specs.Bounds.{BoundCard, SetsUpper, SetsLower, SetsBoth, upper_card}
use Rattle.spec_mps.specs.Bounds.{lower_card, both_card, bound_in, bound_texts, takes_value}
use Rattle.spec_mps.specs.Bounds.{bound_card as card_of}
use Rattle.spec_mps.specs.Written.{field_at}
use Rattle.spec_mps.proofs.WrittenCards.{IsItem, read_as}
use Rattle.spec_mps.proofs.RoundTrip.{read_written}
use Rattle.spec_mps.proofs.BoundLemmas.{number_is_bound, within_from_abs}

-- the word for a kind of bounds on a written card
abbrev pub bound_word : BoundKind → List ℕ
bound_word Up = codes "UP"
bound_word Lo = codes "LO"
bound_word Fx = codes "FX"
bound_word Fr = codes "FR"
bound_word Mi = codes "MI"
bound_word Pl = codes "PL"

-- what a card of this kind sets: the bound q where the kind takes a value, else no bound
abbrev pub says : BoundKind → ℚ → BoundCard
says Up q = SetsUpper (Some q)
says Lo q = SetsLower (Some q)
says Fx q = SetsBoth (Some q) (Some q)
says Fr q = SetsBoth None None
says Mi q = SetsLower None
says Pl q = SetsUpper None

-- the written word of each kind of bounds is a word
word_is : (kind : BoundKind) → IsWord (bound_word kind)
word_is Up = record { some = refl; printable = refl }
word_is kind = record { some = refl; printable = refl }

-- the written word of each kind of bounds is read as that kind
word_known : (kind : BoundKind) → bound_kind_of (bound_word kind) ≡ Ok kind
unfolding bound_kind_of
word_known Up = refl
word_known kind = refl

pub kind_item : (style : Style) (kind : BoundKind) → IsItem style 2 (bound_word kind)
kind_item Free kind = record { word = word_is kind; room = tt }
kind_item Fixed kind = record { word = word_is kind; room = fits kind }
  where
    fits : (kind : BoundKind) → length (bound_word kind) ≤ 2
    fits Up = omega arith
    fits kind = omega arith

-- the fields of a written card of BOUNDS with a number: the kind, the set BND, the column and the number's text
abbrev pub number_fields : BoundKind → Name → ℚ → Fields
number_fields kind name q =
    field_at 1 (bound_word kind) ∷ field_at 2 (codes "BND") ∷ field_at 3 name ∷ field_at 4 (number_text q) ∷ []

-- the fields of a written card of BOUNDS without a number: the kind, the set BND and the column
abbrev pub name_fields : BoundKind → Name → Fields
name_fields kind name = field_at 1 (bound_word kind) ∷ field_at 2 (codes "BND") ∷ field_at 3 name ∷ []

-- the number has at most 127 bits and is below 10 ^ 20 in size
pub record IsBoundNumber (q : ℚ) : Type 0 where
  pub narrow : IsNarrow q
  pub small : abs_ℚ q <ℚ infinite

-- the text of a number that may be a bound is read as that finite bound
bound_reads : (q : ℚ) → IsBoundNumber q → bound_in (number_text q) ≡ Ok (value.Finite q)
unfolding bound_in
bound_reads q h =
    ap (λ r. coded (bound_answer r)) (number_is_bound (number_text q) q
    (read_written q h.narrow.top h.narrow.bottom) (within_from_abs infinite q h.small))

-- a kind that takes a value
pub value_known : (style : Style) (kind : BoundKind) (name : Name) (q : ℚ) →
    bound_kind_of (text_at 1 (read_as style (number_fields kind name q))) ≡ Ok kind
value_known Free kind name q = word_known kind
value_known Fixed kind name q = word_known kind

pub value_shape : (style : Style) (kind : BoundKind) (name : Name) (q : ℚ) → takes_value kind ≡ true →
    bound_texts style kind (read_as style (number_fields kind name q))
    ≡ Ok (record { set = Some (codes "BND"); column = name; value = number_text q })
unfolding bound_texts has_shape
value_shape style Fr name q h = cc
value_shape style Mi name q h = cc
value_shape style Pl name q h = cc
value_shape Free kind name q h = refl
value_shape Fixed kind name q h = refl

pub value_is : (kind : BoundKind) (q : ℚ) → takes_value kind ≡ true → IsBoundNumber q →
    card_of kind (number_text q) ≡ Ok (says kind q)
unfolding card_of
value_is Up q t h = ap (λ r. r >>= upper_card) (bound_reads q h)
value_is Lo q t h = ap (λ r. r >>= lower_card) (bound_reads q h)
value_is Fx q t h = ap (λ r. r >>= both_card) (bound_reads q h)
value_is kind q t h = cc

-- a kind without one
pub name_known : (style : Style) (kind : BoundKind) (name : Name) →
    bound_kind_of (text_at 1 (read_as style (name_fields kind name))) ≡ Ok kind
name_known Free kind name = word_known kind
name_known Fixed kind name = word_known kind

pub name_shape : (style : Style) (kind : BoundKind) (name : Name) → takes_value kind ≡ false →
    bound_texts style kind (read_as style (name_fields kind name))
    ≡ Ok (record { set = Some (codes "BND"); column = name; value = [] })
unfolding bound_texts has_shape
name_shape style Up name h = cc
name_shape style Lo name h = cc
name_shape style Fx name h = cc
name_shape Free kind name h = refl
name_shape Fixed kind name h = refl

pub name_is : (kind : BoundKind) → takes_value kind ≡ false → card_of kind [] ≡ Ok (says kind 0ℚ)
unfolding card_of
name_is Up h = cc
name_is Lo h = cc
name_is Fx h = cc
name_is kind h = refl
