-- What a text of a model means.
use Rattle.std.specs.Prelude.{ℕ, ◌≡◌, ◌<◌, Some, map}
use Rattle.spec_exact.specs.Fraction.{neg_ℚ}
use Rattle.spec_model.specs.Model.{Model, row, column, height, width, cost, coefficient}
use Rattle.spec_mps.specs.declared.section.Section.TheVariants as section
use Rattle.spec_mps.specs.declared.style.Style.{Style}
use Rattle.spec_mps.specs.TextCards.{Lines, cards_in, title_of}
use Rattle.spec_mps.specs.RowCards.{second_word, sense_words, IsSenseOf, typed_rows, first_free, but_first_free}
use Rattle.spec_mps.specs.ColumnCards.{named_columns, pairs_of_column}
use Rattle.spec_mps.specs.NumberCards.{texts_for, used_pairs, IsTheNumber, IsTheRangeOf}
use Rattle.spec_mps.specs.BoundCards.{bounds_of_column, lower_of, upper_of}

-- The cards of a text, in this form, describe this model: each of its names, numbers and bounds is what the cards of
-- its section say.
pub record Means (style : Style) (lines : Lines) (m : Model) : Type 0 where
  pub name : m.name ≡ second_word (title_of section.Name lines)
  pub sense : IsSenseOf (sense_words (title_of section.Sense lines) (cards_in style section.Sense lines)) m.sense
  pub objective : first_free (typed_rows (cards_in style section.Rows lines)) ≡ Some m.objective
  pub rows : map (λ r. (r.kind, r.name)) m.rows ≡ but_first_free (typed_rows (cards_in style section.Rows lines))
  pub columns : map (λ c. c.name) m.columns ≡ named_columns (cards_in style section.Columns lines)
  pub coefficients : (i j : ℕ) → i < height m → j < width m →
      IsTheNumber (texts_for (row m i).name (pairs_of_column (column m j).name (cards_in style section.Columns lines)))
      (coefficient m i j)
  pub costs : (j : ℕ) → j < width m →
      IsTheNumber (texts_for m.objective (pairs_of_column (column m j).name (cards_in style section.Columns lines)))
      (cost m j)
  pub right_sides : (i : ℕ) → i < height m →
      IsTheNumber (texts_for (row m i).name (used_pairs (cards_in style section.RightSides lines)))
      (row m i).rhs
  pub offset :
      IsTheNumber (texts_for m.objective (used_pairs (cards_in style section.RightSides lines)))
      (neg_ℚ m.offset)
  pub ranges : (i : ℕ) → i < height m →
      IsTheRangeOf (row m i).kind (texts_for (row m i).name (used_pairs (cards_in style section.Ranges lines)))
      (row m i).range
  pub lower : (j : ℕ) → j < width m →
      (column m j).lower
      ≡ lower_of style (bounds_of_column style (column m j).name (cards_in style section.Bounds lines))
  pub upper : (j : ℕ) → j < width m →
      (column m j).upper
      ≡ upper_of style (bounds_of_column style (column m j).name (cards_in style section.Bounds lines))
