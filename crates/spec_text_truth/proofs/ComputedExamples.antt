-- What the texts of the examples spell, and what their lines ask, as it is computed.
--
-- `ended_is`: the text of the examples spells the model whose objective has the right side -5.
-- `cut_is`: with one byte more in its last line the text is refused for an unknown section in line 7.
-- `asked_is`: the lines of `asked_twice` load the model, keep it twice, set the objective's right side to -6, and keep
--   it from then on.
-- `widely_is`: the lines of `asked_widely` load the model, and keep it.
use Rattle.std.proofs.Common.{◌≡◌, ◌++◌, ◌∷◌, ℤ, [], List, pos, negsuc, None, map, refl}
use Rattle.std.specs.Prelude.{codes}
use Rattle.spec_model.specs.declared.parts.Sense.TheVariants.{Min}
use Rattle.spec_model.specs.declared.parts.Kind.TheVariants.{L}
use Rattle.spec_model.specs.Model.{Model}
use Rattle.spec_edit.specs.declared.edit.Edit.TheVariants as edit
use Rattle.spec_mps.specs.declared.fault.Code.TheVariants as code
use Rattle.spec_mps.specs.declared.style.Style.TheVariants as style
use Rattle.spec_server.specs.declared.addressing.Addressing.TheVariants.{Alone}
use Rattle.spec_server.specs.Addressing.{addressed_in}
use Rattle.spec_server.specs.Command.{budget_of, style_of, command_word_of}
use Rattle.spec_server.specs.EditCommand.{number_in as edit_number_in, edit_by}
use Rattle.spec_server.specs.Script.{Between, ends_text, ends_certificate}
use Rattle.spec_text_truth.specs.FalseOutputs.{unended_text, ended_text, asked_twice, asked_widely}
use Rattle.spec_text_truth.specs.TrueOutput.{Effect, asked_from}
use Rattle.spec_text_truth.proofs.AskedEffects.{loads, edits, keeps}
use Rattle.spec_text.specs.Lines.{lines_of, line_of}
use Rattle.spec_server.specs.Output.{ended_lines}
use Rattle.spec_mps.specs.Steps.{Spelled, Refused, judge, step, section_card, finished, model_by}
use Rattle.spec_mps.specs.Fields.{free_fields, word_fields}
use Rattle.spec_mps.specs.Cards.{is_skipped}
use Rattle.spec_mps.specs.Shapes.{section_of, shaped, has_shape, row_type_of}
use Rattle.spec_text.specs.Words.{words_of}
use Rattle.spec_model.specs.Kept.{is_model_name, is_row_name, is_name, usual_limits}
use Rattle.spec_mps.specs.Reader.{start, rows_card, add_row, column_pair, columns_card, enter, number_in, opened, place_of}
use Rattle.spec_exact.specs.Fraction.{eq_ℚ, lt_ℚ, neg_ℚ, over, whole}
use Rattle.spec_exact.specs.Gcd.{gcd}
use Rattle.spec_mps.specs.NumberText.{decimal_of, exponent_of, is_narrow, mantissa_of, number_by, number_of, parts_of, quotient_of, scaled, unsigned_parts, value_of}
use Rattle.spec_mps.specs.Sides.{put_side, rhs_by, rhs_card, set_and_pairs, side_pair}

-- the model of the text, with this right side of its objective
abbrev pub model_with : ℤ → Model
model_with side = record {
  name = [];
  sense = Min;
  objective = codes "COST";
  offset = neg_ℚ (whole side);
  rows = record { name = codes "ROW"; kind = L; rhs = whole (pos 1); range = None } ∷ [];
  columns = [];
}

pub ended_is : judge usual_limits style.Free start 1 (lines_of ended_text) ≡ Spelled (model_with (negsuc 4))
unfolding lines_of ended_lines step line_of free_fields is_skipped section_card section_of word_fields words_of is_model_name rows_card shaped has_shape row_type_of add_row is_row_name eq_ℚ lt_ℚ neg_ℚ over whole gcd is_name decimal_of exponent_of is_narrow mantissa_of number_by number_of parts_of quotient_of scaled unsigned_parts value_of column_pair columns_card enter number_in opened place_of put_side rhs_by rhs_card set_and_pairs side_pair finished model_by
ended_is = refl

-- with a byte more in its last line
pub cut_is : judge usual_limits style.Free start 1 (lines_of (unended_text ++ 88 ∷ [])) ≡ Refused 7 code.UnknownSection
unfolding lines_of ended_lines step line_of free_fields is_skipped section_card section_of word_fields words_of is_model_name rows_card shaped has_shape row_type_of add_row is_row_name eq_ℚ lt_ℚ neg_ℚ over whole gcd is_name decimal_of exponent_of is_narrow mantissa_of number_by number_of parts_of quotient_of scaled unsigned_parts value_of column_pair columns_card enter number_in opened place_of put_side rhs_by rhs_card set_and_pairs side_pair finished model_by
cut_is = refl

abbrev pub asked_effects : List Effect
asked_effects =
    loads (model_with (negsuc 4)) ∷ keeps ∷ keeps ∷ edits (edit.SetRhs (codes "COST") (whole (negsuc 5))) ∷ keeps ∷ keeps ∷ keeps ∷ keeps ∷ keeps ∷ []

pub asked_is : asked_from Alone Between (lines_of asked_twice) ≡ map (λ effect. record { session = 0; effect = effect }) asked_effects
unfolding lines_of ended_lines step line_of free_fields is_skipped section_card section_of word_fields words_of is_model_name rows_card shaped has_shape row_type_of add_row is_row_name eq_ℚ lt_ℚ neg_ℚ over whole gcd is_name decimal_of exponent_of is_narrow mantissa_of number_by number_of parts_of quotient_of scaled unsigned_parts value_of column_pair columns_card enter number_in opened place_of put_side rhs_by rhs_card set_and_pairs side_pair finished model_by addressed_in budget_of style_of command_word_of edit_number_in edit_by ends_text ends_certificate
asked_is = refl

abbrev pub widely_effects : List Effect
widely_effects = loads (model_with (negsuc 4)) ∷ keeps ∷ []

pub widely_is : asked_from Alone Between (lines_of asked_widely) ≡ map (λ effect. record { session = 0; effect = effect }) widely_effects
unfolding lines_of ended_lines step line_of free_fields is_skipped section_card section_of word_fields words_of is_model_name rows_card shaped has_shape row_type_of add_row is_row_name eq_ℚ lt_ℚ neg_ℚ over whole gcd is_name decimal_of exponent_of is_narrow mantissa_of number_by number_of parts_of quotient_of scaled unsigned_parts value_of column_pair columns_card enter number_in opened place_of put_side rhs_by rhs_card set_and_pairs side_pair finished model_by addressed_in budget_of style_of command_word_of edit_number_in edit_by ends_text ends_certificate
widely_is = refl
