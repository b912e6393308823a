-- A range that is too wide, and an answer to a text that is not all read, are refuted.
--
-- `wide_range_refuted`: the output of `range` with ends that are too wide is not true of the text.
-- `wide_ranges_refuted`: the output of `range` of all numbers with ends that are too wide is not true of the text.
-- `unended_refuted`: the output `OPTIMAL 5` is not true where the bytes that are left behind the text begin with an X.
use Rattle.std.proofs.Common.{◌≡◌, ℕ, negsuc, List, [], ◌∷◌, ◌++◌, Option, Some, None, refl, sym, ap, ◌∙◌}
use Rattle.std.proofs.Common.{subst, inl, inr, append-nil, arith}
use Rattle.std.specs.Prelude.{IfSome, codes}
use Rattle.spec_text.specs.Lines.{lines_of}
use Rattle.spec_exact.specs.Fraction.{ℚ, whole, ◌≤ℚ◌}
use Rattle.spec_model.specs.Model.{Model, Limits}
use Rattle.spec_model.specs.Kept.{row_place}
use Rattle.spec_model.specs.Truth.{IsBetween, IsOptimal}
use Rattle.spec_mps.specs.declared.fault.Code.TheVariants as code
use Rattle.spec_mps.specs.declared.style.Style.TheVariants as style
use Rattle.spec_mps.specs.NumberText.{Is, number_of, parts_of, number_by, unsigned_parts, mantissa_of, decimal_of, exponent_of}
use Rattle.spec_mps.specs.Steps.{Verdict, Spelled, Refused, Spells}
use Rattle.spec_program.specs.declared.command_line.Moved.TheVariants.{RightSide}
use Rattle.spec_program.specs.declared.command_line.CommandLine.TheVariants.{Read}
use Rattle.spec_program.specs.declared.command_line.TextCommand.TheVariants.{Solve, Range, RangeAll}
use Rattle.spec_commands.specs.RangeOut.{place_by}
use Rattle.spec_server.specs.Output.{ended_lines}
use Rattle.spec_text_truth.specs.SaidRange.{with_number, SaysEnd}
use Rattle.spec_text_truth.specs.TrueOutput.{IsModelOf, IsTrueRange, IsTrueOf}
use Rattle.spec_text_truth.specs.FalseOutputs.{unended_text, ended_text, too_wide_range, too_wide_ranges}
use Rattle.spec_text_truth.proofs.PlainText.{tested_no_feed}
use Rattle.spec_text_truth.proofs.ComputedExamples.{model_with, ended_is, cut_is}
use Rattle.spec_text_truth.proofs.RangedTexts.{printed_has_no}

-- ---- a range that is too wide

-- a model that the example's text spells, whatever is left behind the text, is the example's model
spelled_is : (after : Option (List ℕ)) (m : Model) → IsModelOf (Range RightSide (codes "ROW")) style.Free after ended_text m → m ≡ model_with (negsuc 4)
spelled_is after m h = by (spells h)
  where
    spells : IsModelOf (Range RightSide (codes "ROW")) style.Free after ended_text m → Spells style.Free (lines_of ended_text) m
    spells (inl (at_end, e)) = e
    spells (inr always) = subst (λ (bytes : List ℕ). Spells style.Free (lines_of bytes) m) (append-nil ended_text) (always [])

    by : Spells style.Free (lines_of ended_text) m → m ≡ model_with (negsuc 4)
    by e = let same : ◌≡◌ {A = Verdict} (Spelled m) (Spelled (model_with (negsuc 4))) = sym e ∙ ended_is in cc

-- the text `NONE` reads as no number
no_number : (v : ℚ) → number_of (codes "NONE") ≡ Is v → ⊥
unfolding number_of parts_of unsigned_parts mantissa_of decimal_of exponent_of number_by
no_number v e = cc

-- each number lies between ends of which the texts are `NONE`
endless : (ends : Limits) (v : ℚ) → SaysEnd (codes "NONE") ends.lower → SaysEnd (codes "NONE") ends.upper → IsBetween ends v
endless ends v low high = record { lower = below ends.lower low; upper = above ends.upper high }
  where
    below : (end : Option ℚ) → SaysEnd (codes "NONE") end → IfSome end (λ k. k ≤ℚ v)
    below None h = tt
    below (Some w) h = absurd (no_number w h)

    above : (end : Option ℚ) → SaysEnd (codes "NONE") end → IfSome end (λ k. v ≤ℚ k)
    above None h = tt
    above (Some w) h = absurd (no_number w h)

-- the row `ROW` of the example's model is in place 0
place_is : (m : Model) (at : ℕ) → m ≡ model_with (negsuc 4) → place_by RightSide m (codes "ROW") ≡ Some at → at ≡ 0
unfolding row_place
place_is m at same e =
    let found : ◌≡◌ {A = Option ℕ} (Some 0) (Some at) =
    sym (ap (λ (m : Model). place_by RightSide m (codes "ROW")) same) ∙ e in
    cc

-- the model has an optimal value with -1 as the right side of the row of number `at`
abbrev HasOptimum : Model → ℕ → Type 0
HasOptimum m at = (v : ℚ) × IsOptimal (with_number RightSide m at (whole (negsuc 0))) v

-- the example's model with -1 as the right side of its row has no optimal value
none_below : HasOptimum (model_with (negsuc 4)) 0 → ⊥
unfolding whole
none_below h =
    let inside = h.1.point.1.rows 0 (omega arith) in
    let low = inside.upper in
    omega (arith, low)

-- no range without ends is true of the right side of the row of the example's model
range_refuted : (m : Model) → m ≡ model_with (negsuc 4) →
    IsTrueRange RightSide (codes "ROW") m (codes "5") (codes "NONE") (codes "NONE") (codes "0") → ⊥
range_refuted m same s =
    let here : s.at ≡ 0 = place_is m s.at same s.named in
    let found : HasOptimum m s.at = (_, s.optimal (whole (negsuc 0)) (endless s.ends (whole (negsuc 0)) s.says_low s.says_high)) in
    none_below
    (subst (λ (at : ℕ). HasOptimum (model_with (negsuc 4)) at) here (subst (λ (m : Model). HasOptimum m s.at) same found))

pub wide_range_refuted : (after : Option (List ℕ)) (behind : List ℕ) →
    IsTrueOf (Read (Range RightSide (codes "ROW")) style.Free) after ended_text (too_wide_range ++ behind) → ⊥
unfolding ended_lines
wide_range_refuted after behind h =
    let said =
    h.1 (codes "5") (codes "NONE") (codes "NONE") (codes "0") behind (tested_no_feed (codes "5") refl)
    (printed_has_no 32 (omega arith) (codes "NONENONE") refl) (tested_no_feed (codes "0") refl) refl in
    range_refuted said.0 (spelled_is after said.0 said.1) said.2

pub wide_ranges_refuted : (after : Option (List ℕ)) (behind : List ℕ) →
    IsTrueOf (Read RangeAll style.Free) after ended_text (too_wide_ranges ++ behind) → ⊥
unfolding ended_lines
wide_ranges_refuted after behind h =
    let said =
    h.1 RightSide (codes "ROW") (codes "rhs ROW RANGE 0 NONE SLOPE 0" ∷ [])
    (printed_has_no 32 (omega arith) (codes "ROW") refl) (codes "5") (codes "NONE") (codes "NONE") (codes "0") behind
    (tested_no_feed (codes "5") refl) (printed_has_no 32 (omega arith) (codes "NONENONE") refl)
    (tested_no_feed (codes "0") refl) refl in
    range_refuted said.0 (spelled_is after said.0 said.1) said.2

-- ---- a text that is not all read

-- with one byte more in its last line the example's text spells no model
unended_no_model : (left : List ℕ) (m : Model) → IsModelOf Solve style.Free (Some (88 ∷ left)) unended_text m → ⊥
unended_no_model left m (inl (at_end, e)) = by at_end
  where
    by : ◌≡◌ {A = List ℕ} (88 ∷ left) [] → ⊥
    by e = cc
unended_no_model left m (inr always) =
    let same : ◌≡◌ {A = Verdict} (Spelled m) (Refused 7 code.UnknownSection) = sym (always (88 ∷ [])) ∙ cut_is in
    cc

pub unended_refuted : (left behind : List ℕ) →
    IsTrueOf (Read Solve style.Free) (Some (88 ∷ left)) unended_text (codes "OPTIMAL 5" ++ 10 ∷ behind) → ⊥
unended_refuted left behind h =
    let said = (h (codes "OPTIMAL 5") behind (tested_no_feed (codes "OPTIMAL 5") refl) refl).optimal (codes "5") refl in
    unended_no_model left said.0 said.1
