-- The right sides of rows, and the offset, are what the cards of RHS say.
--
-- `right_side_said`: the right side of each row of a spelled model is the number that the cards give, or 0.
-- `offset_said`: the negative of a spelled model's offset is the number that the cards give the objective, or 0.
use Rattle.std.proofs.Common.{◌≡◌, ℕ, ◌<◌, false, not, Some, Ok, ◌∷◌, refl, ap, subst}
use Rattle.std.proofs.lemmas.Bool.{not-true}
use Rattle.spec_exact.specs.Fraction.{ℚ, neg_ℚ}
use Rattle.spec_exact.proofs.Ruleset.{neg-neg, neg-zero}
use Rattle.spec_model.specs.declared.parts.SizeLimits.{SizeLimits}
use Rattle.spec_model.specs.Model.{Model, Name, ExactRow, row, height}
use Rattle.spec_mps.specs.declared.fault.Code.TheVariants as code
use Rattle.spec_mps.specs.declared.section.Section.{Section}
use Rattle.spec_mps.specs.declared.section.Section.TheVariants as section
use Rattle.spec_mps.specs.declared.style.Style.{Style}
use Rattle.spec_mps.specs.declared.target.Target.{Target}
use Rattle.spec_mps.specs.declared.target.Target.TheVariants.{Objective, Row}
use Rattle.spec_mps.specs.Reader.{State, is_among, same_target, place_of}
use Rattle.spec_mps.specs.Sides.{put_side}
use Rattle.spec_mps.specs.Steps.{SpellsWithin}
use Rattle.spec_mps.proofs.CheckSteps.{must_ok, same_ok}
use Rattle.spec_mps.proofs.Sets.{Sides}
use Rattle.spec_mps.specs.NumberCards.{IsTheNumber, texts_for, used_pairs}
use Rattle.spec_mps.specs.TextCards.{Lines, cards_in}
use Rattle.spec_mps.proofs.Frames.{Leads, without_range}
use Rattle.spec_mps.proofs.CardsSoFar.{is_section}
use Rattle.spec_mps.proofs.RowViews.{every_kind}
use Rattle.spec_mps.proofs.PairsKept.{Put, PutAt}
use Rattle.spec_mps.proofs.NumbersKept.{number_at, row_put, viewed_row, GivesNumbers, row_said, objective_said}

-- the right side of a target; that of the objective is the offset negated
abbrev side_at : State → Target → ℚ
side_at = number_at neg_ℚ (λ r. r.rhs)

-- ---- one pair

-- a right side that is read for a name is set for the row or the objective that the name stands for
side_put : (s : State) (name : Name) (place : Target) (v : ℚ) (t : State) → place_of s name ≡ Some place →
    put_side s place v ≡ Ok t → Put ℚ side_at every_kind s place v t
unfolding put_side
side_put s name Objective v t at h =
    let a = must_ok (not (is_among Objective s.paired)) code.EntryRepeated _ t h in
    subst (Put ℚ side_at every_kind s Objective v) (same_ok _ t a.1)
    (PutAt (not-true _ a.0) refl refl refl (neg-neg v) (λ x ne. elsewhere x ne))
  where
    elsewhere : (x : Target) → same_target x Objective ≡ false →
        side_at (record s { offset = neg_ℚ v; paired = Objective ∷ s.paired }) x ≡ side_at s x
    elsewhere Objective ne = absurd (cc)
    elsewhere (Row i) ne = refl
side_put s name (Row i) v t at h =
    let a = must_ok (not (is_among (Row i) s.paired)) code.EntryRepeated _ t h in
    subst (Put ℚ side_at every_kind s (Row i) v) (same_ok _ t a.1)
    (row_put neg_ℚ (λ r. r.rhs) every_kind (λ r. record r { rhs = v }) v (λ r. refl) (λ r. refl) s name i at (not-true _ a.0))

-- ---- other cards

-- a card of a section other than ROWS and RHS leaves all right sides and the offset
sides_stay : (part : Section) (s t : State) → is_section (Some part) section.Rows ≡ false →
    is_section (Some part) section.RightSides ≡ false → Leads part s t → (x : Target) → side_at t x ≡ side_at s x
sides_stay section.Rows s t e f h x = absurd (cc)
sides_stay section.RightSides s t e f h x = absurd (cc)
sides_stay section.Ranges s t e f h Objective = ap (λ (u : State). neg_ℚ u.offset) h
sides_stay section.Ranges s t e f h (Row i) =
    viewed_row (λ (r : ExactRow). r.rhs) without_range refl (λ r. refl) t.rows s.rows (ap (λ (u : State). u.rows) h) i
sides_stay part s t e f h x = ap (λ (u : State). side_at u x) h

-- ---- the model

-- the cards of RHS give right sides to the objective and to rows of every kind
sides_give : GivesNumbers ℚ neg_ℚ (λ r. r.rhs) IsTheNumber every_kind (λ v. v) Sides
sides_give =
    record {
      one = λ text v e. e;
      no_offset = neg-zero;
      no_number = λ kind name. refl;
      did = side_put;
      stay = sides_stay;
    }

pub right_side_said : (limits : SizeLimits) (style : Style) (lines : Lines) (m : Model) →
    SpellsWithin limits style lines m → (i : ℕ) → i < height m →
    IsTheNumber (texts_for (row m i).name (used_pairs (cards_in style section.RightSides lines))) (row m i).rhs
right_side_said limits style lines m h i l = row_said sides_give limits style lines m h i l refl

pub offset_said : (limits : SizeLimits) (style : Style) (lines : Lines) (m : Model) →
    SpellsWithin limits style lines m →
    IsTheNumber (texts_for m.objective (used_pairs (cards_in style section.RightSides lines))) (neg_ℚ m.offset)
offset_said = objective_said sides_give
