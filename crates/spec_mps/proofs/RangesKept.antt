-- The ranges of rows are what the cards of RANGES say.
--
-- `range_said`: the range of each row of a spelled model, but for free rows, is the one that the cards say, if any.
-- `range_by_kind`: the range of each row of a spelled model is what the cards say for its kind; a free row has none.
-- `no_range_said`: in a text that spells a model no card gives the objective a range.
use Rattle.std.proofs.Common.{◌≡◌, ℕ, ◌<◌, Bool, true, false, not, Option, Some, None, Ok, List, [], ◌∷◌, refl, ap, ◌∙◌, subst}
use Rattle.std.proofs.lemmas.Bool.{not-true}
use Rattle.spec_exact.specs.Fraction.{ℚ}
use Rattle.spec_model.specs.declared.parts.SizeLimits.{SizeLimits}
use Rattle.spec_model.specs.declared.parts.Kind.{Kind}
use Rattle.spec_model.specs.Model.{Model, Name, ExactRow, no_row, row, height, is_free}
use Rattle.spec_model.specs.Kept.{FitsKind}
use Rattle.spec_mps.specs.declared.fault.Code.TheVariants as code
use Rattle.spec_mps.specs.declared.section.Section.{Section}
use Rattle.spec_mps.specs.declared.section.Section.TheVariants as section
use Rattle.spec_mps.specs.declared.style.Style.{Style}
use Rattle.spec_mps.specs.declared.target.Target.{Target}
use Rattle.spec_mps.specs.declared.target.Target.TheVariants.{Objective, Row}
use Rattle.spec_mps.specs.Reader.{State, is_among, place_of}
use Rattle.spec_mps.specs.Sides.{new_range}
use Rattle.spec_mps.specs.Steps.{SpellsWithin}
use Rattle.spec_mps.proofs.CheckSteps.{must_ok, same_ok}
use Rattle.spec_mps.proofs.Sets.{Ranges}
use Rattle.spec_mps.proofs.CardsDid.{put_ranged, RangeDid, Forgotten, Kept, put_range_did}
use Rattle.spec_mps.proofs.SpelledKept.{spelled_kept}
use Rattle.spec_mps.specs.NumberCards.{IsTheRange, IsRangeIf, IsTheRangeOf, texts_for, used_pairs}
use Rattle.spec_mps.specs.TextCards.{Lines, cards_in}
use Rattle.spec_mps.proofs.Frames.{Leads, without_side}
use Rattle.spec_mps.proofs.CardsSoFar.{is_section}
use Rattle.spec_mps.proofs.PairsKept.{Put, PutNowhere}
use Rattle.spec_mps.proofs.NumbersKept.{number_at, row_put, row_counts, viewed_row, GivesNumbers, row_said, objective_said}
use Rattle.spec_mps.proofs.Order.{not_both}

-- the range of a target; the objective has none
abbrev range_at : State → Target → Option ℚ
range_at = number_at (λ q. None) (λ r. r.range)

-- ---- one pair

-- the kinds of rows that have ranges
abbrev is_ranged : Kind → Bool
is_ranged kind = not (is_free kind)

-- a range of a row is put there, or nowhere where the row is free
new_put : (s : State) (name : Name) (i : ℕ) (v : ℚ) (t : State) → place_of s name ≡ Some (Row i) → RangeDid s i v t →
    Put (Option ℚ) range_at is_ranged s (Row i) (Some v) t
unfolding new_range
new_put s name i v t at (Forgotten free same) = PutNowhere (row_counts is_ranged s i ∙ ap not free) same
new_put s name i v t at (Kept limited did) =
    let a = must_ok (not (is_among (Row i) s.paired)) code.EntryRepeated _ t did in
    subst (Put (Option ℚ) range_at is_ranged s (Row i) (Some v)) (same_ok _ t a.1)
    (row_put (λ q. None) (λ r. r.range) is_ranged (λ r. record r { range = Some v }) (Some v)
    (λ r. refl) (λ r. refl) s name i at (not-true _ a.0))

-- a range of a target is put there, or nowhere where the target is free
range_put : (s : State) (name : Name) (place : Target) (v : ℚ) (t : State) → place_of s name ≡ Some place →
    put_ranged s place v ≡ Ok t → Put (Option ℚ) range_at is_ranged s place (Some v) t
range_put s name Objective v t at h = absurd (cc)
range_put s name (Row i) v t at h = new_put s name i v t at (put_range_did s i v t h)

-- ---- other cards

-- a card of a section other than ROWS and RANGES leaves all ranges
ranges_stay : (part : Section) (s t : State) → is_section (Some part) section.Rows ≡ false →
    is_section (Some part) section.Ranges ≡ false → Leads part s t → (x : Target) → range_at t x ≡ range_at s x
ranges_stay section.Rows s t e f h x = absurd (cc)
ranges_stay section.Ranges s t e f h x = absurd (cc)
ranges_stay section.RightSides s t e f h Objective = refl
ranges_stay section.RightSides s t e f h (Row i) =
    viewed_row (λ (r : ExactRow). r.range) without_side refl (λ r. refl) t.rows s.rows (ap (λ (u : State). u.rows) h) i
ranges_stay part s t e f h x = ap (λ (u : State). range_at u x) h

-- ---- the model

-- the cards of RANGES give ranges to the rows that are not free, and to nothing else
ranges_give : GivesNumbers (Option ℚ) (λ q. None) (λ r. r.range) IsTheRange is_ranged (λ v. Some v) Ranges
ranges_give =
    record {
      one = λ text v e. (v, refl, e);
      no_offset = refl;
      no_number = λ kind name. refl;
      did = range_put;
      stay = ranges_stay;
    }

pub range_said : (limits : SizeLimits) (style : Style) (lines : Lines) (m : Model) → SpellsWithin limits style lines m →
    (i : ℕ) → i < height m →
    is_free (row m i).kind ≡ false →
    IsTheRange (texts_for (row m i).name (used_pairs (cards_in style section.Ranges lines))) (row m i).range
range_said limits style lines m h i l n = row_said ranges_give limits style lines m h i l (ap not n)

-- a free row has none
pub range_by_kind : (limits : SizeLimits) (style : Style) (lines : Lines) (m : Model) →
    SpellsWithin limits style lines m → (i : ℕ) → i < height m →
    IsTheRangeOf (row m i).kind (texts_for (row m i).name (used_pairs (cards_in style section.Ranges lines)))
    (row m i).range
range_by_kind limits style lines m h i l = by (is_free (row m i).kind) refl
  where
    none : (range : Option ℚ) → is_free (row m i).kind ≡ true → FitsKind (row m i).kind range → range ≡ None
    none None e f = refl
    none (Some q) e f = not_both (is_free (row m i).kind) e f

    by : (b : Bool) → is_free (row m i).kind ≡ b →
        IsRangeIf b (texts_for (row m i).name (used_pairs (cards_in style section.Ranges lines))) (row m i).range
    by true e = none (row m i).range e ((spelled_kept limits style lines m h).ranges i no_row l)
    by false e = range_said limits style lines m h i l e

-- texts that give no range are none
none_given : (texts : List (List ℕ)) → IsTheRange texts None → texts ≡ []
none_given [] h = refl
none_given (text ∷ []) h = absurd (no_some h.1)
  where
    no_some : {q : ℚ} → None ≡ Some q → ⊥
    no_some e = cc
none_given (text ∷ other ∷ more) h = absurd h

pub no_range_said : (limits : SizeLimits) (style : Style) (lines : Lines) (m : Model) →
    SpellsWithin limits style lines m →
    texts_for m.objective (used_pairs (cards_in style section.Ranges lines)) ≡ []
no_range_said limits style lines m h = none_given _ (objective_said ranges_give limits style lines m h)
