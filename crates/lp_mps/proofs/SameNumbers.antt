-- One definition of the numbers that cards give rows agrees with those of the sections.
--
-- `entries_are`: `pairs_by`, for entries, reads pairs as `column_pairs` does, the definition of COLUMNS.
-- `rhs_card_is`: `set_card`, for right sides, reads a card as `rhs_card` does, the definition of RHS.
-- `ranges_card_is`: `set_card`, for ranges, reads a card as `ranges_card` does, the definition of RANGES.
use Rattle.std.proofs.Common.{◌≡◌, ℕ, Bool, true, false, Some, None, Ok, Err, List, [], ◌∷◌, get_or, cond, refl, ap, ◌∙◌}
use Rattle.spec_model.specs.Model.{Name, no_row, is_free}
use Rattle.spec_mps.specs.declared.fault.Code.TheVariants as code
use Rattle.spec_mps.specs.declared.style.Style.{Style}
use Rattle.spec_mps.specs.declared.section.Section.TheVariants as section
use Rattle.spec_mps.specs.Shapes.{shaped}
use Rattle.spec_mps.specs.declared.target.Target.TheVariants.{Objective, Row}
use Rattle.spec_mps.specs.declared.target.Target.{Target}
use Rattle.spec_mps.specs.Fields.{Fields}
use Rattle.spec_mps.specs.Checks.{Check, ◌>>=◌, need}
use Rattle.spec_mps.specs.Reader.{State, place_of, number_in, enter, column_pair, column_pairs}
use Rattle.spec_mps.specs.Sides.{SetAndPairs, put_side, side_pair, side_pairs, rhs_by, rhs_card, ranged_row}
use Rattle.spec_mps.specs.Sides.{is_used, set_and_pairs, new_range, put_range, range_pair, range_pairs, ranges_by, ranges_card}
use Rattle.lp_mps.specs.declared.read.numbers.Numbers.TheVariants.{Entries, Sides, Ranges}
use Rattle.lp_mps.specs.Numbers.{put_if, place_by, pair_by, pairs_by, set_by, set_card}

-- where two checks are the same, and so is what follows each result, the checks in turn are the same
next : {A : Type 0} (a b : Check A) (f g : A → Check State) → a ≡ b → ((x : A) → f x ≡ g x) → (a >>= f) ≡ (b >>= g)
next (Ok x) b f g e h = h x ∙ ap (λ c. c >>= g) e
next (Err code) b f g e h = ap (λ c. c >>= g) e

-- ---- one by one

-- `pair_by`, for entries, checks the pair of a row's name and a number's text as `column_pair` does
entry_is : (s : State) (name : Name) (text : List ℕ) → pair_by Entries s name text ≡ column_pair s name text
unfolding column_pair enter
entry_is s name text = next (need (place_of s name) code.UnknownRow) _ _ _ refl by
  where
    by : (t : Target) → place_by Entries s text t ≡ (number_in text >>= λ v. enter s t v)
    by t = refl

-- `pair_by`, for right sides, checks a pair as `side_pair` does
side_is : (s : State) (name : Name) (text : List ℕ) → pair_by Sides s name text ≡ side_pair s name text
unfolding side_pair put_side
side_is s name text = next (need (place_of s name) code.UnknownRow) _ _ _ refl by
  where
    by : (t : Target) → place_by Sides s text t ≡ (number_in text >>= λ v. put_side s t v)
    by Objective = refl
    by (Row i) = refl

-- `pair_by`, for ranges, checks a pair as `range_pair` does
range_is : (s : State) (name : Name) (text : List ℕ) → pair_by Ranges s name text ≡ range_pair s name text
unfolding range_pair put_range new_range
range_is s name text = next (need (place_of s name) code.UnknownRow) _ _ _ refl by
  where
    row_by : (i : ℕ) (b : Bool) →
        (number_in text >>= λ v. put_if Ranges s (cond b None (Some (Row i))) v)
        ≡ (number_in text >>= λ v. cond b (Ok s) (new_range s i v))
    row_by i true = refl
    row_by i false = refl

    by : (t : Target) → place_by Ranges s text t ≡ (ranged_row t >>= λ row. number_in text >>= λ v. put_range s row v)
    by Objective = refl
    by (Row i) = row_by i (is_free (get_or s.rows i no_row).kind)

-- ---- in turn

pub entries_are : (s : State) (ps : List (List ℕ × List ℕ)) → pairs_by Entries s ps ≡ column_pairs s ps
entries_are s [] = refl
entries_are s (p ∷ ps) = next _ _ _ _ (entry_is s p.0 p.1) (λ t. entries_are t ps)

-- `pairs_by`, for right sides, reads pairs as `side_pairs` does
sides_are : (s : State) (ps : List (List ℕ × List ℕ)) → pairs_by Sides s ps ≡ side_pairs s ps
sides_are s [] = refl
sides_are s (p ∷ ps) = next _ _ _ _ (side_is s p.0 p.1) (λ t. sides_are t ps)

-- `pairs_by`, for ranges, reads pairs as `range_pairs` does
ranges_are : (s : State) (ps : List (List ℕ × List ℕ)) → pairs_by Ranges s ps ≡ range_pairs s ps
ranges_are s [] = refl
ranges_are s (p ∷ ps) = next _ _ _ _ (range_is s p.0 p.1) (λ t. ranges_are t ps)

-- ---- on cards

-- `set_by`, for right sides, reads a card of a set and pairs as `rhs_by` does
side_set : (s : State) (card : SetAndPairs) → set_by Sides s card ≡ rhs_by s card
unfolding rhs_by
side_set s card =
    ap (λ c. cond (is_used s.set card.set) c (Ok s)) (sides_are (record s { set = Some card.set }) card.pairs)

-- `set_by`, for ranges, reads a card of a set and pairs as `ranges_by` does
range_set : (s : State) (card : SetAndPairs) → set_by Ranges s card ≡ ranges_by s card
unfolding ranges_by
range_set s card =
    ap (λ c. cond (is_used s.set card.set) c (Ok s)) (ranges_are (record s { set = Some card.set }) card.pairs)

pub rhs_card_is : (style : Style) (s : State) (fields : Fields) →
    set_card Sides style s fields ≡ rhs_card style s fields
unfolding rhs_card
rhs_card_is style s fields =
    next (shaped style section.RightSides fields) _ _ _ refl (λ texts. side_set s (set_and_pairs texts))

pub ranges_card_is : (style : Style) (s : State) (fields : Fields) →
    set_card Ranges style s fields ≡ ranges_card style s fields
unfolding ranges_card
ranges_card_is style s fields =
    next (shaped style section.Ranges fields) _ _ _ refl (λ texts. range_set s (set_and_pairs texts))
