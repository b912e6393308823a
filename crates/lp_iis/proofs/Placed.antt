-- The places of rows that stay, and lists of sides read item by item.
--
-- `item_holds`: what holds of all sides holds of one that is read.
-- `take_item`: the first i + 1 sides are the first i and the side that is read at i.
-- `filter_more`: appending side k, if it passes the test, to the sides that pass among the first k gives those among
--   the first k + 1.
use Rattle.std.proofs.Common.{◌≡◌, ℕ, ◌+◌, ◌<◌, Bool, true, false, cond, List, [], ◌∷◌, ◌++◌, take, All, length}
use Rattle.std.proofs.Common.{Option, Some, None, refl, sym, ap, ◌∙◌, subst, get_or}
use Rattle.std.specs.Prelude.{slice_get}
use Rattle.std.specs.List.{filter}
use Rattle.std.specs.Option.{unwrap_or}
use Rattle.std.proofs.lemmas.List.{take_more}
use Rattle.std.proofs.lemmas.List.Elements.{filter-append}
use Rattle.std.proofs.lemmas.Option.{get_or_from_slice_get}
use Rattle.spec_exact.specs.Run.{made}
use Rattle.spec_exact.proofs.RunsInOrder.{length-made, get_or-made}
use Rattle.spec_model.specs.Model.{Model, width, height}
use Rattle.spec_iis.specs.declared.side.Side.{Side}
use Rattle.spec_iis.specs.Sides.{IsSide, is_listed}
use Rattle.spec_iis.specs.Only.{stays, rank, renumbered}
use Rattle.spec_iis.specs.Rule.{side_if}
use Rattle.spec_iis.proofs.Points.{side, stays_by}
use Rattle.lp_iis.specs.Reading.{place_by, placed}

module _ (m : Model) (sides : List Side) where
  -- for each row of the model its number among those that stay, none where it does not stay
  abbrev places : List (Option ℕ)
  places = made (height m) (place_by (stays sides))

  -- a row that has a side has a place
  pub side_placed : (s : Side) → IsSide m s → s.row ≡ true → s.at < length places
  side_placed s h e = rw (length-made (height m) (place_by (stays sides))) (inside s.row e h.inside)
    where
      inside : (r : Bool) → r ≡ true → s.at < cond r (height m) (width m) → s.at < height m
      inside true e l = l
      inside false e l = absurd (let z : false ≡ true = e in cc)

  -- a listed side, moved to the place of its row among the rows that stay, is the side renumbered
  pub placed_same : (s : Side) → is_listed sides s ≡ true → IsSide m s → placed places s ≡ renumbered sides s
  placed_same s h present = by s.row s.at s.upper h present.inside
    where
      at : (i : ℕ) → stays sides i ≡ true → i < height m → unwrap_or (get_or places i None) i ≡ rank (stays sides) i
      at i e l = rw (get_or-made (height m) (place_by (stays sides)) i None l, e) refl

      by : (r : Bool) (i : ℕ) (u : Bool) → is_listed sides (side r i u) ≡ true → i < cond r (height m) (width m) →
          placed places (side r i u) ≡ renumbered sides (side r i u)
      by true i u h l = ap (λ k. side true k u) (at i (stays_by sides i u h) l)
      by false i u h l = refl

-- an item that is read
pub item_holds : (P : Side → Type 0) (sides : List Side) (i : ℕ) (x : Side) → i < length sides →
    slice_get sides i ≡ Some x → All P sides → P x
item_holds P sides i x l e all = subst P (get_or_from_slice_get sides i x x e) (all i x l)

pub take_item : (sides : List Side) (i : ℕ) (x : Side) → i < length sides → slice_get sides i ≡ Some x →
    take (i + 1) sides ≡ take i sides ++ x ∷ []
take_item sides i x l e =
    take_more sides i x l ∙ ap (λ y. take i sides ++ y ∷ []) (get_or_from_slice_get sides i x x e)

-- one more of those that pass a test
pub filter_more : (q : Side → Bool) (sides : List Side) (k : ℕ) (x : Side) (b : Bool) (before after : List Side) →
    take (k + 1) sides ≡ take k sides ++ x ∷ [] → before ≡ filter q (take k sides) → b ≡ q x →
    after ≡ before ++ side_if b x → after ≡ filter q (take (k + 1) sides)
filter_more q sides k x b before after more h is put =
    put ∙ ap (λ f. f ++ side_if b x) h ∙ ap (λ b. filter q (take k sides) ++ side_if b x) is
    ∙ ap (λ t. filter q (take k sides) ++ t) (one (q x))
    ∙ sym (filter-append q (take k sides) (x ∷ [])) ∙ ap (filter q) (sym more)
  where
    one : (b : Bool) → side_if b x ≡ cond b (x ∷ []) []
    one true = refl
    one false = refl
