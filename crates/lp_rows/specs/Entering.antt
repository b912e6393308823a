-- Which column enters, by the signs of the reduced costs.
use Rattle.std.specs.Prelude.{◌≡◌, ℕ, ◌<◌, ◌≤◌, List, length, get_or, Option, Some, None, Bool, false}
use Rattle.std.specs.Prelude.{if◌then◌else◌}
use Rattle.std.specs.declared.cmp.Ordering.{Ordering}
use Rattle.std.specs.declared.cmp.Ordering.TheVariants.{Less, Equal, Greater}
use Rattle.spec_pivot.specs.declared.status.Status.{Status}
use Rattle.spec_pivot.specs.declared.status.Status.TheVariants.{Basic, AtLower, AtUpper, AtZero}
use Rattle.spec_pivot.specs.declared.status.Way.{Way}
use Rattle.spec_pivot.specs.declared.status.Way.TheVariants.{Up, Down}
use Rattle.spec_simplex.specs.Tableau.{Tableau, form_columns, all_columns, reduced_at, lower_at, upper_at, is_fixed}
use Rattle.spec_simplex.specs.Step.{way_at}
use Rattle.lp_natural.specs.declared.words.signed.Signed.{Signed}
use Rattle.lp_rows.specs.Row.{fraction_at}

-- the first of three where the sign is negative, the second where it is 0, and else the third
abbrev pub of_sign : {A : Type 0} → Ordering → A → A → A → A
of_sign Less x y z = x
of_sign Equal x y z = y
of_sign Greater x y z = z

-- whether a column rises or falls as it enters, by its status and the sign of its reduced cost;
-- none where it may not enter
abbrev pub way_of : Status → Ordering → Option Way
way_of Basic o = None
way_of AtLower o = of_sign o (Some Up) None None
way_of AtUpper o = of_sign o None None (Some Down)
way_of AtZero o = of_sign o (Some Up) None (Some Down)

-- whether a column rises or falls as it enters, by whether it is fixed, its status and the sign of its reduced cost;
-- none where it may not enter, as a fixed one never may
abbrev pub way_with : Bool → Status → Ordering → Option Way
way_with fixed s o = if fixed then None else way_of s o

-- In the structural and logical columns, the numbers over d are the reduced costs of the tableau t, and the lists say
-- their statuses and which of them are fixed. No artificial column may enter.
pub record IsPriced {T : Type 0} (value : T → ℕ) (t : Tableau) (numbers : List (Signed T)) (d : ℕ)
    (statuses : List Status) (fixed : List Bool) : Type 0 where
  pub columns : length fixed ≡ form_columns t
  pub status : t.status ≡ statuses
  pub reduced : (k : ℕ) → k < form_columns t → reduced_at t k ≡ fraction_at value numbers d k
  pub fixes : (k : ℕ) → k < form_columns t → is_fixed (lower_at t k) (upper_at t k) ≡ get_or fixed k false
  pub stay : (k : ℕ) → form_columns t ≤ k → k < all_columns t → way_at t k ≡ None
