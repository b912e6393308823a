-- The columns in the reader's state are sound: few enough, with distinct names, and each as a kept model has it.
--
-- `no_columns`: a state without columns is sound.
-- `more_rows`: columns that are sound over some rows are sound over more rows.
-- `more_paired`: columns stay sound where one more row or the objective has got its number.
-- `close_column`: where the open column has the shape of a kept one, all columns with it are columns of a kept model.
-- `closed`: columns stay sound where the open column joins the whole ones.
-- `with_new`: sound columns stay sound with a new open column that has a valid name, other than theirs, and room.
-- `number_name`: setting a number of a column leaves the column's name.
-- `with_pair`: columns stay sound where the open column gets the number of the objective or of an existing row that
--   had none.
-- `bounded_name`: setting bounds of a column leaves the column's name.
-- `with_bounds`: columns stay sound where a card with finite bounds below 10^20 in size changes one of them.
use Rattle.std.proofs.Common.{◌≡◌, ◌≢◌, ℕ, zero, suc, ◌<◌, ◌≤◌, Bool, true, false, ◌&&◌, not, cond}
use Rattle.std.proofs.Common.{Option, Some, None, option_map, List, [], ◌∷◌, ◌++◌, length, map}
use Rattle.std.proofs.Common.{All, IfSome, IsTrue, refl, sym, ap, ◌∙◌, subst, arith, length-append}
use Rattle.std.specs.List.{AllPairs}
use Rattle.std.proofs.lemmas.List.{map-append, length-map}
use Rattle.std.proofs.lemmas.List.Elements.{All-nil, All-push, All-weaker}
use Rattle.std.proofs.lemmas.List.Quantifiers.{all_pairs_push}
use Rattle.spec_exact.specs.Fraction.{ℚ, 0ℚ, eq_ℚ, abs_ℚ, ◌<ℚ◌}
use Rattle.spec_exact.proofs.Same.{eq_test}
use Rattle.spec_model.specs.declared.parts.SizeLimits.{SizeLimits}
use Rattle.spec_model.specs.Model.{Name, ExactColumn}
use Rattle.spec_model.specs.Kept.{IsKeptColumn, IsBound, is_name}
use Rattle.spec_model.proofs.KeptModels.{zero_bound, kept_higher}
use Rattle.spec_mps.specs.declared.target.Target.{Target}
use Rattle.spec_mps.specs.declared.target.Target.TheVariants.{Objective, Row}
use Rattle.spec_mps.specs.Reader.{is_among, new_column, columns_with, put_entry, with_number}
use Rattle.spec_mps.specs.Sides.{changed_at}
use Rattle.spec_mps.specs.Bounds.{BoundCard, SetsUpper, SetsLower, SetsBoth, is_negative, bounded}
use Rattle.spec_mps.specs.BoundText.{infinite}
use Rattle.spec_mps.proofs.BoundsSet.{SetsAll}
use Rattle.spec_mps.proofs.NarrowSoFar.{changed_all}
use Rattle.spec_mps.proofs.Entries.{Climbs, climbs_more, climbs_higher, climbs_put, climbs_entries}

-- the names of columns, in order
abbrev pub column_names : List ExactColumn → List Name
column_names columns = map (λ c. c.name) columns

-- the open column has a valid name, valid bounds, and entries in ascending ones of n rows, which are noted in `paired`
pub record IsOpen (n : ℕ) (paired : List Target) (c : ExactColumn) : Type 0 where
  pub name : IsTrue (is_name c.name)
  pub lower : IsBound c.lower
  pub upper : IsBound c.upper
  pub entries : Climbs n 0 paired c.entries

-- all columns, over n rows, are no more than the limit and have distinct names; each whole one is as a kept model has
-- it, and the open one has valid parts
pub record SoundColumns (limits : SizeLimits) (n : ℕ) (columns : List ExactColumn)
    (column : Option ExactColumn) (paired : List Target) : Type 0 where
  pub few : length (column_names (columns_with columns column)) ≤ limits.columns
  pub distinct : AllPairs (λ x y. x ≢ y) (column_names (columns_with columns column))
  pub each : All (IsKeptColumn n) columns
  pub last : IfSome column (IsOpen n paired)

pub no_columns : {limits : SizeLimits} → SoundColumns limits 0 [] None []
no_columns =
    record {
      few = omega arith;
      distinct = λ i j d l k. absurd (omega arith);
      each = All-nil (IsKeptColumn 0);
      last = tt;
    }

-- ---- more rows, and more numbers

-- the open column, if there is one, may be open over more rows than there are
open_higher : (n m : ℕ) (paired : List Target) (column : Option ExactColumn) → n ≤ m → IfSome column (IsOpen n paired) →
    IfSome column (IsOpen m paired)
open_higher n m paired None l h = h
open_higher n m paired (Some c) l h =
    record {
      name = h.name;
      lower = h.lower;
      upper = h.upper;
      entries = climbs_higher n m 0 paired c.entries l h.entries;
    }

pub more_rows : {limits : SizeLimits} (n m : ℕ) (columns : List ExactColumn) (column : Option ExactColumn)
    (paired : List Target) → n ≤ m →
    SoundColumns limits n columns column paired → SoundColumns limits m columns column paired
more_rows n m columns column paired l s =
    record {
      few = s.few;
      distinct = s.distinct;
      each = All-weaker (IsKeptColumn n) (IsKeptColumn m) (kept_higher n m l) columns s.each;
      last = open_higher n m paired column l s.last;
    }

-- the open column, if there is one, may be open with one more target that has a number
open_more : (n : ℕ) (t : Target) (paired : List Target) (column : Option ExactColumn) →
    IfSome column (IsOpen n paired) → IfSome column (IsOpen n (t ∷ paired))
open_more n t paired None h = h
open_more n t paired (Some c) h =
    record { name = h.name; lower = h.lower; upper = h.upper; entries = climbs_more n 0 t paired c.entries h.entries }

pub more_paired : {limits : SizeLimits} (n : ℕ) (t : Target) (columns : List ExactColumn)
    (column : Option ExactColumn) (paired : List Target) →
    SoundColumns limits n columns column paired → SoundColumns limits n columns column (t ∷ paired)
more_paired n t columns column paired s =
    record { few = s.few; distinct = s.distinct; each = s.each; last = open_more n t paired column s.last }

-- ---- a new column

-- the column that was read is whole
pub close_column : (n : ℕ) (paired : List Target) (columns : List ExactColumn) (column : Option ExactColumn) →
    All (IsKeptColumn n) columns → IfSome column (IsOpen n paired) → All (IsKeptColumn n) (columns_with columns column)
close_column n paired columns None h k = h
close_column n paired columns (Some c) h k =
    All-push (IsKeptColumn n) columns c h
    (record {
      name = k.name;
      lower = k.lower;
      upper = k.upper;
      entries = climbs_entries n 0 paired c.entries k.entries;
    })

pub closed : {limits : SizeLimits} (n : ℕ) (columns : List ExactColumn) (column : Option ExactColumn)
    (paired : List Target) →
    SoundColumns limits n columns column paired → SoundColumns limits n (columns_with columns column) None []
closed n columns column paired s =
    record { few = s.few; distinct = s.distinct; each = close_column n paired columns column s.each s.last; last = tt }

-- the names of columns with a new one behind them are their names and then the new one's
named_new : (columns : List ExactColumn) (name : Name) →
    column_names (columns ++ new_column name ∷ []) ≡ column_names columns ++ name ∷ []
named_new columns name = map-append (λ (c : ExactColumn). c.name) columns (new_column name ∷ [])

pub with_new : {limits : SizeLimits} (n : ℕ) (columns : List ExactColumn) (new : Name) → is_name new ≡ true →
    All (λ x. x ≢ new) (column_names columns) → length columns < limits.columns →
    SoundColumns limits n columns None [] →
    SoundColumns limits n columns (Some (new_column new)) []
with_new n columns new t f few s =
    record {
      few =
          omega (
            arith,
            length-map (columns ++ new_column new ∷ []) (λ (c : ExactColumn). c.name),
            length-append columns (new_column new ∷ []),
          );
      distinct =
          subst (AllPairs (λ x y. x ≢ y)) (sym (named_new columns new))
          (all_pairs_push (λ x y. x ≢ y) (column_names columns) new s.distinct f);
      each = s.each;
      last = record { name = t; lower = zero_bound; upper = tt; entries = tt };
    }

-- ---- a number of the column that is read

-- the target is the objective or one of n rows
abbrev pub IsInside : ℕ → Target → Type 0
IsInside n Objective = Unit {0}
IsInside n (Row i) = i < n

pub number_name : (c : ExactColumn) (t : Target) (v : ℚ) → (with_number c t v).name ≡ c.name
number_name c Objective v = refl
number_name c (Row i) v = go (eq_ℚ v 0ℚ)
  where
    go : (b : Bool) → (cond b c (record c { entries = put_entry i v c.entries })).name ≡ c.name
    go true = refl
    go false = refl

-- an open column stays open with a number at a target that had none
number_open : (n : ℕ) (paired : List Target) (c : ExactColumn) (t : Target) (v : ℚ) → IsInside n t →
    is_among t paired ≡ false → IsOpen n paired c → IsOpen n (t ∷ paired) (with_number c t v)
number_open n paired c Objective v i f o =
    record {
      name = o.name;
      lower = o.lower;
      upper = o.upper;
      entries = climbs_more n 0 Objective paired c.entries o.entries;
    }
number_open n paired c (Row i) v k f o = go (eq_ℚ v 0ℚ) refl
  where
    differs : eq_ℚ v 0ℚ ≡ false → v ≢ 0ℚ
    differs e g = let h : eq_ℚ v 0ℚ ≡ true = eq_test v 0ℚ g in cc

    go : (b : Bool) → eq_ℚ v 0ℚ ≡ b →
        IsOpen n (Row i ∷ paired) (cond b c (record c { entries = put_entry i v c.entries }))
    go true e =
        record {
          name = o.name;
          lower = o.lower;
          upper = o.upper;
          entries = climbs_more n 0 (Row i) paired c.entries o.entries;
        }
    go false e =
        record {
          name = o.name;
          lower = o.lower;
          upper = o.upper;
          entries = climbs_put n 0 i v paired c.entries (omega arith) k (differs e) f o.entries;
        }

-- a number of the open column leaves the names of all columns
number_names : (columns : List ExactColumn) (column : Option ExactColumn) (t : Target) (v : ℚ) →
    column_names (columns_with columns (option_map (λ c. with_number c t v) column))
    ≡ column_names (columns_with columns column)
number_names columns None t v = refl
number_names columns (Some c) t v =
    map-append (λ (c : ExactColumn). c.name) columns (with_number c t v ∷ [])
    ∙ ap (λ name. column_names columns ++ name ∷ []) (number_name c t v)
    ∙ sym (map-append (λ (c : ExactColumn). c.name) columns (c ∷ []))

-- the open column, if any, stays open with a number at a target that had none
number_last : (n : ℕ) (paired : List Target) (column : Option ExactColumn) (t : Target) (v : ℚ) → IsInside n t →
    is_among t paired ≡ false → IfSome column (IsOpen n paired) →
    IfSome (option_map (λ c. with_number c t v) column) (IsOpen n (t ∷ paired))
number_last n paired None t v i f o = tt
number_last n paired (Some c) t v i f o = number_open n paired c t v i f o

pub with_pair : {limits : SizeLimits} (n : ℕ) (columns : List ExactColumn)
    (column : Option ExactColumn) (paired : List Target) (t : Target) (v : ℚ) →
    IsInside n t → is_among t paired ≡ false → SoundColumns limits n columns column paired →
    SoundColumns limits n columns (option_map (λ c. with_number c t v) column) (t ∷ paired)
with_pair {limits = limits} n columns column paired t v i f s =
    let e = number_names columns column t v in
    record {
      few = subst (λ names. length names ≤ limits.columns) (sym e) s.few;
      distinct = subst (AllPairs (λ x y. x ≢ y)) (sym e) s.distinct;
      each = s.each;
      last = number_last n paired column t v i f s.last;
    }

-- ---- bounds

-- each number that the card makes a bound is less than 10 ^ 20 from 0
abbrev IsSmall : BoundCard → Type 0
IsSmall card = SetsAll (λ q. abs_ℚ q <ℚ infinite) card

pub bounded_name : (lowered : Bool) (card : BoundCard) (c : ExactColumn) → (bounded lowered card c).name ≡ c.name
bounded_name lowered (SetsUpper u) c = go (is_negative u && not lowered)
  where
    go : (b : Bool) → (cond b (record c { lower = None; upper = u }) (record c { upper = u })).name ≡ c.name
    go true = refl
    go false = refl
bounded_name lowered (SetsLower l) c = refl
bounded_name lowered (SetsBoth l u) c = refl

-- bounds less than 10 ^ 20 from 0 leave a column that may be kept
bounded_kept : (n : ℕ) (lowered : Bool) (card : BoundCard) (c : ExactColumn) → IsSmall card → IsKeptColumn n c →
    IsKeptColumn n (bounded lowered card c)
bounded_kept n lowered (SetsUpper u) c small k = go (is_negative u && not lowered)
  where
    go : (b : Bool) → IsKeptColumn n (cond b (record c { lower = None; upper = u }) (record c { upper = u }))
    go true = record { name = k.name; lower = tt; upper = small; entries = k.entries }
    go false = record { name = k.name; lower = k.lower; upper = small; entries = k.entries }
bounded_kept n lowered (SetsLower l) c small k =
    record { name = k.name; lower = small; upper = k.upper; entries = k.entries }
bounded_kept n lowered (SetsBoth l u) c small k =
    record { name = k.name; lower = small.0; upper = small.1; entries = k.entries }

-- a card's bounds for a column leave the names of all columns
changed_names : (place : ℕ) (lowered : Bool) (card : BoundCard) (columns : List ExactColumn) →
    column_names (changed_at place (bounded lowered card) columns) ≡ column_names columns
changed_names place lowered card [] = refl
changed_names zero lowered card (c ∷ cs) = ap (λ name. name ∷ column_names cs) (bounded_name lowered card c)
changed_names (suc place) lowered card (c ∷ cs) = ap (λ names. c.name ∷ names) (changed_names place lowered card cs)

-- columns with the same names have the same names with one open column behind them
names_with : (columns others : List ExactColumn) (column : Option ExactColumn) →
    column_names columns ≡ column_names others →
    column_names (columns_with columns column) ≡ column_names (columns_with others column)
names_with columns others None e = e
names_with columns others (Some c) e =
    map-append (λ (c : ExactColumn). c.name) columns (c ∷ [])
    ∙ ap (λ names. names ++ c.name ∷ []) e
    ∙ sym (map-append (λ (c : ExactColumn). c.name) others (c ∷ []))

pub with_bounds : {limits : SizeLimits} (n place : ℕ) (lowered : Bool) (card : BoundCard)
    (columns : List ExactColumn) (column : Option ExactColumn) (paired : List Target) →
    IsSmall card → SoundColumns limits n columns column paired →
    SoundColumns limits n (changed_at place (bounded lowered card) columns) column paired
with_bounds {limits = limits} n place lowered card columns column paired small s =
    let e =
    names_with (changed_at place (bounded lowered card) columns) columns column
    (changed_names place lowered card columns) in
    record {
      few = subst (λ names. length names ≤ limits.columns) (sym e) s.few;
      distinct = subst (AllPairs (λ x y. x ≢ y)) (sym e) s.distinct;
      each =
          changed_all (IsKeptColumn n) place (bounded lowered card) columns
          (λ c k. bounded_kept n lowered card c small k) s.each;
      last = s.last;
    }
