-- The cards of BOUNDS.
use Rattle.std.specs.Prelude.{ℕ, ◌==◌, ◌&&◌, ◌||◌, Bool, true, false, not, Option, Some}
use Rattle.std.specs.Prelude.{None, Ok, Err, List, [], ◌∷◌, get_or, if◌then◌else◌}
use Rattle.std.specs.List.{filter, position}
use Rattle.spec_text.specs.Words.{same}
use Rattle.spec_exact.specs.Fraction.{ℚ, 0ℚ, lt_ℚ}
use Rattle.spec_model.specs.Model.{Name, ExactColumn}
use Rattle.spec_mps.specs.declared.fault.Code.TheVariants as code
use Rattle.spec_mps.specs.declared.style.Style.{Style}
use Rattle.spec_mps.specs.declared.bound_kind.BoundKind.{BoundKind}
use Rattle.spec_mps.specs.declared.bound_kind.BoundKind.TheVariants.{Up, Lo, Fx, Fr, Mi, Pl}
use Rattle.spec_mps.specs.declared.number.BoundValue.{BoundValue}
use Rattle.spec_mps.specs.declared.number.BoundValue.TheVariants.{Finite, PlusInf, MinusInf}
use Rattle.spec_mps.specs.BoundText.{bound_of, bound_answer}
use Rattle.spec_mps.specs.Fields.{Fields, text_at, texts_of}
use Rattle.spec_mps.specs.Checks.{Check, ◌>>=◌, need, coded}
use Rattle.spec_mps.specs.Shapes.{bound_kind_of, bound_shapes, has_shape}
use Rattle.spec_mps.specs.Reader.{State}
use Rattle.spec_mps.specs.Sides.{is_used, changed_at}

-- ---- what a card does

-- what a card does to a column's bounds; `None` takes a bound away
pub data BoundCard : Type 0 where
  SetsUpper : (bound : Option ℚ) → BoundCard
  SetsLower : (bound : Option ℚ) → BoundCard
  SetsBoth : (lower upper : Option ℚ) → BoundCard

-- what a card `UP` with this value does: it sets the upper bound, or takes it away for plus infinity;
-- minus infinity is a fault
abbrev pub upper_card : BoundValue ℚ → Check BoundCard
upper_card (Finite u) = Ok (SetsUpper (Some u))
upper_card PlusInf = Ok (SetsUpper None)
upper_card MinusInf = Err code.BoundKind

-- what a card `LO` with this value does: it sets the lower bound, or takes it away for minus infinity;
-- plus infinity is a fault
abbrev pub lower_card : BoundValue ℚ → Check BoundCard
lower_card (Finite l) = Ok (SetsLower (Some l))
lower_card PlusInf = Err code.BoundKind
lower_card MinusInf = Ok (SetsLower None)

-- what a card `FX` with this value does: it sets both bounds to it; an infinite value is a fault
abbrev pub both_card : BoundValue ℚ → Check BoundCard
both_card (Finite v) = Ok (SetsBoth (Some v) (Some v))
both_card PlusInf = Err code.BoundKind
both_card MinusInf = Err code.BoundKind

-- the bound that a text spells, or the code of its fault
unfoldable pub bound_in : List ℕ → Check (BoundValue ℚ)
bound_in text = coded (bound_answer (bound_of text))

-- what a card of this kind does, with the text of its value where it takes one; or the code of the value's fault
unfoldable pub bound_card : BoundKind → List ℕ → Check BoundCard
bound_card Up text = bound_in text >>= upper_card
bound_card Lo text = bound_in text >>= lower_card
bound_card Fx text = bound_in text >>= both_card
bound_card Fr text = Ok (SetsBoth None None)
bound_card Mi text = Ok (SetsLower None)
bound_card Pl text = Ok (SetsUpper None)

-- whether there is an upper bound, and it is below 0
abbrev pub is_negative : Option ℚ → Bool
is_negative None = false
is_negative (Some u) = lt_ℚ u 0ℚ

-- A column with the bounds of a card. A negative upper bound takes away the lower bound, unless the flag says that a
-- card has set that.
abbrev pub bounded : Bool → BoundCard → ExactColumn → ExactColumn
bounded lowered (SetsUpper u) c =
    if is_negative u && not lowered then record c { lower = None; upper = u } else record c { upper = u }
bounded lowered (SetsLower l) c = record c { lower = l }
bounded lowered (SetsBoth l u) c = record c { lower = l; upper = u }

-- whether a card itself sets the lower bound or takes it away: those of LO, MI, FX and FR do, one of UP or PL does not
abbrev pub sets_lower : BoundCard → Bool
sets_lower (SetsUpper u) = false
sets_lower (SetsLower l) = true
sets_lower (SetsBoth l u) = true

-- the state after a card of BOUNDS for the column at this place: the column has the bounds that the card makes of its
-- old ones, and is noted where the card sets its lower bound
unfoldable pub with_bound : State → ℕ → BoundCard → State
with_bound s place card =
    record s {
      columns = changed_at place (bounded (get_or s.lowered place false) card) s.columns;
      lowered = changed_at place (λ lowered. lowered || sets_lower card) s.lowered;
    }

-- ---- the kind, then the shape, then the set, the column and the value

-- a set or none, a column, and a value, which has no bytes where the kind takes none
pub record BoundTexts : Type 0 where
  pub set : Option Name
  pub column : Name
  pub value : List ℕ

-- whether a card of this kind takes a value: UP, LO and FX do, FR, MI and PL do not
abbrev pub takes_value : BoundKind → Bool
takes_value Up = true
takes_value Lo = true
takes_value Fx = true
takes_value Fr = false
takes_value Mi = false
takes_value Pl = false

-- the set, the column and the value among these texts, by whether the kind takes a value; other counts of texts are a
-- fault of shape
abbrev pub bound_texts_by : Bool → List (List ℕ) → Check BoundTexts
bound_texts_by true (column ∷ value ∷ []) = Ok (record { set = None; column = column; value = value })
bound_texts_by true (set ∷ column ∷ value ∷ []) = Ok (record { set = Some set; column = column; value = value })
bound_texts_by false (column ∷ []) = Ok (record { set = None; column = column; value = [] })
bound_texts_by false (set ∷ column ∷ []) = Ok (record { set = Some set; column = column; value = [] })
bound_texts_by has_value texts = Err code.CardShape

-- whether field n of a card of this kind is read: not field 1, which has the kind, nor field 4 where it takes no value
abbrev pub is_read : BoundKind → ℕ → Bool
is_read kind n = not (n == 1) && (takes_value kind || not (n == 4))

-- the set, the column and the value on a card of BOUNDS of this kind; a fault where the card has none of its shapes
unfoldable pub bound_texts : Style → BoundKind → Fields → Check BoundTexts
bound_texts style kind fields =
    if has_shape (bound_shapes style kind) fields
    then bound_texts_by (takes_value kind) (texts_of (filter (λ f. is_read kind f.number) fields))
    else Err code.CardShape

-- the state after a card of BOUNDS whose set is in use: its column has the bounds that the card gives, and its set is
-- noted; or the code of the fault, an unknown column or a wrong value
unfoldable pub use_bound : State → BoundKind → BoundTexts → Check State
use_bound s kind texts = do
  place ← need (position (λ c. same c.name texts.column) s.columns) code.UnknownColumn
  card ← bound_card kind texts.value
  Ok (with_bound (record s { set = Some texts.set }) place card)

-- the state with the bounds that a card of BOUNDS gives its column, or the code of its fault; a card of another set
-- than that of the section's first card changes nothing
unfoldable pub bounds_card : Style → State → Fields → Check State
bounds_card style s fields = do
  kind ← bound_kind_of (text_at 1 fields)
  texts ← bound_texts style kind fields
  if is_used s.set texts.set then use_bound s kind texts else Ok s
