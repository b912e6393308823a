-- The words of the format, and which fields a card of a section has.
use Rattle.std.specs.Prelude.{ℕ, Bool, Option, Some, None, Ok, Err, List, [], ◌∷◌, codes, if◌then◌else◌}
use Rattle.std.specs.List.{list_any}
use Rattle.spec_text.specs.Words.{same}
use Rattle.spec_model.specs.declared.parts.Kind.{Kind}
use Rattle.spec_model.specs.declared.parts.Kind.TheVariants.{L, G, E, N}
use Rattle.spec_model.specs.declared.parts.Sense.{Sense}
use Rattle.spec_model.specs.declared.parts.Sense.TheVariants.{Min, Max}
use Rattle.spec_mps.specs.declared.fault.Code.TheVariants as code
use Rattle.spec_mps.specs.declared.style.Style.{Style}
use Rattle.spec_mps.specs.declared.style.Style.TheVariants.{Free, Fixed}
use Rattle.spec_mps.specs.declared.section.Section.{Section}
use Rattle.spec_mps.specs.declared.section.Section.TheVariants as section
use Rattle.spec_mps.specs.declared.bound_kind.BoundKind.{BoundKind}
use Rattle.spec_mps.specs.declared.bound_kind.BoundKind.TheVariants.{Up, Lo, Fx, Fr, Mi, Pl}
use Rattle.spec_mps.specs.Fields.{Fields, numbers_of, texts_of}
use Rattle.spec_mps.specs.Checks.{Check, need, ◌>>=◌}

-- ---- words

-- the item beside a word in a table, the first one if the word is there more than once; none where it is not there
abbrev pub look_up : {A : Type 0} → List ℕ → List (List ℕ × A) → Option A
look_up word [] = None
look_up word (line ∷ lines) = if same word line.0 then Some line.1 else look_up word lines

-- a table of the words that begin sections, each with its section
abbrev pub section_words : List (List ℕ × Section)
section_words =
    (codes "NAME", section.Name)
    ∷ (codes "OBJSENSE", section.Sense)
    ∷ (codes "ROWS", section.Rows)
    ∷ (codes "COLUMNS", section.Columns)
    ∷ (codes "RHS", section.RightSides)
    ∷ (codes "RANGES", section.Ranges)
    ∷ (codes "BOUNDS", section.Bounds)
    ∷ (codes "ENDATA", section.End)
    ∷ []

-- the section that a word begins; none for any other word
unfoldable pub section_of : List ℕ → Option Section
section_of word = look_up word section_words

-- the sense that a word says: to minimize for MIN and MINIMIZE, to maximize for MAX and MAXIMIZE; none for any other
-- word
unfoldable pub sense_of : List ℕ → Option Sense
sense_of word =
    look_up word ((codes "MIN", Min) ∷ (codes "MINIMIZE", Min) ∷ (codes "MAX", Max) ∷ (codes "MAXIMIZE", Max) ∷ [])

-- the kind of rows that one of the words N, L, G and E says; none for any other word
unfoldable pub row_type_of : List ℕ → Option Kind
row_type_of word = look_up word ((codes "N", N) ∷ (codes "L", L) ∷ (codes "G", G) ∷ (codes "E", E) ∷ [])

-- a table of the words for kinds of bounds: each with its kind, or with the code of why it is not read
abbrev pub bound_kinds : List (List ℕ × Check BoundKind)
bound_kinds =
    (codes "UP", Ok Up)
    ∷ (codes "LO", Ok Lo)
    ∷ (codes "FX", Ok Fx)
    ∷ (codes "FR", Ok Fr)
    ∷ (codes "MI", Ok Mi)
    ∷ (codes "PL", Ok Pl)
    ∷ (codes "BV", Err code.Integer)
    ∷ (codes "LI", Err code.Integer)
    ∷ (codes "UI", Err code.Integer)
    ∷ (codes "SC", Err code.SemiContinuous)
    ∷ []

-- the kind of bounds that a word says: UP, LO, FX, FR, MI or PL; else the code of a fault. It is that of integer
-- columns for BV, LI and UI, of semi-continuous ones for SC, and of an unknown kind for any other word.
unfoldable pub bound_kind_of : List ℕ → Check BoundKind
bound_kind_of word = need (look_up word bound_kinds) code.BoundKind >>= λ kind. kind

-- ---- shapes: lists of the numbers of a card's fields

-- the shapes, which are lists of field numbers, of a card of RHS or RANGES in this form: a set, which may be absent,
-- and one pair or two
abbrev pub set_shapes : Style → List (List ℕ)
set_shapes Free = (1 ∷ 2 ∷ []) ∷ (1 ∷ 2 ∷ 3 ∷ []) ∷ (1 ∷ 2 ∷ 3 ∷ 4 ∷ []) ∷ (1 ∷ 2 ∷ 3 ∷ 4 ∷ 5 ∷ []) ∷ []
set_shapes Fixed = (3 ∷ 4 ∷ []) ∷ (2 ∷ 3 ∷ 4 ∷ []) ∷ (3 ∷ 4 ∷ 5 ∷ 6 ∷ []) ∷ (2 ∷ 3 ∷ 4 ∷ 5 ∷ 6 ∷ []) ∷ []

-- the shapes, which are lists of field numbers, that a data card of this section may have in this form; in BOUNDS those
-- of a kind that takes a value, and none in NAME and ENDATA
abbrev pub shapes_of : Style → Section → List (List ℕ)
shapes_of style section.Name = []
shapes_of style section.Sense = (1 ∷ []) ∷ []
shapes_of style section.Rows = (1 ∷ 2 ∷ []) ∷ []
shapes_of Free section.Columns = (1 ∷ 2 ∷ 3 ∷ []) ∷ (1 ∷ 2 ∷ 3 ∷ 4 ∷ 5 ∷ []) ∷ []
shapes_of Fixed section.Columns = (2 ∷ 3 ∷ 4 ∷ []) ∷ (2 ∷ 3 ∷ 4 ∷ 5 ∷ 6 ∷ []) ∷ []
shapes_of style section.RightSides = set_shapes style
shapes_of style section.Ranges = set_shapes style
shapes_of Free section.Bounds = (1 ∷ 2 ∷ 3 ∷ []) ∷ (1 ∷ 2 ∷ 3 ∷ 4 ∷ []) ∷ []
shapes_of Fixed section.Bounds = (1 ∷ 3 ∷ 4 ∷ []) ∷ (1 ∷ 2 ∷ 3 ∷ 4 ∷ []) ∷ []
shapes_of style section.End = []

-- the shapes, which are lists of field numbers, of a card in BOUNDS whose kind takes no value; in fixed form a value
-- may stand in field 4 all the same
abbrev pub unvalued_shapes : Style → List (List ℕ)
unvalued_shapes Free = (1 ∷ 2 ∷ []) ∷ (1 ∷ 2 ∷ 3 ∷ []) ∷ []
unvalued_shapes Fixed = (1 ∷ 3 ∷ []) ∷ (1 ∷ 2 ∷ 3 ∷ []) ∷ (1 ∷ 3 ∷ 4 ∷ []) ∷ (1 ∷ 2 ∷ 3 ∷ 4 ∷ []) ∷ []

-- the shapes, which are lists of field numbers, that a card in BOUNDS may have: with a value for UP, LO and FX, and
-- those of a card without one for FR, MI and PL
abbrev pub bound_shapes : Style → BoundKind → List (List ℕ)
bound_shapes style Up = shapes_of style section.Bounds
bound_shapes style Lo = shapes_of style section.Bounds
bound_shapes style Fx = shapes_of style section.Bounds
bound_shapes style Fr = unvalued_shapes style
bound_shapes style Mi = unvalued_shapes style
bound_shapes style Pl = unvalued_shapes style

-- whether the numbers of a card's fields, in order, are one of these lists of field numbers
unfoldable pub has_shape : List (List ℕ) → Fields → Bool
has_shape shapes fields = list_any (same (numbers_of fields)) shapes

-- the texts of a card's fields, in order, where it has a shape of this section in this form; else a fault of shape
unfoldable pub shaped : Style → Section → Fields → Check (List (List ℕ))
shaped style part fields = if has_shape (shapes_of style part) fields then Ok (texts_of fields) else Err code.CardShape
