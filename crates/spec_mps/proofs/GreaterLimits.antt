-- What is read within limits of size is read so within greater ones.
use Rattle.std.proofs.Common.{◌≡◌, ◌≤◌, ℕ, ◌+◌, Bool, true, false, ◌||◌, not, cond, ltb, lt-ltb, Option, Some, is_none}
use Rattle.std.proofs.Common.{Ok, Err, List, [], ◌∷◌, length, refl, sym, subst, arith}
use Rattle.std.specs.Bool.{⊤}
use borrow.Author.Tests.{ltb-true}
use Rattle.std.specs.Prelude.{codes}
use Rattle.std.specs.List.{list_any}
use Rattle.spec_text.specs.declared.line.Line.{Line}
use Rattle.spec_text.specs.declared.line.Line.TheVariants as line
use Rattle.spec_text.specs.Words.{same}
use Rattle.spec_model.specs.declared.parts.Kind.{Kind}
use Rattle.spec_model.specs.declared.parts.SizeLimits.{SizeLimits}
use Rattle.spec_model.specs.Model.{Model, Name}
use Rattle.spec_model.specs.Kept.{AreAtMost, is_name, is_row_name}
use Rattle.spec_mps.specs.declared.card.Card.{Card}
use Rattle.spec_mps.specs.declared.card.Card.TheVariants as card
use Rattle.spec_mps.specs.declared.fault.Code.{Code}
use Rattle.spec_mps.specs.declared.fault.Code.TheVariants as code
use Rattle.spec_mps.specs.declared.section.Section.{Section}
use Rattle.spec_mps.specs.declared.section.Section.TheVariants as section
use Rattle.spec_mps.specs.declared.style.Style.{Style}
use Rattle.spec_mps.specs.Checks.{Check, ◌>>=◌, must, need}
use Rattle.spec_mps.specs.Fields.{Fields, CardReading, Is, Misplaced, text_at}
use Rattle.spec_mps.specs.Reader.{State, start, place_of, is_first, add_row, rows_card, whole_columns, is_open, opened}
use Rattle.spec_mps.specs.Reader.{column_by, column_pairs, pairs_of, marker_field, columns_card}
use Rattle.spec_mps.specs.Shapes.{row_type_of, shaped}
use Rattle.spec_mps.specs.Steps.{Progress, More, Done, Outcome, data_card, on_card, on_reading, reading_of, step}
use Rattle.spec_mps.specs.Steps.{Verdict, Spelled, settled, judge, SpellsWithin}

-- the other check lets pass what the first one does
abbrev Extends : {A : Type 0} → Check A → Check A → Type 0
Extends {A = A} check other = (a : A) → check ≡ Ok a → other ≡ Ok a

-- each check lets pass no less than itself
same_check : {A : Type 0} (check : Check A) → Extends check check
same_check check a h = h

-- two checks let pass no less with a next check that lets pass no less
behind_same : {A B : Type 0} (check : Check A) (f g : A → Check B) → ((a : A) → Extends (f a) (g a)) →
    Extends (check >>= f) (check >>= g)
behind_same (Ok a) f g k b h = k a b h
behind_same (Err fault) f g k b h = absurd (cc)

-- two checks let pass no less with a first check that lets pass no less
before_same : {A B : Type 0} (check other : Check A) (f : A → Check B) → Extends check other →
    Extends (check >>= f) (other >>= f)
before_same {A = A} (Ok a) other f e b h = subst (λ (c : Check A). (c >>= f) ≡ Ok b) (sym (e a refl)) h
before_same (Err fault) other f e b h = absurd (cc)

-- a test and a check let pass no less with a test that passes more
behind_test : {B : Type 0} (t u : Bool) (code : Code) (f : ⊤ → Check B) → (t ≡ true → u ≡ true) →
    Extends (must t code >>= f) (must u code >>= f)
behind_test true u code f e b h = rw (e refl) h
behind_test false u code f e b h = absurd (cc)

-- two cases let pass no less with an other case that lets pass no less
in_other_case : {A : Type 0} (t : Bool) (first check other : Check A) → Extends check other →
    Extends (cond t first check) (cond t first other)
in_other_case true first check other e = same_check first
in_other_case false first check other e = e

-- a test that passes, or a count that is below a limit, does so with a greater limit too
more_room : (t : Bool) (n few many : ℕ) → few ≤ many → (t || ltb n few) ≡ true → (t || ltb n many) ≡ true
more_room true n few many l h = refl
more_room false n few many l h = lt-ltb n many (omega (arith, ltb-true n few h))

-- a step and next lines that let pass no less spell the same model
settled_more : (n : ℕ) (next further : State → Verdict) (o other : Outcome) (m : Model) → Extends o other →
    ((t : State) → next t ≡ Spelled m → further t ≡ Spelled m) → settled n next o ≡ Spelled m →
    settled n further other ≡ Spelled m
settled_more n next further (Ok (More t)) other m e k h =
    subst (λ (p : Outcome). settled n further p ≡ Spelled m) (sym (e (More t) refl)) (k t h)
settled_more n next further (Ok (Done d)) other m e k h =
    subst (λ (p : Outcome). settled n further p ≡ Spelled m) (sym (e (Done d) refl)) h
settled_more n next further (Err fault) other m e k h = absurd (cc)

module _ (few many : SizeLimits) (most : AreAtMost few many) where
  row_more : (s : State) (kind : Kind) (name : Name) → Extends (add_row few s kind name) (add_row many s kind name)
  unfolding add_row
  row_more s kind name =
      behind_same (must (is_row_name name) code.Name) _ _
      (λ _. behind_same (must (is_none (place_of s name)) code.RowTaken) _ _
      (λ _. behind_test (is_first s kind || ltb (length s.rows) few.rows) (is_first s kind || ltb (length s.rows)
      many.rows)
      code.Limit _ (more_room (is_first s kind) (length s.rows) few.rows many.rows most.rows)))

  rows_more : (style : Style) (s : State) (fields : Fields) →
      Extends (rows_card few style s fields) (rows_card many style s fields)
  unfolding rows_card
  rows_more style s fields =
      behind_same (shaped style section.Rows fields) _ _
      (λ _. behind_same (need (row_type_of (text_at 1 fields)) code.RowType) _ _
      (λ kind. row_more s kind (text_at 2 fields)))

  opened_more : (s : State) (name : Name) → Extends (opened few s name) (opened many s name)
  unfolding opened
  opened_more s name =
      in_other_case (is_open s.column name) _ _ _
      (behind_same (must (not (list_any (λ c. same c.name name) (whole_columns s))) code.ColumnTaken) _ _
      (λ _. behind_test (ltb (length (whole_columns s)) few.columns) (ltb (length (whole_columns s)) many.columns)
      code.Limit _ (more_room false (length (whole_columns s)) few.columns many.columns most.columns)))

  column_more : (s : State) (texts : List (List ℕ)) → Extends (column_by few s texts) (column_by many s texts)
  column_more s [] = same_check _
  column_more s (name ∷ texts) =
      behind_same (must (is_name name) code.Name) _ _
      (λ _. before_same (opened few s name) (opened many s name) (λ t. column_pairs t (pairs_of texts))
      (opened_more s name))

  columns_more : (style : Style) (s : State) (fields : Fields) →
      Extends (columns_card few style s fields) (columns_card many style s fields)
  unfolding columns_card
  columns_more style s fields =
      behind_same (must (not (same (text_at (marker_field style) fields) (codes "'MARKER'"))) code.Integer) _ _
      (λ _. behind_same (shaped style section.Columns fields) _ _ (λ texts. column_more s texts))

  data_more : (style : Style) (part : Option Section) (s : State) (fields : Fields) →
      Extends (data_card few style part s fields) (data_card many style part s fields)
  data_more style (Some section.Sense) s fields = same_check _
  data_more style (Some section.Rows) s fields = rows_more style s fields
  data_more style (Some section.Columns) s fields = columns_more style s fields
  data_more style (Some section.RightSides) s fields = same_check _
  data_more style (Some section.Ranges) s fields = same_check _
  data_more style (Some section.Bounds) s fields = same_check _
  data_more style part s fields = λ t h. absurd (cc)

  card_more : (style : Style) (s : State) (c : Card Fields) → Extends (on_card few style s c) (on_card many style s c)
  card_more style s card.Skip = same_check _
  card_more style s (card.Section fields) = same_check _
  card_more style s (card.Given fields) =
      before_same (data_card few style s.part s fields) (data_card many style s.part s fields) (λ t. Ok (More t))
      (data_more style s.part s fields)

  reading_more : (style : Style) (s : State) (reading : CardReading) →
      Extends (on_reading few style s reading) (on_reading many style s reading)
  reading_more style s (Is c) = card_more style s c
  reading_more style s (Misplaced column) = same_check _

  -- a line that the reader takes within the lesser limits leads to the same within the greater ones
  pub step_more : (style : Style) (s : State) (l : Line (List ℕ)) (p : Progress) → step few style s l ≡ Ok p →
      step many style s l ≡ Ok p
  unfolding step
  step_more style s (line.Text bytes) p h = reading_more style s (reading_of style s.part bytes) p h
  step_more style s (line.Long len) p h = absurd (cc)
  step_more style s line.End p h = absurd (cc)
  step_more style s line.Over p h = absurd (cc)

  judged_more : (style : Style) (lines : List (Line (List ℕ))) (s : State) (n : ℕ) (m : Model) →
      judge few style s n lines ≡ Spelled m → judge many style s n lines ≡ Spelled m
  judged_more style [] s n m h = absurd (cc)
  judged_more style (l ∷ lines) s n m h =
      settled_more n (λ t. judge few style t (n + 1) lines) (λ t. judge many style t (n + 1) lines)
      (step few style s l) (step many style s l) m (step_more style s l)
      (λ t k. judged_more style lines t (n + 1) m k) h

  -- a text that spells a model within the lesser limits spells the same model within the greater ones
  pub spelled_more : (style : Style) (lines : List (Line (List ℕ))) (m : Model) → SpellsWithin few style lines m →
      SpellsWithin many style lines m
  spelled_more style lines m h = judged_more style lines start 1 m h
