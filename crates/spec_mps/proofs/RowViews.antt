-- The names of the rows in a state, what each stands for, and what leaves them as they are.
--
-- `rows_stay`: a data card of another section than ROWS leaves the objective and the rows' kinds and names.
-- `rows_stay_headed`: a heading leaves the objective and the rows' kinds and names.
-- `many_labels`: there are as many kinds and names as rows.
-- `place_by_view`: what a name stands for in a state depends on the objective and the rows' names alone.
-- `place_name`: a target that a name stands for has that name, and is the objective or one of the rows.
-- `one_name`: two names that stand for one target are the same.
-- `one_target`: two targets that one name stands for are the same.
-- `objective_place`: the name of the objective stands for the objective.
-- `all_count`: where each kind counts, each target counts.
-- `placed_objective`: a name that stands for a row still stands for it after the first objective, whose name was not
--   taken.
-- `placed_row`: a name that stands for a row or the objective still stands for it after one more row.
-- `placed_new`: the name of a new row, which was not taken, stands for that row.
use Rattle.std.proofs.Common.{◌≡◌, ℕ, suc, ◌+◌, ◌<◌, ◌≤◌, Bool, true, false, not, cond}
use Rattle.std.proofs.Common.{ltb, Option, Some, None, Ok, List, [], ◌∷◌, ◌++◌, length}
use Rattle.std.proofs.Common.{map, refl, sym, ap, ◌∙◌, subst, get_or, arith, length-append}
use borrow.Author.Tests.{ltb-true, ltb-false, lt-ltb}
use Rattle.std.specs.List.{position, position_or_len}
use Rattle.std.proofs.lemmas.List.Quantifiers.{position-Some}
use Rattle.std.proofs.lemmas.Option.{same_Some}
use Rattle.spec_text.specs.Words.{same}
use Rattle.spec_text.proofs.WordLemmas.{same_true, same-refl}
use Rattle.spec_model.specs.declared.parts.Kind.{Kind}
use Rattle.spec_model.specs.declared.parts.Kind.TheVariants.{L}
use Rattle.spec_model.specs.Model.{Name, ExactRow}
use Rattle.spec_mps.specs.declared.section.Section.{Section}
use Rattle.spec_mps.specs.declared.section.Section.TheVariants as section
use Rattle.spec_mps.specs.declared.target.Target.{Target}
use Rattle.spec_mps.specs.declared.target.Target.TheVariants.{Objective, Row}
use Rattle.spec_mps.specs.Reader.{State, is_objective, row_at, place_of}
use Rattle.spec_mps.specs.Steps.{begun, headed}
use Rattle.spec_mps.proofs.Frames.{without_side, without_range, Leads}
use Rattle.spec_mps.proofs.CardsSoFar.{is_section}
use Rattle.spec_mps.proofs.CardRuns.{headed_leads}

-- ---- kinds and names

-- what names stand for, as far as it matters: the objective's name, if it was read, and the rows' kinds and names
pub record RowView : Type 0 where
  pub objective : Option Name
  pub rows : List (Kind × Name)

-- the kinds and names of rows, in order
abbrev pub labels : List ExactRow → List (Kind × Name)
labels rows = map (λ r. (r.kind, r.name)) rows

-- the objective's name and the rows' kinds and names of a state
abbrev pub row_view : State → RowView
row_view s = record { objective = s.objective; rows = labels s.rows }

-- changing each row of a list so that its kind and name stay leaves the list's kinds and names
same_labels : (view : ExactRow → ExactRow) → ((r : ExactRow) → (view r).kind ≡ r.kind) →
    ((r : ExactRow) → (view r).name ≡ r.name) → (rows : List ExactRow) → labels (map view rows) ≡ labels rows
same_labels view k n [] = refl
same_labels view k n (r ∷ rows) = λ i. (k r i, n r i) ∷ same_labels view k n rows i

-- two lists of rows that agree in parts with kind and name among them have the same kinds and names
viewed_labels : (view : ExactRow → ExactRow) → ((r : ExactRow) → (view r).kind ≡ r.kind) →
    ((r : ExactRow) → (view r).name ≡ r.name) → (xs ys : List ExactRow) → map view xs ≡ map view ys →
    labels xs ≡ labels ys
viewed_labels view k n xs ys h = sym (same_labels view k n xs) ∙ ap labels h ∙ same_labels view k n ys

pub rows_stay : (part : Section) (s t : State) → is_section (Some part) section.Rows ≡ false → Leads part s t →
    row_view t ≡ row_view s
rows_stay section.Name s t e h = ap row_view h
rows_stay section.Sense s t e h = ap row_view h
rows_stay section.Rows s t e h = absurd (cc)
rows_stay section.Columns s t e h = ap row_view h
rows_stay section.RightSides s t e h =
    let names = viewed_labels without_side (λ r. refl) (λ r. refl) t.rows s.rows (ap (λ (u : State). u.rows) h) in
    λ i. record { objective = (h i).objective; rows = names i }
rows_stay section.Ranges s t e h =
    let names = viewed_labels without_range (λ r. refl) (λ r. refl) t.rows s.rows (ap (λ (u : State). u.rows) h) in
    λ i. record { objective = (h i).objective; rows = names i }
rows_stay section.Bounds s t e h = ap row_view h
rows_stay section.End s t e h = ap row_view h

pub rows_stay_headed : (s : State) (part : Section) (word : List ℕ) (t : State) →
    headed (begun s part) part word ≡ Ok t → row_view t ≡ row_view s
rows_stay_headed s part word t h = ap row_view (headed_leads (begun s part) part word t h)

-- ---- what a name stands for

-- what a name stands for: the objective, or a row by its number; none for an unknown name
abbrev pub place_in : RowView → Name → Option Target
place_in v name =
    cond (is_objective v.objective name) (Some Objective) (row_at (position (λ r. same r.1 name) v.rows))

-- the first place of a name among rows is its first place among their kinds and names
first_label : (name : Name) (rows : List ExactRow) →
    position_or_len (λ r. same r.name name) rows ≡ position_or_len (λ r. same r.1 name) (labels rows)
first_label name [] = refl
first_label name (r ∷ rows) = ap (λ n. cond (not (same r.name name)) (1 + n) 0) (first_label name rows)

pub many_labels : (rows : List ExactRow) → length (labels rows) ≡ length rows
many_labels [] = refl
many_labels (r ∷ rows) = ap suc (many_labels rows)

pub place_by_view : (s : State) (name : Name) → place_of s name ≡ place_in (row_view s) name
unfolding place_of
place_by_view s name =
    λ i. cond (is_objective s.objective name) (Some Objective) (row_at
    (cond (ltb (first_label name s.rows i) (sym (many_labels s.rows) i)) (Some (first_label name s.rows i)) None))

-- ---- the name of a target

-- a kind and a name that stand in where there is no row: L and no bytes
abbrev pub no_label : Kind × Name
no_label = (L, [])

-- the name of a target: that of the objective, if there is one, or of the row
abbrev pub name_in : RowView → Target → Option Name
name_in v Objective = v.objective
name_in v (Row i) = Some (get_or v.rows i no_label).1

-- the target is the objective or one of the rows
abbrev pub IsIn : RowView → Target → Type 0
IsIn v Objective = Unit {0}
IsIn v (Row i) = i < length v.rows

-- a name that is the objective's by the test is the objective's
objective_name : (o : Option Name) (name : Name) → is_objective o name ≡ true → o ≡ Some name
objective_name None name h = absurd (cc)
objective_name (Some objective) name h = ap (λ n. Some n) (same_true objective name h)

pub place_name : (v : RowView) (name : Name) (t : Target) → place_in v name ≡ Some t →
    (name_in v t ≡ Some name) × IsIn v t
place_name v name t h =
    go (is_objective v.objective name) (position (λ r. same r.1 name) v.rows) refl refl h
  where
    by_target : (u : Target) → u ≡ t → (name_in v u ≡ Some name) × IsIn v u → (name_in v t ≡ Some name) × IsIn v t
    by_target u e k = subst (λ x. (name_in v x ≡ Some name) × IsIn v x) e k

    go : (a : Bool) (o : Option ℕ) → is_objective v.objective name ≡ a → position (λ r. same r.1 name) v.rows ≡ o →
        cond a (Some Objective) (row_at o) ≡ Some t → (name_in v t ≡ Some name) × IsIn v t
    go true o e f k = by_target Objective (same_Some _ _ k) (objective_name v.objective name e, tt)
    go false None e f k = absurd (cc)
    go false (Some i) e f k =
        let p = position-Some (λ (r : Kind × Name). same r.1 name) v.rows i no_label f in
        by_target (Row i) (same_Some _ _ k) (ap (λ n. Some n) (same_true (get_or v.rows i no_label).1 name p.1), p.0)

-- a target has one name
pub one_name : (v : RowView) (a b : Name) (t : Target) → place_in v a ≡ Some t → place_in v b ≡ Some t →
    a ≡ b
one_name v a b t h k = same_Some a b (sym (place_name v a t h).0 ∙ (place_name v b t k).0)

-- and a name has one target
pub one_target : (v : RowView) (a : Name) (t u : Target) → place_in v a ≡ Some t → place_in v a ≡ Some u →
    t ≡ u
one_target v a t u h k = same_Some t u (sym h ∙ k)

pub objective_place : (v : RowView) (name : Name) → v.objective ≡ Some name → place_in v name ≡ Some Objective
objective_place v name h =
    ap (λ o. cond (is_objective o name) (Some Objective) (row_at (position (λ r. same r.1 name) v.rows))) h
    ∙ ap (λ b. cond b (Some Objective) (row_at (position (λ r. same r.1 name) v.rows))) (same-refl name)

-- ---- the targets that count

-- whether a target counts: the objective does, and each row whose kind passes the test
abbrev pub counts : (Kind → Bool) → RowView → Target → Bool
counts counted v Objective = true
counts counted v (Row i) = counted (get_or v.rows i no_label).0

-- the test that each kind of rows passes
abbrev pub every_kind : Kind → Bool
every_kind kind = true

pub all_count : (v : RowView) (t : Target) → counts every_kind v t ≡ true
all_count v Objective = refl
all_count v (Row i) = refl

-- the name stands for this target, and the target counts
abbrev pub StandsFor : (Kind → Bool) → RowView → Name → Target → Type 0
StandsFor counted v name t = (place_in v name ≡ Some t) × (counts counted v t ≡ true)

-- ---- each row's name stands for it

-- the name of each row stands for that row
pub record IsPlaced (v : RowView) : Type 0 where
  pub place : (i : ℕ) → i < length v.rows → place_in v (get_or v.rows i no_label).1 ≡ Some (Row i)

-- a name that stands for something is not a new one
differs : (v : RowView) (new old : Name) (x : Target) → place_in v new ≡ None → place_in v old ≡ Some x → (b : Bool) →
    same new old ≡ b → b ≡ false
differs v new old x h k true e = absurd (no_some (sym h ∙ ap (place_in v) (same_true new old e) ∙ k))
  where
    no_some : None ≡ Some x → ⊥
    no_some p = cc
differs v new old x h k false e = refl

-- an objective, where there was none
pub placed_objective : (v : RowView) (new old : Name) (t : Target) → v.objective ≡ None → place_in v new ≡ None →
    place_in v old ≡ Some t → place_in (record v { objective = Some new }) old ≡ Some t
placed_objective v new old t none h k =
    ap (λ b. cond b (Some Objective) rest) (differs v new old t h k (same new old) refl)
    ∙ ap (λ o. cond (is_objective o old) (Some Objective) rest) (sym none)
    ∙ k
  where
    rest : Option Target
    rest = row_at (position (λ r. same r.1 old) v.rows)

-- the first place that passes a test, where there is one, is the same in a longer list
first_more : {X : Type 0} (p : X → Bool) (xs ys : List X) → position_or_len p xs < length xs →
    position_or_len p (xs ++ ys) ≡ position_or_len p xs
first_more p [] ys h = absurd (omega arith)
first_more p (x ∷ xs) ys h = go (p x) (first_more p xs ys) h
  where
    go : (b : Bool) → (position_or_len p xs < length xs → position_or_len p (xs ++ ys) ≡ position_or_len p xs) →
        cond (not b) (1 + position_or_len p xs) 0 < suc (length xs) →
        cond (not b) (1 + position_or_len p (xs ++ ys)) 0 ≡ cond (not b) (1 + position_or_len p xs) 0
    go true f k = refl
    go false f k = ap (λ n. 1 + n) (f (omega arith))

-- where the last item alone passes, the first place that passes is the old length
first_last : {X : Type 0} (p : X → Bool) (xs : List X) (y : X) → length xs ≤ position_or_len p xs → p y ≡ true →
    position_or_len p (xs ++ y ∷ []) ≡ length xs
first_last p [] y h e = ap (λ b. cond (not b) 1 0) e
first_last p (x ∷ xs) y h e = go (p x) (λ k. first_last p xs y k e) h
  where
    go : (b : Bool) → (length xs ≤ position_or_len p xs → position_or_len p (xs ++ y ∷ []) ≡ length xs) →
        suc (length xs) ≤ cond (not b) (1 + position_or_len p xs) 0 →
        cond (not b) (1 + position_or_len p (xs ++ y ∷ [])) 0 ≡ suc (length xs)
    go true f k = absurd (omega arith)
    go false f k = omega (arith, f (omega arith))

-- a position that a search finds in a list, it finds with one more item at the end
position_more : {X : Type 0} (p : X → Bool) (xs : List X) (y : X) (i : ℕ) → position p xs ≡ Some i →
    position p (xs ++ y ∷ []) ≡ Some i
position_more p xs y i h = go (ltb (position_or_len p xs) (length xs)) refl h
  where
    go : (b : Bool) → ltb (position_or_len p xs) (length xs) ≡ b → cond b (Some (position_or_len p xs)) None ≡ Some i →
        position p (xs ++ y ∷ []) ≡ Some i
    go true e k =
        let less : position_or_len p xs < length xs = ltb-true _ _ e in
        rw (
          first_more p xs (y ∷ []) less,
          lt-ltb (position_or_len p xs) (length (xs ++ y ∷ [])) (omega (arith, length-append xs (y ∷ []))),
        ) k
    go false e k = absurd (cc)

-- where a new last item alone passes, a search finds the old length
position_last : {X : Type 0} (p : X → Bool) (xs : List X) (y : X) → position p xs ≡ None → p y ≡ true →
    position p (xs ++ y ∷ []) ≡ Some (length xs)
position_last p xs y h e = go (ltb (position_or_len p xs) (length xs)) refl h
  where
    go : (b : Bool) → ltb (position_or_len p xs) (length xs) ≡ b → cond b (Some (position_or_len p xs)) None ≡ None →
        position p (xs ++ y ∷ []) ≡ Some (length xs)
    go true f k = absurd (cc)
    go false f k =
        let most : length xs ≤ position_or_len p xs = ltb-false _ _ f in
        rw (
          first_last p xs y most e,
          lt-ltb (length xs) (length (xs ++ y ∷ [])) (omega (arith, length-append xs (y ∷ []))),
        ) refl

-- one more row
pub placed_row : (v : RowView) (new : Kind × Name) (old : Name) (t : Target) → place_in v old ≡ Some t →
    place_in (record v { rows = v.rows ++ new ∷ [] }) old ≡ Some t
placed_row v new old t k =
    go (is_objective v.objective old) (position (λ r. same r.1 old) v.rows) refl k
  where
    go : (a : Bool) (o : Option ℕ) → position (λ r. same r.1 old) v.rows ≡ o →
        cond a (Some Objective) (row_at o) ≡ Some t →
        cond a (Some Objective) (row_at (position (λ r. same r.1 old) (v.rows ++ new ∷ []))) ≡ Some t
    go true o e k = k
    go false None e k = absurd (cc)
    go false (Some i) e k = ap row_at (position_more (λ (r : Kind × Name). same r.1 old) v.rows new i e) ∙ k

pub placed_new : (v : RowView) (kind : Kind) (new : Name) → place_in v new ≡ None →
    place_in (record v { rows = v.rows ++ (kind, new) ∷ [] }) new ≡ Some (Row (length v.rows))
placed_new v kind new h =
    go (is_objective v.objective new) (position (λ r. same r.1 new) v.rows) refl h
  where
    go : (a : Bool) (o : Option ℕ) → position (λ r. same r.1 new) v.rows ≡ o → cond a (Some Objective) (row_at o) ≡ None →
        cond a (Some Objective) (row_at (position (λ r. same r.1 new) (v.rows ++ (kind, new) ∷ [])))
        ≡ Some (Row (length v.rows))
    go true o e k = absurd (cc)
    go false (Some i) e k = absurd (cc)
    go false None e k =
        ap row_at (position_last (λ (r : Kind × Name). same r.1 new) v.rows (kind, new) e (same-refl new))
