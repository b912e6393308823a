-- Each row of a written text gets its number, one row after another.
--
-- `unpaired_next`: where no row from n on has a number, row n may get one, and no row from n + 1 on has one.
-- `unpaired_later`: where no row from n on has a number, none from n + 1 on has one.
-- `place_of_row`: a row's name, absent before it, stands for the row behind those before it.
-- `rows_known`: where the cards of a kept model's rows have room, each row has what its cards need.
use Rattle.std.proofs.Common.{◌≡◌, ℕ, suc, ◌+◌, ◌≤◌, true, false, Option, Some, List, [], ◌∷◌, ◌++◌}
use Rattle.std.proofs.Common.{length, map, refl, sym, ap, ◌∙◌, subst, append_assoc, length-append, arith}
use Rattle.std.specs.Prelude.{IsTrue}
use Rattle.std.specs.List.{All, flat_map, list_any}
use Rattle.std.proofs.lemmas.List.{map-append}
use Rattle.std.proofs.lemmas.Bool.{or_parts}
use borrow.Author.Tests.{ne_eqb}
use Rattle.spec_text.specs.Words.{same}
use Rattle.spec_model.specs.Model.{Name, ExactRow}
use Rattle.spec_model.specs.Kept.{IsNarrowRow, FitsKind, is_row_name}
use Rattle.spec_mps.specs.declared.style.Style.{Style}
use Rattle.spec_mps.specs.declared.target.Target.{Target}
use Rattle.spec_mps.specs.declared.target.Target.TheVariants.{Row}
use Rattle.spec_mps.specs.NumberWritten.{IsWord}
use Rattle.spec_mps.specs.Reader.{State, place_of, is_among}
use Rattle.spec_mps.specs.Sides.{is_used}
use Rattle.spec_mps.specs.Written.{WrittenCards}
use Rattle.spec_mps.proofs.WrittenSteps.{Goes}
use Rattle.spec_mps.proofs.WrittenRows.{IsAbsent, AreFresh, names_of, goes_none}
use Rattle.spec_mps.proofs.WrittenGoes.{goes_append}
use Rattle.spec_mps.proofs.WrittenNames.{row_name_word}
use Rattle.spec_mps.proofs.WrittenBehind.{place_behind}
use Rattle.spec_mps.proofs.WrittenRoom.{RoomFor, room_front, room_back}

-- ---- where a row is

-- no row from row n on is among the targets that have a number
abbrev pub IsUnpaired : ℕ → List Target → Type 0
IsUnpaired n paired = (i : ℕ) → n ≤ i → is_among (Row i) paired ≡ false

pub unpaired_next : (n : ℕ) (paired : List Target) → IsUnpaired n paired → IsUnpaired (n + 1) (Row n ∷ paired)
unpaired_next n paired h i k = rw (ne_eqb i n (λ e. omega arith), h i (omega arith)) refl

pub unpaired_later : (n : ℕ) (paired : List Target) → IsUnpaired n paired → IsUnpaired (n + 1) paired
unpaired_later n paired h i k = h i (omega arith)

pub place_of_row : (s : State) (objective : Name) (done : List ExactRow) (r : ExactRow) (more : List ExactRow) →
    s.objective ≡ Some objective →
    s.rows ≡ done ++ r ∷ more → IsAbsent r.name (objective ∷ names_of done)
    → place_of s r.name ≡ Some (Row (length done))
unfolding place_of
place_of_row s objective done r more o e h =
    let p = or_parts (same objective r.name) (list_any (λ n. same n r.name) (names_of done)) h in
    rw (o, p.0, e, place_behind (λ q. q.name) r.name done r more p.1 refl) refl

-- ---- all rows

-- these cards lead from the state with the rows `before` to the one with the rows `after`, whatever targets and set are
-- noted then
abbrev pub RowsGo : Style → State → List ExactRow → WrittenCards → List ExactRow → List Target → Option (Option Name) →
    Type 0
RowsGo style s before cards after paired set =
    (p : List Target) × (q : Option (Option Name)) × Goes style
    (record s { rows = before; paired = paired; set = set }) cards (record s { rows = after; paired = p; set = q })

-- these cards change one row, behind those that are done, and leave the others; then no later row has a number, and the
-- set in use is still this group
abbrev pub RowGoes : Style → State → Name → List ExactRow → ExactRow → ExactRow → List ExactRow → WrittenCards →
    List Target → Option (Option Name) → Type 0
RowGoes style s group done r changed more cards paired set =
    (p : List Target) × (q : Option (Option Name)) × Goes style
    (record s { rows = done ++ r ∷ more; paired = paired; set = set })
    cards (record s { rows = done ++ changed ∷ more; paired = p; set = q })
    × IsUnpaired (length done + 1) p × (is_used q (Some group) ≡ true)

-- each row has what `Need` asks
abbrev pub AllNeed : (ExactRow → Type 0) → List ExactRow → Type 0
AllNeed Need [] = Unit {0}
AllNeed Need (r ∷ rows) = Need r × AllNeed Need rows

-- rows that cards change from one form to another
module _ (style : Style) (s : State) (objective group : Name) (before after : ExactRow → ExactRow)
    (cards : ExactRow → WrittenCards) (Need : ExactRow → Type 0) where
  -- the cards of a row, behind the rows that are done and without a number yet, change this row alone, as `before` and
  -- `after` say
  abbrev pub OneGoes : Type 0
  OneGoes =
      (done : List ExactRow) (r : ExactRow) (more : List ExactRow) (paired : List Target) (set : Option (Option Name)) →
      Need r → IsAbsent r.name (objective ∷ names_of done) → IsUnpaired (length done) paired →
      is_used set (Some group) ≡ true → RowGoes style s group done (before r) (after r) more (cards r) paired set

  -- where the cards of one row change it as `before` and `after` say, the cards of all rows do so with each row, one
  -- after another
  pub rows_go : ((r : ExactRow) → (after r).name ≡ r.name) → OneGoes → (done rest : List ExactRow)
      (paired : List Target) (set : Option (Option Name)) → AllNeed Need rest
      → AreFresh (objective ∷ names_of done) (names_of rest) →
      IsUnpaired (length done) paired → is_used set (Some group) ≡ true
      → RowsGo style s (done ++ map before rest) (flat_map cards rest) (done ++ map after rest) paired set
  rows_go same_name one done [] paired set known fresh unpaired used =
      (paired, set, goes_none style (record s { rows = done ++ []; paired = paired; set = set }))
  rows_go same_name one done (r ∷ rest) paired set known fresh unpaired used =
      let o = one done r (map before rest) paired set known.0 fresh.0 unpaired used in
      let next : List ExactRow = done ++ after r ∷ [] in
      let longer : length next ≡ length done + 1 = length-append done (after r ∷ []) in
      let names : (objective ∷ names_of done) ++ r.name ∷ [] ≡ objective ∷ names_of next =
      ap (λ n. objective ∷ (names_of done ++ n ∷ [])) (sym (same_name r))
      ∙ ap (λ l. objective ∷ l) (sym (map-append (λ (q : ExactRow). q.name) done (after r ∷ []))) in
      let rec =
      rows_go same_name one next rest o.0 o.1 known.1 (subst (λ seen. AreFresh seen (names_of rest)) names fresh.1)
      (subst (λ n. IsUnpaired n o.0) (sym longer) o.3) o.4 in
      let a = append_assoc done (after r ∷ []) (map before rest) in
      let b = append_assoc done (after r ∷ []) (map after rest) in
      let later : Goes style (record s { rows = done ++ after r ∷ map before rest; paired = o.0; set = o.1 })
      (flat_map cards rest) (record s { rows = done ++ after r ∷ map after rest; paired = rec.0; set = rec.1 }) =
      subst (λ l. Goes style (record s { rows = l; paired = o.0; set = o.1 }) (flat_map cards rest)
      (record s { rows = done ++ after r ∷ map after rest; paired = rec.0; set = rec.1 })) a
      (subst (λ l. Goes style (record s { rows = next ++ map before rest; paired = o.0; set = o.1 })
      (flat_map cards rest) (record s { rows = l; paired = rec.0; set = rec.1 })) b rec.2) in (
        rec.0,
        rec.1,
        goes_append style (record s { rows = done ++ before r ∷ map before rest; paired = paired; set = set })
            (record s { rows = done ++ after r ∷ map before rest; paired = o.0; set = o.1 })
            (record s { rows = done ++ after r ∷ map after rest; paired = rec.0; set = rec.1 })
            (cards r) (flat_map cards rest) o.2 later,
      )

-- what rows of a model need, where their cards have room
pub rows_known : (style : Style) (cards : ExactRow → WrittenCards) (Need : ExactRow → Type 0) →
    ((r : ExactRow) → IsWord r.name → FitsKind r.kind r.range → IsNarrowRow r → RoomFor style (cards r) → Need r) →
    (rows : List ExactRow) → All (λ r. IsTrue (is_row_name r.name)) rows → All (λ r. FitsKind r.kind r.range) rows →
    All IsNarrowRow rows → RoomFor style (flat_map cards rows) → AllNeed Need rows
rows_known style cards Need f [] names fit narrow room = tt
rows_known style cards Need f (r ∷ rows) names fit narrow room = (
  f r (row_name_word r.name (names 0 r (omega arith))) (fit 0 r (omega arith)) (narrow 0 r (omega arith))
      (room_front style (cards r) (flat_map cards rows) room),
  rows_known style cards Need f rows (λ i d a. names (suc i) d (omega arith)) (λ i d a. fit (suc i) d (omega arith))
      (λ i d a. narrow (suc i) d (omega arith)) (room_back style (cards r) (flat_map cards rows) room),
)
