-- The section RANGES of a written text is read as the rows' ranges.
use Rattle.std.proofs.Common.{◌≡◌, true, false, Option, Some, None, List, [], ◌∷◌}
use Rattle.std.proofs.Common.{◌++◌, length, map, refl, sym, ap, ◌∙◌, subst}
use Rattle.std.specs.Prelude.{codes, IfSome, is_some}
use Rattle.std.specs.List.{flat_map, list_any}
use Rattle.std.proofs.lemmas.Bool.{or_parts}
use Rattle.spec_exact.specs.Fraction.{ℚ}
use Rattle.spec_exact.specs.Narrow.{IsNarrow}
use Rattle.spec_model.specs.Model.{Name, Model, ExactRow, is_free}
use Rattle.spec_model.specs.Kept.{IsModel, IsNarrowRow, FitsKind}
use Rattle.spec_mps.specs.declared.style.Style.{Style}
use Rattle.spec_mps.specs.declared.section.Section.TheVariants as section
use Rattle.spec_mps.specs.declared.target.Target.{Target}
use Rattle.spec_mps.specs.declared.target.Target.TheVariants.{Row}
use Rattle.spec_mps.specs.NumberWritten.{IsWord}
use Rattle.spec_mps.specs.Reader.{State}
use Rattle.spec_mps.specs.Sides.{is_used}
use Rattle.spec_mps.specs.Steps.{begun}
use Rattle.spec_mps.specs.Written.{WrittenCards, number_card, range_cards}
use Rattle.spec_mps.specs.Written.{ranges_cards, has_range, section_card}
use Rattle.spec_mps.proofs.Sets.{Ranges}
use Rattle.spec_mps.proofs.WrittenSteps.{Goes}
use Rattle.spec_mps.proofs.WrittenRows.{IsAbsent, AreFresh, names_of, goes_one, goes_none}
use Rattle.spec_mps.proofs.WrittenNames.{fresh_names}
use Rattle.spec_mps.proofs.WrittenParts.{IsNumberCard, number_card_of}
use Rattle.spec_mps.proofs.WrittenHeadings.{ranges_step}
use Rattle.spec_mps.proofs.WrittenRoom.{RoomFor}
use Rattle.spec_mps.proofs.WrittenFacts.{rangeless, start_closed, HasNoRanges, HasNoBounds}
use Rattle.spec_mps.proofs.WrittenRowNumbers.{IsUnpaired, unpaired_next, unpaired_later}
use Rattle.spec_mps.proofs.WrittenRowNumbers.{RowsGo, RowGoes, AllNeed, rows_go, rows_known}
use Rattle.spec_mps.proofs.WrittenSections.{section_read}
use Rattle.spec_mps.proofs.WrittenSets.{number_goes}

-- ---- the rows

-- the cards of the ranges of these rows, without a heading
abbrev ranges_of : List ExactRow → WrittenCards
ranges_of rows = flat_map (λ r. range_cards r.name r.range) rows

-- a row that has a range is not free, and has room for its card
abbrev NeedsRange : Style → ExactRow → Type 0
NeedsRange style r = (v : ℚ) → r.range ≡ Some v → IsNumberCard style r.name v × (is_free r.kind ≡ false)

-- a list is the same with each element as it is
as_they_are : (rows : List ExactRow) → map (λ r. r) rows ≡ rows
as_they_are [] = refl
as_they_are (r ∷ rows) = ap (λ l. r ∷ l) (as_they_are rows)

-- the written cards of the rows' ranges give the rows without ranges their ranges
ranges_go : (style : Style) (s : State) (objective : Name) (rows : List ExactRow)
    (paired : List Target) (set : Option (Option Name)) → s.part ≡ Some section.Ranges →
    s.objective ≡ Some objective → AllNeed (NeedsRange style) rows
    → AreFresh (objective ∷ []) (names_of rows) → IsUnpaired 0 paired → is_used set (Some (codes "RNG")) ≡ true
    → RowsGo style s (map rangeless rows) (ranges_of rows) rows paired set
ranges_go style s objective rows paired set e o known fresh unpaired used =
    subst (λ l. RowsGo style s (map rangeless rows) (ranges_of rows) l paired set) (as_they_are rows)
    (rows_go style s objective (codes "RNG") rangeless (λ r. r) (λ r. range_cards r.name r.range) (NeedsRange style)
    (λ r. refl) (λ done r more p q k f u v. row_goes done r more p q k f u v r.range refl)
    [] rows paired set known fresh unpaired used)
  where
    row_goes : (done : List ExactRow) (r : ExactRow) (more : List ExactRow)
        (paired : List Target) (set : Option (Option Name)) → NeedsRange style r →
        IsAbsent r.name (objective ∷ names_of done) → IsUnpaired (length done) paired →
        is_used set (Some (codes "RNG")) ≡ true → (x : Option ℚ) → r.range ≡ x →
        RowGoes style s (codes "RNG") done (rangeless r) r more (range_cards r.name x) paired set
    row_goes done r more paired set known fresh unpaired used None z =
        let start : State = record s { rows = done ++ rangeless r ∷ more; paired = paired; set = set } in
        let same : rangeless r ≡ r = ap (λ x. record r { range = x }) (sym z) in (
          paired,
          set,
          subst (λ x. Goes style start [] (record s { rows = done ++ x ∷ more; paired = paired; set = set })) same
              (goes_none style start),
          unpaired_later (length done) paired unpaired,
          used,
        )
    row_goes done r more paired set known fresh unpaired used (Some v) z =
        let start : State = record s { rows = done ++ rangeless r ∷ more; paired = paired; set = set } in
        let same : record r { range = Some v } ≡ r = ap (λ x. record r { range = x }) (sym z) in (
          Row (length done) ∷ paired,
          Some (Some (codes "RNG")),
          subst (λ x. Goes style start (number_card (codes "RNG") r.name v ∷ [])
              (record s {
                rows = done ++ x ∷ more;
                paired = Row (length done) ∷ paired;
                set = Some (Some (codes "RNG"));
              })) same
              (number_goes Ranges style s objective done (rangeless r) v more paired set (known v z).1 e o
              (known v z).0 fresh unpaired used),
          unpaired_next (length done) paired unpaired,
          refl,
        )

-- ---- the section, which is there where a row has a range

-- a row that may be kept, and whose range has room, has what its card needs
range_known : (style : Style) (r : ExactRow) → IsWord r.name → FitsKind r.kind r.range → IsNarrowRow r →
    RoomFor style (range_cards r.name r.range) → NeedsRange style r
range_known style r word fit h room v z = (
  number_card_of style (codes "RNG") r.name v word (subst (λ x. IfSome x IsNarrow) z h.range)
      (subst (λ x. RoomFor style (range_cards r.name x)) z room),
  subst (FitsKind r.kind) z fit,
)

-- where no row has a range, the rows are the same without their ranges
none_ranged : (rows : List ExactRow) → list_any has_range rows ≡ false → map rangeless rows ≡ rows
none_ranged [] h = refl
none_ranged (r ∷ rows) h =
    let p = or_parts (is_some r.range) (list_any has_range rows) h in
    ap (λ x. record r { range = x } ∷ map rangeless rows) (sym (absent r.range p.0))
    ∙ ap (λ l. r ∷ l) (none_ranged rows p.1)
  where
    absent : (o : Option ℚ) → is_some o ≡ false → o ≡ None
    absent None e = refl
    absent (Some v) e = cc

-- the section RANGES of a written text, where it is there, is read as the rows' ranges
pub ranges_are_read : (style : Style) (m : Model) → IsModel m → RoomFor style (ranges_cards m) → (s : State) →
    HasNoRanges s m → (t : State) × Goes style s (ranges_cards m) t × HasNoBounds t m
unfolding ranges_cards
ranges_are_read style m kept room s h =
    section_read style s one (section_card (codes "RANGES")) (ranges_of m.rows) (λ t. HasNoBounds t m)
    (goes_one style s one (section_card (codes "RANGES")) (ranges_step style s h.known.may_follow h.no_ranges))
    some (list_any has_range m.rows) room none
  where
    one : State
    one = begun s section.Ranges

    ranged : RoomFor style (ranges_of m.rows) →
        RowsGo style one (map rangeless m.rows) (ranges_of m.rows) m.rows [] None
    ranged r =
        ranges_go style one m.objective m.rows [] None refl h.known.objective
        (rows_known style (λ r. range_cards r.name r.range) (NeedsRange style)
        (range_known style) m.rows kept.rows kept.ranges kept.narrow_rows r)
        (fresh_names m.objective (names_of m.rows) kept.rows_distinct) (λ i k. refl) refl

    some : RoomFor style (ranges_of m.rows) → (t : State) × Goes style one (ranges_of m.rows) t × HasNoBounds t m
    some r =
        let go = subst (λ rows. RowsGo style one rows (ranges_of m.rows) m.rows [] None) (sym h.rows) (ranged r) in
        let u = h.unbounded in (
          record one { rows = m.rows; paired = go.0; set = go.1 },
          go.2,
          record {
            known = start_closed s m h.known;
            unbounded =
                record {
                  no_bounds = u.no_bounds;
                  columns = rw h.known.none_open u.columns;
                  none_lowered = u.none_lowered;
                };
            offset = h.offset;
            rows = refl;
          },
        )

    none : list_any has_range m.rows ≡ false → HasNoBounds s m
    none z =
        record {
          known = h.known;
          unbounded = h.unbounded;
          offset = h.offset;
          rows = h.rows ∙ none_ranged m.rows z;
        }
