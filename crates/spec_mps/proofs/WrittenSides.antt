-- The cards of RHS of a written text are read as the rows' right sides.
use Rattle.std.proofs.Common.{◌≡◌, Bool, true, false, cond, Option, Some, List, [], ◌∷◌, ◌++◌}
use Rattle.std.proofs.Common.{length, map, refl, sym, ap, subst}
use Rattle.std.specs.Prelude.{codes}
use Rattle.std.specs.List.{flat_map}
use Rattle.spec_exact.specs.Fraction.{0ℚ, eq_ℚ}
use Rattle.spec_exact.proofs.Same.{eq_if}
use Rattle.spec_model.specs.Model.{Name, ExactRow}
use Rattle.spec_mps.specs.declared.style.Style.{Style}
use Rattle.spec_mps.specs.declared.section.Section.TheVariants as section
use Rattle.spec_mps.specs.declared.target.Target.{Target}
use Rattle.spec_mps.specs.declared.target.Target.TheVariants.{Row}
use Rattle.spec_mps.specs.Reader.{State}
use Rattle.spec_mps.specs.Sides.{is_used}
use Rattle.spec_mps.specs.Written.{WrittenCards, number_card, side_cards}
use Rattle.spec_mps.proofs.Sets.{Sides}
use Rattle.spec_mps.proofs.WrittenSteps.{Goes, bare_row}
use Rattle.spec_mps.proofs.WrittenRows.{IsAbsent, AreFresh, names_of, goes_none}
use Rattle.spec_mps.proofs.WrittenParts.{IsNumberCard}
use Rattle.spec_mps.proofs.WrittenRowNumbers.{IsUnpaired, unpaired_next, unpaired_later}
use Rattle.spec_mps.proofs.WrittenRowNumbers.{RowsGo, RowGoes, AllNeed, rows_go}
use Rattle.spec_mps.proofs.WrittenSets.{number_goes}
use Rattle.spec_mps.proofs.WrittenFacts.{rangeless}

-- where a row's right side is not 0, its name and this number have room on a card
abbrev pub NeedsSide : Style → ExactRow → Type 0
NeedsSide style r = eq_ℚ r.rhs 0ℚ ≡ false → IsNumberCard style r.name r.rhs

-- the cards of the right sides of these rows, without a heading
abbrev pub sides_of : List ExactRow → WrittenCards
sides_of rows = flat_map (λ r. side_cards r.name r.rhs) rows

-- a row whose right side is 0 is, without its range, the row without both
zero_side : (r : ExactRow) → eq_ℚ r.rhs 0ℚ ≡ true → bare_row r ≡ rangeless r
zero_side r e = ap (λ b. record (bare_row r) { rhs = b }) (sym (eq_if r.rhs 0ℚ e))

-- the written cards of the rows' right sides give the rows without right sides theirs
pub sides_go : (style : Style) (s : State) (objective : Name) (rows : List ExactRow)
    (paired : List Target) (set : Option (Option Name)) → s.part ≡ Some section.RightSides →
    s.objective ≡ Some objective → AllNeed (NeedsSide style) rows
    → AreFresh (objective ∷ []) (names_of rows) → IsUnpaired 0 paired → is_used set (Some (codes "RHS")) ≡ true
    → RowsGo style s (map bare_row rows) (sides_of rows) (map rangeless rows) paired set
sides_go style s objective rows paired set e o =
    rows_go style s objective (codes "RHS") bare_row rangeless (λ r. side_cards r.name r.rhs) (NeedsSide style)
    (λ r. refl) (λ done r more p q known fresh unpaired used.
    row_goes done r more p q known fresh unpaired used (eq_ℚ r.rhs 0ℚ) refl) [] rows paired set
  where
    row_goes : (done : List ExactRow) (r : ExactRow) (more : List ExactRow)
        (paired : List Target) (set : Option (Option Name)) → NeedsSide style r →
        IsAbsent r.name (objective ∷ names_of done) → IsUnpaired (length done) paired →
        is_used set (Some (codes "RHS")) ≡ true → (t : Bool) → eq_ℚ r.rhs 0ℚ ≡ t →
        RowGoes style s (codes "RHS") done (bare_row r) (rangeless r) more
        (cond t [] (number_card (codes "RHS") r.name r.rhs ∷ [])) paired set
    row_goes done r more paired set known fresh unpaired used true z =
        let start : State = record s { rows = done ++ bare_row r ∷ more; paired = paired; set = set } in (
          paired,
          set,
          subst (λ x. Goes style start [] (record s { rows = done ++ x ∷ more; paired = paired; set = set }))
              (zero_side r z) (goes_none style start),
          unpaired_later (length done) paired unpaired,
          used,
        )
    row_goes done r more paired set known fresh unpaired used false z = (
      Row (length done) ∷ paired,
      Some (Some (codes "RHS")),
      number_goes Sides style s objective done (bare_row r) r.rhs more paired set tt e o (known z) fresh unpaired used,
      unpaired_next (length done) paired unpaired,
      refl,
    )
