-- The section BOUNDS of a written text as a whole, and its end.
--
-- `bounds_are_read`: the cards of BOUNDS of a written model, where the form has room for them, lead the reader to the
--   whole model.
-- `end_step`: the line ENDATA ends the text with the model whose parts the state has.
use Rattle.std.proofs.Common.{◌≡◌, ℕ, suc, Bool, true, false, Option, Some, None, Ok, List, [], ◌∷◌}
use Rattle.std.proofs.Common.{◌++◌, length, map, refl, sym, ap, ◌∙◌, subst, append_assoc, length-append, arith}
use Rattle.std.specs.Prelude.{codes, IfSome}
use Rattle.std.specs.List.{All, flat_map, list_any}
use Rattle.std.proofs.lemmas.List.{map-append}
use Rattle.std.proofs.lemmas.Bool.{not-false, or_parts}
use Rattle.spec_text.specs.declared.line.Line.TheVariants.{Text}
use Rattle.spec_text.specs.Words.{words_of}
use Rattle.spec_exact.specs.Fraction.{ℚ, 0ℚ}
use Rattle.spec_exact.specs.Narrow.{IsNarrow}
use Rattle.spec_exact.proofs.Same.{eq_if}
use Rattle.spec_model.specs.Model.{Name, Model, ExactColumn}
use Rattle.spec_model.specs.Kept.{IsModel, IsKeptColumn, IsNarrowColumn, IsBound, usual_limits}
use Rattle.spec_mps.specs.declared.style.Style.{Style}
use Rattle.spec_mps.specs.declared.section.Section.TheVariants as section
use Rattle.spec_mps.specs.Cards.{is_skipped}
use Rattle.spec_mps.specs.Fields.{free_fields, fixed_fields, word_fields}
use Rattle.spec_mps.specs.Shapes.{section_of}
use Rattle.spec_mps.specs.Reader.{State}
use Rattle.spec_mps.specs.Sides.{is_used}
use Rattle.spec_mps.specs.Steps.{Done, begun, finished, model_by, step}
use Rattle.spec_mps.specs.Steps.{section_card as on_section}
use Rattle.spec_mps.specs.Written.{WrittenCards, bound_cards, bounds_cards, has_bounds, is_usual, section_card}
use Rattle.spec_mps.proofs.WrittenSteps.{Goes, bare_column}
use Rattle.spec_mps.proofs.WrittenRows.{AreFresh, goes_one, goes_none}
use Rattle.spec_mps.proofs.WrittenNames.{name_word, fresh}
use Rattle.spec_mps.proofs.WrittenGoes.{goes_append}
use Rattle.spec_mps.proofs.WrittenHeadings.{bounds_step, heading_step}
use Rattle.spec_mps.proofs.WrittenSections.{section_read}
use Rattle.spec_mps.proofs.WrittenRoom.{RoomFor, room_front, room_back}
use Rattle.spec_mps.proofs.WrittenFacts.{start_closed, HasNoBounds, IsWhole}
use Rattle.spec_mps.proofs.WrittenKinds.{IsBoundNumber}
use Rattle.spec_mps.proofs.WrittenBounds.{IsBounded, bounding, spot, column_names, column_bounded}

-- ---- the columns

-- the cards of the bounds of these columns, without a heading
abbrev bounds_of : List ExactColumn → WrittenCards
bounds_of columns = flat_map (λ c. bound_cards c.name c.lower c.upper) columns

-- a bound that may be kept and has 127 bits may stand on a written card
bound_number : (o : Option ℚ) → IsBound o → IfSome o IsNarrow → IfSome o IsBoundNumber
bound_number None h k = tt
bound_number (Some q) h k = record { narrow = k; small = h }

-- the columns after some others get their bounds
abbrev AreBounded : Style → State → List ExactColumn → List ExactColumn → List Bool → Option (Option Name) → Type 0
AreBounded style s done rest before set =
    (bs : List Bool) × (q : Option (Option Name))
    × Goes style (bounding s (done ++ map bare_column rest) (before ++ map (λ c. false) rest) set)
    (bounds_of rest) (bounding s (done ++ rest) bs q)

-- one more column that is done adds its name to the names that are done
names_next : (done : List ExactColumn) (c : ExactColumn) →
    column_names done ++ c.name ∷ [] ≡ column_names (done ++ c ∷ [])
names_next done c = sym (map-append (λ x. x.name) done (c ∷ []))

-- the written cards of columns still to come give these their bounds
bounds_go : (style : Style) (height : ℕ) (s : State) (done rest : List ExactColumn)
    (before : List Bool) (set : Option (Option Name)) → s.part ≡ Some section.Bounds →
    All (IsKeptColumn height) rest → All IsNarrowColumn rest
    → AreFresh (column_names done) (column_names rest) → length before ≡ length done →
    is_used set (Some (codes "BND")) ≡ true → RoomFor style (bounds_of rest) → AreBounded style s done rest before set
bounds_go style height s done [] before set e kept narrow fresh alike used room =
    (before ++ [], set, goes_none style (bounding s (done ++ []) (before ++ []) set))
bounds_go style height s done (c ∷ rest) before set e kept narrow fresh alike used room =
    let k : IsKeptColumn height c = kept 0 c (omega arith) in
    let n : IsNarrowColumn c = narrow 0 c (omega arith) in
    let one : IsBounded style s done c (map bare_column rest) before
    (map (λ c. false) rest) set (bound_cards c.name c.lower c.upper) =
    column_bounded style s done c (map bare_column rest) before
    (map (λ c. false) rest) set e (record { absent = fresh.0; alike = alike }) used
    (name_word c.name k.name) c.lower c.upper (bound_number c.lower k.lower n.lower)
    (bound_number c.upper k.upper n.upper)
    (room_front style (bound_cards c.name c.lower c.upper) (bounds_of rest) room) in
    let longer = length-append done (c ∷ []) in
    let lowered = length-append before (one.0 ∷ []) in
    let rec : AreBounded style s (done ++ c ∷ []) rest (before ++ one.0 ∷ []) one.1 =
    bounds_go style height s (done ++ c ∷ []) rest (before ++ one.0 ∷ []) one.1 e
    (λ i d a. kept (suc i) d (omega arith)) (λ i d a. narrow (suc i) d (omega arith))
    (subst (λ seen. AreFresh seen (column_names rest)) (names_next done c) fresh.1)
    (omega arith) one.3 (room_back style (bound_cards c.name c.lower c.upper) (bounds_of rest) room) in
    let x = append_assoc done (c ∷ []) (map bare_column rest) in
    let y = append_assoc before (one.0 ∷ []) (map (λ c. false) rest) in
    let z = append_assoc done (c ∷ []) rest in
    let more : Goes style (spot s done c (map bare_column rest) before one.0 (map (λ c. false) rest) one.1)
    (bounds_of rest) (bounding s (done ++ c ∷ rest) rec.0 rec.1) =
    subst (λ cs. Goes style (bounding s cs (before ++ one.0 ∷ map (λ c. false) rest) one.1)
    (bounds_of rest) (bounding s (done ++ c ∷ rest) rec.0 rec.1)) x
    (subst (λ bs. Goes style (bounding s ((done ++ c ∷ []) ++ map bare_column rest) bs one.1)
    (bounds_of rest) (bounding s (done ++ c ∷ rest) rec.0 rec.1)) y
    (subst (λ cs. Goes style
    (bounding s ((done ++ c ∷ []) ++ map bare_column rest) ((before ++ one.0 ∷ []) ++ map (λ c. false) rest) one.1)
    (bounds_of rest) (bounding s cs rec.0 rec.1)) z rec.2)) in (
      rec.0,
      rec.1,
      goes_append style (spot s done (bare_column c) (map bare_column rest) before false (map (λ c. false) rest) set)
          (spot s done c (map bare_column rest) before one.0 (map (λ c. false) rest) one.1)
          (bounding s (done ++ c ∷ rest) rec.0 rec.1) (bound_cards c.name c.lower c.upper) (bounds_of rest) one.2 more,
    )

-- ---- the section, which is there where bounds are not the usual ones

-- a column without its bounds has the usual bounds
usual_is : (c : ExactColumn) (lower upper : Option ℚ) → is_usual lower upper ≡ true →
    bare_column c ≡ record c { lower = lower; upper = upper }
usual_is c None upper h = cc
usual_is c (Some l) None h = ap (λ x. record c { lower = Some x; upper = None }) (sym (eq_if l 0ℚ h))
usual_is c (Some l) (Some u) h = cc

-- where all columns have the usual bounds, they are the same without their bounds
none_bounded : (columns : List ExactColumn) → list_any has_bounds columns ≡ false → map bare_column columns ≡ columns
none_bounded [] h = refl
none_bounded (c ∷ columns) h =
    let p = or_parts (has_bounds c) (list_any has_bounds columns) h in
    ap (λ x. x ∷ map bare_column columns) (usual_is c c.lower c.upper (not-false (is_usual c.lower c.upper) p.0))
    ∙ ap (λ l. c ∷ l) (none_bounded columns p.1)

pub bounds_are_read : (style : Style) (m : Model) → IsModel m → RoomFor style (bounds_cards m) → (s : State) →
    HasNoBounds s m → (t : State) × Goes style s (bounds_cards m) t × IsWhole t m
unfolding bounds_cards
bounds_are_read style m kept room s h =
    section_read style s one (section_card (codes "BOUNDS")) (bounds_of m.columns) (λ t. IsWhole t m)
    (goes_one style s one (section_card (codes "BOUNDS"))
    (bounds_step style s h.known.may_follow h.unbounded.no_bounds))
    some (list_any has_bounds m.columns) room none
  where
    one : State
    one = begun s section.Bounds

    none_open : one.columns ≡ map bare_column m.columns
    none_open = rw h.known.none_open h.unbounded.columns

    go : RoomFor style (bounds_of m.columns) → AreBounded style one [] m.columns [] None
    go r =
        bounds_go style (length m.rows) one [] m.columns [] None refl kept.columns kept.narrow_columns
        (fresh [] (column_names m.columns) (λ i d a. refl) kept.columns_distinct) refl refl r

    here : (bs : List Bool) (q : Option (Option Name)) →
        Goes style (bounding one (map bare_column m.columns) (map (λ c. false) m.columns) None)
        (bounds_of m.columns) (bounding one m.columns bs q)
        → Goes style one (bounds_of m.columns) (bounding one m.columns bs q)
    here bs q g =
        subst (λ ls. Goes style (bounding one one.columns ls None) (bounds_of m.columns) (bounding one m.columns bs q))
        (sym h.unbounded.none_lowered)
        (subst (λ cs. Goes style (bounding one cs (map (λ c. false) m.columns) None)
        (bounds_of m.columns) (bounding one m.columns bs q)) (sym none_open) g)

    some : RoomFor style (bounds_of m.columns) → (t : State) × Goes style one (bounds_of m.columns) t × IsWhole t m
    some r =
        let g = go r in (
          bounding one m.columns g.0 g.1,
          here g.0 g.1 g.2,
          record { known = start_closed s m h.known; offset = h.offset; rows = h.rows; columns = refl },
        )

    none : list_any has_bounds m.columns ≡ false → IsWhole s m
    none z =
        record {
          known = h.known;
          offset = h.offset;
          rows = h.rows;
          columns = h.unbounded.columns ∙ none_bounded m.columns z;
        }

-- ---- the end

-- a state that has all of a model makes that model
is_model : (s : State) (m : Model) → IsWhole s m → model_by s m.objective ≡ m
unfolding model_by
is_model s m h = let k = h.known in rw (k.name, k.sense, h.offset, h.rows, k.none_open, h.columns) refl

pub end_step : (style : Style) (s : State) (m : Model) → IsWhole s m →
    step usual_limits style s (Text (codes "ENDATA")) ≡ Ok (Done m)
unfolding on_section section_of free_fields fixed_fields is_skipped word_fields words_of finished model_by
end_step style s m h =
    heading_step style s (codes "ENDATA") refl refl
    ∙ rw (h.known.may_follow, h.known.objective) (ap (λ x. Ok (Done x)) (is_model s m h))
