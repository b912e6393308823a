-- Cards of RHS or of RANGES give numbers to rows, and the state has these numbers.
--
-- `row_put`: a change that sets the number of a row without one, and keeps kind and name, puts it there alone.
-- `viewed_row`: where two lists of rows agree in what `view` keeps of a row, f gives the same at each place of both.
-- `row_counts`: whether a row counts depends on its kind alone.
use Rattle.std.proofs.Common.{◌≡◌, ◌≢◌, ℕ, zero, suc, ◌<◌, Bool, true, false, cond, eqb, eq-eqb, Option}
use Rattle.std.proofs.Common.{Some, None, Ok, List, [], ◌∷◌, ◌++◌, length, map, refl}
use Rattle.std.proofs.Common.{sym, ap, ◌∙◌, subst, get_or, arith, append_assoc, append-nil}
use Rattle.std.proofs.Math.ListN.{get_or-map}
use Rattle.spec_exact.specs.Fraction.{ℚ, 0ℚ}
use Rattle.spec_model.specs.declared.parts.SizeLimits.{SizeLimits}
use Rattle.spec_model.specs.declared.parts.Kind.{Kind}
use Rattle.spec_model.specs.declared.parts.Kind.TheVariants.{L}
use Rattle.spec_model.specs.Model.{Model, Name, ExactRow, no_row, row, height}
use Rattle.spec_mps.specs.declared.section.Section.{Section}
use Rattle.spec_mps.specs.declared.section.Section.TheVariants as section
use Rattle.spec_mps.specs.declared.style.Style.{Style}
use Rattle.spec_mps.specs.declared.target.Target.{Target}
use Rattle.spec_mps.specs.declared.target.Target.TheVariants.{Objective, Row}
use Rattle.spec_mps.specs.NumberText.{Is, number_of}
use Rattle.spec_mps.specs.Fields.{Fields, text_at, texts_of}
use Rattle.spec_mps.specs.Checks.{Check}
use Rattle.spec_mps.specs.Reader.{State, start, is_among, same_target, new_row, is_first, with_row, place_of, in_turn}
use Rattle.spec_mps.specs.Sides.{is_used, changed_at}
use Rattle.spec_mps.specs.Steps.{has_begun, with_section, begun, headed, data_card, model_by, SpellsWithin}
use Rattle.spec_mps.proofs.CardsDid.{rows_did, PairDid, pairs_keep, put_of, puts_of, SetDid, Used, Skipped}
use Rattle.spec_mps.proofs.Sets.{Sets, part_of, pair_of}
use Rattle.spec_mps.specs.NumberCards.{Pairs, texts_for, side_of, set_on, pairs_on, used_pairs}
use Rattle.spec_mps.specs.TextCards.{Lines, cards_in}
use Rattle.spec_mps.proofs.Frames.{Leads, card_leads, changed_unseen}
use Rattle.spec_mps.proofs.CardsSoFar.{is_section, same_section, begun_elsewhere, pushed}
use Rattle.spec_mps.proofs.Order.{IsOrdered}
use Rattle.spec_mps.proofs.CardRuns.{IsKept, both_kept, spelled_by, stays, headed_leads}
use Rattle.spec_mps.proofs.RowsKept.{RowsSay, rows_kept, row_place}
use Rattle.spec_mps.proofs.RowViews.{RowView, labels, many_labels, row_view, rows_stay, rows_stay_headed}
use Rattle.spec_mps.proofs.RowViews.{place_in, place_by_view, place_name, objective_place, counts}
use Rattle.spec_mps.proofs.PairsKept.{Put, PutAt, put_set, Tells, tells_push, number_is}
use Rattle.spec_mps.proofs.SetsKept.{Says, says_same, says_before, says_begun, says_used, says_skipped}
use Rattle.spec_mps.proofs.SetSections.{part_told, part_later, part_not_rows, part_now}
use Rattle.spec_mps.proofs.SetSections.{set_cards, cards_first, cards_titled, cards_more, cards_all, set_card_did}

-- ---- numbers of targets

-- the number of a target in a state: of the objective what the offset gives, of a row what the row gives
abbrev pub number_at : {V : Type 0} → (ℚ → V) → (ExactRow → V) → State → Target → V
number_at of_offset of_row s Objective = of_offset s.offset
number_at of_offset of_row s (Row i) = of_row (get_or s.rows i no_row)

-- a change of row i changes the row that stands there
changed_here : (change : ExactRow → ExactRow) (rows : List ExactRow) (i : ℕ) → i < length rows →
    get_or (changed_at i change rows) i no_row ≡ change (get_or rows i no_row)
changed_here change [] i h = absurd (omega arith)
changed_here change (r ∷ rows) zero h = refl
changed_here change (r ∷ rows) (suc i) h = changed_here change rows i (omega arith)

-- a change of row i leaves the rows at other places
changed_there : (change : ExactRow → ExactRow) (rows : List ExactRow) (i j : ℕ) → j ≢ i →
    get_or (changed_at i change rows) j no_row ≡ get_or rows j no_row
changed_there change [] i j h = refl
changed_there change (r ∷ rows) zero zero h = absurd (h refl)
changed_there change (r ∷ rows) zero (suc j) h = refl
changed_there change (r ∷ rows) (suc i) zero h = refl
changed_there change (r ∷ rows) (suc i) (suc j) h = changed_there change rows i j (λ e. h (ap suc e))

-- two numbers that are different by the test are different
apart : (i j : ℕ) → eqb i j ≡ false → i ≢ j
apart i j h e = let k : eqb i j ≡ true = eq-eqb i j e in cc

-- the number of a row that a name stands for is below the number of rows
row_inside : (s : State) (name : Name) (i : ℕ) → place_of s name ≡ Some (Row i) → i < length s.rows
row_inside s name i h =
    let l : i < length (labels s.rows) = (place_name (row_view s) name (Row i) (sym (place_by_view s name) ∙ h)).1 in
    omega (arith, many_labels s.rows)

-- a row's kind and name
abbrev label_of : ExactRow → Kind × Name
label_of r = (r.kind, r.name)

-- a change of one row alone, which keeps its kind and its name
pub row_put : {V : Type 0} (of_offset : ℚ → V) (of_row : ExactRow → V) (counted : Kind → Bool) (change : ExactRow → ExactRow) (v : V) →
    ((r : ExactRow) → label_of (change r) ≡ label_of r) → ((r : ExactRow) → of_row (change r) ≡ v) → (s : State)
    (name : Name) (i : ℕ) → place_of s name ≡ Some (Row i) → is_among (Row i) s.paired ≡ false →
    Put V (number_at of_offset of_row) counted s (Row i) v
    (record s { rows = changed_at i change s.rows; paired = Row i ∷ s.paired })
row_put of_offset of_row counted change v label is s name i at new =
    PutAt new refl refl view here elsewhere
  where
    after : State
    after = record s { rows = changed_at i change s.rows; paired = Row i ∷ s.paired }

    view : row_view after ≡ row_view s
    view =
        ap (λ rows. (let w : RowView = record { objective = s.objective; rows = rows } in w))
        (changed_unseen label_of change i s.rows label)

    here : number_at of_offset of_row after (Row i) ≡ v
    here = ap of_row (changed_here change s.rows i (row_inside s name i at)) ∙ is (get_or s.rows i no_row)

    elsewhere : (x : Target) → same_target x (Row i) ≡ false →
        number_at of_offset of_row after x ≡ number_at of_offset of_row s x
    elsewhere Objective ne = refl
    elsewhere (Row j) ne = ap of_row (changed_there change s.rows i j (apart j i ne))

-- what two lists of rows show alike
pub viewed_row : {A : Type 0} (f : ExactRow → A) (view : ExactRow → ExactRow) → view no_row ≡ no_row →
    ((r : ExactRow) → f (view r) ≡ f r) → (xs ys : List ExactRow) → map view xs ≡ map view ys → (i : ℕ) →
    f (get_or xs i no_row) ≡ f (get_or ys i no_row)
viewed_row f view n same xs ys h i =
    sym (same (get_or xs i no_row))
    ∙ ap f (sym (get_or-map view xs i no_row) ∙ (λ j. get_or (h j) i (view no_row)) ∙ get_or-map view ys i no_row)
    ∙ same (get_or ys i no_row)

-- what holds of each row's part and a new one's holds with the new row last
pushed_row : {A : Type 0} (f : ExactRow → A) (P : A → Type 0) (rows : List ExactRow) (new : ExactRow) (i : ℕ) →
    P (f new) → ((j : ℕ) → P (f (get_or rows j no_row))) → P (f (get_or (rows ++ new ∷ []) i no_row))
pushed_row f P [] new zero p h = p
pushed_row f P [] new (suc i) p h = h zero
pushed_row f P (r ∷ rows) new zero p h = h zero
pushed_row f P (r ∷ rows) new (suc i) p h = pushed_row f P rows new i p (λ j. h (suc j))

pub row_counts : (counted : Kind → Bool) (s : State) (i : ℕ) →
    counts counted (row_view s) (Row i) ≡ counted (get_or s.rows i no_row).kind
row_counts counted s i = ap (λ (x : Kind × Name). counted x.0) (get_or-map label_of s.rows i no_row)

-- ---- a section whose cards give numbers

-- how the pairs of RHS or RANGES give numbers to targets: a text gives its number, without one the number is the usual
-- one, a pair puts its number at its target alone, and cards of other sections leave all numbers
pub record GivesNumbers (V : Type 0) (of_offset : ℚ → V) (of_row : ExactRow → V)
    (IsNumber : List (List ℕ) → V → Type 0) (counted : Kind → Bool) (of_number : ℚ → V) (sets : Sets) : Type 0 where
  pub one : (text : List ℕ) (v : ℚ) → number_of text ≡ Is v → IsNumber (text ∷ []) (of_number v)
  pub no_offset : IsNumber [] (of_offset 0ℚ)
  pub no_number : (kind : Kind) (name : Name) → IsNumber [] (of_row (new_row kind name))
  pub did : (s : State) (name : Name) (place : Target) (v : ℚ) (t : State) → place_of s name ≡ Some place →
      put_of sets s place v ≡ Ok t → Put V (number_at of_offset of_row) counted s place (of_number v) t
  pub stay : (p : Section) (s t : State) → is_section (Some p) section.Rows ≡ false →
      is_section (Some p) (part_of sets) ≡ false → Leads p s t → (x : Target) →
      number_at of_offset of_row t x ≡ number_at of_offset of_row s x

-- while the pairs of a card of RHS or RANGES are read: the numbers of targets are what the old pairs and those done
-- say, and the set is in use
record Reads (V : Type 0) (value_of : State → Target → V) (IsNumber : List (List ℕ) → V → Type 0)
    (counted : Kind → Bool) (view : RowView) (old : Pairs) (set : Option Name) (done : Pairs) (u : State) : Type 0 where
  tells : Tells V value_of IsNumber counted view (old ++ done) u
  set_is : u.set ≡ Some set

module _ {V : Type 0} {of_offset : ℚ → V} {of_row : ExactRow → V} {IsNumber : List (List ℕ) → V → Type 0}
    {counted : Kind → Bool} {of_number : ℚ → V} {sets : Sets}
    (g : GivesNumbers V of_offset of_row IsNumber counted of_number sets) where
  abbrev value_of : State → Target → V
  value_of = number_at of_offset of_row

  abbrev part : Section
  part = part_of sets

  abbrev put : State → Target → ℚ → Check State
  put = put_of sets

  abbrev run : State → Pairs → Check State
  run = in_turn (pair_of sets)

  abbrev NumbersSay : List Fields → State → Type 0
  NumbersSay cards s = Says V value_of IsNumber counted part (λ seen. has_begun seen part) cards s

  of_set : (s : State) (set : Option Name) (x : Target) → value_of (record s { set = Some set }) x ≡ value_of s x
  of_set s set Objective = refl
  of_set s set (Row i) = refl

  one_pair : (view : RowView) (old : Pairs) (set : Option Name) (done : Pairs) (s : State)
      (pair : List ℕ × List ℕ) (t : State) → PairDid put s pair t → Reads V value_of IsNumber counted view old set done s →
      Reads V value_of IsNumber counted view old set (done ++ pair ∷ []) t
  one_pair view old set done s pair t p k =
      let did = g.did s pair.0 p.place p.value t p.place_is p.did in
      let at : place_in view pair.0 ≡ Some p.place =
      ap (λ w. place_in w pair.0) (sym k.tells.view_is) ∙ sym (place_by_view s pair.0) ∙ p.place_is in
      record {
        tells =
            subst (λ ps. Tells V value_of IsNumber counted view ps t) (append_assoc old done (pair ∷ []))
            (tells_push counted view (old ++ done) s t pair p.place (of_number p.value) at
            (g.one pair.1 p.value (number_is pair.1 p.value p.number_is)) k.tells did);
        set_is = put_set V value_of counted s p.place (of_number p.value) t did ∙ k.set_is;
      }

  used_card : (cards : List Fields) (card : Fields) (s t : State) → has_begun t.seen part ≡ true →
      is_section s.part part ≡ true → is_used s.set (set_on card) ≡ true →
      run (record s { set = Some (set_on card) }) (pairs_on card) ≡ Ok t → NumbersSay cards s →
      NumbersSay (cards ++ card ∷ []) t
  used_card cards card s t seen here used did k =
      let d = k.during here in
      let first : Tells V value_of IsNumber counted (row_view s)
      (used_pairs cards ++ []) (record s { set = Some (set_on card) }) =
      subst (λ ps. Tells V value_of IsNumber counted (row_view s) ps (record s { set = Some (set_on card) }))
      (sym (append-nil (used_pairs cards)))
      (record {
        view_is = refl;
        numbers =
            λ name x at. subst (IsNumber (texts_for name (used_pairs cards)))
            (sym (of_set s (set_on card) x)) (k.numbers name x at);
        unpaired = d.unpaired;
      }) in
      let r =
      pairs_keep put run (puts_of sets) (Reads V value_of IsNumber counted (row_view s) (used_pairs cards) (set_on card))
      (one_pair (row_view s) (used_pairs cards) (set_on card)) (pairs_on card) []
      (record s { set = Some (set_on card) }) t did (record { tells = first; set_is = refl }) in
      says_used value_of IsNumber counted part (λ seen. has_begun seen part) cards s t k card seen
      (ap (λ o. is_used o (set_on card)) (sym d.set) ∙ used) r.set_is r.tells

  card_says : (cards : List Fields) (card : Fields) (s t : State) → has_begun s.seen part ≡ true →
      is_section s.part part ≡ true → t.seen ≡ s.seen → SetDid s (side_of (texts_of card)) run t →
      NumbersSay cards s → NumbersSay (cards ++ card ∷ []) t
  card_says cards card s t seen here same_seen (Used used did) k =
      used_card cards card s t (ap (λ x. has_begun x part) same_seen ∙ seen) here used did k
  card_says cards card s t seen here same_seen (Skipped other same) k =
      subst (NumbersSay (cards ++ card ∷ [])) same
      (says_skipped value_of IsNumber counted part (λ x. has_begun x part) cards s card seen here
      (ap (λ o. is_used o (set_on card)) (sym (k.during here).set) ∙ other) k)

  -- ---- all steps

  stay_headed : (s : State) (p : Section) (word : List ℕ) (t : State) → headed (begun s p) p word ≡ Ok t →
      (x : Target) → value_of t x ≡ value_of s x
  stay_headed s p word t h Objective = ap (λ (u : State). of_offset u.offset) (headed_leads (begun s p) p word t h)
  stay_headed s p word t h (Row i) =
      ap (λ (u : State). of_row (get_or u.rows i no_row)) (headed_leads (begun s p) p word t h)

  -- a row that is added has no number, and the others keep theirs
  row_added : (s : State) (kind : Kind) (name : Name) → ((x : Target) → IsNumber [] (value_of s x)) →
      (x : Target) → IsNumber [] (value_of (with_row s kind name) x)
  row_added s kind name h x = go (is_first s kind) x
    where
      go : (b : Bool) (x : Target) → IsNumber [] (value_of
          (cond b (record s { objective = Some name }) (record s { rows = s.rows ++ new_row kind name ∷ [] })) x)
      go true Objective = h Objective
      go true (Row i) = h (Row i)
      go false Objective = h Objective
      go false (Row i) =
          pushed_row of_row (IsNumber []) s.rows (new_row kind name) i (g.no_number kind name) (λ j. h (Row j))

  none_first : (x : Target) → IsNumber [] (value_of start x)
  none_first Objective = g.no_offset
  none_first (Row i) = g.no_number L []

  beside_rows : (limits : SizeLimits) (style : Style) (cards : List Fields) (s t : State) (p : Section)
      (card : Fields) →
      is_section (Some p) section.Rows ≡ false → IsOrdered s.part s.seen → s.part ≡ Some p →
      data_card limits style (Some p) s card ≡ Ok t → NumbersSay cards s →
      NumbersSay (pushed (is_section (Some p) part) cards card) t
  beside_rows limits style cards s t p card not_rows o here h k = by (is_section (Some p) part) refl
    where
      leads : Leads p s t
      leads = card_leads limits style p s card t h

      by : (b : Bool) → is_section (Some p) part ≡ b → NumbersSay (pushed b cards card) t
      by true e =
          let at : is_section s.part part ≡ true = ap (λ q. is_section q part) here ∙ e in
          card_says cards card s t (part_told sets s o at) at (stays p s t leads).1
          (set_card_did limits sets style s card t
          (subst (λ q. data_card limits style (Some q) s card ≡ Ok t) (same_section p part e) h)) k
      by false e =
          let st = stays p s t leads in
          says_same value_of IsNumber counted part (λ x. has_begun x part) cards s t k
          (ap (λ x. has_begun x part) st.1) (rows_stay p s t not_rows leads)
          (g.stay p s t not_rows e leads) (ap (λ q. is_section q part) (st.0 ∙ here) ∙ e)

  at_card : (limits : SizeLimits) (style : Style) (cards : List Fields) (s t : State) (p : Section) (card : Fields) →
      IsOrdered s.part s.seen → s.part ≡ Some p → data_card limits style (Some p) s card ≡ Ok t → NumbersSay cards s →
      NumbersSay (pushed (is_section (Some p) part) cards card) t
  at_card limits style cards s t section.Rows card o here h k =
      let st = stays section.Rows s t (card_leads limits style section.Rows s card t h) in
      let new : has_begun s.seen part ≡ false = part_later sets s o (ap (λ q. is_section q section.Rows) here) in
      let d = rows_did style s card t h in
      subst (λ b. NumbersSay (pushed b cards card) t) (sym (part_not_rows sets))
      (says_before value_of IsNumber counted part (λ x. has_begun x part) cards s t k new (ap (λ x. has_begun x part) st.1)
      (subst (λ u. (x : Target) → IsNumber [] (value_of u x)) d.new
      (row_added s d.kind (text_at 2 card) (k.none new).1))
      (ap (λ q. is_section q part) (st.0 ∙ here) ∙ part_not_rows sets))
  at_card limits style cards s t p card o here h k = beside_rows limits style cards s t p card refl o here h k

  at_heading : (cards : List Fields) (s t : State) (p : Section) (word : List ℕ) → has_begun s.seen p ≡ false →
      headed (begun s p) p word ≡ Ok t → NumbersSay cards s → NumbersSay cards t
  at_heading cards s t p word new h k = by (is_section (Some p) part) refl
    where
      seen : t.seen ≡ with_section s.seen p
      seen = ap (λ (x : State). x.seen) (headed_leads (begun s p) p word t h)

      by : (b : Bool) → is_section (Some p) part ≡ b → NumbersSay cards t
      by true e =
          let same = same_section p part e in
          says_begun value_of IsNumber counted part (λ x. has_begun x part) cards s t k
          (subst (λ q. has_begun s.seen q ≡ false) same new)
          (ap (λ x. has_begun x part) seen ∙ ap (λ q. has_begun (with_section s.seen q) part) same
          ∙ part_now sets s.seen)
          (rows_stay_headed s p word t h) (stay_headed s p word t h)
          (ap (λ (x : State). x.set) (headed_leads (begun s p) p word t h))
      by false e =
          says_same value_of IsNumber counted part (λ x. has_begun x part) cards s t k
          (ap (λ x. has_begun x part) seen ∙ begun_elsewhere p part s.seen e)
          (rows_stay_headed s p word t h) (stay_headed s p word t h)
          (ap (λ (x : State). is_section x.part part) (headed_leads (begun s p) p word t h) ∙ e)

  at_start : NumbersSay [] start
  at_start =
      record {
        none = λ h. (refl, none_first);
        numbers = λ name x h. absurd (no_place h.0);
        during = λ h. absurd (cc);
      }
    where
      no_place : {x : Target} → None ≡ Some x → ⊥
      no_place e = cc

  -- after each card and heading the rows are what the cards of ROWS say, and the numbers of targets what those of RHS
  -- or RANGES say
  numbers_kept : (limits : SizeLimits) (style : Style) →
      IsKept limits style (λ c s. RowsSay c.rows (row_view s) × NumbersSay (set_cards sets c) s)
  numbers_kept limits style =
      both_kept limits style (λ c s. RowsSay c.rows (row_view s)) (λ c s. NumbersSay (set_cards sets c) s)
      (rows_kept limits style)
      (record {
        at_start = subst (λ l. NumbersSay l start) (sym (cards_first sets)) at_start;
        at_heading =
            λ c s t p words o new h k. subst (λ l. NumbersSay l t) (sym (cards_titled sets p words c))
            (at_heading (set_cards sets c) s t p (text_at 2 words) new h k);
        at_card =
            λ c s t p card o here h k. subst (λ l. NumbersSay l t) (sym (cards_more sets p card c))
            (at_card limits style (set_cards sets c) s t p card o here h k);
      })

  -- ---- the model

  -- the number of each row of a spelled model, if its kind counts, is what the cards of RHS or RANGES give its name
  pub row_said : (limits : SizeLimits) (style : Style) (lines : Lines) (m : Model) → SpellsWithin limits style lines m →
      (i : ℕ) → i < height m →
      counted (row m i).kind ≡ true →
      IsNumber (texts_for (row m i).name (used_pairs (cards_in style (part_of sets) lines))) (of_row (row m i))
  unfolding model_by
  row_said limits style lines m h =
      let cards = cards_in style (part_of sets) lines in
      let e = spelled_by limits style _ (numbers_kept limits style) lines m h in
      let k : NumbersSay cards e.last = subst (λ l. NumbersSay l e.last) (cards_all sets style lines) e.holds.1 in
      subst (λ (m : Model). (i : ℕ) → i < height m → counted (row m i).kind ≡ true →
      IsNumber (texts_for (row m i).name (used_pairs cards)) (of_row (row m i))) e.model_is
      (λ i l n. k.numbers (get_or e.last.rows i no_row).name (Row i)
      (row_place e.last i e.holds.0.placed l, row_counts counted e.last i ∙ n))

  -- what the offset of a spelled model stands for is what the cards of RHS or RANGES give the objective
  pub objective_said : (limits : SizeLimits) (style : Style) (lines : Lines) (m : Model) →
      SpellsWithin limits style lines m →
      IsNumber (texts_for m.objective (used_pairs (cards_in style (part_of sets) lines))) (of_offset m.offset)
  unfolding model_by
  objective_said limits style lines m h =
      let cards = cards_in style (part_of sets) lines in
      let e = spelled_by limits style _ (numbers_kept limits style) lines m h in
      let k : NumbersSay cards e.last = subst (λ l. NumbersSay l e.last) (cards_all sets style lines) e.holds.1 in
      subst (λ (m : Model). IsNumber (texts_for m.objective (used_pairs cards)) (of_offset m.offset)) e.model_is
      (k.numbers e.objective Objective (objective_place (row_view e.last) e.objective e.objective_is, refl))
