-- The columns, their costs and their coefficients are what the cards of COLUMNS say.
--
-- `all_whole`: where the whole columns and the open one have the numbers that the cards say, all columns have.
-- `columns_card_says`: where the state's columns are what the cards that were read say, they still are after one more
--   card of COLUMNS.
use Rattle.std.proofs.Common.{◌≡◌, ℕ, Bool, true, false, not, ◌||◌, cond, Option, Some}
use Rattle.std.proofs.Common.{None, option_map, Ok, List, [], ◌∷◌, ◌++◌, map, refl, sym, ap, ◌∙◌, subst}
use Rattle.std.proofs.Common.{subst₂, get_or, append_assoc, append-nil, All, IfSome, codes}
use Rattle.std.specs.List.{list_any}
use Rattle.std.proofs.lemmas.List.{map-append}
use Rattle.std.proofs.lemmas.List.Elements.{All-push, All-map}
use Rattle.std.proofs.lemmas.Bool.{not-true}
use Rattle.spec_text.specs.Words.{same}
use Rattle.spec_text.proofs.WordLemmas.{same_true, same-refl}
use Rattle.spec_exact.specs.Fraction.{ℚ, 0ℚ}
use Rattle.spec_model.specs.declared.parts.SizeLimits.{SizeLimits}
use Rattle.spec_model.specs.Model.{Name, ExactColumn}
use Rattle.spec_mps.specs.declared.fault.Code.TheVariants as code
use Rattle.spec_mps.specs.declared.section.Section.TheVariants as section
use Rattle.spec_mps.specs.declared.style.Style.{Style}
use Rattle.spec_mps.specs.declared.target.Target.{Target}
use Rattle.spec_mps.specs.declared.target.Target.TheVariants.{Objective, Row}
use Rattle.spec_mps.specs.Fields.{Fields, text_at, texts_of}
use Rattle.spec_mps.specs.Shapes.{shaped}
use Rattle.spec_mps.specs.Reader.{State, is_among, new_column, columns_with, whole_columns}
use Rattle.spec_mps.specs.Reader.{is_open, with_number, enter, pairs_of, columns_card, marker_field}
use Rattle.spec_mps.proofs.Names.{none_pass}
use Rattle.spec_mps.proofs.CheckSteps.{step_ok, must_ok, same_ok}
use Rattle.spec_mps.specs.NumberCards.{Pairs, IsTheNumber, texts_for}
use Rattle.spec_mps.specs.ColumnCards.{column_on, numbers_on, named_columns, pairs_of_column}
use Rattle.spec_mps.proofs.CardsDid.{PairDid, pairs_keep, column_puts, Opens, Same, New, columns_did}
use Rattle.spec_mps.proofs.SoundColumns.{number_name}
use Rattle.spec_mps.proofs.CardsSoFar.{is_section}
use Rattle.spec_mps.proofs.Order.{not_both}
use Rattle.spec_mps.proofs.RowViews.{RowView, row_view, place_in, place_by_view, every_kind, all_count, StandsFor}
use Rattle.spec_mps.proofs.PairsKept.{Put, PutAt, Tells, tells_push, number_is, texts_none}
use Rattle.spec_mps.proofs.ColumnLemmas.{IsColumn, column_is, pairs_push, is_named, named_push, firsts_push}
use Rattle.spec_mps.proofs.ColumnLemmas.{not_named, unnamed_pairs, AreNonZero}
use Rattle.spec_mps.proofs.ColumnNumbers.{number_at, open_number, open_at, number_here, number_there}
use Rattle.spec_mps.proofs.ColumnNumbers.{number_non_zero}

-- ---- what the cards say of columns

-- the column's cost and its entry in each row are the numbers that these cards of COLUMNS give it
pub record IsSaid (view : RowView) (cards : List Fields) (c : ExactColumn) : Type 0 where
  pub numbers : (name : Name) (t : Target) → place_in view name ≡ Some t →
      IsTheNumber (texts_for name (pairs_of_column c.name cards)) (number_at c t)

-- the open column has the numbers that these cards give it, and for each target without a number the cards say none; it
-- is named on a card, and no whole column has its name
pub record IsOpenSaid (view : RowView) (cards : List Fields)
    (columns : List ExactColumn) (paired : List Target) (c : ExactColumn) : Type 0 where
  pub said : IsSaid view cards c
  pub unpaired : (name : Name) (t : Target) → place_in view name ≡ Some t → is_among t paired ≡ false →
      texts_for name (pairs_of_column c.name cards) ≡ []
  pub non_zero : AreNonZero c.entries
  pub others : All (λ d. same d.name c.name ≡ false) columns
  pub known : is_named c.name cards ≡ true

-- the state's columns are those that these cards of COLUMNS name, in order, with the numbers that the cards give them;
-- before COLUMNS there is none, and outside it none is open
pub record ColumnsSay (cards : List Fields) (s : State) : Type 0 where
  pub none : s.seen.columns ≡ false → (cards ≡ []) × (s.columns ≡ []) × (s.column ≡ None)
  pub shut : is_section s.part section.Columns ≡ false → s.column ≡ None
  pub names : map (λ c. c.name) (whole_columns s) ≡ named_columns cards
  pub whole : All (IsSaid (row_view s) cards) s.columns
  pub last : IfSome s.column (IsOpenSaid (row_view s) cards s.columns s.paired)

-- ---- the pairs of a card

-- while the pairs of a card of COLUMNS are read: the open column has this name and the numbers of the old pairs and of
-- those done, and the whole columns are these
record IsReading (view : RowView) (old : Pairs) (name : Name)
    (columns : List ExactColumn) (done : Pairs) (u : State) : Type 0 where
  columns_are : u.columns ≡ columns
  tells : Tells ℚ open_at IsTheNumber every_kind view (old ++ done) u
  column : ExactColumn
  column_is : u.column ≡ Some column
  name_is : column.name ≡ name
  non_zero : AreNonZero column.entries

-- after one more pair the open column has the numbers of the pairs so far
one_pair : (view : RowView) (old : Pairs) (name : Name) (columns : List ExactColumn)
    (done : Pairs) (s : State) (pair : List ℕ × List ℕ) (t : State) → PairDid enter s pair t →
    IsReading view old name columns done s → IsReading view old name columns (done ++ pair ∷ []) t
unfolding enter
one_pair view old name columns done s pair t p k = by
  where
    v : ℚ
    v = p.value

    at : place_in view pair.0 ≡ Some p.place
    at = ap (λ w. place_in w pair.0) (sym k.tells.view_is) ∙ sym (place_by_view s pair.0) ∙ p.place_is

    push : (u : State) → Put ℚ open_at every_kind s p.place v u →
        Tells ℚ open_at IsTheNumber every_kind view (old ++ (done ++ pair ∷ [])) u
    push u put =
        subst (λ ps. Tells ℚ open_at IsTheNumber every_kind view ps u) (append_assoc old done (pair ∷ []))
        (tells_push every_kind view (old ++ done) s u pair p.place v at (number_is pair.1 v p.number_is) k.tells put)

    by : IsReading view old name columns (done ++ pair ∷ []) t
    by =
        let a = must_ok (not (is_among p.place s.paired)) code.EntryRepeated _ t p.did in
        let new : is_among p.place s.paired ≡ false = not-true _ a.0 in
        let there : StandsFor every_kind view pair.0 p.place = (at, all_count view p.place) in
        let zero : number_at k.column p.place ≡ 0ℚ =
        ap (λ o. open_number o p.place) (sym k.column_is) ∙ subst (λ texts. IsTheNumber texts (open_at s p.place))
        (k.tells.unpaired pair.0 p.place there new) (k.tells.numbers pair.0 p.place there) in
        let column : option_map (λ c. with_number c p.place v) s.column ≡ Some (with_number k.column p.place v) =
        ap (option_map (λ c. with_number c p.place v)) k.column_is in
        subst (IsReading view old name columns (done ++ pair ∷ [])) (same_ok _ t a.1)
        (record {
          columns_are = k.columns_are;
          tells =
              push
              (record s { column = option_map (λ c. with_number c p.place v) s.column; paired = p.place ∷ s.paired })
              (PutAt new refl refl refl
              (ap (λ o. open_number o p.place) column ∙ number_here k.column p.place v k.non_zero zero)
              (λ y ne. ap (λ o. open_number o y) column ∙ number_there k.column p.place y v ne
              ∙ ap (λ o. open_number o y) (sym k.column_is)));
          column = with_number k.column p.place v;
          column_is = column;
          name_is = number_name k.column p.place v ∙ k.name_is;
          non_zero = number_non_zero k.column p.place v k.non_zero;
        })

-- ---- the column of a card

-- a card of COLUMNS has opened its column behind the whole ones, and no pair of it is read yet; all columns have the
-- numbers that the cards say
record IsOpened (view : RowView) (cards : List Fields) (card : Fields) (u : State) : Type 0 where
  reading : IsReading view (pairs_of_column (column_on card) cards) (column_on card) u.columns [] u
  names : map (λ c. c.name) u.columns ++ column_on card ∷ [] ≡ named_columns (cards ++ card ∷ [])
  whole : All (IsSaid view (cards ++ card ∷ [])) u.columns
  others : All (λ d. same d.name (column_on card) ≡ false) u.columns

-- two names that differ by the test differ by it in the other order too
same_back : (a b : Name) → same a b ≡ false → same b a ≡ false
same_back a b h = by (same b a) refl
  where
    by : (t : Bool) → same b a ≡ t → t ≡ false
    by true e = sym (same-refl a) ∙ ap (same a) (sym (same_true b a e)) ∙ h
    by false e = refl

-- a card that does not name a column leaves what the cards say of it
said_push : (view : RowView) (cards : List Fields) (card : Fields) (c : ExactColumn) →
    same c.name (column_on card) ≡ false → IsSaid view cards c → IsSaid view (cards ++ card ∷ []) c
said_push view cards card c h k =
    let pairs : pairs_of_column c.name (cards ++ card ∷ []) ≡ pairs_of_column c.name cards =
    pairs_push c.name cards card
    ∙ ap (λ b. pairs_of_column c.name cards ++ cond b (numbers_on card) []) (same_back c.name (column_on card) h)
    ∙ append-nil (pairs_of_column c.name cards) in
    record {
      numbers =
          λ name t p. subst (λ ps. IsTheNumber (texts_for name ps) (number_at c t)) (sym pairs) (k.numbers name t p);
    }

-- a card that names none of some columns leaves what the cards say of them
all_said_push : (view : RowView) (cards : List Fields) (card : Fields) (columns : List ExactColumn) →
    All (λ d. same d.name (column_on card) ≡ false) columns → All (IsSaid view cards) columns →
    All (IsSaid view (cards ++ card ∷ [])) columns
all_said_push view cards card columns h k = λ i d l. said_push view cards card (get_or columns i d) (h i d l) (k i d l)

pub all_whole : (view : RowView) (cards : List Fields) (columns : List ExactColumn)
    (paired : List Target) (column : Option ExactColumn) →
    All (IsSaid view cards) columns → IfSome column (IsOpenSaid view cards columns paired) →
    All (IsSaid view cards) (columns_with columns column)
all_whole view cards columns paired None h k = h
all_whole view cards columns paired (Some c) h k = All-push (IsSaid view cards) columns c h k.said

-- a card that names the open column finds its numbers as the cards before say
opened_again : (cards : List Fields) (card : Fields) (s : State) (column : Option ExactColumn) → s.column ≡ column →
    is_open column (column_on card) ≡ true → IfSome column (IsOpenSaid (row_view s) cards s.columns s.paired) →
    ColumnsSay cards s → IsOpened (row_view s) cards card s
opened_again cards card s None e same_name last k = absurd (cc)
opened_again cards card s (Some c) e same_name last k =
    let name : c.name ≡ column_on card = same_true c.name (column_on card) same_name in
    let known : is_named (column_on card) cards ≡ true = ap (λ n. is_named n cards) (sym name) ∙ last.known in
    let others = subst (λ n. All (λ (d : ExactColumn). same d.name n ≡ false) s.columns) name last.others in
    record {
      reading = record {
        columns_are = refl;
        tells =
            subst (λ ps. Tells ℚ open_at IsTheNumber every_kind (row_view s) ps s)
            (sym (append-nil (pairs_of_column (column_on card) cards)))
            (record {
              view_is = refl;
              numbers =
                  λ n t p. subst₂ (λ m o. IsTheNumber (texts_for n (pairs_of_column m cards)) (open_number o t)) name
                  (sym e) (last.said.numbers n t p.0);
              unpaired =
                  λ n t p free. ap (λ m. texts_for n (pairs_of_column m cards)) (sym name) ∙ last.unpaired n t p.0 free;
            });
        column = c;
        column_is = e;
        name_is = name;
        non_zero = last.non_zero;
      };
      names =
          ap (λ n. map (λ (c : ExactColumn). c.name) s.columns ++ n ∷ []) (sym name)
          ∙ sym (map-append (λ (c : ExactColumn). c.name) s.columns (c ∷ []))
          ∙ ap (λ o. map (λ (c : ExactColumn). c.name) (columns_with s.columns o)) (sym e)
          ∙ k.names
          ∙ sym (append-nil (named_columns cards))
          ∙ ap (λ b. named_columns cards ++ cond b [] (column_on card ∷ [])) (sym known)
          ∙ sym (firsts_push cards card);
      whole = all_said_push (row_view s) cards card s.columns others k.whole;
      others = others;
    }

-- a card that names a new column opens it behind the others, without numbers
opened_new : (cards : List Fields) (card : Fields) (s : State) →
    list_any (λ c. same c.name (column_on card)) (whole_columns s) ≡ false → ColumnsSay cards s →
    IsOpened (row_view s) cards card (record s {
      columns = whole_columns s;
      column = Some (new_column (column_on card));
      lowered = s.lowered ++ false ∷ [];
      paired = [];
    })
opened_new cards card s free k =
    let others = none_pass (λ (c : ExactColumn). same c.name (column_on card)) (whole_columns s) free in
    let all_names =
    All-map (λ x. same x (column_on card) ≡ false) (λ (c : ExactColumn). c.name) (whole_columns s) others in
    let new : is_named (column_on card) cards ≡ false =
    not_named (column_on card) cards (subst (All (λ x. same x (column_on card) ≡ false)) k.names all_names) in
    let none : pairs_of_column (column_on card) cards ≡ [] = unnamed_pairs (column_on card) cards new in
    record {
      reading = record {
        columns_are = refl;
        tells = record {
          view_is = refl;
          numbers =
              λ n t p. subst (λ texts. IsTheNumber texts (number_at (new_column (column_on card)) t))
              (sym (nothing none n)) (zero_at t);
          unpaired = λ n t p f. nothing none n;
        };
        column = new_column (column_on card);
        column_is = refl;
        name_is = refl;
        non_zero = tt;
      };
      names =
          ap (λ names. names ++ column_on card ∷ []) k.names
          ∙ ap (λ b. named_columns cards ++ cond b [] (column_on card ∷ [])) (sym new) ∙ sym (firsts_push cards card);
      whole =
          all_said_push (row_view s) cards card (whole_columns s) others
          (all_whole (row_view s) cards s.columns s.paired s.column k.whole k.last);
      others = others;
    }
  where
    zero_at : (t : Target) → number_at (new_column (column_on card)) t ≡ 0ℚ
    zero_at Objective = refl
    zero_at (Row i) = refl

    nothing : pairs_of_column (column_on card) cards ≡ [] → (name : Name) →
        texts_for name (pairs_of_column (column_on card) cards ++ []) ≡ []
    nothing e name = ap (λ ps. texts_for name (ps ++ [])) e ∙ texts_none name

-- a card of COLUMNS finds its column open, as the cards before say
opens : {limits : SizeLimits} (cards : List Fields) (card : Fields) (s u : State) → Opens limits s (column_on card) u →
    ColumnsSay cards s →
    IsOpened (row_view s) cards card u
opens cards card s u (Same known same) k =
    subst (IsOpened (row_view s) cards card) same (opened_again cards card s s.column refl known k.last k)
opens cards card s u (New other free few new) k =
    subst (IsOpened (row_view s) cards card) new (opened_new cards card s (not-true _ free) k)

-- ---- a card of COLUMNS

-- a card of COLUMNS that is read names its column, and then its pairs
columns_read : (limits : SizeLimits) (style : Style) (s : State) (card : Fields) (t : State) (name : Name)
    (more : List (List ℕ)) →
    columns_card limits style s card ≡ Ok t → texts_of card ≡ name ∷ more →
    IsColumn (texts_of card) name (pairs_of more)
unfolding columns_card
columns_read limits style s card t name more h e =
    let a = must_ok (not (same (text_at (marker_field style) card) (codes "'MARKER'"))) code.Integer _ t h in
    let b = step_ok (shaped style section.Columns card) _ t a.1 in
    column_is style card b.0 name more b.1 e

-- after a card of COLUMNS the state has the columns that the cards say
finish : (cards : List Fields) (card : Fields) (s u t : State) → t.seen.columns ≡ true →
    is_section t.part section.Columns ≡ true → IsOpened (row_view s) cards card u →
    IsReading (row_view s) (pairs_of_column (column_on card) cards) (column_on card) u.columns (numbers_on card) t →
    ColumnsSay (cards ++ card ∷ []) t
finish cards card s u t seen here o r =
    let view : row_view s ≡ row_view t = sym r.tells.view_is in
    let name : column_on card ≡ r.column.name = sym r.name_is in
    let pairs : pairs_of_column (column_on card) cards ++ numbers_on card
    ≡ pairs_of_column (column_on card) (cards ++ card ∷ []) =
    ap (λ b. pairs_of_column (column_on card) cards ++ cond b (numbers_on card) []) (sym (same-refl (column_on card)))
    ∙ sym (pairs_push (column_on card) cards card) in
    let all_pairs : pairs_of_column (column_on card) cards ++ numbers_on card
    ≡ pairs_of_column r.column.name (cards ++ card ∷ []) =
    pairs ∙ ap (λ n. pairs_of_column n (cards ++ card ∷ [])) name in
    let columns : u.columns ≡ t.columns = sym r.columns_are in
    record {
      none = λ h. not_both t.seen.columns seen h;
      shut = λ h. not_both (is_section t.part section.Columns) here h;
      names =
          ap (λ o. map (λ (c : ExactColumn). c.name) (columns_with t.columns o)) r.column_is
          ∙ map-append (λ (c : ExactColumn). c.name) t.columns (r.column ∷ [])
          ∙ (λ i. map (λ (c : ExactColumn). c.name) (sym columns i) ++ sym name i ∷ [])
          ∙ o.names;
      whole = subst₂ (λ v cs. All (IsSaid v (cards ++ card ∷ [])) cs) view columns o.whole;
      last = subst (λ o. IfSome o (IsOpenSaid (row_view t) (cards ++ card ∷ []) t.columns t.paired)) (sym r.column_is)
          (record {
            said =
                record {
                  numbers =
                      λ n x p. subst₂ (λ ps o. IsTheNumber (texts_for n ps) (open_number o x)) all_pairs r.column_is
                      (r.tells.numbers n x (ap (λ v. place_in v n) view ∙ p, all_count (row_view s) x));
                };
            unpaired =
                λ n x p free. ap (texts_for n) (sym all_pairs)
                ∙ r.tells.unpaired n x (ap (λ v. place_in v n) view ∙ p, all_count (row_view s) x) free;
            non_zero = r.non_zero;
            others = subst₂ (λ n cs. All (λ (d : ExactColumn). same d.name n ≡ false) cs) name columns o.others;
            known =
                ap (λ n. is_named n (cards ++ card ∷ [])) (sym name) ∙ named_push (column_on card) cards card
                ∙ ap (λ b. is_named (column_on card) cards || b) (same-refl (column_on card))
                ∙ or_true (is_named (column_on card) cards);
          });
    }
  where
    or_true : (b : Bool) → (b || true) ≡ true
    or_true true = refl
    or_true false = refl

pub columns_card_says : (limits : SizeLimits) (style : Style) (cards : List Fields) (card : Fields) (s t : State) →
    t.seen.columns ≡ true →
    is_section t.part section.Columns ≡ true → columns_card limits style s card ≡ Ok t → ColumnsSay cards s →
    ColumnsSay (cards ++ card ∷ []) t
columns_card_says limits style cards card s t seen here h k =
    let d = columns_did style s card t h in
    let c = columns_read limits style s card t d.name d.more h d.texts_are in
    let opened = opens cards card s d.between (subst (λ n. Opens limits s n d.between) (sym c.column_is) d.opens) k in
    let old = pairs_of_column (column_on card) cards in
    let r =
    pairs_keep enter _ column_puts (IsReading (row_view s) old (column_on card) d.between.columns)
    (one_pair (row_view s) old (column_on card) d.between.columns)
    (pairs_of d.more) [] d.between t d.pairs opened.reading in
    finish cards card s d.between t seen here opened
    (subst (λ ps. IsReading (row_view s) old (column_on card) d.between.columns ps t) (sym c.pairs_are) r)
