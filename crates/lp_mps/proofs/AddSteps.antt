-- Cards that are written in turn, and the cards of each item of a list.
--
-- `first_none`: where the first of two choices has no field, the text of their first field is the second's.
-- `first_some`: where the first of two choices has a field, the text of their first field is the first's.
-- `wide_behind`: where no field of the first cards is too wide, the first too wide one of all is that of the later
--   cards.
-- `wide_first`: the first too wide field of some cards is that of these with more cards behind.
-- `nothing`: writing no cards leaves the text as it is.
-- `joined`: cards written after other cards are the two lists' cards written in turn.
-- `behind`: where some cards were written, a stop that names the first too wide field of later ones names that of all.
-- `first`: a stop that names the first too wide field of some cards names that of these with more cards behind.
-- `goes_on`: what writing later cards answers, after some were written, is what writing all of them answers.
-- `section_none`: where a section is not wanted, nothing of it is written.
-- `section_some`: where a section is wanted and its heading was written, what writing its cards answers is what writing
--   the section answers.
-- `each_done`: where the cards of the first n items are written and there are no more, those of all items are.
-- `all_cards_of`: the cards of a model are those up to COLUMNS and those after them.
-- `fixed_given`: the text of all cards in fixed form, or the first too wide field, is what writing fixed form gives.
use Rattle.std.proofs.Common.{◌≡◌, ℕ, ◌+◌, ◌<◌, ◌≤◌, Some, None, Ok, Err, List, [], ◌∷◌, ◌++◌, length, take}
use Rattle.std.proofs.Common.{drop, get_or, refl, sym, subst, ◌∙◌, ap, append_assoc, append-nil, Option, Result}
use Rattle.std.specs.Prelude.{⊤, Bool, true, false, option_map, find, codes, if◌then◌else◌}
use Rattle.std.specs.List.{flat_map}
use Rattle.std.specs.Option.{option_or}
use Rattle.std.proofs.lemmas.List.{take_all, take_more, take-append-drop}
use Rattle.std.proofs.lemmas.Grind.{flat_map-append}
use Rattle.std.proofs.lemmas.List.Folds.{find-append}
use Rattle.spec_model.specs.Model.{Model}
use Rattle.spec_mps.specs.declared.style.Style.{Style}
use Rattle.spec_mps.specs.declared.style.Style.TheVariants.{Free, Fixed}
use Rattle.spec_mps.specs.Fields.{Field}
use Rattle.spec_mps.specs.Written.{cards_of, name_card, sense_cards, rows_cards, columns_cards}
use Rattle.spec_mps.specs.Written.{sides_cards, ranges_cards, bounds_cards, section_card, fixed, too_wide}
use Rattle.spec_mps.specs.Written.{WrittenCard, WrittenCards, cards_text, line_text, is_wide, data_fields}
use Rattle.lp_mps.specs.declared.write.stop.WriteStop.{WriteStop}
use Rattle.lp_mps.specs.declared.write.stop.WriteStop.TheVariants.{TooWide, NoMemory}
use Rattle.lp_mps.specs.Adds.{Adds, IsAdded, Names, wide_in, GivesText, IsFixed, front_cards, back_cards}

-- the first of two lists that has a wide field has the first wide one
pub first_none : (x y : Option Field) → option_map (λ f. f.text) x ≡ None →
    option_map (λ f. f.text) (option_or x y) ≡ option_map (λ f. f.text) y
first_none None y h = refl
first_none (Some f) y h = cc

pub first_some : (x y : Option Field) (item : List ℕ) → option_map (λ f. f.text) x ≡ Some item →
    option_map (λ f. f.text) (option_or x y) ≡ Some item
first_some None y item h = cc
first_some (Some f) y item h = h

-- the first wide field of two lists of cards is the first list's, or else the second list's
find_both : (cs ds : WrittenCards) →
    find is_wide (flat_map data_fields (cs ++ ds))
    ≡ option_or (find is_wide (flat_map data_fields cs)) (find is_wide (flat_map data_fields ds))
find_both cs ds =
    ap (find is_wide) (flat_map-append data_fields cs ds)
    ∙ find-append is_wide (flat_map data_fields cs) (flat_map data_fields ds)

pub wide_behind : (style : Style) (cs ds : WrittenCards) → wide_in style cs ≡ None →
    wide_in style (cs ++ ds) ≡ wide_in style ds
wide_behind Free cs ds h = refl
wide_behind Fixed cs ds h =
    ap (option_map (λ f. f.text)) (find_both cs ds)
    ∙ first_none (find is_wide (flat_map data_fields cs)) (find is_wide (flat_map data_fields ds)) h

pub wide_first : (style : Style) (cs ds : WrittenCards) (item : List ℕ) → wide_in style cs ≡ Some item →
    wide_in style (cs ++ ds) ≡ Some item
wide_first Free cs ds item h = h
wide_first Fixed cs ds item h =
    ap (option_map (λ f. f.text)) (find_both cs ds)
    ∙ first_some (find is_wide (flat_map data_fields cs)) (find is_wide (flat_map data_fields ds)) item h

-- the text of two lists of cards is the text of the first and then that of the second
cards_text-append : (style : Style) (cs ds : WrittenCards) →
    cards_text style (cs ++ ds) ≡ cards_text style cs ++ cards_text style ds
cards_text-append style cs ds = flat_map-append (λ card. line_text style card ++ 10 ∷ []) cs ds

-- no cards leave the text as it is
pub nothing : (style : Style) (a : List ℕ) → IsAdded style [] a a
nothing Free a = record { narrow = refl; text = sym (append-nil a) }
nothing Fixed a = record { narrow = refl; text = sym (append-nil a) }

-- more cards after some
pub joined : (style : Style) (cs ds : WrittenCards) (a b c : List ℕ) → IsAdded style cs a b → IsAdded style ds b c →
    IsAdded style (cs ++ ds) a c
joined style cs ds a b c h k =
    record {
      narrow = wide_behind style cs ds h.narrow ∙ k.narrow;
      text =
          k.text ∙ ap (λ t. t ++ cards_text style ds) h.text
          ∙ append_assoc a (cards_text style cs) (cards_text style ds)
          ∙ ap (λ t. a ++ t) (sym (cards_text-append style cs ds));
    }

pub behind : (style : Style) (cs ds : WrittenCards) (a b : List ℕ) (stop : WriteStop) → IsAdded style cs a b →
    Names (wide_in style ds) stop → Names (wide_in style (cs ++ ds)) stop
behind style cs ds a b (TooWide item) h k = wide_behind style cs ds h.narrow ∙ k
behind style cs ds a b NoMemory h k = tt

pub first : (style : Style) (cs ds : WrittenCards) (stop : WriteStop) → Names (wide_in style cs) stop →
    Names (wide_in style (cs ++ ds)) stop
first style cs ds (TooWide item) h = wide_first style cs ds item h
first style cs ds NoMemory h = tt

pub goes_on : (style : Style) (cs ds : WrittenCards) (a b c : List ℕ) (result : Result ⊤ WriteStop) →
    IsAdded style cs a b → Adds style ds b c result → Adds style (cs ++ ds) a c result
goes_on style cs ds a b c (Ok done) h k = joined style cs ds a b c h k
goes_on style cs ds a b c (Err stop) h k = behind style cs ds a b stop h k

-- ---- a section that is written only where it is wanted, which a call has answered by r

pub section_none : {style : Style} {a : List ℕ} {r wanted : Bool} (cards : WrittenCards) → r ≡ wanted → r ≡ false →
    IsAdded style (if wanted then cards else []) a a
section_none {style} {a} cards same is = rw (sym same ∙ is) (nothing style a)

pub section_some : {style : Style} {a b : List ℕ} {r wanted : Bool} {card : WrittenCard} (cards : WrittenCards)
    (c : List ℕ) (result : Result ⊤ WriteStop) → r ≡ wanted → r ≡ true →
    IsAdded style (card ∷ []) a b → Adds style cards b c result →
    Adds style (if wanted then card ∷ cards else []) a c result
section_some {style} {a} {b} {card = card} cards c result same is h k =
    rw (sym same ∙ is) (goes_on style (card ∷ []) cards a b c result h k)

-- ---- for each item of a list

module _ {X : Type 0} (style : Style) (f : X → WrittenCards)
    (xs : List X) (i : ℕ) (d : X) (inside : i < length xs) where
  -- the cards of the first i + 1 items are those of the first i and then those of item i
  next_cards : flat_map f (take (i + 1) xs) ≡ flat_map f (take i xs) ++ f (get_or xs i d)
  next_cards =
      ap (flat_map f) (take_more xs i d inside) ∙ flat_map-append f (take i xs) (get_or xs i d ∷ [])
      ∙ ap (λ t. flat_map f (take i xs) ++ t) (append-nil (f (get_or xs i d)))

  -- where the cards of the first i items are written, and then those of item i, the cards of the first i + 1 are
  -- written
  pub each_next : (a b c : List ℕ) → IsAdded style (flat_map f (take i xs)) a b →
      IsAdded style (f (get_or xs i d)) b c → IsAdded style (flat_map f (take (i + 1) xs)) a c
  each_next a b c h k = rw next_cards (joined style (flat_map f (take i xs)) (f (get_or xs i d)) a b c h k)

  -- the cards of all items are those of the first i + 1 and then those of the others
  all_cards : flat_map f xs ≡ flat_map f (take (i + 1) xs) ++ flat_map f (drop (i + 1) xs)
  all_cards =
      ap (flat_map f) (sym (take-append-drop (i + 1) xs)) ∙ flat_map-append f (take (i + 1) xs) (drop (i + 1) xs)

  -- where the cards of the first i items are written, and a field of item i's cards is too wide, it is the first too
  -- wide one of all
  pub each_stops : (a b : List ℕ) (stop : WriteStop) → IsAdded style (flat_map f (take i xs)) a b →
      Names (wide_in style (f (get_or xs i d))) stop → Names (wide_in style (flat_map f xs)) stop
  each_stops a b stop h k =
      let P : WrittenCards → Type 0 = λ cs. Names (wide_in style cs) stop in
      subst P (sym all_cards) (first style (flat_map f (take (i + 1) xs)) (flat_map f (drop (i + 1) xs)) stop
      (subst P (sym next_cards) (behind style (flat_map f (take i xs)) (f (get_or xs i d)) a b stop h k)))

pub each_done : {X : Type 0} (style : Style) (f : X → WrittenCards) (xs : List X) (n : ℕ) (a b : List ℕ) →
    length xs ≤ n → IsAdded style (flat_map f (take n xs)) a b → IsAdded style (flat_map f xs) a b
each_done style f xs n a b all h = rw (sym (ap (flat_map f) (take_all n xs all))) h

-- seven lists of cards put together one by one are the first three and then the last four
regroup : (a b c d e f g : WrittenCards) →
    ((((((a ++ b) ++ c) ++ d) ++ e) ++ f) ++ g) ≡ ((a ++ b) ++ c) ++ (((d ++ e) ++ f) ++ g)
regroup a b c d e f g = simp append_assoc

pub all_cards_of : (m : Model) → cards_of m ≡ front_cards m ++ back_cards m
unfolding cards_of
all_cards_of m =
    regroup (name_card m.name ∷ sense_cards m.sense) (rows_cards m) (columns_cards m)
    (sides_cards m) (ranges_cards m) (bounds_cards m) (section_card (codes "ENDATA") ∷ [])

-- ---- whole texts

pub fixed_given : (m : Model) (result : Result (List ℕ) WriteStop) → GivesText Fixed (cards_of m) result →
    IsFixed m result
unfolding fixed too_wide
fixed_given m (Ok text) h = h
fixed_given m (Err stop) h = h
