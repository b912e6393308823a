-- Cards of a basis file that are written in turn.
--
-- `pair_line`: three words, each with a blank before it, and a line feed are the line of a card with two names.
-- `joined`: a text to which some cards and then others were added has all of them added.
-- `one_more`: adding the card of the item at place k to those of the first k items gives those of the first k + 1.
-- `one_pair`: adding the card of the pair at place k of two lists to the cards of the pairs before it gives those of
--   the first k + 1 pairs.
-- `all_pairs`: where one of the two lists has no item left, the cards of all their pairs are added.
-- `all_cards`: the cards of the pairs and then of the columns at their upper bounds are all cards of the basis.
use Rattle.std.proofs.Common.{◌≡◌, ℕ, ◌+◌, ◌<◌, ◌≤◌, List, [], ◌∷◌, ◌++◌, length, take, map, get_or, sym, ap, ◌∙◌}
use Rattle.std.proofs.Common.{append-nil, append_assoc, ap₂, arith}
use Rattle.std.specs.Prelude.{min}
use Rattle.std.proofs.lemmas.List.{take_all, map-append}
use Rattle.std.proofs.lemmas.Simd.{map-map}
use Rattle.std.proofs.lemmas.Slice.Zip.{get_or-zip, length-zip}
use Rattle.spec_model.specs.Model.{Model}
use Rattle.spec_pivot.specs.declared.status.Status.{Status}
use Rattle.spec_simplex.specs.Form.{Form}
use Rattle.spec_bas.specs.Written.{basic_columns, other_rows, upper_columns, written_card, pair_card, upper_card}
use Rattle.spec_bas.specs.Written.{cards_of, pair_fields}
use Rattle.std.specs.List.{zip}
use Rattle.std.proofs.lemmas.Grind.{flat_map-append}
use Rattle.std.proofs.lemmas.List.{take_more}
use Rattle.spec_mps.specs.declared.style.Style.TheVariants.{Free}
use Rattle.spec_mps.specs.Written.{WrittenCard, WrittenCards, Data, cards_text, line_text}

-- a word with a blank before it, after the beginning of a line
word_on : (first line word now next : List ℕ) → now ≡ first ++ line → next ≡ now ++ 32 ∷ word →
    next ≡ first ++ ((line ++ 32 ∷ []) ++ word)
word_on first line word now next is_now is_next =
    is_next ∙ ap (λ text. text ++ 32 ∷ word) is_now ∙ append_assoc first line (32 ∷ word)
    ∙ ap (λ text. first ++ text) (sym (append_assoc line (32 ∷ []) word))

-- the line of a card with two names, piece by piece
pub pair_line : (kind column row a b c d e : List ℕ) → b ≡ a ++ 32 ∷ kind → c ≡ b ++ 32 ∷ column →
    d ≡ c ++ 32 ∷ row → e ≡ d ++ 10 ∷ [] → e ≡ a ++ cards_text Free (Data (pair_fields kind column row) ∷ [])
pair_line kind column row a b c d e is_b is_c is_d is_e =
    let line : List ℕ = (((32 ∷ kind) ++ 32 ∷ []) ++ column) ++ 32 ∷ [] in
    is_e
    ∙ ap (λ text. text ++ 10 ∷ [])
    (word_on a (((32 ∷ kind) ++ 32 ∷ []) ++ column) row c d (word_on a (32 ∷ kind) column b c is_b is_c) is_d)
    ∙ append_assoc a (line ++ row) (10 ∷ []) ∙ ap (λ text. a ++ text) (sym (append-nil ((line ++ row) ++ 10 ∷ [])))

-- the text of two lists of cards is the text of the first and then the text of the second
text-append : (cs ds : WrittenCards) → cards_text Free (cs ++ ds) ≡ cards_text Free cs ++ cards_text Free ds
text-append cs ds = flat_map-append (λ card. line_text Free card ++ 10 ∷ []) cs ds

-- more cards after some
pub joined : (cs ds : WrittenCards) (a b c : List ℕ) → b ≡ a ++ cards_text Free cs → c ≡ b ++ cards_text Free ds →
    c ≡ a ++ cards_text Free (cs ++ ds)
joined cs ds a b c h k =
    k ∙ ap (λ t. t ++ cards_text Free ds) h ∙ append_assoc a (cards_text Free cs) (cards_text Free ds)
    ∙ ap (λ t. a ++ t) (sym (text-append cs ds))

-- one more card, of the next item of a list
pub one_more : {A : Type 0} (card : A → WrittenCard) (xs : List A) (k : ℕ) (d : A) (a b c : List ℕ) → k < length xs →
    b ≡ a ++ cards_text Free (map card (take k xs)) → c ≡ b ++ cards_text Free (card (get_or xs k d) ∷ []) →
    c ≡ a ++ cards_text Free (map card (take (k + 1) xs))
one_more card xs k d a b c l h g =
    joined (map card (take k xs)) (card (get_or xs k d) ∷ []) a b c h g
    ∙ ap (λ cs. a ++ cards_text Free cs) (sym (map-append card (take k xs) (get_or xs k d ∷ [])))
    ∙ ap (λ ys. a ++ cards_text Free (map card ys)) (sym (take_more xs k d l))

-- one more pair
pub one_pair : (card : ℕ × ℕ → WrittenCard) (xs ys : List ℕ) (k : ℕ) (a b c : List ℕ) → k < length xs → k < length ys →
    b ≡ a ++ cards_text Free (map card (take k (zip xs ys))) →
    c ≡ b ++ cards_text Free (card (get_or xs k 0, get_or ys k 0) ∷ []) →
    c ≡ a ++ cards_text Free (map card (take (k + 1) (zip xs ys)))
one_pair card xs ys k a b c l r h g =
    one_more card (zip xs ys) k (0, 0) a b c (omega (arith, length-zip xs ys)) h
    (g ∙ ap (λ p. b ++ cards_text Free (card p ∷ [])) (sym (get_or-zip xs ys k (0, 0) l r)))

-- all pairs
pub all_pairs : (card : ℕ × ℕ → WrittenCard) (xs ys : List ℕ) (k : ℕ) (a b : List ℕ) → min (length xs) (length ys) ≤ k →
    b ≡ a ++ cards_text Free (map card (take k (zip xs ys))) → b ≡ a ++ cards_text Free (map card (zip xs ys))
all_pairs card xs ys k a b l h =
    h ∙ ap (λ ps. a ++ cards_text Free (map card ps)) (take_all k (zip xs ys) (omega (arith, length-zip xs ys)))

-- the cards of a basis
pub all_cards : (m : Model) (f : Form) (basis : List Status) (columns rows upper a b c : List ℕ) →
    columns ≡ basic_columns f basis → rows ≡ other_rows f basis → upper ≡ upper_columns f basis →
    b ≡ a ++ cards_text Free (map (λ pair. written_card (pair_card m f basis pair)) (zip columns rows)) →
    c ≡ b ++ cards_text Free (map (λ j. written_card (upper_card m j)) upper) →
    c ≡ a ++ cards_text Free (map written_card (cards_of m f basis))
unfolding cards_of
all_cards m f basis columns rows upper a b c p q r h g =
    joined (map (λ pair. written_card (pair_card m f basis pair)) (zip columns rows))
    (map (λ j. written_card (upper_card m j)) upper) a b c h g
    ∙ ap (λ cs. a ++ cards_text Free cs)
    (ap₂ ◌++◌
    (ap₂ (λ xs ys. map (λ pair. written_card (pair_card m f basis pair)) (zip xs ys)) p q
    ∙ sym (map-map written_card (pair_card m f basis) (zip (basic_columns f basis) (other_rows f basis))))
    (ap (map (λ j. written_card (upper_card m j))) r ∙ sym
    (map-map written_card (upper_card m) (upper_columns f basis)))
    ∙ sym (map-append written_card (map (pair_card m f basis) (zip (basic_columns f basis) (other_rows f basis)))
    (map (upper_card m) (upper_columns f basis))))
