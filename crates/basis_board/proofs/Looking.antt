-- What a look of a pass finds, word by word.
--
-- `each_both`: where two properties of an element give a third, all elements that have the two have the third.
-- `reads_on`: once i words of a place are read and the next one is, i + 1 are, and they agree with all seen before.
-- `rest_on`: `IsReadingRest` goes on by one word behind the shape, where the place has the shape that is looked for.
-- `other_at`: a pass that read 25 words which are not the shape has passed by the place.
-- `differ`: two lists that a comparison finds unequal are not the same.
use Rattle.basis_board.specs.Rule.{Consistent}
use Rattle.std.proofs.Common.{◌≡◌, ◌≢◌, ℕ, ◌*◌, ◌+◌, ◌-◌, ◌/◌, ◌%◌, ◌<◌, List, [], ◌∷◌, ◌++◌}
use Rattle.std.proofs.Common.{length, take, set, get_or, refl, sym, ap, ◌∙◌, subst, ⊎_elim}
use Rattle.std.proofs.Common.{arith, length-append, length-set, Bool, true, not, eqb, true≢false}
use Rattle.std.proofs.lemmas.Bool.{cases_eq}
use Rattle.std.proofs.lemmas.Bool.Decides.{Decides-eqb}
use Rattle.std.proofs.lemmas.Slice.Eq.{slice_eq-Decides}
use Rattle.std.specs.Cmp.Lexicographic.{pointwise}
use Rattle.std.proofs.lemmas.List.{get_or_append_left, get_or_push, take_more_set, length-take, take_all, take-set-le}
use Rattle.basis_board.specs.declared.seats.View.{View}
use Rattle.spec_board.specs.Words.{IsWellFormed}
use Rattle.basis_board.specs.Board.{Each, seeing, reading, head_words}
use Rattle.basis_board.specs.Rule.{HasAt, WordRead}
use Rattle.basis_board.specs.Calls.{AgreesWith, PassesBy, other, IsReading, IsReadingRest}

pub each_both : {X : Type 0} (P Q R : X → Type 0) → ((x : X) → P x → Q x → R x) → (xs : List X) → Each P xs →
    Each Q xs → Each R xs
each_both P Q R both [] p q = tt
each_both P Q R both (x ∷ xs) p q = (both x p.0 q.0, each_both P Q R both xs p.1 q.1)

pub reads_on : (k i n m : ℕ) (words : List ℕ) (v u w : View) → i < 49 → m ≡ 50 * k + 1 + i → IsReading k i words v u →
    WordRead ((m - 1) / 50) ((m - 1) % 50) u n w → Consistent w → IsReading k (i + 1) (set words i n) v w
reads_on k i n m words v u w room is h g cons =
    let long = h.long in
    let xs : List ℕ = take i words in
    let size : length xs ≡ i = omega (arith, length-take i words) in
    let longer : length (xs ++ n ∷ []) ≡ i + 1 = omega (arith, length-append xs (n ∷ [])) in
    let next : take (i + 1) (set words i n) ≡ xs ++ n ∷ [] = take_more_set words i n (omega arith) in
    let on_k : (m - 1) / 50 ≡ k = omega arith in
    let on_i : (m - 1) % 50 ≡ i = omega arith in
    let known = (subst (λ (z : View). Each (HasAt ((m - 1) / 50) ((m - 1) % 50) n) z.seen) h.view g.known).1 in
    let known' : Each (HasAt k i n) v.seen =
    subst (λ (z : ℕ × ℕ). Each (HasAt z.0 z.1 n) v.seen) (λ j. (on_k j, on_i j)) known in
    record {
      long = length-set words i n ∙ long;
      view = g.view ∙ ap (λ (z : View). reading z n) h.view ∙ ap (seeing v k) (sym next);
      consistent = cons;
      agrees = subst (λ (l : List ℕ). Each (AgreesWith k l) v.seen) (sym next)
          (each_both (AgreesWith k xs) (HasAt k i n) (AgreesWith k (xs ++ n ∷ []))
          (λ p a b e j l q. ⊎_elim
          (λ (same : j ≡ i). ap (λ (z : ℕ). get_or p.1 z 0) same
          ∙ (b e (omega arith) ∙ sym (get_or_push xs n 0 j (omega arith))))
          (λ (apart : j ≡ i → ⊥). let before : j < length xs = omega arith in
          a e j before q ∙ sym (get_or_append_left xs (n ∷ []) 0 j before))
          (cases_eq j i))
          v.seen h.agrees known');
    }

-- with the load of the last word of a place, its 49 words are well formed
formed_on : (k i n m : ℕ) (words : List ℕ) (v u w : View) → i < 49 → m ≡ 50 * k + 1 + i → IsReading k i words v u →
    WordRead ((m - 1) / 50) ((m - 1) % 50) u n w → Consistent w → i + 1 ≡ 49 → IsWellFormed (set words i n)
formed_on k i n m words v u w room is h g cons last =
    let after = reads_on k i n m words v u w room is h g cons in
    let long = after.long in
    let all : take (i + 1) (set words i n) ≡ set words i n = take_all (i + 1) (set words i n) (omega arith) in
    let head : head_words w.seen ≡ set words i n = ap (λ (z : View). head_words z.seen) after.view ∙ all in
    subst IsWellFormed head (g.formed (ap length head ∙ long))

pub rest_on : (shape : List ℕ) (k i n m : ℕ) (words : List ℕ) (v u w : View) → i < 49 → m ≡ 50 * k + 1 + i →
    IsReadingRest shape k i words v u → WordRead ((m - 1) / 50) ((m - 1) % 50) u n w → Consistent w →
    IsReadingRest shape k (i + 1) (set words i n) v w
rest_on shape k i n m words v u w room is h g cons =
    let late = h.late in record {
      read = reads_on k i n m words v u w room is h.read g cons;
      late = omega arith;
      shape_is = take-set-le 25 words i n late ∙ h.shape_is;
      formed = λ last. formed_on k i n m words v u w room is h.read g cons last;
    }

pub other_at : (shape : List ℕ) (k : ℕ) (words : List ℕ) (v w : View) → IsReading k 25 words v w →
    take 25 words ≢ shape → PassesBy shape k v w
other_at shape k words v w h apart =
    let long = h.long in other (take 25 words) (omega (arith, length-take 25 words)) apart h.agrees h.view

-- what a test of two slices by != tells
pub differ : (xs ys : List ℕ) (r : Bool) → r ≡ not (pointwise eqb xs ys) → r ≡ true → xs ≢ ys
differ xs ys r is on e =
    let d = slice_eq-Decides Decides-eqb xs ys (pointwise eqb xs ys) refl in
    let same : pointwise eqb xs ys ≡ true = d.1 e in true≢false (sym on ∙ (is ∙ ap not same))
