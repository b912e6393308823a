-- Words are made from the last column to the first, and lists of words from the first to the last.
--
-- `code_small`: the code of each column is below 4, so it has two bits.
-- `column_more`: where a word holds the codes from one column on, four times the word, with the code of the column
--   before added, is the word from that column on.
-- `has_room`: before the last column is added to a word, the word is below 2^62, so that two more bits fit.
-- `word_more`: where k words are written behind a front, setting the next one makes k + 1 words behind it.
-- `copied_more`: copying the word at place i where the first i are copied makes the first i + 1 copied.
-- `all_put`: where as many words are written as the list is long, the list is those words.
-- `whole_word`: a word that is made down to its first column is the word of all its 32 columns.
-- `count_step`: counting column c, one more if basic, gives the number of basic columns among the first c + 1.
-- `basics_unpacked`: the statuses of all columns of packed words have as many basic ones as the words have rows.
use Rattle.std.proofs.Common.{◌≡◌, ℕ, suc, ◌+◌, ◌-◌, ◌*◌, ◌^◌, ◌<◌, ◌≤◌, List, [], ◌∷◌, ◌++◌, length}
use Rattle.std.proofs.Common.{take, set, get_or, Bool, true, false, cond, refl, sym, ap, ◌∙◌, arith}
use Rattle.std.proofs.lemmas.List.{append_assoc, take_more_set, take_more, take_all}
use Rattle.std.proofs.Math.Nat.{pow-le-pow_right}
use Rattle.spec_pivot.specs.declared.status.Status.{Status}
use Rattle.spec_exact.specs.Run.{made}
use Rattle.spec_exact.proofs.RunsInOrder.{made_more}
use Rattle.spec_simplex.specs.Tableau.{is_basic}
use Rattle.spec_simplex.specs.Eliminate.{basics_below}
use Rattle.spec_board.specs.Words.{word_from, columns_of, rows_of, status_at, unpacked}
use Rattle.spec_board.proofs.PackedBases.{unpacked_at}
use Rattle.spec_board.proofs.Digits.{word_fits}
use Rattle.spec_board.proofs.PackedPlaces.{form_small, basis_small}
use Rattle.lp_form.specs.Count.{basics}
use Rattle.lp_form.proofs.Counted.{basics_made}
use Rattle.lp_form.specs.Coded.{code_of}
use Rattle.lp_form.specs.declared.packing.Coded.{Coded}
use Rattle.lp_form.specs.declared.packing.Coded.TheVariants.{Bounds, Statuses}

-- each column has two bits
pub code_small : (columns : Coded) (c : ℕ) → code_of columns c < 4
code_small (Bounds form) c = form_small form.now c
code_small (Statuses basis) c = basis_small basis.now c

-- one more column at the start
pub column_more : (code : ℕ → ℕ) (c k word : ℕ) → 0 < k → k ≤ 32 → word ≡ word_from code (c + k) (32 - k) →
    4 * word + code (c + (k - 1)) ≡ word_from code (c + (k - 1)) (32 - (k - 1))
column_more code c k word h l e =
    (let z : 4 * word + code (c + (k - 1)) ≡ code (c + (k - 1)) + 4 * word = omega arith in z)
    ∙ ap (λ w. code (c + (k - 1)) + 4 * w)
    (e ∙ (let z : c + k ≡ c + (k - 1) + 1 = omega (arith, h) in ap (λ d. word_from code d (32 - k)) z))
    ∙ (let z : suc (32 - k) ≡ 32 - (k - 1) = omega (arith, h, l) in ap (word_from code (c + (k - 1))) z)

-- before the last column there is room for it
pub has_room : (code : ℕ → ℕ) → ((c : ℕ) → code c < 4) → (c k word : ℕ) → 0 < k →
    word ≡ word_from code (c + k) (32 - k) → word < 2 ^ 62
has_room code small c k word h e =
    omega (
      arith,
      e,
      word_fits code small (c + k) (32 - k),
      (let two : 0 < 2 = omega arith in pow-le-pow_right two {i = 2 * (32 - k)} {j = 62} (omega (arith, h))),
    )

-- one more word after
pub word_more : (words front : List ℕ) (f : ℕ → ℕ) (n k i w : ℕ) → i ≡ n + k →
    i < length words → take (n + k) words ≡ front ++ made k f → w ≡ f k →
    take (n + (k + 1)) (set words i w) ≡ front ++ made (k + 1) f
word_more words front f n k i w e h t v =
    (let z : n + (k + 1) ≡ i + 1 = omega (arith, e) in ap (λ j. take j (set words i w)) z)
    ∙ take_more_set words i w h
    ∙ ap (λ ws. ws ++ w ∷ []) ((ap (λ j. take j words) e) ∙ t)
    ∙ append_twice ∙ ap (λ ws. front ++ ws) (ap (λ v. made k f ++ v ∷ []) v ∙ made_more k f (made k f) refl)
  where
    append_twice : (front ++ made k f) ++ w ∷ [] ≡ front ++ (made k f ++ w ∷ [])
    append_twice = append_assoc front (made k f) (w ∷ [])

-- one more word that is copied
pub copied_more : (words from : List ℕ) (i : ℕ) → i < length words → i < length from → take i words ≡ take i from →
    take (i + 1) (set words i (get_or from i 0)) ≡ take (i + 1) from
copied_more words from i h l t =
    take_more_set words i (get_or from i 0) h ∙ ap (λ ws. ws ++ get_or from i 0 ∷ []) t ∙ sym (take_more from i 0 l)

-- the words that were put are all
pub all_put : (words ys : List ℕ) (n i m : ℕ) → length words ≡ m → n + i ≡ m → take (n + i) words ≡ ys → words ≡ ys
all_put words ys n i m h e t = sym (take_all (n + i) words (omega (arith, h, e))) ∙ t

-- one more column is counted
count_more : (words : List ℕ) (c : ℕ) → c < columns_of words →
    basics_below (unpacked words) (c + 1) ≡ basics_below (unpacked words) c + cond (is_basic (status_at words c)) 1 0
count_more words c h =
    (let z : c + 1 ≡ suc c = omega arith in ap (basics_below (unpacked words)) z)
    ∙ ap (λ s. basics_below (unpacked words) c + cond (is_basic s) 1 0) (unpacked_at words c h)

-- where no column is left the word is whole
pub whole_word : (code : ℕ → ℕ) (c k word : ℕ) → k ≡ 0 → word ≡ word_from code (c + k) (32 - k) →
    word ≡ word_from code c 32
whole_word code c k word z e =
    e ∙ (let y : c + k ≡ c = omega (arith, z) in ap (λ d. word_from code d (32 - k)) y)
    ∙ (let y : 32 - k ≡ 32 = omega (arith, z) in ap (word_from code c) y)

pub count_step : (words : List ℕ) (c count : ℕ) → c < columns_of words →
    count ≡ basics_below (unpacked words) c → {b : Bool} → b ≡ is_basic (status_at words c) →
    (b ≡ true → count + 1 ≡ basics_below (unpacked words) (c + 1))
    × (b ≡ false → count ≡ basics_below (unpacked words) (c + 1))
count_step words c count h e {b} t = (
  λ z. added 1 (ap (λ b. cond b 1 0) (sym t ∙ z)),
  λ z. (let y : count ≡ count + 0 = omega arith in y) ∙ added 0 (ap (λ b. cond b 1 0) (sym t ∙ z)),
)
  where
    added : (n : ℕ) → cond (is_basic (status_at words c)) 1 0 ≡ n → count + n ≡ basics_below (unpacked words) (c + 1)
    added n z = omega (arith, e, z, count_more words c h)

-- of the statuses of all columns as many are basic as there are rows
pub basics_unpacked : (words : List ℕ) (c : ℕ) (statuses : List Status) → statuses ≡ made c (status_at words) →
    c ≡ columns_of words → basics_below (unpacked words) (columns_of words) ≡ rows_of words →
    basics statuses ≡ rows_of words
unfolding unpacked
basics_unpacked words c statuses is all count =
    ap basics (is ∙ ap (λ c. made c (status_at words)) all)
    ∙ basics_made (columns_of words) (status_at words) (rows_of words) count
