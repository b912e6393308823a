-- The longest entry that a view has of a place, and that its words stay in front of later ones.
--
-- `longest`: where a place was seen, it has a longest entry, which is at least as long as each of its entries.
-- `seen_grows`: the words that a pass has seen of a place are the first of those that it has seen of it later, if it is
--   consistent.
-- `in_seen`: an entry of the list of words that a pass has seen is an entry of what it knows.
use Rattle.std.proofs.Common.{◌≡◌, ◌⊎◌, ℕ, ◌<◌, ◌≤◌, Bool, true, false, List, [], ◌∷◌, length, Option, Some}
use Rattle.std.proofs.Common.{None, ltb, refl, sym, ap, ◌∙◌, subst, ⊎_elim, inl, inr, arith, eq-eqb, ne_eqb}
use Rattle.std.proofs.lemmas.Bool.{cases_eq}
use Rattle.std.proofs.lemmas.Bool.Decides.{nat_tests}
use Rattle.basis_board.specs.declared.seats.View.{View}
use Rattle.basis_board.specs.Board.{Each, Has}
use Rattle.basis_board.specs.Rule.{Agree, Consistent}
use Rattle.basis_board.specs.Seen.{longer_if, longer, merged, words_of, IsPrefixOf}
use Rattle.basis_board.proofs.Totals.{each_has}

-- the longest entry of place k, by `words_of`, is one of the entries seen, and at least as long as the words ys
pub record Longest (k : ℕ) (seen : List (ℕ × List ℕ)) (ys : List ℕ) : Type 0 where
  pub words : List ℕ
  pub is : words_of k seen ≡ Some words
  pub has : Has seen (k, words)
  pub long : length ys ≤ length words

-- the longer of two words is one of the two, and at least as long as each
longer_cases : (b : Bool) (xs ys : List ℕ) → (b ≡ true → length xs < length ys) → (b ≡ false → length ys ≤ length xs) →
    (zs : List ℕ) × (longer_if b xs ys ≡ zs) × ((zs ≡ xs) ⊎ (zs ≡ ys))
    × (length xs ≤ length zs) × (length ys ≤ length zs)
longer_cases true xs ys less more = let l = less refl in (ys, refl, inr refl, omega arith, omega arith)
longer_cases false xs ys less more = (xs, refl, inl refl, omega arith, more refl)

-- the longest entry of a place, with one more in front, is an entry and at least as long as each
with_head : (k : ℕ) (p : ℕ × List ℕ) (ps : List (ℕ × List ℕ)) (o : Option (List ℕ)) → words_of k ps ≡ o → p.0 ≡ k →
    ((xs : List ℕ) → o ≡ Some xs → Has ps (k, xs)) →
    (zs : List ℕ) × (words_of k (p ∷ ps) ≡ Some zs) × Has (p ∷ ps) (k, zs)
    × (length p.1 ≤ length zs) × ((xs : List ℕ) → o ≡ Some xs → length xs ≤ length zs)
with_head k p ps None is same has = (
  p.1,
  ap (λ b. merged b p.1 (words_of k ps)) (eq-eqb p.0 k same) ∙ ap (longer p.1) is,
  inl (λ i. (same i, p.1)),
  omega arith,
  (λ xs e. absurd (cc)),
)
with_head k p ps (Some ys) is same has =
    let c =
    longer_cases (ltb (length p.1) (length ys)) p.1 ys
    (λ t. grind (arith, nat_tests)) (λ t. grind (arith, nat_tests)) in (
      c.0,
      ap (λ b. merged b p.1 (words_of k ps)) (eq-eqb p.0 k same)
          ∙ (ap (longer p.1) is ∙ ap (λ (z : List ℕ). Some z) c.1),
      ⊎_elim (λ (e : c.0 ≡ p.1). inl (λ i. (same i, sym e i)))
          (λ (e : c.0 ≡ ys). inr (subst (λ (z : List ℕ). Has ps (k, z)) (sym e) (has ys refl))) c.2,
      c.3,
      λ xs e. (let q : ys ≡ xs = cc in let l : length ys ≡ length xs = ap length q in let m = c.4 in omega arith),
    )

-- the words that `words_of` gives for place k are an entry of place k
words_has : (k : ℕ) (seen : List (ℕ × List ℕ)) (xs : List ℕ) → words_of k seen ≡ Some xs → Has seen (k, xs)
words_has k [] xs e = absurd (cc)
words_has k (p ∷ ps) xs e = ⊎_elim
    (λ (same : p.0 ≡ k). let h = with_head k p ps (words_of k ps) refl same (words_has k ps) in
    let q : h.0 ≡ xs = cc in subst (λ (z : List ℕ). Has (p ∷ ps) (k, z)) q h.2)
    (λ (apart : p.0 ≡ k → ⊥).
    inr (words_has k ps xs (sym (ap (λ b. merged b p.1 (words_of k ps)) (ne_eqb p.0 k apart)) ∙ e)))
    (cases_eq p.0 k)

pub longest : (k : ℕ) (seen : List (ℕ × List ℕ)) (ys : List ℕ) → Has seen (k, ys) → Longest k seen ys
longest k [] ys h = absurd h
longest k (p ∷ ps) ys h = ⊎_elim
    (λ (same : p.0 ≡ k).
    let g = with_head k p ps (words_of k ps) refl same (words_has k ps) in
    let long : length ys ≤ length g.0 = ⊎_elim
    (λ (e : p ≡ (k, ys)).
    (let l : length p.1 ≡ length ys = ap (λ (q : ℕ × List ℕ). length q.1) e in let m = g.3 in omega arith))
    (λ (r : Has ps (k, ys)). (let t = longest k ps ys r in let m = g.4 t.words t.is in let l = t.long in omega arith))
    h in
    record { words = g.0; is = g.1; has = g.2; long = long })
    (λ (apart : p.0 ≡ k → ⊥). ⊎_elim
    (λ (e : p ≡ (k, ys)). absurd (apart (ap (λ (q : ℕ × List ℕ). q.0) e)))
    (λ (r : Has ps (k, ys)). let t = longest k ps ys r in record {
      words = t.words;
      is = ap (λ b. merged b p.1 (words_of k ps)) (ne_eqb p.0 k apart) ∙ t.is;
      has = inr t.has;
      long = t.long;
    })
    h)
    (cases_eq p.0 k)

-- what was seen of a place is a prefix of what a view has seen of it that has seen as much
pub seen_grows : (w : View) (old : List (ℕ × List ℕ)) (k : ℕ) (ys : List ℕ) → Consistent w →
    ((p : ℕ × List ℕ) → Has old p → Has w.seen p) → words_of k old ≡ Some ys →
    (xs : List ℕ) × (words_of k w.seen ≡ Some xs) × IsPrefixOf ys xs
seen_grows w old k ys h into was =
    let there : Has w.seen (k, ys) = into (k, ys) (words_has k old ys was) in
    let t = longest k w.seen ys there in
    let both =
    each_has (Agree (k, ys)) w.seen (k, t.words)
    (each_has (λ p. Each (Agree p) w.seen) w.seen (k, ys) h.agree there) t.has in
    let long = t.long in
    (t.words, t.is, record { short = long; same = λ i l. both refl i l (omega arith) })

pub in_seen : (w : View) (xs : List (ℕ × List ℕ)) → w.seen ≡ xs → (p : ℕ × List ℕ) → Has xs p → Has w.seen p
in_seen w xs is p h = subst (λ (l : List (ℕ × List ℕ)). Has l p) (sym is) h
