-- That views stay neat: their own places are those of their reads, and what they read they have seen.
--
-- `fits_noted`: A pass that fits the board's words still fits them after it notes another read. The read fits the
--   words, is no publication, and gives only words that the pass has seen.
-- `neat_finished`: a neat pass that publishes the place which it has claimed stays neat.
-- `neat_opening`: a neat pass that reads that a place is done, and none of its words yet, stays neat.
-- `neat_reading`: a neat pass that reads one word more of the place that it read last stays neat.
-- `neat_met`: two neat passes merged into one are neat.
use Rattle.std.proofs.Common.{◌≡◌, ℕ, zero, suc, ◌+◌, ◌*◌, ◌<◌, ◌≤◌, List, [], ◌∷◌, ◌++◌}
use Rattle.std.proofs.Common.{length, get_or, set, Some, refl, sym, ap, ◌∙◌, subst, ⊎_elim}
use Rattle.std.proofs.Common.{inl, inr, arith, length-append, append_assoc, append-nil}
use Rattle.std.proofs.lemmas.Bool.{cases_lt}
use mathlib.Core.Option.{some, some-ne-none}
use lib.ListN.{get_elem?}
use Rattle.basis_board.specs.declared.seats.View.{View}
use Rattle.basis_board.specs.declared.seats.RawRead.{RawRead}
use Rattle.basis_board.specs.declared.seats.RawRead.TheVariants.{Count, Open, See, Claim, Lost, Done}
use Rattle.spec_board.specs.Words.{IsWellFormed}
use Rattle.basis_board.specs.Board.{Each, Has, count, owning, noted, finished, opening_place, grown_seen}
use Rattle.basis_board.specs.Board.{grown_reads, reading, met}
use Rattle.basis_board.specs.Rule.{SeenFits, ReadFits, Fits, Kept, Agree, published_places}
use Rattle.basis_board.specs.Rule.{StandsIn, Neat, ReadAgrees, Consistent}
use Rattle.basis_board.proofs.Totals.{total_at, each_map, each_append, has_left, has_right}
use Rattle.basis_board.proofs.Frames.{St, shows_same}

-- what a read has seen is still seen where each entry that was seen still is
stands_in : (seen more : List (ℕ × List ℕ)) → ((p : ℕ × List ℕ) → Has seen p → Has more p) → (r : RawRead) →
    StandsIn seen r → StandsIn more r
stands_in seen more into (Count c) h = tt
stands_in seen more into (Open k) h = tt
stands_in seen more into (See k xs) h = (h.0, into (k, h.0) h.1, h.2)
stands_in seen more into (Claim k) h = tt
stands_in seen more into (Lost c) h = tt
stands_in seen more into (Done k xs) h = (h.0, into (k, h.0) h.1, h.2)

-- what a neat pass knows stays neat when it notes a read that is no publication and gives only words that it has seen
neat_noted : (v : View) (r : RawRead) → published_places (r ∷ v.reads) ≡ published_places v.reads → StandsIn v.seen r →
    Neat v → Neat (noted v r)
neat_noted v r same stands n = record { published = n.published ∙ sym same; stands = (stands, n.stands) }

-- a read that fits the words, and stands in no place
pub fits_noted : (places : ℕ) (ws : List ℕ) (v : View) (r : RawRead) → 0 < v.share → ReadFits ws r →
    published_places (r ∷ v.reads) ≡ published_places v.reads → StandsIn v.seen r → Fits places ws v →
    Fits places ws (noted v r)
fits_noted places ws v r share fits same stands f =
    record {
      on_board = f.on_board;
      is_spent = λ z. absurd (omega arith);
      held = f.held;
      seen = f.seen;
      own = f.own;
      reads = (fits, f.reads);
      neat = neat_noted v r same stands f.neat;
    }

pub neat_finished : (v : View) (k : ℕ) (xs : List ℕ) → Neat v → Neat (finished (Some (k, xs)) v)
neat_finished v k xs n =
    record {
      published = ap (λ (l : List ℕ). l ++ k ∷ []) n.published;
      stands = (
        (xs, inl refl, omega arith),
        each_map (StandsIn v.seen) (StandsIn ((k, xs) ∷ v.seen))
            (stands_in v.seen ((k, xs) ∷ v.seen) (λ p h. inr h)) v.reads n.stands,
      );
    }

pub neat_opening : (v : View) (k : ℕ) → Neat v → Neat (opening_place v k)
neat_opening v k n =
    record {
      published = n.published;
      stands = (
        ([], inl refl, omega arith),
        each_map (StandsIn v.seen) (StandsIn ((k, []) ∷ v.seen))
            (stands_in v.seen ((k, []) ∷ v.seen) (λ p h. inr h)) v.reads n.stands,
      );
    }

-- where seen words have an entry of place j with at least n words, so have they once the newest entry has one word more
longer_in : (k b : ℕ) (xs : List ℕ) (rest : List (ℕ × List ℕ)) (j : ℕ) (n : ℕ) →
    (ys : List ℕ) × Has ((k, xs) ∷ rest) (j, ys) × (n ≤ length ys) →
    (ys : List ℕ) × Has ((k, xs ++ b ∷ []) ∷ rest) (j, ys) × (n ≤ length ys)
longer_in k b xs rest j n h = ⊎_elim
    (λ (e : (k, xs) ≡ (j, h.0)). let l : length xs ≡ length h.0 = ap (λ (p : ℕ × List ℕ). length p.1) e in
    let m = h.2 in let a : length (xs ++ b ∷ []) ≡ length xs + 1 = length-append xs (b ∷ []) in
    (xs ++ b ∷ [], inl (λ i. (((e i).0), xs ++ b ∷ [])), omega arith))
    (λ (g : Has rest (j, h.0)). (h.0, inr g, h.2))
    h.1

-- what a read has seen is still seen when the newest entry has one word more
stands_longer : (k b : ℕ) (xs : List ℕ) (rest : List (ℕ × List ℕ)) (r : RawRead) → StandsIn ((k, xs) ∷ rest) r →
    StandsIn ((k, xs ++ b ∷ []) ∷ rest) r
stands_longer k b xs rest (Count c) h = tt
stands_longer k b xs rest (Open j) h = tt
stands_longer k b xs rest (See j ys) h = longer_in k b xs rest j (length ys) h
stands_longer k b xs rest (Claim j) h = tt
stands_longer k b xs rest (Lost c) h = tt
stands_longer k b xs rest (Done j ys) h = longer_in k b xs rest j (length ys) h

pub neat_reading : (v : View) (k b : ℕ) (xs : List ℕ) (rest : List (ℕ × List ℕ)) (old : List RawRead) →
    v.seen ≡ (k, xs) ∷ rest → v.reads ≡ See k xs ∷ old → Neat v → Neat (reading v b)
neat_reading v k b xs rest old top last n =
    let now : grown_seen v.seen b ≡ (k, xs ++ b ∷ []) ∷ rest = ap (λ (l : List (ℕ × List ℕ)). grown_seen l b) top in
    let noted_now : grown_reads v.reads b ≡ See k (xs ++ b ∷ []) ∷ old = ap (λ (l : List RawRead). grown_reads l b) last in
    let was : Each (StandsIn ((k, xs) ∷ rest)) (See k xs ∷ old) =
    subst (λ (z : List (ℕ × List ℕ) × List RawRead). Each (StandsIn z.0) z.1) (λ i. (top i, last i)) n.stands in
    record {
      published = n.published ∙ (ap published_places last ∙ ap published_places (sym noted_now));
      stands =
          subst (λ (z : List (ℕ × List ℕ) × List RawRead). Each (StandsIn z.0) z.1) (λ i. (sym now i, sym noted_now i)) (
            (xs ++ b ∷ [], inl refl, omega arith),
            each_map (StandsIn ((k, xs) ∷ rest)) (StandsIn ((k, xs ++ b ∷ []) ∷ rest))
                (stands_longer k b xs rest) old was.1,
          );
    }

-- the places published in two lists of reads, the newest first, are those of the second and then the first
published-append : (xs ys : List RawRead) → published_places (xs ++ ys) ≡ published_places ys ++ published_places xs
published-append [] ys = sym (append-nil (published_places ys))
published-append (Count c ∷ xs) ys = published-append xs ys
published-append (Open k ∷ xs) ys = published-append xs ys
published-append (See k zs ∷ xs) ys = published-append xs ys
published-append (Claim k ∷ xs) ys = published-append xs ys
published-append (Lost c ∷ xs) ys = published-append xs ys
published-append (Done k zs ∷ xs) ys =
    ap (λ (l : List ℕ). l ++ k ∷ []) (published-append xs ys)
    ∙ append_assoc (published_places ys) (published_places xs) (k ∷ [])

pub neat_met : (v w : View) → Neat v → Neat w → Neat (met v w)
neat_met v w n m = record {
  published = (λ i. n.published i ++ m.published i) ∙ sym (published-append w.reads v.reads);
  stands =
      each_append (StandsIn (v.seen ++ w.seen)) w.reads v.reads
      (each_map (StandsIn w.seen) (StandsIn (v.seen ++ w.seen))
      (stands_in w.seen (v.seen ++ w.seen) (λ p. has_right v.seen w.seen p)) w.reads m.stands)
      (each_map (StandsIn v.seen) (StandsIn (v.seen ++ w.seen))
      (stands_in v.seen (v.seen ++ w.seen) (λ p. has_left v.seen w.seen p)) v.reads n.stands);
}

-- two entries of seen words that both fit the board's words are the same up to the end of the shorter one
agree : (ws : List ℕ) (p q : ℕ × List ℕ) → SeenFits ws p → SeenFits ws q → Agree p q
agree ws p q a b e i l m = sym (a.1.same i l) ∙ (ap (λ (z : ℕ). get_or ws (50 * z + 1 + i) 0) e ∙ b.1.same i m)

-- a read that fits the words agrees with all that was seen, where that fits the words too
read_agrees : (ws : List ℕ) (seen : List (ℕ × List ℕ)) → Each (SeenFits ws) seen → (r : RawRead) → ReadFits ws r →
    ReadAgrees seen r
read_agrees ws seen all (Count c) h = tt
read_agrees ws seen all (Open k) h = tt
read_agrees ws seen all (See k xs) h = each_map (SeenFits ws) (Agree (k, xs)) (λ q c. agree ws (k, xs) q h c) seen all
read_agrees ws seen all (Claim k) h = tt
read_agrees ws seen all (Lost c) h = tt
read_agrees ws seen all (Done k xs) h = each_map (SeenFits ws) (Agree (k, xs)) (λ q c. agree ws (k, xs) q h c) seen all

-- where a list has an element at i, the element written there stands there
at_here : {X : Type 0} (xs : List X) (i : ℕ) (x y : X) → get_elem? xs i ≡ some x → get_elem? (set xs i y) i ≡ some y
at_here [] i x y e = absurd (some-ne-none x (sym e))
at_here (z ∷ zs) zero x y e = refl
at_here (z ∷ zs) (suc i) x y e = at_here zs i x y e

module _ (places : ℕ) where
  -- in a state of a board that keeps the rule `Kept`, what each pass knows is consistent
  pub consistent : (s : St) → Kept places s → (id : ℕ) (v : View) → get_elem? s.views id ≡ some v → Consistent v
  consistent s r id v at =
      let ws : List ℕ = s.words in
      let f = r.each_seat id v at in record {
        neat = f.neat;
        agree =
            each_map (SeenFits ws) (λ p. Each (Agree p) v.seen)
            (λ p a. each_map (SeenFits ws) (Agree p) (λ q c. agree ws p q a c) v.seen f.seen) v.seen f.seen;
        reads_agree = each_map (ReadFits ws) (ReadAgrees v.seen) (read_agrees ws v.seen f.seen) v.reads f.reads;
        formed =
            each_map (SeenFits ws) (λ p. length p.1 ≡ 49 → IsWellFormed p.1)
            (λ p a long. (let g = (r.each_place p.0).formed a.0 in
            subst IsWellFormed (shows_same ws p.0 g.0 p.1 (g.2.all ∙ sym long) g.1 a.1) g.2)) v.seen f.seen;
        own = f.own;
        once = λ k. (let p = r.each_place k in let o = p.owned in let t = total_at (owning k) s.views id v at in
            ⊎_elim (λ (l : k < count ws). (let c = p.claimed l in omega arith))
            (λ (l : count ws ≤ k). (let c = p.free l in omega arith)) (cases_lt k (count ws)));
      }

  -- where a step makes w of what pass `id` knows, and the rule `Kept` holds then, w is consistent
  pub after : (s : St) (ws : List ℕ) (id : ℕ) (v w : View) → get_elem? s.views id ≡ some v →
      Kept places record { words = ws; homes = s.homes; views = set s.views id w } → Consistent w
  after s ws id v w at r =
      consistent record { words = ws; homes = s.homes; views = set s.views id w } r id w (at_here s.views id v w at)
