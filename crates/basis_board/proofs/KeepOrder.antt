-- Looks and puts keep the reads of a pass in order.
use Rattle.std.proofs.Common.{◌≡◌, ◌≢◌, ℕ, ◌+◌, ◌<◌, List, [], ◌∷◌, ◌++◌, sym, subst, inl, inr, arith}
use Rattle.std.specs.List.{AllByRecursion}
use Rattle.spec_board.specs.Words.{IsWellFormed}
use Rattle.spec_board.specs.declared.read.Read.TheVariants as read
use Rattle.spec_board.specs.Orders.{InPairs, AreInOrder}
use Rattle.basis_board.specs.declared.seats.View.{View}
use Rattle.basis_board.specs.declared.seats.RawRead.{RawRead}
use Rattle.basis_board.specs.declared.seats.RawRead.TheVariants.{Count, Open, See, Claim, Lost, Done}
use Rattle.basis_board.specs.declared.board.Look.{Look}
use Rattle.basis_board.specs.declared.board.Look.TheVariants.{Found, NoneReady}
use Rattle.spec_board.specs.declared.read.Put.{Put}
use Rattle.spec_board.specs.declared.read.Put.TheVariants.{Published, Full, Raced}
use Rattle.basis_board.specs.Board.{Each, IsAtMost}
use Rattle.basis_board.specs.Rule.{StandsIn, Consistent}
use Rattle.basis_board.specs.Calls.{CountTells, Passed, OpenUnseen, IsDownTo, Looks, Puts}
use Rattle.basis_board.proofs.Totals.{each_map, each_append, each_has}
use Rattle.basis_board.proofs.Looking.{each_both}
use Rattle.basis_board.specs.Orderly.{IsWhole, IsOrderly}
use Rattle.basis_board.specs.PassReads.{exact_read}
use Rattle.basis_board.proofs.Pushing.{in_turn, all_more, pairs_more}

-- ---- what an earlier read says of one more

-- the read is in order after these
abbrev IsAfter : RawRead → List RawRead → Type 0
IsAfter r earlier = Each (λ q. AreInOrder (exact_read q) (exact_read r)) earlier

-- a read that is in order after any read is in order after each of a list
after_all : (r : RawRead) → ((q : RawRead) → AreInOrder (exact_read q) (exact_read r)) → (earlier : List RawRead) →
    IsAfter r earlier
after_all r h [] = tt
after_all r h (q ∷ earlier) = (h q, after_all r h earlier)

-- where all places seen are below c, a read of what was seen, which gave no count above c, is in order before the count
-- c
before_count : (seen : List (ℕ × List ℕ)) (c : ℕ) → Each (λ p. p.0 < c) seen → (q : RawRead) → StandsIn seen q →
    IsAtMost c q → AreInOrder (exact_read q) (read.Count c)
before_count seen c below (Count d) stands most = most
before_count seen c below (Open k) stands most = tt
before_count seen c below (See k words) stands most =
    each_has (λ (p : ℕ × List ℕ). p.0 < c) seen (k, stands.0) below stands.1
before_count seen c below (Claim k) stands most = tt
before_count seen c below (Lost d) stands most = most
before_count seen c below (Done k words) stands most =
    each_has (λ (p : ℕ × List ℕ). p.0 < c) seen (k, stands.0) below stands.1

-- a read that gave at most c is in order before a claim that was lost at count c
before_lost : (c : ℕ) (q : RawRead) → IsAtMost c q → AreInOrder (exact_read q) (read.Lost c)
before_lost c (Count d) most = most
before_lost c (Open k) most = tt
before_lost c (See k words) most = tt
before_lost c (Claim k) most = tt
before_lost c (Lost d) most = most
before_lost c (Done k words) most = tt

-- where no entry seen is of place j, each read that was seen is in order before j as not done
before_open : (seen : List (ℕ × List ℕ)) (j : ℕ) → Each (λ p. p.0 ≢ j) seen → (q : RawRead) → StandsIn seen q →
    AreInOrder (exact_read q) (read.NotDone j)
before_open seen j unseen (Count d) stands = tt
before_open seen j unseen (Open k) stands = tt
before_open seen j unseen (See k words) stands =
    each_has (λ (p : ℕ × List ℕ). p.0 ≢ j) seen (k, stands.0) unseen stands.1
before_open seen j unseen (Claim k) stands = tt
before_open seen j unseen (Lost d) stands = tt
before_open seen j unseen (Done k words) stands =
    each_has (λ (p : ℕ × List ℕ). p.0 ≢ j) seen (k, stands.0) unseen stands.1

-- any read is in order before words read of a place
before_see : (j : ℕ) (new : List ℕ) (q : RawRead) → AreInOrder (exact_read q) (read.Seen j new)
before_see j new (Count d) = tt
before_see j new (Open k) = tt
before_see j new (See k words) = tt
before_see j new (Claim k) = tt
before_see j new (Lost d) = tt
before_see j new (Done k words) = tt

-- any read is in order before a claim
before_claim : (j : ℕ) (q : RawRead) → AreInOrder (exact_read q) (read.Claim j)
before_claim j (Count d) = tt
before_claim j (Open k) = tt
before_claim j (See k words) = tt
before_claim j (Claim k) = tt
before_claim j (Lost d) = tt
before_claim j (Done k words) = tt

-- any read is in order before a publication
before_done : (j : ℕ) (new : List ℕ) (q : RawRead) → AreInOrder (exact_read q) (read.Done j new)
before_done j new (Count d) = tt
before_done j new (Open k) = tt
before_done j new (See k words) = tt
before_done j new (Claim k) = tt
before_done j new (Lost d) = tt
before_done j new (Done k words) = tt

-- where j is below k, the read of place j as not done is in order after the reads that passed by the places from k up
passed_above : (shape : List ℕ) (c k : ℕ) (added : List RawRead) → Passed shape c k added → (j : ℕ) → j < k →
    IsAfter (Open j) added
passed_above shape c k [] p j l = tt
passed_above shape c k (Open i ∷ added) p j l = (tt, passed_above shape c (k + 1) added p.1 j (omega arith))
passed_above shape c k (See i words ∷ added) p j l =
    let is : i ≡ k = p.0.0 in
    ((λ (e : i ≡ j). (let x : i ≡ j = e in omega arith)), passed_above shape c (k + 1) added p.1 j (omega arith))
passed_above shape c k (Count d ∷ added) p j l = absurd p.0
passed_above shape c k (Claim i ∷ added) p j l = absurd p.0
passed_above shape c k (Lost d ∷ added) p j l = absurd p.0
passed_above shape c k (Done i words ∷ added) p j l = absurd p.0

-- ---- one read more

-- these reads, which stand newest first, are in order once the first one stands first, and each is whole
record AreOrderly (reads : List RawRead) : Type 0 where
  ordered : InPairs AreInOrder (in_turn reads)
  whole : AllByRecursion IsWhole (in_turn reads)

-- orderly reads stay orderly with a whole read that is in order after them
one_more : (r : RawRead) (reads : List RawRead) → AreOrderly reads → IsAfter r reads → IsWhole (exact_read r) →
    AreOrderly (r ∷ reads)
one_more r reads h after whole = record {
  ordered = pairs_more AreInOrder r reads h.ordered after;
  whole = all_more IsWhole r reads h.whole whole;
}

-- what a pass knows is orderly where its reads are
of_view : (v : View) → AreOrderly v.reads → IsOrderly v
of_view v h = record { ordered = h.ordered; whole = h.whole }

module _ (v : View) (now : Consistent v) (orderly : IsOrderly v) where
  -- a count that tells what the pass published is in order after the pass's reads
  after_count : (c : ℕ) → CountTells v c → IsAfter (Count c) v.reads
  after_count c tells = each_both (StandsIn v.seen) (IsAtMost c) (λ q. AreInOrder (exact_read q) (read.Count c))
      (before_count v.seen c tells.seen) v.reads now.neat.stands tells.reads

  -- the reads of an orderly pass are orderly with a further count behind them that tells what the pass published
  counted : (c : ℕ) → CountTells v c → AreOrderly (Count c ∷ v.reads)
  counted c tells = one_more (Count c) v.reads (record { ordered = orderly.ordered; whole = orderly.whole })
      (after_count c tells) tt

  -- ---- a look

  -- the reads of an orderly pass with a count, and then those that pass by places down from it, are orderly
  passed_orderly : (shape : List ℕ) (c k : ℕ) (added : List RawRead) → CountTells v c → Passed shape c k added →
      Each (OpenUnseen v.seen) added → AreOrderly (added ++ Count c ∷ v.reads)
  passed_orderly shape c k [] tells p unseen = counted c tells
  passed_orderly shape c k (Open j ∷ added) tells p unseen =
      let is : j ≡ k = p.0 in
      one_more (Open j) (added ++ Count c ∷ v.reads) (passed_orderly shape c (k + 1) added tells p.1 unseen.1)
      (each_append (λ q. AreInOrder (exact_read q) (read.NotDone j)) added (Count c ∷ v.reads)
      (passed_above shape c (k + 1) added p.1 j (omega arith)) (
        tt,
        each_map (StandsIn v.seen) (λ q. AreInOrder (exact_read q) (read.NotDone j))
            (before_open v.seen j unseen.0) v.reads now.neat.stands,
      )) tt
  passed_orderly shape c k (See j words ∷ added) tells p unseen =
      one_more (See j words) (added ++ Count c ∷ v.reads) (passed_orderly shape c (k + 1) added tells p.1 unseen.1)
      (after_all (See j words) (before_see j words) (added ++ Count c ∷ v.reads)) (inr p.0.1)
  passed_orderly shape c k (Count d ∷ added) tells p unseen = absurd p.0
  passed_orderly shape c k (Claim j ∷ added) tells p unseen = absurd p.0
  passed_orderly shape c k (Lost d ∷ added) tells p unseen = absurd p.0
  passed_orderly shape c k (Done j words ∷ added) tells p unseen = absurd p.0

  -- a look that has come down to place k leaves the reads orderly
  down_orderly : (shape : List ℕ) (c k : ℕ) (w : View) (d : IsDownTo shape c k v w) → AreOrderly w.reads
  down_orderly shape c k w d = subst (λ (x : View). AreOrderly x.reads) (sym d.view)
      (passed_orderly shape c k d.added d.tells d.passed d.unseen)

  -- a look leaves the reads of an orderly pass in order
  pub looks_keep : (shape : List ℕ) (w : View) (look : Look) → Looks shape v look w → IsOrderly w
  looks_keep shape w (NoneReady c) d = of_view w (down_orderly shape c 0 w d)
  looks_keep shape w (Found k words) f =
      let before = down_orderly shape f.count (k + 1) f.before f.down in
      of_view w (subst (λ (x : View). AreOrderly x.reads) (sym f.finds.view)
      (one_more (See k words) f.before.reads before
      (after_all (See k words) (before_see k words) f.before.reads) (inl f.finds.formed.all)))

  -- ---- a put

  -- a put of well-formed words leaves the reads of an orderly pass in order
  pub puts_keep : (words : List ℕ) (w : View) (put : Put) → IsWellFormed words → Puts v words put w → IsOrderly w
  puts_keep words w (Published k) formed p =
      let claim = one_more (Claim k) (Count k ∷ v.reads) (counted k p.tells)
      (after_all (Claim k) (before_claim k) (Count k ∷ v.reads)) tt in
      of_view w (subst (λ (x : View). AreOrderly x.reads) (sym p.view)
      (one_more (Done k words) (Claim k ∷ Count k ∷ v.reads) claim
      (after_all (Done k words) (before_done k words) (Claim k ∷ Count k ∷ v.reads)) formed.all))
  puts_keep words w (Full c) formed p =
      of_view w (subst (λ (x : View). AreOrderly x.reads) (sym p.view) (counted c p.tells))
  puts_keep words w (Raced e) formed p =
      let less = p.grown in
      of_view w (subst (λ (x : View). AreOrderly x.reads) (sym p.view)
      (one_more (Lost e) (Count p.count ∷ v.reads) (counted p.count p.tells) (
        omega arith,
        each_map (IsAtMost e) (λ q. AreInOrder (exact_read q) (read.Lost e)) (before_lost e) v.reads
            p.tells_then.reads,
      ) tt))
