-- The items that pass a test, and their numbers among those.
use Rattle.std.proofs.Common.{◌≡◌, ◌≢◌, ℕ, zero, suc, ◌+◌, ◌-◌, ◌<◌, ◌≤◌, Bool, true, false, cond, [], ◌∷◌, ◌++◌}
use Rattle.std.proofs.Common.{length, get_or, map, All, refl, sym, ap, ◌∙◌, subst, arith, ⊎_elim, length-append}
use Rattle.std.proofs.lemmas.Bool.{cases_eq, cases_order}
use Rattle.std.proofs.lemmas.List.Elements.{All-nil, All-push}
use Rattle.std.proofs.Math.ListN.{get_or-append}
use Rattle.std.proofs.Math.Seq.{get_or-append_seam}
use Rattle.std.specs.List.{AllPairs}
use Rattle.std.proofs.lemmas.List.{map-append}
use Rattle.std.proofs.lemmas.List.Quantifiers.{all_pairs_push}
use Rattle.spec_iis.specs.Only.{picked, rank}

module _ (p : ℕ → Bool) where
  -- behind an item that passes the test, one more has passed
  rank_pass : (k : ℕ) → p k ≡ true → rank p (suc k) ≡ rank p k + 1
  rank_pass k h = rw h refl

  -- no fewer of the numbers below k + d pass the test than of those below k
  rank_up : (k d : ℕ) → rank p k ≤ rank p (k + d)
  rank_up k zero = let e : k + 0 ≡ k = omega arith in rw e (omega arith)
  rank_up k (suc d) =
      let e : k + suc d ≡ suc (k + d) = omega arith in
      let h : rank p k ≤ rank p (k + d) = rank_up k d in
      rw e (by (p (k + d)) h)
    where
      by : (t : Bool) → rank p k ≤ rank p (k + d) → rank p k ≤ cond t (rank p (k + d) + 1) (rank p (k + d))
      by true h = omega arith
      by false h = h

  -- at most n of the numbers below n pass the test
  pub rank_few : (n : ℕ) → rank p n ≤ n
  rank_few zero = omega arith
  rank_few (suc n) = by (p n) (rank_few n)
    where
      by : (t : Bool) → rank p n ≤ n → cond t (rank p n + 1) (rank p n) ≤ suc n
      by true h = omega arith
      by false h = omega arith

  -- an item that passes has a smaller number among those that pass than each later item
  pub rank_mono : (i k : ℕ) → i < k → p i ≡ true → rank p i < rank p k
  rank_mono i k l h =
      let e : suc i + (k - suc i) ≡ k = omega arith in
      let a : rank p (suc i) ≤ rank p (suc i + (k - suc i)) = rank_up (suc i) (k - suc i) in
      let b : rank p (suc i) ≡ rank p i + 1 = rank_pass i h in
      let c : rank p (suc i + (k - suc i)) ≡ rank p k = ap (rank p) e in
      omega arith

  -- two items that pass and have one number among those that pass are the same
  pub rank_injective : (i k : ℕ) → p i ≡ true → p k ≡ true → rank p i ≡ rank p k → i ≡ k
  rank_injective i k h g e =
      ⊎_elim (λ q. q)
      (⊎_elim (λ l. let m : rank p i < rank p k = rank_mono i k l h in absurd (omega arith))
      (λ l. let m : rank p k < rank p i = rank_mono k i l g in absurd (omega arith))) (cases_order i k)

  -- an item below n that passes, and has number k
  pub record IsAt (n k : ℕ) : Type 0 where
    pub item : ℕ
    pub inside : item < n
    pub passes : p item ≡ true
    pub number : rank p item ≡ k

  -- an item below n that passes, with number k, is so below n + 1
  wider : (n k : ℕ) → IsAt n k → IsAt (suc n) k
  wider n k r =
      record { item = r.item; inside = (let a : r.item < n = r.inside in omega arith); passes = r.passes; number = r.number }

  -- each number below the count of those that pass is the number of an item below n that passes
  pub rank_onto : (n k : ℕ) → k < rank p n → IsAt n k
  rank_onto zero k l = absurd (omega arith)
  rank_onto (suc n) k l = by (p n) refl (rank_onto n k) l
    where
      by : (t : Bool) → p n ≡ t → (k < rank p n → IsAt n k) → k < cond t (rank p n + 1) (rank p n) → IsAt (suc n) k
      by true e before m =
          ⊎_elim (λ q. record { item = n; inside = omega arith; passes = e; number = sym q })
          (λ q. wider n k (before (let d : k ≢ rank p n = q in omega arith))) (cases_eq k (rank p n))
      by false e before m = wider n k (before m)

  module _ {A : Type 0} (f : ℕ → A) where
    -- as many items are picked as numbers below n pass the test
    pub length-picked : (n : ℕ) → length (picked p f n) ≡ rank p n
    length-picked zero = refl
    length-picked (suc n) = by (p n) (length-picked n)
      where
        by : (t : Bool) → length (picked p f n) ≡ rank p n →
            length (cond t (picked p f n ++ f n ∷ []) (picked p f n)) ≡ cond t (rank p n + 1) (rank p n)
        by true h = omega (arith, length-append (picked p f n) (f n ∷ []))
        by false h = h

    -- item i, if it passes the test, is among the picked items at its number among those that pass
    pub get_or-picked : (n i : ℕ) (d : A) → i < n → p i ≡ true → get_or (picked p f n) (rank p i) d ≡ f i
    get_or-picked zero i d l h = absurd (omega arith)
    get_or-picked (suc n) i d l h = ⊎_elim last (earlier (get_or-picked n i d)) (cases_eq i n)
      where
        last : i ≡ n → get_or (picked p f (suc n)) (rank p i) d ≡ f i
        last e =
            subst (λ k. get_or (picked p f (suc n)) (rank p k) d ≡ f k) (sym e)
            (let g : p n ≡ true = sym (ap p e) ∙ h in
            rw g (ap (λ k. get_or (picked p f n ++ f n ∷ []) k d) (sym (length-picked n))
            ∙ get_or-append_seam (picked p f n) (f n) [] d))

        by : (t : Bool) → i < n → get_or (picked p f n) (rank p i) d ≡ f i →
            get_or (cond t (picked p f n ++ f n ∷ []) (picked p f n)) (rank p i) d ≡ f i
        by true m before =
            get_or-append (picked p f n) (f n ∷ []) d (rank p i)
            (let r : rank p i < rank p n = rank_mono i n m h in omega (arith, length-picked n))
            ∙ before
        by false m before = before

        earlier : (i < n → p i ≡ true → get_or (picked p f n) (rank p i) d ≡ f i) → i ≢ n →
            get_or (picked p f (suc n)) (rank p i) d ≡ f i
        earlier before e = let m : i < n = omega arith in by (p n) m (before m h)

    -- what holds of each item below n that passes the test holds of all picked items
    pub All-picked : (P : A → Type 0) (n : ℕ) → ((i : ℕ) → i < n → p i ≡ true → P (f i)) → All P (picked p f n)
    All-picked P zero h = All-nil P
    All-picked P (suc n) h = by (p n) refl (All-picked P n (λ i l e. h i (omega arith) e))
      where
        by : (t : Bool) → p n ≡ t → All P (picked p f n) → All P (cond t (picked p f n ++ f n ∷ []) (picked p f n))
        by true e before = All-push P (picked p f n) (f n) before (h n (omega arith) e)
        by false e before = before

  -- the images of the picked items are what is picked of the images
  pub map-picked : {A B : Type 0} (g : A → B) (f : ℕ → A) (n : ℕ) →
      map g (picked p f n) ≡ picked p (λ i. g (f i)) n
  map-picked g f zero = refl
  map-picked g f (suc n) = by (p n) (map-picked g f n)
    where
      by : (t : Bool) → map g (picked p f n) ≡ picked p (λ i. g (f i)) n →
          map g (cond t (picked p f n ++ f n ∷ []) (picked p f n))
          ≡ cond t (picked p (λ i. g (f i)) n ++ g (f n) ∷ []) (picked p (λ i. g (f i)) n)
      by true h = map-append g (picked p f n) (f n ∷ []) ∙ ap (λ xs. xs ++ g (f n) ∷ []) h
      by false h = h

  -- what holds of each two items below n, the earlier one first, holds of each two picked items
  pub AllPairs-picked : {A : Type 0} (R : A → A → Type 0) (f : ℕ → A) (n : ℕ) →
      ((i k : ℕ) → i < k → k < n → R (f i) (f k)) → AllPairs R (picked p f n)
  AllPairs-picked R f zero h = λ i j d l k. absurd (omega arith)
  AllPairs-picked R f (suc n) h =
      by (p n) (AllPairs-picked R f n (λ i k l m. h i k l (omega arith)))
      (All-picked f (λ x. R x (f n)) n (λ i l e. h i n l (omega arith)))
    where
      by : (t : Bool) → AllPairs R (picked p f n) → All (λ x. R x (f n)) (picked p f n) →
          AllPairs R (cond t (picked p f n ++ f n ∷ []) (picked p f n))
      by true before all = all_pairs_push R (picked p f n) (f n) before all
      by false before all = before
