-- The parts that a certificate is written as, put into their places, give the certificate's numbers.
--
-- `put_more`: putting two lists of parts is putting the first and then the second.
-- `free_at_first`: no part among none has a given letter.
-- `free_behind`: parts of one letter have no part of another letter among them.
use Rattle.std.proofs.Common.{◌≡◌, ℕ, zero, suc, ◌+◌, ◌-◌, ◌<◌, ◌≤◌, ◌&&◌, ◌||◌, Bool, true, false, cond, Ok, Err}
use Rattle.std.proofs.Common.{List, [], ◌∷◌, ◌++◌, length, take, refl, sym, ap, ap₂, ◌∙◌, append_assoc, arith}
use Rattle.std.specs.Prelude.{slice_set}
use Rattle.std.proofs.lemmas.List.{append-nil, length-take-le, set_at, take_all, take_more}
use Rattle.std.proofs.lemmas.List.Folds.{list_any-append}
use Rattle.spec_text.specs.Words.{same}
use Rattle.spec_exact.specs.Fraction.{ℚ, 0ℚ, eq_ℚ}
use Rattle.spec_exact.proofs.Same.{eq_if}
use Rattle.spec_model.specs.Model.{Model, Name, part}
use Rattle.spec_check.specs.declared.certificate.Letter.{Letter}
use Rattle.spec_check.specs.declared.certificate.Certificate.{Certificate}
use Rattle.spec_check.specs.Raw.{ExactPart}
use Rattle.spec_check.specs.Settle.{Settled, ◌>>=◌, zeros, with_value, same_letter, is_given, put, put_all}
use Rattle.spec_certificate.proofs.TextSteps.{the_part, part_if, parts_below}
use Rattle.spec_certificate.proofs.NamesKnown.{AreNames}

-- ---- parts one after another

pub put_more : (m : Model) (before ps qs : List ExactPart) (cert : Certificate (List ℚ)) →
    put_all m before (ps ++ qs) cert ≡ (put_all m before ps cert >>= λ next. put_all m (before ++ ps) qs next)
put_more m before [] qs cert = ap (λ b. put_all m b qs cert) (sym (append-nil before))
put_more m before (p ∷ ps) qs cert = by (put m before p cert) (put_more m (before ++ p ∷ []) ps qs)
  where
    by : (o : Settled (Certificate (List ℚ)))
        → ((next : Certificate (List ℚ)) → put_all m (before ++ p ∷ []) (ps ++ qs) next
        ≡ (put_all m (before ++ p ∷ []) ps next >>= λ last. put_all m ((before ++ p ∷ []) ++ ps) qs last))
        → (o >>= λ next. put_all m (before ++ p ∷ []) (ps ++ qs) next)
        ≡ ((o >>= λ next. put_all m (before ++ p ∷ []) ps next) >>= λ last. put_all m (before ++ p ∷ ps) qs last)
    by (Err fault) h = refl
    by (Ok next) h =
        h next ∙ ap (λ b. put_all m (before ++ p ∷ []) ps next >>= λ last. put_all m b qs last)
        (append_assoc before (p ∷ []) ps)

-- ---- no part of a letter, and no part with a name

-- none of the parts has this letter
abbrev pub IsFree : Letter → List ExactPart → Type 0
IsFree letter parts = (name : Name) → is_given letter name parts ≡ false

pub free_at_first : (letter : Letter) → IsFree letter []
free_at_first letter name = refl

-- the part of a number with one letter gives none with another letter
none_of : (letter other : Letter) (name own : Name) (v : ℚ) → same_letter other letter ≡ false →
    is_given letter name (part_if other own v) ≡ false
none_of letter other name own v h = by (eq_ℚ v 0ℚ)
  where
    by : (t : Bool) → is_given letter name (cond t [] (the_part other own v ∷ [])) ≡ false
    by true = refl
    by false = ap (λ b. b && same own name || false) h

pub free_behind : (letter other : Letter) (names : ℕ → Name) (values : List ℚ) (n : ℕ) →
    same_letter other letter ≡ false → IsFree letter (parts_below other names values n)
free_behind letter other names values zero h name = refl
free_behind letter other names values (suc n) h name =
    list_any-append (λ p. same_letter p.letter letter && same p.name name)
    (parts_below other names values n) (part_if other (names n) (part values n))
    ∙ ap₂ (λ (s t : Bool). s || t) (free_behind letter other names values n h name)
    (none_of letter other name (names n) (part values n) h)

-- the part of a number with one name gives none with another name
not_named : (letter : Letter) (name own : Name) (v : ℚ) → same own name ≡ false →
    is_given letter name (part_if letter own v) ≡ false
not_named letter name own v h = by (eq_ℚ v 0ℚ)
  where
    off : (t : Bool) → t && false || false ≡ false
    off true = refl
    off false = refl

    by : (t : Bool) → is_given letter name (cond t [] (the_part letter own v ∷ [])) ≡ false
    by true = refl
    by false = ap (λ b. same_letter letter letter && b || false) h ∙ off (same_letter letter letter)

module _ (m : Model) (letter : Letter) (w : ℕ) (names : ℕ → Name)
    (known_names : AreNames m letter w names) (values : List ℚ) (long : length values ≡ w) where
  -- where k is at least n, the parts of the first n names have none with name k
  not_given_below : (n k : ℕ) → n ≤ k → k < w → is_given letter (names k) (parts_below letter names values n) ≡ false
  not_given_below zero k h p = refl
  not_given_below (suc n) k h p =
      list_any-append (λ q. same_letter q.letter letter && same q.name (names k))
      (parts_below letter names values n) (part_if letter (names n) (part values n))
      ∙ ap₂ (λ (s t : Bool). s || t) (not_given_below n k (omega (arith, h)) p)
      (not_named letter (names k) (names n) (part values n) (known_names.distinct n k (omega (arith, h)) p))

  -- the parts before and those of the first k names have none with name k and the letter
  not_given : (before : List ExactPart) (k : ℕ) → IsFree letter before → k < w →
      is_given letter (names k) (before ++ parts_below letter names values k) ≡ false
  not_given before k f p =
      list_any-append (λ q. same_letter q.letter letter && same q.name (names k)) before
      (parts_below letter names values k)
      ∙ ap₂ (λ (s t : Bool). s || t) (f (names k)) (not_given_below k k (omega arith) p)

  -- the first n values, and 0 for the others
  front : ℕ → List ℚ
  front n = take n values ++ zeros (w - n)

  -- a list of zeros for the names from n on is a zero and the list for those behind n
  next_zero : (n : ℕ) → n < w → zeros (w - n) ≡ 0ℚ ∷ zeros (w - suc n)
  next_zero n h = let e : w - n ≡ suc (w - suc n) = omega (arith, h) in ap zeros e

  -- the first n + 1 values with zeros behind are the first n, value n, and one zero fewer
  front_more : (n : ℕ) → n < w → front (suc n) ≡ take n values ++ part values n ∷ zeros (w - suc n)
  unfolding front
  front_more n h =
      let e : n + 1 ≡ suc n = omega arith in
      ap (λ xs. xs ++ zeros (w - suc n))
      (ap (λ k. take k values) (sym e) ∙ take_more values n 0ℚ (omega (arith, h, long)))
      ∙ append_assoc (take n values) (part values n ∷ []) (zeros (w - suc n))

  -- setting place n of the first n values with zeros behind to value n gives the first n + 1 with zeros behind
  front_set : (n : ℕ) → n < w → slice_set (front n) n (part values n) ≡ front (suc n)
  unfolding front
  front_set n h =
      ap (λ zs. slice_set (take n values ++ zs) n (part values n)) (next_zero n h)
      ∙ set_at (take n values) 0ℚ (zeros (w - suc n)) (part values n) n
      (length-take-le n values (omega (arith, h, long)))
      ∙ sym (front_more n h)

  -- where value n is 0, the first n values with zeros behind are the first n + 1 with zeros behind
  front_same : (n : ℕ) → n < w → part values n ≡ 0ℚ → front n ≡ front (suc n)
  unfolding front
  front_same n h z =
      ap (λ zs. take n values ++ zs) (next_zero n h)
      ∙ ap (λ v. take n values ++ v ∷ zeros (w - suc n)) (sym z)
      ∙ sym (front_more n h)

  -- all values, with no zero behind, are the values
  front_all : front w ≡ values
  unfolding front
  front_all =
      let none : w - w ≡ 0 = omega arith in
      ap₂ (λ xs n. xs ++ zeros n) (take_all w values (omega (arith, long))) none ∙ append-nil values

  -- no value, with zeros behind, is zeros alone
  front_none : front 0 ≡ zeros w
  unfolding front
  front_none = let all : w - 0 ≡ w = omega arith in ap zeros all

  -- a list of the certificate is filled by parts with the letter
  module _ (fill : List ℚ → Certificate (List ℚ))
      (fills : (z : List ℚ) (k : ℕ) (v : ℚ) → with_value letter k v (fill z) ≡ fill (slice_set z k v))
      (before : List ExactPart) (free : IsFree letter before) where
    -- putting the part of name n into the first n values gives the first n + 1 values
    put_one : (n : ℕ) → n < w →
        put_all m (before ++ parts_below letter names values n)
        (part_if letter (names n) (part values n)) (fill (front n)) ≡ Ok (fill (front (suc n)))
    unfolding put
    put_one n h = by (eq_ℚ (part values n) 0ℚ) refl
      where
        by : (t : Bool) → eq_ℚ (part values n) 0ℚ ≡ t →
            put_all m (before ++ parts_below letter names values n)
            (cond t [] (the_part letter (names n) (part values n) ∷ [])) (fill (front n)) ≡ Ok (fill (front (suc n)))
        by true e = ap (λ z. Ok (fill z)) (front_same n h (eq_if (part values n) 0ℚ e))
        by false e =
            rw (known_names.places n h, not_given before n free h, fills (front n) n (part values n), front_set n h)
            refl

    -- putting the parts of the first n names into zeros gives the first n values, with zeros behind
    put_below : (n : ℕ) → n ≤ w →
        put_all m before (parts_below letter names values n) (fill (front 0)) ≡ Ok (fill (front n))
    put_below zero h = refl
    put_below (suc n) h =
        put_more m before (parts_below letter names values n)
        (part_if letter (names n) (part values n)) (fill (front 0))
        ∙ ap (λ o. o >>= λ next. put_all m (before ++ parts_below letter names values n)
        (part_if letter (names n) (part values n)) next) (put_below n (omega (arith, h)))
        ∙ put_one n (omega (arith, h))

    -- putting the parts of all names into zeros gives the values
    pub filled : put_all m before (parts_below letter names values w) (fill (zeros w)) ≡ Ok (fill values)
    filled =
        ap (λ z. put_all m before (parts_below letter names values w) (fill z)) (sym front_none)
        ∙ put_below w (omega arith) ∙ ap (λ z. Ok (fill z)) front_all
