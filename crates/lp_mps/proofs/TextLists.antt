-- Lists of fields: whether a set's name comes first, and which texts stand at which places.
--
-- `even_fields`: an even number of fields is read as pairs without a set.
-- `odd_fields`: an odd number of fields is read as a set's name and pairs.
-- `few_pairs`: fewer than two fields hold no pair.
-- `bound_texts_are`: the texts at the first four places of a bound's card, of the right shape, are those that are read
--   of it.
use Rattle.std.proofs.Common.{◌≡◌, ◌≢◌, ℕ, suc, ◌%◌, ◌<◌, Bool, true, false, not, nat_eq, Option, Some, None}
use Rattle.std.proofs.Common.{List, [], ◌∷◌, length, slice_get, refl, sym, ap, ap₂, ◌∙◌, arith, cond, Err}
use Rattle.std.specs.List.{filter}
use Rattle.std.proofs.lemmas.List.{length-map}
use Rattle.std.proofs.lemmas.Bool.Decides.{nat_tests}
use Rattle.spec_mps.specs.Reader.{pairs_of}
use Rattle.spec_mps.specs.Sides.{is_odd, set_and_pairs_by, set_and_pairs}
use Rattle.spec_mps.specs.Fields.{Field, Fields, texts_of}
use Rattle.spec_mps.specs.declared.bound_kind.BoundKind.{BoundKind}
use Rattle.spec_mps.specs.declared.style.Style.{Style}
use Rattle.spec_mps.specs.declared.fault.Code.TheVariants as code
use Rattle.spec_mps.specs.Checks.{Check}
use Rattle.spec_mps.specs.Shapes.{has_shape, bound_shapes}
use Rattle.spec_mps.specs.Bounds.{BoundTexts, bound_texts_by, bound_texts, takes_value, is_read}
use Rattle.spec_model.specs.Model.{Name}
use Rattle.lp_mps.specs.BoundSeen.{texts_by}

-- a number is not odd exactly where the next one is odd
odd_more : (n : ℕ) → not (nat_eq (n % 2) 1) ≡ nat_eq (suc n % 2) 1
odd_more n = grind (arith, nat_tests)

-- a list tests as odd exactly where its length is odd
odd_length : (ts : List (List ℕ)) → is_odd ts ≡ nat_eq (length ts % 2) 1
odd_length [] = refl
odd_length (t ∷ ts) = ap not (odd_length ts) ∙ odd_more (length ts)

-- a list of even length does not test as odd
is_even : (ts : List (List ℕ)) → length ts % 2 ≡ 0 → is_odd ts ≡ false
is_even ts h = odd_length ts ∙ grind (arith, nat_tests)

-- a list whose length is not even tests as odd
odd_is : (ts : List (List ℕ)) → length ts % 2 ≢ 0 → is_odd ts ≡ true
odd_is ts h = odd_length ts ∙ grind (arith, nat_tests)

-- where no set's name comes first, all texts make pairs
without_set : (ts : List (List ℕ)) → set_and_pairs_by false ts ≡ record { set = None; pairs = pairs_of ts }
without_set [] = refl
without_set (t ∷ ts) = refl

-- an even number of fields has no set
pub even_fields : (fs : Fields) → length fs % 2 ≡ 0 →
    record { set = None; pairs = pairs_of (texts_of fs) } ≡ set_and_pairs (texts_of fs)
unfolding set_and_pairs
even_fields fs h =
    sym (ap (λ b. set_and_pairs_by b (texts_of fs))
    (is_even (texts_of fs) (ap (λ n. n % 2) (length-map fs (λ (f : Field). f.text)) ∙ h)) ∙ without_set (texts_of fs))

-- an odd one begins with it
pub odd_fields : (fs : Fields) (t : List ℕ) (f : Field) (rest : Fields) → fs ≡ f ∷ rest → t ≡ f.text →
    length fs % 2 ≢ 0 → record { set = Some t; pairs = pairs_of (texts_of rest) } ≡ set_and_pairs (texts_of fs)
unfolding set_and_pairs
odd_fields fs t f rest e k h = rw (k, e) (begins f rest (λ z. h (ap (λ (xs : Fields). length xs % 2) e ∙ z)))
  where
    begins : (f : Field) (rest : Fields) → length (f ∷ rest) % 2 ≢ 0 →
        record { set = Some f.text; pairs = pairs_of (texts_of rest) } ≡ set_and_pairs (texts_of (f ∷ rest))
    begins f rest h =
        sym (ap (λ b. set_and_pairs_by b (texts_of (f ∷ rest))) (odd_is (texts_of (f ∷ rest))
        (λ z. h (sym (ap (λ n. n % 2) (length-map (f ∷ rest) (λ (f : Field). f.text))) ∙ z))))

-- less than two texts are no pair
pub few_pairs : (fs : Fields) → length fs < 2 → pairs_of (texts_of fs) ≡ []
few_pairs [] h = refl
few_pairs (f ∷ []) h = refl
few_pairs (f ∷ g ∷ fs) h = absurd (omega arith)

-- `texts_by`, of the first four texts of a list, gives the texts of a bound that `bound_texts_by` gives of the list
texts_places : (b : Bool) (ts : List (List ℕ)) →
    texts_by b (slice_get ts 0) (slice_get ts 1) (slice_get ts 2) (slice_get ts 3) ≡ bound_texts_by b ts
texts_places true [] = refl
texts_places false [] = refl
texts_places true (a ∷ []) = refl
texts_places false (a ∷ []) = refl
texts_places true (a ∷ b ∷ []) = refl
texts_places false (a ∷ b ∷ []) = refl
texts_places true (a ∷ b ∷ c ∷ []) = refl
texts_places false (a ∷ b ∷ c ∷ []) = refl
texts_places true (a ∷ b ∷ c ∷ d ∷ ts) = refl
texts_places false (a ∷ b ∷ c ∷ d ∷ ts) = refl

-- the texts after a kind
pub bound_texts_are : (style : Style) (kind : BoundKind) (fs : Fields)
    (shape has_value : Bool) (a b c d : Option Name) (made : Check BoundTexts) →
    shape ≡ has_shape (bound_shapes style kind) fs → shape ≡ true → has_value ≡ takes_value kind →
    a ≡ slice_get (texts_of (filter (λ f. is_read kind f.number) fs)) 0 →
    b ≡ slice_get (texts_of (filter (λ f. is_read kind f.number) fs)) 1 →
    c ≡ slice_get (texts_of (filter (λ f. is_read kind f.number) fs)) 2 →
    d ≡ slice_get (texts_of (filter (λ f. is_read kind f.number) fs)) 3 →
    made ≡ texts_by has_value a b c d → made ≡ bound_texts style kind fs
unfolding bound_texts
bound_texts_are style kind fs shape has_value a b c d made es t ev ea eb ec ed e =
    let xs : List (List ℕ) = texts_of (filter (λ f. is_read kind f.number) fs) in
    e ∙ ap₂ (λ v x. texts_by v x b c d) ev ea ∙ ap₂ (λ x y. texts_by (takes_value kind) (slice_get xs 0) x y d) eb ec
    ∙ ap (λ x. texts_by (takes_value kind) (slice_get xs 0) (slice_get xs 1) (slice_get xs 2) x) ed
    ∙ texts_places (takes_value kind) xs
    ∙ sym (ap (λ (s : Bool). cond s (bound_texts_by (takes_value kind) xs) (Err code.CardShape)) (sym es ∙ t))
