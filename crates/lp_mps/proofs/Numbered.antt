-- Words numbered one by one.
use Rattle.std.proofs.Common.{◌≡◌, ℕ, suc, ◌+◌, List, [], ◌∷◌, ◌++◌, length, refl, sym, ap, ◌∙◌, arith}
use Rattle.std.specs.List.{filter}
use Rattle.std.proofs.lemmas.List.Elements.{filter-append}
use Rattle.spec_text.specs.Words.{has_bytes}
use Rattle.spec_mps.specs.Fields.{Fields, numbered_from, field_of}

-- numbering words leaves as many as there are
length-numbered : (n : ℕ) (xs : List (List ℕ)) → length (numbered_from n xs) ≡ length xs
length-numbered n [] = refl
length-numbered n (x ∷ xs) = ap suc (length-numbered (n + 1) xs)

-- one more word, unless it is empty, comes last with the next number
numbered-push : (n : ℕ) (xs : List (List ℕ)) (w : List ℕ) →
    numbered_from n (xs ++ filter has_bytes (w ∷ [])) ≡ numbered_from n xs ++ field_of (length xs + n) w
numbered-push n [] [] = refl
numbered-push n [] (b ∷ bs) = ap (λ k. record { number = k; text = b ∷ bs } ∷ []) (omega arith)
numbered-push n (x ∷ xs) w =
    ap (λ (fs : Fields). record { number = n; text = x } ∷ fs)
    (numbered-push (n + 1) xs w ∙ ap (λ k. numbered_from (n + 1) xs ++ field_of k w) (omega arith))

-- words numbered from 1 without the empty ones go on with the next word, unless it is empty
pub next_word : (parts : List (List ℕ)) (w : List ℕ) →
    numbered_from 1 (filter has_bytes parts) ++ field_of (length (numbered_from 1 (filter has_bytes parts)) + 1) w
    ≡ numbered_from 1 (filter has_bytes (parts ++ w ∷ []))
next_word parts w =
    ap (λ k. numbered_from 1 (filter has_bytes parts) ++ field_of (k + 1) w)
    (length-numbered 1 (filter has_bytes parts))
    ∙ sym (numbered-push 1 (filter has_bytes parts) w)
    ∙ ap (numbered_from 1) (sym (filter-append has_bytes parts (w ∷ [])))
