-- Bytes of one kind at the end of a text, which a function takes away.
use Rattle.std.proofs.Common.{◌≡◌, ℕ, suc, ◌≤◌, Bool, true, false, ◌&&◌, cond, eqb, List, [], ◌∷◌, ◌++◌, length, get_or}
use Rattle.std.proofs.Common.{take, eq-eqb, refl, sym, ap, ◌∙◌, arith}
use Rattle.std.specs.List.{list_all}
use Rattle.std.proofs.Math.Seq.{take-suc as take_suc}
use Rattle.std.proofs.lemmas.Bool.{ne_eqb, and_right}

-- the function gives nothing where all that is left are such bytes
module _ (without : List ℕ → List ℕ) (byte : ℕ) (none : without [] ≡ [])
    (first : (x : ℕ) (xs : List ℕ) →
    without (x ∷ xs) ≡ cond (list_all (λ b. eqb b byte) (x ∷ xs)) [] (x ∷ without xs)) where
  abbrev are_all : List ℕ → Bool
  are_all xs = list_all (λ b. eqb b byte) xs

  all_more : (xs : List ℕ) → are_all (xs ++ byte ∷ []) ≡ are_all xs
  all_more [] = ap (λ t. t && true) (eq-eqb byte byte refl)
  all_more (x ∷ xs) = ap (λ t. eqb x byte && t) (all_more xs)

  away : (xs : List ℕ) → without (xs ++ byte ∷ []) ≡ without xs
  away [] = first byte [] ∙ ap (λ t. cond (t && true) [] (byte ∷ without [])) (eq-eqb byte byte refl) ∙ sym none
  away (x ∷ xs) =
      first x (xs ++ byte ∷ [])
      ∙ ap (λ t. cond (eqb x byte && t) [] (x ∷ without (xs ++ byte ∷ []))) (all_more xs)
      ∙ ap (λ ys. cond (are_all (x ∷ xs)) [] (x ∷ ys)) (away xs) ∙ sym (first x xs)

  all_end : (xs : List ℕ) (b : ℕ) → eqb b byte ≡ false → are_all (xs ++ b ∷ []) ≡ false
  all_end [] b h = ap (λ t. t && true) h
  all_end (x ∷ xs) b h = ap (λ t. eqb x byte && t) (all_end xs b h) ∙ and_right (eqb x byte) false refl

  stay : (xs : List ℕ) (b : ℕ) → eqb b byte ≡ false → without (xs ++ b ∷ []) ≡ xs ++ b ∷ []
  stay [] b h = first b [] ∙ ap (λ t. cond (t && true) [] (b ∷ without [])) h ∙ ap (λ ys. b ∷ ys) none
  stay (x ∷ xs) b h =
      first x (xs ++ b ∷ [])
      ∙ ap (λ t. cond t [] (x ∷ without (xs ++ b ∷ []))) (all_end (x ∷ xs) b h) ∙ ap (λ ys. x ∷ ys) (stay xs b h)

  one_more : (xs : List ℕ) (n m : ℕ) → n ≡ suc m → n ≤ length xs → take n xs ≡ take m xs ++ get_or xs m 0 ∷ []
  one_more xs n m q h = ap (λ k. take k xs) q ∙ take_suc xs m 0 (omega arith)

  -- where the last of the first n bytes is not `byte`, `without`, which drops all bytes `byte` at the end of a text,
  -- drops none of them
  pub stops_at : (xs : List ℕ) (n m : ℕ) → n ≡ suc m → n ≤ length xs → (get_or xs m 0 ≡ byte → ⊥) →
      without (take n xs) ≡ take n xs
  stops_at xs n m q h d =
      ap without (one_more xs n m q h) ∙ stay (take m xs) (get_or xs m 0) (ne_eqb _ _ d) ∙ sym (one_more xs n m q h)

  -- where the last of the first n bytes is `byte`, `without`, which drops all bytes `byte` at the end of a text,
  -- leaves the same of these as of the first n - 1
  pub goes_on : (xs : List ℕ) (n m : ℕ) → n ≡ suc m → n ≤ length xs → get_or xs m 0 ≡ byte →
      without (take m xs) ≡ without (take n xs)
  goes_on xs n m q h d =
      sym (away (take m xs)) ∙ ap (λ b. without (take m xs ++ b ∷ [])) (sym d) ∙ ap without (sym (one_more xs n m q h))
