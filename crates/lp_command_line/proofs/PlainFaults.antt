-- The fault of words by their first ones.
use Rattle.std.proofs.Common.{◌≡◌, ℕ, ◌≤◌, ◌-◌, arith, List, [], ◌∷◌, length, map, take, drop, get_or}
use Rattle.std.proofs.Common.{sym, ap, ◌∙◌}
use Rattle.std.proofs.Math.Seq.{take-length}

module _ {X : Type 0} (f : X → List ℕ) where
  -- the texts of at least three words are those of the first three and of the words behind them
  pub first-words : (words : List X) (x y z : X) (a b c : List ℕ) → 3 ≤ length words → x ≡ get_or words 0 x →
      y ≡ get_or words 1 y → z ≡ get_or words 2 z → a ≡ f x → b ≡ f y → c ≡ f z →
      map f words ≡ a ∷ b ∷ c ∷ map f (take (length words - 3) (drop 3 words))
  first-words [] x y z a b c enough is_x is_y is_z is_a is_b is_c = absurd (omega (arith, enough))
  first-words (u ∷ []) x y z a b c enough is_x is_y is_z is_a is_b is_c = absurd (omega (arith, enough))
  first-words (u ∷ v ∷ []) x y z a b c enough is_x is_y is_z is_a is_b is_c = absurd (omega (arith, enough))
  first-words (u ∷ v ∷ w ∷ words) x y z a b c enough is_x is_y is_z is_a is_b is_c =
      let behind : length words ≡ length (u ∷ v ∷ w ∷ words) - 3 = omega arith in
      ap (λ t. t ∷ f v ∷ f w ∷ map f words) (ap f (sym is_x) ∙ sym is_a)
      ∙ ap (λ t. a ∷ t ∷ f w ∷ map f words) (ap f (sym is_y) ∙ sym is_b)
      ∙ ap (λ t. a ∷ b ∷ t ∷ map f words) (ap f (sym is_z) ∙ sym is_c)
      ∙ ap (λ ws. a ∷ b ∷ c ∷ map f ws) (sym (take-length words))
      ∙ ap (λ n. a ∷ b ∷ c ∷ map f (take n words)) behind
