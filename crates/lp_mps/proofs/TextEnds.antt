-- Spaces at the ends of a text, and bytes in columns where none may be.
--
-- `spaces_stop`: a text whose last byte is no space has no space to remove at its end.
-- `spaces_go`: removing the spaces at the end of a text without its last space is removing those of the text.
-- `front_stop`: a text whose first byte is no space has no space to remove in front.
-- `front_go`: removing the spaces in front of a text without its first space is removing those of the text.
-- `past_columns`: no byte after column 62 is misplaced.
-- `misplaced_here`: a misplaced byte at the front is the first misplaced one.
-- `misplaced_later`: where the first byte is not misplaced, the first misplaced one is that of the rest.
use Rattle.std.proofs.Common.{◌≡◌, ℕ, suc, ◌+◌, ◌-◌, ◌<◌, ◌≤◌, List, [], ◌∷◌, length, get_or, take, drop}
use Rattle.std.proofs.Common.{length-drop, refl, sym, ◌∙◌, arith, Some, None, true, false}
use Rattle.std.proofs.lemmas.Bool.{lt-leb, ne_eqb}
use Rattle.std.proofs.lemmas.List.{take_all, at_drop_more}
use Rattle.spec_mps.specs.Fields.{without_front, without_end, is_misplaced, misplaced_from}
use Rattle.lp_base.proofs.LastBytes as last

-- after a byte that is no space nothing is removed
pub spaces_stop : (xs : List ℕ) (n m : ℕ) → n ≡ suc m → n ≤ length xs → (get_or xs m 0 ≡ 32 → ⊥) →
    without_end (take n xs) ≡ take n xs
spaces_stop = last.stops_at without_end 32 refl (λ x xs. refl)

-- a space at the end is taken away
pub spaces_go : (xs : List ℕ) (n m : ℕ) → n ≡ suc m → n ≤ length xs → get_or xs m 0 ≡ 32 →
    without_end (take m xs) ≡ without_end (take n xs)
spaces_go = last.goes_on without_end 32 refl (λ x xs. refl)

-- a byte that is no space begins the text without its front
pub front_stop : (xs : List ℕ) (i : ℕ) → i < length xs → (get_or xs i 0 ≡ 32 → ⊥) →
    take (length xs - i) (drop i xs) ≡ without_front (drop i xs)
front_stop xs i h n =
    take_all (length xs - i) (drop i xs) (omega (arith, length-drop i xs))
    ∙ at_drop_more (λ ys. ys) xs i 0 h
    ∙ sym (at_drop_more without_front xs i 0 h ∙ rw (ne_eqb (get_or xs i 0) 32 n) refl)

-- a space in front is taken away
pub front_go : (xs : List ℕ) (i : ℕ) → i < length xs → get_or xs i 0 ≡ 32 →
    without_front (drop (i + 1) xs) ≡ without_front (drop i xs)
front_go xs i h e = sym (at_drop_more without_front xs i 0 h ∙ rw e refl)

-- nothing is misplaced after column 62
pub past_columns : (c : ℕ) (bs : List ℕ) → 62 < c → misplaced_from c bs ≡ None
past_columns c [] h = refl
past_columns c (b ∷ bs) h = rw (lt-leb c 62 h, past_columns (c + 1) bs (omega arith)) refl

-- a misplaced byte is the first where none was before it
pub misplaced_here : (xs : List ℕ) (i c : ℕ) → i < length xs → true ≡ is_misplaced c (get_or xs i 0) →
    Some c ≡ misplaced_from c (drop i xs)
misplaced_here xs i c h e = sym (at_drop_more (misplaced_from c) xs i 0 h ∙ rw (← e) refl)

-- a byte that may stand there is passed over
pub misplaced_later : (xs : List ℕ) (i c : ℕ) → i < length xs → false ≡ is_misplaced c (get_or xs i 0) →
    misplaced_from (c + 1) (drop (i + 1) xs) ≡ misplaced_from c (drop i xs)
misplaced_later xs i c h e = sym (at_drop_more (misplaced_from c) xs i 0 h ∙ rw (← e) refl)
