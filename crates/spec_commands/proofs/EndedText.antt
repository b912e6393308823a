-- The lines that end in a text whose last byte is a line feed, with more bytes behind it.
use Rattle.std.proofs.Common.{◌≡◌, ◌≢◌, ℕ, Bool, true, false, nat_eq, eqb-true, List, [], ◌∷◌, ◌++◌}
use Rattle.std.proofs.Common.{refl, sym, ◌∙◌, ap, subst, append_assoc}
use Rattle.std.specs.Prelude.{All}
use Rattle.std.specs.Str.Lines.{strip_carriage_return}
use Rattle.std.proofs.lemmas.List.Elements.{All-nil, All-cons, All-append}
use Rattle.spec_text.specs.declared.line.Line.{Line}
use Rattle.spec_text.specs.Lines.{line_of, ended_lines_of}
use Rattle.spec_text.proofs.LineLemmas.{ended_lines_of_line, ended_lines_of_last}

-- the lines of a text
abbrev Lines : Type 0
Lines = List (Line (List ℕ))

-- none of these bytes is a line feed
abbrev IsPlain : List ℕ → Type 0
IsPlain line = All (λ b. b ≢ 10) line

-- the lines that end in a text with more bytes behind it are those that end in the text, and then those that end in the
-- bytes
abbrev Splits : List ℕ → List ℕ → Type 0
Splits text more = ended_lines_of (text ++ more) ≡ ended_lines_of text ++ ended_lines_of more

-- the ended lines of one whole line and more bytes are this line and the ended lines of the bytes
at_end : (line more : List ℕ) → IsPlain line → Splits (line ++ 10 ∷ []) more
at_end line more h =
    ap ended_lines_of (append_assoc line (10 ∷ []) more) ∙ ended_lines_of_line line more h
    ∙ sym (ap (λ (ls : Lines). ls ++ ended_lines_of more) (ended_lines_of_line line [] h
    ∙ ap (λ (ls : Lines). line_of (strip_carriage_return line) ∷ ls) (ended_lines_of_last [] (All-nil (λ b. b ≢ 10)))))

-- behind a beginning of a line, the ended lines of a whole text and more bytes are those of both
goes_on : (line text more : List ℕ) → IsPlain line → Splits (line ++ (text ++ 10 ∷ [])) more
goes_on line [] more h = at_end line more h
goes_on line (b ∷ text) more h =
    by (nat_eq b 10) refl (goes_on [] text more (All-nil (λ b. b ≢ 10))) (goes_on (line ++ b ∷ []) text more)
  where
    rest : List ℕ
    rest = text ++ 10 ∷ []

    at_feed : Splits rest more → Splits (line ++ 10 ∷ rest) more
    at_feed r =
        ap ended_lines_of (append_assoc line (10 ∷ rest) more) ∙ ended_lines_of_line line (rest ++ more) h
        ∙ ap (λ (ls : Lines). line_of (strip_carriage_return line) ∷ ls) r
        ∙ sym (ap (λ (ls : Lines). ls ++ ended_lines_of more) (ended_lines_of_line line rest h))

    by : (t : Bool) → nat_eq b 10 ≡ t → Splits rest more →
        (IsPlain (line ++ b ∷ []) → Splits ((line ++ b ∷ []) ++ rest) more) → Splits (line ++ b ∷ rest) more
    by true e r go = subst (λ d. Splits (line ++ d ∷ rest) more) (sym (eqb-true b 10 e)) (at_feed r)
    by false e r go =
        subst (λ (bytes : List ℕ). Splits bytes more) (append_assoc line (b ∷ []) rest)
        (go (All-append (λ b. b ≢ 10) line (b ∷ []) h
        (All-cons (λ b. b ≢ 10) b [] (λ is. not_both is e) (All-nil (λ b. b ≢ 10)))))
      where
        not_both : b ≡ 10 → nat_eq b 10 ≡ false → ⊥
        not_both is other = let z : nat_eq 10 10 ≡ false = sym (ap (λ d. nat_eq d 10) is) ∙ other in cc

-- the ended lines of a text that ends in a line feed and of more bytes are those of both
pub ended_behind : (text more : List ℕ) → Splits (text ++ 10 ∷ []) more
ended_behind text more = goes_on [] text more (All-nil (λ b. b ≢ 10))
