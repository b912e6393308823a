-- The lines of a written text are the lines of its cards.
--
-- `no_feed`: no byte of a printed line is a line feed.
-- `has_its_lines`: a text of cards whose lines are plain and short splits into the lines of these cards.
use Rattle.std.proofs.Common.{◌≡◌, ◌≢◌, ℕ, suc, ◌≤◌, true, List, [], ◌∷◌, ◌++◌, ap, ◌∙◌, append_assoc, arith}
use Rattle.std.specs.Prelude.{nat_le}
use Rattle.std.specs.List.{All, list_all}
use Rattle.std.proofs.lemmas.List.Elements.{All-nil, All-cons}
use Rattle.std.proofs.lemmas.Bool.{and_parts}
use borrow.Author.Tests.{leb-true}
use Rattle.spec_text.specs.declared.line.Line.TheVariants.{Text}
use Rattle.spec_text.specs.Lines.{lines_of, line_of}
use Rattle.spec_text.proofs.LineLemmas.{lines_of_line, lines_of_none, line_short}
use Rattle.spec_mps.specs.declared.style.Style.{Style}
use Rattle.spec_mps.specs.Written.{WrittenCards, cards_text, line_text}
use Rattle.spec_mps.proofs.WrittenSteps.{IsPlainLine, HasItsLines}
use Rattle.spec_mps.proofs.WrittenWords.{is_plain, stripped_plain}

pub no_feed : (line : List ℕ) → list_all is_plain line ≡ true → All (λ b. b ≢ 10) line
no_feed [] h = All-nil (λ b. b ≢ 10)
no_feed (b ∷ line) h =
    let p = and_parts (is_plain b) (list_all is_plain line) h in
    let q = and_parts (nat_le 32 b) (nat_le b 126) p.0 in
    let low : 32 ≤ b = leb-true 32 b q.0 in
    All-cons (λ x. x ≢ 10) b line (λ e. omega arith) (no_feed line p.1)

-- a plain line, a line feed and more text are that line and the lines of that text
one_line : (line more : List ℕ) → IsPlainLine line → lines_of ((line ++ 10 ∷ []) ++ more) ≡ Text line ∷ lines_of more
one_line line more h =
    ap lines_of (append_assoc line (10 ∷ []) more) ∙ lines_of_line line more (no_feed line h.plain)
    ∙ ap (λ l. l ∷ lines_of more) (ap line_of (stripped_plain line h.plain) ∙ line_short line h.short)

pub has_its_lines : (style : Style) (cards : WrittenCards) → HasItsLines style cards
has_its_lines style [] h = lines_of_none
has_its_lines style (card ∷ cards) h =
    one_line (line_text style card) (cards_text style cards) (h 0 card (omega arith))
    ∙ ap (λ ls. Text (line_text style card) ∷ ls) (has_its_lines style cards (λ i d a. h (suc i) d (omega arith)))
