-- The first lines of answers, and what a reader of their words and numbers knows of the model.
--
-- `same_line`: two texts that are the same have the same first line, where both lines end at a line feed.
-- `same_rest`: two texts that are the same have the same bytes behind their first line.
-- `number_no_feed`: the text of a number of at most 127 bits has no line feed.
-- `read_back`: the text of a number of at most 127 bits reads as this number.
-- `read_as`: where the text of a number of at most 127 bits and a line feed begin a text, its first line reads as the
--   number.
-- `apart`: two numbers that the test of equality tells apart are different.
-- `optimal_line`: an answer that is shown and printed as `OPTIMAL` and a text is right: the text reads as the optimal
--   value.
-- `infeasible_line`: where an answer that is shown is printed as `INFEASIBLE`, the model is infeasible.
-- `unbounded_line`: where an answer that is shown is printed as `UNBOUNDED`, the model is unbounded.
use Rattle.std.proofs.Common.{◌≡◌, ◌≢◌, ◌≤◌, ℕ, true, false, List, [], ◌∷◌, ◌++◌, get_or, refl, sym, ◌∙◌, ap, nat_eq}
use Rattle.std.proofs.Common.{eq-eqb, arith}
use Rattle.std.specs.Prelude.{All, codes, nat_le}
use Rattle.std.specs.List.{list_all}
use Rattle.std.proofs.lemmas.List.Elements.{All-nil, All-cons, All-head, All-tail}
use Rattle.std.proofs.lemmas.Bool.{and_parts}
use borrow.Author.Tests.{leb-true}
use Rattle.spec_exact.specs.Fraction.{ℚ}
use Rattle.spec_exact.specs.Narrow.{IsNarrow}
use Rattle.spec_model.specs.Model.{Model}
use Rattle.spec_model.specs.Truth.{IsOptimal, IsInfeasible, IsUnbounded}
use Rattle.spec_model.specs.Kept.{is_printable}
use Rattle.spec_mps.specs.NumberText.{Is, number_of}
use Rattle.spec_mps.specs.NumberWritten.{number_text}
use Rattle.spec_mps.proofs.RoundTrip.{read_written}
use Rattle.spec_mps.proofs.WrittenNumbers.{number_word}
use Rattle.spec_check.specs.declared.certificate.Known.TheVariants as known
use Rattle.spec_server.specs.declared.asks.Reply.TheVariants as reply
use Rattle.spec_server.specs.Machine.{ExactReply}
use Rattle.spec_server.specs.Output.{reply_text}
use Rattle.spec_truth.proofs.Shown.{IsShownBy, shown_holds, value_fits}

-- ---- lines end at their first line feed

-- none of these bytes is a line feed
abbrev HasNoFeed : List ℕ → Type 0
HasNoFeed line = All (λ b. b ≢ 10) line

pub same_line : (a b x y : List ℕ) → HasNoFeed a → HasNoFeed b → a ++ 10 ∷ x ≡ b ++ 10 ∷ y → a ≡ b
same_line [] [] x y h k e = refl
same_line [] (c ∷ b) x y h k e = absurd (All-head (λ b. b ≢ 10) c b k (let z : 10 ≡ c = cc in sym z))
same_line (d ∷ a) [] x y h k e = absurd (All-head (λ b. b ≢ 10) d a h (let z : d ≡ 10 = cc in z))
same_line (d ∷ a) (c ∷ b) x y h k e =
    let first : d ≡ c = cc in
    let more : a ++ 10 ∷ x ≡ b ++ 10 ∷ y = cc in
    let rest : a ≡ b = same_line a b x y (All-tail (λ b. b ≢ 10) d a h) (All-tail (λ b. b ≢ 10) c b k) more in
    cc

-- where two texts are the same and neither line has a line feed, the bytes behind the first line feed are the same
pub same_rest : (a b x y : List ℕ) → HasNoFeed a → HasNoFeed b → a ++ 10 ∷ x ≡ b ++ 10 ∷ y → x ≡ y
same_rest [] [] x y h k e = cc
same_rest [] (c ∷ b) x y h k e = absurd (All-head (λ b. b ≢ 10) c b k (let z : 10 ≡ c = cc in sym z))
same_rest (d ∷ a) [] x y h k e = absurd (All-head (λ b. b ≢ 10) d a h (let z : d ≡ 10 = cc in z))
same_rest (d ∷ a) (c ∷ b) x y h k e =
    let more : a ++ 10 ∷ x ≡ b ++ 10 ∷ y = cc in
    same_rest a b x y (All-tail (λ b. b ≢ 10) d a h) (All-tail (λ b. b ≢ 10) c b k) more

-- a text of printed bytes has no line feed
printed_no_feed : (w : List ℕ) → list_all is_printable w ≡ true → HasNoFeed w
printed_no_feed [] h = All-nil (λ b. b ≢ 10)
printed_no_feed (b ∷ w) h =
    let p = and_parts (is_printable b) (list_all is_printable w) h in
    let q = and_parts (nat_le 33 b) (nat_le b 126) p.0 in
    let low : 33 ≤ b = leb-true 33 b q.0 in
    All-cons (λ x. x ≢ 10) b w (λ e. omega arith) (printed_no_feed w p.1)

pub number_no_feed : (v : ℚ) → IsNarrow v → HasNoFeed (number_text v)
number_no_feed v h = printed_no_feed (number_text v) (number_word v h.top h.bottom).printable

-- ---- what follows the first line's words

pub read_back : (v : ℚ) → IsNarrow v → number_of (number_text v) ≡ Is v
read_back v h = read_written v h.top h.bottom

pub read_as : (v : ℚ) (text x y : List ℕ) → IsNarrow v → HasNoFeed text → number_text v ++ 10 ∷ x ≡ text ++ 10 ∷ y →
    number_of text ≡ Is v
read_as v text x y h k e =
    let same : number_text v ≡ text = same_line (number_text v) text x y (number_no_feed v h) k e in
    ap number_of (sym same) ∙ read_back v h

-- the first of these bytes; 0 where there is none
abbrev pub first : List ℕ → ℕ
first bytes = get_or bytes 0 0

pub apart : (a b : ℕ) → nat_eq a b ≡ false → a ≡ b → ⊥
apart a b h e = let same : nat_eq a b ≡ true = eq-eqb a b e in let z : true ≡ false = sym same ∙ h in cc

pub optimal_line : (m : Model) (a : ExactReply) (text x y : List ℕ) → IsShownBy m a → HasNoFeed text →
    reply_text a ++ 10 ∷ x ≡ codes "OPTIMAL " ++ text ++ 10 ∷ y →
    (v : ℚ) × (number_of text ≡ Is v) × IsOptimal m v
unfolding reply_text
optimal_line m (reply.Known (known.Optimal v)) text x y s k e =
    let more : number_text v ++ 10 ∷ x ≡ text ++ 10 ∷ y = cc in
    (v, read_as v text x y (value_fits m v s) k more, shown_holds m (known.Optimal v) s)
optimal_line m (reply.Known known.Infeasible) text x y s k e = absurd (apart 73 79 refl (ap first e))
optimal_line m (reply.Known known.Unbounded) text x y s k e = absurd (apart 85 79 refl (ap first e))
optimal_line m (reply.Past p) text x y s k e = absurd (apart 80 79 refl (ap first e))
optimal_line m (reply.Spent budget) text x y s k e = absurd (apart 83 79 refl (ap first e))
optimal_line m replied text x y s k e = absurd s

pub infeasible_line : (m : Model) (a : ExactReply) (x y : List ℕ) → IsShownBy m a →
    reply_text a ++ 10 ∷ x ≡ codes "INFEASIBLE" ++ 10 ∷ y → IsInfeasible m
unfolding reply_text
infeasible_line m (reply.Known (known.Optimal v)) x y s e = absurd (apart 79 73 refl (ap first e))
infeasible_line m (reply.Known known.Infeasible) x y s e = shown_holds m known.Infeasible s
infeasible_line m (reply.Known known.Unbounded) x y s e = absurd (apart 85 73 refl (ap first e))
infeasible_line m (reply.Past p) x y s e = absurd (apart 80 73 refl (ap first e))
infeasible_line m (reply.Spent budget) x y s e = absurd (apart 83 73 refl (ap first e))
infeasible_line m replied x y s e = absurd s

pub unbounded_line : (m : Model) (a : ExactReply) (x y : List ℕ) → IsShownBy m a →
    reply_text a ++ 10 ∷ x ≡ codes "UNBOUNDED" ++ 10 ∷ y → IsUnbounded m
unfolding reply_text
unbounded_line m (reply.Known (known.Optimal v)) x y s e = absurd (apart 79 85 refl (ap first e))
unbounded_line m (reply.Known known.Infeasible) x y s e = absurd (apart 73 85 refl (ap first e))
unbounded_line m (reply.Known known.Unbounded) x y s e = shown_holds m known.Unbounded s
unbounded_line m (reply.Past p) x y s e = absurd (apart 80 85 refl (ap first e))
unbounded_line m (reply.Spent budget) x y s e = absurd (apart 83 85 refl (ap first e))
unbounded_line m replied x y s e = absurd s
