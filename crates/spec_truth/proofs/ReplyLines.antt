-- Which reply a line is the line of, where it says what is known of a model.
--
-- `yes_reply`: a reply whose text begins with the byte `Y` accepts a certificate.
-- `wide_reply`: a reply whose text is `WIDE` and a count is one of a wide solve.
-- `valued`: an answer whose text is `OPTIMAL` and a text is an optimum, with a value of this text.
-- `infeasible`: an answer whose text is `INFEASIBLE` is this one.
-- `unbounded`: an answer whose text is `UNBOUNDED` is this one.
-- `optimal_answer`: a reply whose text is `OPTIMAL` and a text answers with an optimum, of a value of this text.
-- `infeasible_answer`: a reply whose text is `INFEASIBLE` answers that no point is feasible.
-- `unbounded_answer`: a reply whose text is `UNBOUNDED` answers that the model is unbounded.
-- `yes_text_is`: the text of a reply that accepts a certificate is `YES` and the text of what it shows.
-- `behind_yes`: two texts are equal where they are equal behind the word `YES`.
-- `optimal_yes`: a reply whose text is `YES OPTIMAL` and a text accepts the certificate of an optimum with this value.
-- `infeasible_yes`: a reply whose text is `YES INFEASIBLE` accepts a certificate that no point is feasible.
-- `unbounded_yes`: a reply whose text is `YES UNBOUNDED` accepts a certificate that the model is unbounded.
use Rattle.std.proofs.Common.{◌≡◌, ℕ, ◌==◌, ◌&&◌, ◌||◌, Bool, true, false, List, ◌++◌, get_or, refl, sym, ◌∙◌, ap}
use Rattle.std.specs.Prelude.{codes}
use Rattle.spec_exact.specs.Fraction.{ℚ}
use Rattle.spec_mps.specs.NumberWritten.{number_text}
use Rattle.spec_check.specs.declared.certificate.Known.{Known}
use Rattle.spec_check.specs.declared.certificate.Known.TheVariants as known
use Rattle.spec_check.specs.declared.certificate.Verdict.TheVariants as verdict
use Rattle.spec_server.specs.declared.asks.Reply.TheVariants as reply
use Rattle.spec_server.specs.Machine.{ExactReply}
use Rattle.spec_server.specs.Output.{known_text, reply_text}
use Rattle.spec_truth.proofs.AnswerLines.{first, apart}

-- the reply to a solve that knows this answer
abbrev pub answer_to : Known ℚ → ExactReply
answer_to what = reply.Known what

-- the reply that accepts a certificate, which shows this answer
abbrev pub yes_to : Known ℚ → ExactReply
yes_to what = reply.Checked (verdict.Yes what)

-- ---- by their first bytes

-- whether bytes begin as OPTIMAL, INFEASIBLE or UNBOUNDED do and no other reply: with I, with U or with OP
abbrev pub looks_known : List ℕ → Bool
looks_known bytes = (first bytes == 73) || (first bytes == 85) || ((first bytes == 79) && (get_or bytes 1 0 == 80))

-- from that false is true anything follows
not_so : {P : Type 0} → false ≡ true → P
not_so e = cc

-- a reply whose text begins as that of a known answer is one
known_reply : (is : ExactReply) → looks_known (reply_text is) ≡ true → (what : Known ℚ) × (is ≡ answer_to what)
unfolding reply_text
known_reply (reply.Loaded rows columns) h = not_so h
known_reply (reply.Written text) h = not_so h
known_reply reply.Done h = not_so h
known_reply (reply.Known what) h = (what, refl)
known_reply (reply.Past p) h = not_so h
known_reply (reply.Spent budget) h = not_so h
known_reply (reply.Certified lines) h = not_so h
known_reply (reply.Found how pivots publication) h = not_so h
known_reply (reply.Checked (verdict.Yes what)) h = not_so h
known_reply (reply.Checked (verdict.No n)) h = not_so h
known_reply (reply.Checked (verdict.Past p)) h = not_so h
known_reply (reply.Wide lines) h = not_so h
known_reply reply.Bye h = not_so h
known_reply reply.Memory h = not_so h
known_reply (reply.Refused why) h = not_so h

-- whether the first byte is Y, as of YES and of no other reply
abbrev pub looks_yes : List ℕ → Bool
looks_yes bytes = first bytes == 89

pub yes_reply : (is : ExactReply) → looks_yes (reply_text is) ≡ true → (what : Known ℚ) × (is ≡ yes_to what)
unfolding reply_text
yes_reply (reply.Loaded rows columns) h = not_so h
yes_reply (reply.Written text) h = not_so h
yes_reply reply.Done h = not_so h
yes_reply (reply.Known (known.Optimal v)) h = not_so h
yes_reply (reply.Known known.Infeasible) h = not_so h
yes_reply (reply.Known known.Unbounded) h = not_so h
yes_reply (reply.Past p) h = not_so h
yes_reply (reply.Spent budget) h = not_so h
yes_reply (reply.Certified lines) h = not_so h
yes_reply (reply.Found how pivots publication) h = not_so h
yes_reply (reply.Checked (verdict.Yes what)) h = (what, refl)
yes_reply (reply.Checked (verdict.No n)) h = not_so h
yes_reply (reply.Checked (verdict.Past p)) h = not_so h
yes_reply (reply.Wide lines) h = not_so h
yes_reply reply.Bye h = not_so h
yes_reply reply.Memory h = not_so h
yes_reply (reply.Refused why) h = not_so h

-- whether the first byte is W, as of WIDE and of no other reply
abbrev looks_wide : List ℕ → Bool
looks_wide bytes = first bytes == 87

-- a reply whose text begins with W is that of a wide solve
wide_looks : (is : ExactReply) → looks_wide (reply_text is) ≡ true → (lines : List (List ℕ)) × (is ≡ reply.Wide lines)
unfolding reply_text
wide_looks (reply.Loaded rows columns) h = not_so h
wide_looks (reply.Written text) h = not_so h
wide_looks reply.Done h = not_so h
wide_looks (reply.Known (known.Optimal v)) h = not_so h
wide_looks (reply.Known known.Infeasible) h = not_so h
wide_looks (reply.Known known.Unbounded) h = not_so h
wide_looks (reply.Past p) h = not_so h
wide_looks (reply.Spent budget) h = not_so h
wide_looks (reply.Certified lines) h = not_so h
wide_looks (reply.Found how pivots publication) h = not_so h
wide_looks (reply.Checked (verdict.Yes what)) h = not_so h
wide_looks (reply.Checked (verdict.No n)) h = not_so h
wide_looks (reply.Checked (verdict.Past p)) h = not_so h
wide_looks (reply.Wide lines) h = (lines, refl)
wide_looks reply.Bye h = not_so h
wide_looks reply.Memory h = not_so h
wide_looks (reply.Refused why) h = not_so h

pub wide_reply : (is : ExactReply) (count : List ℕ) → reply_text is ≡ codes "WIDE " ++ count →
    (lines : List (List ℕ)) × (is ≡ reply.Wide lines)
wide_reply is count e = wide_looks is (ap looks_wide e)

-- ---- what is known

pub valued : (what : Known ℚ) (text : List ℕ) → known_text what ≡ codes "OPTIMAL " ++ text →
    (v : ℚ) × (what ≡ known.Optimal v) × (number_text v ≡ text)
valued (known.Optimal v) text e = (v, refl, cc)
valued known.Infeasible text e = absurd (apart 73 79 refl (ap first e))
valued known.Unbounded text e = absurd (apart 85 79 refl (ap first e))

pub infeasible : (what : Known ℚ) → known_text what ≡ codes "INFEASIBLE" → what ≡ known.Infeasible
infeasible (known.Optimal v) e = absurd (apart 79 73 refl (ap first e))
infeasible known.Infeasible e = refl
infeasible known.Unbounded e = absurd (apart 85 73 refl (ap first e))

pub unbounded : (what : Known ℚ) → known_text what ≡ codes "UNBOUNDED" → what ≡ known.Unbounded
unbounded (known.Optimal v) e = absurd (apart 79 85 refl (ap first e))
unbounded known.Infeasible e = absurd (apart 73 85 refl (ap first e))
unbounded known.Unbounded e = refl

-- ---- answers

-- the text of a reply that gives an answer is the text of that answer
answer_text_is : (is : ExactReply) (what : Known ℚ) → is ≡ answer_to what → reply_text is ≡ known_text what
unfolding reply_text
answer_text_is is what e = ap reply_text e

pub optimal_answer : (is : ExactReply) (text : List ℕ) → reply_text is ≡ codes "OPTIMAL " ++ text →
    (v : ℚ) × (is ≡ answer_to (known.Optimal v)) × (number_text v ≡ text)
optimal_answer is text e =
    let k = known_reply is (ap looks_known e) in
    let d = valued k.0 text (sym (answer_text_is is k.0 k.1) ∙ e) in
    (d.0, k.1 ∙ ap answer_to d.1, d.2)

pub infeasible_answer : (is : ExactReply) → reply_text is ≡ codes "INFEASIBLE" → is ≡ answer_to known.Infeasible
infeasible_answer is e =
    let k = known_reply is (ap looks_known e) in
    k.1 ∙ ap answer_to (infeasible k.0 (sym (answer_text_is is k.0 k.1) ∙ e))

pub unbounded_answer : (is : ExactReply) → reply_text is ≡ codes "UNBOUNDED" → is ≡ answer_to known.Unbounded
unbounded_answer is e =
    let k = known_reply is (ap looks_known e) in
    k.1 ∙ ap answer_to (unbounded k.0 (sym (answer_text_is is k.0 k.1) ∙ e))

-- ---- a yes to a certificate

pub yes_text_is : (is : ExactReply) (what : Known ℚ) → is ≡ yes_to what → reply_text is ≡ codes "YES " ++ known_text what
unfolding reply_text
yes_text_is is what e = ap reply_text e

pub behind_yes : (a b : List ℕ) → codes "YES " ++ a ≡ codes "YES " ++ b → a ≡ b
behind_yes a b e = cc

pub optimal_yes : (is : ExactReply) (text : List ℕ) → reply_text is ≡ codes "YES OPTIMAL " ++ text →
    (v : ℚ) × (is ≡ yes_to (known.Optimal v)) × (number_text v ≡ text)
optimal_yes is text e =
    let k = yes_reply is (ap looks_yes e) in
    let d =
    valued k.0 text (behind_yes (known_text k.0) (codes "OPTIMAL " ++ text) (sym (yes_text_is is k.0 k.1) ∙ e)) in
    (d.0, k.1 ∙ ap yes_to d.1, d.2)

pub infeasible_yes : (is : ExactReply) → reply_text is ≡ codes "YES INFEASIBLE" → is ≡ yes_to known.Infeasible
infeasible_yes is e =
    let k = yes_reply is (ap looks_yes e) in
    k.1
    ∙ ap yes_to (infeasible k.0 (behind_yes (known_text k.0) (codes "INFEASIBLE") (sym (yes_text_is is k.0 k.1) ∙ e)))

pub unbounded_yes : (is : ExactReply) → reply_text is ≡ codes "YES UNBOUNDED" → is ≡ yes_to known.Unbounded
unbounded_yes is e =
    let k = yes_reply is (ap looks_yes e) in
    k.1 ∙ ap yes_to (unbounded k.0 (behind_yes (known_text k.0) (codes "UNBOUNDED") (sym (yes_text_is is k.0 k.1) ∙ e)))
