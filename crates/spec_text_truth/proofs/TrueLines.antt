-- Lines of outputs that are true of a model, by what is known of it.
--
-- `tail_no_feed`: where two texts one behind the other have no line feed, the second has none.
-- `fraction_no_feed`: the text of a fraction has no line feed.
-- `past_no_feed`: the text of a refused operation has no line feed.
-- `known_no_feed`: the text of a known answer has no line feed.
-- `spent_no_feed`: the text of a spent budget has no line feed.
-- `answer_no_feed`: the text of an answer has no line feed.
-- `wide_known_no_feed`: the text of an answer with numbers of any width has no line feed.
use Rattle.std.proofs.Common.{◌≡◌, ◌≢◌, ℕ, zero, suc, ◌+◌, ◌*◌, ◌/◌, ◌%◌, ◌^◌, true, false, nat_eq, List, [], ◌∷◌, ◌++◌}
use Rattle.std.proofs.Common.{cond, Option, Some, None, unsigned_abs, int_lt, pos, refl, sym, ◌∙◌, ap, subst, arith}
use Rattle.std.specs.Prelude.{codes, decimal, nat_le}
use Rattle.std.proofs.lemmas.List.Elements.{All-nil, All-cons, All-tail}
use Rattle.spec_exact.specs.Fraction.{ℚ}
use Rattle.spec_exact.specs.Narrow.{number_limit}
use Rattle.spec_exact.specs.declared.past.Op.{Op}
use Rattle.spec_exact.specs.declared.past.Op.TheVariants.{Add, Sub, Mul, Div, Cmp}
use Rattle.spec_exact.specs.declared.past.Past.{Past}
use Rattle.spec_model.specs.Model.{Model}
use Rattle.spec_mps.specs.NumberText.{number_of}
use Rattle.spec_mps.specs.NumberWritten.{number_text, size_text, places, placed, pointed, last_digits, quotient_text}
use Rattle.spec_check.specs.declared.certificate.Known.{Known}
use Rattle.spec_check.specs.declared.certificate.Known.TheVariants as known
use Rattle.spec_check.specs.Certificate.{Holds}
use Rattle.spec_server.specs.declared.asks.Reply.TheVariants as reply
use Rattle.spec_server.specs.Machine.{ExactReply}
use Rattle.spec_server.specs.Output.{known_text, reply_text, op_text, past_text}
use Rattle.spec_server.specs.WideLines.{wide_known_text}
use Rattle.spec_text_truth.specs.TrueOutput.{HasNoFeed, IsNumber, IsWideNumber, IsTrueLine, OfFirst, OfFirstTwo}
use Rattle.spec_truth.proofs.Shown.{IsShown, IsShownBy, shown_holds, value_fits}
use Rattle.spec_truth.proofs.AnswerLines.{same_line, same_rest, read_back, first, apart}
use Rattle.spec_text_truth.proofs.PlainText.{tested_no_feed, both_no_feed, decimal_no_feed, either_no_feed, wide_no_feed}
use Rattle.spec_truth.proofs.ReplyLines.{looks_known, valued, infeasible, unbounded}

-- ---- lines without a line feed

pub tail_no_feed : (a b : List ℕ) → HasNoFeed (a ++ b) → HasNoFeed b
tail_no_feed [] b h = h
tail_no_feed (c ∷ a) b h = tail_no_feed a b (All-tail (λ b. b ≢ 10) c (a ++ b) h)

-- the last digits of a number have no line feed
digits_no_feed : (d n : ℕ) → HasNoFeed (last_digits d n)
digits_no_feed zero n = All-nil (λ b. b ≢ 10)
digits_no_feed (suc d) n =
    All-cons (λ b. b ≢ 10) (48 + n / 10 ^ d % 10) (last_digits d n) (λ e. omega (arith, e)) (digits_no_feed d n)

-- the text of a quotient of two whole numbers has no line feed
quotient_no_feed : (n den : ℕ) → HasNoFeed (quotient_text n den)
unfolding quotient_text
quotient_no_feed n den =
    both_no_feed (decimal n) (47 ∷ decimal den) (decimal_no_feed n)
    (both_no_feed (47 ∷ []) (decimal den) (tested_no_feed (47 ∷ []) refl) (decimal_no_feed den))

-- the text of a number with a decimal point has no line feed
pointed_no_feed : (d n : ℕ) → HasNoFeed (pointed d n)
unfolding pointed
pointed_no_feed d n =
    both_no_feed (decimal (n / 10 ^ d)) (46 ∷ last_digits d n) (decimal_no_feed (n / 10 ^ d))
    (both_no_feed (46 ∷ []) (last_digits d n) (tested_no_feed (46 ∷ []) refl) (digits_no_feed d n))

-- the text of a number with decimal places, or as a quotient, has no line feed
placed_no_feed : (n den : ℕ) (o : Option ℕ) → HasNoFeed (placed n den o)
unfolding placed
placed_no_feed n den None = quotient_no_feed n den
placed_no_feed n den (Some d) =
    either_no_feed (nat_le (n * (10 ^ d / den)) number_limit) (pointed d (n * (10 ^ d / den))) (quotient_text n den)
    (pointed_no_feed d (n * (10 ^ d / den))) (quotient_no_feed n den)

-- the text of a number without its sign has no line feed
size_no_feed : (n den : ℕ) → HasNoFeed (size_text n den)
unfolding size_text
size_no_feed n den =
    either_no_feed (nat_eq den 1) (decimal n) (placed n den (places den)) (decimal_no_feed n)
    (placed_no_feed n den (places den))

pub fraction_no_feed : (q : ℚ) → HasNoFeed (number_text q)
unfolding number_text
fraction_no_feed q =
    both_no_feed (cond (int_lt q.num (pos 0)) (45 ∷ []) []) (size_text (unsigned_abs q.num) q.den)
    (either_no_feed (int_lt q.num (pos 0)) (45 ∷ []) [] (tested_no_feed (45 ∷ []) refl) (All-nil (λ b. b ≢ 10)))
    (size_no_feed (unsigned_abs q.num) q.den)

-- the text of an operation has no line feed
op_no_feed : (op : Op) → HasNoFeed (op_text op)
op_no_feed Add = tested_no_feed (codes "ADD") refl
op_no_feed Sub = tested_no_feed (codes "SUB") refl
op_no_feed Mul = tested_no_feed (codes "MUL") refl
op_no_feed Div = tested_no_feed (codes "DIV") refl
op_no_feed Cmp = tested_no_feed (codes "CMP") refl

pub past_no_feed : (p : Past ℚ) → HasNoFeed (past_text p)
past_no_feed p =
    let blank : HasNoFeed (codes " ") = tested_no_feed (codes " ") refl in
    both_no_feed (codes "PAST " ++ op_text p.op ++ codes " " ++ number_text p.a ++ codes " ") (number_text p.b)
    (both_no_feed (codes "PAST " ++ op_text p.op ++ codes " " ++ number_text p.a) (codes " ")
    (both_no_feed (codes "PAST " ++ op_text p.op ++ codes " ") (number_text p.a)
    (both_no_feed (codes "PAST " ++ op_text p.op) (codes " ")
    (both_no_feed (codes "PAST ") (op_text p.op) (tested_no_feed (codes "PAST ") refl) (op_no_feed p.op)) blank)
    (fraction_no_feed p.a)) blank)
    (fraction_no_feed p.b)

pub known_no_feed : (what : Known ℚ) → HasNoFeed (known_text what)
known_no_feed (known.Optimal v) =
    both_no_feed (codes "OPTIMAL ") (number_text v) (tested_no_feed (codes "OPTIMAL ") refl) (fraction_no_feed v)
known_no_feed known.Infeasible = tested_no_feed (codes "INFEASIBLE") refl
known_no_feed known.Unbounded = tested_no_feed (codes "UNBOUNDED") refl

pub spent_no_feed : (budget : ℕ) → HasNoFeed (codes "SPENT " ++ decimal budget)
spent_no_feed budget =
    both_no_feed (codes "SPENT ") (decimal budget) (tested_no_feed (codes "SPENT ") refl) (decimal_no_feed budget)

pub answer_no_feed : (m : Model) (a : ExactReply) → IsShownBy m a → HasNoFeed (reply_text a)
unfolding reply_text
answer_no_feed m (reply.Known what) s = known_no_feed what
answer_no_feed m (reply.Past p) s = past_no_feed p
answer_no_feed m (reply.Spent budget) s = spent_no_feed budget
answer_no_feed m replied s = absurd s

pub wide_known_no_feed : (what : Known ℚ) → HasNoFeed (wide_known_text what)
wide_known_no_feed (known.Optimal v) =
    both_no_feed (codes "OPTIMAL ") _ (tested_no_feed (codes "OPTIMAL ") refl) (wide_no_feed v)
wide_known_no_feed known.Infeasible = tested_no_feed (codes "INFEASIBLE") refl
wide_known_no_feed known.Unbounded = tested_no_feed (codes "UNBOUNDED") refl

-- ---- the first line, and the first two

module _ (IsTrue : List ℕ → Type 0) where
  -- where an output begins with a line that is true, its first line is true
  pub first_true : (output line behind : List ℕ) → output ≡ line ++ 10 ∷ behind → HasNoFeed line → IsTrue line →
      OfFirst IsTrue output
  first_true output line behind is plain true_line other rest no_feed e =
      subst IsTrue (same_line line other behind rest plain no_feed (sym is ∙ e)) true_line

  -- where an output begins with a line that is true, and the first line behind that is true, its first two lines are
  -- true
  pub two_true : (output line behind : List ℕ) → output ≡ line ++ 10 ∷ behind → HasNoFeed line → IsTrue line →
      OfFirst IsTrue behind → OfFirstTwo IsTrue output
  two_true output line behind is plain true_line true_rest other rest no_feed e = (
    first_true output line behind is plain true_line other rest no_feed e,
    subst (OfFirst IsTrue) (same_rest line other behind rest plain no_feed (sym is ∙ e)) true_rest,
  )

  -- an empty output has no first line, so whatever is asked of its first line holds
  pub nothing_true : OfFirst IsTrue []
  nothing_true [] behind no_feed e = cc
  nothing_true (b ∷ line) behind no_feed e = cc

-- ---- what it says of a model

module _ (IsOf : Model → Type 0) where
  -- a line that does not look like a known answer is true of the model, whatever its texts are read as
  pub other_true : (IsText : List ℕ → ℚ → Type 0) (line : List ℕ) → looks_known line ≡ false →
      IsTrueLine IsOf IsText line
  other_true IsText line h = record {
    optimal = λ text e. absurd (not_both (ap looks_known e));
    infeasible = λ e. absurd (not_both (ap looks_known e));
    unbounded = λ e. absurd (not_both (ap looks_known e));
  }
    where
      not_both : looks_known line ≡ true → ⊥
      not_both e = let z : false ≡ true = sym h ∙ e in cc

  -- an output that begins with the letter E has a first line that is true of the model, as it is no known answer
  pub refused_true : (IsText : List ℕ → ℚ → Type 0) (output : List ℕ) → first output ≡ 69 →
      OfFirst (IsTrueLine IsOf IsText) output
  refused_true IsText output h [] behind no_feed e = other_true IsText [] refl
  refused_true IsText output h (b ∷ line) behind no_feed e =
      let letter : b ≡ 69 = sym (ap first e) ∙ h in
      other_true IsText (b ∷ line) (ap (λ d. looks_known (d ∷ line)) letter)

  module _ (m : Model) (is_of : IsOf m) where
    -- where a known answer is shown of a model, the line of its text is true of the model
    pub known_true : (what : Known ℚ) (line : List ℕ) → IsShown m what → known_text what ≡ line →
        IsTrueLine IsOf IsNumber line
    known_true what line s same = record {
      optimal = λ text e.
          let v = valued what text (same ∙ e) in
          let shown : IsShown m (known.Optimal v.0) = subst (IsShown m) v.1 s in
          (m, is_of, (v.0, ap number_of (sym v.2) ∙ read_back v.0 (value_fits m v.0 shown), shown_holds m (known.Optimal v.0) shown));
      infeasible = λ e. (m, is_of, shown_holds m known.Infeasible (subst (IsShown m) (infeasible what (same ∙ e)) s));
      unbounded = λ e. (m, is_of, shown_holds m known.Unbounded (subst (IsShown m) (unbounded what (same ∙ e)) s));
    }

    -- where an answer is shown by its reply, the line of the reply is true of the model
    pub answer_true : (a : ExactReply) → IsShownBy m a → IsTrueLine IsOf IsNumber (reply_text a)
    unfolding reply_text
    answer_true (reply.Known what) s = known_true what (known_text what) s refl
    answer_true (reply.Past p) s = other_true IsNumber (past_text p) refl
    answer_true (reply.Spent budget) s = other_true IsNumber (codes "SPENT " ++ decimal budget) refl
    answer_true replied s = absurd s

    -- where a known answer holds of a model, the line of its text in any width is true of the model
    pub wide_known_true : (what : Known ℚ) (line : List ℕ) → Holds m what → wide_known_text what ≡ line →
        IsTrueLine IsOf IsWideNumber line
    wide_known_true (known.Optimal v) line h same = record {
      optimal = λ text e. (m, is_of, (v, by text (same ∙ e), h));
      infeasible = λ e. absurd (apart 79 73 refl (ap first (same ∙ e)));
      unbounded = λ e. absurd (apart 79 85 refl (ap first (same ∙ e)));
    }
      where
        by : (text : List ℕ) → wide_known_text (known.Optimal v) ≡ codes "OPTIMAL " ++ text → IsWideNumber text v
        by text e = cc
    wide_known_true known.Infeasible line h same = record {
      optimal = λ text e. absurd (apart 73 79 refl (ap first (same ∙ e)));
      infeasible = λ e. (m, is_of, h);
      unbounded = λ e. absurd (apart 73 85 refl (ap first (same ∙ e)));
    }
    wide_known_true known.Unbounded line h same = record {
      optimal = λ text e. absurd (apart 85 79 refl (ap first (same ∙ e)));
      infeasible = λ e. absurd (apart 85 73 refl (ap first (same ∙ e)));
      unbounded = λ e. (m, is_of, h);
    }
