-- What the commands that read a text write of it is true of the model that it spells.
--
-- `said_true`: what a command may write after something was said of the bytes that were read is true of the input's
--   model.
-- `none_true`: an empty output is true of every model.
-- `no_seed_true`: an empty output has no first two lines, so what is asked of the output behind them holds.
use Rattle.std.proofs.Common.{◌≡◌, ◌≢◌, ℕ, false, nat_eq, List, [], ◌∷◌, ◌++◌, Option, Some, Ok, Err, ◌⊎◌, inl, inr}
use Rattle.std.proofs.Common.{refl, sym, ◌∙◌, ap, subst, append_assoc}
use Rattle.std.specs.Prelude.{All, codes, decimal}
use Rattle.std.specs.List.{remove}
use Rattle.std.proofs.lemmas.List.Elements.{All-nil, All-cons, All-head, All-tail}
use Rattle.spec_exact.specs.Fraction.{ℚ}
use Rattle.spec_model.specs.declared.parts.SizeLimits.{SizeLimits}
use Rattle.spec_model.specs.Model.{Model, Name}
use Rattle.spec_model.specs.Kept.{usual_limits, large_limits}
use Rattle.spec_model.specs.Truth.{IsOptimal, IsInfeasible, IsUnbounded}
use Rattle.spec_edit.proofs.ListLemmas.{All-remove}
use Rattle.spec_mps.specs.declared.fault.MpsFault.{MpsFault}
use Rattle.spec_mps.specs.declared.style.Style.{Style}
use Rattle.spec_mps.specs.Checks.{code_number}
use Rattle.spec_mps.specs.Steps.{Spells, SpellsWithin}
use Rattle.spec_check.specs.declared.certificate.Known.{Known}
use Rattle.spec_check.specs.declared.certificate.Known.TheVariants as known
use Rattle.spec_check.specs.Certificate.{Holds}
use Rattle.spec_certificate.specs.Text.{Reading}
use Rattle.spec_certificate.specs.NarrowText.{narrow}
use Rattle.spec_certificate.specs.WideText.{wide as wide_numbers}
use Rattle.spec_iis.specs.Sides.{IsSide}
use Rattle.spec_iis.proofs.Points.{points_meet, meeting_points}
use Rattle.spec_presolve.specs.declared.presolved.Why.TheVariants as why
use Rattle.spec_presolve.specs.declared.presolved.Way.{Way}
use Rattle.spec_presolve.specs.declared.presolved.Way.TheVariants.{Reduced, Plain}
use Rattle.spec_program.specs.declared.command_line.Moved.{Moved}
use Rattle.spec_program.specs.declared.command_line.TextCommand.TheVariants.{Solve, SolveWide, Check, CheckWide, Basis, BasisWide}
use Rattle.spec_program.specs.declared.command_line.TextCommand.TheVariants.{Presolve, Iis, Range, RangeAll}
use Rattle.spec_program.specs.CommandLine.{ExactTextCommand}
use Rattle.spec_program.specs.TextLimits.{limits_of}
use Rattle.spec_commands.specs.IisOut.{IisOut}
use Rattle.spec_commands.specs.PresolveOut.{way_line, PresolveOut}
use Rattle.spec_commands.specs.RangeOut.{RangeOut}
use Rattle.spec_commands.specs.RangesOut.{RangesOut}
use Rattle.spec_commands.specs.TextOut.{SaidBy, said_of, MayWrite}
use Rattle.spec_server.specs.declared.asks.Refusal.TheVariants as refusal
use Rattle.spec_server.specs.declared.asks.Reply.TheVariants as reply
use Rattle.spec_server.specs.Machine.{ExactReply}
use Rattle.spec_server.specs.Output.{check_line, reply_text, known_text, past_text, fault_text}
use Rattle.spec_commands.specs.InputSaid.{IsSaid}
use Rattle.spec_commands.specs.CheckOut.{said}
use Rattle.spec_commands.specs.CheckWideOut.{wide_said, wide_reply_text, wide_check_line}
use Rattle.spec_server.specs.TextSaid.{TextSaid, text_said, text_said_within}
use Rattle.spec_commands.specs.SolveOut.{SolveOut}
use Rattle.spec_server.specs.WideLines.{wide_known_text}
use Rattle.spec_commands.specs.SolveWideOut.{SolveWideOut}
use Rattle.spec_commands.specs.BasisOut.{BasisSaid, basis_said, BasisOut}
use Rattle.spec_commands.specs.BasisWideOut.{BasisWideOut}
use Rattle.spec_text_truth.specs.Certified.{IsCertifiedBy}
use Rattle.spec_text_truth.specs.SaidRange.{SaysRange}
use Rattle.spec_text_truth.specs.SaidSides.{SaysSides}
use Rattle.spec_text_truth.specs.TrueOutput.{HasNoFeed, IsNumber, IsWideNumber, IsTrueLine, BehindYes, OfFirst, OfFirstTwo}
use Rattle.spec_text_truth.specs.TrueOutput.{IsTrueRange, SaysTrueRange, SaysTrueRanges, AreTrueSides, SaysTrueSides, IsTrueOfText, IsModelOf}
use Rattle.spec_truth.proofs.Shown.{IsShown}
use Rattle.spec_text_truth.proofs.TextLemmas.{said_spelled}
use Rattle.spec_truth.proofs.AnswerLines.{same_line, first, apart}
use Rattle.spec_text_truth.proofs.PlainText.{tested_no_feed, both_no_feed, decimal_no_feed}
use Rattle.spec_text_truth.proofs.ReadLines.{Lines, spells_more, said_of_read}
use Rattle.spec_text_truth.proofs.TrueLines.{tail_no_feed, past_no_feed, known_no_feed, wide_known_no_feed, answer_no_feed}
use Rattle.spec_text_truth.proofs.TrueLines.{first_true, two_true, nothing_true, other_true, refused_true, known_true, answer_true}
use Rattle.spec_text_truth.proofs.TrueLines.{wide_known_true}
use Rattle.spec_truth.proofs.ReplyLines.{looks_known, yes_to, yes_reply, yes_text_is, behind_yes}
use Rattle.spec_text_truth.proofs.SolvedTexts as solved
use Rattle.spec_text_truth.proofs.WideTexts as wide
use Rattle.spec_text_truth.proofs.BasisTexts as basis
use Rattle.spec_text_truth.proofs.WideBasisTexts as wide_basis
use Rattle.spec_text_truth.proofs.CertifiedTexts.{certified, wide_yes_is}
use Rattle.spec_text_truth.proofs.WideLines.{valued_or_same}
use Rattle.spec_text_truth.proofs.PresolvedTexts.{out_answered}
use Rattle.spec_text_truth.proofs.SidesTexts.{iis_optimal, iis_infeasible, iis_unbounded, iis_sides}
use Rattle.spec_text_truth.proofs.RangesTexts.{ranges_optimal, ranges_infeasible, ranges_unbounded, ranges_range}
use Rattle.spec_text_truth.proofs.RangedTexts.{ranged_optimal, ranged_infeasible, ranged_unbounded, ranged_range}

-- the line of a fault begins with the letter E
misspelled_first : (fault : MpsFault) → first (check_line (reply.Refused (refusal.Misspelled fault))) ≡ 69
unfolding check_line reply_text
misspelled_first fault = refl

-- the line of a fault in a text does not begin as one of a known answer
misspelled_other : (fault : MpsFault) → looks_known (reply_text (reply.Refused (refusal.Misspelled fault))) ≡ false
unfolding reply_text
misspelled_other fault = refl

-- the line of a fault in a text has no line feed
misspelled_no_feed : (fault : MpsFault) → HasNoFeed (reply_text (reply.Refused (refusal.Misspelled fault)))
unfolding reply_text fault_text
misspelled_no_feed fault =
    let line : List ℕ = codes "MPS " ++ decimal fault.line in
    let code : ℕ = code_number fault.code in
    both_no_feed (codes "ERR ") (codes "8 " ++ (line ++ codes " M" ++ decimal code)) (tested_no_feed (codes "ERR ") refl)
    (both_no_feed (codes "8 ") (line ++ codes " M" ++ decimal code) (tested_no_feed (codes "8 ") refl)
    (both_no_feed (line ++ codes " M") (decimal code)
    (both_no_feed line (codes " M")
    (both_no_feed (codes "MPS ") (decimal fault.line) (tested_no_feed (codes "MPS ") refl) (decimal_no_feed fault.line))
    (tested_no_feed (codes " M") refl))
    (decimal_no_feed code)))

-- ---- the lines behind the words YES

-- where a text and a line feed begin with a byte that is no line feed, the text begins with this byte
begins : (a x : List ℕ) (letter : ℕ) → (10 ≡ letter → ⊥) → a ++ 10 ∷ [] ≡ letter ∷ x → first a ≡ letter
begins [] x letter other e = absurd (other (ap first e))
begins (b ∷ a) x letter other e = ap first e

-- lines that spell a model and then a certificate spell this model
certified_spells : (read : Reading ℚ) (limits : SizeLimits) (style : Style) (lines : Lines) (IsSo : Model → Type 0)
    (c : IsCertifiedBy read limits style lines IsSo) → SpellsWithin limits style lines c.model
certified_spells read limits style lines IsSo c =
    subst (λ (ls : Lines). SpellsWithin limits style ls c.model) (append_assoc c.front (c.last ∷ []) c.behind
    ∙ sym c.cut)
    (spells_more limits style (c.front ++ c.last ∷ []) c.behind c.model c.spelled)

-- a reply with a text that begins with Y is a yes to a certificate
yes_is : (is : ExactReply) (rest : List ℕ) → first (reply_text is) ≡ 89 → (what : Known ℚ) × (is ≡ yes_to what)
yes_is is rest h = yes_reply is (ap (λ b. nat_eq b 89) h)

-- the wide text of a yes is the word YES and the wide text of what is known
wide_yes_text : (what : Known ℚ) → wide_reply_text (yes_to what) ≡ codes "YES " ++ wide_known_text what
unfolding reply_text
wide_yes_text (known.Optimal v) = refl
wide_yes_text known.Infeasible = refl
wide_yes_text known.Unbounded = refl

-- a reply with a wide text that begins with Y is a yes to a certificate
wide_yes_reply : (is : ExactReply) → first (wide_reply_text is) ≡ 89 → (what : Known ℚ) × (is ≡ yes_to what)
wide_yes_reply is h = by (valued_or_same is)
  where
    by : ((v : ℚ) × (is ≡ yes_to (known.Optimal v))) ⊎ (wide_reply_text is ≡ reply_text is) →
        (what : Known ℚ) × (is ≡ yes_to what)
    by (inl (v, e)) = (known.Optimal v, e)
    by (inr same) = yes_is is [] (sym (ap first same) ∙ h)

-- ---- ranges, and sides that contradict each other

-- what holds of all bytes of two lists, one behind the other, holds of all bytes of each
both_parts : (P : ℕ → Type 0) (a b : List ℕ) → All P (a ++ b) → All P a × All P b
both_parts P [] b h = (All-nil P, h)
both_parts P (x ∷ a) b h =
    let rest = both_parts P a b (All-tail P x (a ++ b) h) in
    (All-cons P x a (All-head P x (a ++ b) h) rest.0, rest.1)

-- what the texts of a range say by a basis that keeps the model is true of the model
range_true : (moved : Moved) (name : Name) (m : Model) (value low high slope : List ℕ) →
    SaysRange moved name m value low high slope → IsTrueRange moved name m value low high slope
range_true moved name m value low high slope s = record {
  at = s.at;
  named = s.named;
  optimum = s.optimum;
  says_value = s.says_value;
  ends = record { lower = s.range.ends.low; upper = s.range.ends.high };
  says_low = s.says_low;
  says_high = s.says_high;
  growth = s.range.slope;
  says_slope = s.says_slope;
  optimal = λ t inside. s.is_range.value t (record { lower = inside.lower; upper = inside.upper });
}

-- what lines say of an irreducible set of sides is true of the model
sides_true : (m : Model) (count behind : List ℕ) → SaysSides m count behind → AreTrueSides m count behind
sides_true m count behind s = record {
  sides = s.sides;
  counted = s.counted;
  listed = (s.more, sym s.listed);
  present = s.irreducible.present;
  contrary = λ z met. s.irreducible.infeasible z (meeting_points m s.sides s.irreducible.present z met);
  needed = λ k l.
      let z = s.irreducible.needed k l in
      (z.0, points_meet m (remove s.sides k) (All-remove (IsSide m) s.sides k s.irreducible.present) z.0 z.1);
}

-- ---- by the command

module _ (IsOf : Model → Type 0) (written : List ℕ) where
  -- by what follows of each first line
  module _ (IsText : List ℕ → ℚ → Type 0) (m : Model) (is_of : IsOf m)
      (optimal : (text behind : List ℕ) → HasNoFeed text → written ≡ codes "OPTIMAL " ++ text ++ 10 ∷ behind →
      (v : ℚ) × IsText text v × IsOptimal m v)
      (infeasible : (behind : List ℕ) → written ≡ codes "INFEASIBLE" ++ 10 ∷ behind → IsInfeasible m)
      (unbounded : (behind : List ℕ) → written ≡ codes "UNBOUNDED" ++ 10 ∷ behind → IsUnbounded m) where
    -- where each line that the written bytes may begin with is true of the model, their first line is true
    begins_true : OfFirst (IsTrueLine IsOf IsText) written
    begins_true line behind no_feed e = record {
      optimal = λ text is. (
        m,
        is_of,
        optimal text behind (tail_no_feed (codes "OPTIMAL ") text (subst HasNoFeed is no_feed))
            (e ∙ ap (λ (l : List ℕ). l ++ 10 ∷ behind) is),
      );
      infeasible = λ is. (m, is_of, infeasible behind (e ∙ ap (λ (l : List ℕ). l ++ 10 ∷ behind) is));
      unbounded = λ is. (m, is_of, unbounded behind (e ∙ ap (λ (l : List ℕ). l ++ 10 ∷ behind) is));
    }

  -- where what was written is the line of a fault of the text, its first line is true
  misspelled_true : (IsText : List ℕ → ℚ → Type 0) (fault : MpsFault) →
      written ≡ check_line (reply.Refused (refusal.Misspelled fault)) → OfFirst (IsTrueLine IsOf IsText) written
  misspelled_true IsText fault e = refused_true IsOf IsText written (ap first e ∙ misspelled_first fault)

module _ (style : Style) (lines : Lines) (IsOf : Model → Type 0) (is_of : (m : Model) → Spells style lines m → IsOf m)
    (written : List ℕ) where
  -- what `solve` writes has a first line that is true of the model that the lines spell
  solve_true : (what : TextSaid) → text_said style lines ≡ Some what → SolveOut what written →
      OfFirst (IsTrueLine IsOf IsNumber) written
  solve_true (Ok m) is out =
      let spells = said_spelled usual_limits style lines m is in
      begins_true IsOf written IsNumber m (is_of m spells) (solved.optimal_begins style lines m (Ok m) written is out spells)
      (solved.infeasible_begins style lines m (Ok m) written is out spells)
      (solved.unbounded_begins style lines m (Ok m) written is out spells)
  solve_true (Err fault) is out = misspelled_true IsOf written IsNumber fault out

  -- what `basis` writes has a first line that is true of the model that the lines spell
  basis_true : (what : BasisSaid) → basis_said usual_limits style lines ≡ Some what → BasisOut what written →
      OfFirst (IsTrueLine IsOf IsNumber) written
  basis_true what is out line behind no_feed e = record {
    optimal = λ text same.
        let o = basis.optimal_begins style lines what written is out text behind
        (tail_no_feed (codes "OPTIMAL ") text (subst HasNoFeed same no_feed)) (e ∙ ap (λ (l : List ℕ). l ++ 10 ∷ behind) same) in
        (o.2.0, is_of o.2.0 o.2.1, (o.0, o.1, o.2.2));
    infeasible = λ same.
        let o = basis.infeasible_begins style lines what written is out behind (e ∙ ap (λ (l : List ℕ). l ++ 10 ∷ behind) same) in
        (o.0, is_of o.0 o.1, o.2);
    unbounded = λ same.
        let o = basis.unbounded_begins style lines what written is out behind (e ∙ ap (λ (l : List ℕ). l ++ 10 ∷ behind) same) in
        (o.0, is_of o.0 o.1, o.2);
  }

  -- ---- certificates

  -- where `check` says yes, the text of the yes is true of the model that the lines spell
  yes_true : (what : Known ℚ) → said style lines ≡ Some (yes_to what) → (rest : List ℕ) → known_text what ≡ rest →
      IsTrueLine IsOf IsNumber rest
  yes_true what is rest same =
      let c = certified style lines what (λ m. IsShown m what) (λ m s. s) is in
      known_true IsOf c.model (is_of c.model (certified_spells narrow usual_limits style lines (λ m. IsShown m what) c))
      what rest c.is_so same

  -- where `check` writes a yes, what stands behind the word is true of the model that the lines spell
  check_true : (what : ExactReply) → said style lines ≡ Some what → written ≡ check_line what →
      OfFirst (BehindYes (IsTrueLine IsOf IsNumber)) written
  unfolding check_line
  check_true what is out line behind no_feed e rest said_yes =
      let all : reply_text what ++ 10 ∷ [] ≡ (codes "YES " ++ rest) ++ 10 ∷ behind =
      sym out ∙ e ∙ ap (λ (l : List ℕ). l ++ 10 ∷ behind) said_yes in
      let k = yes_is what rest (begins (reply_text what) _ 89 (apart 10 89 refl) all) in
      let text = yes_text_is what k.0 k.1 in
      let plain = both_no_feed (codes "YES ") (known_text k.0) (tested_no_feed (codes "YES ") refl) (known_no_feed k.0) in
      let same =
      same_line (codes "YES " ++ known_text k.0) (codes "YES " ++ rest) [] behind plain (subst HasNoFeed said_yes no_feed)
      (sym (ap (λ (l : List ℕ). l ++ 10 ∷ []) text) ∙ all) in
      yes_true k.0 (is ∙ ap Some k.1) rest (behind_yes (known_text k.0) rest same)

  -- ---- a model made smaller first

  record IsOneLine (bytes : List ℕ) : Type 0 where
    line : List ℕ
    plain : HasNoFeed line
    other : looks_known line ≡ false
    is_line : bytes ≡ line ++ 10 ∷ []

  way_is_line : (way : Way ℚ) → IsOneLine (way_line way)
  unfolding check_line reply_text
  way_is_line (Reduced rows columns) = record {
    line = codes "REDUCED " ++ decimal rows ++ codes " " ++ decimal columns;
    plain =
        both_no_feed (codes "REDUCED " ++ decimal rows ++ codes " ") (decimal columns)
        (both_no_feed (codes "REDUCED " ++ decimal rows) (codes " ")
        (both_no_feed (codes "REDUCED ") (decimal rows) (tested_no_feed (codes "REDUCED ") refl) (decimal_no_feed rows))
        (tested_no_feed (codes " ") refl))
        (decimal_no_feed columns);
    other = refl;
    is_line = refl;
  }
  way_is_line (Plain (why.Past p)) = record {
    line = codes "PLAIN " ++ past_text p;
    plain = both_no_feed (codes "PLAIN ") (past_text p) (tested_no_feed (codes "PLAIN ") refl) (past_no_feed p);
    other = refl;
    is_line = sym (append_assoc (codes "PLAIN ") (past_text p) (10 ∷ []));
  }
  way_is_line (Plain why.Spent) =
      record { line = codes "PLAIN SPENT"; plain = tested_no_feed (codes "PLAIN SPENT") refl; other = refl; is_line = refl }

  -- what `presolve` writes has first two lines that are true of the model that the lines spell
  presolve_true : (what : TextSaid) → text_said style lines ≡ Some what → PresolveOut what written →
      OfFirstTwo (IsTrueLine IsOf IsNumber) written
  unfolding check_line
  presolve_true (Ok m) is out =
      let r = out_answered m written out in
      let w = way_is_line r.way in
      let rest : List ℕ = reply_text r.answer ++ 10 ∷ r.behind in
      two_true (IsTrueLine IsOf IsNumber) written w.line rest
      (r.lines ∙ ap (λ (front : List ℕ). front ++ rest) w.is_line ∙ append_assoc w.line (10 ∷ []) rest) w.plain
      (other_true IsOf IsNumber w.line w.other)
      (first_true (IsTrueLine IsOf IsNumber) rest (reply_text r.answer) r.behind refl (answer_no_feed m r.answer r.shown)
      (answer_true IsOf m (is_of m (said_spelled usual_limits style lines m is)) r.answer r.shown))
  presolve_true (Err fault) is out =
      two_true (IsTrueLine IsOf IsNumber) written (reply_text (reply.Refused (refusal.Misspelled fault))) []
      out (misspelled_no_feed fault)
      (other_true IsOf IsNumber (reply_text (reply.Refused (refusal.Misspelled fault))) (misspelled_other fault))
      (nothing_true (IsTrueLine IsOf IsNumber))

  -- ---- sides and ranges

  -- what `iis` writes has a first line, and sides, that are true of the model that the lines spell
  iis_true : (what : TextSaid) → text_said style lines ≡ Some what → IisOut what written →
      OfFirst (IsTrueLine IsOf IsNumber) written × SaysTrueSides IsOf written
  iis_true (Ok m) is out =
      let spells = said_spelled usual_limits style lines m is in (
        begins_true IsOf written IsNumber m (is_of m spells) (iis_optimal style lines m (Ok m) written is out spells)
            (iis_infeasible style lines m (Ok m) written is out spells)
            (iis_unbounded style lines m (Ok m) written is out spells),
        λ count behind no_feed e.
            (m, is_of m spells, sides_true m count behind (iis_sides style lines m (Ok m) written is out spells count behind no_feed e)),
      )
  iis_true (Err fault) is out = (
    misspelled_true IsOf written IsNumber fault out,
    λ count behind no_feed e. absurd (apart 69 73 refl (sym (ap first out ∙ misspelled_first fault) ∙ ap first e)),
  )

  -- what `range` writes has a first line, and a range, that are true of the model that the lines spell
  ranged_true : (moved : Moved) (name : Name) (what : TextSaid) → text_said style lines ≡ Some what →
      RangeOut moved name what written →
      OfFirst (IsTrueLine IsOf IsNumber) written × SaysTrueRange moved name [] IsOf written
  ranged_true moved name (Ok m) is out =
      let spells = said_spelled usual_limits style lines m is in (
        begins_true IsOf written IsNumber m (is_of m spells) (ranged_optimal style lines m moved name (Ok m) written is out spells)
            (ranged_infeasible style lines m moved name (Ok m) written is out spells)
            (ranged_unbounded style lines m moved name (Ok m) written is out spells),
        λ value low high slope behind no_feed in_ends in_slope e.
            let ends = both_parts (λ b. b ≢ 32) low high in_ends in (
              m,
              is_of m spells,
              range_true moved name m value low high slope
                  (ranged_range style lines m moved name (Ok m) written is out spells value low high slope behind no_feed ends.0 ends.1
                  in_slope e),
            ),
      )
  ranged_true moved name (Err fault) is out = (
    misspelled_true IsOf written IsNumber fault out,
    λ value low high slope behind no_feed in_ends in_slope e.
        absurd (apart 69 79 refl (sym (ap first out ∙ misspelled_first fault) ∙ ap first e)),
  )

  -- what `range all` writes has a first line, and ranges, that are true of the model that the lines spell
  ranges_true : (what : TextSaid) → text_said style lines ≡ Some what → RangesOut what written →
      OfFirst (IsTrueLine IsOf IsNumber) written × SaysTrueRanges IsOf written
  ranges_true (Ok m) is out =
      let spells = said_spelled usual_limits style lines m is in (
        begins_true IsOf written IsNumber m (is_of m spells) (ranges_optimal style lines m (Ok m) written is out spells)
            (ranges_infeasible style lines m (Ok m) written is out spells)
            (ranges_unbounded style lines m (Ok m) written is out spells),
        λ moved name before in_name value low high slope behind no_feed in_ends in_slope e.
            let ends = both_parts (λ b. b ≢ 32) low high in_ends in (
              m,
              is_of m spells,
              range_true moved name m value low high slope
                  (ranges_range style lines m (Ok m) written is out spells moved value name low high slope behind before no_feed
                  in_name ends.0 ends.1 in_slope e),
            ),
      )
  ranges_true (Err fault) is out = (
    misspelled_true IsOf written IsNumber fault out,
    λ moved name before in_name value low high slope behind no_feed in_ends in_slope e.
        absurd (apart 69 79 refl (sym (ap first out ∙ misspelled_first fault) ∙ ap first e)),
  )

-- large models, and numbers of any width
module _ (style : Style) (lines : Lines) (IsOf : Model → Type 0)
    (is_of : (m : Model) → SpellsWithin large_limits style lines m → IsOf m) (written : List ℕ) where
  -- what `solve --wide` writes after something was said of the lines has a first line that is true of the model, with
  -- numbers of any width
  solve_wide_true : (what : TextSaid) → text_said_within large_limits style lines ≡ Some what → SolveWideOut what written →
      OfFirst (IsTrueLine IsOf IsWideNumber) written
  solve_wide_true (Ok m) is out =
      let spells = said_spelled large_limits style lines m is in
      begins_true IsOf written IsWideNumber m (is_of m spells)
      (λ text behind no_feed e. let o = wide.optimal_begins style lines m (Ok m) written is out spells text behind no_feed e in (o.0, o.1, o.3))
      (wide.infeasible_begins style lines m (Ok m) written is out spells)
      (wide.unbounded_begins style lines m (Ok m) written is out spells)
  solve_wide_true (Err fault) is out = misspelled_true IsOf written IsWideNumber fault out

  -- what `basis --wide` writes has a first line that is true of the model that the lines spell, with numbers of any
  -- width
  basis_wide_true : (what : BasisSaid) → basis_said large_limits style lines ≡ Some what → BasisWideOut what written →
      OfFirst (IsTrueLine IsOf IsWideNumber) written
  basis_wide_true what is out line behind no_feed e = record {
    optimal = λ text same.
        let o = wide_basis.optimal_begins style lines what written is out text behind
        (tail_no_feed (codes "OPTIMAL ") text (subst HasNoFeed same no_feed)) (e ∙ ap (λ (l : List ℕ). l ++ 10 ∷ behind) same) in
        (o.3.0, is_of o.3.0 o.3.1, (o.0, o.1, o.3.2));
    infeasible = λ same.
        let o = wide_basis.infeasible_begins style lines what written is out behind
        (e ∙ ap (λ (l : List ℕ). l ++ 10 ∷ behind) same) in
        (o.0, is_of o.0 o.1, o.2);
    unbounded = λ same.
        let o = wide_basis.unbounded_begins style lines what written is out behind
        (e ∙ ap (λ (l : List ℕ). l ++ 10 ∷ behind) same) in
        (o.0, is_of o.0 o.1, o.2);
  }

  -- where `check --wide` says yes, the wide text of the yes is true of the model that the lines spell
  wide_yes_true : (what : Known ℚ) → wide_said style lines ≡ Some (yes_to what) → (rest : List ℕ) →
      wide_known_text what ≡ rest → IsTrueLine IsOf IsWideNumber rest
  wide_yes_true what is rest same =
      let c = wide_yes_is style lines what is in
      wide_known_true IsOf c.model (is_of c.model (certified_spells wide_numbers large_limits style lines
      (λ m. Holds m what) c)) what rest c.is_so same

  -- where `check --wide` writes a yes, what stands behind the word is true of the model that the lines spell
  wide_check_true : (what : ExactReply) → wide_said style lines ≡ Some what → written ≡ wide_check_line what →
      OfFirst (BehindYes (IsTrueLine IsOf IsWideNumber)) written
  unfolding wide_check_line
  wide_check_true what is out line behind no_feed e rest said_yes =
      let all : wide_reply_text what ++ 10 ∷ [] ≡ (codes "YES " ++ rest) ++ 10 ∷ behind =
      sym out ∙ e ∙ ap (λ (l : List ℕ). l ++ 10 ∷ behind) said_yes in
      let k = wide_yes_reply what (begins (wide_reply_text what) _ 89 (apart 10 89 refl) all) in
      let text : wide_reply_text what ≡ codes "YES " ++ wide_known_text k.0 = ap wide_reply_text k.1 ∙ wide_yes_text
      k.0 in
      let plain =
      both_no_feed (codes "YES ") (wide_known_text k.0) (tested_no_feed (codes "YES ") refl) (wide_known_no_feed k.0) in
      let same =
      same_line (codes "YES " ++ wide_known_text k.0) (codes "YES " ++ rest) [] behind plain (subst HasNoFeed said_yes
      no_feed)
      (sym (ap (λ (l : List ℕ). l ++ 10 ∷ []) text) ∙ all) in
      wide_yes_true k.0 (is ∙ ap Some k.1) rest (behind_yes (wide_known_text k.0) rest same)

-- ---- all of them

-- what a command may write after something was said of its lines is true of the model that they spell
text_true : (command : ExactTextCommand) (style : Style) (lines : Lines) (IsOf : Model → Type 0) →
    ((m : Model) → SpellsWithin (limits_of command) style lines m → IsOf m) → (written : List ℕ)
    (what : SaidBy command) → said_of command style lines ≡ Some what → MayWrite command what written →
    IsTrueOfText command IsOf written
text_true Solve style lines IsOf is_of written what is out = solve_true style lines IsOf is_of written what is out
text_true SolveWide style lines IsOf is_of written what is out = solve_wide_true style lines IsOf is_of written what is
    out
text_true Check style lines IsOf is_of written what is out = check_true style lines IsOf is_of written what is out
text_true CheckWide style lines IsOf is_of written what is out = wide_check_true style lines IsOf is_of written what is
    out
text_true Basis style lines IsOf is_of written what is out = basis_true style lines IsOf is_of written what is out
text_true BasisWide style lines IsOf is_of written what is out = basis_wide_true style lines IsOf is_of written what is
    out
text_true Presolve style lines IsOf is_of written what is out = presolve_true style lines IsOf is_of written what is out
text_true Iis style lines IsOf is_of written what is out = iis_true style lines IsOf is_of written what is out
text_true (Range moved name) style lines IsOf is_of written what is out =
    ranged_true style lines IsOf is_of written moved name what is out
text_true RangeAll style lines IsOf is_of written what is out = ranges_true style lines IsOf is_of written what is out

-- what was said of the bytes that were read
pub said_true : (command : ExactTextCommand) (style : Style) (after : Option (List ℕ)) (read written : List ℕ)
    (what : SaidBy command) → IsSaid (said_of command style) after read what → MayWrite command what written →
    IsTrueOfText command (IsModelOf command style after read) written
said_true command style after read written what is out =
    let s = said_of_read (said_of command style) command style after read what is in
    text_true command style s.lines (IsModelOf command style after read) s.spells written what s.says out

-- ---- where nothing is written

-- a text that begins with a byte is not empty
no_byte : (b : ℕ) (bytes : List ℕ) → ◌≡◌ {A = List ℕ} [] (b ∷ bytes) → ⊥
no_byte b bytes e = cc

-- an empty text does not begin with a line
no_line : (line behind : List ℕ) → [] ≡ line ++ 10 ∷ behind → ⊥
no_line [] behind e = no_byte 10 behind e
no_line (b ∷ line) behind e = no_byte b (line ++ 10 ∷ behind) e

pub none_true : (command : ExactTextCommand) (IsOf : Model → Type 0) → IsTrueOfText command IsOf []
none_true Solve IsOf = nothing_true (IsTrueLine IsOf IsNumber)
none_true SolveWide IsOf = nothing_true (IsTrueLine IsOf IsWideNumber)
none_true Check IsOf = nothing_true (BehindYes (IsTrueLine IsOf IsNumber))
none_true CheckWide IsOf = nothing_true (BehindYes (IsTrueLine IsOf IsWideNumber))
none_true Basis IsOf = nothing_true (IsTrueLine IsOf IsNumber)
none_true BasisWide IsOf = nothing_true (IsTrueLine IsOf IsWideNumber)
none_true Presolve IsOf = λ line behind plain e. absurd (no_line line behind e)
none_true Iis IsOf =
    (nothing_true (IsTrueLine IsOf IsNumber), λ count behind plain e. absurd (no_byte 73 _ e))
none_true (Range moved name) IsOf =
    (nothing_true (IsTrueLine IsOf IsNumber), λ value low high slope behind a b c e. absurd (no_byte 79 _ e))
none_true RangeAll IsOf = (
  nothing_true (IsTrueLine IsOf IsNumber),
  λ moved name before a value low high slope behind b c d e. absurd (no_byte 79 _ e),
)

pub no_seed_true : (IsTrue : List ℕ → Type 0) → OfFirstTwo IsTrue []
no_seed_true IsTrue = λ line behind plain e. absurd (no_line line behind e)
