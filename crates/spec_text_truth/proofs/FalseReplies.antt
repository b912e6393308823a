-- An answer that was true before an edit is refuted behind a certificate whose lines are counted.
--
-- `told_is`: what was told for a request, with a line, is this request and this line, with the lines behind it.
-- `before_refuted`: an output is not true in which the answer before an edit is repeated after it.
use Rattle.std.proofs.Common.{◌≡◌, ℕ, ℤ, pos, negsuc, List, [], ◌∷◌, ◌++◌, length, map, Option, Some, refl, sym, ap, ap₂}
use Rattle.std.proofs.Common.{◌∙◌, subst, inl, inr, append_assoc, append-nil}
use Rattle.std.specs.Prelude.{All, codes}
use Rattle.spec_text.specs.Lines.{lines_of}
use Rattle.spec_exact.specs.Fraction.{ℚ, whole, over, neg_ℚ, ◌+ℚ◌}
use Rattle.spec_exact.specs.Gcd.{gcd}
use Rattle.spec_model.specs.Model.{Model, value_of}
use Rattle.spec_model.specs.Truth.{IsOptimal}
use Rattle.spec_edit.specs.declared.edit.Edit.TheVariants as edit
use Rattle.spec_edit.specs.Edited.{edited, with_right_side}
use Rattle.spec_mps.specs.NumberText.{Is, number_of, parts_of, number_by, unsigned_parts, mantissa_of, decimal_of}
use Rattle.spec_mps.specs.NumberText.{exponent_of, scaled, value_of as value_of_parts, is_narrow}
use Rattle.spec_server.specs.declared.addressing.Addressing.TheVariants.{Alone}
use Rattle.spec_server.specs.Output.{ended_lines}
use Rattle.spec_server.specs.Script.{Between}
use Rattle.spec_serve.specs.Link.{AreFirstOf, HoldsOfAll}
use Rattle.spec_text_truth.specs.FalseOutputs.{asked_twice, answered_as_before}
use Rattle.spec_text_truth.specs.TrueOutput.{HasNoFeed, Effect, Asking, Told}
use Rattle.spec_text_truth.specs.TrueOutput.{asked_from, asked_of, told_out, model_told, IsTrueReply, AreTrueReplies}
use Rattle.spec_text_truth.proofs.PlainText.{tested_no_feed}
use Rattle.spec_text_truth.proofs.ReadTold.{first_told, alone_told, four_behind, behind_lines}
use Rattle.spec_text_truth.proofs.AskedEffects.{loads, edits, keeps}
use Rattle.spec_text_truth.proofs.ComputedExamples.{model_with, asked_effects, asked_is}

-- ---- the value 6 is not 5

-- where the text `5` reads as a number, the number is 5
five_is : (v : ℚ) → number_of (codes "5") ≡ Is v → whole (pos 5) ≡ v
unfolding number_of parts_of unsigned_parts mantissa_of decimal_of exponent_of number_by scaled value_of_parts is_narrow over whole
five_is v e = cc

-- 5 is not the optimal value of the example's model with the right side -6 of its objective
not_five : (v : ℚ) → whole (pos 5) ≡ v → IsOptimal (model_with (negsuc 5)) v → ⊥
unfolding ◌+ℚ◌ over whole neg_ℚ gcd
not_five v five h =
    let six : value_of (model_with (negsuc 5)) h.point.0 ≡ whole (pos 5) = h.point.2 ∙ sym five in
    by (ap (λ (q : ℚ). q.num) six)
  where
    by : ◌≡◌ {A = ℤ} (pos 6) (pos 5) → ⊥
    by e = cc

-- ---- what was told, by what was asked and by its lines

abbrev pub of_asked : Effect → List ℕ → List (List ℕ) → Told
of_asked effect line behind = record { asked = record { session = 0; effect = effect }; line = line; behind = behind }

pub told_is : (x : Told) (effect : Effect) (line : List ℕ) → x.asked ≡ record { session = 0; effect = effect } → x.line ≡ line →
    x ≡ of_asked effect line x.behind
told_is x effect line asked is =
    ap₂ (λ (asked : Asking) (line : List ℕ). record { asked = asked; line = line; behind = x.behind }) asked is

abbrev askings : List Asking
askings = asked_of 0 asked_effects

-- what is told first of the bytes of the example is told of the example's own requests
asked_first : (after : Option (List ℕ)) (told : List Told) →
    HoldsOfAll after asked_twice (λ bytes. AreFirstOf (map (λ (x : Told). x.asked) told) (asked_from Alone Between (lines_of bytes))) →
    AreFirstOf (map (λ (x : Told). x.asked) told) askings
asked_first after told h = by (first h)
  where
    First : List ℕ → Type 0
    First bytes = AreFirstOf (map (λ (x : Told). x.asked) told) (asked_from Alone Between (lines_of bytes))

    first : HoldsOfAll after asked_twice First → First asked_twice
    first (inl (at_end, e)) = e
    first (inr always) = subst First (append-nil asked_twice) (always [])

    by : First asked_twice → AreFirstOf (map (λ (x : Told). x.asked) told) askings
    by (later, e) = (later, sym asked_is ∙ e)

-- the model that was told then
module _ (loaded solved certified changed again : Told) (more : List Told)
    (asks : AreFirstOf (map (λ (x : Told). x.asked) (loaded ∷ solved ∷ certified ∷ changed ∷ again ∷ more)) askings)
    (ok : changed.line ≡ codes "OK") where
  -- the model that is told of the session at the last reply is the example's, with -6 as the right side of its
  -- objective
  model_is : model_told again.asked.session (loaded ∷ solved ∷ certified ∷ changed ∷ []) ≡ Some (model_with (negsuc 5))
  unfolding edited with_right_side
  model_is =
      let e = asks.1 in
      let one : record { session = 0; effect = loads (model_with (negsuc 4)) } ≡ loaded.asked = cc in
      let two : record { session = 0; effect = keeps } ≡ solved.asked = cc in
      let three : record { session = 0; effect = keeps } ≡ certified.asked = cc in
      let four : record { session = 0; effect = edits (edit.SetRhs (codes "COST") (whole (negsuc 5))) } ≡ changed.asked = cc in
      let five : record { session = 0; effect = keeps } ≡ again.asked = cc in
      ap (λ (session : ℕ). model_told session (loaded ∷ solved ∷ certified ∷ changed ∷ [])) (ap (λ (a : Asking). a.session) (sym five))
      ∙ ap (λ (x : Told). model_told 0 (x ∷ solved ∷ certified ∷ changed ∷ []))
      (told_is loaded (loads (model_with (negsuc 4))) loaded.line (sym one) refl)
      ∙ ap (λ (x : Told). model_told 0 (of_asked (loads (model_with (negsuc 4))) loaded.line loaded.behind ∷ x ∷ certified ∷ changed ∷ []))
      (told_is solved keeps solved.line (sym two) refl)
      ∙ ap (λ (x : Told). model_told 0 (of_asked (loads (model_with (negsuc 4))) loaded.line loaded.behind
      ∷ of_asked keeps solved.line solved.behind ∷ x ∷ changed ∷ []))
      (told_is certified keeps certified.line (sym three) refl)
      ∙ ap (λ (x : Told). model_told 0 (of_asked (loads (model_with (negsuc 4))) loaded.line loaded.behind
      ∷ of_asked keeps solved.line solved.behind ∷ of_asked keeps certified.line certified.behind ∷ x ∷ []))
      (told_is changed (edits (edit.SetRhs (codes "COST") (whole (negsuc 5)))) (codes "OK") (sym four) ok)

  -- after the edit, the line `OPTIMAL 5` is no true reply to the solve
  stale : again.line ≡ codes "OPTIMAL 5" →
      IsTrueReply (loaded ∷ solved ∷ certified ∷ changed ∷ []) again → ⊥
  stale is true_then =
      let said = true_then.0.optimal (codes "5") is in
      let same : ◌≡◌ {A = Option Model} (Some (model_with (negsuc 5))) (Some said.0) = sym model_is ∙ said.1 in
      let model : said.0 ≡ model_with (negsuc 5) = cc in
      not_five said.2.0 (five_is said.2.0 said.2.1) (subst (λ (m : Model). IsOptimal m said.2.0) model said.2.2)

-- ---- the lines of the output, one by one

pub before_refuted : (after : Option (List ℕ)) (certificate : List (List ℕ)) (behind : List ℕ) → All HasNoFeed certificate →
    length certificate ≡ 4 → AreTrueReplies Alone after asked_twice (answered_as_before certificate ++ behind) → ⊥
unfolding ended_lines
before_refuted after certificate behind plain four h =
    let last : List ℕ = ended_lines (codes "OK" ∷ codes "OPTIMAL 5" ∷ []) ++ behind in
    let shown : List ℕ = (ended_lines certificate ++ ended_lines (codes "OK" ∷ codes "OPTIMAL 5" ∷ [])) ++ behind in
    let loaded =
    first_told h.told (codes "LOADED 1 0") (ended_lines (codes "OPTIMAL 5" ∷ codes "CERT 4" ∷ []) ++ shown) h.framed
    (tested_no_feed (codes "LOADED 1 0") refl) (sym h.replies) in
    let solved =
    first_told loaded.more (codes "OPTIMAL 5") (ended_lines (codes "CERT 4" ∷ []) ++ shown) loaded.later
    (tested_no_feed (codes "OPTIMAL 5") refl) (alone_told h.told (codes "LOADED 1 0") _ refl loaded) in
    let certified =
    first_told solved.more (codes "CERT 4") shown solved.later (tested_no_feed (codes "CERT 4") refl)
    (alone_told loaded.more (codes "OPTIMAL 5") _ refl solved) in
    let count = four_behind certified.one certified.framed certified.line_is in
    let rest : told_out Alone certified.more ≡ last =
    behind_lines certified.one.behind certificate (told_out Alone certified.more) last certified.framed.each plain (count ∙ sym four)
    (certified.goes_on ∙ append_assoc (ended_lines certificate) (ended_lines (codes "OK" ∷ codes "OPTIMAL 5" ∷ [])) behind) in
    let changed =
    first_told certified.more (codes "OK") (codes "OPTIMAL 5" ++ 10 ∷ behind) certified.later (tested_no_feed (codes "OK") refl) rest in
    let again =
    first_told changed.more (codes "OPTIMAL 5") behind changed.later (tested_no_feed (codes "OPTIMAL 5") refl)
    (alone_told certified.more (codes "OK") _ refl changed) in
    let cut : h.told ≡ loaded.one ∷ solved.one ∷ certified.one ∷ changed.one ∷ again.one ∷ again.more =
    loaded.cut
    ∙ ap (λ (told : List Told). loaded.one ∷ told) (solved.cut
    ∙ ap (λ (told : List Told). solved.one ∷ told) (certified.cut
    ∙ ap (λ (told : List Told). certified.one ∷ told) (changed.cut
    ∙ ap (λ (told : List Told). changed.one ∷ told) again.cut))) in
    stale loaded.one solved.one certified.one changed.one again.one again.more
    (subst (λ (told : List Told). AreFirstOf (map (λ (x : Told). x.asked) told) askings) cut (asked_first after h.told h.asked))
    changed.line_is again.line_is
    (h.are_true (loaded.one ∷ solved.one ∷ certified.one ∷ changed.one ∷ []) again.more again.one cut)
