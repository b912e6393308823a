-- A value that is not that of the model is refuted behind the line of a wide solve.
use Rattle.std.proofs.Common.{◌≡◌, ℕ, pos, negsuc, List, [], ◌∷◌, ◌++◌, length, map, Option, Some, refl, sym, ap}
use Rattle.std.proofs.Common.{◌∙◌, subst, ◌⊎◌, inl, inr, append-nil, arith}
use Rattle.std.specs.Prelude.{All, codes, decimal}
use Rattle.std.specs.Fmt.{digits}
use Rattle.std.proofs.lemmas.List.Elements.{All-head}
use Rattle.spec_text.specs.Lines.{lines_of}
use Rattle.spec_exact.specs.Fraction.{ℚ, whole, over, neg_ℚ, ◌+ℚ◌}
use Rattle.spec_exact.specs.Gcd.{gcd}
use Rattle.spec_model.specs.Model.{Model}
use Rattle.spec_model.specs.Truth.{IsOptimal}
use Rattle.spec_mps.specs.NumberWritten.{number_text, size_text}
use Rattle.spec_mps.specs.WideWritten.{wide_text}
use Rattle.spec_server.specs.declared.addressing.Addressing.TheVariants.{Alone}
use Rattle.spec_server.specs.Output.{ended_lines}
use Rattle.spec_server.specs.Script.{Between}
use Rattle.spec_serve.specs.Link.{AreFirstOf, HoldsOfAll}
use Rattle.spec_truth.proofs.AnswerLines.{first, apart, same_line}
use Rattle.spec_text_truth.specs.FalseOutputs.{asked_widely, answered_widely}
use Rattle.spec_text_truth.specs.TrueOutput.{HasNoFeed, Asking, Told, Announces, IsFramed, asked_from, asked_of, told_out, model_told}
use Rattle.spec_text_truth.specs.TrueOutput.{IsTrueReply, AreTrueReplies}
use Rattle.spec_text_truth.proofs.PlainText.{tested_no_feed}
use Rattle.spec_text_truth.proofs.SidesTexts.{ended_more}
use Rattle.spec_text_truth.proofs.ReadTold.{first_told, alone_told, is_four}
use Rattle.spec_text_truth.proofs.AskedEffects.{loads, keeps}
use Rattle.spec_text_truth.proofs.ComputedExamples.{model_with, widely_effects, widely_is}
use Rattle.spec_text_truth.proofs.FalseReplies.{told_is}

-- ---- the value 5 is not 6

-- the text of the number 5 is `5`
five_text : (v : ℚ) → v.num ≡ pos 5 → v.den ≡ 1 → wide_text v ≡ codes "5"
unfolding wide_text number_text size_text digits
five_text v top bottom = rw (top, bottom) refl

-- a number of which the text is `6` is not the optimal value of the example's model
not_six : (v : ℚ) → codes "6" ≡ wide_text v → IsOptimal (model_with (negsuc 4)) v → ⊥
unfolding ◌+ℚ◌ over whole neg_ℚ gcd
not_six v six h =
    let top : v.num ≡ pos 5 = ap (λ (q : ℚ). q.num) (sym h.point.2) in
    let bottom : v.den ≡ 1 = ap (λ (q : ℚ). q.den) (sym h.point.2) in
    apart 54 53 refl (ap first (six ∙ five_text v top bottom))

-- ---- what was told

abbrev askings : List Asking
askings = asked_of 0 widely_effects

-- what is told first of the bytes of the example is told of the example's own requests
asked_first : (after : Option (List ℕ)) (told : List Told) →
    HoldsOfAll after asked_widely (λ bytes. AreFirstOf (map (λ (x : Told). x.asked) told) (asked_from Alone Between (lines_of bytes))) →
    AreFirstOf (map (λ (x : Told). x.asked) told) askings
asked_first after told h = by (first h)
  where
    First : List ℕ → Type 0
    First bytes = AreFirstOf (map (λ (x : Told). x.asked) told) (asked_from Alone Between (lines_of bytes))

    first : HoldsOfAll after asked_widely First → First asked_widely
    first (inl (at_end, e)) = e
    first (inr always) = subst First (append-nil asked_widely) (always [])

    by : First asked_widely → AreFirstOf (map (λ (x : Told). x.asked) told) askings
    by (later, e) = (later, sym widely_is ∙ e)

-- the model that was told then
module _ (loaded solved : Told) (more : List Told)
    (asks : AreFirstOf (map (λ (x : Told). x.asked) (loaded ∷ solved ∷ more)) askings) where
  -- the model that is told of the session at the wide solve is the example's, with -5 as the right side of its
  -- objective
  model_is : model_told solved.asked.session (loaded ∷ []) ≡ Some (model_with (negsuc 4))
  model_is =
      let e = asks.1 in
      let one : record { session = 0; effect = loads (model_with (negsuc 4)) } ≡ loaded.asked = cc in
      let two : record { session = 0; effect = keeps } ≡ solved.asked = cc in
      ap (λ (session : ℕ). model_told session (loaded ∷ [])) (ap (λ (a : Asking). a.session) (sym two))
      ∙ ap (λ (x : Told). model_told 0 (x ∷ [])) (told_is loaded (loads (model_with (negsuc 4))) loaded.line (sym one) refl)

  -- the line `OPTIMAL 6` behind `WIDE 4` is no true reply to the wide solve
  false : (lines : List (List ℕ)) → solved.line ≡ codes "WIDE 4" → solved.behind ≡ codes "OPTIMAL 6" ∷ lines →
      IsTrueReply (loaded ∷ []) solved → ⊥
  unfolding ended_lines
  false lines is behind true_then =
      let said =
      (true_then.2 (codes "4") is (codes "OPTIMAL 6") (ended_lines lines) (tested_no_feed (codes "OPTIMAL 6") refl)
      (ap ended_lines behind)).optimal (codes "6") refl in
      let same : ◌≡◌ {A = Option Model} (Some (model_with (negsuc 4))) (Some said.0) = sym model_is ∙ said.1 in
      let model : said.0 ≡ model_with (negsuc 4) = cc in
      not_six said.2.0 said.2.1 (subst (λ (m : Model). IsOptimal m said.2.0) model said.2.2)

-- ---- the lines behind the line of the solve

-- behind the line `WIDE 4` of what is told stand four lines
four_lines : (x : Told) → IsFramed x → x.line ≡ codes "WIDE 4" → length x.behind ≡ 4
four_lines x framed is = by framed.counted
  where
    by : Announces x.line (codes " " ++ decimal (length x.behind))
        ⊎ ((x.behind ≡ []) × ((more : List ℕ) → ¬ (Announces x.line more))) → length x.behind ≡ 4
    by (inl (inl e)) = absurd (apart 87 84 refl (ap first (sym is ∙ e)))
    by (inl (inr (inl e))) = absurd (apart 87 67 refl (ap first (sym is ∙ e)))
    by (inl (inr (inr e))) =
        let same : codes "WIDE 4" ≡ codes "WIDE" ++ (codes " " ++ decimal (length x.behind)) = sym is ∙ e in
        let digit : decimal (length x.behind) ≡ 52 ∷ [] = cc in
        is_four (length x.behind) digit
    by (inr (e, none)) = absurd (none (codes " 4") (inr (inr is)))

-- where an output of four lines and more begins with a line, this line is the first of the four
first_behind : (lines : List (List ℕ)) (line out rest : List ℕ) → length lines ≡ 4 → All HasNoFeed lines → HasNoFeed line →
    ended_lines lines ++ out ≡ line ++ 10 ∷ rest → (more : List (List ℕ)) × (lines ≡ line ∷ more)
first_behind [] line out rest four plain one e = absurd (omega (arith, four))
first_behind (own ∷ more) line out rest four plain one e =
    let same = same_line own line (ended_lines more ++ out) rest (All-head HasNoFeed own more plain) one
    (sym (ended_more own more out) ∙ e) in
    (more, ap (λ (l : List ℕ). l ∷ more) same)

-- an output with `OPTIMAL 6` behind the line `WIDE 4` is not one of true replies to the example's asks
pub wide_refuted : (after : Option (List ℕ)) (behind : List ℕ) →
    AreTrueReplies Alone after asked_widely (answered_widely ++ behind) → ⊥
unfolding ended_lines
wide_refuted after behind h =
    let loaded =
    first_told h.told (codes "LOADED 1 0") (ended_lines (codes "WIDE 4" ∷ codes "OPTIMAL 6" ∷ []) ++ behind) h.framed
    (tested_no_feed (codes "LOADED 1 0") refl) (sym h.replies) in
    let solved =
    first_told loaded.more (codes "WIDE 4") (ended_lines (codes "OPTIMAL 6" ∷ []) ++ behind) loaded.later
    (tested_no_feed (codes "WIDE 4") refl) (alone_told h.told (codes "LOADED 1 0") _ refl loaded) in
    let lines =
    first_behind solved.one.behind (codes "OPTIMAL 6") (told_out Alone solved.more) behind
    (four_lines solved.one solved.framed solved.line_is) solved.framed.each (tested_no_feed (codes "OPTIMAL 6") refl)
    solved.goes_on in
    let cut : h.told ≡ loaded.one ∷ solved.one ∷ solved.more =
    loaded.cut ∙ ap (λ (told : List Told). loaded.one ∷ told) solved.cut in
    false loaded.one solved.one solved.more
    (subst (λ (told : List Told). AreFirstOf (map (λ (x : Told). x.asked) told) askings) cut (asked_first after h.told h.asked))
    lines.0 solved.line_is lines.1 (h.are_true (loaded.one ∷ []) solved.more solved.one cut)
