-- Different answers have different texts.
--
-- `different`: two answers with numbers of at most 127 bits are the same where their printed replies are.
-- `answered_narrow`: the value of an answer in a run has at most 127 bits.
-- `accepted_narrow`: the value that an accepted certificate shows in a run has at most 127 bits.
use Rattle.std.proofs.Common.{◌≡◌, ℕ, List, ◌∷◌, ◌++◌, refl, sym, ◌∙◌, ap}
use Rattle.spec_exact.specs.Fraction.{ℚ}
use Rattle.spec_exact.specs.Narrow.{IsNarrow}
use Rattle.spec_model.specs.Model.{Model}
use Rattle.spec_mps.specs.NumberText.{Is, number_of}
use Rattle.spec_mps.specs.NumberWritten.{number_text}
use Rattle.spec_check.specs.declared.certificate.Known.{Known}
use Rattle.spec_check.specs.declared.certificate.Known.TheVariants as known
use Rattle.spec_server.specs.Exchanges.{Exchange, RunAlone}
use Rattle.spec_server.specs.Output.{known_text, reply_text}
use Rattle.spec_truth.specs.TrueAnswer.{IsNarrowKnown}
use Rattle.spec_truth.proofs.Shown.{IsShown, value_fits}
use Rattle.spec_truth.proofs.AnswerLines.{first, apart, read_back}
use Rattle.spec_truth.proofs.ReplyLines.{answer_to, yes_to}
use Rattle.spec_truth.proofs.TrueRuns.{answered_then, accepted_then}

-- two optimal values of at most 127 bits are the same where their texts are
same_value : (v w : ℚ) → IsNarrow v → IsNarrow w → number_text v ≡ number_text w → known.Optimal v ≡ known.Optimal w
same_value v w h k e =
    let read : Is v ≡ Is w = sym (read_back v h) ∙ ap number_of e ∙ read_back w k in
    let same : v ≡ w = cc in
    ap known.Optimal same

-- two known answers with numbers of at most 127 bits are the same where their texts are
same_known : (what other : Known ℚ) → IsNarrowKnown what → IsNarrowKnown other → known_text what ≡ known_text other →
    what ≡ other
same_known (known.Optimal v) (known.Optimal w) h k e = same_value v w h k cc
same_known (known.Optimal v) known.Infeasible h k e = absurd (apart 79 73 refl (ap first e))
same_known (known.Optimal v) known.Unbounded h k e = absurd (apart 79 85 refl (ap first e))
same_known known.Infeasible (known.Optimal w) h k e = absurd (apart 73 79 refl (ap first e))
same_known known.Infeasible known.Infeasible h k e = refl
same_known known.Infeasible known.Unbounded h k e = absurd (apart 73 85 refl (ap first e))
same_known known.Unbounded (known.Optimal w) h k e = absurd (apart 85 79 refl (ap first e))
same_known known.Unbounded known.Infeasible h k e = absurd (apart 85 73 refl (ap first e))
same_known known.Unbounded known.Unbounded h k e = refl

pub different : (what other : Known ℚ) → IsNarrowKnown what → IsNarrowKnown other →
    reply_text (answer_to what) ≡ reply_text (answer_to other) → what ≡ other
unfolding reply_text
different what other h k e = same_known what other h k e

-- ---- their values

-- an answer that is shown of a model has numbers of at most 127 bits
shown_narrow : (m : Model) (what : Known ℚ) → IsShown m what → IsNarrowKnown what
shown_narrow m (known.Optimal v) s = value_fits m v s
shown_narrow m known.Infeasible s = tt
shown_narrow m known.Unbounded s = tt

pub answered_narrow : (places : ℕ) (before behind : List Exchange) (x : Exchange) (what : Known ℚ) →
    RunAlone places (before ++ x ∷ behind) →
    x.reply ≡ answer_to what → IsNarrowKnown what
answered_narrow places before behind x what fits is =
    let s = answered_then places before behind x what fits is in shown_narrow s.model what s.shown

pub accepted_narrow : (places : ℕ) (before behind : List Exchange) (x : Exchange) (what : Known ℚ) →
    RunAlone places (before ++ x ∷ behind) →
    x.reply ≡ yes_to what → IsNarrowKnown what
accepted_narrow places before behind x what fits is =
    let s = accepted_then places before behind x what fits is in shown_narrow s.model what s.shown
