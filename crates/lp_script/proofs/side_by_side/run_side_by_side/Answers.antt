-- Where the run halts.
use Rattle.std.proofs.Common.{◌∙◌, ap, inl, inr, map, ⊎_elim}
use Rattle.std.proofs.lemmas.Result.{err_from_is_err_and}
use Rattle.spec_server.specs.declared.asks.Asked.{Asked}
use Rattle.spec_server.specs.Machine.{ExactAsk}
use Rattle.lp_script.proofs.Moving.{stops_so}
use Rattle.lp_script.proofs.Replying.{unanswered, reads_some_of, replied_in_part, replied_whole}
use Rattle.lp_script.proofs.side_by_side.run_side_by_side.Goals as goal

-- the reading was cut short
pub returns-in_err-asks-clause-output : goal.returns-in_err-asks-clause-output
returns-in_err-asks-clause-output g c =
    let p = err_from_is_err_and c.from_residual.result c.from_residual.ensures.1 in
    stops_so (unanswered _ _ _ c.in_err-asks.ensures.script) c.from_residual.result p.0 p.1 (inr p.2)

-- nothing was answered
pub returns-in_err-sessions-clause-output : goal.returns-in_err-sessions-clause-output
returns-in_err-sessions-clause-output g c =
    let p = err_from_is_err_and c.from_residual-in_err-sessions.result c.from_residual-in_err-sessions.ensures.1 in
    stops_so (unanswered _ _ _ (reads_some_of _ c.in_ok-asks.ensures.script))
    c.from_residual-in_err-sessions.result p.0 p.1 (inr p.2)

pub returns-in_err-replies-clause-output : goal.returns-in_err-replies-clause-output
returns-in_err-replies-clause-output g c =
    let p = err_from_is_err_and c.from_residual-in_err-replies.result c.from_residual-in_err-replies.ensures.1 in
    stops_so (unanswered _ _ _ (reads_some_of _ c.in_ok-asks.ensures.script))
    c.from_residual-in_err-replies.result p.0 p.1 (inr p.2)

-- the replies were written in part
pub returns-in_err-write-clause-output : goal.returns-in_err-write-clause-output
returns-in_err-write-clause-output g c =
    let p = err_from_is_err_and c.from_residual-in_err-write.result c.from_residual-in_err-write.ensures.1 in
    stops_so
    (replied_in_part c.requires.many c.in_ok-replies.replies.items c.in_ok-replies.ensures _
    c.in_ok-asks.ensures.script c.as_slice-2.result.now
    (c.as_slice-2.ensures.value ∙ c.in_ok-sessions.ensures
    ∙ ap (map (λ (asked : Asked ExactAsk). asked.session)) c.as_slice.ensures.value)
    c.as_slice-3.result.now c.as_slice-3.ensures.value c.write.ensures.part)
    c.from_residual-in_err-write.result p.0 p.1
    (⊎_elim (λ e. inl (p.2 ∙ e)) (λ e. inr (p.2 ∙ e)) c.in_err-write.ensures.halts)

-- and whole
pub returns-clause-output : goal.returns-clause-output
returns-clause-output g c =
    replied_whole c.requires.many c.in_ok-replies.replies.items c.in_ok-replies.ensures _ c.in_ok-asks.ensures.script
    c.as_slice-2.result.now
    (c.as_slice-2.ensures.value ∙ c.in_ok-sessions.ensures
    ∙ ap (map (λ (asked : Asked ExactAsk). asked.session)) c.as_slice.ensures.value)
    c.as_slice-3.result.now c.as_slice-3.ensures.value c.in_ok-write.ensures.ok
