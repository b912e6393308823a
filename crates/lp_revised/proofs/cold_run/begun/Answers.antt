-- The parts are those of the start.
use Rattle.std.proofs.Common.{ap, length, ◌∙◌}
use Rattle.std.proofs.lemmas.List.{length-replicate}
use Rattle.spec_factor.specs.Factors.{Factors}
use Rattle.lp_revised.proofs.BeforeFactors.{begun_is, begun_state}
use Rattle.lp_revised.proofs.cold_run.begun.Goals as goal

pub returns : goal.returns
returns c =
    begun_is c.args.form.now c.args.starts.now _ _ _ _ _ _ _ c.rows.ensures.value c.cols.ensures.value
    c.in_ok-basics.ensures c.in_ok-values.ensures c.in_ok-statuses.ensures
    c.in_ok-lowers.ensures c.in_ok-uppers.ensures

pub invariant_of-result : goal.invariant_of-result
invariant_of-result c =
    begun_state c.args.form.now c.args.starts.now _ c.in_ok-empty.field-0.pairs _ c.rows.ensures.kept c.requires
    (returns c)
    (ap (λ (s : Factors). length s.basic) c.in_ok-empty.ensures ∙ length-replicate _ 0 ∙ c.rows-2.ensures.value)
