-- A carriage return at the end does not count.
use Rattle.std.proofs.Common.{◌≡◌, ◌-◌, take, ◌∙◌, ap}
use Rattle.std.specs.Str.Lines.{strip_carriage_return}
use Rattle.spec_text.specs.Lines.{line_of}
use Rattle.lp_base.proofs.KeptLemmas.{stripped, not_stripped}
use Rattle.lp_base.proofs.part.Part.ended_line.Goals.{then-self-eq-CARRIAGE_RETURN, else-self-eq-CARRIAGE_RETURN}
use Rattle.lp_base.proofs.part.Part.ended_line.Goals as goal

pub returns : goal.returns
returns c = λ raw kept.
    let same : take c.if-self-eq-CARRIAGE_RETURN.len raw ≡ strip_carriage_return raw =
    elim c.if-self-eq-CARRIAGE_RETURN.branch [
      | then-self-eq-CARRIAGE_RETURN w ↦
          ap (λ n. take n raw) (w.len-is ∙ w.saturating_sub-len.ensures ∙ ap (λ n. n - 1) kept.len)
          ∙ stripped raw c.args.self.last kept.last w.if-self-eq-CARRIAGE_RETURN.true
      | else-self-eq-CARRIAGE_RETURN w ↦
          ap (λ n. take n raw) (w.len-is ∙ kept.len)
          ∙ not_stripped raw c.args.self.last kept.last w.if-self-eq-CARRIAGE_RETURN.false
    ] in
    c.cut.ensures raw kept ∙ ap line_of same
