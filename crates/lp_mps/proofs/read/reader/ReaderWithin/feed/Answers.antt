use Rattle.lp_mps.specs.Draft.{state_of}
use Rattle.lp_mps.specs.TextRead.{ReadWithin}
use Rattle.lp_mps.proofs.Feeding.{refusal, ended_within}
use Rattle.lp_mps.proofs.LineRuns.{more_reached}
use Rattle.lp_mps.proofs.read.reader.ReaderWithin.feed.Goals as goal

pub invariant_of-self : goal.invariant_of-self
invariant_of-self c = (
  c.self.invariant.0,
  more_reached c.self.inside.limits c.self.inside.style (state_of c.self.inside.draft)
      (state_of c.advance.new.self) c.args.line.now c.self.invariant.1
      (rw c.in-Ok-None.field-0-is at c.in-Ok-None.ensures),
)

pub returns-in-Ok-Some-clause-within : goal.returns-in-Ok-Some-clause-within
returns-in-Ok-Some-clause-within c =
    let v : ReadWithin =
    record {
      limits = c.self.inside.limits;
      text =
          record {
            style = c.self.inside.style;
            state = state_of c.self.inside.draft;
            lines = c.self.inside.lines;
          };
    } in
    ended_within v c.args.self.now c.args.line.now c.in-Ok-Some.model c.self.view_is c.self.invariant.1
    (rw c.in-Ok-Some.field-0-is at c.in-Ok-Some.ensures)

pub returns-in-Err-clause-feeds : goal.returns-in-Err-clause-feeds
returns-in-Err-clause-feeds c =
    let v : ReadWithin =
    record {
      limits = c.self.inside.limits;
      text =
          record {
            style = c.self.inside.style;
            state = state_of c.self.inside.draft;
            lines = c.self.inside.lines;
          };
    } in
    refusal v _ _ c.args.line.now c.in-Err.fault c.refused.result c.self.view_is c.refused.ensures.feeds
    c.in-Err.ensures

pub returns-in-Err-clause-within : goal.returns-in-Err-clause-within
returns-in-Err-clause-within c = c.refused.ensures.within c.args.self.now.limits
