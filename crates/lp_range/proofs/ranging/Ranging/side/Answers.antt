-- The tableau suits the model, and what is read off it.
use Rattle.std.proofs.Common.{Some, ap, sym, ◌∙◌}
use Rattle.spec_exact.specs.Narrow.{number_limit}
use Rattle.spec_exact.specs.Run.{◌>>=◌}
use Rattle.spec_range.specs.Rule.{side_run}
use Rattle.lp_range.proofs.Ranged.{suits, side_value, side_spans}
use Rattle.lp_range.proofs.ranging.Ranging.side.Goals as goal

pub side_at-requires-clause-high : goal.side_at-requires-clause-high
side_at-requires-clause-high c = (suits c.args.model.now c.args.self.now c.requires.from c.in-Ok.tab (sym c.self.view_is ∙ c.in-Ok.is)).rows

pub side_at-requires-clause-seated : goal.side_at-requires-clause-seated
side_at-requires-clause-seated c = (suits c.args.model.now c.args.self.now c.requires.from c.in-Ok.tab (sym c.self.view_is ∙ c.in-Ok.is)).seated

pub returns-in-Ok-clause-value : goal.returns-in-Ok-clause-value
returns-in-Ok-clause-value c =
    side_value c.args.model.now c.args.self.now c.args.at c.side_at.result
    (c.side_at.ensures ∙ ap (λ s. s >>= λ t. side_run (Some number_limit) c.args.model.now t c.args.at) (sym (sym c.self.view_is ∙ c.in-Ok.is)))

pub returns-in-Ok-clause-range : goal.returns-in-Ok-clause-range
returns-in-Ok-clause-range c =
    side_spans c.args.model.now c.args.self.now c.args.at c.side_at.result
    (c.side_at.ensures ∙ ap (λ s. s >>= λ t. side_run (Some number_limit) c.args.model.now t c.args.at) (sym (sym c.self.view_is ∙ c.in-Ok.is)))
    c.requires.row

pub returns-in-Err-clause-value : goal.returns-in-Err-clause-value
returns-in-Err-clause-value c =
    side_value c.args.model.now c.args.self.now c.args.at _
    (ap (λ s. s >>= λ t. side_run (Some number_limit) c.args.model.now t c.args.at) (sym (sym c.self.view_is ∙ c.in-Err.is)))
