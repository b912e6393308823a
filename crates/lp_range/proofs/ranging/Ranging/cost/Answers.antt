-- The tableau suits the model, and what is read off it.
use Rattle.std.proofs.Common.{Some, ap, sym, ◌∙◌}
use Rattle.spec_exact.specs.Narrow.{number_limit}
use Rattle.spec_exact.specs.Run.{◌>>=◌}
use Rattle.spec_range.specs.Rule.{cost_run}
use Rattle.lp_range.proofs.Ranged.{suits, cost_value, cost_spans}
use Rattle.lp_range.proofs.ranging.Ranging.cost.Goals as goal

pub cost_at-requires-clause-wide : goal.cost_at-requires-clause-wide
cost_at-requires-clause-wide c = (suits c.args.model.now c.args.self.now c.requires.from c.in-Ok.tab (sym c.self.view_is ∙ c.in-Ok.is)).cols

pub cost_at-requires-clause-seated : goal.cost_at-requires-clause-seated
cost_at-requires-clause-seated c = (suits c.args.model.now c.args.self.now c.requires.from c.in-Ok.tab (sym c.self.view_is ∙ c.in-Ok.is)).seated

pub returns-in-Ok-clause-value : goal.returns-in-Ok-clause-value
returns-in-Ok-clause-value c =
    cost_value c.args.model.now c.args.self.now c.args.col c.cost_at.result
    (c.cost_at.ensures ∙ ap (λ s. s >>= λ t. cost_run (Some number_limit) c.args.model.now t c.args.col) (sym (sym c.self.view_is ∙ c.in-Ok.is)))

pub returns-in-Ok-clause-range : goal.returns-in-Ok-clause-range
returns-in-Ok-clause-range c =
    cost_spans c.args.model.now c.args.self.now c.args.col c.cost_at.result
    (c.cost_at.ensures ∙ ap (λ s. s >>= λ t. cost_run (Some number_limit) c.args.model.now t c.args.col) (sym (sym c.self.view_is ∙ c.in-Ok.is)))
    c.requires.column

pub returns-in-Err-clause-value : goal.returns-in-Err-clause-value
returns-in-Err-clause-value c =
    cost_value c.args.model.now c.args.self.now c.args.col _
    (ap (λ s. s >>= λ t. cost_run (Some number_limit) c.args.model.now t c.args.col) (sym (sym c.self.view_is ∙ c.in-Err.is)))
