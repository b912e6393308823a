use Rattle.std.proofs.Common.{◌∙◌, ap₂, List, nat_le, ℕ}
use Rattle.std.specs.List.{list_any}
use Rattle.lp_rows.proofs.Asks.{some_artificial}
use Rattle.lp_rows.proofs.tableau.phases.wants_phase_one.Goals as goal

pub returns : goal.returns
returns g c t s =
    c.any_from.ensures
    ∙ ap₂ (λ n (ks : List ℕ). list_any (λ k. nat_le n k) ks) c.width.ensures c.deref.ensures.value
    ∙ some_artificial g.T.Words.value c.args.tab.now t s
