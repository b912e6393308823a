-- So many squarings make up the power.
use Rattle.std.proofs.Common.{◌≡◌, ℕ, IfOk, subst}
use Rattle.lp_solve.proofs.LineLemmas.{power_is}
use Rattle.lp_solve.proofs.lines.line_power.Goals as goal

pub returns : goal.returns
returns c = subst (λ (p : ℕ). IfOk c.squared.result (λ n. n ≡ p)) power_is c.squared.ensures
