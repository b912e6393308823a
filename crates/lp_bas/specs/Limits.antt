-- Where a row stands that is to be at a limit.
use Rattle.std.specs.Prelude.{ℕ}
use Rattle.spec_pivot.specs.declared.status.Status.{Status}
use Rattle.spec_simplex.specs.Form.{Form}
use Rattle.spec_bas.specs.Steps.{lower_first, upper_first}
use Rattle.lp_bas.specs.declared.statuses.Limit.{Limit}
use Rattle.lp_bas.specs.declared.statuses.Limit.TheVariants.{Lower, Upper}

-- the status of a row's logical that is to be at this limit: there if the row has it, else at the other one, else at 0
abbrev pub status_at : Limit → Form → ℕ → Status
status_at Lower f = lower_first f
status_at Upper f = upper_first f
