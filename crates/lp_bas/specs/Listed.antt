-- Which columns are listed.
use Rattle.std.specs.Prelude.{Bool}
use Rattle.spec_pivot.specs.declared.status.Status.{Status}
use Rattle.spec_simplex.specs.Tableau.{is_basic}
use Rattle.spec_bas.specs.Written.{is_at_upper}
use Rattle.lp_bas.specs.declared.writing.Listed.{Listed}
use Rattle.lp_bas.specs.declared.writing.Listed.TheVariants.{Basic, AtUpper}

-- whether a column of this status is in the list: of basic columns, or of those at their upper bounds
abbrev pub is_listed : Listed → Status → Bool
is_listed Basic status = is_basic status
is_listed AtUpper status = is_at_upper status
