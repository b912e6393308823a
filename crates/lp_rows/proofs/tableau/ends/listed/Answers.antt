use Rattle.std.proofs.Common.{◌≡◌, subst}
use Rattle.std.specs.Prelude.{IfSome}
use Rattle.lp_rows.specs.Number.{fraction_of}
use Rattle.lp_rows.proofs.Read.{listed_is}
use Rattle.lp_rows.proofs.tableau.ends.listed.Goals as goal

pub returns-else-is_zero-clause-value : goal.returns-else-is_zero-clause-value
returns-else-is_zero-clause-value g c q h =
    listed_is g.N.Listed.of (fraction_of g.T.Words.value c.in-Some.v) q c.from_row.result
    (subst (λ o. IfSome o (λ v. fraction_of g.T.Words.value v ≡ q)) c.in-Some.is h) c.from_row.ensures.value
