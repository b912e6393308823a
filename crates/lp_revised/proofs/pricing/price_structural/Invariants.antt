-- The loop over the entries.
use Rattle.lp_revised.proofs.Prices.{PricedTo}
use Rattle.lp_revised.proofs.pricing.price_structural.Given as goal

-- the rows before the next entry's are taken off
abbrev pub invariant-loop-row : goal.invariant-loop-row
invariant-loop-row l = PricedTo l.form l.costs l.y l.k l.row-items l.row-index l.rest
