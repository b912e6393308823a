-- The pair of the items is that of the list.
use Rattle.std.proofs.Common.{◌∙◌, ap, refl}
use Rattle.lp_revised.specs.Eta.{pair_of}
use Rattle.lp_revised.proofs.PairItems.{pair_is}
use Rattle.lp_revised.proofs.eta.Eta.from_list.Goals as goal

pub returns : goal.returns
returns c =
    ap (λ n. pair_of n c.args.place c.in_ok-entries.entries) c.len.ensures
    ∙ pair_is _ c.args.place c.args.column.now c.in_ok-entries.entries c.in_ok-entries.ensures refl
