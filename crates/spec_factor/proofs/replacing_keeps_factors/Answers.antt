use Rattle.spec_factor.proofs.Solves.{replaced, replaced_basic}
use Rattle.spec_factor.proofs.replacing_keeps_factors.Goals as goal

pub returns : goal.returns
returns c = record {
  stands =
      λ limit m basis s u p k column stands p_in all entry ok.
      (replaced m basis limit s u p k column stands p_in all entry ok).stand;
  basic = λ limit m basis s u p k column ok. replaced_basic limit m s u p k column ok;
}
