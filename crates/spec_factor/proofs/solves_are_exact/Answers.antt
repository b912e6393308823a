use Rattle.spec_factor.proofs.Solves.{ftran_solves, btran_solves}
use Rattle.spec_factor.proofs.solves_are_exact.Goals as goal

pub returns : goal.returns
returns c = record {
  ftran = λ limit m pairs basis v z s. ftran_solves m pairs basis s limit v z;
  btran = λ limit m pairs basis c y s. btran_solves m pairs basis s limit c y;
}
