use Rattle.spec_iis.proofs.Points.{more_points}
use Rattle.spec_iis.proofs.fewer_sides_have_more_points.Goals as goal

pub returns : goal.returns
returns c = more_points
