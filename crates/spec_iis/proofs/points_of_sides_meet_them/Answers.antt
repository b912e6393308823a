use Rattle.spec_iis.proofs.Points.{points_meet, meeting_points}
use Rattle.spec_iis.proofs.points_of_sides_meet_them.Goals as goal

pub returns : goal.returns
returns c = λ m sides z present. (points_meet m sides present z, meeting_points m sides present z)
