-- Each kind's certificate, or the name that is not known.
use Rattle.lp_certificate.proofs.Blanks.{optimal, infeasible, unbounded, clash, clash_unknown}
use Rattle.lp_certificate.proofs.settled.blank.Goals as goal

pub returns-in_ok-x-in-Optimal : goal.returns-in_ok-x-in-Optimal
returns-in_ok-x-in-Optimal g c =
    let p = optimal g.N.Number.nothing c.args.model.now c.args.kind.now c.in_ok-x-in-Optimal.x c.in_ok-x-in-Optimal.y
    c.cols-columns.result c.rows-rows.result c.in-Optimal.is c.cols-columns.ensures.value c.rows-rows.ensures.value
    c.in_ok-x-in-Optimal.ensures in
    record { answer = p.0; fits = p.1 }

pub returns-in_ok-x-in-Unbounded : goal.returns-in_ok-x-in-Unbounded
returns-in_ok-x-in-Unbounded g c =
    let p = unbounded g.N.Number.nothing c.args.model.now c.args.kind.now c.in_ok-x-in-Unbounded.x c.in_ok-x-in-Unbounded.r
    c.cols-columns.result c.in-Unbounded.is c.cols-columns.ensures.value c.in_ok-x-in-Unbounded.ensures in
    record { answer = p.0; fits = p.1 }

pub returns-in_ok-y-in-Infeasible : goal.returns-in_ok-y-in-Infeasible
returns-in_ok-y-in-Infeasible g c =
    let p = infeasible g.N.Number.nothing c.args.model.now c.args.kind.now c.in_ok-y-in-Infeasible.y c.rows-rows.result
    c.in-Infeasible.is c.rows-rows.ensures.value c.in_ok-y-in-Infeasible.ensures in
    record { answer = p.0; fits = p.1 }

pub returns-in-Some : goal.returns-in-Some
returns-in-Some g c =
    record {
      answer =
          clash g.N.Number.nothing c.args.model.now c.args.kind.now c.in-Clash.name c.as_slice.result.now c.in-Some.j c.in-Clash.is
          c.as_slice.ensures c.in-Some.ensures.value;
      fits = c.in-Some.ensures.inside;
    }

pub returns-in-None : goal.returns-in-None
returns-in-None g c =
    record {
      answer =
          clash_unknown g.N.Number.nothing c.args.model.now c.args.kind.now c.in-Clash.name c.as_slice.result.now c.unknown.result
          c.in-Clash.is c.as_slice.ensures c.in-None.ensures.value c.unknown.ensures;
      fits = tt;
    }
