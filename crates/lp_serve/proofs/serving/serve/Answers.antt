-- The listeners are given back.
use Rattle.std.proofs.Common.{length, map, ap, sym, subst, arith}
use Rattle.std.proofs.lemmas.List.{length-map}
use Rattle.lp_base.specs.Listening.{listener_of}
use Rattle.lp_serve.specs.declared.desk.Desk.{Desk}
use Rattle.lp_serve.specs.Desks.{nets_of}
use Rattle.lp_serve.specs.Serving.{Serves}
use Rattle.lp_serve.proofs.Finishing.{unserved, not_write}
use Rattle.lp_serve.proofs.serving.serve.Goals as goal

pub returns-in_err-desks-clause-len : goal.returns-in_err-desks-clause-len
returns-in_err-desks-clause-len g c = ap (λ v. v.len) c.in_err-desks.ensures.kept

pub returns-in_err-desks-clause-write : goal.returns-in_err-desks-clause-write
returns-in_err-desks-clause-write g c = λ e. absurd (not_write c.from_residual.result c.from_residual.ensures.1 e)

pub returns-in_err-desks-clause-serves : goal.returns-in_err-desks-clause-serves
returns-in_err-desks-clause-serves g c =
    unserved _ _ _ _ _ c.from_residual.result c.from_residual.ensures.1
    (ap (λ v. map (listener_of g.N.Listen.log g.N.Listen.accept_faults) v.items) c.in_err-desks.ensures.kept)

pub serve_desks-served-requires-clause-desks : goal.serve_desks-served-requires-clause-desks
serve_desks-served-requires-clause-desks g c =
    let gave = ap length c.in_ok-desks.ensures.nets in
    let many = length-map c.in_ok-desks.desks.items (λ (desk : Desk g.row.N.Denot). desk.net) in λ lives bounds. (
      omega (arith, c.requires.nets, gave, many, c.in_ok-desks.desks.ok.0, c.args.nets.now.ok.0),
      omega (arith, c.requires.nets, gave, many, c.in_ok-desks.desks.ok.0, c.args.nets.now.ok.0),
    )

pub leave-requires-clause-room : goal.leave-requires-clause-room
leave-requires-clause-room g c =
    let gave = ap length c.in_ok-desks.ensures.nets in
    let many = length-map c.in_ok-desks.desks.items (λ (desk : Desk g.row.N.Denot). desk.net) in
    omega (
      arith,
      c.serve_desks-served.ensures.len,
      gave,
      many,
      c.in_ok-desks.desks.ok.0,
      c.args.nets.now.ok,
      c.man.ensures.room,
    )

pub returns-clause-len : goal.returns-clause-len
returns-clause-len g c =
    let net = (λ (desk : Desk g.row.N.Denot). desk.net) in
    let back = ap length c.leave.ensures in
    let gave = ap length c.in_ok-desks.ensures.nets in
    omega (
      arith,
      c.leave.new.nets.ok.0,
      back,
      length-map c.serve_desks-served.new.desks.items net,
      c.serve_desks-served.ensures.len,
      c.serve_desks-served.new.desks.ok.0,
      length-map c.in_ok-desks.desks.items net,
      c.in_ok-desks.desks.ok.0,
      gave,
      c.args.nets.now.ok.0,
    )

pub returns-clause-serves : goal.returns-clause-serves
returns-clause-serves g c =
    let state = listener_of g.N.Listen.log g.N.Listen.accept_faults in
    let old = nets_of c.in_ok-desks.desks.items in
    let to = g.K.Sink.taken c.args.out.now in
    let written = g.K.Sink.taken c.serve_desks-served.new.out in
    subst
    (λ ns. Serves c.args.places c.args.each (map state ns) (map state c.leave.new.nets.items) to written
    c.serve_desks-served.result)
    c.in_ok-desks.ensures.nets
    (subst
    (λ ns. Serves c.args.places c.args.each (map state old) (map state ns) to written c.serve_desks-served.result)
    (sym c.leave.ensures) c.serve_desks-served.ensures.serves)
