-- What is done with all links, by how the service ends.
use Rattle.std.proofs.Common.{◌<◌, ◌∙◌, length, map, ap, sym, subst, arith}
use Rattle.std.specs.Prelude.{OnOk}
use Rattle.std.specs.List.{list_any}
use Rattle.std.specs.Io.KnownBytes.{Appends}
use Rattle.spec_serve.specs.Lines.{serve_out}
use Rattle.lp_base.specs.Beside.{Takes}
use Rattle.lp_base.specs.Listening.{listener_of}
use Rattle.lp_serve.specs.declared.desk.Desk.{Desk}
use Rattle.lp_serve.specs.Desks.{ends_in, nets_of}
use Rattle.lp_serve.proofs.Finishing.{unserved, not_write, all_ended, ended_write}
use Rattle.lp_serve.proofs.serving.serve_desks.Goals as goal

pub returns-in_err-on_threads-clause-len : goal.returns-in_err-on_threads-clause-len
returns-in_err-on_threads-clause-len g c = ap (λ v. v.len) c.in_err-on_threads.ensures.kept

pub returns-in_err-on_threads-clause-write : goal.returns-in_err-on_threads-clause-write
returns-in_err-on_threads-clause-write g c = λ e. absurd (not_write c.from_residual.result c.from_residual.ensures.1 e)

pub returns-in_err-on_threads-clause-serves : goal.returns-in_err-on_threads-clause-serves
returns-in_err-on_threads-clause-serves g c =
    unserved _ _ _ _ _ c.from_residual.result c.from_residual.ensures.1
    (ap (λ v. map (listener_of g.N.Listen.log g.N.Listen.accept_faults) (nets_of v.items)) c.in_err-on_threads.ensures.kept)

pub returns-clause-serves : goal.returns-clause-serves
returns-clause-serves g c =
    let state = listener_of g.N.Listen.log g.N.Listen.accept_faults in
    let old = c.args.desks.now.items in
    let new = c.on_threads.new.jobs.items in
    let some : 0 < length old = omega (arith, c.requires.desks, c.args.desks.now.ok.0) in
    let to = g.K.Sink.taken c.args.out.now in
    let written = g.K.Sink.taken c.write_ends-said.new.out in
    rw c.ended.ensures
    (all_ended _ state c.args.each c.args.places old new c.in_ok-on_threads.ensures.turns some to written
    c.write_ends-said.result c.some_failed-has_failed.result
    (subst (λ ds. OnOk c.write_ends-said.result (Appends to written (serve_out (map ends_in ds))))
    c.as_slice.ensures.value c.write_ends-said.ensures.ok)
    (subst (λ ds. Takes to written (serve_out (map ends_in ds)))
    c.as_slice.ensures.value c.write_ends-said.ensures.part)
    c.write_ends-said.ensures.faults
    (sym (c.some_failed-has_failed.ensures
    ∙ ap (list_any (λ (desk : Desk g.row.N.Denot). desk.has_failed)) c.as_slice-2.ensures.value)))

pub returns-clause-write : goal.returns-clause-write
returns-clause-write g c = λ e. c.write_ends-said.ensures.write (ended_write _ _ (rw c.ended.ensures at e))
