-- One status more, and as many columns are basic as the form has rows.
use Rattle.std.proofs.Common.{◌≡◌, ◌+◌, sym, ap, ◌∙◌, arith}
use Rattle.spec_exact.specs.Run.{made}
use Rattle.spec_bas.specs.Steps.{status_of, marked_basis}
use Rattle.lp_bas.proofs.Marked.{basics_marked, one_status}
use Rattle.lp_bas.proofs.marks.Marks.basis.Goals as goal

pub loop-k-init : goal.loop-k-init
loop-k-init c = c.new-items.ensures.items

pub loop-k-preserved : goal.loop-k-preserved
loop-k-preserved c =
    one_status c.args.form.now c.args.self.now c.loop-k.k c.loop-k.items.items _ c.status.result c.loop-k.invariant
    c.in_ok-push.ensures.items c.status.ensures

pub from_vec-requires : goal.from_vec-requires
from_vec-requires c =
    basics_marked c.args.form.now c.args.self.now c.loop-k.k c.loop-k.items.items c.loop-k.invariant
    (omega (arith, c.loop-k-test.false, c.loop-k.auto.k-end, c.cols.ensures.value, c.rows.ensures.value))
    c.requires.fits
    ∙ sym c.rows-2.ensures.value

pub returns : goal.returns
unfolding marked_basis
returns c =
    let all : c.loop-k.k ≡ c.args.form.now.cols + c.args.form.now.rows =
    omega (arith, c.loop-k-test.false, c.loop-k.auto.k-end, c.cols.ensures.value, c.rows.ensures.value) in
    c.from_vec.ensures ∙ c.loop-k.invariant ∙ ap (λ n. made n (status_of c.args.form.now c.args.self.now)) all
