use Rattle.std.proofs.Common.{◌≡◌, ℕ, ◌+◌, Bool, not, Vec, Global, ap, sym, ◌∙◌}
use Rattle.spec_simplex.specs.Tableau.{is_basic}
use Rattle.spec_simplex.specs.Eliminate.{basis_at}
use Rattle.lp_bas.proofs.ChosenNumbers.{chosen_yes, chosen_no}
use Rattle.lp_bas.proofs.writing.other_rows.Goals as goal
use Rattle.lp_bas.proofs.writing.other_rows.Goals.{then-not-is_basic+in_ok-push, else-not-is_basic}

pub loop-i-preserved : goal.loop-i-preserved
loop-i-preserved c =
    let test : ℕ → Bool = λ k. not (is_basic (basis_at c.args.basis.now (c.args.form.now.cols + k))) in
    let is : not c.is_basic.result ≡ test c.loop-i.i =
    ap not (c.is_basic.ensures ∙ ap (λ k. is_basic (basis_at c.args.basis.now k)) c.logical.ensures.value) in
    elim c.if-not-is_basic.branch [
      | then-not-is_basic+in_ok-push w ↦
          ap (λ (v : Vec ℕ Global). v.items) w.found-is ∙ w.in_ok-push.ensures.items
          ∙ chosen_yes test c.loop-i.i c.loop-i.found.items c.loop-i.invariant (sym is ∙ ap not w.if-not-is_basic.true)
      | else-not-is_basic w ↦
          ap (λ (v : Vec ℕ Global). v.items) w.found-is
          ∙ chosen_no test c.loop-i.i c.loop-i.found.items c.loop-i.invariant (sym is ∙ ap not w.if-not-is_basic.false)
    ]
