use Rattle.std.proofs.Common.{◌≡◌, ℕ, Bool, Vec, Global, ap, sym, ◌∙◌}
use Rattle.spec_simplex.specs.Eliminate.{basis_at}
use Rattle.lp_bas.specs.Listed.{is_listed}
use Rattle.lp_bas.proofs.ChosenNumbers.{chosen_yes, chosen_no}
use Rattle.lp_bas.proofs.writing.columns.Goals as goal
use Rattle.lp_bas.proofs.writing.columns.Goals.{then-is_listed+in_ok-push, else-is_listed}

pub loop-j-preserved : goal.loop-j-preserved
loop-j-preserved c =
    let test : ℕ → Bool = λ k. is_listed c.args.which (basis_at c.args.basis.now k) in
    let is : c.is_listed.result ≡ test c.loop-j.j = c.is_listed.ensures in
    elim c.if-is_listed.branch [
      | then-is_listed+in_ok-push w ↦
          ap (λ (v : Vec ℕ Global). v.items) w.found-is ∙ w.in_ok-push.ensures.items
          ∙ chosen_yes test c.loop-j.j c.loop-j.found.items c.loop-j.invariant (sym is ∙ w.if-is_listed.true)
      | else-is_listed w ↦
          ap (λ (v : Vec ℕ Global). v.items) w.found-is
          ∙ chosen_no test c.loop-j.j c.loop-j.found.items c.loop-j.invariant (sym is ∙ w.if-is_listed.false)
    ]
