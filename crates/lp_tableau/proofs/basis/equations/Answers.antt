-- Each row is within its limits.
use Rattle.std.proofs.Common.{◌≡◌, ap₂, ◌∙◌, subst, replicate, rules}
use Rattle.std.specs.Result.{IfOk}
use Rattle.spec_simplex.specs.declared.ends.RowStart.TheVariants.{Within}
use Rattle.lp_tableau.proofs.TableauParts.{equations_are}
use Rattle.lp_tableau.proofs.basis.equations.Goals as goal

pub rows-requires-2-clause-starts : goal.rows-requires-2-clause-starts
rows-requires-2-clause-starts c = c.deref.ensures.len ∙ c.in_ok-starts.ensures.len ∙ c.rows.ensures.value

pub returns : goal.returns
returns c =
    let starts : c.in_ok-starts.starts.items ≡ replicate c.rows.result (Within c.zero.result) =
    c.in_ok-starts.ensures.items_if_clones_equal (λ y h. search rules) in
    subst (λ xs. IfOk c.rows-2.result (λ rows. rows ≡ xs))
    (equations_are c.args.form.now c.deref.result.now
    (c.deref.ensures.value ∙ starts ∙ ap₂ (λ n v. replicate n (Within v)) c.rows.ensures.value c.zero.ensures))
    c.rows-2.ensures
