-- No column, one column more, and all.
use Rattle.std.proofs.Common.{◌≡◌, ◌+◌, ◌<◌, ◌∙◌, refl, sym, subst, arith}
use Rattle.lp_row_runs.specs.Rows.{IsUnsolved}
use Rattle.lp_row_runs.proofs.equations.place_values.Goals as goal

pub loop-k-init : goal.loop-k-init
loop-k-init g c = record { whole = c.requires; size = refl; placed = λ f basis u. u }

pub place_value-requires-clause-whole : goal.place_value-requires-clause-whole
place_value-requires-clause-whole g c = c.loop-k.invariant.whole

pub place_value-requires-clause-column : goal.place_value-requires-clause-column
place_value-requires-clause-column g c =
    subst (λ n. c.loop-k.k < n) (c.width-k-end.ensures ∙ sym c.loop-k.invariant.size) c.loop-k-test.true

pub loop-k-preserved : goal.loop-k-preserved
loop-k-preserved g c =
    let is = c.place_value.ensures in
    record {
      whole = is.whole c.if-not-place_value.false;
      size = is.size ∙ c.loop-k.invariant.size;
      placed = λ f basis u. is.placed c.if-not-place_value.false f basis (c.loop-k.invariant.placed f basis u);
    }

pub returns-clause-whole : goal.returns-clause-whole
returns-clause-whole g c t = c.loop-k.invariant.whole

pub returns-clause-placed : goal.returns-clause-placed
returns-clause-placed g c t f basis u =
    let all : c.loop-k.k ≡ f.cols + f.rows =
    omega (arith, c.loop-k-test.false, c.loop-k.auto.k-end, c.width-k-end.ensures, u.form.cols, u.rows.len) in
    subst (λ n. IsUnsolved g.T.Words.value f basis n c.loop-k.tab) all (c.loop-k.invariant.placed f basis u)
