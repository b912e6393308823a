-- How many columns of a basis of a form are basic.
--
-- `basics_within`: at most n of the first n columns are basic.
-- `basics_are_rows`: in a basis of a form as many columns are basic as the form has rows.
-- `basics_made`: the statuses made for n columns have as many basic ones as were counted among the n.
use Rattle.std.proofs.Common.{◌≡◌, ℕ, zero, suc, ◌≤◌, List, Bool, true, false, cond, ap, ◌∙◌, arith}
use Rattle.spec_pivot.specs.declared.status.Status.{Status}
use Rattle.spec_simplex.specs.Form.{Form}
use Rattle.spec_simplex.specs.Tableau.{is_basic}
use Rattle.spec_exact.specs.Run.{made}
use Rattle.spec_simplex.specs.Eliminate.{basis_at, basics_below, IsBasisOf}
use Rattle.spec_exact.proofs.RunsInOrder.{length-made}
use Rattle.lp_form.specs.Count.{basics}

pub basics_within : (statuses : List Status) (n : ℕ) → basics_below statuses n ≤ n
basics_within statuses zero = omega arith
basics_within statuses (suc n) =
    omega (arith, basics_within statuses n, one (is_basic (basis_at statuses n)))
  where
    one : (c : Bool) → cond c 1 0 ≤ 1
    one true = omega arith
    one false = omega arith

-- as many as the form has rows
pub basics_are_rows : (f : Form) (basis : List Status) → IsBasisOf f basis → basics basis ≡ f.rows
basics_are_rows f basis fits = ap (basics_below basis) fits.all ∙ fits.count

-- the statuses of n columns
pub basics_made : (n : ℕ) (status : ℕ → Status) (rows : ℕ) → basics_below (made n status) n ≡ rows →
    basics (made n status) ≡ rows
basics_made n status rows count = ap (basics_below (made n status)) (length-made n status) ∙ count
