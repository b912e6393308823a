-- How many columns are basic by what was read of a file.
--
-- `one_status`: the statuses of the columns before one and the status of that one are those of the columns up to it.
-- `basics_marked`: a basis by what was read of a file has as many basic columns as the form has rows.
use Rattle.std.proofs.Common.{◌≡◌, ℕ, suc, ◌+◌, List, [], ◌∷◌, ◌++◌, sym, ap, ap₂, ◌∙◌, arith}
use Rattle.spec_pivot.specs.declared.status.Status.{Status}
use Rattle.spec_simplex.specs.Form.{Form}
use Rattle.spec_exact.specs.Run.{made}
use Rattle.spec_simplex.specs.Eliminate.{IsBasisOf}
use Rattle.spec_bas.specs.Steps.{State, status_of, marked_basis}
use Rattle.lp_form.specs.Count.{basics}
use Rattle.lp_form.proofs.Counted.{basics_are_rows}

-- the statuses of the columns before one and the status of that column are those of the columns up to it
pub one_status : (f : Form) (s : State) (k : ℕ) (now next : List Status) (status : Status) →
    now ≡ made k (status_of f s) → next ≡ now ++ status ∷ [] → status ≡ status_of f s k →
    next ≡ made (k + 1) (status_of f s)
one_status f s k now next status is_now is_next is_status =
    let one : k + 1 ≡ suc k = omega arith in
    is_next ∙ ap₂ (λ xs x. xs ++ x ∷ []) is_now is_status ∙ ap (λ n. made n (status_of f s)) (sym one)

-- the statuses after what was read of a file have as many basic columns as the form has rows, where they are a basis
pub basics_marked : (f : Form) (s : State) (k : ℕ) (statuses : List Status) → statuses ≡ made k (status_of f s) →
    k ≡ f.cols + f.rows → IsBasisOf f (marked_basis f s) → basics statuses ≡ f.rows
unfolding marked_basis
basics_marked f s k statuses is all fits =
    ap basics (is ∙ ap (λ k. made k (status_of f s)) all) ∙ basics_are_rows f (marked_basis f s) fits
