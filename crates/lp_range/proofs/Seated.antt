-- The tableau of a basis that keeps a model has the model's size, and each basic column has a position; and what
-- stops its range is a refusal, unless memory ran out.
use Rattle.std.proofs.Common.{◌≡◌, ℕ, List, Option, None, Ok, arith}
use Rattle.spec_model.specs.Model.{Model, width, height}
use Rattle.spec_pivot.specs.declared.status.Status.{Status}
use Rattle.spec_simplex.specs.Form.{Form, form_of}
use Rattle.spec_simplex.specs.Tableau.{Tableau}
use Rattle.spec_simplex.specs.Eliminate.{start_from}
use Rattle.spec_runs.proofs.DualRatioTest.{place_is}
use Rattle.spec_range.specs.Span.{Keeps}
use Rattle.spec_range.proofs.Checked.{parts, tableau}
use Rattle.spec_range.proofs.CostRange.{kept}
use Rattle.lp_range.specs.Answer.{IsSeated}

-- the tableau has as many columns and rows as the model, and each basic column a position
pub record Suited (m : Model) (t : Tableau) : Type 0 where
  pub seated : IsSeated t
  pub cols : t.cols ≡ width m
  pub rows : t.rows ≡ height m

-- the start from a basis that keeps a model has as many columns and rows as the model, and each basic column a position
pub suited : (limit : Option ℕ) (m : Model) (f : Form) (basis : List Status) (t : Tableau) →
    form_of limit m ≡ Ok f → Keeps m basis → start_from limit f basis ≡ Ok t → Suited m t
suited limit m f basis t formed keeps ok =
    let s = kept limit m basis f t formed keeps ok in
    let p = parts None m s.limits s.limited basis s.fits t s.started in
    let g = tableau None m s.limits s.limited basis s.fits t s.started in
    let rows : t.rows ≡ height m = p.rows in
    let cols : t.cols ≡ width m = p.cols in
    record {
      seated = λ k k_in b. let w = g.placed k (omega (arith, k_in, rows, cols)) b in
          (place_is t k t.rows w.0 (omega (arith, w.1, rows)) w.2).0;
      cols = cols;
      rows = rows;
    }
