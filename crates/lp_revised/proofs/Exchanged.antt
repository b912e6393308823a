-- A pivot's exchange, part by part.
use Rattle.std.proofs.Common.{◌≡◌, ℕ, suc, List, [], Some, Ok, sym, ap, ◌∙◌}
use Rattle.spec_exact.specs.Fraction.{ℚ}
use Rattle.spec_pivot.specs.declared.status.Status.{Status}
use Rattle.spec_simplex.specs.declared.ends.RowStart.{RowStart}
use Rattle.spec_simplex.specs.Form.{Form}
use Rattle.spec_exact.specs.Run.{Run, ◌>>=◌}
use Rattle.spec_simplex.specs.Step.{shifted_run, exchanged, turned}
use Rattle.spec_factor.specs.Factors.{Factors, with_pair, column_of, ftran_run, replace_run}
use Rattle.spec_factor.specs.Revised.{Revised, seen, exchange_run}
use Rattle.std.specs.Prelude.{slice_set}
use Rattle.spec_exact.specs.Narrow.{number_limit}
use Rattle.lp_revised.specs.Moved.{moves_by, exchanged_by}
use Rattle.lp_revised.proofs.MovedBasics.{moves_are}

module _ (starts : List (RowStart ℚ)) (s : Revised) (z : List ℚ) (p j : ℕ) (theta : ℚ) (to : Status) where
  abbrev whole : Run Revised
  whole = exchanged_by starts s z p j theta to

  abbrev new_factors : List ℚ → Factors
  new_factors v = record { pairs = with_pair s.pairs p v; basic = slice_set s.bare.basic p j }

  abbrev with_factors : List ℚ → Factors → Run Revised
  with_factors shifted factors =
      Ok (record {
        bare = exchanged (turned s.bare shifted [] []) p j to;
        pairs = factors.pairs;
        replaced = suc
            s.replaced;
      })

  abbrev by_solve : Run (List ℚ) → List ℚ → Run Revised
  by_solve solve values =
      shifted_run (Some number_limit) values j theta >>= λ shifted. (solve >>= λ v. Ok (new_factors v)) >>= λ factors.
      with_factors shifted factors

  -- where ftran of column j by the state's pairs gives z, the definition's exchange of column j into place p is the one
  -- by z, `exchanged_by`
  pub exchange_is : (f : Form) → ftran_run (Some number_limit) s.bare.rows s.pairs (column_of f j) ≡ Ok z →
      exchange_run (Some number_limit) f s (seen starts s.bare j z) p j theta to ≡ whole
  unfolding exchange_run replace_run
  exchange_is f h =
      ap (λ o. o >>= by_solve (ftran_run (Some number_limit) s.bare.rows s.pairs (column_of f j)))
      (sym (moves_are starts s z theta (Some p) j))
      ∙ ap (λ o. moves_by starts s.bare z theta (Some p) s.bare.rows >>= by_solve o) h
