-- A pivot: the exchange, and then the factors anew, if it is time.
use Rattle.std.proofs.Common.{◌≡◌, ℕ, List, Result, Some, Ok, sym, ap, ◌∙◌, subst}
use Rattle.std.specs.Prelude.{⊤}
use Rattle.spec_exact.specs.Fraction.{ℚ}
use Rattle.spec_pivot.specs.declared.status.Status.{Status}
use Rattle.spec_simplex.specs.declared.ends.RowStart.{RowStart}
use Rattle.spec_simplex.specs.declared.ends.RunStop.{RunStop}
use Rattle.spec_simplex.specs.declared.ends.RunStop.TheVariants as cause
use Rattle.spec_simplex.specs.Form.{Form}
use Rattle.spec_exact.specs.Run.{◌>>=◌, refused_as}
use Rattle.spec_exact.specs.Narrow.{number_limit}
use Rattle.spec_factor.specs.Factors.{column_of, ftran_run}
use Rattle.spec_factor.specs.Revised.{Revised, seen, pivot_over_run, refreshed_run}
use Rattle.lp_frac.specs.declared.stop.Stop.{Stop}
use Rattle.lp_revised.specs.declared.stop.Spent.{Spent}
use Rattle.lp_revised.specs.Answer.{StopsRevised, LeavesRevised}
use Rattle.lp_revised.specs.Moved.{exchanged_by}
use Rattle.lp_revised.proofs.Exchanged.{exchange_is}
use Rattle.lp_revised.proofs.Renewed.{stops_after}

module _ (f : Form) (starts : List (RowStart ℚ)) (s : Revised) (z : List ℚ) (p j : ℕ) (theta : ℚ) (to : Status)
    (h : ftran_run (Some number_limit) s.bare.rows s.pairs (column_of f j) ≡ Ok z) where
  abbrev exchange : Result Revised (RunStop ℚ)
  exchange = refused_as cause.Past (exchanged_by starts s z p j theta to)

  abbrev whole : Result Revised (RunStop ℚ)
  whole = pivot_over_run (Some number_limit) f s (seen starts s.bare j z) p j theta to

  from_exchange : (exchange >>= λ u. refreshed_run (Some number_limit) f u) ≡ whole
  from_exchange =
      ap (λ o. refused_as cause.Past o >>= λ u. refreshed_run (Some number_limit) f u)
      (sym (exchange_is starts s z p j theta to f h))

  -- where the exchange of a pivot stops for a reason, the pivot stops for it
  pub no_exchange : (e : Stop Spent) → StopsRevised exchange e → StopsRevised whole e
  no_exchange e k =
      subst (λ r. StopsRevised r e) from_exchange (stops_after exchange (λ u. refreshed_run (Some number_limit) f u) e
      k)

  -- where the exchange of a pivot gives u, what taking the factors of u anew leaves, if it is time, is what the pivot
  -- leaves
  pub pivots : (u new : Revised) (result : Result ⊤ (Stop Spent)) → exchange ≡ Ok u →
      LeavesRevised (refreshed_run (Some number_limit) f u) new result → LeavesRevised whole new result
  pivots u new result k l =
      subst (λ r. LeavesRevised r new result) (ap (λ o. o >>= λ u. refreshed_run (Some number_limit) f u) (sym k) ∙
      from_exchange) l
