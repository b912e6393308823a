-- One width of words after the other, and the start.
--
-- `pause_ready`: a run over rows that stops to go on in wider words leaves a state from which a run may go on.
-- `then_ends`: a result that ends one run ends every run that is equal to it.
-- `start_size`: the start of a form has the form's rows and columns.
-- `whole_ends`: a result that ends both phases from the start of a model's form ends the cold run of the form.
-- `end_stated`: where the row end of a run, with its numbers left as fractions, is e, the answer of the run is e as an
--   end, without its rows.
-- `end_narrow`: a certificate whose numbers all have at most 127 bits has at most 127 bits.
use Rattle.std.proofs.Common.{◌≡◌, ℕ, List, Option, None, Result, Ok, Err, IfOk, refl, sym}
use Rattle.std.proofs.Common.{ap, ◌∙◌, subst}
use Rattle.spec_exact.specs.Fraction.{ℚ}
use Rattle.spec_exact.specs.Narrow.{IsNarrow}
use Rattle.spec_model.specs.Model.{Model}
use Rattle.spec_check.specs.declared.certificate.Certificate.{Certificate}
use Rattle.spec_check.specs.declared.certificate.Certificate.TheVariants as certificate
use Rattle.spec_check.specs.Certificate.{IsNarrowCertificate}
use Rattle.spec_runs.specs.Cold.{basis_at}
use Rattle.spec_simplex.specs.declared.ends.RunStop.{RunStop}
use Rattle.spec_simplex.specs.declared.ends.RunStop.TheVariants as stop
use Rattle.spec_exact.specs.Run.{◌>>=◌, refused_as, list_run}
use Rattle.spec_simplex.specs.Form.{Form, form_of}
use Rattle.spec_simplex.specs.Start.{row_start, begun, first_costs, priced_run, with_reduced, start_of}
use Rattle.spec_simplex.specs.Tableau.{Tableau}
use Rattle.spec_simplex.specs.Phases.{PhasesEnd, Infeasible, Finished, phases_run}
use Rattle.spec_simplex.proofs.FormOfModel.{form_is, form_proper, cost_length}
use Rattle.spec_simplex.proofs.RunParts.{then_ok}
use Rattle.spec_factor.specs.Over.{answer_of, answer_in}
use Rattle.lp_rows.specs.Shows.{IsReached}
use Rattle.lp_rows.specs.Ends.{AllFit}
use Rattle.lp_row_runs.specs.Phases.{row_end, row_end_in, HasCosts, IsReady, IsLeft, PausesWith, StaysReady}
use Rattle.lp_row_runs.specs.Cold.{start_run, EndsAs, over_end}
use Rattle.lp_row_runs.specs.declared.phases.State.{State}
use Rattle.lp_row_runs.specs.declared.phases.RowEnd.{RowEnd}
use Rattle.lp_row_runs.specs.declared.phases.PhasesPause.{PhasesPause}
use Rattle.lp_row_runs.specs.declared.phases.PhasesPause.TheVariants as pause
use Rattle.lp_row_runs.proofs.Reached.{start_reached, start_without}
use Rattle.lp_row_runs.proofs.Ended.{same_at}

-- ---- what a pause leaves
module _ {T : Type 0} (value : T → ℕ) (budget : ℕ) (f : Form) (whole : Result PhasesEnd (RunStop ℚ)) where
  module _ {N : Type 0} (of : ℚ → N) where
    -- where a run pauses as ended with e, the row end of the whole run is e
    pub pause_ended : (s : State T) (p : PhasesPause N) (e : RowEnd N) → p ≡ pause.Ended e →
        PausesWith of value budget f whole s p → row_end_in of whole ≡ Ok e
    pause_ended s p e h k = subst (PausesWith of value budget f whole s) h k

    -- where a run pauses for want of width, what is left of the whole run is the run from the state s
    pub pause_left : (s : State T) (p : PhasesPause N) → p ≡ pause.Narrow → PausesWith of value budget f whole s p →
        IsLeft value budget f whole s
    pause_left s p h k = subst (PausesWith of value budget f whole s) h k

pub pause_ready : {N T : Type 0} (value : T → ℕ) (f : Form) (s : State T) (p : PhasesPause N) → p ≡ pause.Narrow →
    StaysReady value f s p → IsReady value f s
pause_ready value f s p h k = subst (StaysReady value f s) h k

pub then_ends : {N E : Type 0} (of : ℚ → N) (whole mid : Result PhasesEnd (RunStop ℚ))
    (result : Result (Option (RowEnd N)) E) → whole ≡ mid → IfOk result (EndsAs of mid) → IfOk result (EndsAs of whole)
then_ends of whole mid result e k = subst (λ whole. IfOk result (EndsAs of whole)) (sym e) k

-- ---- the start

-- the start has the form's rows and columns
pub start_size : (limit : Option ℕ) (f : Form) (t : Tableau) → start_of limit f ≡ Ok t →
    (f.rows ≡ t.rows) × (f.cols ≡ t.cols)
unfolding start_of
start_size limit f t start =
    let o = then_ok (list_run f.rows (row_start limit f)) _ t start in
    let p = then_ok (priced_run limit (begun f o.0) (first_costs f o.0)) _ t o.2 in
    let z : with_reduced (begun f o.0) p.0 ≡ t = cc in
    subst (λ t. (f.rows ≡ t.rows) × (f.cols ≡ t.cols)) z (refl, refl)

-- where a form has the start t, its two phases are those from t
phases_are : (budget : ℕ) (f : Form) (t : Tableau) → start_of None f ≡ Ok t →
    phases_run None budget f ≡ start_run budget f t
unfolding phases_run
phases_are budget f t h = ap (λ o. refused_as stop.Past o >>= start_run budget f) h

-- the form of a model has a cost of each structural and logical column
has_costs : (limit : Option ℕ) (m : Model) (f : Form) → form_of limit m ≡ Ok f → HasCosts f
has_costs limit m f e = let o = form_is limit m f e in subst HasCosts o.2 (cost_length m o.0 o.1)

-- what ends both phases from the start ends those of the form
pub whole_ends : {N E : Type 0} (of : ℚ → N) (limit : Option ℕ) (budget : ℕ) (m : Model) (f : Form) (t : Tableau)
    (result : Result (Option (RowEnd N)) E) → form_of limit m ≡ Ok f → start_of limit f ≡ Ok t →
    (HasCosts f → IsReached t → IfOk result (EndsAs of (start_run budget f t))) →
    IfOk result (EndsAs of (phases_run None budget f))
whole_ends of limit budget m f t result formed start k =
    then_ends of (phases_run None budget f) (start_run budget f t) result
    (phases_are budget f t (start_without limit f t start))
    (k (has_costs limit m f formed) (start_reached limit f t (form_proper limit m f formed) start))

-- ---- with fractions in the certificate

-- an end over rows, with fractions in its certificate, is the end on whole tableaus
same_end : (end : PhasesEnd) → over_end (row_end (λ q. q) end) ≡ answer_of end
same_end (Infeasible t used) = refl
same_end (Finished e) =
    ap (λ c. over_end (record { certificate = c; basis = basis_at e.tableau e.end; pivots = e.used }))
    (same_at e.tableau e.end)

pub end_stated : (whole : Result PhasesEnd (RunStop ℚ)) (e : RowEnd ℚ) → row_end_in (λ q. q) whole ≡ Ok e →
    answer_in whole ≡ Ok (over_end e)
end_stated (Ok end) e h =
    let is : row_end (λ q. q) end ≡ e = cc in
    ap Ok (sym (same_end end) ∙ ap over_end is)
end_stated (Err s) e h = let z : ◌≡◌ {A = Result (RowEnd ℚ) (RunStop ℚ)} (Err s) (Ok e) = h in cc

pub end_narrow : (c : Certificate (List ℚ)) → AllFit IsNarrow c → IsNarrowCertificate c
end_narrow (certificate.Optimal x y) h = h
end_narrow (certificate.Infeasible y) h = h
end_narrow (certificate.Clash j) h = h
end_narrow (certificate.Unbounded x r) h = h
