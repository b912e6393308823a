-- The reductions so far, and what the remaining ones make of them.
--
-- `has_column`: the column to which a chosen reduction gives new bounds is one of the smaller model.
-- `reached_more`: one more chosen reduction leads from the first model to the next smaller one.
-- `reached_end`: where as many reductions were made as may be, the reductions are done.
-- `reached_halt`: where a rule ends the reductions, they end so for the first model.
-- `reached_refused`: where the choice is refused an operation, the reductions of the first model are.
-- `reached_stop`: where a chosen reduction is refused an operation, the reductions of the first model are refused it.
use Rattle.std.proofs.Common.{◌≡◌, ℕ, suc, ◌+◌, ◌-◌, ◌<◌, Some, Ok, Err, List, [], ◌∷◌, ◌++◌, refl, sym, ap, ◌∙◌}
use Rattle.std.proofs.Common.{subst, arith}
use Rattle.std.proofs.lemmas.List.{append_assoc, append-nil, map-append}
use Rattle.spec_exact.specs.Fraction.{ℚ}
use Rattle.spec_exact.specs.Run.{Run, ◌>>=◌}
use Rattle.spec_exact.specs.declared.past.Past as past
use Rattle.spec_exact.proofs.Results.{ok_same}
use Rattle.spec_exact.specs.Narrow.{number_limit}
use Rattle.spec_model.specs.Model.{Model, width}
use Rattle.spec_model.specs.Kept.{IsModel}
use Rattle.spec_presolve.specs.declared.reduction.Reduction.TheVariants.{Empty, Single, Fixed}
use Rattle.spec_presolve.specs.declared.reduction.Halt.{Halt}
use Rattle.spec_presolve.specs.declared.reduction.Halt.TheVariants.{Done}
use Rattle.spec_presolve.specs.declared.reduction.Choice.TheVariants.{Reduce}
use Rattle.spec_presolve.specs.declared.reduction.Choice.TheVariants as choice
use Rattle.spec_presolve.specs.Choose.{ExactReduction, chosen}
use Rattle.spec_presolve.specs.Reduce.{Reductions, after, reduced_within}
use Rattle.spec_presolve.proofs.NextReduction.{what_goes}
use Rattle.spec_presolve.proofs.After.{single_step}
use Rattle.spec_presolve.proofs.KeptReductions.{after_kept}
use Rattle.lp_frac.specs.declared.stop.Stop.{Stop}
use Rattle.lp_frac.specs.declared.stop.Stop.TheVariants.{Cause, Past, NoMemory}
use Rattle.lp_presolve.specs.declared.step.Step.{Step}
use Rattle.lp_presolve.specs.Kept.{HasColumn, kept, all_kept}
use Rattle.lp_presolve.specs.Tells.{LeadsTo, StopsAt}

-- the column that has new bounds is one of the smaller model's
pub has_column : (m n : Model) (r : ExactReduction) → chosen (Some number_limit) m ≡ Ok (Reduce r) →
    after (Some number_limit) m r ≡ Ok n → HasColumn r n
unfolding after
has_column m n (Empty i) h a = tt
has_column m n (Fixed j v) h a = tt
has_column m n (Single i j a lower upper) h k =
    let f = what_goes (Some number_limit) m (Single i j a lower upper) h in
    let w = (single_step (Some number_limit) m i j a lower upper f).row.width_is in
    subst (λ n. j < width n) (ok_same _ n k) (subst (λ w. j < w) w f.alone.inside)

abbrev as_run : Reductions → Run Reductions
as_run r = Ok r

abbrev pub behind : List (ExactReduction × Model) → Reductions → Reductions
behind done r = record r { steps = done ++ r.steps }

-- the reductions of a run go behind these
abbrev pub all_behind : List (ExactReduction × Model) → Run Reductions → Run Reductions
all_behind done o = o >>= λ r. Ok (behind done r)

-- m was reduced to n in k steps, which stand behind those before
pub record Reached (m : Model) (before : List Step) (k : ℕ) (n : Model) (now : List Step) : Type 0 where
  pub kept_is : IsModel n
  pub done : List (ExactReduction × Model)
  pub now_is : now ≡ before ++ all_kept done
  pub leads : (rest : ℕ) → reduced_within (Some number_limit) (k + rest) m ≡ all_behind done (reduced_within
      (Some number_limit) rest n)

-- to put the reductions b before those of a run, and then a before these, is to put a and then b before those of the
-- run
two_behind : (a b : List (ExactReduction × Model)) (o : Run Reductions) →
    all_behind a (all_behind b o) ≡ all_behind (a ++ b) o
two_behind a b (Ok r) =
    ap (λ steps. as_run (record r { steps = steps })) (sym (append_assoc a b r.steps))
two_behind a b (Err p) = refl

-- where a reduction is chosen and leads to a model, the reductions are this one and then those of the model
one_more : (n x : Model) (r : ExactReduction) (k : ℕ) → chosen (Some number_limit) n ≡ Ok (Reduce r) →
    after (Some number_limit) n r ≡ Ok x →
    reduced_within (Some number_limit) (suc k) n ≡ all_behind ((r, x) ∷ []) (reduced_within (Some number_limit) k x)
one_more n x r k e f = rw (e, f) refl

pub reached_more : (m n x : Model) (before now next : List Step) (k : ℕ) (r : ExactReduction) → Reached m before k n now →
    chosen (Some number_limit) n ≡ Ok (Reduce r) → after (Some number_limit) n r ≡ Ok x → next ≡ now ++ kept r x ∷ [] →
    Reached m before (k + 1) x next
reached_more m n x before now next k r h e f g = record {
  kept_is = after_kept n x r h.kept_is (what_goes (Some number_limit) n r e) f;
  done = h.done ++ (r, x) ∷ [];
  now_is = g ∙ ap (λ xs. xs ++ kept r x ∷ []) h.now_is ∙ append_assoc before (all_kept h.done) (kept r x ∷ [])
      ∙ ap (λ xs. before ++ xs) (sym (map-append (λ (s : ExactReduction × Model). kept s.0 s.1) h.done ((r, x) ∷ [])));
  leads = λ rest.
      (let z : k + 1 + rest ≡ k + suc rest = omega arith in ap (λ k. reduced_within (Some number_limit) k m) z)
      ∙ h.leads (suc rest) ∙ ap (all_behind h.done) (one_more n x r rest e f)
      ∙ two_behind h.done ((r, x) ∷ []) (reduced_within (Some number_limit) rest x);
}

-- where choosing a reduction gives the end of the reductions, they end at this model
halts : (n : Model) (halt : Halt) (k : ℕ) → chosen (Some number_limit) n ≡ Ok (choice.Halt halt) →
    reduced_within (Some number_limit) (suc k) n ≡ Ok (record { steps = []; last = n; halt = halt })
halts n halt k e = rw e refl

-- where choosing a reduction overflows, the reductions stop with this overflow
stops : (n : Model) (p : past.Past ℚ) (k : ℕ) → chosen (Some number_limit) n ≡ Err p →
    reduced_within (Some number_limit) (suc k) n ≡ Err p
stops n p k e = rw e refl

-- where carrying out the chosen reduction overflows, the reductions stop with this overflow
stops_then : (n : Model) (r : ExactReduction) (p : past.Past ℚ) (k : ℕ) → chosen (Some number_limit) n ≡ Ok (Reduce r) →
    after (Some number_limit) n r ≡ Err p → reduced_within (Some number_limit) (suc k) n ≡ Err p
stops_then n r p k e f = rw (e, f) refl

-- where k is below `left`, k and one more than what is then left are together `left`
left_is : (k left : ℕ) → k < left → k + suc (left - suc k) ≡ left
left_is k left l = omega (arith, l)

-- with more than k reductions allowed, they are those done in k steps and then those of the reached model
at_left : (m n : Model) (before now : List Step) (k left : ℕ) (h : Reached m before k n now) → k < left →
    reduced_within (Some number_limit) left m ≡ all_behind h.done (reduced_within (Some number_limit) (suc (left - suc
    k)) n)
at_left m n before now k left h l =
    subst (λ w. reduced_within (Some number_limit) w m ≡ all_behind h.done (reduced_within (Some number_limit) (suc
    (left - suc k)) n))
    (left_is k left l) (h.leads (suc (left - suc k)))

-- where reductions of m lead to n and the run ends there, the run from m leads to n, and what is kept of these
-- reductions is all that it appends
closed : (m n : Model) (before now : List Step) (halt : Halt) (left : ℕ) (done : List (ExactReduction × Model)) →
    now ≡ before ++ all_kept done →
    reduced_within (Some number_limit) left m ≡ all_behind done (Ok (record { steps = []; last = n; halt = halt })) →
    LeadsTo (reduced_within (Some number_limit) left m) n before now halt
closed m n before now halt left done e h = (
  done,
  h ∙ ap (λ steps. as_run (record { steps = steps; last = n; halt = halt })) (append-nil done),
  e,
)

pub reached_end : (m n : Model) (before now : List Step) (k left : ℕ) → k ≡ left → Reached m before k n now →
    LeadsTo (reduced_within (Some number_limit) left m) n before now Done
reached_end m n before now k left e h =
    closed m n before now Done left h.done h.now_is
    ((let z : left ≡ k + 0 = omega (arith, e) in ap (λ k. reduced_within (Some number_limit) k m) z) ∙ h.leads 0)

pub reached_halt : (m n : Model) (before now : List Step) (k left : ℕ) (halt : Halt) → Reached m before k n now → k < left →
    chosen (Some number_limit) n ≡ Ok (choice.Halt halt) → LeadsTo (reduced_within (Some number_limit) left m) n before
    now halt
reached_halt m n before now k left halt h l e =
    closed m n before now halt left h.done h.now_is (at_left m n before now k left h l ∙ ap (all_behind h.done) (halts n halt (left - suc k) e))

pub reached_refused : (m n : Model) (before now : List Step) (k left : ℕ) (p : past.Past ℚ) → Reached m before k n now →
    k < left → chosen (Some number_limit) n ≡ Err p → reduced_within (Some number_limit) left m ≡ Err p
reached_refused m n before now k left p h l e =
    at_left m n before now k left h l ∙ ap (all_behind h.done) (stops n p (left - suc k) e)

pub reached_stop : {C : Type 0} (m n : Model) (before now : List Step) (k left : ℕ) (r : ExactReduction) (e : Stop C) →
    Reached m before k n now → k < left → chosen (Some number_limit) n ≡ Ok (Reduce r) →
    StopsAt (after (Some number_limit) n r) e → StopsAt (reduced_within (Some number_limit) left m) e
reached_stop m n before now k left r (Cause c) h l f s = s
reached_stop m n before now k left r (Past p) h l f s =
    at_left m n before now k left h l ∙ ap (all_behind h.done) (stops_then n r p (left - suc k) f s)
reached_stop m n before now k left r NoMemory h l f s = tt
