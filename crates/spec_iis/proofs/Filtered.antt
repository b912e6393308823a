-- What holds as the rule leaves out sides one by one: at its begin, over each of its two steps, and at its end.
--
-- `filtered_none`: where sides of the model are infeasible together, the invariant of the rule holds at its begin.
-- `clash_infeasible`: sides are infeasible together where a few of them are.
-- `clash_without`: a few sides that clash still do so without a side that is none of them.
-- `present_without`: where all sides of a list are sides of the model, so are all without one of them.
-- `filtered_without`: the rule's invariant stays where a side is left out and all the remaining sides are still
--   infeasible together.
-- `filtered_kept`: the invariant stays where a side is kept, by a point that is feasible without it.
-- `filtered_points`: at the end each kept side has a point that is feasible without it.
-- `filtered_all`: at the end the kept sides are an irreducible infeasible set.
use Rattle.std.proofs.Common.{◌≡◌, ◌≢◌, ℕ, ◌-◌, ◌<◌, false, List, [], ◌∷◌, ◌++◌, All, length, get_or}
use Rattle.std.proofs.Common.{refl, sym, ap, ◌∙◌, subst, subst₂, arith, ⊎_elim, length-append}
use Rattle.std.specs.List.{remove}
use Rattle.std.proofs.lemmas.Bool.{cases_eq}
use Rattle.std.proofs.lemmas.List.{append_assoc, append-nil}
use Rattle.std.proofs.lemmas.List.Edits.{remove-append_left, remove-append_right}
use Rattle.std.proofs.Math.ListN.{get_or-append}
use Rattle.std.proofs.Math.Seq.{get_or-append_seam}
use Rattle.spec_exact.specs.Fraction.{ℚ}
use Rattle.spec_model.specs.Model.{Model}
use Rattle.spec_model.specs.Truth.{IsFeasible, IsInfeasible}
use Rattle.spec_iis.specs.declared.side.Side.{Side}
use Rattle.spec_iis.specs.Sides.{IsSide, is_listed}
use Rattle.spec_iis.specs.Only.{only}
use Rattle.spec_iis.specs.Irreducible.{IsIrreducible, ArePointsWithout}
use Rattle.spec_iis.specs.Rule.{IsClash, IsFiltered}
use Rattle.spec_iis.proofs.Listed.{listed_holds, among_both, among_without}
use Rattle.spec_iis.proofs.Points.{more_points}
use Rattle.spec_edit.proofs.ListLemmas.{All-remove}

pub filtered_none : (m : Model) (sides : List Side) → All (IsSide m) sides → IsInfeasible (only m sides) →
    IsFiltered m [] sides []
filtered_none m sides present h =
    record { present = present; infeasible = h; one_each = refl; feasible = λ k l. absurd (omega arith) }

-- sides are infeasible together where a few of them are
pub clash_infeasible : (m : Model) (sides few : List Side) → All (IsSide m) sides → IsClash m sides few →
    IsInfeasible (only m sides)
clash_infeasible m sides few present clash z f = clash.infeasible z (more_points m few sides z present clash.among f)

-- one that is none of the few is not needed for that
pub clash_without : (m : Model) (kept : List Side) (x : Side) (rest few : List Side) →
    IsClash m (kept ++ x ∷ rest) few → is_listed few x ≡ false → IsClash m (kept ++ rest) few
clash_without m kept x rest few clash f =
    record { among = among_without few kept x rest f clash.among; infeasible = clash.infeasible }

pub present_without : (m : Model) (kept : List Side) (x : Side) (rest : List Side) → All (IsSide m) (kept ++ x ∷ rest) →
    All (IsSide m) (kept ++ rest)
present_without m kept x rest present =
    λ k d l. listed_holds (IsSide m) (kept ++ x ∷ rest) _ present (among_both kept x rest k d l)

-- without one more
pub filtered_without : (m : Model) (kept : List Side) (x : Side) (rest : List Side) (points : List (List ℚ)) →
    IsFiltered m kept (x ∷ rest) points → IsInfeasible (only m (kept ++ rest)) → IsFiltered m kept rest points
filtered_without m kept x rest points f h = record {
  present = present_without m kept x rest f.present;
  infeasible = h;
  one_each = f.one_each;
  feasible = λ k l. more_points m (remove kept k ++ rest) (remove kept k ++ x ∷ rest) (get_or points k [])
      (others_present k l) (among_both (remove kept k) x rest) (f.feasible k l);
}
  where
    others_present : (k : ℕ) → k < length kept → All (IsSide m) (remove kept k ++ x ∷ rest)
    others_present k l =
        subst (All (IsSide m)) (remove-append_left kept (x ∷ rest) k l)
        (All-remove (IsSide m) (kept ++ x ∷ rest) k f.present)

-- appending a side to a list and removing the last side again gives the list
removed_last : (kept : List Side) (x : Side) → remove (kept ++ x ∷ []) (length kept) ≡ kept
removed_last kept x =
    remove-append_right kept (x ∷ []) (length kept) (length kept) refl (omega arith)
    ∙ (let e : length kept - length kept ≡ 0 = omega arith in ap (λ k. kept ++ remove (x ∷ []) k) e ∙ append-nil kept)

-- with one more that is kept
pub filtered_kept : (m : Model) (kept : List Side) (x : Side) (rest : List Side) (points : List (List ℚ)) (z : List ℚ) →
    IsFiltered m kept (x ∷ rest) points → IsFeasible (only m (kept ++ rest)) z →
    IsFiltered m (kept ++ x ∷ []) rest (points ++ z ∷ [])
filtered_kept m kept x rest points z f h = record {
  present = subst (All (IsSide m)) (sym same) f.present;
  infeasible = subst (λ sides. IsInfeasible (only m sides)) (sym same) f.infeasible;
  one_each = omega (arith, length-append points (z ∷ []), length-append kept (x ∷ []), f.one_each);
  feasible = λ k l. ⊎_elim (at k) (λ n. before k (let d : k ≢ length kept = n in omega (arith, length-append kept (x ∷ []))))
      (cases_eq k (length kept));
}
  where
    same : (kept ++ x ∷ []) ++ rest ≡ kept ++ x ∷ rest
    same = append_assoc kept (x ∷ []) rest

    at : (k : ℕ) → k ≡ length kept →
        IsFeasible (only m (remove (kept ++ x ∷ []) k ++ rest)) (get_or (points ++ z ∷ []) k [])
    at k e =
        subst₂ (λ sides z. IsFeasible (only m (sides ++ rest)) z)
        (sym (ap (remove (kept ++ x ∷ [])) e ∙ removed_last kept x))
        (sym (ap (λ k. get_or (points ++ z ∷ []) k []) (e ∙ sym f.one_each) ∙ get_or-append_seam points z [] [])) h

    before : (k : ℕ) → k < length kept →
        IsFeasible (only m (remove (kept ++ x ∷ []) k ++ rest)) (get_or (points ++ z ∷ []) k [])
    before k l =
        subst₂ (λ sides z. IsFeasible (only m sides) z)
        (sym (ap (λ sides. sides ++ rest) (remove-append_left kept (x ∷ []) k l)
        ∙ append_assoc (remove kept k) (x ∷ []) rest))
        (sym (get_or-append points (z ∷ []) [] k (omega (arith, f.one_each)))) (f.feasible k l)

-- ---- at the end
pub filtered_points : (m : Model) (kept : List Side) (points : List (List ℚ)) → IsFiltered m kept [] points →
    ArePointsWithout m kept points
filtered_points m kept points f = record {
  one_each = f.one_each;
  feasible = λ k l. subst (λ sides. IsFeasible (only m sides) (get_or points k [])) (append-nil (remove kept k))
      (f.feasible k l);
}

pub filtered_all : (m : Model) (kept : List Side) (points : List (List ℚ)) → IsFiltered m kept [] points →
    IsIrreducible m kept
filtered_all m kept points f = record {
  present = subst (All (IsSide m)) (append-nil kept) f.present;
  infeasible = subst (λ sides. IsInfeasible (only m sides)) (append-nil kept) f.infeasible;
  needed = λ k l. (get_or points k [], (filtered_points m kept points f).feasible k l);
}
