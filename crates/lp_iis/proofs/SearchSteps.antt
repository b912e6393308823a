-- The steps of a search: one side after the other is left out or kept.
--
-- `ahead_first`: before the first step no side is kept, all are still to be tried, and all together are infeasible.
-- `ahead_at`: the sides that are still to be tried from i on are the side at i and those behind it.
-- `begun`: where the model's cold solve ends infeasible, the search begins with its certificate.
-- `begun_else`: where the search ends at once with the end of the model's cold solve, that end is one of a cold solve,
--   and not infeasible.
-- `certified_all`: the kept sides with an accepted certificate and their points are certified.
-- `ahead_same`: the invariant of the search holds of equal kept sides, points and infeasible sides.
use Rattle.std.proofs.Common.{◌≡◌, ℕ, ◌+◌, ◌<◌, List, length, drop, [], ◌∷◌, ◌++◌, All, Some, Ok}
use Rattle.std.proofs.Common.{inl, inr, refl, sym, ap, ◌∙◌, subst}
use Rattle.std.proofs.lemmas.List.{append_assoc, drop_more}
use Rattle.std.specs.Prelude.{slice_get}
use Rattle.std.proofs.lemmas.Option.{get_or_from_slice_get}
use Rattle.spec_exact.specs.Fraction.{ℚ}
use Rattle.spec_exact.specs.Narrow.{number_limit}
use Rattle.spec_check.specs.declared.certificate.Certificate.{Certificate}
use Rattle.spec_check.specs.declared.certificate.Known.TheVariants as known
use Rattle.spec_check.specs.Certificate.{IsFor}
use Rattle.spec_check.specs.Run.{check_run}
use Rattle.spec_check.specs.declared.solve_end.SolveEnd.TheVariants.{Ended, Past, Spent}
use Rattle.spec_runs.specs.Cold.{ExactSolveEnd}
use Rattle.spec_model.specs.Model.{Model}
use Rattle.spec_model.specs.Truth.{IsFeasible, IsInfeasible}
use Rattle.spec_iis.specs.declared.side.Side.{Side}
use Rattle.spec_iis.specs.Sides.{IsSide}
use Rattle.spec_iis.specs.Only.{only}
use Rattle.spec_iis.specs.declared.outcome.Iis.TheVariants.{Found, Other, Stopped}
use Rattle.spec_iis.specs.Rule.{IsRead, IsClash, IsFiltered, Reaches, used}
use Rattle.spec_iis.specs.Found.{ExactIis, EndsCold, ShowsInfeasible, IsElse, IsReached, IsStopped, MayFind}
use Rattle.spec_iis.proofs.Used.{Clashes, used_clash}
use Rattle.spec_iis.proofs.Readings.{used_read}
use Rattle.spec_iis.proofs.Listed.{listed_holds, all_listed, among_both}
use Rattle.spec_iis.proofs.Filtered.{filtered_none, filtered_without, filtered_kept, filtered_points, filtered_all}
use Rattle.spec_iis.proofs.Filtered.{clash_infeasible, present_without}
use Rattle.lp_iis.specs.declared.finding.First.TheVariants.{Infeasible, Else}
use Rattle.lp_iis.specs.Ways.{begin_by, IsBegun, GivesUpAt, IsOnWay, IsCertified, MayEnd}
use Rattle.lp_iis.proofs.Tried.{shown_infeasible}

-- ---- the way

-- the search has kept some sides and has `rest` to try; and `clash` are a few of both that no point meets together
pub record IsAhead (m : Model) (all kept rest : List Side) (points : List (List ℚ)) (clash : List Side) : Type 0 where
  pub way : IsOnWay m all kept rest points
  pub clashes : IsClash m (kept ++ rest) clash

pub ahead_first : (m : Model) (all : List Side) → All (IsSide m) all → IsInfeasible (only m all) →
    All (IsRead (Some number_limit) m) all → IsAhead m all [] all [] all
ahead_first m all present h read = record {
  way = record { filtered = filtered_none m all present h; read = read; onward = λ s r. r };
  clashes = record { among = all_listed all; infeasible = h };
}

-- the side that is looked at, and those behind it
pub ahead_at : (m : Model) (all kept : List Side) (points : List (List ℚ)) (clash : List Side) (i : ℕ) (x : Side) →
    i < length all → slice_get all i ≡ Some x → IsAhead m all kept (drop i all) points clash →
    IsAhead m all kept (x ∷ drop (i + 1) all) points clash
ahead_at m all kept points clash i x l e a = subst (λ rest. IsAhead m all kept rest points clash) same a
  where
    same : drop i all ≡ x ∷ drop (i + 1) all
    same = drop_more all i x l ∙ ap (λ y. y ∷ drop (i + 1) all) (get_or_from_slice_get all i x x e)

module _ (m : Model) (all kept : List Side) (x : Side) (rest : List Side) (points : List (List ℚ)) (clash : List Side)
    (a : IsAhead m all kept (x ∷ rest) points clash) where
  -- without the side that is looked at, each kept side and each side behind it is a side of the model
  pub others_present : All (IsSide m) (kept ++ rest)
  others_present = present_without m kept x rest a.way.filtered.present

  -- without the side that is looked at, the limit of each kept side and of each side behind it is read without a
  -- refusal
  pub others_read : All (IsRead (Some number_limit) m) (kept ++ rest)
  others_read =
      λ k d l. listed_holds (IsRead (Some number_limit) m) (kept ++ x ∷ rest) _ a.way.read (among_both kept x rest k d
      l)

  -- without the side that is looked at, the kept sides and those behind it are reached from all sides
  pub others_reached : Reaches m [] all (kept ++ rest)
  others_reached = a.way.onward (kept ++ rest) (inl refl)

  -- where the sides without the one that is looked at are infeasible still, the search goes on without it
  pub ahead_without : (few : List Side) → IsClash m (kept ++ rest) few → IsAhead m all kept rest points few
  ahead_without few h =
      let none = clash_infeasible m (kept ++ rest) few others_present h in
      record {
        way = record {
          filtered = filtered_without m kept x rest points a.way.filtered none;
          read = others_read;
          onward = λ s r. a.way.onward s (inr (inl (none, r)));
        };
        clashes = h;
      }

  -- where a point keeps all sides but the one that is looked at, the search keeps this side, with the point
  pub ahead_kept : (z : List ℚ) → IsFeasible (only m (kept ++ rest)) z →
      IsAhead m all (kept ++ x ∷ []) rest (points ++ z ∷ []) clash
  ahead_kept z h = record {
    way = record {
      filtered = filtered_kept m kept x rest points z a.way.filtered h;
      read = subst (All (IsRead (Some number_limit) m)) (sym same) a.way.read;
      onward = λ s r. a.way.onward s (inr (inr ((z, h), r)));
    };
    clashes = subst (λ sides. IsClash m sides clash) (sym same) a.clashes;
  }
    where
      same : (kept ++ x ∷ []) ++ rest ≡ kept ++ x ∷ rest
      same = append_assoc kept (x ∷ []) rest

-- ---- the begin
pub begun : (budget : ℕ) (m : Model) (end : ExactSolveEnd) (cert : Certificate (List ℚ)) → EndsCold m budget end →
    begin_by end ≡ Infeasible cert → IsBegun budget m cert
begun budget m (Ended known.Infeasible c basis pivots) cert e h =
    let same : c ≡ cert = cc in
    record {
      basis = basis;
      pivots = pivots;
      ends = subst (λ c. EndsCold m budget (Ended known.Infeasible c basis pivots)) same e;
    }
begun budget m (Ended (known.Optimal v) c basis pivots) cert e h = cc
begun budget m (Ended known.Unbounded c basis pivots) cert e h = cc
begun budget m (Past p) cert e h = cc
begun budget m Spent cert e h = cc

pub begun_else : (budget : ℕ) (m : Model) (end other : ExactSolveEnd) → EndsCold m budget end →
    begin_by end ≡ Else other → EndsCold m budget other × IsElse other
begun_else budget m end other e h = (subst (EndsCold m budget) (same end other h) e, by end other h)
  where
    same : (end other : ExactSolveEnd) → begin_by end ≡ Else other → end ≡ other
    same (Ended known.Infeasible c basis pivots) other h = cc
    same (Ended (known.Optimal v) c basis pivots) other h = cc
    same (Ended known.Unbounded c basis pivots) other h = cc
    same (Past p) other h = cc
    same Spent other h = cc

    by : (end other : ExactSolveEnd) → begin_by end ≡ Else other → IsElse other
    by (Ended known.Infeasible c basis pivots) other h = cc
    by (Ended (known.Optimal v) c basis pivots) other h =
        let q : Ended (known.Optimal v) c basis pivots ≡ other = cc in subst IsElse q tt
    by (Ended known.Unbounded c basis pivots) other h =
        let q : Ended known.Unbounded c basis pivots ≡ other = cc in subst IsElse q tt
    by (Past p) other h = let q : Past p ≡ other = cc in subst IsElse q tt
    by Spent other h = let q : Spent ≡ other = cc in subst IsElse q tt

module _ (budget : ℕ) (m : Model) (cert : Certificate (List ℚ)) (b : IsBegun budget m cert) where
  -- the certificate with which a search begins fits the model
  pub begun_fits : IsFor m cert
  begun_fits = b.ends.may_answer.0

  -- the check accepts the certificate with which a search begins, as one of infeasibility
  pub begun_accepted : check_run (Some number_limit) m cert ≡ Ok known.Infeasible
  begun_accepted = b.ends.may_answer.2

  -- a model with which a search begins is infeasible
  begun_infeasible : IsInfeasible m
  begun_infeasible =
      shown_infeasible m cert
      (record { fits = b.ends.may_answer.0; narrow = b.ends.may_answer.1; accepted = b.ends.may_answer.2 })

  -- the sides that the certificate uses clash: no point keeps them all
  pub begun_clash : Clashes m (used m cert)
  begun_clash = used_clash (Some number_limit) m cert begun_fits begun_accepted

  -- the limit of each side that the certificate uses is read without a refusal
  pub begun_read : All (IsRead (Some number_limit) m) (used m cert)
  begun_read = used_read (Some number_limit) m cert begun_accepted

  -- sides that are reached from those of the certificate are sides that a search of the model may reach
  reached_at : (s : List Side) → Reaches m [] (used m cert) s → IsReached m budget s
  reached_at s r = record { certificate = cert; basis = b.basis; pivots = b.pivots; ends = b.ends; reached = r }

  -- where a solve gives up at sides that are reached from those of the certificate, the search stops with its end
  pub stopped_at : (end : ExactSolveEnd) → GivesUpAt budget m end (λ s. Reaches m [] (used m cert) s) →
      IsStopped m budget end
  stopped_at end g = record {
    infeasible = begun_infeasible;
    sides = g.sides;
    reached = reached_at g.sides g.reached;
    ends = g.ends;
    gives_up = g.gives_up;
  }

  -- where the search has come to the end of the certificate's sides with the kept ones, what it may end with may be
  -- found for the model
  pub may_find : (kept : List Side) (points : List (List ℚ)) → IsOnWay m (used m cert) kept [] points →
      (i : ExactIis) → MayEnd budget m kept i → MayFind m budget i
  may_find kept points w (Found sides c ps) h = record {
    irreducible = h.irreducible;
    reached = reached_at sides (w.onward sides h.same);
    certificate = h.certificate;
    without = h.without;
  }
  may_find kept points w (Other end) h = absurd h
  may_find kept points w (Stopped end) g =
      stopped_at end
      (record { sides = g.sides; reached = w.onward g.sides g.reached; ends = g.ends; gives_up = g.gives_up })

-- the kept sides with their certificate
pub certified_all : (m : Model) (kept : List Side) (points : List (List ℚ)) (cert : Certificate (List ℚ)) →
    IsFiltered m kept [] points → ShowsInfeasible (only m kept) cert → IsCertified m kept kept cert points
certified_all m kept points cert f h = record {
  same = refl;
  irreducible = filtered_all m kept points f;
  certificate = h;
  without = filtered_points m kept points f;
}

-- a search that stands ahead so stands ahead so with parts equal to its own
pub ahead_same : (m : Model) (all kept kept' rest : List Side) (points points' : List (List ℚ)) (clash clash' : List Side) →
    kept' ≡ kept → points' ≡ points → clash' ≡ clash → IsAhead m all kept rest points clash →
    IsAhead m all kept' rest points' clash'
ahead_same m all kept kept' rest points points' clash clash' k p c h = rw (k, p, c) h
