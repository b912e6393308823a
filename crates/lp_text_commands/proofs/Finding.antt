-- What is known of the sides and points that a search finds.
--
-- `found_read`: the limit of each row among the sides that a search finds is read without a refusal.
-- `points_fit`: each point that a search finds has as many values as the model has columns.
use Rattle.std.proofs.Common.{◌≡◌, ℕ, ◌<◌, List, [], ◌∷◌, ◌++◌, All, Some, length, sym, ◌∙◌}
use Rattle.std.proofs.Common.{append-nil, ap, subst, ⊎_elim}
use Rattle.std.proofs.lemmas.List.{append_assoc, get_or_default}
use Rattle.spec_exact.specs.Fraction.{ℚ}
use Rattle.spec_exact.specs.Narrow.{number_limit}
use Rattle.spec_model.specs.Model.{Model, width}
use Rattle.spec_check.specs.declared.certificate.Certificate.{Certificate}
use Rattle.spec_iis.specs.declared.side.Side.{Side}
use Rattle.spec_iis.specs.Rule.{IsRead, Reaches, used}
use Rattle.spec_iis.specs.Irreducible.{ArePointsWithout}
use Rattle.spec_iis.specs.Found.{IsFound}
use Rattle.spec_iis.proofs.Listed.{listed_holds, among_both}
use Rattle.spec_iis.proofs.Readings.{used_read}
use Rattle.spec_iis.proofs.Points.{width-only}

-- ---- the sides

-- what holds of all sides of which some are kept holds of those
reached_hold : (P : Side → Type 0) (m : Model) (kept rest s : List Side) → All P (kept ++ rest) →
    Reaches m kept rest s → All P s
reached_hold P m kept [] s all r = subst (All P) (append-nil kept ∙ sym r) all
reached_hold P m kept (x ∷ rest) s all r =
    let others : All P (kept ++ rest) =
    λ k d l. listed_holds P (kept ++ x ∷ rest) _ all (among_both kept x rest k d l) in
    ⊎_elim (λ e. subst (All P) (sym e) others)
    (⊎_elim (λ h. reached_hold P m kept rest s others h.1)
    (λ h. reached_hold P m (kept ++ x ∷ []) rest s (subst (All P) (sym (append_assoc kept (x ∷ []) rest)) all) h.1)) r

-- none of their limits is refused
pub found_read : (m : Model) (budget : ℕ) (sides : List Side) (cert : Certificate (List ℚ)) (points : List (List ℚ)) →
    IsFound m budget sides cert points → All (IsRead (Some number_limit) m) sides
found_read m budget sides cert points f =
    let r = f.reached in
    reached_hold (IsRead (Some number_limit) m) m [] (used m r.certificate) sides
    (used_read (Some number_limit) m r.certificate r.ends.may_answer.2) r.reached

-- ---- the points

-- a part for each column
pub points_fit : (m : Model) (sides : List Side) (points : List (List ℚ)) → ArePointsWithout m sides points →
    All (λ z. length z ≡ width m) points
points_fit m sides points w = λ k d l.
    let inside : k < length sides = subst (λ n. k < n) w.one_each l in
    ap length (get_or_default points k d [] l) ∙ (w.feasible k inside).one_each ∙ width-only m _
