-- The coefficient of a row, read at the place that a search has found.
--
-- `entry_there`: where the entry of row i stands at place k, its number is the coefficient of row i.
-- `entry_none`: where row i has no entry, its coefficient is 0.
use Rattle.std.proofs.Common.{◌≡◌, ℕ, ◌+◌, ◌<◌, [], ◌∷◌, ◌++◌, get_or, take, drop}
use Rattle.std.proofs.Common.{All, cond, refl, sym, ap, ◌∙◌, arith, eq-eqb, ne_eqb}
use Rattle.std.proofs.lemmas.List.{take-append-drop}
use Rattle.std.proofs.lemmas.List.Elements.{All-head, All-tail}
use Rattle.spec_exact.specs.Fraction.{ℚ, 0ℚ}
use Rattle.spec_model.specs.Model.{entry_of}
use Rattle.lp_model.specs.Place.{StandsAt, BelongsAt}
use Rattle.lp_model.proofs.Splits.{Entries, parts_around}

-- entries of earlier rows in front of others leave the entry of row i as it is
passed : (i : ℕ) (front rest : Entries) → All (λ e. e.0 < i) front → entry_of (front ++ rest) i ≡ entry_of rest i
passed i [] rest h = refl
passed i (e ∷ es) rest h =
    let l : e.0 < i = All-head (λ e. e.0 < i) e es h in
    ap (λ t. cond t e.1 (entry_of (es ++ rest) i)) (ne_eqb e.0 i (λ q. omega arith))
    ∙ passed i es rest (All-tail (λ e. e.0 < i) e es h)

-- where all entries are of later rows, row i has the entry 0
none_behind : (i : ℕ) (es : Entries) → All (λ e. i < e.0) es → entry_of es i ≡ 0ℚ
none_behind i [] h = refl
none_behind i (e ∷ es) h =
    let l : i < e.0 = All-head (λ e. i < e.0) e es h in
    ap (λ t. cond t e.1 (entry_of es i)) (ne_eqb e.0 i (λ q. omega arith))
    ∙ none_behind i es (All-tail (λ e. i < e.0) e es h)

pub entry_there : (i k : ℕ) (es : Entries) (d : ℕ × ℚ) → StandsAt i k es → (get_or es k d).1 ≡ entry_of es i
entry_there i k es d h =
    let parts : take k es ++ (get_or es k d ∷ drop (k + 1) es) ≡ es =
    parts_around es k d h.inside in
    sym (ap (λ xs. entry_of xs i) (sym parts) ∙ passed i (take k es) (get_or es k d ∷ drop (k + 1) es) h.split.before
    ∙ ap (λ t. cond t (get_or es k d).1 (entry_of (drop (k + 1) es) i)) (eq-eqb (get_or es k d).0 i (h.here d)))

pub entry_none : (i k : ℕ) (es : Entries) → BelongsAt i k es → 0ℚ ≡ entry_of es i
entry_none i k es h =
    sym (ap (λ xs. entry_of xs i) (sym (take-append-drop k es)) ∙ passed i (take k es) (drop k es) h.split.before
    ∙ none_behind i (drop k es) h.split.behind)
