-- A walk over the entries of a column.
--
-- `entry_here`: where entry k is of row i, the entries from k on read as its value at i.
-- `entry_on`: where entry k is of another row, the entries from k on read at i as those behind it.
use Rattle.std.proofs.Common.{◌≡◌, ℕ, ◌+◌, ◌<◌, cond, eqb, List, length, drop, get_or, sym, ap, ◌∙◌}
use Rattle.std.proofs.lemmas.Bool.{eq-eqb, ne_eqb}
use Rattle.std.proofs.lemmas.List.{drop_more}
use Rattle.spec_exact.specs.Fraction.{ℚ}
use Rattle.spec_model.specs.Model.{entry_of}

-- from entry k on, the value at row i is that of entry k if it is of row i, and else that of the entries behind it
next_is : (es : List (ℕ × ℚ)) (k i : ℕ) (e : ℕ × ℚ) → k < length es → e ≡ get_or es k e →
    entry_of (drop k es) i ≡ cond (eqb e.0 i) e.1 (entry_of (drop (k + 1) es) i)
next_is es k i e l h =
    ap (λ xs. entry_of xs i) (drop_more es k e l)
    ∙ ap (λ (x : ℕ × ℚ). cond (eqb x.0 i) x.1 (entry_of (drop (k + 1) es) i)) (sym h)

-- this entry is the row's
pub entry_here : (es : List (ℕ × ℚ)) (k i : ℕ) (e : ℕ × ℚ) → k < length es → e ≡ get_or es k e → e.0 ≡ i →
    entry_of (drop k es) i ≡ e.1
entry_here es k i e l h q =
    next_is es k i e l h ∙ ap (λ t. cond t e.1 (entry_of (drop (k + 1) es) i)) (eq-eqb e.0 i q)

-- where entry k is of another row than i, the entry of row i from place k on is the one from place k + 1 on
pub entry_on : (es : List (ℕ × ℚ)) (k i : ℕ) (e : ℕ × ℚ) → k < length es → e ≡ get_or es k e → ¬ (e.0 ≡ i) →
    entry_of (drop k es) i ≡ entry_of (drop (k + 1) es) i
entry_on es k i e l h o =
    next_is es k i e l h ∙ ap (λ t. cond t e.1 (entry_of (drop (k + 1) es) i)) (ne_eqb e.0 i o)
