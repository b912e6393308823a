-- The entries of a generated column stand in the order of their rows, and none is 0.
--
-- `entries-kept`: the entries of a generated column are in rows that there are, in their order, and none is 0.
-- `entries_narrow`: each entry of a generated column is a number of at most 127 bits.
use Rattle.std.proofs.Common.{◌≢◌, ℕ, zero, suc, ◌<◌, Bool, true, false, cond, List}
use Rattle.std.proofs.Common.{[], ◌∷◌, ◌++◌, All, sym, subst, append-nil, arith}
use Rattle.std.proofs.lemmas.List.Elements.{All-push, All-weaker}
use Rattle.std.proofs.lemmas.List.Quantifiers.{all_pairs_push}
use Rattle.spec_exact.specs.Fraction.{ℚ, 0ℚ}
use Rattle.spec_exact.specs.Narrow.{IsNarrow}
use Rattle.spec_model.specs.Kept.{AreEntries}
use Rattle.spec_commands.specs.Draws.{next}
use Rattle.spec_commands.specs.Generated.{number_from, has_entry, at_row, entry, entries}
use Rattle.spec_commands.proofs.GeneratedNumbers.{number_from_narrow, number_from_not_zero}

-- entries in rows below n, in order and none of them 0, stay so in n + 1 rows, also with a nonzero number in row n
-- added
more_entries : (b : Bool) (n : ℕ) (q : ℚ) (es : List (ℕ × ℚ)) → q ≢ 0ℚ → AreEntries n es →
    AreEntries (suc n) (es ++ cond b ((n, q) ∷ []) [])
more_entries false n q es h k =
    subst (AreEntries (suc n)) (sym (append-nil es))
    (record {
      inside = All-weaker (λ (e : ℕ × ℚ). e.0 < n) (λ (e : ℕ × ℚ). e.0 < suc n) (λ e l. omega arith) es k.inside;
      ascending = k.ascending;
      not_zero = k.not_zero;
    })
more_entries true n q es h k =
    record {
      inside =
          All-push (λ (e : ℕ × ℚ). e.0 < suc n) es (n, q)
          (All-weaker (λ (e : ℕ × ℚ). e.0 < n) (λ (e : ℕ × ℚ). e.0 < suc n) (λ e l. omega arith) es k.inside)
          (omega arith);
      ascending = all_pairs_push (λ (d e : ℕ × ℚ). d.0 < e.0) es (n, q) k.ascending (λ i d l. k.inside i d l);
      not_zero = All-push (λ (e : ℕ × ℚ). e.1 ≢ 0ℚ) es (n, q) k.not_zero h;
    }

pub entries-kept : (s n : ℕ) → AreEntries n (entries s n)
unfolding entries entry
entries-kept s zero =
    record {
      inside = λ i d l. absurd (omega arith);
      ascending = λ i j d k l. absurd (omega arith);
      not_zero = λ i d l. absurd (omega arith);
    }
entries-kept s (suc n) =
    more_entries (has_entry (at_row s n)) n (number_from 1 9 (next (at_row s n))) (entries s n)
    (number_from_not_zero 1 9 (next (at_row s n)) (omega arith))
    (entries-kept s n)

-- where entries have at most 127 bits, they do so with one more number of at most 127 bits or without it
more_narrow : (b : Bool) (n : ℕ) (q : ℚ) (es : List (ℕ × ℚ)) → IsNarrow q → All (λ e. IsNarrow e.1) es →
    All (λ e. IsNarrow e.1) (es ++ cond b ((n, q) ∷ []) [])
more_narrow false n q es h k = subst (All (λ (e : ℕ × ℚ). IsNarrow e.1)) (sym (append-nil es)) k
more_narrow true n q es h k = All-push (λ (e : ℕ × ℚ). IsNarrow e.1) es (n, q) k h

pub entries_narrow : (s n : ℕ) → All (λ e. IsNarrow e.1) (entries s n)
unfolding entries entry
entries_narrow s zero = λ i d l. absurd (omega arith)
entries_narrow s (suc n) =
    more_narrow (has_entry (at_row s n)) n (number_from 1 9 (next (at_row s n))) (entries s n)
    (number_from_narrow 1 9 (next (at_row s n)) (omega arith) (omega arith) (omega arith))
    (entries_narrow s n)
