-- The right sides less what a fixed column adds to the rows, one row after the other.
--
-- `term_is`: the right side of row i that is computed of the partly changed model is that of the first model.
-- `shift_stops`: where a right side is refused, the shift of all right sides is.
-- `fixed_refused₁`: where the shift is refused, so is the reduction of a fixed column.
-- `fixed_refused₂`: where the new offset is refused, so is the reduction of a fixed column.
-- `fixed_done`: the shifted model with the new offset and without the column is the model after the reduction.
-- `cost_is`: the offset that is computed of the read column and offset is the stated one.
use Rattle.std.proofs.Common.{◌≡◌, ℕ, ◌<◌, ◌≤◌, List, length, get_or, Some, Ok, Err, refl, sym, ap, ap₂, ◌∙◌, arith}
use Rattle.spec_exact.specs.Fraction.{ℚ}
use Rattle.spec_exact.specs.declared.past.Past.{Past}
use Rattle.spec_exact.specs.Run.{Run, ◌>>=◌, less_product, plus_product, steps}
use Rattle.spec_exact.proofs.RunsInOrder.{steps_stop}
use Rattle.spec_exact.specs.Narrow.{number_limit}
use Rattle.spec_model.specs.Model.{Model, ExactRow, ExactColumn, no_column, height, row, column, cost, coefficient, entry_of}
use Rattle.spec_edit.specs.Changes.{with_rhs, with_offset, without_column}
use Rattle.spec_presolve.specs.declared.reduction.Reduction.TheVariants.{Fixed}
use Rattle.spec_presolve.specs.Reduce.{shifted, after}

-- the rows from k on are as they were, and the columns are
pub record Behind (m : Model) (k : ℕ) (x : Model) : Type 0 where
  pub columns_are : x.columns ≡ m.columns
  pub height_is : length x.rows ≡ length m.rows
  pub rest : (r : ℕ) → k ≤ r → row x r ≡ row m r

abbrev pub term : Model → ℕ → ℚ → ℕ → Run ℚ
term m j v i = less_product (Some number_limit) (coefficient m i j) v (row m i).rhs

abbrev pub move : Model → ℕ → ℚ → ℕ → Model → Run Model
move m j v i n = less_product (Some number_limit) (coefficient m i j) v (row m i).rhs >>= λ b. Ok (with_rhs n i b)

-- where the rows from i on are as they were, the right side that is computed for row i is the same
term_same : (m x : Model) (j i : ℕ) (v : ℚ) → Behind m i x → term x j v i ≡ term m j v i
term_same m x j i v h =
    ap₂
    (λ (cs : List ExactColumn) (r : ExactRow). less_product (Some number_limit) (entry_of (get_or cs j
    no_column).entries i) v r.rhs)
    h.columns_are (h.rest i (omega arith))

-- what was computed of the model so far is so of the first one
pub term_is : (m x : Model) (j i : ℕ) (v a : ℚ) (r : ExactRow) (o t : Run ℚ) → Behind m i x → a ≡ coefficient x i j →
    r ≡ row x i → o ≡ less_product (Some number_limit) a v r.rhs → o ≡ t → term m j v i ≡ t
term_is m x j i v a r o t h e f g k =
    sym (term_same m x j i v h)
    ∙ ap₂ (λ a (r : ExactRow). less_product (Some number_limit) a v r.rhs) (sym e) (sym f) ∙ sym g ∙ k

pub shift_stops : (m x : Model) (j i : ℕ) (v : ℚ) (p : Past ℚ) → i < height m → steps i (move m j v) m ≡ Ok x →
    term m j v i ≡ Err p → shifted (Some number_limit) m j v ≡ Err p
shift_stops m x j i v p l h e =
    steps_stop i (height m) (move m j v) m x p l h (ap (λ t. t >>= λ b. Ok (with_rhs x i b)) e)

-- ---- a column that stands still
pub fixed_refused₁ : (m : Model) (j : ℕ) (v : ℚ) (p : Past ℚ) → shifted (Some number_limit) m j v ≡ Err p →
    after (Some number_limit) m (Fixed j v) ≡ Err p
unfolding after
fixed_refused₁ m j v p e = rw e refl

pub fixed_refused₂ : (m x : Model) (j : ℕ) (v : ℚ) (p : Past ℚ) → shifted (Some number_limit) m j v ≡ Ok x →
    plus_product (Some number_limit) (cost m j) v m.offset ≡ Err p → after (Some number_limit) m (Fixed j v) ≡ Err p
unfolding after
fixed_refused₂ m x j v p e f = rw (e, f) refl

pub fixed_done : (m x n : Model) (j : ℕ) (v o : ℚ) → shifted (Some number_limit) m j v ≡ Ok x →
    plus_product (Some number_limit) (cost m j) v m.offset ≡ Ok o → n ≡ without_column (with_offset x o) j →
    after (Some number_limit) m (Fixed j v) ≡ Ok n
unfolding after
fixed_done m x n j v o e f g = rw (e, f, g) refl

pub cost_is : (m : Model) (j : ℕ) (v old : ℚ) (c : ExactColumn) (o t : Run ℚ) → c ≡ column m j → old ≡ m.offset →
    o ≡ plus_product (Some number_limit) c.cost v old → o ≡ t →
    plus_product (Some number_limit) (cost m j) v m.offset ≡ t
cost_is m j v old c o t e f g k =
    ap₂ (λ (c : ExactColumn) b. plus_product (Some number_limit) c.cost v b) (sym e) (sym f) ∙ sym g ∙ k
