use Rattle.std.proofs.Common.{◌≡◌, ◌≤◌, ℕ, ℤ, pos, ◌*ℤ◌, unsigned_abs, SFits, to_z-of_z, subst, sym, ◌∙◌, arith}
use Rattle.std.proofs.Math.Nat.{le_trans}
use Rattle.std.proofs.lemmas.Int.{ints}
use mir.Syntax.{w64}
use Rattle.lp_frac.proofs.ProductSizes.{scaled}
use Rattle.lp_frac.proofs.small.small_on.Goals as goal

once : (n : ℤ) (q : ℕ) → q ≡ 1 → n ≡ n *ℤ pos q
once n q e = subst (λ (k : ℕ). n ≡ n *ℤ pos k) (sym e) (omega (arith, ints))

pub returns-then-q-eq1 : goal.returns-then-q-eq1
returns-then-q-eq1 c =
    let n : SFits w64 c.args.n = c.ranges.n in
    record {
      value = to_z-of_z n ∙ once c.args.n c.args.q c.if-q-eq1.true;
      size = simp to_z-of_z c.requires.n_size;
    }

pub overflow_cast-result : goal.overflow_cast-result
overflow_cast-result c = record { sfits = omega (arith, c.requires.q_size) }

size : (c : goal.Else-unsigned_abs) → unsigned_abs c.args.n ≤ 1073741824
size c =
    let n : SFits w64 c.args.n = c.ranges.n in
    omega (arith, c.if-unsigned_abs.false, simp to_z-of_z at c.unsigned_abs.ensures.value)

pub overflow_mul-result : goal.overflow_mul-result
overflow_mul-result c =
    (scaled w64 c.args.n c.args.q 1073741824 4294967295 c.ranges.n (size c) c.requires.q_size (omega arith)
    (omega arith)).fits

pub returns : goal.returns
returns c =
    let y =
    scaled w64 c.args.n c.args.q 1073741824 4294967295 c.ranges.n (size c) c.requires.q_size (omega arith)
    (omega arith) in
    record { value = y.value; size = le_trans y.size (omega arith) }
