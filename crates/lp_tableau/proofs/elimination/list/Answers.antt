-- A column in which the row is 0, and one more in which it is not.
use Rattle.std.proofs.Common.{refl, sym, ◌∙◌, arith}
use Rattle.std.proofs.lemmas.List.{length-set}
use Rattle.lp_tableau.proofs.Spots.{one_listed, zero_passed}
use Rattle.lp_tableau.proofs.elimination.list.Goals as goal

pub loop-k-preserved : goal.loop-k-preserved
loop-k-preserved c =
    let i = c.loop-k.invariant in
    record {
      few = omega (arith, i.few);
      len = length-set _ _ _ ∙ i.len;
      listed = one_listed _ _ _ _ (omega (arith, i.few, i.len, c.loop-k-test.true, c.requires.room)) i.listed;
    }

pub loop-k-preserved-then-is_zero : goal.loop-k-preserved-then-is_zero
loop-k-preserved-then-is_zero c =
    let i = c.loop-k.invariant in
    record {
      few = omega (arith, i.few);
      len = i.len;
      listed = zero_passed _ _ _ i.listed (sym c.at.ensures ∙ c.if-is_zero.ensures.0 refl);
    }
