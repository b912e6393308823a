-- What a publish comes to.
use Rattle.std.proofs.Common.{◌≢◌, ℕ, ◌<◌, ap, ◌∙◌, subst, arith}
use Rattle.basis_board.specs.declared.seats.View.{View}
use Rattle.basis_board.specs.declared.seats.RawRead.TheVariants.{Lost}
use Rattle.basis_board.specs.Board.{noted}
use Rattle.basis_board.specs.Rule.{OwnsBelow, CountTells, Counted, Claimed}
use Rattle.basis_board.specs.Calls.{IsRaced}

-- a pass cannot have published exactly the places below n and exactly those below a greater e
two_bounds : (v : View) (n e : ℕ) → n < e → OwnsBelow v n → OwnsBelow v e → ⊥
two_bounds v n e less a b = let x = (a n).1 (omega arith) in let y = (b n).0 less in omega arith

-- a publication that read the count n and then finds another count has lost a race
pub raced : (v v1 w : View) (n e : ℕ) → Counted v n v1 → Claimed n v1 e w → e ≢ n → IsRaced v e w
raced v v1 w n e h g apart =
    let lost = g.lost apart in
    let noted_then = subst (λ (u : View). CountTells u e) h.view g.tells in
    let then : CountTells v e = record {
      within = noted_then.within;
      seen = noted_then.seen;
      reads = noted_then.reads.1;
      whole = noted_then.whole;
    } in record {
      count = n;
      view = lost.0 ∙ ap (λ u. noted u (Lost e)) h.view;
      grown = lost.1;
      tells = h.tells;
      tells_then = then;
      not_whole = λ all. two_bounds v n e lost.1 (h.tells.whole all) (then.whole all);
    }
