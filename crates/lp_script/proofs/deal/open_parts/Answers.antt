-- One more part.
use Rattle.std.proofs.Common.{◌≡◌, [], ◌∙◌, sym, subst, arith}
use Rattle.std.specs.List.{All}
use Rattle.std.proofs.lemmas.List.Elements.{All-push}
use Rattle.lp_script.specs.declared.part.Part.{Part}
use Rattle.lp_script.specs.Parts.{IsOpen}
use Rattle.lp_script.proofs.deal.open_parts.Goals as goal

pub loop-index-preserved : goal.loop-index-preserved
loop-index-preserved c =
    let so = c.loop-index.invariant in
    let new = c.in_ok-new.ensures in
    let part = c.in_ok-new.field-0 in
    let idle = (λ (x : Part). x.asks.items ≡ []) in record {
      len = omega (arith, so.len, c.push_reserved.ensures.len);
      room = c.push_reserved.ensures.capacity ∙ so.room;
      idle = subst (All idle) (sym c.push_reserved.ensures.items)
          (All-push idle c.loop-index.parts.items part so.idle new.idle);
      all = subst (All IsOpen) (sym c.push_reserved.ensures.items)
          (All-push IsOpen c.loop-index.parts.items part so.all new.opened);
    }
