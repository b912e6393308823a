-- What the calls of a session's step keep of a pass.
--
-- `calls_places`: the calls of a step leave the number of places as it is.
-- `calls_orderly`: the calls of a step leave the reads of a consistent pass in order, if they were.
use Rattle.std.proofs.Common.{◌≡◌, ap, sym, ◌∙◌, subst, inl, inr}
use Rattle.spec_board.specs.Reads.{Words}
use Rattle.basis_board.specs.declared.seats.View.{View}
use Rattle.basis_board.specs.declared.board.Look.{Look}
use Rattle.basis_board.specs.declared.board.Look.TheVariants.{Found, NoneReady}
use Rattle.spec_board.specs.declared.read.Put.{Put}
use Rattle.spec_board.specs.declared.read.Put.TheVariants.{Published, Full, Raced}
use Rattle.basis_board.specs.Calls.{Looks, Puts}
use Rattle.basis_board.specs.Rule.{Consistent}
use Rattle.basis_board.specs.Orderly.{IsOrderly}
use Rattle.basis_board.proofs.KeepOrder.{looks_keep, puts_keep}
use Rattle.lp_session.specs.Boarding.{MayPut, StepCalls}

-- a look leaves the number of places of a pass as it is
looks_places : (shape : Words) (v w : View) (look : Look) → Looks shape v look w → w.places ≡ v.places
looks_places shape v w (NoneReady c) d = ap (λ (x : View). x.places) d.view
looks_places shape v w (Found k xs) f =
    ap (λ (x : View). x.places) f.finds.view ∙ ap (λ (x : View). x.places) f.down.view

-- a publication leaves the number of places of a pass as it is
puts_places : (words : Words) (v w : View) (put : Put) → Puts v words put w → w.places ≡ v.places
puts_places words v w (Published k) p = ap (λ (x : View). x.places) p.view
puts_places words v w (Full c) p = ap (λ (x : View). x.places) p.view
puts_places words v w (Raced e) p = ap (λ (x : View). x.places) p.view

-- a publication, or none, leaves the number of places of a pass as it is
may_put_places : (v w : View) → MayPut v w → w.places ≡ v.places
may_put_places v w (inl e) = ap (λ (x : View). x.places) e
may_put_places v w (inr p) = puts_places p.0 v w p.1 p.3

pub calls_places : (v w : View) → StepCalls v w → w.places ≡ v.places
calls_places v w (inl e) = ap (λ (x : View). x.places) e
calls_places v w (inr c) = may_put_places c.2 w c.5 ∙ looks_places c.0 v c.2 c.1 c.3

-- a publication, or none, leaves an orderly pass orderly
may_put_orderly : (v w : View) → Consistent v → MayPut v w → IsOrderly v → IsOrderly w
may_put_orderly v w now (inl e) orderly = subst IsOrderly (sym e) orderly
may_put_orderly v w now (inr p) orderly = puts_keep v now orderly p.0 w p.1 p.2 p.3

pub calls_orderly : (v w : View) → Consistent v → StepCalls v w → IsOrderly v → IsOrderly w
calls_orderly v w now (inl e) orderly = subst IsOrderly (sym e) orderly
calls_orderly v w now (inr c) orderly =
    may_put_orderly c.2 w c.4 c.5 (looks_keep v now orderly c.0 c.2 c.1 c.3)
