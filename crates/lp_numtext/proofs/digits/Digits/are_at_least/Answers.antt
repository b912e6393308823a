use Rattle.std.proofs.Common.{sym, ◌∙◌}
use Rattle.lp_numtext.proofs.SizeSteps.{same_places, other_places}
use Rattle.lp_numtext.proofs.digits.Digits.are_at_least.Goals as goal

pub returns-then-len : goal.returns-then-len
returns-then-len c =
    let these = c.without_zeros_in_front-these in
    let those = c.without_zeros_in_front-those in
    same_places c.args.self.bytes.now c.args.others.bytes.now these.result.bytes.now those.result.bytes.now
    c.cmp.result c.ne.result these.result.digits those.result.digits these.ensures those.ensures
    (sym c.len.ensures ∙ c.if-len.true ∙ c.len-2.ensures) c.cmp.ensures c.ne.ensures

pub returns-else-len : goal.returns-else-len
returns-else-len c =
    let these = c.without_zeros_in_front-these in
    let those = c.without_zeros_in_front-those in
    other_places c.args.self.bytes.now c.args.others.bytes.now these.result.bytes.now those.result.bytes.now
    c.len-else-len.result c.len-else-len-2.result c.args.self.digits c.args.others.digits these.ensures those.ensures
    c.len-else-len.ensures c.len-else-len-2.ensures (λ e.
    c.if-len.false (c.len.ensures ∙ sym c.len-else-len.ensures ∙ e ∙ c.len-else-len-2.ensures ∙ sym c.len-2.ensures))
