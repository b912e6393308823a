-- One more ask is dealt.
use Rattle.std.proofs.Common.{◌≡◌, ℕ, List, [], ◌∷◌, ◌++◌, ◌%◌, get_or, set, sym, ◌∙◌, subst, arith}
use Rattle.lp_script.proofs.Dealing.{Dealing, deal_more}
use Rattle.lp_script.proofs.deal.deal.Goals as goal

pub loop-asked-preserved : goal.loop-asked-preserved
loop-asked-preserved c =
    let so = c.loop-asked.invariant in
    let n = c.args.parts.now.len in
    let now = c.loop-asked.parts.items in
    let w = c.index_mut.result.now in
    let new = c.take.new.self in
    let asked = c.in-Some.asked in
    let took = c.in_ok-take.ensures in
    let many : c.len-in-Some.result ≡ n = c.len-in-Some.ensures ∙ so.1 in (
      subst
          (λ (ss : List ℕ).
          Dealing n c.args.asks.items c.pop.new.self.items ss
          (set now (asked.session % c.len-in-Some.result) new))
          (sym c.push_reserved.ensures.items)
          (subst
          (λ m.
          Dealing n c.args.asks.items c.pop.new.self.items
          (c.loop-asked.sessions.items ++ asked.session ∷ [])
          (set now (asked.session % m) new))
          (sym many)
          (deal_more n c.args.asks.items c.loop-asked.asks.items c.loop-asked.sessions.items now
          c.requires.some so.0 c.pop.new.self.items asked c.in-Some.ensures.items w new
          (subst (λ m. w ≡ get_or now (asked.session % m) w) many c.index_mut.ensures.value) took.asks took.replies
          took.sessions took.solves took.room)),
      so.1,
      omega (arith, so.2, c.push_reserved.ensures.len, c.in-Some.ensures.cases),
      c.push_reserved.ensures.capacity ∙ so.3,
    )
