-- One more reply is collected.
use Rattle.std.proofs.Common.{◌≡◌, [], ◌∷◌, ◌++◌, ◌+◌, ◌%◌, get_or, set, refl, sym, ◌∙◌, subst, arith}
use Rattle.lp_script.specs.declared.part.Part.{Part}
use Rattle.lp_script.proofs.Dealing.{Collecting, has_one, collected_more}
use Rattle.lp_script.proofs.deal.collect.Goals as goal

pub unreachable-requires : goal.unreachable-requires
unreachable-requires c =
    let so = c.loop-session.invariant in
    let n = c.args.parts.now.len in
    let now = c.loop-session.parts in
    let w = c.index_mut.result.now in
    let k = c.loop-session.session-index in
    let session = get_or c.args.sessions.now k 0 in
    let many : c.len.result ≡ n = c.len.ensures ∙ so.1 in
    let some = has_one n now.items (sym now.ok.0 ∙ so.1) session c.requires.some w
    (subst (λ m. w ≡ get_or now.items (session % m) w) many c.index_mut.ensures.value) c.args.sessions.now k
    c.loop-session-test.true refl c.requires.held.0 c.loop-session.replies.items c.requires.held.1.sessions_are
    (so.0 c.requires.held.0 c.requires.held.1) in
    omega (arith, some, w.replies.ok.0, c.in_default.ensures.cases.0)

pub loop-session-preserved : goal.loop-session-preserved
loop-session-preserved c =
    let so = c.loop-session.invariant in
    let n = c.args.parts.now.len in
    let now = c.loop-session.parts in
    let w = c.index_mut.result.now in
    let k = c.loop-session.session-index in
    let session = get_or c.args.sessions.now k 0 in
    let new : Part = record w { replies = c.pop.new.self } in
    let rs = c.loop-session.replies.items ++ c.in-Some.reply ∷ [] in
    let many : c.len.result ≡ n = c.len.ensures ∙ so.1 in (
      λ exchanges hold.
          subst (λ rs. Collecting n (k + 1) (set now.items (session % c.len.result) new) rs exchanges)
          (sym c.push_reserved.ensures.items)
          (subst (λ m. Collecting n (k + 1) (set now.items (session % m) new) rs exchanges) (sym many)
          (collected_more n now.items (sym now.ok.0 ∙ so.1) session c.requires.some w
          (subst (λ m. w ≡ get_or now.items (session % m) w) many c.index_mut.ensures.value) c.args.sessions.now k
          c.loop-session-test.true refl exchanges c.loop-session.replies.items hold.sessions_are (so.0 exchanges hold)
          new c.in-Some.reply c.in-Some.ensures.items)),
      so.1,
      omega (arith, so.2, c.push_reserved.ensures.len),
      c.push_reserved.ensures.capacity ∙ so.3,
    )
