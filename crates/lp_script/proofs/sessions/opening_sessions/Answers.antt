-- One more session.
use Rattle.std.proofs.Common.{◌++◌, [], ◌∷◌, replicate, ap, ◌∙◌, arith}
use Rattle.std.proofs.lemmas.List.{replicate_more}
use Rattle.spec_server.specs.Halves.{at_rest}
use Rattle.spec_server.specs.Machine.{opening}
use Rattle.lp_script.proofs.sessions.opening_sessions.Goals as goal

pub loop-index-preserved : goal.loop-index-preserved
loop-index-preserved c =
    let so = c.loop-index.invariant in (
      c.push_reserved.ensures.items
          ∙ ap (λ all. all ++ c.new.result ∷ []) so.0
          ∙ ap (λ session. replicate c.loop-index.index (at_rest opening) ++ session ∷ []) c.new.ensures
          ∙ replicate_more c.loop-index.index (at_rest opening),
      omega (arith, c.push_reserved.ensures.len, so.1),
      c.push_reserved.ensures.capacity ∙ so.2,
    )
