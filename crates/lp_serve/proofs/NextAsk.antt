-- The next ask of a link.
use Rattle.std.proofs.Common.{◌≡◌, ℕ, List, Option, Some, Ok, ap, subst}
use Rattle.spec_server.specs.declared.addressing.Addressing.TheVariants.{Alone}
use Rattle.spec_server.specs.declared.asks.Asked.{Asked}
use Rattle.spec_server.specs.Machine.{ExactAsk}
use Rattle.spec_serve.proofs.AloneAsks.{asked_alone}
use Rattle.lp_base.specs.LinesState.{LinesState}
use Rattle.lp_line.specs.Takes.{TakesAsk, TakesNext, TakesMore}
use Rattle.lp_line.specs.Script as script
use Rattle.lp_serve.specs.Service as service

-- a request that was taken from lines without numbers of sessions is of session 0
pub of_session_0 : (before after : Option (List ℕ)) (old new : LinesState) (result : script.NextAsk)
    (asked : Asked ExactAsk) → result ≡ Ok (Some asked) → TakesNext Alone before after old new result →
    TakesMore old new result → service.TakesAsk before after old new (Ok asked.ask)
of_session_0 before after old new result asked came taken_so more_so =
    let k : TakesAsk Alone before after old new asked =
    subst (λ (r : script.NextAsk). TakesNext Alone before after old new r) came taken_so in
    let more : TakesMore old new (Ok (Some asked)) =
    subst (λ (r : script.NextAsk). TakesMore old new r) came more_so in
    let is : asked ≡ record { session = 0; ask = asked.ask } =
    ap (λ (n : ℕ). let a : Asked ExactAsk = record { session = n; ask = asked.ask } in a)
    (asked_alone k.passed asked k.asks) in
    (subst (TakesAsk Alone before after old new) is k, more)
