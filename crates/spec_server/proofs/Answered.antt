-- Each list of asks has a run, with memory enough.
--
-- `asked_in-answered`: the exchanges that are made for some requests have these requests, in their order.
-- `answered_runs`: where models and requests may be kept, the exchanges made for some requests are a run for each
--   session.
-- `ample_answers`: none of the replies in the exchanges made for some requests is `MEMORY`.
use Rattle.std.proofs.Common.{◌≡◌, ℕ, suc, Bool, true, false, List, [], ◌∷◌, cond, map, refl, ap, ◌∙◌, nat_eq, arith}
use Rattle.std.specs.List.{filter}
use Rattle.spec_server.specs.declared.asks.Asked.{Asked}
use Rattle.spec_server.specs.Machine.{ExactAsk, IsKeptAsk, AreKept, State, is_memory}
use Rattle.spec_server.specs.Exchanges.{Exchange, asked_in, AloneRun, of_session}
use Rattle.spec_server.proofs.Dues.{IsKeptState, reads_of, reply_to, state_after, good_step, after_kept, ample_reply}
use Rattle.spec_server.proofs.RunLemmas.{updated, runs_on}

-- the exchange of a request with its session in this state, with memory enough: the reads and the reply made for it
abbrev exchanged : ℕ → State → Asked ExactAsk → Exchange
exchanged places state a =
    record { session = a.session; ask = a.ask; reads = reads_of places state a.ask; reply = reply_to state a.ask }

-- the exchanges of these requests, one after the other, with memory enough, where each session is in its state at first
abbrev pub answered : ℕ → (ℕ → State) → List (Asked ExactAsk) → List Exchange
answered places states [] = []
answered places states (a ∷ asks) =
    exchanged places (states a.session) a
    ∷ answered places (updated states a.session (state_after places (states a.session) a.ask)) asks

pub asked_in-answered : (places : ℕ) (states : ℕ → State) (asks : List (Asked ExactAsk)) →
    map asked_in (answered places states asks) ≡ asks
asked_in-answered places states [] = refl
asked_in-answered places states (a ∷ asks) =
    ap (λ zs. a ∷ zs)
    (asked_in-answered places (updated states a.session (state_after places (states a.session) a.ask)) asks)

-- each session holds a model that may be kept, or none
abbrev pub AllKept : (ℕ → State) → Type 0
AllKept states = (session : ℕ) → IsKeptState (states session)

-- where each session's model may be kept, it may be so with one session in another state whose model may be kept
updated_kept : (states : ℕ → State) (session : ℕ) (next : State) → AllKept states → IsKeptState next →
    AllKept (updated states session next)
updated_kept states session next h k other = by (nat_eq session other)
  where
    by : (t : Bool) → IsKeptState (cond t next (states other))
    by true = k
    by false = h other

pub answered_runs : (places : ℕ) (states : ℕ → State) (asks : List (Asked ExactAsk)) → AllKept states → AreKept asks →
    (session : ℕ) →
    (last : State) × AloneRun places (states session) (of_session session (answered places states asks)) last
answered_runs places states [] h k session = (states session, refl)
answered_runs places states (a ∷ asks) h k session =
    let now : State = states a.session in
    let next : State = state_after places now a.ask in
    let first : IsKeptAsk a.ask = k 0 a (omega arith) in
    runs_on places states (exchanged places now a) next (answered places (updated states a.session next) asks)
    (good_step places now a.ask (h a.session))
    (answered_runs places (updated states a.session next) asks
    (updated_kept states a.session next h (after_kept places now (h a.session) a.ask first))
    (λ i d l. k (suc i) d (omega arith)))
    session

-- none of them is MEMORY
pub ample_answers : (places : ℕ) (states : ℕ → State) (asks : List (Asked ExactAsk)) →
    filter (λ x. is_memory x.reply) (answered places states asks) ≡ []
ample_answers places states [] = refl
ample_answers places states (a ∷ asks) =
    let now : State = states a.session in
    let states' : ℕ → State = updated states a.session (state_after places now a.ask) in
    let rest : List Exchange = filter (λ x. is_memory x.reply) (answered places states' asks) in
    ap (λ t. cond t (exchanged places now a ∷ rest) rest) (ample_reply now a.ask)
    ∙ ample_answers places states' asks
