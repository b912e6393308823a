-- The steps of connections, one after the other: their places, their reads, and the runs of their sessions.
--
-- `links_places`: the steps of connections leave the number of places as it is.
-- `links_read`: the pass reads what the sessions of the connections read, in their order, and nothing else.
-- `links_orderly`: the steps of connections leave the reads of a consistent pass in order, if they were.
-- `links_run`: the session of each connection runs alone from its opening.
-- `links_more`: the steps of one connection more come after those of the ones before.
use Rattle.std.proofs.Common.{◌≡◌, ℕ, List, [], ◌∷◌, ◌++◌, map, refl, sym, ap, ◌∙◌, subst, append-nil}
use Rattle.std.specs.List.{flat_map, AllByRecursion}
use Rattle.std.proofs.lemmas.List.{append_assoc}
use Rattle.spec_server.specs.Machine.{State, opening}
use Rattle.spec_server.specs.Exchanges.{Exchange, AloneRun}
use Rattle.spec_serve.specs.Workers.{reads_in_all}
use Rattle.basis_board.specs.declared.seats.View.{View}
use Rattle.basis_board.specs.Rule.{Consistent}
use Rattle.basis_board.specs.Orderly.{IsOrderly}
use Rattle.basis_board.specs.PassReads.{reads_of}
use Rattle.lp_workers.proofs.Calls.{calls_places, calls_orderly}
use Rattle.lp_serve.specs.Service.{Steps}
use Rattle.lp_serve.specs.Serving.{Served}
use Rattle.lp_serve.specs.Desks.{LinkSteps}

-- ---- the steps of one link

-- the steps of a connection's session leave the number of places of a pass as it is
steps_places : (v : View) (old : State) (xs : List Exchange) (w : View) (new : State) → Steps v old xs w new →
    w.places ≡ v.places
steps_places v old [] w new s = ap (λ (x : View). x.places) s.0
steps_places v old (x ∷ xs) w new s = steps_places s.0 s.1 xs w new s.3 ∙ calls_places v s.0 s.2.calls

-- the steps of a connection's session add the reads of its exchanges to those of the pass
steps_reads : (v : View) (old : State) (xs : List Exchange) (w : View) (new : State) → Steps v old xs w new →
    reads_of w ≡ reads_of v ++ reads_in_all xs
steps_reads v old [] w new s = ap reads_of s.0 ∙ sym (append-nil (reads_of v))
steps_reads v old (x ∷ xs) w new s =
    steps_reads s.0 s.1 xs w new s.3
    ∙ ap (λ rs. rs ++ reads_in_all xs) s.2.reads
    ∙ append_assoc (reads_of v) x.reads (reads_in_all xs)

-- what the pass knows is consistent, and its reads are in order
abbrev IsFair : View → Type 0
IsFair v = Consistent v × IsOrderly v

-- the steps of a connection's session keep the pass consistent and orderly
steps_fair : (v : View) (old : State) (xs : List Exchange) (w : View) (new : State) → Steps v old xs w new →
    IsFair v → IsFair w
steps_fair v old [] w new s fair = subst IsFair (sym s.0) fair
steps_fair v old (x ∷ xs) w new s fair =
    steps_fair s.0 s.1 xs w new s.3
    (s.2.consistent fair.0, calls_orderly v s.0 fair.0 s.2.calls fair.1)

-- the steps of a connection's session are a run of the session alone
steps_run : (v : View) (old : State) (xs : List Exchange) (w : View) (new : State) → Steps v old xs w new →
    AloneRun v.places old xs new
steps_run v old [] w new s = s.1
steps_run v old (x ∷ xs) w new s = (
  s.1,
  s.2.step,
  subst (λ places. AloneRun places s.1 xs new) (calls_places v s.0 s.2.calls) (steps_run s.0 s.1 xs w new s.3),
)

-- ---- the links of a worker

-- the exchanges of each of these links
abbrev pub exchanges_in : List Served → List (List Exchange)
exchanges_in links = map (λ (x : Served). x.exchanges) links

pub links_places : (v : View) (links : List Served) (w : View) → LinkSteps v links w → w.places ≡ v.places
links_places v [] w s = ap (λ (x : View). x.places) s
links_places v (x ∷ links) w s =
    links_places s.0 links w s.3 ∙ steps_places v opening x.exchanges s.0 s.1 s.2

pub links_read : (v : View) (links : List Served) (w : View) → LinkSteps v links w →
    reads_of w ≡ reads_of v ++ flat_map reads_in_all (exchanges_in links)
links_read v [] w s = ap reads_of s ∙ sym (append-nil (reads_of v))
links_read v (x ∷ links) w s =
    links_read s.0 links w s.3
    ∙ ap (λ rs. rs ++ flat_map reads_in_all (exchanges_in links)) (steps_reads v opening x.exchanges s.0 s.1 s.2)
    ∙ append_assoc (reads_of v) (reads_in_all x.exchanges) (flat_map reads_in_all (exchanges_in links))

-- the sessions of connections, one after the other, keep the pass consistent and orderly
links_fair : (v : View) (links : List Served) (w : View) → LinkSteps v links w → IsFair v → IsFair w
links_fair v [] w s fair = subst IsFair (sym s) fair
links_fair v (x ∷ links) w s fair =
    links_fair s.0 links w s.3 (steps_fair v opening x.exchanges s.0 s.1 s.2 fair)

pub links_orderly : (v : View) (links : List Served) (w : View) → LinkSteps v links w → Consistent v → IsOrderly v →
    IsOrderly w
links_orderly v links w s now orderly = (links_fair v links w s (now, orderly)).1

pub links_run : (places : ℕ) (v : View) (links : List Served) (w : View) → LinkSteps v links w → v.places ≡ places →
    AllByRecursion (λ xs. (last : State) × AloneRun places opening xs last) (exchanges_in links)
links_run places v [] w s so = tt
links_run places v (x ∷ links) w s so = (
  (s.1, subst (λ n. AloneRun n opening x.exchanges s.1) so (steps_run v opening x.exchanges s.0 s.1 s.2)),
  links_run places s.0 links w s.3 (steps_places v opening x.exchanges s.0 s.1 s.2 ∙ so),
)

-- one link more
pub links_more : (v u w : View) (links : List Served) (x : Served) (last : State) → LinkSteps v links u →
    Steps u opening x.exchanges w last → LinkSteps v (links ++ x ∷ []) w
links_more v u w [] x last s more = (w, last, subst (λ now. Steps now opening x.exchanges w last) s more, refl)
links_more v u w (y ∷ links) x last s more = (s.0, s.1, s.2, links_more s.0 u w links x last s.3 more)
