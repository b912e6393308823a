-- What a server has done when all its workers have.
--
-- `ended_write`: a service that ends with a failed write, whether or not a listener failed, had one when it wrote its
--   ends.
-- `not_write`: want of memory is no failed write.
-- `unserved`: a server that runs out of memory first has served no link, and has left its listeners as they were.
use Rattle.std.proofs.Common.{◌≡◌, ℕ, ◌<◌, ◌⊎◌, List, [], ◌∷◌, suc, length, map, true, false}
use Rattle.std.proofs.Common.{Option, Ok, Err, Result}
use Rattle.std.proofs.Common.{refl, sym, ap, ◌∙◌, subst, inl, inr, arith}
use Rattle.std.specs.List.{All, AllByRecursion, list_any}
use Rattle.std.specs.Prelude.{Bool, OnOk, IfErr, IsErrOf}
use Rattle.std.specs.Result.{IsErrAnd}
use Rattle.std.specs.Io.KnownBytes.{Appends}
use Rattle.std.proofs.KnownBytes.{Appends-nil}
use Rattle.std.proofs.lemmas.List.{length-map}
use Rattle.std.proofs.lemmas.List.Elements.{All-from_recursion}
use Rattle.spec_board.specs.Orders.{AreBacked}
use Rattle.spec_server.specs.Machine.{opening}
use Rattle.spec_serve.specs.Lines.{serve_out}
use Rattle.spec_serve.specs.Links.{exchanges_from}
use Rattle.spec_serve.specs.Workers.{RunsBy}
use Rattle.spec_serve.proofs.ManyFromOne.{one_runs_by}
use Rattle.basis_board.specs.declared.board.Board.{Board}
use Rattle.basis_board.specs.Moments.{IsOneLog}
use Rattle.lp_base.specs.Beside.{Takes}
use Rattle.lp_base.specs.Listening.{ListenerState}
use Rattle.lp_serve.specs.declared.fault.ServeFault.{ServeFault}
use Rattle.lp_serve.specs.declared.fault.ServeFault.TheVariants as fault
use Rattle.lp_workers.specs.declared.hiring.Worker.{Worker}
use Rattle.lp_workers.specs.Passes.{IsFresh, notes_of_all, reads_of_all}
use Rattle.lp_workers.specs.Turns.{jobs_of, passes_of, TookTurns}
use Rattle.lp_serve.specs.declared.desk.Desk.{Desk}
use Rattle.lp_serve.specs.Serving.{Served, Serves, Writes, exchanges_of, ends_of, ended_with}
use Rattle.lp_serve.specs.Desks.{Took, ends_in, nets_of}
use Rattle.lp_serve.proofs.AllServed.{AreServed, ServesEach, all_served, as_many, ends_are, each_listened}
use Rattle.lp_serve.proofs.AllServed.{states_of, failed_in, some_failed, all_whole}
use Rattle.lp_serve.proofs.RunsOver.{all_run}

module _ {N : Type 0} (state : N → ListenerState) (board : Board) (each : ℕ) (olds news : List (Worker (Desk N)))
    (same : length news ≡ length olds) (fresh : All (λ (w : Worker (Desk N)). IsFresh board w.pass) olds)
    (serves : ServesEach state board each olds news) where
  -- the links that the workers have served, one list for each worker
  abbrev links : List (List Served)
  links = (all_served state board each olds news same fresh serves).0

  -- the workers have served these links
  abbrev so : AreServed state board each olds news (all_served state board each olds news same fresh serves).0
  so = (all_served state board each olds news same fresh serves).1

  module _ (some : 0 < length olds) (one_log : IsOneLog (notes_of_all (passes_of news)))
      (backed : AreBacked (reads_of_all (passes_of news))) (places : ℕ) (made : board.places ≡ places)
      (before after : Option (List ℕ)) where
    -- there are as many lists of links as workers
    many : length links ≡ length olds
    many = as_many state board each olds news links so

    -- there are as many listeners as workers
    listeners : length (states_of state board each olds) ≡ length olds
    listeners = length-map (nets_of (jobs_of olds)) state ∙ length-map (jobs_of olds) (λ (desk : Desk N). desk.net)
        ∙ length-map olds (λ (w : Worker (Desk N)). w.job)

    -- the server, with these listeners and this output, has ended with this result
    abbrev Whole : Result (Unit {0}) ServeFault → Type 0
    Whole result =
        Serves places each (states_of state board each olds) (states_of state board each news) before after result

    -- where what was written is as the result says, the server has ended with it
    serves_so : (result : Result (Unit {0}) ServeFault) →
        Writes each (states_of state board each olds) (states_of state board each news) links before after result →
        Whole result
    serves_so result writes =
        subst
        (λ n. Serves n each (states_of state board each olds) (states_of state board each news) before after result)
        made (record {
          served = links;
          listeners = many ∙ sym listeners;
          listened = inl
              (λ i l. each_listened state board each olds news links so i (omega (arith, l, listeners)));
          runs = all_run state board each olds news links so (omega (arith, some, many)) one_log backed;
          writes = writes;
        })

    -- where all ends were written and no listener failed, the server has ended well
    when_ok : Appends before after (serve_out (map ends_in (jobs_of news))) → failed_in state board each news ≡ false →
        Whole (Ok tt)
    when_ok appends none =
        serves_so (Ok tt) (
          subst (λ ends. Appends before after (serve_out ends)) (ends_are state board each olds news links so) appends,
          All-from_recursion (λ (ls : List Served). length ls ≡ each) links
              (all_whole state board each olds news links so none),
        )

    -- where all ends were written and a listener failed, the server has ended with `Accept`
    when_accept : Appends before after (serve_out (map ends_in (jobs_of news))) → failed_in state board each news ≡ true →
        Whole (Err fault.Accept)
    when_accept appends failed =
        let one = some_failed state board each olds news links so failed in
        serves_so (Err fault.Accept) (
          subst (λ ends. Appends before after (serve_out ends)) (ends_are state board each olds news links so) appends,
          (one.0, omega (arith, one.1, listeners), one.2),
        )

    -- where a beginning of the ends was written before the sink failed or memory ran out, the server has ended with
    -- that fault
    when_err : (why : ServeFault) → (why ≡ fault.Write) ⊎ (why ≡ fault.NoMemory) →
        Takes before after (serve_out (map ends_in (jobs_of news))) →
        Whole (Err why)
    when_err why (inl e) takes =
        subst (λ w. Whole (Err w)) (sym e)
        (serves_so (Err fault.Write)
        (subst (λ ends. Takes before after (serve_out ends)) (ends_are state board each olds news links so) takes))
    when_err why (inr e) takes =
        subst (λ w. Whole (Err w)) (sym e)
        (serves_so (Err fault.NoMemory)
        (subst (λ ends. Takes before after (serve_out ends)) (ends_are state board each olds news links so) takes))

    -- the server has ended with what `ended_with` makes of the writing and of whether a listener failed
    pub when_ended : (said : Result (Unit {0}) ServeFault) (failed : Bool) →
        OnOk said (Appends before after (serve_out (map ends_in (jobs_of news)))) →
        Takes before after (serve_out (map ends_in (jobs_of news))) →
        IfErr said (λ why. (why ≡ fault.Write) ⊎ (why ≡ fault.NoMemory)) → failed_in state board each news ≡ failed →
        Whole (ended_with said failed)
    when_ended (Err why) failed appends takes stops e = when_err why stops takes
    when_ended (Ok u) true appends takes stops e = when_accept appends e
    when_ended (Ok u) false appends takes stops e = when_ok appends e

-- All desks took their turns: what is said of them, by how the writing ended and by whether a listener has failed.
module _ {N : Type 0} (is_ready : ℕ → Desk N → Type 0) (state : N → ListenerState) (each places : ℕ)
    (olds news : List (Desk N)) (took : TookTurns is_ready (Took state) each places olds news) (some : 0 < length olds)
  where
    -- once all desks took their turns, the server has ended with what `ended_with` makes of the writing and of whether
    -- a listener failed
    pub all_ended : (before after : Option (List ℕ)) (said : Result (Unit {0}) ServeFault) (failed : Bool) →
        OnOk said (Appends before after (serve_out (map ends_in news))) →
        Takes before after (serve_out (map ends_in news)) →
        IfErr said (λ why. (why ≡ fault.Write) ⊎ (why ≡ fault.NoMemory)) →
        list_any (λ (desk : Desk N). desk.has_failed) news ≡ failed →
        Serves places each (map state (nets_of olds)) (map state (nets_of news)) before after (ended_with said failed)
    all_ended before after said failed appends takes stops e =
        subst
        (λ ds. Serves places each (map state (nets_of ds)) (map state (nets_of news)) before after
        (ended_with said failed))
        took.jobs_before
        (subst
        (λ ds. Serves places each (map state (nets_of (jobs_of took.before))) (map state (nets_of ds)) before after
        (ended_with said failed))
        took.jobs_after
        (when_ended state took.board each took.before took.after took.many (λ i d l. (took.turns i d l).ready.pass)
        (λ i d l. (took.turns i d l).turn)
        (omega (arith, some, length-map took.before (λ (w : Worker (Desk N)). w.job), many)) took.one_log took.backed
        places took.places_so before after said failed
        (subst (λ ds. OnOk said (Appends before after (serve_out (map ends_in ds)))) (sym took.jobs_after) appends)
        (subst (λ ds. Takes before after (serve_out (map ends_in ds))) (sym took.jobs_after) takes) stops
        (ap (list_any (λ (desk : Desk N). desk.has_failed)) took.jobs_after ∙ e)))
      where
        many : length (jobs_of took.before) ≡ length olds
        many = ap length took.jobs_before

-- a fault of the writing is told
pub ended_write : (said : Result (Unit {0}) ServeFault) (failed : Bool) →
    IsErrOf (ended_with said failed) fault.Write → IsErrOf said fault.Write
ended_write (Err why) failed e = e
ended_write (Ok u) true e = cc
ended_write (Ok u) false e = e

-- memory that ran out is no fault of the writing
pub not_write : (result : Result (Unit {0}) ServeFault) → IsErrAnd result (λ why. why ≡ fault.NoMemory) →
    IsErrOf result fault.Write → ⊥
not_write (Ok u) stop e = absurd stop
not_write (Err why) stop e =
    let f : Err fault.Write ≡ Err fault.NoMemory = sym e ∙ ap Err stop in cc

-- why a call has failed
err_of : (result : Result (Unit {0}) ServeFault) (P : ServeFault → Type 0) → IsErrAnd result P →
    (why : ServeFault) × (result ≡ Err why) × P why
err_of (Ok u) P so = absurd so
err_of (Err why) P so = (why, refl, so)

-- ---- there is no memory for the workers

-- no connections, one empty list for each listener
none_served : List ListenerState → List (List Served)
none_served [] = []
none_served (old ∷ olds) = [] ∷ none_served olds

-- there are as many empty lists of connections as listeners
as_many_none : (olds : List ListenerState) → length (none_served olds) ≡ length olds
unfolding none_served
as_many_none [] = refl
as_many_none (old ∷ olds) = ap suc (as_many_none olds)

-- where no connections were served, there are no exchanges
none_had : (n i : ℕ) (olds : List ListenerState) → exchanges_from n i (exchanges_of (none_served olds)) ≡ []
unfolding none_served
none_had n i [] = refl
none_had n i (old ∷ olds) = none_had n (suc i) olds

-- where no connections were served, each list of them is empty
all_none : (olds : List ListenerState) → AllByRecursion (λ (links : List Served). links ≡ []) (none_served olds)
unfolding none_served
all_none [] = tt
all_none (old ∷ olds) = (refl, all_none olds)

-- a service that has no memory for its workers serves no connection, and changes nothing
when_unserved : (places each : ℕ) (states : List ListenerState) (taken : Option (List ℕ)) →
    Serves places each states states taken taken (Err fault.NoMemory)
when_unserved places each states taken =
    let n = length (exchanges_of (none_served states)) in record {
      served = none_served states;
      listeners = as_many_none states;
      listened = inr (record {
        because = refl;
        same = refl;
        none = All-from_recursion (λ (links : List Served). links ≡ []) (none_served states) (all_none states);
      });
      runs = subst (RunsBy n places) (sym (none_had n 0 states))
          (one_runs_by places n [] (record { alone = λ session. (opening, refl); last = []; played = refl }));
      writes = record {
        bytes = [];
        front = (serve_out (ends_of (none_served states)), refl);
        taken = Appends-nil taken;
      };
    }

-- a call has failed before any link was served
pub unserved : (places each : ℕ) (olds news : List ListenerState) (taken : Option (List ℕ))
    (result : Result (Unit {0}) ServeFault) → IsErrAnd result (λ why. why ≡ fault.NoMemory) → news ≡ olds →
    Serves places each olds news taken taken result
unserved places each olds news taken result stop same =
    let why = err_of result _ stop in
    subst (λ r. Serves places each olds news taken taken r) (sym (why.1 ∙ ap Err why.2))
    (subst (λ ns. Serves places each olds ns taken taken (Err fault.NoMemory)) (sym same)
    (when_unserved places each olds taken))
