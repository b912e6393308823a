-- What all workers have served.
use Rattle.std.proofs.Common.{◌≡◌, ℕ, zero, suc, ◌<◌, List, [], ◌∷◌, ◌++◌, length, map, get_or, Bool, true}
use Rattle.std.proofs.Common.{false}
use Rattle.std.proofs.Common.{refl, sym, ap, ◌∙◌, subst, arith}
use Rattle.std.specs.Prelude.{◌||◌}
use Rattle.std.specs.List.{All, AllByRecursion, flat_map, list_any}
use Rattle.spec_board.specs.Orders.{InPairs, AreInOrder}
use Rattle.spec_serve.specs.Links.{exchanges_of_links}
use Rattle.spec_serve.proofs.Apart.{links_run_alone, links_reads}
use Rattle.spec_server.specs.Exchanges.{Exchange}
use Rattle.spec_serve.specs.Workers.{reads_in_all, HasServedAlone}
use Rattle.basis_board.specs.declared.board.Board.{Board}
use Rattle.basis_board.specs.Known.{Known}
use Rattle.basis_board.specs.Moments.{NotesMore, WereTrue}
use Rattle.basis_board.specs.Orderly.{IsOrderly, IsWhole}
use Rattle.basis_board.specs.PassReads.{reads_of}
use Rattle.lp_base.specs.Causes.{Rose}
use Rattle.lp_base.specs.Listening.{ListenerState}
use Rattle.lp_workers.specs.declared.hiring.Worker.{Worker}
use Rattle.lp_workers.specs.Passes.{IsFresh, IsUsed, reads_of_all}
use Rattle.lp_workers.specs.Turns.{jobs_of, passes_of}
use Rattle.lp_serve.specs.declared.desk.Desk.{Desk}
use Rattle.lp_serve.specs.Serving.{Served, Listened, ends_of, exchanges_of, no_listener}
use Rattle.lp_serve.specs.Desks.{ServedLinks, HasServed, ends_in, nets_of}
use Rattle.lp_serve.proofs.LinkRuns.{exchanges_in, links_read, links_orderly, links_run}
use Rattle.lp_serve.proofs.Noting.{noted_all}

module _ {N : Type 0} (state : N → ListenerState) (board : Board) (each : ℕ) where
  -- each worker has served its list of links in its turn, from a fresh pass on: `olds` has the workers before their
  -- turns, and `news` after them, in the same order
  abbrev pub AreServed : List (Worker (Desk N)) → List (Worker (Desk N)) → List (List Served) → Type 0
  AreServed [] [] [] = Unit {0}
  AreServed (old ∷ olds) (new ∷ news) (links ∷ served) =
      IsFresh board old.pass × ServedLinks state board each old new links × AreServed olds news served
  AreServed olds news served = ⊥

  -- each worker of the first list has served some links in its turn, and then is as in the second list
  abbrev pub ServesEach : List (Worker (Desk N)) → List (Worker (Desk N)) → Type 0
  ServesEach olds news =
      (i : ℕ) (d : Worker (Desk N)) → i < length olds → HasServed state board each (get_or olds i d) (get_or news i d)

  -- where each worker has served some links from a fresh pass, there are lists of links that they have served
  pub all_served : (olds news : List (Worker (Desk N))) → length news ≡ length olds →
      All (λ (w : Worker (Desk N)). IsFresh board w.pass) olds → ServesEach olds news →
      (served : List (List Served)) × AreServed olds news served
  all_served [] [] same ready serves = ([], tt)
  all_served [] (new ∷ news) same ready serves = absurd (omega (arith, same))
  all_served (old ∷ olds) [] same ready serves = absurd (omega (arith, same))
  all_served (old ∷ olds) (new ∷ news) same ready serves =
      let first = serves 0 old (omega arith) in
      let rest = all_served olds news (omega (arith, same))
      (λ i d l. ready (suc i) d (omega (arith, l))) (λ i d l. serves (suc i) d (omega (arith, l))) in
      (first.links ∷ rest.0, (ready 0 old (omega arith), first.served, rest.1))

  -- what holds of no workers, and with one worker more and the links that it served, holds of all workers and their
  -- links
  by_each : (P : List (Worker (Desk N)) → List (Worker (Desk N)) → List (List Served) → Type 0) → P [] [] [] →
      ((old new : Worker (Desk N)) (links : List Served) (olds news : List (Worker (Desk N))) (served : List (List Served)) →
      IsFresh board old.pass → ServedLinks state board each old new links → P olds news served →
      P (old ∷ olds) (new ∷ news) (links ∷ served)) →
      (olds news : List (Worker (Desk N))) (served : List (List Served)) → AreServed olds news served → P olds news served
  by_each P none more [] [] [] so = none
  by_each P none more [] [] (links ∷ served) so = absurd so
  by_each P none more [] (new ∷ news) served so = absurd so
  by_each P none more (old ∷ olds) [] served so = absurd so
  by_each P none more (old ∷ olds) (new ∷ news) [] so = absurd so
  by_each P none more (old ∷ olds) (new ∷ news) (links ∷ served) so =
      more old new links olds news served so.0 so.1 (by_each P none more olds news served so.2)

  -- ---- how many there are, how they ended, and what the passes have

  -- there are as many lists of links as workers before their turns
  pub as_many : (olds news : List (Worker (Desk N))) (served : List (List Served)) → AreServed olds news served →
      length served ≡ length olds
  as_many =
      by_each (λ olds news served. length served ≡ length olds) refl
      (λ old new links olds news served ready so rest. ap suc rest)

  -- there are as many workers after their turns as lists of links
  pub news_many : (olds news : List (Worker (Desk N))) (served : List (List Served)) → AreServed olds news served →
      length news ≡ length served
  news_many =
      by_each (λ olds news served. length news ≡ length served) refl
      (λ old new links olds news served ready so rest. ap suc rest)

  -- the ends that the desks have noted are those of the links that were served
  pub ends_are : (olds news : List (Worker (Desk N))) (served : List (List Served)) → AreServed olds news served →
      map ends_in (jobs_of news) ≡ ends_of served
  ends_are =
      by_each (λ olds news served. map ends_in (jobs_of news) ≡ ends_of served) refl
      (λ old new links olds news served ready so rest. ap (λ es. es ∷ map ends_in (jobs_of news)) so.ends
      ∙ ap (λ all. map (λ (x : Served). x.ended) links ∷ all) rest)

  -- ---- one worker

  module _ (old new : Worker (Desk N)) (links : List Served) (ready : IsFresh board old.pass)
      (so : ServedLinks state board each old new links) where
    -- a fresh pass has read nothing
    reads_before : reads_of old.pass.view ≡ []
    reads_before = ap (λ reads. reads_of (record old.pass.view { reads = reads })) ready.unread

    -- the reads of a fresh pass are in order
    orderly_before : IsOrderly old.pass.view
    orderly_before = record {
      ordered = subst (InPairs AreInOrder) (sym reads_before) tt;
      whole = subst (AllByRecursion IsWhole) (sym reads_before) tt;
    }

    -- after its turn the pass of a worker has read what the sessions of its links read, in their order
    reads_now : reads_of new.pass.view ≡ flat_map reads_in_all (exchanges_in links)
    reads_now =
        links_read old.pass.view links new.pass.view so.steps
        ∙ ap (λ rs. rs ++ flat_map reads_in_all (exchanges_in links)) reads_before

    -- after its turn the reads of a worker's pass are in order
    orderly_now : IsOrderly new.pass.view
    orderly_now =
        links_orderly old.pass.view links new.pass.view so.steps ready.consistent orderly_before

    -- the sessions of one worker's links, with numbers of their own, each run alone, and their reads are in order
    served_alone : (n i : ℕ) → 0 < n →
        HasServedAlone board.places (exchanges_of_links n i 0 (exchanges_in links))
    served_alone n i some = record {
      alone = links_run_alone n i some board.places 0 (exchanges_in links)
          (links_run board.places old.pass.view links new.pass.view so.steps ready.places);
      ordered = subst (InPairs AreInOrder)
          (reads_now ∙ sym (links_reads n i 0 (exchanges_in links))) orderly_now.ordered;
    }

  -- ---- the reads

  -- the passes of all workers have read what the sessions of all links read, one worker after the other
  pub reads_are : (olds news : List (Worker (Desk N))) (served : List (List Served)) → AreServed olds news served →
      reads_of_all (passes_of news) ≡ flat_map (flat_map reads_in_all) (exchanges_of served)
  reads_are =
      by_each (λ olds news served. reads_of_all (passes_of news)
      ≡ flat_map (flat_map reads_in_all) (exchanges_of served)) refl
      (λ old new links olds news served ready so rest. ap (λ rs. rs ++ reads_of_all (passes_of news))
      (reads_now old new links ready so)
      ∙ ap (λ rs. flat_map reads_in_all (exchanges_in links) ++ rs) rest)

  -- the sessions of each worker's links, with numbers of their own, each run alone, and their reads are in order
  abbrev EachAlone : List (List Served) → Type 0
  EachAlone served = (n w i : ℕ) → 0 < n → i < length served →
      HasServedAlone board.places (exchanges_of_links n w 0 (get_or (exchanges_of served) i []))

  -- where these links were served, the sessions of each worker's links each run alone, with reads in order
  pub each_alone : (olds news : List (Worker (Desk N))) (served : List (List Served)) → AreServed olds news served →
      EachAlone served
  each_alone = by_each (λ olds news served. EachAlone served) (λ n w i some l. absurd (omega (arith, l))) more
    where
      more : (old new : Worker (Desk N)) (links : List Served) (olds news : List (Worker (Desk N))) (served : List (List Served)) →
          IsFresh board old.pass → ServedLinks state board each old new links → EachAlone served →
          EachAlone (links ∷ served)
      more old new links olds news served ready so rest n w zero some l = served_alone old new links ready so n w some
      more old new links olds news served ready so rest n w (suc i) some l = rest n w i some (omega (arith, l))

  -- ---- the notes

  -- the pass noted what was read in these exchanges, each note later than those before it
  pub record HasNoted (pass : Known) (xs : List Exchange) : Type 0 where
    pub reads : reads_in_all xs ≡ reads_of pass.view
    pub notes : NotesMore [] pass.moments
    pub were_true : WereTrue pass.moments pass.view.reads

  -- the pass of each worker noted what the sessions of its links read
  abbrev EachNoted : List (Worker (Desk N)) → List (List Served) → Type 0
  EachNoted news served = (n w i : ℕ) (d : Known) → i < length served →
      HasNoted (get_or (passes_of news) i d) (exchanges_of_links n w 0 (get_or (exchanges_of served) i []))

  -- where these links were served, the pass of each worker noted what the sessions of its links read
  pub each_noted : (olds news : List (Worker (Desk N))) (served : List (List Served)) → AreServed olds news served →
      EachNoted news served
  each_noted = by_each (λ olds news served. EachNoted news served) (λ n w i d l. absurd (omega (arith, l))) more
    where
      more : (old new : Worker (Desk N)) (links : List Served) (olds news : List (Worker (Desk N))) (served : List (List Served)) →
          IsFresh board old.pass → ServedLinks state board each old new links → EachNoted news served →
          EachNoted (new ∷ news) (links ∷ served)
      more old new links olds news served ready so rest n w zero d l =
          let all = noted_all old.pass new.pass ready.unnoted ready.unread so.notes in record {
            reads = links_reads n w 0 (exchanges_in links) ∙ sym (reads_now old new links ready so);
            notes = all.0;
            were_true = all.1;
          }
      more old new links olds news served ready so rest n w (suc i) d l = rest n w i d (omega (arith, l))

  -- ---- the listeners

  -- the states of the listeners of these workers, in their order
  abbrev pub states_of : List (Worker (Desk N)) → List ListenerState
  states_of workers = map state (nets_of (jobs_of workers))

  -- each worker's listener gave the links that this worker served, from the old to the new state
  abbrev EachListened : List (Worker (Desk N)) → List (Worker (Desk N)) → List (List Served) → Type 0
  EachListened olds news served = (i : ℕ) → i < length olds →
      Listened board.places each (get_or (states_of olds) i no_listener) (get_or (states_of news) i no_listener)
      (get_or served i [])

  -- where these links were served, each worker's listener gave those of this worker
  pub each_listened : (olds news : List (Worker (Desk N))) (served : List (List Served)) → AreServed olds news served →
      EachListened olds news served
  each_listened = by_each EachListened (λ i l. absurd (omega (arith, l))) more
    where
      more : (old new : Worker (Desk N)) (links : List Served) (olds news : List (Worker (Desk N))) (served : List (List Served)) →
          IsFresh board old.pass → ServedLinks state board each old new links → EachListened olds news served →
          EachListened (old ∷ olds) (new ∷ news) (links ∷ served)
      more old new links olds news served ready so rest zero l = so.listened
      more old new links olds news served ready so rest (suc i) l = rest i (omega (arith, l))

  -- whether the listener of one of these workers has failed
  abbrev pub failed_in : List (Worker (Desk N)) → Bool
  failed_in workers = list_any (λ (desk : Desk N). desk.has_failed) (jobs_of workers)

  -- the faults of the listener of some worker have risen from `olds` to `news`
  abbrev Fails : List (Worker (Desk N)) → List (Worker (Desk N)) → Type 0
  Fails olds news =
      (i : ℕ) × (i < length olds)
      × Rose (get_or (states_of olds) i no_listener).accept_faults (get_or (states_of news) i no_listener).accept_faults

  -- where a desk has noted that its listener failed, the faults of a listener rose
  pub some_failed : (olds news : List (Worker (Desk N))) (served : List (List Served)) → AreServed olds news served →
      failed_in news ≡ true → Fails olds news
  some_failed =
      by_each (λ olds news served. failed_in news ≡ true → Fails olds news) (λ e. cc)
      (λ old new links olds news served ready so rest e. by old new links olds news so new.job.has_failed refl e rest)
    where
      by : (old new : Worker (Desk N)) (links : List Served) (olds news : List (Worker (Desk N))) →
          ServedLinks state board each old new links → (t : Bool) → new.job.has_failed ≡ t →
          (t || failed_in news) ≡ true → (failed_in news ≡ true → Fails olds news) → Fails (old ∷ olds) (new ∷ news)
      by old new links olds news so true here e more = (0, omega arith, so.failed here)
      by old new links olds news so false here e more = let m = more e in (suc m.0, omega (arith, m.1), m.2)

  -- each worker has served as many links as it was to
  abbrev AreWhole : List (List Served) → Type 0
  AreWhole served = AllByRecursion (λ links. length links ≡ each) served

  -- where no listener has failed, each worker has served as many links as it was to
  pub all_whole : (olds news : List (Worker (Desk N))) (served : List (List Served)) → AreServed olds news served →
      failed_in news ≡ false → AreWhole served
  all_whole =
      by_each (λ olds news served. failed_in news ≡ false → AreWhole served) (λ e. tt)
      (λ old new links olds news served ready so rest e. by old new links news served so new.job.has_failed refl e rest)
    where
      by : (old new : Worker (Desk N)) (links : List Served) (news : List (Worker (Desk N))) (served : List (List Served)) →
          ServedLinks state board each old new links → (t : Bool) → new.job.has_failed ≡ t →
          (t || failed_in news) ≡ false → (failed_in news ≡ false → AreWhole served) → AreWhole (links ∷ served)
      by old new links news served so true here e more = let h : true ≡ false = e in cc
      by old new links news served so false here e more = (so.all here, more e)

  -- ---- a pass after its turn

  -- the pass of a worker that has served its links from a fresh pass is a used one of the board
  pub used_of : (old new : Worker (Desk N)) → IsFresh board old.pass → HasServed state board each old new →
      IsUsed board new.pass
  used_of old new fresh has =
      let so = has.served in
      let noted = noted_all old.pass new.pass fresh.unnoted fresh.unread so.notes in record {
        of_board = so.of_board;
        share = so.share ∙ fresh.share;
        notes = noted.0;
        were_true = noted.1;
        orderly = orderly_now old new has.links fresh so;
      }

-- end of AllServed
