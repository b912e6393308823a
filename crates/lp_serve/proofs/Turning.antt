-- The turn of a worker, link by link.
use Rattle.std.proofs.Common.{◌≡◌, ℕ, ◌+◌, ◌<◌, ◌≤◌, List, [], ◌∷◌, ◌++◌, length, map, true, false}
use Rattle.std.proofs.Common.{refl, sym, ap, ◌∙◌, subst, inl, inr, arith, length-append}
use Rattle.std.specs.Prelude.{vec_capacity}
use Rattle.std.specs.List.{All, flat_map}
use Rattle.std.proofs.lemmas.Grind.{flat_map-append}
use Rattle.std.proofs.lemmas.List.{map-append}
use Rattle.std.proofs.lemmas.List.Elements.{All-push, All-nil}
use Rattle.spec_server.specs.Streams.{streams}
use Rattle.spec_serve.specs.declared.link_end.LinkEnd.{LinkEnd}
use Rattle.spec_serve.specs.declared.link_end.LinkEnd.TheVariants as end
use Rattle.basis_board.specs.declared.board.Board.{Board}
use Rattle.basis_board.specs.Id.{id_of}
use Rattle.basis_board.specs.Known.{Known}
use Rattle.basis_board.specs.Rule.{Consistent}
use Rattle.lp_base.specs.Causes.{Rose}
use Rattle.lp_base.specs.LinkState.{LinkState, IsNothing}
use Rattle.lp_base.specs.Listening.{ListenerState, Given, Returned, Grows}
use Rattle.lp_base.proofs.Logs.{grows_none, grows_more}
use Rattle.spec_serve.specs.Link.{ServesLink}
use Rattle.lp_serve.specs.Service.{ServesBy}
use Rattle.lp_serve.specs.Serving.{Served, IsServed, streams_of, events_of}
use Rattle.lp_workers.specs.declared.hiring.Worker.{Worker}
use Rattle.lp_workers.specs.Passes.{IsFresh}
use Rattle.lp_serve.specs.Desks.{IsOpen, LinkSteps, HasServed}
use Rattle.lp_serve.specs.declared.desk.Desk.{Desk}
use Rattle.lp_session.specs.Boarding.{NotesOn}
use Rattle.lp_serve.proofs.Noting.{none_noted, noted_on}
use Rattle.lp_serve.proofs.LinkRuns.{links_places, links_more}

module _ {N : Type 0} (state : N → ListenerState) (board : Board) (each : ℕ) (begun : Worker (Desk N)) where
  -- a worker in its turn has served `index` links of its listener, which has given each that was asked for
  pub record Turning (index : ℕ) (now : Worker (Desk N)) : Type 0 where
    pub links : List Served
    pub of_board : now.pass.board ≡ id_of board
    pub share : now.pass.view.share ≡ begun.pass.view.share
    pub consistent : Consistent now.pass.view
    pub places : now.pass.view.places ≡ board.places
    pub log : Grows (state begun.job.net).log (state now.job.net).log (flat_map events_of links)
    pub served : All (IsServed board.places) links
    pub many : length links ≡ index
    pub ends : now.job.ends.items ≡ map (λ (x : Served). x.ended) links
    pub steps : LinkSteps begun.pass.view links now.pass.view
    pub notes : NotesOn begun.pass now.pass
    pub later : (state begun.job.net).accept_faults ≤ (state now.job.net).accept_faults
    pub well : now.job.has_failed ≡ false
    pub room : each ≤ vec_capacity now.job.ends

  -- a worker that begins its turn with an open desk and a fresh pass has served no link yet
  pub turn_begins : IsOpen each begun.job → IsFresh board begun.pass → Turning 0 begun
  turn_begins opened fresh = record {
    links = [];
    of_board = fresh.of_board;
    share = refl;
    consistent = fresh.consistent;
    places = fresh.places;
    log = grows_none (state begun.job.net).log;
    served = All-nil (IsServed board.places);
    many = refl;
    ends = opened.none;
    steps = refl;
    notes = none_noted begun.pass;
    later = omega arith;
    well = opened.well;
    room = opened.room;
  }

  -- a worker that is in its turn and has served all links that it was to has served its links
  pub turn_ends : (now : Worker (Desk N)) → Turning each now → HasServed state board each begun now
  turn_ends now so = record {
    links = so.links;
    served = record {
      of_board = so.of_board;
      share = so.share;
      consistent = so.consistent;
      listened = record {
        log = so.log;
        served = so.served;
        few = omega (arith, so.many);
        all = inl so.many;
        later = so.later;
      };
      ends = so.ends;
      steps = so.steps;
      notes = so.notes;
      all = λ well. so.many;
      failed = λ failed. (let h : false ≡ true = sym so.well ∙ failed in cc);
    };
  }

  module _ (index : ℕ) (now : Worker (Desk N)) (so : Turning index now) (next : Worker (Desk N)) (within : index < each) where
    -- where the listener fails to give a link, the worker has served the links so far, and its turn is over
    pub turn_fails : next.pass ≡ now.pass → next.job.ends ≡ now.job.ends →
        (state next.job.net).log ≡ (state now.job.net).log → (state now.job.net).accept_faults ≤ (state next.job.net).accept_faults →
        Rose (state now.job.net).accept_faults (state next.job.net).accept_faults → next.job.has_failed ≡ true →
        HasServed state board each begun next
    turn_fails pass ends log later rose failed =
        let risen : Rose (state begun.job.net).accept_faults (state next.job.net).accept_faults =
        omega (arith, so.later, rose) in record {
          links = so.links;
          served = record {
            of_board = ap (λ (k : Known). k.board) pass ∙ so.of_board;
            share = ap (λ (k : Known). k.view.share) pass ∙ so.share;
            consistent = subst (λ (k : Known). Consistent k.view) (sym pass) so.consistent;
            listened = record {
              log = subst (λ known. Grows (state begun.job.net).log known (flat_map events_of so.links)) (sym log) so.log;
              served = so.served;
              few = omega (arith, so.many, within);
              all = inr risen;
              later = omega (arith, so.later, later);
            };
            ends = ap (λ v. v.items) ends ∙ so.ends;
            steps = subst (λ (k : Known). LinkSteps begun.pass.view so.links k.view) (sym pass) so.steps;
            notes = subst (NotesOn begun.pass) (sym pass) so.notes;
            all = λ well. (let h : true ≡ false = sym failed ∙ well in cc);
            failed = λ failed. risen;
          };
        }

    -- the listener gave one more link, it was served and came back
    module _ (met : N) (given back : LinkState) (ended : LinkEnd)
        (serves : ServesBy (streams given.source.left back.source.left given.sink.taken back.sink.taken)
        now.pass.view next.pass.view ended) where
      -- the link that was served last
      abbrev one : Served
      one = record { given = given; back = back; exchanges = serves.exchanges; ended = ended }

      -- the links served so far, with the last one
      abbrev links_now : List Served
      links_now = so.links ++ one ∷ []

      -- where a worker in its turn serves one link more of its listener, it is in its turn with one link more
      pub turn_more : IsNothing given.sink.taken →
          (ended ≡ end.Read → Rose given.source.read_faults back.source.read_faults) →
          (ended ≡ end.Write → Rose given.sink.write_faults back.sink.write_faults) →
          next.pass.board ≡ now.pass.board → next.pass.view.share ≡ now.pass.view.share →
          (Consistent now.pass.view → Consistent next.pass.view) → NotesOn now.pass next.pass →
          Grows (state now.job.net).log (state met).log (Given given ∷ []) →
          (state now.job.net).accept_faults ≤ (state met).accept_faults →
          Grows (state met).log (state next.job.net).log (Returned back ∷ []) →
          (state next.job.net).accept_faults ≡ (state met).accept_faults →
          next.job.ends.items ≡ now.job.ends.items ++ ended ∷ [] → each ≤ vec_capacity next.job.ends →
          next.job.has_failed ≡ now.job.has_failed → Turning (index + 1) next
      turn_more fresh read write of_board share consistent notes gives later takes faults ends room well =
          record {
            links = links_now;
            of_board = of_board ∙ so.of_board;
            share = share ∙ so.share;
            consistent = consistent so.consistent;
            places = links_places begun.pass.view links_now next.pass.view steps
                ∙ sym (links_places begun.pass.view so.links now.pass.view so.steps) ∙ so.places;
            log = subst (Grows (state begun.job.net).log (state next.job.net).log)
                (sym (flat_map-append events_of so.links (one ∷ [])))
                (grows_more (state begun.job.net).log (state now.job.net).log (state next.job.net).log
                (flat_map events_of so.links) (events_of one) so.log
                (grows_more (state now.job.net).log (state met).log (state next.job.net).log
                (Given given ∷ []) (Returned back ∷ []) gives takes));
            served = All-push (IsServed board.places) so.links one so.served (record {
              fresh = fresh;
              serves = subst (λ places. ServesLink places (streams_of one) serves.exchanges ended) so.places
                  serves.serves;
              read = read;
              write = write;
            });
            many = omega (arith, so.many, length-append so.links (one ∷ []));
            ends = ends ∙ ap (λ es. es ++ ended ∷ []) so.ends
                ∙ sym (map-append (λ (x : Served). x.ended) so.links (one ∷ []));
            steps = steps;
            notes = noted_on begun.pass now.pass next.pass so.notes notes;
            later = omega (arith, so.later, later, faults);
            well = well ∙ so.well;
            room = room;
          }
        where
          steps : LinkSteps begun.pass.view (so.links ++ one ∷ []) next.pass.view
          steps = links_more begun.pass.view now.pass.view next.pass.view so.links one serves.last so.steps serves.steps
