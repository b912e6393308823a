-- The exchanges of all links are those that so many workers may have had.
use Rattle.std.proofs.Common.{◌≡◌, ℕ, ◌<◌, List, [], length, get_or}
use Rattle.std.proofs.Common.{refl, sym, ap, ◌∙◌, subst, arith, append-nil}
use Rattle.std.proofs.lemmas.List.{length-map}
use Rattle.spec_board.specs.Orders.{AreBacked, HaveOneOrder}
use Rattle.spec_server.specs.Exchanges.{Exchange, RunAlone}
use Rattle.spec_server.specs.Machine.{opening}
use Rattle.spec_serve.specs.Links.{exchanges_of_links, exchanges_from, RunsOver}
use Rattle.spec_serve.proofs.Apart.{worker_has_own, all_reads}
use Rattle.spec_serve.specs.Workers.{reads_in_all, exchanges_of_worker, logs_of, HasServedAlone, ManyFits}
use Rattle.spec_serve.proofs.Interleaving.{many_fit}
use Rattle.spec_serve.proofs.ManyFromOne.{log_reads}
use Rattle.spec_serve.proofs.OneOfMany.{one_of_many}
use Rattle.basis_board.specs.declared.board.Board.{Board}
use Rattle.basis_board.specs.Known.{Known}
use Rattle.basis_board.specs.Moments.{ComeAfter, IsOneLog}
use Rattle.basis_board.specs.Played.{IsLogOf}
use Rattle.basis_board.proofs.Played.{all_played}
use Rattle.lp_base.specs.Listening.{ListenerState}
use Rattle.lp_workers.specs.declared.hiring.Worker.{Worker}
use Rattle.lp_workers.specs.Passes.{notes_of_all, reads_of_all}
use Rattle.lp_workers.specs.Turns.{passes_of}
use Rattle.lp_workers.proofs.Founded.{run_founded, log_own}
use Rattle.lp_serve.specs.declared.desk.Desk.{Desk}
use Rattle.lp_serve.specs.Serving.{Served, exchanges_of}
use Rattle.lp_serve.proofs.LinkRuns.{exchanges_in}
use Rattle.lp_serve.proofs.AllServed.{AreServed, news_many, reads_are, each_alone, each_noted}

module _ {N : Type 0} (state : N → ListenerState) (board : Board) (each : ℕ) (olds news : List (Worker (Desk N)))
    (served : List (List Served)) (so : AreServed state board each olds news served) (some : 0 < length served)
    (one_log : IsOneLog (notes_of_all (passes_of news))) (backed_passes : AreBacked (reads_of_all (passes_of news))) where
  -- the number of workers, each with its list of links
  abbrev n : ℕ
  n = length (exchanges_of served)

  -- the exchanges of all links, with a number for each link's session
  abbrev xs : List Exchange
  xs = exchanges_from n 0 (exchanges_of served)

  -- there are as many workers as lists of links
  many : n ≡ length served
  many = length-map served exchanges_in

  -- there are as many passes as lists of links
  passes_many : length (passes_of news) ≡ length served
  passes_many = length-map news (λ (w : Worker (Desk N)). w.pass) ∙ news_many state board each olds news served so

  -- the reads of the exchanges of all links are backed
  backed : AreBacked (reads_in_all xs)
  backed =
      subst AreBacked (reads_are state board each olds news served so ∙ sym (all_reads n 0 (exchanges_of served)))
      backed_passes

  -- among all exchanges those of worker i are those of its links
  own : (i : ℕ) → i < length served →
      exchanges_of_worker n i xs ≡ exchanges_of_links n i 0 (get_or (exchanges_of served) i [])
  own i l = worker_has_own n i (exchanges_of served) refl (omega (arith, l, many))

  -- the log of each worker's exchanges is that of its pass
  its_log : (i : ℕ) (d : Known) → i < length (passes_of news) →
      IsLogOf board.places n i (get_or (passes_of news) i d) (logs_of n xs i)
  its_log i d l =
      let h : i < length served = omega (arith, l, passes_many) in
      let ys = exchanges_of_worker n i xs in
      let noted = each_noted state board each olds news served so n i i d h in record {
        reads = log_reads ys ∙ ap reads_in_all (own i h) ∙ noted.reads;
        own = log_own n i xs;
        founded = run_founded board.places (λ session. opening) ys
            (subst (RunAlone board.places) (sym (own i h))
            (each_alone state board each olds news served so n i i (omega (arith, some, many)) h).alone);
        later = subst (λ ms. ComeAfter ms []) (sym (noted.notes.all ∙ append-nil noted.notes.more))
            noted.notes.later;
        were_true = noted.were_true;
      }

  -- there are as many passes as workers
  same_many : length (passes_of news) ≡ n
  same_many = passes_many ∙ sym many

  -- the logs of all workers have one order in which the places answer them
  one_order : HaveOneOrder board.places n (logs_of n xs)
  one_order =
      subst (λ m. HaveOneOrder board.places m (logs_of n xs)) same_many
      (all_played board.places (passes_of news) (logs_of n xs)
      (λ i d l. subst (λ m. IsLogOf board.places m i (get_or (passes_of news) i d) (logs_of n xs i))
      (sym same_many) (its_log i d l)) one_log backed_passes)

  -- so many workers may have had these exchanges over the board's places
  fits : ManyFits board.places n xs
  fits =
      many_fit n board.places xs (λ session. omega (arith, some, many))
      (λ i l. subst (HasServedAlone board.places) (sym (worker_has_own n i (exchanges_of served) refl l))
      (each_alone state board each olds news served so n i i (omega (arith, some, many))
      (omega (arith, l, many)))) backed one_order

  -- the exchanges of all links, each session with a number of its own, are those that so many workers may have had
  pub all_run : RunsOver board.places (exchanges_of served)
  all_run = record { many = fits; one = λ one. one_of_many n board.places xs one fits }
