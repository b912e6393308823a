-- What all workers had, in the order of the asks.
use Rattle.std.proofs.Common.{◌≡◌, ◌≢◌, ℕ, zero, suc, ◌+◌, ◌<◌, ◌≤◌, ◌%◌, List, [], ◌∷◌, ◌++◌, Bool, true, false}
use Rattle.std.proofs.Common.{length, map, reverse, get_or, eqb-true, eq-eqb, refl, ap, sym, ◌∙◌, subst, arith}
use Rattle.std.proofs.Common.{nat_eq, cond, append-nil, ⊎_elim}
use Rattle.std.specs.List.{AllByRecursion, filter}
use Rattle.std.specs.List.Sorted.{IsPermutation}
use Rattle.std.proofs.lemmas.Bool.{cases_lt}
use Rattle.std.proofs.lemmas.List.{append_assoc, reverse-reverse, get_or_default, get_or-map, length-map}
use Rattle.std.proofs.lemmas.List.Elements.{filter-append}
use Rattle.std.proofs.lemmas.List.Sorted.{IsPermutation-refl, IsPermutation-sym, IsPermutation-trans}
use Rattle.std.proofs.lemmas.List.Sorted.{IsPermutation-append_left, IsPermutation-append_right}
use Rattle.std.proofs.lemmas.List.Sorted.{IsPermutation-append_comm}
use Rattle.spec_board.specs.Orders.{InPairs, AreInOrder, AreBacked, HaveOneOrder}
use Rattle.spec_board.specs.Reads.{ExactRead}
use Rattle.spec_server.specs.declared.asks.Asked.{Asked}
use Rattle.spec_server.specs.Machine.{ExactAsk, ExactReply, State, opening}
use Rattle.spec_server.specs.Exchanges.{Exchange, asked_in, AloneRun, of_session, RunAlone}
use Rattle.spec_serve.specs.Workers.{reads_in_all, exchanges_of_worker, logs_of, asks_of_worker, Interleaves}
use Rattle.spec_serve.proofs.ManyFromOne.{log_reads}
use Rattle.spec_serve.proofs.Interleaving.{interleaved, many_fit}
use Rattle.basis_board.specs.declared.board.Board.{Board}
use Rattle.basis_board.specs.Known.{Known}
use Rattle.basis_board.specs.Moments.{ComeAfter, IsOneLog}
use Rattle.basis_board.specs.Orderly.{IsWhole}
use Rattle.basis_board.specs.PassReads.{reads_of}
use Rattle.basis_board.specs.Played.{IsLogOf}
use Rattle.basis_board.proofs.AnyOrder.{any_order}
use Rattle.basis_board.proofs.Played.{all_played}
use Rattle.lp_workers.specs.declared.hiring.Worker.{Worker}
use Rattle.lp_workers.specs.Passes.{notes_of_all, reads_of_all}
use Rattle.lp_workers.specs.Turns.{jobs_of, passes_of, TakeTurns, TookTurns}
use Rattle.lp_workers.proofs.Founded.{run_founded, log_own}
use Rattle.lp_workers.proofs.Gathering.{map_reverse}
use Rattle.lp_script.specs.declared.part.Part.{Part}
use Rattle.lp_script.specs.Answer.{states_of, state_at}
use Rattle.lp_script.specs.AnswersAll.{AnswersAll}
use Rattle.lp_script.specs.Dealt.{AreDealt, HoldReplies}
use Rattle.lp_script.specs.Parts.{IsServing, Took}
use Rattle.lp_script.proofs.Dealing.{last_first}

-- numbers that compare as unequal are different
not_equal : (a b : ℕ) → nat_eq a b ≡ false → a ≢ b
not_equal a b e same =
    let f : nat_eq a b ≡ true = eq-eqb a b same in let g : false ≡ true = sym e ∙ f in cc

-- three lists of reads with the first two swapped have the same reads
swapped : (a b c : List ExactRead) → IsPermutation (a ++ (b ++ c)) (b ++ (a ++ c))
swapped a b c =
    subst (λ rs. IsPermutation rs (b ++ (a ++ c))) (append_assoc a b c)
    (subst (IsPermutation (a ++ b ++ c)) (append_assoc b a c)
    (IsPermutation-append_left c (a ++ b) (b ++ a) (IsPermutation-append_comm a b)))

-- ---- the reads of all, worker by worker

module _ (n : ℕ) where
  -- the reads in the exchanges of so many workers, from worker `from` on, one worker after the other
  abbrev by_worker : ℕ → ℕ → List Exchange → List ExactRead
  by_worker from zero xs = []
  by_worker from (suc m) xs = reads_in_all (exchanges_of_worker n from xs) ++ by_worker (suc from) m xs

  module _ (x : Exchange) (xs : List Exchange) where
    -- the worker of the first exchange
    abbrev own : ℕ
    own = x.session % n

    -- an exchange of another worker is none of the exchanges of worker `from`
    other_one : (from : ℕ) → own ≢ from → exchanges_of_worker n from (x ∷ xs) ≡ exchanges_of_worker n from xs
    other_one from other = by (nat_eq own from) refl
      where
        by : (t : Bool) → nat_eq own from ≡ t →
            cond t (x ∷ exchanges_of_worker n from xs) (exchanges_of_worker n from xs) ≡ exchanges_of_worker n from xs
        by true e = absurd (other (eqb-true own from e))
        by false e = refl

    -- an exchange of worker `from` stands first among the exchanges of this worker
    its_one : (from : ℕ) → own ≡ from → exchanges_of_worker n from (x ∷ xs) ≡ x ∷ exchanges_of_worker n from xs
    its_one from e =
        ap (λ t. cond t (x ∷ exchanges_of_worker n from xs) (exchanges_of_worker n from xs)) (eq-eqb own from e)

    -- an exchange of a worker below `from` adds no read to those of the m workers from there on
    before_them : (from m : ℕ) → own < from → by_worker from m (x ∷ xs) ≡ by_worker from m xs
    before_them from zero l = refl
    before_them from (suc m) l =
        ap (λ ys. reads_in_all ys ++ by_worker (suc from) m (x ∷ xs))
        (other_one from (λ e. omega (arith, l, e)))
        ∙ ap (λ rs. reads_in_all (exchanges_of_worker n from xs) ++ rs) (before_them (suc from) m (omega (arith, l)))

    -- what worker `from` reads in the exchanges behind the first one
    abbrev its : ℕ → List ExactRead
    its from = reads_in_all (exchanges_of_worker n from xs)

    -- what the m workers behind `from` read in the exchanges behind the first one
    abbrev later : ℕ → ℕ → List ExactRead
    later from m = by_worker (suc from) m xs

    -- an exchange of one of the m workers from `from` on adds its reads to theirs, in some order
    among_them : (from m : ℕ) → from ≤ own → own < from + m →
        IsPermutation (x.reads ++ by_worker from m xs) (by_worker from m (x ∷ xs))
    among_them from zero l h = absurd (omega (arith, l, h))
    among_them from (suc m) l h =
        by (nat_eq own from) refl (λ other. among_them (suc from) m (omega (arith, other, l)) (omega (arith, h)))
      where
        by : (t : Bool) → nat_eq own from ≡ t →
            (own ≢ from → IsPermutation (x.reads ++ later from m) (by_worker (suc from) m (x ∷ xs))) →
            IsPermutation (x.reads ++ (its from ++ later from m)) (by_worker from (suc m) (x ∷ xs))
        by true e more =
            let here : own ≡ from = eqb-true own from e in
            subst (IsPermutation (x.reads ++ (its from ++ later from m)))
            (sym (append_assoc x.reads (its from) (later from m))
            ∙ ap (λ rs. (x.reads ++ its from) ++ rs) (sym (before_them (suc from) m (omega (arith, here))))
            ∙ ap (λ ys. reads_in_all ys ++ by_worker (suc from) m (x ∷ xs)) (sym (its_one from here)))
            (IsPermutation-refl (x.reads ++ (its from ++ later from m)))
        by false e more =
            let other : own ≢ from = not_equal own from e in
            subst (IsPermutation (x.reads ++ (its from ++ later from m)))
            (ap (λ ys. reads_in_all ys ++ by_worker (suc from) m (x ∷ xs)) (sym (other_one from other)))
            (IsPermutation-trans (x.reads ++ (its from ++ later from m)) (its from ++ (x.reads ++ later from m))
            (its from ++ by_worker (suc from) m (x ∷ xs))
            (swapped x.reads (its from) (later from m))
            (IsPermutation-append_right (its from) (x.reads ++ later from m) (by_worker (suc from) m (x ∷ xs))
            (more other)))

  -- the reads of exchanges are, in some order, those of the first worker's exchanges, then those of the second's, and
  -- so on
  pub by_workers : (xs : List Exchange) → 0 < n → IsPermutation (reads_in_all xs) (by_worker 0 n xs)
  by_workers [] some = subst (IsPermutation []) (sym (none 0 n)) (IsPermutation-refl [])
    where
      none : (from m : ℕ) → by_worker from m [] ≡ []
      none from zero = refl
      none from (suc m) = none (suc from) m
  by_workers (x ∷ xs) some =
      IsPermutation-trans (x.reads ++ reads_in_all xs) (x.reads ++ by_worker 0 n xs) (by_worker 0 n (x ∷ xs))
      (IsPermutation-append_right x.reads (reads_in_all xs) (by_worker 0 n xs) (by_workers xs some))
      (among_them x xs 0 n (omega arith) (omega (arith, some)))

-- ---- lists from the end

-- filtering a reversed list gives the filtered list, reversed
filter_reverse : {X : Type 0} (p : X → Bool) (xs : List X) → filter p (reverse xs) ≡ reverse (filter p xs)
filter_reverse p [] = refl
filter_reverse p (x ∷ xs) =
    ap (filter p) (last_first x xs) ∙ filter-append p (reverse xs) (x ∷ [])
    ∙ ap (λ ys. ys ++ filter p (x ∷ [])) (filter_reverse p xs)
    ∙ by (p x)
  where
    by : (t : Bool) → reverse (filter p xs) ++ cond t (x ∷ []) [] ≡ reverse (cond t (x ∷ filter p xs) (filter p xs))
    by true = sym (last_first x (filter p xs))
    by false = append-nil (reverse (filter p xs))

-- ---- all have served

-- each of so many workers has had its own of the asks
pub record AllServed (board : Board) (n : ℕ) (asks : List (Asked ExactAsk)) (workers : List (Worker Part)) : Type 0 where
  pub many : length workers ≡ n
  pub each : (i : ℕ) (d : Worker Part) → i < n → IsServing board (asks_of_worker n i asks) (get_or workers i d)

module _ {C : Type 0} (is_ready : C → Part → Type 0) (shared : C) (board : Board) (n : ℕ)
    (asks : List (Asked ExactAsk)) (old new : List (Worker Part)) where
  -- where all workers took their turns from the parts to which the asks were dealt, all asks were served over the
  -- shared board
  pub served_all : (parts : List Part) → jobs_of old ≡ parts → length parts ≡ n → length new ≡ length old →
      AreDealt n asks parts → TakeTurns is_ready (λ c. Took) shared board old new → AllServed board n asks new
  served_all parts are many same dealt turns = record {
    many = same ∙ all;
    each = λ i d l.
        let h : i < length old = omega (arith, l, all) in
        let its : (get_or old i d).job.asks.items ≡ reverse (asks_of_worker n i asks) =
        ap (λ (part : Part). part.asks.items)
        (sym (get_or-map (λ (w : Worker Part). w.job) old i d d.job h) ∙ ap (λ ps. get_or ps i d.job) are)
        ∙ dealt i d.job l in
        subst (λ ys. IsServing board ys (get_or new i d))
        (ap reverse its ∙ reverse-reverse (asks_of_worker n i asks)) (turns i d h).turn;
  }
    where
      all : length old ≡ n
      all = sym (length-map old (λ (w : Worker Part). w.job)) ∙ ap length are ∙ many

-- the first worker of a list that is not empty
first_of : (workers : List (Worker Part)) → 0 < length workers → Worker Part
first_of [] l = absurd (omega (arith, l))
first_of (w ∷ workers) l = w

-- a worker whose number is no less than the number of workers has no requests
none_past : (n i : ℕ) (asks : List (Asked ExactAsk)) → 0 < n → n ≤ i → asks_of_worker n i asks ≡ []
none_past n i [] some past = refl
none_past n i (a ∷ asks) some past = by (nat_eq (a.session % n) i) refl (none_past n i asks some past)
  where
    by : (t : Bool) → nat_eq (a.session % n) i ≡ t → asks_of_worker n i asks ≡ [] →
        cond t (a ∷ asks_of_worker n i asks) (asks_of_worker n i asks) ≡ []
    by true e none =
        absurd (let same : a.session % n ≡ i = eqb-true (a.session % n) i e in omega (arith, same, some, past))
    by false e none = none

module _ (board : Board) (n : ℕ) (asks : List (Asked ExactAsk)) (workers : List (Worker Part)) (some : 0 < n)
    (so : AllServed board n asks workers) where
  -- worker i has had these exchanges: each session runs alone in them, their reads are those of its pass, in order and
  -- whole, and it holds their replies
  pub record Had (i : ℕ) (xs : List Exchange) : Type 0 where
    pub alone : RunAlone board.places xs
    pub ordered : InPairs AreInOrder (reads_in_all xs)
    pub replied : (d : Worker Part) → (get_or workers i d).job.replies.items ≡ map (λ (x : Exchange). x.reply) xs
    pub reads : (d : Worker Part) → reads_of (get_or workers i d).pass.view ≡ reads_in_all xs
    pub whole : AllByRecursion IsWhole (reads_in_all xs)

  -- exchanges of the requests of worker i, and what holds of them if there is such a worker
  pub record Share (i : ℕ) : Type 0 where
    pub exchanges : List Exchange
    pub asked : map asked_in exchanges ≡ asks_of_worker n i asks
    pub had : i < n → Had i exchanges

  -- the first worker
  one : Worker Part
  one = first_of workers (subst (λ m. 0 < m) (sym so.many) some)

  -- the exchanges that worker i has had, for i below the number of workers
  part_of_worker : (i : ℕ) → i < n → Share i
  part_of_worker i l =
      let w = get_or workers i one in
      let its = so.each i one l in
      let had = its.had in
      let same : (d : Worker Part) → get_or workers i d ≡ w =
      λ d. get_or_default workers i d one (subst (λ m. i < m) (sym so.many) l) in
      record {
        exchanges = had.exchanges;
        asked = had.asked;
        had = λ below. record {
          alone = λ session. subst
              (λ places. (last : State) × AloneRun places opening (of_session session had.exchanges) last)
              its.hired.places (state_at (states_of w.job.sessions.items) session, had.runs session);
          ordered = subst (InPairs AreInOrder) had.reads had.orderly.ordered;
          replied = λ d. ap (λ (v : Worker Part). v.job.replies.items) (same d) ∙ sym had.replied;
          reads = λ d. ap (λ (v : Worker Part). reads_of v.pass.view) (same d) ∙ had.reads;
          whole = subst (AllByRecursion IsWhole) had.reads had.orderly.whole;
        };
      }

  -- the exchanges that worker i has had; none from the number of workers on
  pub part : (i : ℕ) → Share i
  part i =
      ⊎_elim (λ (l : i < n). part_of_worker i l)
      (λ (past : n ≤ i). record {
        exchanges = [];
        asked = sym (none_past n i asks some past);
        had = λ l. absurd (omega (arith, l, past));
      })
      (cases_lt i n)

  -- the exchanges of all workers stand in one list, in the order of the requests
  pub all : Interleaves n asks (λ i. (part i).exchanges)
  all = interleaved n asks (λ i. (part i).exchanges) (λ i. (part i).asked)

  -- the exchanges of all workers, in the order of the requests
  abbrev pub xs : List Exchange
  xs = all.exchanges

  -- each worker has had the exchanges that are its own among all
  had_of : (i : ℕ) → i < n → Had i (exchanges_of_worker n i xs)
  had_of i l = subst (Had i) (sym (all.parts i)) ((part i).had l)

  -- ---- the replies

  -- the sessions of all exchanges are those of the asks, in their order
  sessions_so : map (λ (x : Exchange). x.session) xs ≡ map (λ (a : Asked ExactAsk). a.session) asks
  sessions_so = by xs ∙ ap (map (λ (a : Asked ExactAsk). a.session)) all.asked
    where
      by : (ys : List Exchange) →
          map (λ (x : Exchange). x.session) ys ≡ map (λ (a : Asked ExactAsk). a.session) (map asked_in ys)
      by [] = refl
      by (y ∷ ys) = ap (λ ss. y.session ∷ ss) (by ys)

  -- the workers hold the replies of the exchanges, for the sessions of the asks in reverse
  pub replies_held : (sessions : List ℕ) → sessions ≡ reverse (map (λ (a : Asked ExactAsk). a.session) asks) →
      HoldReplies n sessions (jobs_of workers) (reverse xs)
  replies_held sessions are = record {
    sessions_are = map_reverse (λ (x : Exchange). x.session) xs ∙ ap reverse sessions_so ∙ sym are;
    held = λ i d l.
        ap (λ (part : Part). part.replies.items)
        (get_or-map (λ (w : Worker Part). w.job) workers i one d (omega (arith, l, so.many)))
        ∙ (had_of i l).replied one
        ∙ sym (reverse-reverse (map (λ (x : Exchange). x.reply) (exchanges_of_worker n i xs)))
        ∙ ap reverse
        (sym (map_reverse (λ (x : Exchange). x.reply) (exchanges_of_worker n i xs))
        ∙ ap (map (λ (x : Exchange). x.reply)) (sym (filter_reverse (λ (x : Exchange). nat_eq (x.session % n) i) xs)));
  }

  -- ---- the reads

  -- where each pass has read what its worker's exchanges read, all passes have read what the workers read, one after
  -- the other
  passes_read : (passes : List Known) (from : ℕ) →
      ((i : ℕ) (d : Known) → i < length passes →
      reads_of (get_or passes i d).view ≡ reads_in_all (exchanges_of_worker n (i + from) xs)) →
      reads_of_all passes ≡ by_worker n from (length passes) xs
  passes_read [] from each = refl
  passes_read (p ∷ passes) from each =
      ap (λ rs. rs ++ reads_of_all passes) (subst (λ k. reads_of p.view ≡ reads_in_all (exchanges_of_worker n k xs))
      (let e : 0 + from ≡ from = omega arith in e) (each 0 p (omega arith)))
      ∙ ap (λ rs. reads_in_all (exchanges_of_worker n from xs) ++ rs)
      (passes_read passes (suc from)
      (λ i d l. subst (λ k. reads_of (get_or passes i d).view ≡ reads_in_all (exchanges_of_worker n k xs))
      (let e : suc i + from ≡ i + suc from = omega arith in e) (each (suc i) d (omega (arith, l)))))

  -- the pass of a worker
  abbrev pass : Worker Part → Known
  pass w = w.pass

  -- the passes of the workers have read what the workers' exchanges read
  reads_so : reads_of_all (passes_of workers) ≡ by_worker n 0 n xs
  reads_so =
      passes_read (passes_of workers) 0
      (λ i d l. (let h : i < n = omega (arith, l, length-map workers pass, so.many) in
      ap (λ (k : Known). reads_of k.view)
      (get_or-map pass workers i one d (omega (arith, h, so.many)))
      ∙ (had_of i h).reads one
      ∙ ap (λ k. reads_in_all (exchanges_of_worker n k xs)) (let e : i ≡ i + 0 = omega arith in e)))
      ∙ ap (λ m. by_worker n 0 m xs) (length-map workers pass ∙ so.many)

  -- ---- one order of all reads

  -- there are as many passes as workers
  many_passes : length (passes_of workers) ≡ n
  many_passes = length-map workers pass ∙ so.many

  -- the log of each worker is that of its pass
  its_log : (i : ℕ) → i < n → IsLogOf board.places n i (get_or workers i one).pass (logs_of n xs i)
  its_log i l =
      let its = so.each i one l in
      let ys = exchanges_of_worker n i xs in record {
        reads = log_reads ys ∙ sym ((had_of i l).reads one);
        own = log_own n i xs;
        founded = run_founded board.places (λ session. opening) ys (had_of i l).alone;
        later = subst (λ ms. ComeAfter ms []) (sym (its.hired.notes.all ∙ append-nil its.hired.notes.more))
            its.hired.notes.later;
        were_true = its.hired.were_true;
      }

  -- the log of the worker at i in the list of passes is that of the pass there
  its_log_at : (i : ℕ) (d : Known) → i < length (passes_of workers) →
      IsLogOf board.places (length (passes_of workers)) i (get_or (passes_of workers) i d) (logs_of n xs i)
  its_log_at i d l =
      let h : i < n = omega (arith, l, many_passes) in
      subst (λ m. IsLogOf board.places m i (get_or (passes_of workers) i d) (logs_of n xs i)) (sym many_passes)
      (subst (λ (pass : Known). IsLogOf board.places n i pass (logs_of n xs i))
      (sym (get_or-map pass workers i one d (omega (arith, h, so.many)))) (its_log i h))

  module _ (one_log : IsOneLog (notes_of_all (passes_of workers)))
      (backed_passes : AreBacked (reads_of_all (passes_of workers))) where
    -- the reads of all exchanges are those of all passes, in some order
    moved : IsPermutation (reads_in_all xs) (reads_of_all (passes_of workers))
    moved = subst (IsPermutation (reads_in_all xs)) (sym reads_so) (by_workers n xs some)

    -- the reads of all exchanges are backed
    backed : AreBacked (reads_in_all xs)
    backed =
        any_order (reads_of_all (passes_of workers)) (reads_in_all xs)
        (IsPermutation-sym (reads_in_all xs) (reads_of_all (passes_of workers)) moved) backed_passes

    -- the logs of all workers have one order in which the places answer them
    one_order : HaveOneOrder board.places n (logs_of n xs)
    one_order =
        subst (λ m. HaveOneOrder board.places m (logs_of n xs)) many_passes
        (all_played board.places (passes_of workers) (logs_of n xs) its_log_at one_log backed_passes)

    -- where the notes of all passes are one log and their reads are backed, the replies of the exchanges answer all
    -- asks
    pub answers_all : (replies : List ExactReply) →
        replies ≡ reverse (map (λ (x : Exchange). x.reply) (reverse xs)) → AnswersAll n board.places asks replies
    answers_all replies are = record {
      exchanges = xs;
      asked = all.asked;
      replied = sym (are ∙ ap reverse (map_reverse (λ (x : Exchange). x.reply) xs)
          ∙ reverse-reverse (map (λ (x : Exchange). x.reply) xs));
      fits = many_fit n board.places xs (λ session. omega (arith, some))
          (λ i l. record { alone = (had_of i l).alone; ordered = (had_of i l).ordered }) backed one_order;
    }

-- ---- all parts took their turns

module _ {C : Type 0} (is_ready : C → Part → Type 0) (shared : C) (places n : ℕ) (asks : List (Asked ExactAsk))
    (parts news : List Part) (took : TookTurns is_ready (λ c. Took) shared places parts news) (some : 0 < n)
    (many : length parts ≡ n) (dealt : AreDealt n asks parts) where
  -- all asks were served once the workers took their turns
  served : AllServed took.board n asks took.after
  served = served_all is_ready shared took.board n asks took.before took.after parts took.jobs_before many took.many
      dealt took.turns

  -- the exchanges that the workers had, in the order of the requests, the last one first
  pub had : List Exchange
  had = reverse (xs took.board n asks took.after some served)

  -- after their turns the workers hold the replies of what they had, for the sessions of the asks in reverse
  pub had_held : (sessions : List ℕ) → sessions ≡ reverse (map (λ (a : Asked ExactAsk). a.session) asks) →
      HoldReplies n sessions news had
  unfolding had
  had_held sessions are =
      subst (λ ps. HoldReplies n sessions ps (reverse (xs took.board n asks took.after some served))) took.jobs_after
      (replies_held took.board n asks took.after some served sessions are)

  -- after the turns of all workers, the replies of what they had answer all asks
  pub all_answered : (replies : List ExactReply) → replies ≡ reverse (map (λ (x : Exchange). x.reply) had) →
      AnswersAll n places asks replies
  unfolding had
  all_answered replies are =
      subst (λ p. AnswersAll n p asks replies) took.places_so
      (answers_all took.board n asks took.after some served took.one_log took.backed replies are)
