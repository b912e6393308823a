-- Exchanges that workers had beside each other, in the order of the asks.
use Rattle.std.proofs.Common.{◌≡◌, ℕ, ◌<◌, ◌%◌, Bool, true, false, List, [], ◌∷◌, ◌++◌, map, refl, sym, ap, ◌∙◌, subst}
use Rattle.std.proofs.Common.{nat_eq, eqb-true, cond}
use Rattle.std.proofs.lemmas.Bool.{eq-eqb}
use Rattle.spec_board.specs.Orders.{InPairs, AreInOrder, AreBacked, HaveOneOrder}
use Rattle.spec_server.specs.declared.asks.Asked.{Asked}
use Rattle.spec_server.specs.Machine.{ExactAsk, opening}
use Rattle.spec_server.specs.Exchanges.{Exchange, asked_in, AloneRun, of_session}
use Rattle.spec_serve.specs.Workers.{reads_in_all, reads_of_worker, exchanges_of_worker, asks_of_worker, Interleaves}
use Rattle.spec_serve.specs.Workers.{HasServedAlone, ManyFits, logs_of}

module _ (workers : ℕ) where
  -- ---- the exchanges in one order

  -- the exchanges xs begin with one of request a, and the rest are of the requests `asks`
  record Next (a : Asked ExactAsk) (asks : List (Asked ExactAsk)) (xs : List Exchange) : Type 0 where
    first : Exchange
    rest : List Exchange
    all : xs ≡ first ∷ rest
    is_first : asked_in first ≡ a
    are_rest : map asked_in rest ≡ asks

  -- a list of exchanges whose requests are a and others has a first exchange, of request a, and then those of the
  -- others
  next_of : (a : Asked ExactAsk) (asks : List (Asked ExactAsk)) (xs : List Exchange) → map asked_in xs ≡ a ∷ asks →
      Next a asks xs
  next_of a asks [] e = cc
  next_of a asks (x ∷ xs) e = record {
    first = x;
    rest = xs;
    all = refl;
    is_first = let f : asked_in x ≡ a = cc in f;
    are_rest = let f : map asked_in xs ≡ asks = cc in f;
  }

  -- what workers had, but for this worker: it has the exchanges `rest`
  abbrev less : (ℕ → List Exchange) → ℕ → List Exchange → ℕ → List Exchange
  less had worker rest other = cond (nat_eq worker other) rest (had other)

  module _ (a : Asked ExactAsk) (asks : List (Asked ExactAsk)) (had : ℕ → List Exchange)
      (are : (worker : ℕ) → map asked_in (had worker) ≡ asks_of_worker workers worker (a ∷ asks)) where
    -- the number of the worker that serves the session of request a
    abbrev own : ℕ
    own = a.session % workers

    -- what the worker of request a had begins with an exchange of it
    own_next : Next a (asks_of_worker workers own asks) (had own)
    own_next =
        next_of a (asks_of_worker workers own asks) (had own)
        (subst
        (λ t. map asked_in (had own) ≡ cond t (a ∷ asks_of_worker workers own asks) (asks_of_worker workers own asks))
        (eq-eqb own own refl) (are own))

    -- what the workers had, less the exchange of request a
    abbrev left : ℕ → List Exchange
    left = less had own own_next.rest

    -- less the exchange of request a, what each worker had is of its own among the other requests
    left_are : (worker : ℕ) → map asked_in (left worker) ≡ asks_of_worker workers worker asks
    left_are worker = by (nat_eq own worker) refl
      where
        by : (t : Bool) → nat_eq own worker ≡ t →
            map asked_in (cond t own_next.rest (had worker)) ≡ asks_of_worker workers worker asks
        by true e =
            subst (λ w. map asked_in own_next.rest ≡ asks_of_worker workers w asks) (eqb-true own worker e)
            own_next.are_rest
        by false e =
            subst
            (λ t.
            map asked_in (had worker)
            ≡ cond t (a ∷ asks_of_worker workers worker asks) (asks_of_worker workers worker asks))
            e (are worker)

    -- where what is left of the workers' exchanges stands in one order, with the exchange of request a in front each
    -- worker's part is what it had
    parts_more : (rest : Interleaves workers asks left) → (worker : ℕ) →
        exchanges_of_worker workers worker (own_next.first ∷ rest.exchanges) ≡ had worker
    parts_more rest worker = by (nat_eq own worker) refl
      where
        same : own_next.first.session % workers ≡ own
        same = ap (λ (b : Asked ExactAsk). b.session % workers) own_next.is_first

        so : (t : Bool) → nat_eq own worker ≡ t →
            cond t (own_next.first ∷ cond t own_next.rest (had worker)) (cond t own_next.rest (had worker))
            ≡ had worker
        so true e = sym own_next.all ∙ ap had (eqb-true own worker e)
        so false e = refl

        by : (t : Bool) → nat_eq own worker ≡ t →
            exchanges_of_worker workers worker (own_next.first ∷ rest.exchanges) ≡ had worker
        by t e =
            ap
            (λ n.
            cond (nat_eq n worker) (own_next.first ∷ exchanges_of_worker workers worker rest.exchanges)
            (exchanges_of_worker workers worker rest.exchanges)) same
            ∙ ap
            (λ xs. cond (nat_eq own worker) (own_next.first ∷ xs) xs) (rest.parts worker)
            ∙ ap
            (λ b. cond b (own_next.first ∷ cond b own_next.rest (had worker)) (cond b own_next.rest (had worker))) e
            ∙ so t e

  -- where each worker had exchanges of its own requests, these can stand in the order of all requests
  pub interleaved : (asks : List (Asked ExactAsk)) (had : ℕ → List Exchange) →
      ((worker : ℕ) → map asked_in (had worker) ≡ asks_of_worker workers worker asks) → Interleaves workers asks had
  interleaved [] had are =
      record { exchanges = []; asked = refl; parts = λ worker. sym (none (had worker) (are worker)) }
    where
      none : (xs : List Exchange) → map asked_in xs ≡ [] → xs ≡ []
      none [] e = refl
      none (x ∷ xs) e = cc
  interleaved (a ∷ asks) had are =
      let rest = interleaved asks (left a asks had are) (left_are a asks had are) in
      record {
        exchanges = (own_next a asks had are).first ∷ rest.exchanges;
        asked = ap (λ b. b ∷ map asked_in rest.exchanges) (own_next a asks had are).is_first
            ∙ ap (λ bs. a ∷ bs) rest.asked;
        parts = parts_more a asks had are rest;
      }

  -- ---- they are a run of many

  -- with one more exchange in front, the exchanges of a session among its worker's are those among all
  own_more : (session : ℕ) (x : Exchange) (xs : List Exchange) (t : Bool) →
      nat_eq (x.session % workers) (session % workers) ≡ t →
      of_session session (exchanges_of_worker workers (session % workers) xs) ≡ of_session session xs →
      of_session session (cond t (x ∷ exchanges_of_worker workers (session % workers) xs)
      (exchanges_of_worker workers (session % workers) xs))
      ≡ cond (nat_eq x.session session) (x ∷ of_session session xs) (of_session session xs)
  own_more session x xs true e more =
      ap (λ ys. cond (nat_eq x.session session) (x ∷ ys) ys) more
  own_more session x xs false e more = by (nat_eq x.session session) refl
    where
      by : (b : Bool) → nat_eq x.session session ≡ b →
          of_session session (exchanges_of_worker workers (session % workers) xs)
          ≡ cond b (x ∷ of_session session xs) (of_session session xs)
      by true f =
          absurd
          (let g : nat_eq (x.session % workers) (session % workers) ≡ true =
          eq-eqb (x.session % workers) (session % workers) (ap (λ n. n % workers) (eqb-true x.session session f)) in
          let h : false ≡ true = sym e ∙ g in
          cc)
      by false f = more

  -- the exchanges of a session among its worker's are those among all
  own_session : (session : ℕ) (xs : List Exchange) →
      of_session session (exchanges_of_worker workers (session % workers) xs) ≡ of_session session xs
  own_session session [] = refl
  own_session session (x ∷ xs) =
      own_more session x xs (nat_eq (x.session % workers) (session % workers)) refl (own_session session xs)

  -- with one more exchange in front, or not, the reads of a worker's exchanges are its reads
  reads_more : (worker : ℕ) (x : Exchange) (xs : List Exchange) (t : Bool) →
      reads_in_all (exchanges_of_worker workers worker xs) ≡ reads_of_worker workers worker xs →
      reads_in_all (cond t (x ∷ exchanges_of_worker workers worker xs) (exchanges_of_worker workers worker xs))
      ≡ cond t x.reads [] ++ reads_of_worker workers worker xs
  reads_more worker x xs true more = ap (λ rs. x.reads ++ rs) more
  reads_more worker x xs false more = more

  -- the reads of a worker's exchanges are the reads of that worker
  reads_of_its_own : (worker : ℕ) (xs : List Exchange) →
      reads_in_all (exchanges_of_worker workers worker xs) ≡ reads_of_worker workers worker xs
  reads_of_its_own worker [] = refl
  reads_of_its_own worker (x ∷ xs) =
      reads_more worker x xs (nat_eq (x.session % workers) worker) (reads_of_its_own worker xs)

  -- where each worker served its own alone, and all reads are backed and have one order, many workers may have had the
  -- exchanges
  pub many_fit : (places : ℕ) (xs : List Exchange) → ((session : ℕ) → session % workers < workers) →
      ((worker : ℕ) → worker < workers → HasServedAlone places (exchanges_of_worker workers worker xs)) →
      AreBacked (reads_in_all xs) → HaveOneOrder places workers (logs_of workers xs) → ManyFits places workers xs
  many_fit places xs below served backed together = record {
    alone = λ session. let run = (served (session % workers) (below session)).alone session in (
      run.0,
      subst (λ ys. AloneRun places opening ys run.0) (own_session session xs) run.1,
    );
    ordered = λ worker l. subst (InPairs AreInOrder) (reads_of_its_own worker xs) (served worker l).ordered;
    backed = backed;
    together = together;
  }
