-- The exchanges of the links that workers served, apart by worker and by session.
use Rattle.std.proofs.Common.{◌≡◌, ◌≢◌, ℕ, zero, suc, ◌+◌, ◌<◌, ◌≤◌, ◌%◌, List, [], ◌∷◌, ◌++◌, Bool, true, false}
use Rattle.std.proofs.Common.{nat_eq, cond, length, get_or, eqb-true, eq-eqb, refl, ap, sym, ◌∙◌, subst, arith}
use Rattle.std.proofs.Common.{append-nil}
use Rattle.std.specs.List.{filter, flat_map, AllByRecursion}
use Rattle.std.proofs.lemmas.Grind.{flat_map-append}
use Rattle.std.proofs.lemmas.List.Elements.{filter-append}
use Rattle.std.proofs.lemmas.Nat.{mod-mul-add}
use Rattle.spec_server.specs.Machine.{State, opening}
use Rattle.spec_server.specs.Exchanges.{Exchange, AloneRun, of_session, RunAlone}
use Rattle.spec_serve.specs.Workers.{reads_in_all, exchanges_of_worker}
use Rattle.spec_serve.specs.Links.{session_of_link, as_session, exchanges_of_links, exchanges_from}

-- ---- exchanges as those of a session

-- exchanges keep their reads as exchanges of another session
as_session_reads : (session : ℕ) (xs : List Exchange) → reads_in_all (as_session session xs) ≡ reads_in_all xs
as_session_reads session [] = refl
as_session_reads session (x ∷ xs) = ap (λ rs. x.reads ++ rs) (as_session_reads session xs)

-- exchanges that run from one state to another do so as exchanges of another session
as_session_run : (places session : ℕ) (old last : State) (xs : List Exchange) → AloneRun places old xs last →
    AloneRun places old (as_session session xs) last
as_session_run places session old last [] run = run
as_session_run places session old last (x ∷ xs) run =
    (run.0, run.1, as_session_run places session run.0 last xs run.2)

-- of exchanges as those of one session, a test of sessions keeps all, if it holds of that session, and else none
taken : (p : ℕ → Bool) (session : ℕ) (xs : List Exchange) →
    filter (λ (x : Exchange). p x.session) (as_session session xs) ≡ cond (p session) (as_session session xs) []
taken p session [] = by (p session)
  where
    by : (t : Bool) → [] ≡ cond t (as_session session []) []
    by true = refl
    by false = refl
taken p session (x ∷ xs) =
    by (record { session = session; ask = x.ask; reads = x.reads; reply = x.reply }) (as_session session xs)
    (filter (λ (x : Exchange). p x.session) (as_session session xs)) (p session) (taken p session xs)
  where
    by : (y : Exchange) (ys rest : List Exchange) (t : Bool) → rest ≡ cond t ys [] →
        cond t (y ∷ rest) rest ≡ cond t (y ∷ ys) []
    by y ys rest true e = ap (λ zs. y ∷ zs) e
    by y ys rest false e = e

-- a test tells two numbers apart that are different
not_equal : (a b : ℕ) → a ≢ b → nat_eq a b ≡ false
not_equal a b other = by (nat_eq a b) refl
  where
    by : (t : Bool) → nat_eq a b ≡ t → t ≡ false
    by true e = absurd (other (eqb-true a b e))
    by false e = refl

module _ (n : ℕ) where
  -- ---- the exchanges of a worker

  -- the exchanges of a link of worker i are all that worker's
  of_own : (i k : ℕ) (xs : List Exchange) → i < n →
      exchanges_of_worker n i (as_session (session_of_link n i k) xs) ≡ as_session (session_of_link n i k) xs
  of_own i k xs l =
      taken (λ session. nat_eq (session % n) i) (session_of_link n i k) xs
      ∙ ap (λ t. cond t (as_session (session_of_link n i k) xs) [])
      (eq-eqb (session_of_link n i k % n) i (mod-mul-add k n i l))

  -- of the exchanges of a link of worker i none is another worker's
  of_other : (i j k : ℕ) (xs : List Exchange) → i < n → i ≢ j →
      exchanges_of_worker n j (as_session (session_of_link n i k) xs) ≡ []
  of_other i j k xs l other =
      taken (λ session. nat_eq (session % n) j) (session_of_link n i k) xs
      ∙ ap (λ t. cond t (as_session (session_of_link n i k) xs) [])
      (not_equal (session_of_link n i k % n) j (λ e. other (sym (mod-mul-add k n i l) ∙ e)))

  -- the exchanges of worker i's links are all that worker's
  links_own : (i k : ℕ) (links : List (List Exchange)) → i < n →
      exchanges_of_worker n i (exchanges_of_links n i k links) ≡ exchanges_of_links n i k links
  links_own i k [] l = refl
  links_own i k (xs ∷ links) l =
      filter-append (λ (x : Exchange). nat_eq (x.session % n) i) (as_session (session_of_link n i k) xs)
      (exchanges_of_links n i (suc k) links)
      ∙ ap (λ ys. ys ++ exchanges_of_worker n i (exchanges_of_links n i (suc k) links)) (of_own i k xs l)
      ∙ ap (λ ys. as_session (session_of_link n i k) xs ++ ys) (links_own i (suc k) links l)

  -- of the exchanges of worker i's links none is another worker's
  links_other : (i j k : ℕ) (links : List (List Exchange)) → i < n → i ≢ j →
      exchanges_of_worker n j (exchanges_of_links n i k links) ≡ []
  links_other i j k [] l other = refl
  links_other i j k (xs ∷ links) l other =
      filter-append (λ (x : Exchange). nat_eq (x.session % n) j) (as_session (session_of_link n i k) xs)
      (exchanges_of_links n i (suc k) links)
      ∙ ap (λ ys. ys ++ exchanges_of_worker n j (exchanges_of_links n i (suc k) links)) (of_other i j k xs l other)
      ∙ links_other i j (suc k) links l other

  -- of the exchanges of workers from a number on none is a worker's of a lower number
  from_other : (j from : ℕ) (all : List (List (List Exchange))) → from + length all ≤ n → j < from →
      exchanges_of_worker n j (exchanges_from n from all) ≡ []
  from_other j from [] within before = refl
  from_other j from (links ∷ all) within before =
      filter-append (λ (x : Exchange). nat_eq (x.session % n) j) (exchanges_of_links n from 0 links)
      (exchanges_from n (suc from) all)
      ∙ ap (λ ys. ys ++ exchanges_of_worker n j (exchanges_from n (suc from) all))
      (links_other from j 0 links (omega (arith, within)) (λ e. omega (arith, e, before)))
      ∙ from_other j (suc from) all (omega (arith, within)) (omega (arith, before))

  -- of the exchanges of workers from a number on, those of the worker that stands i places behind the first are those
  -- of its links
  from_own : (i from : ℕ) (all : List (List (List Exchange))) → from + length all ≤ n → i < length all →
      exchanges_of_worker n (i + from) (exchanges_from n from all)
      ≡ exchanges_of_links n (i + from) 0 (get_or all i [])
  from_own i from [] within l = absurd (omega (arith, l))
  from_own zero from (links ∷ all) within l =
      subst
      (λ j. exchanges_of_worker n j (exchanges_from n from (links ∷ all)) ≡ exchanges_of_links n j 0 links)
      (let e : from ≡ 0 + from = omega arith in e)
      (filter-append (λ (x : Exchange). nat_eq (x.session % n) from) (exchanges_of_links n from 0 links)
      (exchanges_from n (suc from) all)
      ∙ ap (λ ys. ys ++ exchanges_of_worker n from (exchanges_from n (suc from) all))
      (links_own from 0 links (omega (arith, within)))
      ∙ ap (λ ys. exchanges_of_links n from 0 links ++ ys)
      (from_other from (suc from) all (omega (arith, within)) (omega arith))
      ∙ append-nil (exchanges_of_links n from 0 links))
  from_own (suc i) from (links ∷ all) within l =
      filter-append (λ (x : Exchange). nat_eq (x.session % n) (suc i + from)) (exchanges_of_links n from 0 links)
      (exchanges_from n (suc from) all)
      ∙ ap (λ ys. ys ++ exchanges_of_worker n (suc i + from) (exchanges_from n (suc from) all))
      (links_other from (suc i + from) 0 links (omega (arith, within)) (λ e. omega (arith, e)))
      ∙ subst
      (λ j. exchanges_of_worker n j (exchanges_from n (suc from) all)
      ≡ exchanges_of_links n j 0 (get_or all i [])) (let e : i + suc from ≡ suc i + from = omega arith in e)
      (from_own i (suc from) all (omega (arith, within)) (omega (arith, l)))

  -- of the exchanges of all workers, those of worker i are those of its links, each link as its own session
  pub worker_has_own : (i : ℕ) (all : List (List (List Exchange))) → length all ≡ n → i < n →
      exchanges_of_worker n i (exchanges_from n 0 all) ≡ exchanges_of_links n i 0 (get_or all i [])
  worker_has_own i all many l =
      subst (λ j. exchanges_of_worker n j (exchanges_from n 0 all) ≡ exchanges_of_links n j 0 (get_or all i []))
      (let e : i + 0 ≡ i = omega arith in e) (from_own i 0 all (omega (arith, many)) (omega (arith, many, l)))

  -- ---- the exchanges of a session

  module _ (i : ℕ) (some : 0 < n) where
    -- the session of a worker's next link has a greater number
    next_later : (k : ℕ) → session_of_link n i k < session_of_link n i (suc k)
    next_later k = omega (arith, some)

    -- a session with a number below that of link k has no exchanges of worker i's links from k on
    later_none : (session k : ℕ) (links : List (List Exchange)) → session < session_of_link n i k →
        of_session session (exchanges_of_links n i k links) ≡ []
    later_none session k [] l = refl
    later_none session k (xs ∷ links) l =
        filter-append (λ (x : Exchange). nat_eq x.session session) (as_session (session_of_link n i k) xs)
        (exchanges_of_links n i (suc k) links)
        ∙ ap (λ ys. ys ++ of_session session (exchanges_of_links n i (suc k) links))
        (taken (λ s. nat_eq s session) (session_of_link n i k) xs
        ∙ ap (λ t. cond t (as_session (session_of_link n i k) xs) [])
        (not_equal (session_of_link n i k) session (λ e. omega (arith, e, l))))
        ∙ later_none session (suc k) links (let h = next_later k in omega (arith, h, l))

    -- the first link and those after it, as one session has them
    module _ (session k : ℕ) (xs : List Exchange) (links : List (List Exchange)) where
      -- the number of the session that stands for link k of worker i
      abbrev first : ℕ
      first = session_of_link n i k

      -- what the session has of the links behind link k
      abbrev later : List Exchange
      later = of_session session (exchanges_of_links n i (suc k) links)

      -- what a session has of the links from k on is link k's exchanges, if it is that link's session, and what it has
      -- of the later links
      split : (t : Bool) → nat_eq first session ≡ t →
          of_session session (exchanges_of_links n i k (xs ∷ links)) ≡ cond t (as_session first xs) [] ++ later
      split t e =
          filter-append (λ (x : Exchange). nat_eq x.session session) (as_session first xs)
          (exchanges_of_links n i (suc k) links)
          ∙ ap (λ ys. ys ++ later)
          (taken (λ s. nat_eq s session) first xs ∙ ap (λ t. cond t (as_session first xs) []) e)

      -- what the session of link k has of the links from k on is the exchanges of link k
      is_first : nat_eq first session ≡ true →
          of_session session (exchanges_of_links n i k (xs ∷ links)) ≡ as_session first xs
      is_first e =
          split true e
          ∙ ap (λ ys. as_session first xs ++ ys)
          (later_none session (suc k) links
          (let here : first ≡ session = eqb-true first session e in
          let h = next_later k in omega (arith, h, here)))
          ∙ append-nil (as_session first xs)

      -- these exchanges are a run of the one-session machine from its opening state
      abbrev RunsIn : ℕ → List Exchange → Type 0
      RunsIn places ys = (last : State) × AloneRun places opening ys last

      -- where link k is a run, and so is what a session has of the later links, so is what it has of the links from k
      -- on
      one_more : (places : ℕ) (t : Bool) → nat_eq first session ≡ t → RunsIn places xs → RunsIn places later →
          RunsIn places (of_session session (exchanges_of_links n i k (xs ∷ links)))
      one_more places true e own rest =
          subst (RunsIn places) (sym (is_first e)) (own.0, as_session_run places first opening own.0 xs own.1)
      one_more places false e own rest = subst (RunsIn places) (sym (split false e)) rest

    -- where the exchanges of each link are a run from the opening state, each session runs alone in those of worker i's
    -- links, each link as its own session
    pub links_run_alone : (places k : ℕ) (links : List (List Exchange)) →
        AllByRecursion (λ xs. (last : State) × AloneRun places opening xs last) links →
        RunAlone places (exchanges_of_links n i k links)
    links_run_alone places k [] each session = (opening, refl)
    links_run_alone places k (xs ∷ links) each session =
        one_more session k xs links places (nat_eq (session_of_link n i k) session) refl each.0
        (links_run_alone places (suc k) links each.1 session)

  -- ---- the reads

  -- the reads of the links' exchanges as sessions are those of the links, one link after the other
  pub links_reads : (i k : ℕ) (links : List (List Exchange)) →
      reads_in_all (exchanges_of_links n i k links) ≡ flat_map reads_in_all links
  links_reads i k [] = refl
  links_reads i k (xs ∷ links) =
      flat_map-append (λ (x : Exchange). x.reads) (as_session (session_of_link n i k) xs)
      (exchanges_of_links n i (suc k) links)
      ∙ ap (λ rs. rs ++ reads_in_all (exchanges_of_links n i (suc k) links))
      (as_session_reads (session_of_link n i k) xs)
      ∙ ap (λ rs. reads_in_all xs ++ rs) (links_reads i (suc k) links)

  -- the reads of the exchanges of all workers are those of their links, one worker after the other
  pub all_reads : (from : ℕ) (all : List (List (List Exchange))) →
      reads_in_all (exchanges_from n from all) ≡ flat_map (flat_map reads_in_all) all
  all_reads from [] = refl
  all_reads from (links ∷ all) =
      flat_map-append (λ (x : Exchange). x.reads) (exchanges_of_links n from 0 links)
      (exchanges_from n (suc from) all)
      ∙ ap (λ rs. rs ++ reads_in_all (exchanges_from n (suc from) all)) (links_reads from 0 links)
      ∙ ap (λ rs. flat_map reads_in_all links ++ rs) (all_reads (suc from) all)
