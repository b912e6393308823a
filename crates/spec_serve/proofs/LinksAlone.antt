-- The exchanges of a link are those of session 0 alone; and each link can be served.
use Rattle.std.proofs.Common.{◌≡◌, ℕ, zero, suc, Bool, cond, Some, List, [], ◌∷◌, ◌++◌, map}
use Rattle.std.proofs.Common.{refl, sym, ap, ◌∙◌, subst, append-nil, arith, eq-eqb, ne_eqb, inl}
use Rattle.std.specs.List.{filter}
use Rattle.spec_server.specs.declared.addressing.Addressing.TheVariants.{Alone}
use Rattle.spec_server.specs.Machine.{State, opening, is_memory}
use Rattle.spec_server.specs.Exchanges.{Exchange, asked_in, AloneRun, of_session, RunAlone}
use Rattle.spec_server.specs.Script.{Script, Ending, Ended, Cut, Over, script_of}
use Rattle.spec_server.specs.Streams.{Streams, streams}
use Rattle.spec_server.proofs.Answered.{answered, asked_in-answered, answered_runs, ample_answers}
use Rattle.spec_serve.specs.declared.link_end.LinkEnd.{LinkEnd}
use Rattle.spec_serve.specs.declared.link_end.LinkEnd.TheVariants as end
use Rattle.spec_serve.specs.Link.{link_asks_of, link_out, AreFirstOf, LinkMoves, ServesLink}
use Rattle.spec_serve.proofs.AloneAsks.{AreAlone, script_alone}
use Rattle.spec_serve.proofs.FirstAsks.{Asks, link_asks_first, served_script}
use Rattle.spec_serve.proofs.KeptAsks.{link_kept}

-- where the requests of two lists one behind the other are of session 0, so are those of the first
front_alone : (xs ys : Asks) → AreAlone (xs ++ ys) → AreAlone xs
front_alone [] ys h = tt
front_alone (a ∷ xs) ys h = (h.0, front_alone xs ys h.1)

-- where requests are of session 0, so are the first of them
first_alone : (first all : Asks) → AreFirstOf first all → AreAlone all → AreAlone first
first_alone first all h alone = front_alone first h.0 (subst AreAlone h.1 alone)

-- ---- the exchanges of session 0, and of other sessions

-- where all requests of exchanges are of session 0, the exchanges of session 0 are all of them
of_first_session : (xs : List Exchange) → AreAlone (map asked_in xs) → of_session 0 xs ≡ xs
of_first_session [] h = refl
of_first_session (x ∷ xs) h =
    ap (λ (t : Bool). cond t (x ∷ of_session 0 xs) (of_session 0 xs)) (eq-eqb x.session 0 h.0)
    ∙ ap (λ ys. x ∷ ys) (of_first_session xs h.1)

-- where all requests of exchanges are of session 0, another session has no exchanges
of_other_session : (n : ℕ) (xs : List Exchange) → AreAlone (map asked_in xs) → of_session (suc n) xs ≡ []
of_other_session n [] h = refl
of_other_session n (x ∷ xs) h =
    let here : x.session ≡ 0 = h.0 in
    ap (λ (t : Bool). cond t (x ∷ of_session (suc n) xs) (of_session (suc n) xs))
    (ne_eqb x.session (suc n) (λ e. omega (arith, here, e)))
    ∙ of_other_session n xs h.1

-- where all requests of exchanges are of session 0 and they run from its opening, each session runs alone
runs_alone : (places : ℕ) (xs : List Exchange) (last : State) → AreAlone (map asked_in xs) →
    AloneRun places opening xs last → RunAlone places xs
runs_alone places xs last h run zero =
    (last, subst (λ (ys : List Exchange). AloneRun places opening ys last) (sym (of_first_session xs h)) run)
runs_alone places xs last h run (suc n) =
    (opening, subst (λ (ys : List Exchange). AloneRun places opening ys opening) (sym (of_other_session n xs h)) refl)

-- in the exchanges that a link moves through, each session runs alone
pub links_run : (places : ℕ) (s : Streams) (exchanges : List Exchange) → LinkMoves places s exchanges →
    RunAlone places exchanges
links_run places s exchanges moves =
    runs_alone places exchanges moves.last
    (first_alone (map asked_in exchanges) (script_of Alone moves.read).asks (served_script places s exchanges moves)
    (script_alone moves.read))
    moves.runs

-- ---- a service of all that bytes ask, with memory enough

-- the streams of a service that reads all these bytes and writes all replies of these exchanges
abbrev whole : List ℕ → List Exchange → Streams
whole bytes exchanges = streams (Some bytes) (Some []) (Some []) (Some (link_out exchanges))

-- there is a service that reads all these bytes, has an exchange of each request of theirs, none of which runs out of
-- memory, and writes all replies
abbrev pub IsServed : ℕ → List ℕ → Type 0
IsServed places bytes =
    (exchanges : List Exchange) × (end : LinkEnd) × ServesLink places (whole bytes exchanges) exchanges end
    × (map asked_in exchanges ≡ (link_asks_of bytes).asks)
    × (filter (λ x. is_memory x.reply) exchanges ≡ [])

module _ (places : ℕ) (bytes : List ℕ) where
  -- what the bytes ask as those of a link
  abbrev asks : Asks
  asks = (link_asks_of bytes).asks

  -- exchanges of all that the bytes ask, with memory enough
  exchanges : List Exchange
  exchanges = answered places (λ _. opening) asks

  -- the exchanges are of all that the bytes ask
  asked : map asked_in exchanges ≡ asks
  unfolding exchanges
  asked = asked_in-answered places (λ _. opening) asks

  -- the requests of the exchanges are of session 0
  alone : AreAlone (map asked_in exchanges)
  alone =
      subst AreAlone (sym asked)
      (first_alone asks (script_of Alone bytes).asks (link_asks_first bytes) (script_alone bytes))

  -- the exchanges are a run from the opening state
  run : (last : State) × AloneRun places opening exchanges last
  unfolding exchanges
  run =
      let first = answered_runs places (λ _. opening) asks (λ _. tt) (link_kept bytes) 0 in (
        first.0,
        subst (λ (ys : List Exchange). AloneRun places opening ys first.0) (of_first_session exchanges alone) first.1,
      )

  -- a service that reads all bytes and writes all replies has these exchanges
  moves : LinkMoves places (whole bytes exchanges) exchanges
  moves = record {
    read = bytes;
    written = link_out exchanges;
    last = run.0;
    consumed = sym (append-nil bytes);
    appended = refl;
    asks = inl (refl, ([], sym asked ∙ sym (append-nil (map asked_in exchanges))));
    runs = run.1;
    front = ([], append-nil (link_out exchanges));
  }

  -- in none of the exchanges memory runs out
  memory : filter (λ x. is_memory x.reply) exchanges ≡ []
  unfolding exchanges
  memory = ample_answers places (λ _. opening) asks

  -- the script of the requests of the exchanges that ends so
  abbrev with_ending : Ending → Script
  with_ending ending = record { asks = map asked_in exchanges; ending = ending }

  -- where the link's script ends so, it is that of the requests of the exchanges
  all_asked : (ending : Ending) → (link_asks_of bytes).ending ≡ ending → link_asks_of bytes ≡ with_ending ending
  all_asked ending e =
      ap (λ (zs : Asks). let s : Script = record { asks = zs; ending = (link_asks_of bytes).ending } in s) (sym asked)
      ∙ ap with_ending e

  -- however the link's script ends, there is a service of all that the bytes ask
  served : (ending : Ending) → (link_asks_of bytes).ending ≡ ending → IsServed places bytes
  unfolding moves
  served Ended e =
      (exchanges, end.Done, (moves, record { asked = inl (refl, all_asked Ended e); whole = refl }), asked, memory)
  served Cut e =
      (exchanges, end.Cut, (moves, record { asked = inl (refl, all_asked Cut e); whole = refl }), asked, memory)
  served Over e =
      (exchanges, end.Over, (moves, record { asked = inl (refl, all_asked Over e); whole = refl }), asked, memory)

  -- whatever bytes a link sends, there is a service that answers all their requests with memory enough
  pub is_served : IsServed places bytes
  is_served = served (link_asks_of bytes).ending refl
