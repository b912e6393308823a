-- Any asks have exchanges in which each session runs alone and nothing is read: what is due, or MEMORY where a model is
-- to be solved.
use Rattle.std.proofs.Common.{◌≡◌, ℕ, true, List, [], ◌∷◌, map, Option, Some, None, Ok, Err, refl, sym, ap, subst, inl, inr}
use Rattle.spec_model.specs.Model.{Model}
use Rattle.spec_edit.specs.Edited.{ExactEdit, OrFault, edited}
use Rattle.spec_server.specs.declared.asks.Ask.TheVariants as ask
use Rattle.spec_server.specs.declared.asks.Asked.{Asked}
use Rattle.spec_server.specs.declared.asks.Reply.TheVariants as reply
use Rattle.spec_server.specs.declared.command.Plain.TheVariants as command
use Rattle.spec_server.specs.Machine.{ExactAsk, ExactReply, State, Due, Replies, Solves, SolvesWide, due, edit_due}
use Rattle.spec_server.specs.Machine.{change_due}
use Rattle.spec_server.specs.Machine.{takes_memory}
use Rattle.spec_server.specs.Step.{Answers, BegunBy, AloneStep}
use Rattle.spec_server.specs.Exchanges.{Exchange, asked_in, AloneRun, of_session, log_of}
use Rattle.spec_server.proofs.RunLemmas.{updated, runs_on}
use Rattle.spec_server.proofs.Simply.{wide_due_held}

-- a step that replies at once does not solve a model
no_solve : (replied : ExactReply) (next : State) (m : Model) → Replies replied next ≡ Solves m → ⊥
no_solve replied next m e = cc

-- what a session does for an edit of its model, made or refused, is never a solve
edit_solves_nothing : (state : State) (m : Model) (answer : OrFault Model) → edit_due state answer ≡ Solves m → ⊥
edit_solves_nothing state m (Ok n) e = no_solve _ _ m e
edit_solves_nothing state m (Err why) e = no_solve _ _ m e

-- what a session does for an edit, with a model or without, is never a solve
change_solves_nothing : (state : State) (m : Model) (held : Option Model) (e : ExactEdit) →
    change_due state held e ≡ Solves m → ⊥
change_solves_nothing state m None e h = no_solve _ _ m h
change_solves_nothing state m (Some n) e h = edit_solves_nothing state m (edited n e) h

-- where what is due for an ask is a solve, the ask is one for which memory may run out
solve_wants : (state : State) (asked : ExactAsk) (m : Model) → due state asked ≡ Solves m → takes_memory asked ≡ true
solve_wants state (ask.Plain (command.Write form)) m e = refl
solve_wants state (ask.Plain command.Solve) m e = refl
solve_wants state (ask.Plain command.Cert) m e = refl
solve_wants state (ask.Plain command.How) m e = absurd (no_solve _ _ m e)
solve_wants state (ask.Plain (command.Budget n)) m e = absurd (no_solve _ _ m e)
solve_wants state (ask.Plain command.Wide) m e = refl
solve_wants state (ask.Plain command.Quit) m e = absurd (no_solve _ _ m e)
solve_wants state (ask.Plain (command.Change edit)) m e = absurd (change_solves_nothing state m state.model edit e)
solve_wants state (ask.Loaded n) m e = absurd (no_solve _ _ m e)
solve_wants state (ask.Misspelled fault) m e = absurd (no_solve _ _ m e)
solve_wants state (ask.Checked raw) m e = refl
solve_wants state (ask.Unfit line) m e = absurd (no_solve _ _ m e)
solve_wants state (ask.Bad fault) m e = absurd (no_solve _ _ m e)

module _ (places : ℕ) where
  -- a reply to an ask without a read, and the state after it
  pub record SomeStep (state : State) (asked : ExactAsk) : Type 0 where
    pub replied : ExactReply
    pub next : State
    pub step : AloneStep places state asked [] replied next

  -- whatever is due for an ask, some reply without a read and some state after it make a step of the session
  step_by : (state : State) (asked : ExactAsk) (d : Due) → due state asked ≡ d → SomeStep state asked
  step_by state asked (Replies replied next) e = record {
    replied = replied;
    next = next;
    step = record {
      begun = Answers replied next;
      begins = inl (subst (λ d. BegunBy state d (Answers replied next)) (sym e) refl);
      goes_on = (refl, refl, refl);
    };
  }
  step_by state asked (Solves m) e = record {
    replied = reply.Memory;
    next = state;
    step = record {
      begun = Answers reply.Memory state;
      begins = inr (solve_wants state asked m e, refl);
      goes_on = (refl, refl, refl);
    };
  }
  step_by state asked (SolvesWide m) e = record {
    replied = reply.Memory;
    next = state;
    step = record {
      begun = Answers reply.Memory state;
      begins = inr (ap takes_memory (wide_due_held state m asked e).0, refl);
      goes_on = (refl, refl, refl);
    };
  }

  -- each ask has some step of a session that reads nothing
  some_step : (state : State) (asked : ExactAsk) → SomeStep state asked
  some_step state asked = step_by state asked (due state asked) refl

  -- exchanges of some asks without a read, in which each session runs alone from its state
  pub record SomeExchanges (states : ℕ → State) (asks : List (Asked ExactAsk)) : Type 0 where
    pub exchanges : List Exchange
    pub asked : map asked_in exchanges ≡ asks
    pub unread : log_of exchanges ≡ []
    pub runs : (session : ℕ) → (last : State) × AloneRun places (states session) (of_session session exchanges) last

  -- any asks have exchanges without a read in which each session runs alone from its state
  pub some_exchanges : (states : ℕ → State) (asks : List (Asked ExactAsk)) → SomeExchanges states asks
  some_exchanges states [] =
      record { exchanges = []; asked = refl; unread = refl; runs = λ session. (states session, refl) }
  some_exchanges states (a ∷ asks) =
      let s : SomeStep (states a.session) a.ask = some_step (states a.session) a.ask in
      let x : Exchange = record { session = a.session; ask = a.ask; reads = []; reply = s.replied } in
      let rest : SomeExchanges (updated states a.session s.next) asks =
      some_exchanges (updated states a.session s.next) asks in
      record {
        exchanges = x ∷ rest.exchanges;
        asked = ap (λ zs. a ∷ zs) rest.asked;
        unread = rest.unread;
        runs = runs_on places states x s.next rest.exchanges s.step rest.runs;
      }
