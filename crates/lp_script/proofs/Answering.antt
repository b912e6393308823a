-- The exchange of one ask: its run, its reads and its lines.
--
-- `one_run_to`: where session s takes one step to a state, each session has run alone, by its part of this one
--   exchange, to its state, which is the old one but for s.
-- `one_log`: the log of one exchange is the list of its reads, each with the number of the session that was asked.
-- `one_line`: the output of one exchange is the lines of its reply, under the number of the session that was asked.
use Rattle.std.proofs.Common.{◌≡◌, ℕ, List, [], ◌∷◌, Bool, true, false, nat_eq, cond, eqb-true}
use Rattle.std.proofs.Common.{append-nil, refl, subst}
use Rattle.spec_board.specs.Reads.{ExactRead}
use Rattle.spec_board.specs.Places.{logged}
use Rattle.spec_server.specs.declared.addressing.Addressing.TheVariants.{Numbered}
use Rattle.spec_server.specs.declared.asks.Asked.{Asked}
use Rattle.spec_server.specs.Machine.{ExactAsk, ExactReply, State}
use Rattle.spec_server.specs.Step.{AloneStep}
use Rattle.spec_server.specs.Exchanges.{AloneRun, of_session, log_of}
use Rattle.spec_server.specs.Output.{reply_lines}
use Rattle.spec_server.specs.ScriptOut.{script_out}
use Rattle.spec_server.proofs.RunLemmas.{updated}
use Rattle.lp_script.proofs.OneMore.{exchange_of}

-- from its state in `old` the session that is asked takes one step alone to the state `new`, with these reads and this
-- reply
abbrev pub StepAt : ℕ → (ℕ → State) → Asked ExactAsk → List ExactRead → ExactReply → State → Type 0
StepAt places old asked reads reply new = AloneStep places (old asked.session) asked.ask reads reply new

-- after it the other sessions are as they were, where the session's state is given
pub one_run_to : (places : ℕ) (old : ℕ → State) (asked : Asked ExactAsk) (reads : List ExactRead) (reply : ExactReply)
    (state : State) → StepAt places old asked reads reply state → (session : ℕ) →
    AloneRun places (old session) (of_session session (exchange_of asked reads reply ∷ []))
    (updated old asked.session state session)
one_run_to places old asked reads reply state step session = by (nat_eq asked.session session) refl
  where
    by : (t : Bool) → nat_eq asked.session session ≡ t →
        AloneRun places (old session) (cond t (exchange_of asked reads reply ∷ []) []) (cond t state (old session))
    by true e = (
      state,
      subst (λ (s : ℕ). AloneStep places (old s) asked.ask reads reply state) (eqb-true asked.session session e) step,
      refl,
    )
    by false e = refl

-- its reads are those that are logged, and what is written of it are the reply's lines
pub one_log : (asked : Asked ExactAsk) (reads : List ExactRead) (reply : ExactReply) →
    log_of (exchange_of asked reads reply ∷ []) ≡ logged asked.session reads
one_log asked reads reply = append-nil (logged asked.session reads)

pub one_line : (asked : Asked ExactAsk) (reads : List ExactRead) (reply : ExactReply) →
    script_out (exchange_of asked reads reply ∷ []) ≡ reply_lines Numbered asked.session reply
one_line asked reads reply = append-nil (reply_lines Numbered asked.session reply)
