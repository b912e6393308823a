-- What holds of a session whatever it was asked before: its model may be kept, and its last answer is one that the
-- model may have.
--
-- `step_keeps`: a step with a request that may be kept leads from a state whose model may be kept to another such
--   state.
-- `run_good`: a run of requests that may be kept keeps the model one that may be kept, and the last answer one that
--   fits it.
use Rattle.std.proofs.Common.{ℕ, List, [], ◌∷◌, map, sym, subst, ◌⊎◌, inl, inr}
use Rattle.std.proofs.lemmas.List.Elements.{All-head, All-tail}
use Rattle.spec_board.specs.Reads.{ExactRead}
use Rattle.spec_server.specs.declared.asks.Asked.{Asked}
use Rattle.spec_server.specs.LastFits.{LastFits}
use Rattle.spec_server.specs.Machine.{ExactAsk, ExactReply, IsKeptAsk, AreKept, State, Due}
use Rattle.spec_server.specs.Machine.{Replies, Solves, SolvesWide, due}
use Rattle.spec_server.specs.Step.{AloneStep}
use Rattle.spec_server.specs.Exchanges.{Exchange, asked_in, AloneRun}
use Rattle.spec_server.proofs.Dues.{IsKeptState, due_next, after_kept}
use Rattle.spec_server.proofs.LastFits.{step_fits}
use Rattle.spec_server.proofs.Simply.{Does, WantsMemory, step_simply}

-- ---- steps

-- a session that does what is due has a model that may be kept, if the state before and the one that is due have one
does_keep : (places : ℕ) (old new : State) (what : Due) (replied : ExactReply) → IsKeptState old →
    IsKeptState (due_next places old what) → Does old what replied new → IsKeptState new
does_keep places old new (Replies stated next) replied h k d = subst IsKeptState (sym d.1) k
does_keep places old new (Solves m) replied h k d = subst IsKeptState (sym d.kept) h
does_keep places old new (SolvesWide m) replied h k d = subst IsKeptState (sym d.stays) h

pub step_keeps : (places : ℕ) (old new : State) (asked : ExactAsk) (reads : List ExactRead) (replied : ExactReply) →
    AloneStep places old asked reads replied new → IsKeptAsk asked → IsKeptState old → IsKeptState new
step_keeps places old new asked reads replied s may h = by (step_simply places old reads replied new asked s)
  where
    by : Does old (due old asked) replied new ⊎ WantsMemory old replied new → IsKeptState new
    by (inl d) = does_keep places old new (due old asked) replied h (after_kept places old h asked may) d
    by (inr w) = subst IsKeptState (sym w.stays) h

-- ---- runs

-- the state's model may be kept, and its last answer is one that the model may have
pub record IsGood (state : State) : Type 0 where
  pub kept : IsKeptState state
  pub fits : LastFits state.model state.last

pub run_good : (places : ℕ) (old new : State) (xs : List Exchange) → AreKept (map asked_in xs) →
    AloneRun places old xs new →
    IsGood old → IsGood new
run_good places old new [] may run good = subst IsGood (sym run) good
run_good places old new (x ∷ xs) may run good =
    let first : IsKeptAsk x.ask =
    All-head (λ (a : Asked ExactAsk). IsKeptAsk a.ask) (asked_in x) (map asked_in xs) may in
    let more : AreKept (map asked_in xs) =
    All-tail (λ (a : Asked ExactAsk). IsKeptAsk a.ask) (asked_in x) (map asked_in xs) may in
    run_good places run.0 new xs more run.2
    (record {
      kept = step_keeps places old run.0 x.ask x.reads x.reply run.1 first good.kept;
      fits = step_fits places old run.0 x.ask x.reads x.reply run.1 good.fits;
    })
