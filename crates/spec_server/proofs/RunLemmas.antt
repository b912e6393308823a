-- Runs of the one-session machine, one after another, and side by side.
--
-- `AloneRun-append`: a run from a to b and one from b to c are, in order, a run from a to c.
-- `of_session-append`: the exchanges of a session in two lists are those in the first and then those in the second.
-- `script_out-append`: the output of two lists of exchanges is that of the first and then that of the second.
-- `asked_in-append`: the requests of two lists of exchanges are those of the first and then those of the second.
-- `log_of-append`: the reads of two lists of exchanges are those of the first and then those of the second.
-- `Plays-append`: where the places answer some reads, and then others, they answer both in order.
-- `runs_on`: a step of one session before exchanges that are runs of all sessions gives runs of all sessions.
use Rattle.std.proofs.Common.{◌≡◌, ℕ, Bool, true, false, List, [], ◌∷◌, ◌++◌, cond, map, refl, ap, subst}
use Rattle.std.proofs.Common.{nat_eq, eqb-true}
use Rattle.std.proofs.lemmas.List.Elements.{filter-append}
use Rattle.std.proofs.lemmas.Grind.{flat_map-append}
use Rattle.spec_board.specs.Places.{ExactPlace, Logged, logged, Plays}
use Rattle.spec_server.specs.Machine.{State}
use Rattle.spec_server.specs.Step.{AloneStep}
use Rattle.spec_server.specs.Exchanges.{Exchange, asked_in, AloneRun, of_session, log_of}
use Rattle.spec_server.specs.declared.addressing.Addressing.TheVariants.{Numbered}
use Rattle.spec_server.specs.Output.{reply_lines}
use Rattle.spec_server.specs.ScriptOut.{script_out}

-- a run goes on with another
pub AloneRun-append : (places : ℕ) (a b c : State) (xs ys : List Exchange) → AloneRun places a xs b →
    AloneRun places b ys c → AloneRun places a (xs ++ ys) c
AloneRun-append places a b c [] ys r q = subst (λ (s : State). AloneRun places s ys c) r q
AloneRun-append places a b c (x ∷ xs) ys r q = (r.0, r.1, AloneRun-append places r.0 b c xs ys r.2 q)

-- the exchanges of a session, one list after another
pub of_session-append : (session : ℕ) (xs ys : List Exchange) →
    of_session session (xs ++ ys) ≡ of_session session xs ++ of_session session ys
of_session-append session xs ys = filter-append (λ x. nat_eq x.session session) xs ys

pub script_out-append : (xs ys : List Exchange) → script_out (xs ++ ys) ≡ script_out xs ++ script_out ys
script_out-append xs ys = flat_map-append (λ x. reply_lines Numbered x.session x.reply) xs ys

pub asked_in-append : (xs ys : List Exchange) → map asked_in (xs ++ ys) ≡ map asked_in xs ++ map asked_in ys
asked_in-append [] ys = refl
asked_in-append (x ∷ xs) ys = ap (λ zs. asked_in x ∷ zs) (asked_in-append xs ys)

-- ---- reads

-- the reads of the exchanges, one list after another
pub log_of-append : (xs ys : List Exchange) → log_of (xs ++ ys) ≡ log_of xs ++ log_of ys
log_of-append xs ys = flat_map-append (λ x. logged x.session x.reads) xs ys

-- the places answer reads after others
pub Plays-append : (places : ℕ) (a b c : List ExactPlace) (xs ys : List Logged) → Plays places a xs b →
    Plays places b ys c → Plays places a (xs ++ ys) c
Plays-append places a b c [] ys r q = subst (λ (now : List ExactPlace). Plays places now ys c) r q
Plays-append places a b c (x ∷ xs) ys r q = (r.0, r.1, Plays-append places r.0 b c xs ys r.2 q)

-- ---- one session takes a step, and others do not

-- the states of the sessions, but with this one for the given session
abbrev pub updated : (ℕ → State) → ℕ → State → ℕ → State
updated states session state other = cond (nat_eq session other) state (states other)

-- a step of one session, and what its other sessions and it do afterwards
pub runs_on : (places : ℕ) (states : ℕ → State) (x : Exchange) (next : State) (xs : List Exchange) →
    AloneStep places (states x.session) x.ask x.reads x.reply next →
    ((session : ℕ) → (last : State)
    × AloneRun places (updated states x.session next session) (of_session session xs) last) →
    (session : ℕ) → (last : State) × AloneRun places (states session) (of_session session (x ∷ xs)) last
runs_on places states x next xs step more session = by (nat_eq x.session session) refl (more session)
  where
    by : (t : Bool) → nat_eq x.session session ≡ t →
        ((last : State) × AloneRun places (cond t next (states session)) (of_session session xs) last) →
        (last : State)
        × AloneRun places (states session) (cond t (x ∷ of_session session xs) (of_session session xs)) last
    by true e run =
        let same : x.session ≡ session = eqb-true x.session session e in
        (run.0, (next, subst (λ (s : ℕ). AloneStep places (states s) x.ask x.reads x.reply next) same step, run.1))
    by false e run = run
