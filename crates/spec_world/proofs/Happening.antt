-- An event that is enabled can happen.
--
-- `act_taken`: where an act leaves a session and the places so, its event takes the world to the one with these.
-- `events_happen`: each event has an end and a world after it.
use Rattle.std.proofs.Common.{◌≡◌, ℕ, Bool, true, false, List, [], ◌∷◌, ◌++◌, Some, refl, sym, ap, subst, inl, inr, nat_eq, cond}
use Rattle.std.proofs.lemmas.Bool.{eq-eqb, ne_eqb, and_parts}
use Rattle.spec_board.specs.Places.{ExactPlace, place_at}
use Rattle.spec_server.specs.declared.asks.Reply.TheVariants as reply
use Rattle.spec_exact.specs.Narrow.{number_limit}
use Rattle.spec_simplex.specs.Form.{form_of}
use Rattle.spec_server.specs.Machine.{ExactAsk, State, Due, Replies, Solves, SolvesWide, due, takes_memory}
use Rattle.spec_server.specs.Step.{Begun, Answers, solve_begun, BegunBy, Begins, Ends}
use Rattle.spec_server.proofs.Simply.{wide_due_held}
use Rattle.spec_world.specs.declared.event.Act.TheVariants as act
use Rattle.spec_world.specs.declared.event.StepEnd.TheVariants.{Not}
use Rattle.spec_world.specs.World.{Server, ExactAct, ExactEvent, ExactEnd, Stage, Idle, Counts, Sees, Solving, Puts}
use Rattle.spec_world.specs.World.{Claims, Writes, Session, World, fits_stage, is_enabled, has_session, Left}
use Rattle.spec_world.specs.World.{begun_left, counted_left, read_of, seen_left, worked_left, put_counted_left}
use Rattle.spec_world.specs.World.{claimed_left, done_left, Leaves, end_of, Takes, StepBy, WorldStep}

-- the sessions by their numbers, with the one of number `session` replaced by `new`
abbrev pub updated : (ℕ → Session) → ℕ → Session → ℕ → Session
updated sessions session new other = cond (nat_eq session other) new (sessions other)

-- the world after an event whose act leaves this: its session and the places are what is left, and the event is the
-- last one
abbrev pub after_act : World → ExactEvent → Left → World
after_act old event left = record {
  sessions = updated old.sessions event.session left.session;
  places = left.places;
  events = old.events ++ event ∷ [];
}

pub act_taken : (server : Server) (old : World) (event : ExactEvent) (left : Left) →
    Leaves server event.session old.places (old.sessions event.session)
    (old.sessions event.session).stage event.act left →
    Takes server old event (end_of event.session left.replied) (after_act old event left)
act_taken server old event left leaves = record {
  left = left;
  leaves = leaves;
  own = ap (λ t. cond t left.session (old.sessions event.session)) (eq-eqb event.session event.session refl);
  others = λ other apart. ap (λ t. cond t left.session (old.sessions other)) (ne_eqb event.session other apart);
  places = refl;
  events = refl;
  ends = refl;
}

-- whatever is due for a request, the request has a beginning: it is answered at once, or it looks for a basis
begins : (state : State) (asked : ExactAsk) (what : Due) → due state asked ≡ what → (begun : Begun) × Begins state asked begun
begins state asked (Replies replied next) is = (Answers replied next, inl (subst (λ d. BegunBy state d (Answers replied next)) (sym is) refl))
begins state asked (Solves m) is =
    let begun : Begun = solve_begun state m (form_of (Some number_limit) m) in
    (begun, inl (subst (λ d. BegunBy state d begun) (sym is) refl))
begins state asked (SolvesWide m) is =
    (Answers reply.Memory state, inr (ap takes_memory (wide_due_held state m asked is).0, refl))

-- for each act that fits a session's stage there is an outcome: a session and places that the act may leave
may_leave : (server : Server) (me : ℕ) (now : List ExactPlace) (s : Session) (stage : Stage) (a : ExactAct) →
    fits_stage stage a ≡ true → (left : Left) × Leaves server me now s stage a left
may_leave server me now s Idle (act.Ask asked) h =
    let b = begins s.state asked (due s.state asked) refl in (begun_left me now s asked b.0, (b.0, b.1, refl))
may_leave server me now s (Counts shape) act.Count h = (counted_left now s shape, refl)
may_leave server me now s (Sees shape k reads) (act.See j) h =
    (seen_left now s shape k reads (read_of shape k (place_at now k)), refl)
may_leave server me now s (Solving found reads) act.Work h =
    (worked_left me now s reads (Ends reply.Memory s.state), (Ends reply.Memory s.state, inr refl, refl))
may_leave server me now s (Puts pending reads) act.Count h = (put_counted_left server me now s pending reads, refl)
may_leave server me now s (Claims pending c reads) act.Claim h = (claimed_left me now s pending c reads, refl)
may_leave server me now s (Writes pending k reads) act.Done h = (done_left me now s pending k reads, refl)
may_leave server me now s stage other h = absurd (let z : false ≡ true = h in cc)

-- each event has an end and a world that it may lead to, enabled or not
happens_by : (enabled : Bool) (server : Server) (old : World) (event : ExactEvent) →
    is_enabled server old event ≡ enabled → (end : ExactEnd) × (new : World) × StepBy enabled server old event end new
happens_by true server old event h =
    let l = may_leave server event.session old.places (old.sessions event.session)
    (old.sessions event.session).stage event.act
    (and_parts (has_session server event.session) (fits_stage (old.sessions event.session).stage event.act) h).1 in
    (end_of event.session l.0.replied, after_act old event l.0, act_taken server old event l.0 l.1)
happens_by false server old event h = (Not, old, (refl, refl))

pub events_happen : (server : Server) (old : World) (event : ExactEvent) →
    (end : ExactEnd) × (new : World) × WorldStep server old event end new
events_happen server old event = happens_by (is_enabled server old event) server old event refl
