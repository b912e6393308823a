-- An ask whose reads the places answer is a run of its session's events.
use Rattle.std.proofs.Common.{◌≡◌, ℕ, true, List, [], ◌∷◌, map, refl, sym, ap, subst}
use Rattle.spec_board.specs.Reads.{ExactRead}
use Rattle.spec_board.specs.Places.{ExactPlace, Plays, logged}
use Rattle.spec_server.specs.Machine.{ExactAsk, ExactReply, State}
use Rattle.spec_server.specs.Step.{Begun, Looks, Begins}
use Rattle.spec_server.specs.Step.{LookStep, GoesOn, AloneStep}
use Rattle.spec_server.specs.Step as step
use Rattle.spec_world.specs.declared.event.Act.TheVariants as act
use Rattle.spec_world.specs.World.{Server, ExactAct, ExactEnd, WorldStep, Idle, Session}
use Rattle.spec_world.specs.World.{World, fits_stage, has_session, Left, Leaves, solve, ended, begun_left}
use Rattle.spec_world.specs.World.{end_of, WorldRun}
use Rattle.spec_world.specs.Together.{by_session}
use Rattle.spec_world.proofs.Asked.{only_solve_looks}
use Rattle.spec_world.proofs.Held.{holding, first_act}
use Rattle.spec_world.proofs.Leading.{look_runs}

-- Acts of session `me` alone, of which the first asks this, lead from the world `old` to the one in which the request
-- has ended with these reads, this reply and this state, and the places are `last`.
pub record RunsTo (server : Server) (old : World) (me : ℕ) (asked : ExactAsk) (reads : List ExactRead)
    (replied : ExactReply) (new : State) (last : List ExactPlace) : Type 0 where
  pub acts : List ExactAct
  pub run : WorldRun server old (map (by_session me) (act.Ask asked ∷ acts))
      (holding old me (ended me (old.sessions me) asked reads replied new) last
      (map (by_session me) (act.Ask asked ∷ acts)))

module _ (server : Server) (old : World) (me : ℕ) (there : has_session server me ≡ true)
    (idle : (old.sessions me).stage ≡ Idle) (last : List ExactPlace) where
  -- the session `me` in the world `old`
  abbrev s : Session
  s = old.sessions me

  -- the act that begins a request is an event of an idle session
  asks_first : (asked : ExactAsk) (begun : Begun) → Begins s.state asked begun → (left : Left) →
      left ≡ begun_left me old.places s asked begun →
      (end : ExactEnd) × WorldStep server old (by_session me (act.Ask asked)) end
      (holding old me left.session left.places (by_session me (act.Ask asked) ∷ []))
  asks_first asked begun b left e =
      let left' : Left = begun_left me old.places s asked begun in (
        end_of me left.replied,
        first_act server old me there (act.Ask asked) left (ap (λ stage. fits_stage stage (act.Ask asked)) idle)
            (subst (λ stage. Leaves server me old.places s stage (act.Ask asked) left) (sym idle) (begun, b, e)),
      )

  -- a request that is answered at once is a run of its session's events
  replies_run : (asked : ExactAsk) (replied : ExactReply) (next : State) →
      Begins s.state asked (step.Answers replied next) → RunsTo server old me asked [] replied next old.places
  replies_run asked replied next b =
      let f = asks_first asked (step.Answers replied next) b
      (begun_left me old.places s asked (step.Answers replied next)) refl in
      record { acts = []; run = (f.0, _, f.1, refl) }

  -- a solve that looks for a basis, whose reads the places answer, is a run of its session's events
  looks_run : (shape : List ℕ) (reads : List ExactRead) (replied : ExactReply) (new : State) →
      Begins s.state solve (Looks shape) → LookStep server.places s.state shape reads replied new →
      Plays server.places old.places (logged me reads) last → RunsTo server old me solve reads replied new last
  looks_run shape reads replied new b l plays =
      let f = asks_first solve (Looks shape) b (begun_left me old.places s solve (Looks shape)) refl in
      let g = look_runs server old me there s.state s.finished old.places last shape l.found l.looked reads replied
      new l.look l.worked l.works l.concludes plays in
      record { acts = g.acts; run = (f.0, _, f.1, g.run (by_session me (act.Ask solve) ∷ [])) }

  -- a request, however it begins, whose reads the places answer, is a run of its session's events
  goes_run : (asked : ExactAsk) (begun : Begun) (reads : List ExactRead) (replied : ExactReply) (new : State) →
      Begins s.state asked begun → GoesOn server.places s.state begun reads replied new →
      Plays server.places old.places (logged me reads) last → RunsTo server old me asked reads replied new last
  goes_run asked (step.Answers stated next) reads replied new b g plays =
      let same : last ≡ old.places = subst (λ rs. Plays server.places old.places (logged me rs) last) g.0 plays in
      subst (λ ps. RunsTo server old me asked reads replied new ps) (sym same)
      (subst (λ rs. RunsTo server old me asked rs replied new old.places) (sym g.0)
      (subst (λ t. RunsTo server old me asked [] t new old.places) (sym g.1)
      (subst (λ n. RunsTo server old me asked [] stated n old.places) (sym g.2) (replies_run asked stated next b))))
  goes_run asked (Looks shape) reads replied new b g plays =
      let same : asked ≡ solve = only_solve_looks s.state shape asked b in
      subst (λ a. RunsTo server old me a reads replied new last) (sym same)
      (looks_run shape reads replied new (subst (λ a. Begins s.state a (Looks shape)) same b) g plays)

  -- a step of an idle session, whose reads the places answer, is a run of the session's events in a world
  pub step_runs : (asked : ExactAsk) (reads : List ExactRead) (replied : ExactReply) (new : State) →
      AloneStep server.places s.state asked reads replied new →
      Plays server.places old.places (logged me reads) last → RunsTo server old me asked reads replied new last
  step_runs asked reads replied new step plays =
      goes_run asked step.begun reads replied new step.begins step.goes_on plays
