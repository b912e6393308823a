-- Worlds in which one session moves and the others stay.
--
-- `run_append`: events from world a to b, and then from b to c, are a run from a to c.
-- `holds_own`: where one session is replaced, its number has the new one.
-- `holds_other`: where one session is replaced, the other numbers have theirs.
use Rattle.std.proofs.Common.{◌≡◌, ℕ, true, List, [], ◌∷◌, ◌++◌, map, refl, sym, ap, ◌∙◌, subst, cond}
use Rattle.std.proofs.lemmas.Bool.{eq-eqb, ne_eqb, and_from}
use Rattle.std.proofs.lemmas.List.{append_assoc, append-nil}
use Rattle.spec_board.specs.Places.{ExactPlace}
use Rattle.spec_world.specs.World.{Server, ExactAct, ExactEvent, ExactEnd, Session, World, fits_stage, has_session}
use Rattle.spec_world.specs.World.{is_enabled, Left, Leaves, end_of, Takes, StepBy, WorldStep, WorldRun}
use Rattle.spec_world.specs.Together.{by_session}
use Rattle.spec_world.proofs.Happening.{updated}

pub run_append : (server : Server) (a b c : World) (xs ys : List ExactEvent) → WorldRun server a xs b →
    WorldRun server b ys c → WorldRun server a (xs ++ ys) c
run_append server a b c [] ys p q = subst (λ w. WorldRun server w ys c) p q
run_append server a b c (x ∷ xs) ys p q = (p.0, p.1, p.2, run_append server p.1 b c xs ys p.3 q)

-- the world `old` with s as session `me`, `now` as its places, and `more` events behind its own
abbrev pub holding : World → ℕ → Session → List ExactPlace → List ExactEvent → World
holding old me s now more = record { sessions = updated old.sessions me s; places = now; events = old.events ++ more }

pub holds_own : (old : World) (me : ℕ) (s : Session) → updated old.sessions me s me ≡ s
holds_own old me s = ap (λ t. cond t s (old.sessions me)) (eq-eqb me me refl)

pub holds_other : (old : World) (me : ℕ) (s : Session) (other : ℕ) → (me ≡ other → ⊥) →
    updated old.sessions me s other ≡ old.sessions other
holds_other old me s other apart = ap (λ t. cond t s (old.sessions other)) (ne_eqb me other apart)

-- an enabled event whose act is taken is an event of the world
step_taken : (server : Server) (old : World) (event : ExactEvent) (end : ExactEnd) (new : World) →
    is_enabled server old event ≡ true → Takes server old event end new → WorldStep server old event end new
step_taken server old event end new e t = subst (λ b. StepBy b server old event end new) (sym e) t

module _ (server : Server) (old : World) (me : ℕ) (there : has_session server me ≡ true) where
  -- an act that fits a session's stage, with an outcome that it may have, is an event from the old world to the one
  -- with that outcome
  pub first_act : (a : ExactAct) (left : Left) → fits_stage (old.sessions me).stage a ≡ true →
      Leaves server me old.places (old.sessions me) (old.sessions me).stage a left →
      WorldStep server old (by_session me a) (end_of me left.replied)
      (holding old me left.session left.places (by_session me a ∷ []))
  first_act a left fits leaves =
      step_taken server old (by_session me a) (end_of me left.replied)
      (holding old me left.session left.places (by_session me a ∷ []))
      (and_from (has_session server me) (fits_stage (old.sessions me).stage a) there fits)
      (record {
        left = left;
        leaves = leaves;
        own = holds_own old me left.session;
        others = holds_other old me left.session;
        places = refl;
        events = refl;
        ends = refl;
      })

  -- after more events of the session, an act that fits its stage then, with an outcome that it may have, is an event to
  -- the world with that outcome
  next_act : (s : Session) (now : List ExactPlace) (more : List ExactEvent) (a : ExactAct) (left : Left) →
      fits_stage s.stage a ≡ true → Leaves server me now s s.stage a left →
      WorldStep server (holding old me s now more) (by_session me a) (end_of me left.replied)
      (holding old me left.session left.places (more ++ by_session me a ∷ []))
  next_act s now more a left fits leaves =
      let own : updated old.sessions me s me ≡ s = holds_own old me s in
      step_taken server (holding old me s now more) (by_session me a) (end_of me left.replied)
      (holding old me left.session left.places (more ++ by_session me a ∷ []))
      (and_from (has_session server me) (fits_stage (updated old.sessions me s me).stage a) there
      (ap (λ (s : Session). fits_stage s.stage a) own ∙ fits))
      (record {
        left = left;
        leaves = subst (λ (s : Session). Leaves server me now s s.stage a left) (sym own) leaves;
        own = holds_own old me left.session;
        others = λ other apart. holds_other old me left.session other apart ∙ sym (holds_other old me s other apart);
        places = refl;
        events = sym (append_assoc old.events more (by_session me a ∷ []));
        ends = refl;
      })

  -- acts of session `me` alone lead from it as s, with the places `now`, to it as `new`, with the places `next`,
  -- whatever events came before
  pub record Leads (s : Session) (now : List ExactPlace) (new : Session) (next : List ExactPlace) : Type 0 where
    pub acts : List ExactAct
    pub run : (more : List ExactEvent) →
        WorldRun server (holding old me s now more) (map (by_session me) acts)
        (holding old me new next (more ++ map (by_session me) acts))

  -- no acts lead from a session and places to the same session and places
  pub leads_nowhere : (s : Session) (now : List ExactPlace) → Leads s now s now
  leads_nowhere s now = record { acts = []; run = λ more. ap (holding old me s now) (append-nil more) }

  -- where an act may leave a session and places that lead on to others, the ones before the act lead on to these
  pub leads_by : (s : Session) (now : List ExactPlace) (a : ExactAct) (left : Left) (new : Session)
      (next : List ExactPlace) → fits_stage s.stage a ≡ true → Leaves server me now s s.stage a left →
      Leads left.session left.places new next → Leads s now new next
  leads_by s now a left new next fits leaves l = record {
    acts = a ∷ l.acts;
    run = λ more. (
      end_of me left.replied,
      holding old me left.session left.places (more ++ by_session me a ∷ []),
      next_act s now more a left fits leaves,
      subst (λ es. WorldRun server (holding old me left.session left.places (more ++ by_session me a ∷ []))
          (map (by_session me) l.acts) (holding old me new next es))
          (append_assoc more (by_session me a ∷ []) (map (by_session me) l.acts))
          (l.run (more ++ by_session me a ∷ [])),
    );
  }
