-- One act of a session in the whole world.
--
-- `first_part`: a number from 1 to n is above 0.
-- `last_part`: a number from 1 to n is at most n.
-- `reads_fit`: an act that only reads fits the same places if it fits an equal list of them.
use Rattle.std.proofs.Common.{◌≡◌, ℕ, ◌<◌, ◌≤◌, ◌-◌, Bool, true, false, List, length, refl, sym, ap, ◌∙◌, subst}
use Rattle.std.proofs.Common.{nat_eq, eqb-true, cond, arith}
use Rattle.std.specs.Prelude.{get_or, set, ◌&&◌, nat_lt, nat_le}
use Rattle.std.proofs.lemmas.Bool.{eqb-false, lt-ltb, le-leb, ltb-true, leb-true, and_from, and_parts}
use Rattle.std.proofs.Math.Bool.{and-false}
use Rattle.std.proofs.lemmas.List.{length-set, get_or-set_same, get_or-set_other, get_or_read, set-get_or}
use Rattle.spec_board.specs.Places.{ExactPlace}
use Rattle.spec_world.specs.World.{ExactAct, ExactEvent, ExactEnd, World, has_session, fits_stage, is_enabled, Leaves}
use Rattle.spec_world.specs.World.{StepBy, WorldStep}
use Rattle.spec_world.specs.World.{Server}
use Rattle.spec_world.proofs.Happening.{updated, after_act, act_taken}
use Rattle.lp_core.specs.Core.{Kept, opening_kept, Keeps, Acted, ActBy, ActFits, Core, server_of, Shows, StepFits}

-- a session that there is has a number from 1 on
there : (me n : ℕ) → 0 < me → me ≤ n → nat_lt 0 me && nat_le me n ≡ true
there me n p q = and_from (nat_lt 0 me) (nat_le me n) (lt-ltb 0 me p) (le-leb me n q)

pub first_part : (me n : ℕ) → nat_lt 0 me && nat_le me n ≡ true → 0 < me
first_part me n h = ltb-true 0 me (and_parts (nat_lt 0 me) (nat_le me n) h).0

pub last_part : (me n : ℕ) → nat_lt 0 me && nat_le me n ≡ true → me ≤ n
last_part me n h = leb-true me n (and_parts (nat_lt 0 me) (nat_le me n) h).1

module _ (held : List Kept) (places : List ExactPlace) (limit me : ℕ) (from : 0 < me) (to : me ≤ length held)
    (kept : Kept) (is : kept ≡ get_or held (me - 1) kept) where
  -- what the code holds of the world before the act
  abbrev old : Core
  old = record { held = held; places = places; limit = limit }

  -- the server of these sessions and places
  abbrev server : Server
  server = server_of old

  -- what the code holds of the world where it holds `new` of session `me`, and the places are these
  abbrev after : Kept → List ExactPlace → Core
  after new next = record { held = set held (me - 1) new; places = next; limit = limit }

  -- what is held of session `me` is `kept`
  kept_so : get_or held (me - 1) opening_kept ≡ kept
  kept_so = sym (get_or_read held (me - 1) kept (omega arith) is opening_kept)

  -- the other sessions are held as they were
  other_kept : (new : Kept) (session : ℕ) → 0 < session → (me ≡ session → ⊥) →
      get_or (set held (me - 1) new) (session - 1) opening_kept ≡ get_or held (session - 1) opening_kept
  other_kept new session first apart =
      get_or-set_other held (me - 1) (session - 1) new opening_kept (λ e. apart (omega arith))

  -- after the act, what is held of session `me` is the new one
  own_kept : (new : Kept) → get_or (set held (me - 1) new) (me - 1) opening_kept ≡ new
  own_kept new = get_or-set_same held (me - 1) new opening_kept (omega arith)

  -- what is held after the act is held of the world after it
  shows_after : (w : World) (event : ExactEvent) (new : Kept) (next : List ExactPlace) (a : ExactAct)
      (end : ExactEnd) → Shows old w → event.session ≡ me →
      (t : Acted server event.session places (w.sessions event.session) a end new next) →
      Shows (after new next) (after_act w event t.left)
  shows_after w event new next a end shows mine t = record {
    each = each;
    places_so = sym t.places_so;
  }
    where
      each : (session : ℕ) → has_session (server_of (after new next)) session ≡ true →
          Keeps (get_or (set held (me - 1) new) (session - 1) opening_kept)
          (updated w.sessions event.session t.left.session session)
      each session h = by (nat_eq event.session session) refl
        where
          by : (b : Bool) → nat_eq event.session session ≡ b →
              Keeps (get_or (set held (me - 1) new) (session - 1) opening_kept)
              (cond (nat_eq event.session session) t.left.session (w.sessions session))
          by true e =
              let same : me ≡ session = sym mine ∙ eqb-true event.session session e in
              subst (λ c. Keeps (get_or (set held (me - 1) new) (session - 1) opening_kept)
              (cond c t.left.session (w.sessions session))) (sym e)
              (subst (λ i. Keeps (get_or (set held (me - 1) new) (i - 1) opening_kept) t.left.session) same
              (subst (λ k. Keeps k t.left.session) (sym (own_kept new)) t.keeps))
          by false e =
              let apart : event.session ≡ session → ⊥ = eqb-false event.session session e in
              subst (λ c. Keeps (get_or (set held (me - 1) new) (session - 1) opening_kept)
              (cond c t.left.session (w.sessions session))) (sym e)
              (subst (λ k. Keeps k (w.sessions session))
              (sym (other_kept new session (first_part session (length (set held (me - 1) new)) h)
              (λ z. apart (mine ∙ z))))
              (shows.each session (subst (λ n. has_session (record { sessions = n; places = limit }) session ≡ true)
              (length-set held (me - 1) new) h)))

  -- an act of session `me`, taken or not, leads a world of which `old` is held to one of which the new is held
  by_act : (w : World) (a : ExactAct) (end : ExactEnd) (new : Kept) (next : List ExactPlace) → Shows old w →
      (t : Bool) → fits_stage (w.sessions me).stage a ≡ t →
      ActBy t server me kept places (w.sessions me) a end new next →
      (x : World) × WorldStep server w (record { session = me; act = a }) end x × Shows (after new next) x
  by_act w a end new next shows true e t =
      let event : ExactEvent = record { session = me; act = a } in
      let enabled : is_enabled server w event ≡ true =
      and_from (has_session server me) (fits_stage (w.sessions me).stage a) (there me (length held) from to) e in (
        after_act w event t.left,
        subst (λ b. StepBy b server w event end (after_act w event t.left)) (sym enabled)
            (subst (λ n. StepBy true server w event n (after_act w event t.left)) (sym t.end_so)
            (act_taken server w event t.left
            (subst (λ ps. Leaves server me ps (w.sessions me) (w.sessions me).stage a t.left)
            (sym shows.places_so) t.leaves))),
        shows_after w event new next a end shows refl t,
      )
  by_act w a end new next shows false e h =
      let event : ExactEvent = record { session = me; act = a } in
      let disabled : is_enabled server w event ≡ false =
      ap (λ t. has_session server me && t) e ∙ and-false (has_session server me) in (
        w,
        subst (λ b. StepBy b server w event end w) (sym disabled) (h.0, refl),
        subst (λ hs. Shows (record { held = hs; places = next; limit = limit }) w)
            (sym (ap (λ k. set held (me - 1) k) (h.1 ∙ sym kept_so) ∙ set-get_or held (me - 1) opening_kept))
            (subst (λ ps. Shows (record { held = held; places = ps; limit = limit }) w) (sym h.2) shows),
      )

  -- where an act fits what is held of session `me`, the event of this act leads on as it may
  pub act_steps : (core : Core) (a e : ExactAct) (end : ExactEnd) (new : Kept) (next : List ExactPlace) → old ≡ core →
      e ≡ a → ActFits limit me kept places a end new next →
      StepFits core (record { session = me; act = e }) end (after new next)
  act_steps core a e end new next view same fits =
      subst (λ c. StepFits c (record { session = me; act = e }) end (after new next)) view
      (subst (λ b. StepFits old (record { session = me; act = b }) end (after new next)) (sym same) steps)
    where
      steps : StepFits old (record { session = me; act = a }) end (after new next)
      steps w shows =
          let keeps : Keeps kept (w.sessions me) =
          subst (λ k. Keeps k (w.sessions me)) kept_so (shows.each me (there me (length held) from to)) in
          by_act w a end new next shows (fits_stage (w.sessions me).stage a) refl
          (fits (length held) (w.sessions me) keeps)

-- an act that only reads the places
pub reads_fit : (limit me : ℕ) (old new : Kept) (now seen : List ExactPlace) (a e : ExactAct) (end : ExactEnd) → e ≡ a →
    seen ≡ now → ActFits limit me old seen a end new seen → ActFits limit me old now e end new now
reads_fit limit me old new now seen a e end same all fits =
    subst (λ b. ActFits limit me old now b end new now) (sym same)
    (subst (λ ps. ActFits limit me old ps a end new ps) all fits)
