-- Asks that are dealt to workers, and their replies in the order of the asks.
--
-- `not_equal`: numbers that a comparison finds different are different.
-- `last_first`: the reverse of a list ends with its first element.
-- `open_more`: a part with room for one reply more may hold one request more, of a session of at most 64, before its
--   turn.
use Rattle.std.proofs.Common.{◌≡◌, ◌≢◌, ℕ, ◌+◌, ◌<◌, ◌≤◌, ◌%◌, List, [], ◌∷◌, ◌++◌, Bool, true, false, nat_eq, cond}
use Rattle.std.proofs.Common.{Some}
use Rattle.std.proofs.Common.{length, map, reverse, set, get_or, eqb-true, eq-eqb, refl, ap, sym, ◌∙◌, subst, arith}
use Rattle.std.specs.List.{All}
use Rattle.std.proofs.lemmas.List.{append_assoc, append-nil, map-append, reverse-append, reverse-reverse, length-map}
use Rattle.std.proofs.lemmas.List.{get_or-set_same, get_or-set_other, get_or_at}
use Rattle.std.proofs.lemmas.List.{length-append, length-set}
use Rattle.std.proofs.lemmas.List.Elements.{All-set, All-append, All-cons, All-nil, All-pop}
use Rattle.spec_server.specs.declared.asks.Asked.{Asked}
use Rattle.spec_server.specs.Machine.{ExactAsk, ExactReply}
use Rattle.spec_server.specs.Exchanges.{Exchange}
use Rattle.spec_serve.specs.Workers.{asks_of_worker, exchanges_of_worker}
use Rattle.lp_script.specs.declared.part.Part.{Part}
use Rattle.lp_script.specs.Dealt.{AreDealt, AreHeld}
use Rattle.lp_script.specs.Parts.{IsOpen}

pub not_equal : (a b : ℕ) → nat_eq a b ≡ false → b ≢ a
not_equal a b e same =
    let f : nat_eq a a ≡ false = ap (nat_eq a) (sym same) ∙ e in let g : nat_eq a a ≡ true = eq-eqb a a refl in cc

-- the last one
pub last_first : {X : Type 0} (x : X) (xs : List X) → reverse (x ∷ xs) ≡ reverse xs ++ x ∷ []
last_first x xs = reverse-append (x ∷ []) xs

-- a list with an element at the end, put in reverse, begins with this element
last_there : {X : Type 0} (xs : List X) (x : X) → reverse (xs ++ x ∷ []) ≡ x ∷ reverse xs
last_there xs x = reverse-append xs (x ∷ [])

-- equal lists with an element at the end are equal without it, and have the same element there
pushed_same : {X : Type 0} (xs ys : List X) (x y : X) → xs ++ x ∷ [] ≡ ys ++ y ∷ [] → (xs ≡ ys) × (x ≡ y)
pushed_same xs ys x y e =
    let f : x ∷ reverse xs ≡ y ∷ reverse ys = sym (last_there xs x) ∙ ap reverse e ∙ last_there ys y in
    let g : reverse xs ≡ reverse ys = cc in
    let h : x ≡ y = cc in
    (sym (reverse-reverse xs) ∙ ap reverse g ∙ reverse-reverse ys, h)

-- ---- asks

module _ (n : ℕ) (workers : List Part) (all : length workers ≡ n) (asked : Asked ExactAsk) (some : 0 < n)
    (w new : Part) (is : w ≡ get_or workers (asked.session % n) w) where
  -- the worker of a session is one of the workers
  within : asked.session % n < length workers
  within = omega (arith, some, all)

  -- where asks are dealt to workers, and one more ask is put behind those of its session's worker, that ask and the
  -- others are dealt
  pub dealt_more : (asks : List (Asked ExactAsk)) → new.asks.items ≡ w.asks.items ++ asked ∷ [] →
      AreDealt n asks workers → AreDealt n (asked ∷ asks) (set workers (asked.session % n) new)
  dealt_more asks holds dealt i d l = by (nat_eq (asked.session % n) i) refl
    where
      by : (t : Bool) → nat_eq (asked.session % n) i ≡ t →
          (get_or (set workers (asked.session % n) new) i d).asks.items
          ≡ reverse (cond t (asked ∷ asks_of_worker n i asks) (asks_of_worker n i asks))
      by true e =
          let here : asked.session % n ≡ i = eqb-true (asked.session % n) i e in
          ap (λ k. (get_or (set workers (asked.session % n) new) k d).asks.items) (sym here)
          ∙ ap (λ (x : Part). x.asks.items) (get_or-set_same workers (asked.session % n) new d within)
          ∙ holds
          ∙ ap (λ (x : Part). x.asks.items ++ asked ∷ []) (is ∙ ap (λ k. get_or workers k w) here)
          ∙ ap (λ ys. ys ++ asked ∷ []) (dealt i w l)
          ∙ sym (last_first asked (asks_of_worker n i asks))
      by false e =
          ap (λ (x : Part). x.asks.items)
          (get_or-set_other workers (asked.session % n) i new d (not_equal (asked.session % n) i e))
          ∙ dealt i d l

-- a part that takes one more ask is opened as it was
pub open_more : (part new : Part) (asked : Asked ExactAsk) → new.sessions ≡ part.sessions →
    new.solves ≡ part.solves → new.asks.items ≡ part.asks.items ++ asked ∷ [] →
    new.replies.items ≡ part.replies.items → new.replies.len + new.asks.len ≤ new.replies.cap →
    asked.session ≤ 64 → IsOpen part → IsOpen new
open_more part new asked sessions solves holds replies room low opened = record {
  sessions = ap (λ s. s.items) sessions ∙ opened.sessions;
  solves = ap (λ s. length s.items) solves ∙ opened.solves;
  replies = replies ∙ opened.replies;
  room = room;
  numbered = subst (All (λ (a : Asked ExactAsk). a.session ≤ 64)) (sym holds)
      (All-append (λ (a : Asked ExactAsk). a.session ≤ 64) part.asks.items (asked ∷ []) opened.numbered
      (All-cons (λ (a : Asked ExactAsk). a.session ≤ 64) asked [] low
      (All-nil (λ (a : Asked ExactAsk). a.session ≤ 64))));
}

-- the requests popped so far from the end of all are dealt to the parts, and those in `left` are not; `sessions` has
-- the sessions of the popped ones, the last one first
pub record Dealing (n : ℕ) (all left : List (Asked ExactAsk)) (sessions : List ℕ) (new : List Part) : Type 0 where
  pub popped : List (Asked ExactAsk)
  pub split : all ≡ left ++ popped
  pub sessions_are : sessions ≡ reverse (map (λ (a : Asked ExactAsk). a.session) popped)
  pub low : All (λ (a : Asked ExactAsk). a.session ≤ 64) left
  pub many : length new ≡ n
  pub dealt : AreDealt n popped new
  pub opened : All IsOpen new

module _ (n : ℕ) (all left : List (Asked ExactAsk)) (sessions : List ℕ) (now : List Part) (some : 0 < n)
    (so : Dealing n all left sessions now) (rest : List (Asked ExactAsk)) (asked : Asked ExactAsk)
    (popped : left ≡ rest ++ asked ∷ []) where
  -- the sessions of the requests that are left but for the last one, and of the last one, are at most 64
  low_now : All (λ (a : Asked ExactAsk). a.session ≤ 64) rest × (asked.session ≤ 64)
  low_now = All-pop (λ (a : Asked ExactAsk). a.session ≤ 64) left rest (Some asked) popped so.low

  -- where some asks are dealt, and the last one that is left is put behind those of its session's worker, all but the
  -- ones before it are dealt
  pub deal_more : (w new : Part) → w ≡ get_or now (asked.session % n) w →
      new.asks.items ≡ w.asks.items ++ asked ∷ [] → new.replies.items ≡ w.replies.items →
      new.sessions ≡ w.sessions → new.solves ≡ w.solves → new.replies.len + new.asks.len ≤ new.replies.cap →
      Dealing n all rest (sessions ++ asked.session ∷ []) (set now (asked.session % n) new)
  deal_more w new is holds replies standings solves room = record {
    popped = asked ∷ so.popped;
    split = so.split ∙ ap (λ ys. ys ++ so.popped) popped ∙ append_assoc rest (asked ∷ []) so.popped;
    sessions_are = ap (λ ss. ss ++ asked.session ∷ []) so.sessions_are
        ∙ sym (last_first asked.session (map (λ (a : Asked ExactAsk). a.session) so.popped));
    low = low_now.0;
    many = length-set now (asked.session % n) new ∙ so.many;
    dealt = dealt_more n now so.many asked some w new is so.popped holds so.dealt;
    opened = All-set IsOpen now (asked.session % n) new
        (open_more w new asked standings solves holds replies room low_now.1
        (subst IsOpen (sym is) (so.opened (asked.session % n) w (omega (arith, some, so.many))))) so.opened;
  }

-- ---- replies

-- the replies of the first k of these exchanges were collected, in order, and the workers still hold those of the
-- others
pub record Collecting (n k : ℕ) (workers : List Part) (replies : List ExactReply) (exchanges : List Exchange) :
    Type 0 where
  pub done : List Exchange
  pub rest : List Exchange
  pub all : exchanges ≡ done ++ rest
  pub many : length done ≡ k
  pub replied : replies ≡ map (λ (x : Exchange). x.reply) done
  pub held : AreHeld n rest workers

-- the list of exchanges begins with one of this session
record NextOne (session : ℕ) (rest : List Exchange) : Type 0 where
  next : Exchange
  more : List Exchange
  is : rest ≡ next ∷ more
  of_session : next.session ≡ session

-- where exchanges come in the order of sessions, the one behind k of them is of session k of these
next_one : (done rest : List Exchange) (sessions : List ℕ) (k d : ℕ) → length done ≡ k →
    map (λ (x : Exchange). x.session) (done ++ rest) ≡ sessions → k < length sessions →
    NextOne (get_or sessions k d) rest
next_one done [] sessions k d many are l =
    absurd
    (let e : length sessions ≡ k =
    ap length (sym are) ∙ length-map (done ++ []) (λ (x : Exchange). x.session) ∙ ap length (append-nil done) ∙ many in
    omega (arith, e, l))
next_one done (x ∷ rest) sessions k d many are l = record {
  next = x;
  more = rest;
  is = refl;
  of_session =
      sym (ap (λ ss. get_or ss k d) (sym are ∙ map-append (λ (x : Exchange). x.session) done (x ∷ rest))
      ∙ get_or_at (map (λ (x : Exchange). x.session) done) x.session (map (λ (x : Exchange). x.session) rest) d k
      (length-map done (λ (x : Exchange). x.session) ∙ many));
}

module _ (n : ℕ) (workers : List Part) (all : length workers ≡ n) (session : ℕ) (some : 0 < n) (w : Part)
    (is : w ≡ get_or workers (session % n) w) (sessions : List ℕ) (k : ℕ) (l : k < length sessions)
    (read : session ≡ get_or sessions k 0) (exchanges : List Exchange) (replies : List ExactReply)
    (are : map (λ (x : Exchange). x.session) exchanges ≡ sessions) (so : Collecting n k workers replies exchanges) where
  -- the next exchange to be collected is of the session that was read
  its : NextOne session so.rest
  its = subst (λ s. NextOne s so.rest) (sym read)
      (next_one so.done so.rest sessions k 0 so.many
      (ap (map (λ (x : Exchange). x.session)) (sym so.all) ∙ are) l)

  -- the exchanges of worker i behind the next one
  own : ℕ → List Exchange
  own i = exchanges_of_worker n i its.more

  -- the workers hold the replies of the next exchange and of those behind it
  rest_held : AreHeld n (its.next ∷ its.more) workers
  rest_held = subst (λ (rest : List Exchange). AreHeld n rest workers) its.is so.held

  -- the next exchange is worker i's where its session's number has the remainder i
  picked : (i : ℕ) → nat_eq (session % n) i ≡ nat_eq (its.next.session % n) i
  picked i = ap (λ s. nat_eq (s % n) i) (sym its.of_session)

  -- the replies that the next session's worker holds end with the reply of the next exchange
  its_worker : w.replies.items ≡ reverse (map (λ (x : Exchange). x.reply) (own (session % n))) ++ its.next.reply ∷ []
  unfolding its own
  its_worker =
      ap (λ (x : Part). x.replies.items) is
      ∙ rest_held (session % n) w (omega (arith, some))
      ∙ ap (λ t. reverse (map (λ (x : Exchange). x.reply) (cond t (its.next ∷ own (session % n)) (own (session % n)))))
      (sym (picked (session % n)) ∙ eq-eqb (session % n) (session % n) refl)
      ∙ last_first its.next.reply (map (λ (x : Exchange). x.reply) (own (session % n)))

  -- the worker of the next session holds at least one reply
  pub has_one : 0 < length w.replies.items
  has_one =
      let e = ap length its_worker in
      let f = length-append (reverse (map (λ (x : Exchange). x.reply) (own (session % n)))) (its.next.reply ∷ []) in
      omega (arith, e, f)

  module _ (new : Part) (reply : ExactReply) (popped : w.replies.items ≡ new.replies.items ++ reply ∷ []) where
    -- the reply that was popped is that of the next exchange, and the replies that are left are those of the worker's
    -- exchanges behind it
    both : (new.replies.items ≡ reverse (map (λ (x : Exchange). x.reply) (own (session % n))))
        × (reply ≡ its.next.reply)
    both = pushed_same new.replies.items (reverse (map (λ (x : Exchange). x.reply) (own (session % n)))) reply
        its.next.reply (sym popped ∙ its_worker)

    -- once the next session's worker has given its newest reply, the workers hold the replies of the exchanges behind
    held_more : AreHeld n its.more (set workers (session % n) new)
    unfolding its own
    held_more i d h = by (nat_eq (session % n) i) refl
      where
        by : (t : Bool) → nat_eq (session % n) i ≡ t →
            (get_or (set workers (session % n) new) i d).replies.items
            ≡ reverse (map (λ (x : Exchange). x.reply) (own i))
        by true e =
            let here : session % n ≡ i = eqb-true (session % n) i e in
            ap (λ j. (get_or (set workers (session % n) new) j d).replies.items) (sym here)
            ∙ ap (λ (x : Part). x.replies.items)
            (get_or-set_same workers (session % n) new d (omega (arith, some, all)))
            ∙ both.0
            ∙ ap (λ j. reverse (map (λ (x : Exchange). x.reply) (own j))) here
        by false e =
            ap (λ (x : Part). x.replies.items)
            (get_or-set_other workers (session % n) i new d (not_equal (session % n) i e))
            ∙ rest_held i d h
            ∙ ap (λ t. reverse (map (λ (x : Exchange). x.reply) (cond t (its.next ∷ own i) (own i))))
            (sym (picked i) ∙ e)

    -- where the replies of k exchanges were collected, and the newest one of the next session's worker is taken, those
    -- of k + 1 are collected
    pub collected_more : Collecting n (k + 1) (set workers (session % n) new) (replies ++ reply ∷ []) exchanges
    collected_more = record {
      done = so.done ++ its.next ∷ [];
      rest = its.more;
      all = so.all ∙ ap (λ ys. so.done ++ ys) its.is ∙ sym (append_assoc so.done (its.next ∷ []) its.more);
      many = length-append so.done (its.next ∷ []) ∙ ap (λ m. m + 1) so.many;
      replied = ap (λ rs. rs ++ reply ∷ []) so.replied
          ∙ ap (λ r. map (λ (x : Exchange). x.reply) so.done ++ r ∷ []) both.1
          ∙ sym (map-append (λ (x : Exchange). x.reply) so.done (its.next ∷ []));
      held = held_more;
    }
