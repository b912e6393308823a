-- Asks up to the first QUIT, where it is known which of them may be one.
--
-- `up_to_quit_none`: where no request is `QUIT`, the requests up to the first `QUIT` are all of them.
-- `until_quit_none`: a script none of whose requests is `QUIT` is the same up to its first `QUIT`.
-- `first_before_quit`: requests none of which is `QUIT` are the first of those up to the first `QUIT`, whatever follows
--   them.
use Rattle.std.proofs.Common.{◌≡◌, ◌||◌, Bool, true, false, cond, List, [], ◌∷◌, ◌++◌, ap, sym, ◌∙◌, refl}
use Rattle.std.proofs.Common.{append_assoc, append-nil}
use Rattle.std.proofs.lemmas.List.Folds.{list_any-append}
use Rattle.spec_server.specs.declared.asks.Asked.{Asked}
use Rattle.spec_server.specs.Machine.{ExactAsk}
use Rattle.spec_server.specs.Script.{Script, Ending, Ended}
use Rattle.spec_serve.specs.Link.{is_quit, quits, up_to_quit, until_quit, AreFirstOf}

-- ---- an ask, by whether it is QUIT

-- behind a request that is not QUIT all others stay, where those up to QUIT are all of them
first_by : (t u : Bool) (a : Asked ExactAsk) (xs ys : List (Asked ExactAsk)) → (t || u) ≡ false →
    (u ≡ false → xs ≡ ys) → ◌≡◌ {A = List (Asked ExactAsk)} (a ∷ cond t [] xs) (a ∷ ys)
first_by true u a xs ys none more = absurd (let h = none in cc)
first_by false u a xs ys none more = ap (λ (zs : List (Asked ExactAsk)). a ∷ zs) (more none)

-- ---- asks among which is no QUIT

module _ (rest : List (Asked ExactAsk)) where
  -- where no request in front is `QUIT`, those up to the first `QUIT` are all in front and then those of the rest
  up_to_quit_past : (front : List (Asked ExactAsk)) → quits front ≡ false →
      up_to_quit (front ++ rest) ≡ front ++ up_to_quit rest
  up_to_quit_past [] none = refl
  up_to_quit_past (a ∷ front) none =
      first_by (is_quit a.ask) (quits front) a (up_to_quit (front ++ rest)) (front ++ up_to_quit rest) none
      (up_to_quit_past front)

  -- where no request in front is `QUIT`, one of all is exactly where one of the rest is
  quits_past : (front : List (Asked ExactAsk)) → quits front ≡ false → quits (front ++ rest) ≡ quits rest
  quits_past front none =
      list_any-append (λ (a : Asked ExactAsk). is_quit a.ask) front rest ∙ ap (λ (t : Bool). t || quits rest) none

-- they alone
pub up_to_quit_none : (asks : List (Asked ExactAsk)) → quits asks ≡ false → up_to_quit asks ≡ asks
up_to_quit_none asks none =
    ap up_to_quit (sym (append-nil asks)) ∙ up_to_quit_past [] asks none ∙ append-nil asks

pub until_quit_none : (s : Script) → quits s.asks ≡ false → until_quit s ≡ s
until_quit_none s none =
    ap (λ (zs : List (Asked ExactAsk)).
    let so : Script = record { asks = zs; ending = cond (quits s.asks) Ended s.ending } in so)
    (up_to_quit_none s.asks none)
    ∙ ap (λ (t : Bool). let so : Script = record { asks = s.asks; ending = cond t Ended s.ending } in so) none

pub first_before_quit : (asks rest : List (Asked ExactAsk)) → quits asks ≡ false →
    AreFirstOf asks (up_to_quit (asks ++ rest))
first_before_quit asks rest none = (up_to_quit rest, up_to_quit_past rest asks none)

-- ---- asks of which the last one alone may be QUIT
module _ (front : List (Asked ExactAsk)) (last : Asked ExactAsk) (none : quits front ≡ false) where
  -- where all but the last of some requests are no `QUIT`, they are the first of those up to the first `QUIT`, whatever
  -- follows them
  pub first_with_last : (rest : List (Asked ExactAsk)) →
      AreFirstOf (front ++ last ∷ []) (up_to_quit ((front ++ last ∷ []) ++ rest))
  first_with_last rest = (
    cond (is_quit last.ask) [] (up_to_quit rest),
    ap up_to_quit (append_assoc front (last ∷ []) rest)
        ∙ up_to_quit_past (last ∷ rest) front none
        ∙ sym (append_assoc front (last ∷ []) (cond (is_quit last.ask) [] (up_to_quit rest))),
  )

  -- where no request in front is `QUIT`, and the last is none, none of all is
  pub quits_not : is_quit last.ask ≡ false → quits (front ++ last ∷ []) ≡ false
  quits_not other = quits_past (last ∷ []) front none ∙ ap (λ (t : Bool). t || false) other

  -- where the last of some requests is `QUIT`, and no other is, they are the script up to its first `QUIT`, whatever
  -- follows, and it has ended
  pub until_quit_last : (rest : List (Asked ExactAsk)) (ending : Ending) → is_quit last.ask ≡ true →
      until_quit (record { asks = (front ++ last ∷ []) ++ rest; ending = ending })
      ≡ record { asks = front ++ last ∷ []; ending = Ended }
  until_quit_last rest ending is =
      let joined : (front ++ last ∷ []) ++ rest ≡ front ++ last ∷ rest = append_assoc front (last ∷ []) rest in
      let stops : up_to_quit (last ∷ rest) ≡ last ∷ [] =
      ap (λ (t : Bool). let asks : List (Asked ExactAsk) = last ∷ cond t [] (up_to_quit rest) in asks) is in
      let says : quits (last ∷ rest) ≡ true = ap (λ (t : Bool). t || quits rest) is in
      ap (λ (zs : List (Asked ExactAsk)). until_quit (record { asks = zs; ending = ending })) joined
      ∙ ap (λ (zs : List (Asked ExactAsk)).
      let so : Script = record { asks = zs; ending = cond (quits (front ++ last ∷ rest)) Ended ending } in so)
      (up_to_quit_past (last ∷ rest) front none ∙ ap (λ zs. front ++ zs) stops)
      ∙ ap (λ (t : Bool). let so : Script = record { asks = front ++ last ∷ []; ending = cond t Ended ending } in so)
      (quits_past (last ∷ rest) front none ∙ says)
