-- What one more card of BOUNDS makes of a column's bounds.
--
-- `effects`: the fields of a card of BOUNDS say of both bounds what the reader does with the card.
-- `bounded_push`: a column with the bounds that some cards say has, after one more card, those that all of them say.
-- `none_bounded`: a column with a lower bound 0 and no upper one has the bounds of a column without cards in BOUNDS.
use Rattle.std.proofs.Common.{◌≡◌, ℕ, Bool, true, false, not, ◌&&◌, ◌||◌, cond, Option, Some, None}
use Rattle.std.proofs.Common.{is_some, Ok, List, [], ◌∷◌, ◌++◌, refl, sym, ap, ◌∙◌, subst, append-nil}
use Rattle.std.specs.List.{filter_map, cons_option, list_any}
use Rattle.std.proofs.lemmas.List.Elements.{filter_map-append}
use Rattle.spec_exact.specs.Fraction.{ℚ, 0ℚ}
use Rattle.spec_model.specs.Model.{ExactColumn}
use Rattle.spec_mps.specs.declared.bound_kind.BoundKind.{BoundKind}
use Rattle.spec_mps.specs.declared.bound_kind.BoundKind.TheVariants.{Up, Lo, Fx, Fr, Mi, Pl}
use Rattle.spec_mps.specs.declared.style.Style.{Style}
use Rattle.spec_mps.specs.BoundText.{BoundReading, Finite, PlusInf, MinusInf, Shape, Wide, bound_of, bound_answer}
use Rattle.spec_mps.specs.Checks.{◌>>=◌, coded}
use Rattle.spec_mps.specs.Fields.{Fields, text_at}
use Rattle.spec_mps.specs.Bounds.{BoundCard, SetsUpper, SetsLower, SetsBoth, upper_card, lower_card}
use Rattle.spec_mps.specs.Bounds.{both_card, bound_in, bound_card, is_negative, bounded, sets_lower}
use Rattle.spec_mps.proofs.CheckSteps.{same_ok}
use Rattle.spec_mps.specs.BoundCards.{kind_of, bound_on, upper_by, lower_by, is_below_zero, upper_on}
use Rattle.spec_mps.specs.BoundCards.{lower_on, has_negative_upper, last_or, upper_of, lower_of}

-- ---- one card

-- what a card makes the upper bound: a number, or no bound at all; none where it does not set it
abbrev upper_set : BoundCard → Option (Option ℚ)
upper_set (SetsUpper u) = Some u
upper_set (SetsLower l) = None
upper_set (SetsBoth l u) = Some u

-- what a card makes the lower bound: a number, or no bound at all; none where it does not set it
abbrev lower_set : BoundCard → Option (Option ℚ)
lower_set (SetsUpper u) = None
lower_set (SetsLower l) = Some l
lower_set (SetsBoth l u) = Some l

-- whether a card sets an upper bound alone that is below 0, which takes away a lower bound that no card has set
abbrev drops : BoundCard → Bool
drops (SetsUpper u) = is_negative u
drops (SetsLower l) = false
drops (SetsBoth l u) = false

-- a card of this kind with this value says of both bounds, and of an upper one below 0, what the reader does with it
record Does (kind : BoundKind) (value : BoundReading) (does : BoundCard) : Type 0 where
  upper : upper_by (Some kind) value ≡ upper_set does
  lower : lower_by (Some kind) value ≡ lower_set does
  below : is_below_zero (Some kind) value ≡ drops does

-- a card of kind UP that is read sets the bounds that UP means with its value
does_upper : (value : BoundReading) (does : BoundCard) → (coded (bound_answer value) >>= upper_card) ≡ Ok does →
    Does Up value does
does_upper (Finite u) does h =
    subst (Does Up (Finite u)) (same_ok (SetsUpper (Some u)) does h)
    (record { upper = refl; lower = refl; below = refl })
does_upper PlusInf does h =
    subst (Does Up PlusInf) (same_ok (SetsUpper None) does h) (record { upper = refl; lower = refl; below = refl })
does_upper MinusInf does h = absurd (cc)
does_upper Shape does h = absurd (cc)
does_upper Wide does h = absurd (cc)

-- a card of kind LO that is read sets the bounds that LO means with its value
does_lower : (value : BoundReading) (does : BoundCard) → (coded (bound_answer value) >>= lower_card) ≡ Ok does →
    Does Lo value does
does_lower (Finite l) does h =
    subst (Does Lo (Finite l)) (same_ok (SetsLower (Some l)) does h)
    (record { upper = refl; lower = refl; below = refl })
does_lower PlusInf does h = absurd (cc)
does_lower MinusInf does h =
    subst (Does Lo MinusInf) (same_ok (SetsLower None) does h) (record { upper = refl; lower = refl; below = refl })
does_lower Shape does h = absurd (cc)
does_lower Wide does h = absurd (cc)

-- a card of kind FX that is read sets the bounds that FX means with its value
does_both : (value : BoundReading) (does : BoundCard) → (coded (bound_answer value) >>= both_card) ≡ Ok does →
    Does Fx value does
does_both (Finite v) does h =
    subst (Does Fx (Finite v)) (same_ok (SetsBoth (Some v) (Some v)) does h)
    (record { upper = refl; lower = refl; below = refl })
does_both PlusInf does h = absurd (cc)
does_both MinusInf does h = absurd (cc)
does_both Shape does h = absurd (cc)
does_both Wide does h = absurd (cc)

-- a card of BOUNDS sets the bounds that its kind and its text mean
card_does : (kind : BoundKind) (text : List ℕ) (does : BoundCard) → bound_card kind text ≡ Ok does →
    Does kind (bound_of text) does
unfolding bound_card bound_in
card_does Up text does h = does_upper (bound_of text) does h
card_does Lo text does h = does_lower (bound_of text) does h
card_does Fx text does h = does_both (bound_of text) does h
card_does Fr text does h =
    subst (Does Fr (bound_of text)) (same_ok (SetsBoth None None) does h)
    (record { upper = refl; lower = refl; below = refl })
card_does Mi text does h =
    subst (Does Mi (bound_of text)) (same_ok (SetsLower None) does h)
    (record { upper = refl; lower = refl; below = refl })
card_does Pl text does h =
    subst (Does Pl (bound_of text)) (same_ok (SetsUpper None) does h)
    (record { upper = refl; lower = refl; below = refl })

-- what the fields of a card say of both bounds, and of a negative upper one, is what the reader's card `does`
pub record Effects (style : Style) (card : Fields) (does : BoundCard) : Type 0 where
  upper : upper_on style card ≡ upper_set does
  lower : lower_on style card ≡ lower_set does
  below : has_negative_upper style card ≡ drops does

pub effects : (style : Style) (card : Fields) (kind : BoundKind) (text : List ℕ) (does : BoundCard) →
    kind_of (text_at 1 card) ≡ Some kind → (bound_on style card).value ≡ text → bound_card kind text ≡ Ok does →
    Effects style card does
unfolding upper_on lower_on has_negative_upper
effects style card kind text does k v h =
    let d = card_does kind text does h in
    record {
      upper = (λ i. upper_by (k i) (bound_of (v i))) ∙ d.upper;
      lower = (λ i. lower_by (k i) (bound_of (v i))) ∙ d.lower;
      below = (λ i. is_below_zero (k i) (bound_of (v i))) ∙ d.below;
    }

-- ---- one more card

-- the last item of a list with one more at its end is that one
last_push : {A : Type 0} (first : A) (xs : List A) (y : A) → last_or first (xs ++ y ∷ []) ≡ y
last_push first [] y = refl
last_push first (x ∷ xs) y = last_push x xs y

-- one of the cards passes a test just where an old one or the new one does
any_push : (test : Fields → Bool) (cards : List Fields) (card : Fields) →
    list_any test (cards ++ card ∷ []) ≡ (list_any test cards || test card)
any_push test [] card = by (test card)
  where
    by : (b : Bool) → (b || false) ≡ b
    by true = refl
    by false = refl
any_push test (x ∷ cards) card =
    ap (λ b. test x || b) (any_push test cards card) ∙ by (test x) (list_any test cards) (test card)
  where
    by : (a b c : Bool) → (a || (b || c)) ≡ ((a || b) || c)
    by true b c = refl
    by false b c = refl

-- the bound that a card makes, or the old one where the card does not set it
abbrev or_kept : Option (Option ℚ) → Option ℚ → Option ℚ
or_kept (Some bound) old = bound
or_kept None old = old

-- the last of a list with an optional item behind is that item, or the old last
last_added : (first : Option ℚ) (xs : List (Option ℚ)) (o : Option (Option ℚ)) →
    last_or first (xs ++ cons_option o []) ≡ or_kept o (last_or first xs)
last_added first xs None = ap (last_or first) (append-nil xs)
last_added first xs (Some y) = last_push first xs y

-- one more card sets the upper bound, or leaves it
upper_push : (style : Style) (cards : List Fields) (card : Fields) →
    upper_of style (cards ++ card ∷ []) ≡ or_kept (upper_on style card) (upper_of style cards)
unfolding upper_of
upper_push style cards card =
    ap (last_or None) (filter_map-append (upper_on style) cards (card ∷ []))
    ∙ last_added None (filter_map (upper_on style) cards) (upper_on style card)

-- whether one of these cards sets the lower bound or takes it away
abbrev pub is_lowered : Style → List Fields → Bool
is_lowered style cards = list_any (λ card. is_some (lower_on style card)) cards

-- the lower bound before a card sets it: 0, or absent where the flag says that an upper bound is negative
abbrev first_lower : Bool → Option ℚ
first_lower negative = cond negative None (Some 0ℚ)

-- one more card sets the lower bound, or changes it at most as an UP below 0
lower_push : (style : Style) (cards : List Fields) (card : Fields) →
    lower_of style (cards ++ card ∷ []) ≡ or_kept (lower_on style card)
    (last_or (first_lower (list_any (has_negative_upper style) cards || has_negative_upper style card))
    (filter_map (lower_on style) cards))
unfolding lower_of
lower_push style cards card =
    (λ i. last_or (first_lower (any_push (has_negative_upper style) cards card i))
    (filter_map-append (lower_on style) cards (card ∷ []) i))
    ∙ last_added _ (filter_map (lower_on style) cards) (lower_on style card)

-- where a card has set the lower bound, the bound that was there first does not count
set_before : (style : Style) (cards : List Fields) (a b : Option ℚ) → is_lowered style cards ≡ true →
    last_or a (filter_map (lower_on style) cards) ≡ last_or b (filter_map (lower_on style) cards)
set_before style [] a b h = absurd (cc)
set_before style (card ∷ cards) a b h = by (lower_on style card) h (set_before style cards a b)
  where
    by : (o : Option (Option ℚ)) → (is_some o || is_lowered style cards) ≡ true →
        (is_lowered style cards ≡ true →
        last_or a (filter_map (lower_on style) cards) ≡ last_or b (filter_map (lower_on style) cards)) →
        last_or a (cons_option o (filter_map (lower_on style) cards))
        ≡ last_or b (cons_option o (filter_map (lower_on style) cards))
    by None k f = f k
    by (Some l) k f = refl

-- where no card has set the lower bound, the cards set no lower bounds
unset_before : (style : Style) (cards : List Fields) → is_lowered style cards ≡ false →
    filter_map (lower_on style) cards ≡ []
unset_before style [] h = refl
unset_before style (card ∷ cards) h = by (lower_on style card) h (unset_before style cards)
  where
    by : (o : Option (Option ℚ)) → (is_some o || is_lowered style cards) ≡ false →
        (is_lowered style cards ≡ false → filter_map (lower_on style) cards ≡ []) →
        cons_option o (filter_map (lower_on style) cards) ≡ []
    by None k f = f k
    by (Some l) k f = absurd (cc)

-- an UP card below 0 takes away a lower bound that no card has set
lower_kept : (style : Style) (cards : List Fields) (negative : Bool) →
    last_or (first_lower (list_any (has_negative_upper style) cards || negative)) (filter_map (lower_on style) cards)
    ≡ cond (negative && not (is_lowered style cards)) None (lower_of style cards)
unfolding lower_of
lower_kept style cards negative = by (is_lowered style cards) refl
  where
    none : (a b : Bool) → first_lower (a || b) ≡ cond (b && true) None (first_lower a)
    none true true = refl
    none true false = refl
    none false true = refl
    none false false = refl

    set : (b : Bool) → cond (b && false) None (lower_of style cards) ≡ lower_of style cards
    set true = refl
    set false = refl

    by : (b : Bool) → is_lowered style cards ≡ b →
        last_or (first_lower (list_any (has_negative_upper style) cards || negative))
        (filter_map (lower_on style) cards) ≡ cond (negative && not b) None
        (last_or (first_lower (list_any (has_negative_upper style) cards)) (filter_map (lower_on style) cards))
    by true e = set_before style cards _ _ e ∙ sym (set negative)
    by false e =
        ap (last_or _) (unset_before style cards e)
        ∙ none (list_any (has_negative_upper style) cards) negative
        ∙ ap (λ ls. cond (negative && true) None (last_or (first_lower (list_any (has_negative_upper style) cards)) ls))
        (sym (unset_before style cards e))

-- ---- a column's bounds

-- the column has the bounds that these cards make, and the flag says whether one of them sets the lower bound
pub record IsBounded (style : Style) (cards : List Fields) (c : ExactColumn) (lowered : Bool) : Type 0 where
  pub upper : c.upper ≡ upper_of style cards
  pub lower : c.lower ≡ lower_of style cards
  pub lowered_is : lowered ≡ is_lowered style cards

pub bounded_push : (style : Style) (cards : List Fields) (card : Fields)
    (does : BoundCard) (c : ExactColumn) (lowered : Bool) →
    Effects style card does → IsBounded style cards c lowered →
    IsBounded style (cards ++ card ∷ []) (bounded lowered does c) (lowered || sets_lower does)
bounded_push style cards card (SetsUpper u) c lowered e k = go (is_negative u && not lowered) refl
  where
    lower_is : lower_of style (cards ++ card ∷ []) ≡ cond (is_negative u && not lowered) None c.lower
    lower_is =
        lower_push style cards card
        ∙ (λ i. or_kept (e.lower i) (last_or (first_lower (list_any (has_negative_upper style) cards || e.below i))
        (filter_map (lower_on style) cards)))
        ∙ lower_kept style cards (is_negative u)
        ∙ (λ i. cond (is_negative u && not (sym k.lowered_is i)) None (sym k.lower i))

    upper_is : u ≡ upper_of style (cards ++ card ∷ [])
    upper_is = sym (upper_push style cards card ∙ ap (λ o. or_kept o (upper_of style cards)) e.upper)

    lowered_is : (lowered || false) ≡ is_lowered style (cards ++ card ∷ [])
    lowered_is =
        ap (λ b. b || false) k.lowered_is ∙ ap (λ o. is_lowered style cards || is_some o) (sym e.lower)
        ∙ sym (any_push (λ card. is_some (lower_on style card)) cards card)

    go : (b : Bool) → is_negative u && not lowered ≡ b →
        IsBounded style (cards ++ card ∷ [])
        (cond b (record c { lower = None; upper = u }) (record c { upper = u })) (lowered || false)
    go true f =
        record { upper = upper_is; lower = sym (lower_is ∙ ap (λ b. cond b None c.lower) f); lowered_is = lowered_is }
    go false f =
        record { upper = upper_is; lower = sym (lower_is ∙ ap (λ b. cond b None c.lower) f); lowered_is = lowered_is }
bounded_push style cards card (SetsLower l) c lowered e k =
    record {
      upper = k.upper ∙ sym (upper_push style cards card ∙ ap (λ o. or_kept o (upper_of style cards)) e.upper);
      lower =
          sym (lower_push style cards card ∙ ap (λ o. or_kept o
          (last_or (first_lower (list_any (has_negative_upper style) cards || has_negative_upper style card))
          (filter_map (lower_on style) cards))) e.lower);
      lowered_is =
          ap (λ b. b || true) k.lowered_is ∙ ap (λ o. is_lowered style cards || is_some o) (sym e.lower)
          ∙ sym (any_push (λ card. is_some (lower_on style card)) cards card);
    }
bounded_push style cards card (SetsBoth l u) c lowered e k =
    record {
      upper = sym (upper_push style cards card ∙ ap (λ o. or_kept o (upper_of style cards)) e.upper);
      lower =
          sym (lower_push style cards card ∙ ap (λ o. or_kept o
          (last_or (first_lower (list_any (has_negative_upper style) cards || has_negative_upper style card))
          (filter_map (lower_on style) cards))) e.lower);
      lowered_is =
          ap (λ b. b || true) k.lowered_is ∙ ap (λ o. is_lowered style cards || is_some o) (sym e.lower)
          ∙ sym (any_push (λ card. is_some (lower_on style card)) cards card);
    }

pub none_bounded : (style : Style) (c : ExactColumn) → c.lower ≡ Some 0ℚ → c.upper ≡ None → IsBounded style [] c false
unfolding upper_of lower_of
none_bounded style c l u = record { upper = u; lower = l; lowered_is = refl }
