-- What holds of the bounds of texts, holds of the bounds that a card sets.
use Rattle.std.proofs.Common.{◌≡◌, ℕ, Some, None, Ok, List, IfSome, refl, subst}
use Rattle.spec_exact.specs.Fraction.{ℚ}
use Rattle.spec_mps.specs.declared.number.BoundValue.{BoundValue}
use Rattle.spec_mps.specs.declared.number.BoundValue.TheVariants.{Finite, PlusInf, MinusInf}
use Rattle.spec_mps.specs.declared.bound_kind.BoundKind.{BoundKind}
use Rattle.spec_mps.specs.declared.bound_kind.BoundKind.TheVariants.{Up, Lo, Fx, Fr, Mi, Pl}
use Rattle.spec_mps.specs.BoundText.{BoundReading, bound_of, bound_answer}
use Rattle.spec_mps.specs.BoundText as bound
use Rattle.spec_mps.specs.Checks.{coded}
use Rattle.spec_mps.specs.Bounds.{BoundCard, SetsUpper, SetsLower, SetsBoth}
use Rattle.spec_mps.specs.Bounds.{upper_card, lower_card, both_card, bound_in, bound_card}
use Rattle.spec_mps.proofs.CheckSteps.{step_ok, same_ok}

-- the property holds of each number that a card makes a bound; of no bound nothing is asked
abbrev pub SetsAll : (ℚ → Type 0) → BoundCard → Type 0
SetsAll P (SetsUpper u) = IfSome u P
SetsAll P (SetsLower l) = IfSome l P
SetsAll P (SetsBoth l u) = IfSome l P × IfSome u P

-- the property holds of a finite value; of an infinite one nothing is asked
abbrev IsValue : (ℚ → Type 0) → BoundValue ℚ → Type 0
IsValue P (Finite q) = P q
IsValue P PlusInf = Unit {0}
IsValue P MinusInf = Unit {0}

module _ (P : ℚ → Type 0) (of_text : (text : List ℕ) (q : ℚ) → bound_of text ≡ bound.Finite q → P q) where
  answer_is : (text : List ℕ) (reading : BoundReading) (value : BoundValue ℚ) → bound_of text ≡ reading →
      coded (bound_answer reading) ≡ Ok value → IsValue P value
  answer_is text (bound.Finite q) value e h = subst (IsValue P) (same_ok (Finite q) value h) (of_text text q e)
  answer_is text bound.PlusInf value e h = subst (IsValue P) (same_ok PlusInf value h) tt
  answer_is text bound.MinusInf value e h = subst (IsValue P) (same_ok MinusInf value h) tt
  answer_is text bound.Shape value e h = absurd (cc)
  answer_is text bound.Wide value e h = absurd (cc)

  value_is : (text : List ℕ) (value : BoundValue ℚ) → bound_in text ≡ Ok value → IsValue P value
  unfolding bound_in
  value_is text value h = answer_is text (bound_of text) value refl h

  upper_is : (value : BoundValue ℚ) (card : BoundCard) → IsValue P value → upper_card value ≡ Ok card → SetsAll P card
  upper_is (Finite q) card p h = subst (SetsAll P) (same_ok (SetsUpper (Some q)) card h) p
  upper_is PlusInf card p h = subst (SetsAll P) (same_ok (SetsUpper None) card h) tt
  upper_is MinusInf card p h = absurd (cc)

  lower_is : (value : BoundValue ℚ) (card : BoundCard) → IsValue P value → lower_card value ≡ Ok card → SetsAll P card
  lower_is (Finite q) card p h = subst (SetsAll P) (same_ok (SetsLower (Some q)) card h) p
  lower_is PlusInf card p h = absurd (cc)
  lower_is MinusInf card p h = subst (SetsAll P) (same_ok (SetsLower None) card h) tt

  both_is : (value : BoundValue ℚ) (card : BoundCard) → IsValue P value → both_card value ≡ Ok card → SetsAll P card
  both_is (Finite q) card p h = subst (SetsAll P) (same_ok (SetsBoth (Some q) (Some q)) card h) (p, p)
  both_is PlusInf card p h = absurd (cc)
  both_is MinusInf card p h = absurd (cc)

  -- where a property holds of each finite bound that a text is read as, it holds of each bound that a card of BOUNDS
  -- sets
  pub card_sets : (kind : BoundKind) (text : List ℕ) (card : BoundCard) → bound_card kind text ≡ Ok card →
      SetsAll P card
  unfolding bound_card
  card_sets Up text card h =
      let a = step_ok (bound_in text) upper_card card h in upper_is a.0 card (value_is text a.0 a.1) a.2
  card_sets Lo text card h =
      let a = step_ok (bound_in text) lower_card card h in lower_is a.0 card (value_is text a.0 a.1) a.2
  card_sets Fx text card h =
      let a = step_ok (bound_in text) both_card card h in both_is a.0 card (value_is text a.0 a.1) a.2
  card_sets Fr text card h = subst (SetsAll P) (same_ok (SetsBoth None None) card h) (tt, tt)
  card_sets Mi text card h = subst (SetsAll P) (same_ok (SetsLower None) card h) tt
  card_sets Pl text card h = subst (SetsAll P) (same_ok (SetsUpper None) card h) tt
