-- The first fault of the options, option by option.
--
-- `told-by`: where two faults are the definition's, the first of them that there is is the definition's too.
-- `one-left`: a last word without a value has the fault that it names no option, or that its value is missing.
use Rattle.std.proofs.Common.{◌≡◌, ℕ, Bool, true, false, cond, ◌≤◌, arith, List, [], ◌∷◌, length, map, get_or}
use Rattle.std.proofs.Common.{Option, Some, None, refl, sym, ap, ◌∙◌}
use Rattle.std.specs.Prelude.{is_some}
use Rattle.std.specs.Option.{option_or}
use Rattle.std.specs.List.{list_any}
use Rattle.std.proofs.lemmas.Option.{none-some}
use denote.Ref.{Bor}
use Rattle.spec_text.specs.Words.{same}
use Rattle.spec_program.specs.CommandLine.{OptionNames}
use Rattle.lp_command_line.specs.Words.{Cut, first_in, bytes_of, value_in}
use Rattle.lp_command_line.specs.declared.fault.WordFault.{WordFault}
use Rattle.lp_command_line.specs.declared.fault.WordFault.TheVariants.{NoOption, Twice, NoValue}
use Rattle.lp_command_line.specs.WordFaults.{Fault, told, lone_fault, behind_option, option_fault}
use Rattle.lp_command_line.proofs.OptionLemmas.{any-bytes, first-lone, first-more, no-more, lone-none}

-- the first of two faults that there is, told with the bytes of its words, is the first of the two as they are told
told-or : (a b : Option (WordFault (Bor (List ℕ)))) → told (option_or a b) ≡ option_or (told a) (told b)
told-or None b = refl
told-or (Some fault) b = refl

-- where two faults are told as the definition's, the first of the two that there is is told so too
told-either : (a b : Option (WordFault (Bor (List ℕ)))) (x y : Option Fault) → told a ≡ x → told b ≡ y →
    told (option_or a b) ≡ option_or x y
told-either a b x y is_x is_y = told-or a b ∙ ap (λ t. option_or t (told b)) is_x ∙ ap (option_or x) is_y

pub told-by : (r a b : Option (WordFault (Bor (List ℕ)))) (x y : Option Fault) → r ≡ option_or a b → told a ≡ x →
    told b ≡ y → told r ≡ option_or x y
told-by r a b x y is is_x is_y = ap told is ∙ told-either a b x y is_x is_y

-- one word is left
pub one-left : {X : Type 0} (names : List (Bor (List ℕ))) (switches : OptionNames) (f : X → List ℕ) (rest : List X)
    (x : X) (word : List ℕ) (known test : Bool) → 1 ≤ length rest → first_in switches (map f rest) ≡ None →
    x ≡ get_or rest 0 x → word ≡ f x →
    known ≡ list_any (λ name. same word name.now) names → known ≡ test →
    Some (cond test (NoValue word) (NoOption word)) ≡ option_fault (bytes_of names) switches (map f rest)
one-left names switches f [] x word known test enough few is_x is_word is_known is = absurd (omega (arith, enough))
one-left names switches f (u ∷ []) x word known test enough few is_x is_word is_known is =
    ap (λ t. Some (cond t (NoValue word) (NoOption word))) (sym is ∙ is_known ∙ any-bytes word names)
    ∙ ap (λ w. Some (lone_fault (bytes_of names) w)) (is_word ∙ ap f is_x)
    ∙ sym (ap (λ t.
    cond t (behind_option (bytes_of names) (f u) None None) (Some (lone_fault (bytes_of names) (f u))))
    (lone-none switches (f u) few))
one-left names switches f (u ∷ v ∷ rest) x word known test enough few is_x is_word is_known is =
    no-more switches (f u) (f v) (map f rest) few

-- ---- one option of several words

module _ (names : List (Bor (List ℕ))) (switches : OptionNames) (all rest : List (List ℕ))
    (invariant : option_fault (bytes_of names) switches rest ≡ option_fault (bytes_of names) switches all)
    (option value : List ℕ) (more : List (List ℕ))
    (cut : first_in switches rest ≡ Some (record { option = option; value = value; behind = more })) (known : Bool)
    (is_known : known ≡ list_any (λ name. same option name.now) names) where
  -- the fault of words by their first option: its own, or else that of the words behind it
  abbrev fault_by : Cut → Option Fault
  fault_by c =
      behind_option (bytes_of names) c.option (value_in switches c.option c.behind)
      (option_fault (bytes_of names) switches c.behind)

  -- the fault of words that have a first option is the one by that option
  fault-cut : (words : List (List ℕ)) (c : Cut) → first_in switches words ≡ Some c →
      option_fault (bytes_of names) switches words ≡ fault_by c
  unfolding first_in
  fault-cut [] c e = absurd (none-some c e)
  fault-cut (option ∷ []) c e =
      first-lone switches fault_by option c e (Some (lone_fault (bytes_of names) option))
  fault-cut (option ∷ value ∷ words) c e = first-more switches fault_by option value words c e

  -- the fault by two tests: whether the first option has one of the names, and whether it is given again behind
  abbrev decided : Bool → Bool → Option Fault
  decided t given =
      cond t (cond given (Some (Twice option)) (option_fault (bytes_of names) switches more)) (Some (NoOption option))

  -- the fault of all words is decided by whether the first option is known, and whether it is given again behind
  first : option_fault (bytes_of names) switches all ≡ decided known (is_some (value_in switches option more))
  first =
      sym invariant
      ∙ fault-cut rest (record { option = option; value = value; behind = more }) cut
      ∙ ap (λ t. decided t (is_some (value_in switches option more))) (sym (any-bytes option names) ∙ sym is_known)

  -- where the first option left has none of the names, the fault of all words is that it is no option
  pub unknown-fault : known ≡ false → Some (NoOption option) ≡ option_fault (bytes_of names) switches all
  unknown-fault u = sym (first ∙ ap (λ t. decided t (is_some (value_in switches option more))) u)

  module _ (k : known ≡ true) (found : Option (List ℕ)) (is_found : found ≡ value_in switches option more) where
    -- where the first option has one of the names, the fault of all words is decided by whether it is given again
    -- behind
    second : option_fault (bytes_of names) switches all ≡ decided true (is_some found)
    second =
        first
        ∙ ap (λ t. decided t (is_some (value_in switches option more))) k
        ∙ ap (λ (o : Option (List ℕ)). decided true (is_some o)) (sym is_found)

    -- where the first option left is given again behind, the fault of all words is that it is given twice
    pub twice-fault : is_some found ≡ true → Some (Twice option) ≡ option_fault (bytes_of names) switches all
    twice-fault g = sym (second ∙ ap (decided true) g)

    -- where the first option left is known and not given again, the fault of all words is that of the words behind it
    pub more-fault : is_some found ≡ false →
        option_fault (bytes_of names) switches more ≡ option_fault (bytes_of names) switches all
    more-fault g = sym (second ∙ ap (decided true) g)
