-- The options of a command line, read one by one by the code and in pairs by the definition.
--
-- `first-word`: the texts of at least one word are the first one's text and those of the words behind it.
-- `value-look_up`: where the words pair up as options, the value read by a name is the one that the pairs have.
-- `pairs_are`: the test that there are pairs and all of their options have these names, none given twice.
-- `options-some`: where the test of the words one by one passes, they are options, which are their pairs.
-- `options-none`: where the test of the words one by one fails, they are no options.
-- `are-short`: where the words have no first option, they pass the test exactly if there are none.
-- `any-bytes`: a word is one of the names as the code holds them exactly if it is one of their texts.
-- `some-copied`: copying the value behind an optional reference keeps whether there is a value.
use Rattle.std.proofs.Common.{◌≡◌, ℕ, ◌&&◌, ◌||◌, Bool, true, false, not, cond, ◌<◌, ◌==◌, arith}
use Rattle.std.proofs.Common.{List, [], ◌∷◌, length, map, take, drop, get_or, ◌≤◌, ◌-◌, Option, Some, None, refl, sym, ap, ◌∙◌}
use Rattle.std.specs.Prelude.{option_copied, is_some, option_map, option_and_then}
use Rattle.std.specs.List.{list_all, list_any}
use Rattle.std.proofs.lemmas.Option.{none-some}
use denote.Ref.{Bor}
use Rattle.spec_text.specs.Words.{same}
use Rattle.spec_mps.specs.Shapes.{look_up}
use Rattle.spec_program.specs.CommandLine.{Options, OptionNames, in_pairs, is_one_of, are_distinct, are_options_of}
use Rattle.spec_program.specs.CommandLine.{options_in}
use Rattle.std.proofs.Math.Seq.{take-length}
use Rattle.lp_command_line.specs.Words.{Cut, first_in, value_in, is_new_option, are_in, bytes_of}

-- ---- the first word and the first option

-- the first word's text, and the words behind it
pub first-word : {X : Type 0} (f : X → List ℕ) (words : List X) (x : X) (a : List ℕ) → 1 ≤ length words →
    x ≡ get_or words 0 x → a ≡ f x → map f words ≡ a ∷ map f (take (length words - 1) (drop 1 words))
first-word f [] x a enough is_x is_a = absurd (omega (arith, enough))
first-word f (u ∷ words) x a enough is_x is_a =
    let behind : length words ≡ length (u ∷ words) - 1 = omega arith in
    ap (λ t. t ∷ map f words) (ap f (sym is_x) ∙ sym is_a)
    ∙ ap (λ ws. a ∷ map f ws) (sym (take-length words))
    ∙ ap (λ n. a ∷ map f (take n words)) behind

module _ (switches : OptionNames) where
  -- no words have no first option
  pub cut-none : {X : Type 0} (f : X → List ℕ) (words : List X) → length words < 1 →
      first_in switches (map f words) ≡ None
  unfolding first_in
  cut-none f [] h = refl
  cut-none f (x ∷ words) h = absurd (omega (arith, h))

  -- words that begin with a switch have it as first option, with the empty value and the words behind it
  pub cut-switch : (words : List (List ℕ)) (option : List ℕ) (behind : List (List ℕ)) → words ≡ option ∷ behind →
      is_one_of option switches ≡ true →
      first_in switches words ≡ Some (record { option = option; value = []; behind = behind })
  unfolding first_in
  cut-switch words option behind cut h = ap (first_in switches) cut ∙ by behind
    where
      by : (behind : List (List ℕ)) →
          first_in switches (option ∷ behind) ≡ Some (record { option = option; value = []; behind = behind })
      by [] = ap (λ t. cond t (Some (record { option = option; value = []; behind = [] })) None) h
      by (value ∷ words) =
          ap (λ t.
          cond t (Some (record { option = option; value = []; behind = value ∷ words }))
          (Some (record { option = option; value = value; behind = words }))) h

  -- a word alone that is no switch is no first option
  pub cut-short : {X : Type 0} (f : X → List ℕ) (words : List (List ℕ)) (option : List ℕ) (behind : List X) →
      words ≡ option ∷ map f behind → length behind < 1 → is_one_of option switches ≡ false →
      first_in switches words ≡ None
  unfolding first_in
  cut-short f words option [] cut l h =
      ap (first_in switches) cut
      ∙ ap (λ t. cond t (Some (record { option = option; value = []; behind = [] })) None) h
  cut-short f words option (x ∷ behind) cut l h = absurd (omega (arith, l))

  -- words that begin with no switch have their first word as first option, with the second as its value and the words
  -- behind both
  pub cut-value : (words : List (List ℕ)) (option value : List ℕ) (behind : List (List ℕ)) →
      words ≡ option ∷ value ∷ behind → is_one_of option switches ≡ false →
      first_in switches words ≡ Some (record { option = option; value = value; behind = behind })
  unfolding first_in
  cut-value words option value behind cut h =
      ap (first_in switches) cut
      ∙ ap (λ t.
      cond t (Some (record { option = option; value = []; behind = value ∷ behind }))
      (Some (record { option = option; value = value; behind = behind }))) h

  -- what is said by the first option, if there is one
  module _ {A : Type 0} (said : Cut → A) where
    -- what is said of a lone word by whether it is a switch is what is said of the first option that it is
    pub first-lone : (option : List ℕ) (c : Cut) → first_in switches (option ∷ []) ≡ Some c → (none : A) →
        cond (is_one_of option switches) (said (record { option = option; value = []; behind = [] })) none ≡ said c
    unfolding first_in
    first-lone option c e none = by (is_one_of option switches) e
      where
        by : (s : Bool) → cond s (Some (record { option = option; value = []; behind = [] })) None ≡ Some c →
            cond s (said (record { option = option; value = []; behind = [] })) none ≡ said c
        by true h = let is : ◌≡◌ {A = Cut} (record { option = option; value = []; behind = [] }) c = cc in ap said is
        by false h = absurd (none-some c h)

    -- what is said of at least two words by whether the first is a switch is what is said of their first option
    pub first-more : (option value : List ℕ) (words : List (List ℕ)) (c : Cut) →
        first_in switches (option ∷ value ∷ words) ≡ Some c →
        cond (is_one_of option switches) (said (record { option = option; value = []; behind = value ∷ words }))
        (said (record { option = option; value = value; behind = words })) ≡ said c
    unfolding first_in
    first-more option value words c e = by (is_one_of option switches) e
      where
        by : (s : Bool) →
            cond s (Some (record { option = option; value = []; behind = value ∷ words }))
            (Some (record { option = option; value = value; behind = words })) ≡ Some c →
            cond s (said (record { option = option; value = []; behind = value ∷ words }))
            (said (record { option = option; value = value; behind = words })) ≡ said c
        by true h =
            let is : ◌≡◌ {A = Cut} (record { option = option; value = []; behind = value ∷ words }) c = cc in ap said is
        by false h =
            let is : ◌≡◌ {A = Cut} (record { option = option; value = value; behind = words }) c = cc in ap said is

  -- at least two words always have a first option
  pub no-more : {B : Type 0} (option value : List ℕ) (words : List (List ℕ)) →
      first_in switches (option ∷ value ∷ words) ≡ None → B
  unfolding first_in
  no-more {B} option value words e = by (is_one_of option switches) e
    where
      by : (s : Bool) →
          cond {A = Option Cut} s (Some (record { option = option; value = []; behind = value ∷ words }))
          (Some (record { option = option; value = value; behind = words })) ≡ None → B
      by true h = absurd (none-some _ (sym h))
      by false h = absurd (none-some _ (sym h))

  -- a lone word that is no first option is no switch
  pub lone-none : (option : List ℕ) → first_in switches (option ∷ []) ≡ None → is_one_of option switches ≡ false
  unfolding first_in
  lone-none option e = by (is_one_of option switches) e
    where
      by : (s : Bool) → cond {A = Option Cut} s (Some (record { option = option; value = []; behind = [] })) None ≡ None → s ≡ false
      by true h = absurd (none-some _ (sym h))
      by false h = refl

-- ---- the value of an option

module _ (switches : OptionNames) (name : List ℕ) where
  -- the value of the named option by the first option: that one's value if it has the name, else that among the words
  -- behind
  abbrev pub value_by : Cut → Option (List ℕ)
  value_by c = cond (same name c.option) (Some c.value) (value_in switches name c.behind)

  -- the value of the named option among words that have a first option is the one by that option
  pub value-cut : (words : List (List ℕ)) (c : Cut) → first_in switches words ≡ Some c →
      value_in switches name words ≡ value_by c
  unfolding first_in
  value-cut [] c e = absurd (none-some c e)
  value-cut (option ∷ []) c e = first-lone switches value_by option c e None
  value-cut (option ∷ value ∷ words) c e = first-more switches value_by option value words c e

  -- words without a first option do not have the named option
  pub value-none : (words : List (List ℕ)) → first_in switches words ≡ None → value_in switches name words ≡ None
  value-none [] e = refl
  value-none (option ∷ []) e =
      ap (λ t. cond t (cond (same name option) (Some []) None) None) (lone-none switches option e)
  value-none (option ∷ value ∷ words) e = no-more switches option value words e

  -- the value of the named option is that of the first option if this has the name, else that among the words behind it
  pub value-first : (words : List (List ℕ)) (option value : List ℕ) (more : List (List ℕ)) (test : Bool) →
      first_in switches words ≡ Some (record { option = option; value = value; behind = more }) →
      same name option ≡ test →
      value_in switches name words ≡ cond test (Some value) (value_in switches name more)
  value-first words option value more test cut is =
      value-cut words (record { option = option; value = value; behind = more }) cut
      ∙ ap (λ t. cond t (Some value) (value_in switches name more)) is

-- ---- the words two by two

-- the value of an option among the pairs, one more of them
module _ (switches : OptionNames) (name option value : List ℕ) (words : List (List ℕ))
    (rest : (options : Options) → in_pairs switches words ≡ Some options →
    value_in switches name words ≡ look_up name options) where
  -- where the value read among words is that of their pairs, it is so with one pair more before them
  pushed : (options : Options) →
      option_map (λ pairs. (option, value) ∷ pairs) (in_pairs switches words) ≡ Some options →
      cond (same name option) (Some value) (value_in switches name words) ≡ look_up name options
  pushed options e = by (in_pairs switches words) refl e
    where
      by : (p : Option Options) → in_pairs switches words ≡ p →
          option_map (λ pairs. (option, value) ∷ pairs) p ≡ Some options →
          cond (same name option) (Some value) (value_in switches name words) ≡ look_up name options
      by None q h = absurd (none-some options h)
      by (Some pairs) q h =
          let is : ◌≡◌ {A = Options} ((option, value) ∷ pairs) options = cc in
          ap (λ o. cond (same name option) (Some value) o) (rest pairs q) ∙ ap (look_up name) is

-- the value of an option among the pairs
pub value-look_up : (switches : OptionNames) (name : List ℕ) (words : List (List ℕ)) (options : Options) →
    in_pairs switches words ≡ Some options → value_in switches name words ≡ look_up name options
value-look_up switches name [] options e = let same' : ◌≡◌ {A = Options} [] options = cc in ap (look_up name) same'
value-look_up switches name (option ∷ []) options e = by (is_one_of option switches) e
  where
    by : (s : Bool) → cond s (Some ((option, []) ∷ [])) None ≡ Some options →
        cond s (cond (same name option) (Some []) None) None ≡ look_up name options
    by true h = let is : ◌≡◌ {A = Options} ((option, []) ∷ []) options = cc in ap (look_up name) is
    by false h = absurd (none-some options h)
value-look_up switches name (option ∷ value ∷ words) options e =
    by (is_one_of option switches) e
    (pushed switches name option [] (value ∷ words) (value-look_up switches name (value ∷ words)))
    (pushed switches name option value words (value-look_up switches name words))
  where
    by : (s : Bool) →
        cond s (option_map (λ pairs. (option, []) ∷ pairs) (in_pairs switches (value ∷ words)))
        (option_map (λ pairs. (option, value) ∷ pairs) (in_pairs switches words)) ≡ Some options →
        ((options : Options) →
        option_map (λ pairs. (option, []) ∷ pairs) (in_pairs switches (value ∷ words)) ≡ Some options →
        cond (same name option) (Some []) (value_in switches name (value ∷ words)) ≡ look_up name options) →
        ((options : Options) →
        option_map (λ pairs. (option, value) ∷ pairs) (in_pairs switches words) ≡ Some options →
        cond (same name option) (Some value) (value_in switches name words) ≡ look_up name options) →
        cond s (cond (same name option) (Some []) (value_in switches name (value ∷ words)))
        (cond (same name option) (Some value) (value_in switches name words))
        ≡ look_up name options
    by true h alone paired = alone options h
    by false h alone paired = paired options h

-- a name has a value among options exactly if it is one of their names
given-one_of : (name : List ℕ) (options : Options) →
    is_some (look_up name options) ≡ is_one_of name (map (λ o. o.0) options)
given-one_of name [] = refl
given-one_of name (option ∷ options) = by (same name option.0) (given-one_of name options)
  where
    by : (t : Bool) → is_some (look_up name options) ≡ is_one_of name (map (λ o. o.0) options) →
        is_some (cond t (Some option.1) (look_up name options)) ≡ t || is_one_of name (map (λ o. o.0) options)
    by true r = refl
    by false r = r

-- the pairs that are options
pub pairs_are : OptionNames → Option Options → Bool
pairs_are names None = false
pairs_are names (Some options) = are_options_of names options

-- a and not b, with c and d, is a and c, with not b and d
swap_and : (a b c d : Bool) → cond (a && not b) (c && d) false ≡ (a && c) && (not b && d)
swap_and true true c d = by c
  where
    by : (c : Bool) → false ≡ c && false
    by true = refl
    by false = refl
swap_and true false c d = refl
swap_and false b c d = refl

-- false in either case of a test is false
and_false : (t : Bool) → cond t false false ≡ false
and_false true = refl
and_false false = refl

module _ (names switches : OptionNames) (option value : List ℕ) (words : List (List ℕ)) where
  -- whether the option has one of the names and is not given again behind
  abbrev is_new : Bool
  is_new = is_new_option names option (value_in switches option words)

  -- where the test of words one by one is that of their pairs, it is so with one option more before them
  more-pairs : are_in names switches words ≡ pairs_are names (in_pairs switches words) →
      cond is_new (are_in names switches words) false
      ≡ pairs_are names (option_map (λ pairs. (option, value) ∷ pairs) (in_pairs switches words))
  unfolding pairs_are
  more-pairs rest = by (in_pairs switches words) refl rest
    where
      by : (p : Option Options) → in_pairs switches words ≡ p → are_in names switches words ≡ pairs_are names p →
          cond is_new (are_in names switches words) false
          ≡ pairs_are names (option_map (λ pairs. (option, value) ∷ pairs) p)
      by None q r = ap (λ t. cond is_new t false) r ∙ and_false is_new
      by (Some pairs) q r =
          ap (λ t. cond is_new t false) r
          ∙ ap (λ (v : Option (List ℕ)). cond (is_new_option names option v) (are_options_of names pairs) false)
          (value-look_up switches option words pairs q)
          ∙ ap (λ (b : Bool). cond (is_one_of option names && not b) (are_options_of names pairs) false)
          (given-one_of option pairs)
          ∙ swap_and (is_one_of option names) (is_one_of option (map (λ o. o.0) pairs))
          (list_all (λ o. is_one_of o.0 names) pairs) (are_distinct (map (λ o. o.0) pairs))

-- words are options with these names exactly where their pairs are
are-pairs : (names switches : OptionNames) (words : List (List ℕ)) →
    are_in names switches words ≡ pairs_are names (in_pairs switches words)
unfolding pairs_are
are-pairs names switches [] = refl
are-pairs names switches (option ∷ []) = by (is_one_of option switches)
  where
    by : (s : Bool) →
        cond s (cond (is_new_option names option None) true false) false
        ≡ pairs_are names (cond s (Some ((option, []) ∷ [])) None)
    by true = swap_and (is_one_of option names) false true true
    by false = refl
are-pairs names switches (option ∷ value ∷ words) =
    by (is_one_of option switches)
    (more-pairs names switches option [] (value ∷ words) (are-pairs names switches (value ∷ words)))
    (more-pairs names switches option value words (are-pairs names switches words))
  where
    by : (s : Bool)
        → cond (is_new names switches option [] (value ∷ words)) (are_in names switches (value ∷ words)) false
        ≡ pairs_are names (option_map (λ pairs. (option, []) ∷ pairs) (in_pairs switches (value ∷ words)))
        → cond (is_new names switches option value words) (are_in names switches words) false
        ≡ pairs_are names (option_map (λ pairs. (option, value) ∷ pairs) (in_pairs switches words))
        → cond s (cond (is_new names switches option [] (value ∷ words)) (are_in names switches (value ∷ words)) false)
        (cond (is_new names switches option value words) (are_in names switches words) false)
        ≡ pairs_are names
        (cond s (option_map (λ pairs. (option, []) ∷ pairs) (in_pairs switches (value ∷ words)))
        (option_map (λ pairs. (option, value) ∷ pairs) (in_pairs switches words)))
    by true alone paired = alone
    by false alone paired = paired

-- the options, where the words are some
pub options-some : (names switches : OptionNames) (words : List (List ℕ)) → are_in names switches words ≡ true →
    (options : Options) × (options_in names switches words ≡ Some options) × (in_pairs switches words ≡ Some options)
unfolding options_in pairs_are
options-some names switches words e = by (in_pairs switches words) (sym (are-pairs names switches words) ∙ e)
  where
    by : (p : Option Options) → pairs_are names p ≡ true →
        (options : Options) ×
        (option_and_then (λ o. cond (are_options_of names o) (Some o) None) p ≡ Some options) ×
        (p ≡ Some options)
    by None h = absurd (let z : false ≡ true = h in cc)
    by (Some options) h = (options, ap (λ t. cond t (Some options) None) h, refl)

-- nothing, where they are none
pub options-none : (names switches : OptionNames) (words : List (List ℕ)) → are_in names switches words ≡ false →
    options_in names switches words ≡ None
unfolding options_in pairs_are
options-none names switches words e = by (in_pairs switches words) (sym (are-pairs names switches words) ∙ e)
  where
    by : (p : Option Options) → pairs_are names p ≡ false →
        option_and_then (λ o. cond (are_options_of names o) (Some o) None) p ≡ None
    by None h = refl
    by (Some options) h = ap (λ t. cond t (Some options) None) h

-- ---- the words that are left at the end of a loop

pub are-short : {X : Type 0} (names switches : OptionNames) (f : X → List ℕ) (rest : List X) →
    first_in switches (map f rest) ≡ None → (length rest == 0) ≡ are_in names switches (map f rest)
are-short names switches f [] h = refl
are-short names switches f (x ∷ []) h =
    sym (ap (λ t. cond t (cond (is_new_option names (f x) None) true false) false) (lone-none switches (f x) h))
are-short names switches f (x ∷ y ∷ more) h = no-more switches (f x) (f y) (map f more) h

pub any-bytes : (word : List ℕ) (names : List (Bor (List ℕ))) →
    list_any (λ name. same word name.now) names ≡ is_one_of word (bytes_of names)
any-bytes word [] = refl
any-bytes word (name ∷ names) = ap (λ t. same word name.now || t) (any-bytes word names)

pub some-copied : {X : Type 0} (o : Option (Bor X)) → is_some (option_copied o) ≡ is_some o
some-copied None = refl
some-copied (Some x) = refl

-- ---- one option of several words

module _ (names : List (Bor (List ℕ))) (switches : OptionNames) (all rest : List (List ℕ))
    (invariant : are_in (bytes_of names) switches rest ≡ are_in (bytes_of names) switches all)
    (option value : List ℕ) (more : List (List ℕ))
    (cut : first_in switches rest ≡ Some (record { option = option; value = value; behind = more })) (known : Bool)
    (is_known : known ≡ list_any (λ name. same option name.now) names) where
  -- whether the first option is one of the names' texts is whether it is known
  one : is_one_of option (bytes_of names) ≡ known
  one = sym (any-bytes option names) ∙ sym is_known

  -- whether words are options by two tests: whether the first option is known, and whether it is given again behind
  abbrev decided : Bool → Bool → Bool
  decided t given = cond (t && not given) (are_in (bytes_of names) switches more) false

  -- whether words are options by their first option: it is a new one, and the words behind it are options
  abbrev are_by : Cut → Bool
  are_by c =
      cond (is_new_option (bytes_of names) c.option (value_in switches c.option c.behind))
      (are_in (bytes_of names) switches c.behind) false

  -- whether words that have a first option are options is what that option and the words behind it say
  are-cut : (words : List (List ℕ)) (c : Cut) → first_in switches words ≡ Some c →
      are_in (bytes_of names) switches words ≡ are_by c
  unfolding first_in
  are-cut [] c e = absurd (none-some c e)
  are-cut (option ∷ []) c e = first-lone switches are_by option c e false
  are-cut (option ∷ value ∷ words) c e = first-more switches are_by option value words c e

  -- whether all words are options is decided by whether the first option is known, and whether it is given again behind
  first : are_in (bytes_of names) switches all ≡ decided known (is_some (value_in switches option more))
  first =
      sym invariant
      ∙ are-cut rest (record { option = option; value = value; behind = more }) cut
      ∙ ap (λ t. decided t (is_some (value_in switches option more))) one

  -- where the first option left has none of the names, all words are no options
  pub are-unknown : known ≡ false → false ≡ are_in (bytes_of names) switches all
  are-unknown u = sym (first ∙ ap (λ t. decided t (is_some (value_in switches option more))) u)

  module _ (k : known ≡ true) (found : Option (List ℕ)) (is_found : found ≡ value_in switches option more) where
    -- where the first option is known, whether all words are options is decided by whether it is given again behind
    second : are_in (bytes_of names) switches all ≡ decided true (is_some found)
    second =
        first
        ∙ ap (λ t. decided t (is_some (value_in switches option more))) k
        ∙ ap (λ (o : Option (List ℕ)). decided true (is_some o)) (sym is_found)

    -- where the first option left is given again behind, all words are no options
    pub are-again : is_some found ≡ true → false ≡ are_in (bytes_of names) switches all
    are-again g = sym (second ∙ ap (decided true) g)

    -- where the first option left is known and not given again, all words are options exactly if those behind it are
    pub are-more : is_some found ≡ false →
        are_in (bytes_of names) switches more ≡ are_in (bytes_of names) switches all
    are-more g = sym (second ∙ ap (decided true) g)
