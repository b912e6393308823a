-- What the words behind a command's word ask, and when they ask nothing.
--
-- `few-generate`: fewer than three words behind `gen` are no command.
-- `asks-generate`: three words behind `gen` are the command with the seed and the counts that they give, if they give
--   them.
-- `few-serve`: the word `serve` without words behind it is no command.
-- `few-number`: fewer than two words are no range of one number.
-- `first-two`: the texts of at least two words are those of the first two and of the words behind them.
-- `few-range`: the word `range` without words behind it is no command.
-- `look_up-map`: looking a word up in a table whose values are changed by f finds f of the value that is found in the
--   table.
-- `asks-command`: words are the command that the row of the first word, if there is one, reads of the words behind it.
-- `no-words`: no words are no command line.
use Rattle.std.proofs.Common.{◌≡◌, ℕ, Bool, true, false, cond, ◌==◌, List, [], ◌∷◌, length, map, take, drop, get_or}
use Rattle.std.proofs.Common.{Option, Some, None, ◌<◌, ◌≤◌, ◌-◌, le-leb, eqb-true, arith, refl, sym, ap, ◌∙◌}
use Rattle.std.specs.Prelude.{codes, option_map, option_and_then}
use Rattle.spec_mps.specs.Shapes.{look_up}
use Rattle.spec_mps.specs.declared.style.Style.{Style}
use Rattle.spec_mps.specs.declared.style.Style.TheVariants.{Free}
use Rattle.spec_program.specs.declared.command_line.CommandLine.TheVariants.{Run, Read, Generate, Serve}
use Rattle.spec_program.specs.declared.command_line.Moved.{Moved}
use Rattle.spec_program.specs.Spelled.{spelled_text}
use Rattle.spec_program.specs.CommandLine.{ExactLine, ExactTextCommand, moved_of, is_all, range_row}
use Rattle.spec_program.specs.CommandLine.{Given, Row, Options, in_pairs, options_in, given_in, asked_by}
use Rattle.spec_program.specs.CommandLine.{given_or, workers_of, workers_given, links_of, links_given}
use Rattle.spec_program.specs.CommandLine.{places_of, places_given, form_of, form_given, applied}
use Rattle.spec_program.specs.CommandLine.{OptionNames, by_width, wide_row, run_row, text_row, generate_row, serve_row, is_plain}
use Rattle.spec_program.specs.CommandLine.{seed_of, row_count_of, column_count_of}
use Rattle.std.proofs.Math.Seq.{take-length}
use Rattle.spec_program.specs.CommandLine.{command_line_of}
use Rattle.spec_text.specs.Words.{same}
use Rattle.spec_program.specs.declared.command_line.TextCommand.TheVariants as text
use Rattle.lp_command_line.specs.declared.line.Command.{Command}
use Rattle.lp_command_line.specs.declared.line.Command.TheVariants as command
use Rattle.lp_command_line.specs.Words.{value_in, workers_in, links_in, places_in, form_in, are_in, range_in, serve_in, number_row}
use Rattle.lp_command_line.proofs.OptionLemmas.{value-look_up, options-some, options-none}

-- ---- options after plain words

module _ (row : Row) (words : List (List ℕ)) (enough : row.plain words ≤ length words) where
  -- the plain words that the row of a command takes of these words, with these options
  abbrev given : Options → Given
  given options = record { plain = take (row.plain words) words; options = options }

  -- what the row asks with its plain words and these options; none where there are no options
  abbrev asked : Option Options → Option ExactLine
  asked options = option_and_then row.asks (option_map given options)

  -- what words ask by a row is what it asks with the options that the words behind its plain ones give
  asks : asked_by words row ≡ asked (options_in row.names row.switches (drop (row.plain words) words))
  unfolding given_in
  asks =
      ap (λ (t : Bool).
      option_and_then row.asks (cond t (option_map given (options_in row.names row.switches (drop (row.plain words) words))) None))
      (le-leb (row.plain words) (length words) enough)

  -- where the words behind the plain ones are no options of the row, the words ask nothing by it
  pub refused : are_in row.names row.switches (drop (row.plain words) words) ≡ false → asked_by words row ≡ None
  refused e = asks ∙ ap asked (options-none row.names row.switches (drop (row.plain words) words) e)

  -- where the words behind the plain ones are options of the row, the words ask what it asks with their pairs
  taken : are_in row.names row.switches (drop (row.plain words) words) ≡ true →
      (options : Options) ×
      (asked_by words row ≡ row.asks (given options)) ×
      (in_pairs row.switches (drop (row.plain words) words) ≡ Some options)
  taken e = let o = options-some row.names row.switches (drop (row.plain words) words) e in (o.0, asks ∙ ap asked o.1, o.2)

-- ---- what options give, as pairs and as words

module _ (words : List (List ℕ)) (options : Options) where
  -- the options give the form that the words of which they are pairs give
  form-pairs : (switches : OptionNames) → in_pairs switches words ≡ Some options →
      form_given options ≡ form_in switches words
  form-pairs switches pairs =
      ap (given_or Free form_of) (sym (value-look_up switches (codes "--form") words options pairs))

  module _ (pairs : in_pairs [] words ≡ Some options) where
    -- the options give the number of workers that the words of which they are pairs give
    workers-pairs : workers_given options ≡ workers_in words
    workers-pairs = ap (given_or 1 workers_of) (sym (value-look_up [] (codes "--workers") words options pairs))

    -- the options give the number of links that the words of which they are pairs give
    links-pairs : links_given options ≡ links_in words
    links-pairs = ap (given_or 1 links_of) (sym (value-look_up [] (codes "--each") words options pairs))

    -- the options give the number of places that the words of which they are pairs give
    places-pairs : places_given options ≡ places_in words
    places-pairs = ap (given_or 256 places_of) (sym (value-look_up [] (codes "--places") words options pairs))

-- ---- a script, or a text: no plain words

module _ (words : List (List ℕ)) where
  -- a command without plain words has enough of them
  at_once : 0 ≤ length words
  at_once = omega arith

  -- words behind `run` that are not its options ask nothing
  pub run-refused : are_in run_row.names run_row.switches words ≡ false → asked_by words run_row ≡ None
  run-refused = refused run_row words at_once

  -- words behind `run` that are its options ask for a run with the numbers of workers and places that they give, if
  -- these are right
  pub asks-run : (workers places : Option ℕ) → are_in run_row.names run_row.switches words ≡ true →
      workers_in words ≡ workers → places_in words ≡ places →
      asked_by words run_row ≡ applied (option_map Run workers) places
  asks-run workers places e are_workers are_places =
      let t = taken run_row words at_once e in
      t.1
      ∙ ap (λ w. applied (option_map Run w) (places_given t.0)) (workers-pairs words t.0 t.2 ∙ are_workers)
      ∙ ap (applied (option_map Run workers)) (places-pairs words t.0 t.2 ∙ are_places)

  module _ (command : ExactTextCommand) where
    -- words behind a command on a text that are not its options ask nothing
    pub text-refused : are_in (text_row command).names (text_row command).switches words ≡ false → asked_by words (text_row command) ≡ None
    text-refused = refused (text_row command) words at_once

    -- words behind a command on a text that are its options ask for it in the form that they give, if that is right
    pub asks-text : (style : Option Style) → are_in (text_row command).names (text_row command).switches words ≡ true →
        form_in [] words ≡ style → asked_by words (text_row command) ≡ option_map (Read command) style
    asks-text style e is_style =
        let t = taken (text_row command) words at_once e in
        t.1 ∙ ap (option_map (Read command)) (form-pairs words t.0 [] t.2 ∙ is_style)

-- ---- a text, with numbers of any width where that is asked for

module _ (words : List (List ℕ)) (narrow wide : ExactTextCommand) where
  -- the switches of a command on a text that may take `--wide`
  abbrev switches : OptionNames
  switches = (wide_row narrow wide).switches

  -- words behind a command that may take `--wide` that are not its options ask nothing
  pub wide-refused : are_in (wide_row narrow wide).names switches words ≡ false →
      asked_by words (wide_row narrow wide) ≡ None
  wide-refused = refused (wide_row narrow wide) words (at_once words)

  -- words behind a command that may take `--wide` that are its options ask for it in the form and the width that they
  -- give, if the form is right
  pub asks-wide : (style : Option Style) → are_in (wide_row narrow wide).names switches words ≡ true →
      form_in switches words ≡ style →
      asked_by words (wide_row narrow wide)
      ≡ option_map (Read (by_width narrow wide (value_in switches (codes "--wide") words))) style
  asks-wide style e is_style =
      let t = taken (wide_row narrow wide) words (at_once words) e in
      t.1
      ∙ ap (option_map (Read (by_width narrow wide (look_up (codes "--wide") t.0))))
      (form-pairs words t.0 switches t.2 ∙ is_style)
      ∙ ap (λ v. option_map (Read (by_width narrow wide v)) style)
      (sym (value-look_up switches (codes "--wide") words t.0 t.2))

-- ---- a model that is made: three plain words

pub few-generate : {X : Type 0} (f : X → List ℕ) (words : List X) → length words < 3 →
    asked_by (map f words) generate_row ≡ None
unfolding given_in
few-generate f [] few = refl
few-generate f (a ∷ []) few = refl
few-generate f (a ∷ b ∷ []) few = refl
few-generate f (a ∷ b ∷ c ∷ words) few = absurd (omega (arith, few))

-- words behind the three
module _ {X : Type 0} (f : X → List ℕ) (behind : List X) (a b c : List ℕ) (words : List (List ℕ))
    (cut : words ≡ a ∷ b ∷ c ∷ map f behind) where
  -- more than three words behind `gen` ask nothing
  pub many-generate : (length behind == 0) ≡ false → asked_by words generate_row ≡ None
  many-generate some =
      ap (λ (ws : List (List ℕ)). asked_by ws generate_row) cut
      ∙ refused generate_row (a ∷ b ∷ c ∷ map f behind) (omega arith) (by behind some)
    where
      by : (rest : List X) → (length rest == 0) ≡ false → are_in [] [] (map f rest) ≡ false
      by [] h = absurd (let z : true ≡ false = h in cc)
      by (x ∷ []) h = refl
      by (x ∷ y ∷ rest) h = refl

  -- words of which none stands behind the first three are these three
  pub three-words : (length behind == 0) ≡ true → words ≡ a ∷ b ∷ c ∷ []
  three-words none = cut ∙ ap (λ ws. a ∷ b ∷ c ∷ ws) (by behind none)
    where
      by : (rest : List X) → (length rest == 0) ≡ true → map f rest ≡ []
      by [] h = refl
      by (x ∷ rest) h = let none : length (x ∷ rest) ≡ 0 = eqb-true _ _ h in absurd (omega (arith, none))

-- by what is read of them
pub asks-generate : (words : List (List ℕ)) (a b c : List ℕ) (seed rows columns : Option ℕ) →
    words ≡ a ∷ b ∷ c ∷ [] → seed_of a ≡ seed → row_count_of b ≡ rows → column_count_of c ≡ columns →
    asked_by words generate_row ≡ applied (applied (option_map Generate seed) rows) columns
unfolding given_in options_in
asks-generate words a b c seed rows columns three is_seed are_rows are_columns =
    ap (λ (ws : List (List ℕ)). asked_by ws generate_row) three
    ∙ ap (λ s. applied (applied (option_map Generate s) (row_count_of b)) (column_count_of c)) is_seed
    ∙ ap (λ r. applied (applied (option_map Generate seed) r) (column_count_of c)) are_rows
    ∙ ap (applied (applied (option_map Generate seed) rows)) are_columns

-- ---- a server: an address, and options

pub few-serve : {X : Type 0} (f : X → List ℕ) (words : List X) → length words < 1 →
    asked_by (map f words) serve_row ≡ None
unfolding given_in
few-serve f [] few = refl
few-serve f (x ∷ words) few = absurd (omega (arith, few))

module _ (address : List ℕ) (words all : List (List ℕ)) (cut : all ≡ address ∷ words) where
  -- the address and the words behind it are at least one word
  one_more : 1 ≤ length (address ∷ words)
  one_more = omega arith

  -- the words ask by the row of `serve` what their first word and those behind it ask
  same_line : asked_by all serve_row ≡ asked_by (address ∷ words) serve_row
  same_line = ap (λ (ws : List (List ℕ)). asked_by ws serve_row) cut

  -- the command `serve` with these options where the test says that the address is right; else none
  abbrev by_address : Options → Bool → Option ExactLine
  by_address options test =
      cond test
      (applied (applied (option_map Serve (workers_given options)) (links_given options)) (places_given options))
      None

  -- words behind `serve` whose first one may be no address ask nothing
  pub no-address : is_plain address ≡ false → asked_by all serve_row ≡ None
  no-address e = same_line ∙ asks serve_row (address ∷ words) one_more ∙ each (options_in serve_row.names serve_row.switches words)
    where
      each : (options : Option Options) → asked serve_row (address ∷ words) one_more options ≡ None
      each None = refl
      each (Some options) = ap (by_address options) e

  -- an address behind `serve`, with words behind it that are not its options, asks nothing
  pub serve-refused : are_in serve_row.names serve_row.switches words ≡ false → asked_by all serve_row ≡ None
  serve-refused e = same_line ∙ refused serve_row (address ∷ words) one_more e

  -- an address behind `serve`, with words behind it that are its options, asks for a server with the numbers that they
  -- give, if these are right
  pub asks-serve : is_plain address ≡ true → are_in serve_row.names serve_row.switches words ≡ true →
      asked_by all serve_row ≡ serve_in words
  asks-serve holds e =
      let t = taken serve_row (address ∷ words) one_more e in
      same_line
      ∙ t.1
      ∙ ap (by_address t.0) holds
      ∙ rw (workers-pairs words t.0 t.2, links-pairs words t.0 t.2, places-pairs words t.0 t.2) refl

-- ---- a range of one number: which, a name, and options

pub few-number : {X : Type 0} (f : X → List ℕ) (words : List X) → length words < 2 →
    asked_by (map f words) number_row ≡ None
unfolding given_in
few-number f [] few = refl
few-number f (a ∷ []) few = refl
few-number f (a ∷ b ∷ words) few = absurd (omega (arith, few))

-- the first two texts, and the words behind them
pub first-two : {X : Type 0} (f : X → List ℕ) (words : List X) (x y : X) (a b : List ℕ) → 2 ≤ length words →
    x ≡ get_or words 0 x → y ≡ get_or words 1 y → a ≡ f x → b ≡ f y →
    map f words ≡ a ∷ b ∷ map f (take (length words - 2) (drop 2 words))
first-two f [] x y a b enough is_x is_y is_a is_b = absurd (omega (arith, enough))
first-two f (u ∷ []) x y a b enough is_x is_y is_a is_b = absurd (omega (arith, enough))
first-two f (u ∷ v ∷ words) x y a b enough is_x is_y is_a is_b =
    let behind : length words ≡ length (u ∷ v ∷ words) - 2 = omega arith in
    ap (λ t. t ∷ f v ∷ map f words) (ap f (sym is_x) ∙ sym is_a)
    ∙ ap (λ t. a ∷ t ∷ map f words) (ap f (sym is_y) ∙ sym is_b)
    ∙ ap (λ ws. a ∷ b ∷ map f ws) (sym (take-length words))
    ∙ ap (λ n. a ∷ b ∷ map f (take n words)) behind

module _ (what name : List ℕ) (words all : List (List ℕ)) (cut : all ≡ what ∷ name ∷ words) where
  -- the kind, the name and the words behind them are at least two words
  two_more : 2 ≤ length (what ∷ name ∷ words)
  two_more = omega arith

  -- the words ask by the row of one number's range what their first two words and those behind them ask
  same_number : asked_by all number_row ≡ asked_by (what ∷ name ∷ words) number_row
  same_number = ap (λ (ws : List (List ℕ)). asked_by ws number_row) cut

  -- the range of one number in this form, with the name where the test says that it is one; else none
  abbrev by_name : Option Style → Option Moved → Bool → Option ExactLine
  by_name style moved test =
      applied (option_map Read (applied (option_map text.Range moved) (cond test (Some name) None))) style

  -- without a name no range of one number is asked
  no_place : (style : Option Style) (moved : Option Moved) → by_name style moved false ≡ None
  no_place style None = refl
  no_place style (Some w) = refl

  -- with the name, the range of one number is asked where its kind is given, and the form
  in_place : (style : Option Style) (moved : Option Moved) →
      by_name style moved true ≡ option_and_then (λ w. option_map (Read (text.Range w name)) style) moved
  in_place style None = refl
  in_place style (Some w) = refl

  -- words behind `range` whose second one may be no name ask for the range of no number
  pub no-name : is_plain name ≡ false → asked_by all number_row ≡ None
  no-name e = same_number ∙ asks number_row (what ∷ name ∷ words) two_more ∙ each (options_in number_row.names number_row.switches words)
    where
      each : (options : Option Options) → asked number_row (what ∷ name ∷ words) two_more options ≡ None
      each None = refl
      each (Some options) =
          ap (by_name (form_given options) (moved_of what)) e ∙ no_place (form_given options) (moved_of what)

  -- a kind and a name behind `range`, with words behind them that are not its options, ask for the range of no number
  pub number-refused : are_in number_row.names number_row.switches words ≡ false → asked_by all number_row ≡ None
  number-refused e = same_number ∙ refused number_row (what ∷ name ∷ words) two_more e

  -- a kind and a name behind `range`, with words behind them that are its options, ask for the range of that number, if
  -- the kind and the form are right
  pub asks-number : (moved : Option Moved) → is_plain name ≡ true → are_in number_row.names number_row.switches words ≡ true →
      moved_of what ≡ moved → asked_by all number_row ≡ option_and_then (λ w. range_in w name words) moved
  asks-number moved holds e is_moved =
      let t = taken number_row (what ∷ name ∷ words) two_more e in
      same_number
      ∙ t.1
      ∙ ap (by_name (form_given t.0) (moved_of what)) holds
      ∙ ap (λ style. by_name style (moved_of what) true) (form-pairs words t.0 [] t.2)
      ∙ ap (λ m. by_name (form_in [] words) m true) is_moved
      ∙ in_place (form_in [] words) moved

-- ---- a range of all numbers, or of one

pub few-range : {X : Type 0} (f : X → List ℕ) (words : List X) → length words < 1 →
    asked_by (map f words) range_row ≡ None
unfolding given_in
few-range f [] few = refl
few-range f (x ∷ words) few = absurd (omega (arith, few))

-- the row of `range` for all numbers: it takes one plain word, `all`
abbrev all_row : Row
all_row = record {
  plain = λ words. 1;
  names = range_row.names;
  switches = range_row.switches;
  asks = range_row.asks;
}

module _ (what : List ℕ) (words all : List (List ℕ)) (cut : all ≡ what ∷ words) where
  -- the first word behind `range` and those behind it are at least one word
  more_words : 1 ≤ length (what ∷ words)
  more_words = omega arith

  -- what these words ask by the row of `range`: with one plain word where the test holds, else with two
  abbrev counted : Bool → Option ExactLine
  counted t =
      option_and_then range_row.asks (given_in (cond t 1 2) range_row.names range_row.switches (what ∷ words))

  -- where the first word behind `range` is `all`, the words ask what the ones behind it ask of a text for all ranges
  pub asks-all : is_all what ≡ true → asked_by all range_row ≡ asked_by words (text_row text.RangeAll)
  asks-all e =
      ap (λ (ws : List (List ℕ)). asked_by ws range_row) cut
      ∙ ap counted e
      ∙ asks all_row (what ∷ words) more_words
      ∙ each (options_in range_row.names range_row.switches words)
      ∙ sym (asks (text_row text.RangeAll) words (at_once words))
    where
      each : (options : Option Options) →
          asked all_row (what ∷ words) more_words options ≡ asked (text_row text.RangeAll) words (at_once words) options
      each None = refl
      each (Some options) =
          ap (λ (t : Bool). cond t (option_map (Read text.RangeAll) (form_given options)) None) e

  -- where the first word behind `range` is not `all`, the words ask what they ask by the row of one number's range
  pub asks-one : is_all what ≡ false → asked_by all range_row ≡ asked_by all number_row
  asks-one e =
      ap (λ (ws : List (List ℕ)). asked_by ws range_row) cut
      ∙ ap counted e
      ∙ ap (λ (ws : List (List ℕ)). asked_by ws number_row) (sym cut)

-- ---- a command, by the word that names it

-- a table of the words of all commands, each with the command of the code
abbrev pub command_words : List (List ℕ × Command)
command_words =
    (codes "run", command.Run)
    ∷ (codes "solve", command.ByWidth text.Solve text.SolveWide)
    ∷ (codes "check", command.ByWidth text.Check text.CheckWide)
    ∷ (codes "basis", command.ByWidth text.Basis text.BasisWide)
    ∷ (codes "presolve", command.Read text.Presolve)
    ∷ (codes "iis", command.Read text.Iis)
    ∷ (codes "range", command.Range)
    ∷ (codes "gen", command.Generate)
    ∷ (codes "serve", command.Serve)
    ∷ []

-- the row of the definitions' table for a command of the code
abbrev pub row_of : Command → Row
row_of command.Run = run_row
row_of (command.Read asked) = text_row (spelled_text asked)
row_of (command.ByWidth narrow wide) = wide_row (spelled_text narrow) (spelled_text wide)
row_of command.Range = range_row
row_of command.Generate = generate_row
row_of command.Serve = serve_row

pub look_up-map : {A B : Type 0} (f : A → B) (word : List ℕ) (table : List (List ℕ × A)) →
    look_up word (map (λ line. (line.0, f line.1)) table) ≡ option_map f (look_up word table)
look_up-map f word [] = refl
look_up-map f word (line ∷ table) = by (same word line.0) (look_up-map f word table)
  where
    by : (t : Bool) →
        look_up word (map (λ line. (line.0, f line.1)) table) ≡ option_map f (look_up word table) →
        cond t (Some (f line.1)) (look_up word (map (λ line. (line.0, f line.1)) table))
        ≡ option_map f (cond t (Some line.1) (look_up word table))
    by true rest = refl
    by false rest = rest

pub asks-command : (words behind : List (List ℕ)) (word : List ℕ) (found : Option Command) → words ≡ word ∷ behind →
    look_up word command_words ≡ found →
    command_line_of words ≡ option_and_then (asked_by behind) (option_map row_of found)
unfolding command_line_of
asks-command words behind word found cut is_found =
    ap command_line_of cut
    ∙ ap (option_and_then (asked_by behind)) (look_up-map row_of word command_words)
    ∙ ap (λ found. option_and_then (asked_by behind) (option_map row_of found)) is_found

pub no-words : {X : Type 0} (f : X → List ℕ) (words : List X) → length words < 1 → command_line_of (map f words) ≡ None
unfolding command_line_of
no-words f [] few = refl
no-words f (x ∷ words) few = absurd (omega (arith, few))
