-- A word is at fault exactly where the words are no command line.
--
-- `all_fault`: where the first word behind `range` is `all`, the fault is that of the options behind the word.
-- `one_fault`: where the first word behind `range` is not `all`, the fault is that of the words for one number.
-- `no-word`: where there are no words, that is the fault.
-- `by-word`: the fault of words is the one that the command of their first word finds behind it.
-- `no-told_fault`: where the fault found is the definition's, there is none exactly if the words are a command line.
use Rattle.std.proofs.Common.{◌≡◌, ◌<◌, ℕ, Bool, true, false, ◌&&◌, not, cond, List, [], ◌∷◌, length, map, Option, Some, None}
use Rattle.std.proofs.Common.{arith, refl, sym, ap, ◌∙◌}
use Rattle.std.specs.Prelude.{codes, option_map, option_and_then, is_some, is_none}
use Rattle.std.specs.Option.{option_or}
use denote.Ref.{Bor}
use Rattle.spec_mps.specs.Shapes.{look_up}
use Rattle.spec_program.specs.declared.command_line.CommandLine.TheVariants.{Run, Read, Generate, Serve}
use Rattle.spec_program.specs.declared.command_line.Moved.{Moved}
use Rattle.spec_program.specs.declared.command_line.TextCommand.TheVariants.{Range, RangeAll}
use Rattle.spec_program.specs.Spelled.{spelled_text}
use Rattle.spec_program.specs.CommandLine.{ExactLine, ExactTextCommand, moved_of, is_all, range_row}
use Rattle.spec_program.specs.CommandLine.{Word, OptionNames, given_or, given_in, asked_by, is_one_of, is_plain}
use Rattle.spec_program.specs.CommandLine.{workers_of, links_of, places_of, form_of}
use Rattle.spec_program.specs.CommandLine.{seed_of, row_count_of, column_count_of, applied}
use Rattle.spec_program.specs.CommandLine.{run_row, text_row, by_width, wide_row, generate_row, serve_row, command_line_of}
use Rattle.spec_mps.specs.declared.style.Style.{Style}
use Rattle.spec_mps.specs.declared.style.Style.TheVariants.{Free}
use Rattle.lp_command_line.specs.Words.{value_in, workers_in, links_in, places_in, form_in, is_new_option, are_in, wide_switch, number_row}
use Rattle.lp_command_line.specs.declared.fault.Plain.{Plain}
use Rattle.lp_command_line.specs.declared.fault.Plain.TheVariants.{Address, Number, Name, Seed, Rows, Columns}
use Rattle.lp_command_line.specs.declared.fault.WordFault.{WordFault}
use Rattle.lp_command_line.specs.declared.fault.WordFault.TheVariants.{NoWord, NoOption, Twice, NotValue}
use Rattle.lp_command_line.specs.WordFaults.{Fault, told, lone_fault, behind_option, option_fault, value_fault, plain_fault, workers_fault}
use Rattle.lp_command_line.specs.WordFaults.{links_fault}
use Rattle.lp_command_line.specs.WordFaults.{places_fault, form_fault, run_fault, text_fault, wide_fault, generate_fault}
use Rattle.lp_command_line.specs.WordFaults.{number_fault, range_fault, serve_fault, fault_by, word_fault}
use Rattle.lp_command_line.specs.declared.line.Command.{Command}
use Rattle.lp_command_line.specs.declared.line.Command.TheVariants as command
use Rattle.lp_command_line.proofs.Asking.{refused, run-refused, asks-run, text-refused, asks-text, wide-refused, asks-wide, asks-generate}
use Rattle.lp_command_line.proofs.Asking.{no-address, serve-refused, asks-serve, command_words, row_of, look_up-map}
use Rattle.lp_command_line.proofs.Asking.{no-name, number-refused, asks-number, asks-all, asks-one, asks-command}

-- ---- one fault, or another

-- there is no first of two faults exactly where there is neither
neither : (a b : Option Fault) (x y : Bool) → is_none a ≡ x → is_none b ≡ y → is_none (option_or a b) ≡ (x && y)
neither None b x y ex ey = ey ∙ ap (λ t. t && y) ex
neither (Some fault) b x y ex ey = ap (λ t. t && y) ex

-- anything and false is false
and_false : (t : Bool) → (t && false) ≡ false
and_false true = refl
and_false false = refl

-- ---- options, their values, and plain words

-- an option has no fault exactly where it is a new one of the command's options, and the options behind it have no
-- fault
no-more_fault : (names : OptionNames) (option : Word) (again : Option Word) (fault : Option Fault) (test : Bool) →
    is_none fault ≡ test →
    is_none (behind_option names option again fault) ≡ cond (is_new_option names option again) test false
no-more_fault names option again fault test rest = by (is_one_of option names) (is_some again)
  where
    by : (known given : Bool) →
        is_none (cond known (cond given (Some (Twice option)) fault) (Some (NoOption option)))
        ≡ cond (known && not given) test false
    by true true = refl
    by true false = rest
    by false given = refl

-- the fault of an option and the words behind it, by its own name and whether it is given again, or else that of the
-- words
abbrev fault_with : OptionNames → OptionNames → Word → List Word → Option Fault
fault_with names switches option rest =
    behind_option names option (value_in switches option rest) (option_fault names switches rest)

-- whether an option is a new one of these names, and the words behind it are options with them
abbrev are_with : OptionNames → OptionNames → Word → List Word → Bool
are_with names switches option rest =
    cond (is_new_option names option (value_in switches option rest)) (are_in names switches rest) false

-- options have no fault exactly where the words are options with these names
no-option_fault : (names switches : OptionNames) (words : List Word) →
    is_none (option_fault names switches words) ≡ are_in names switches words
no-option_fault names switches [] = refl
no-option_fault names switches (option ∷ []) = by (is_one_of option switches)
  where
    by : (s : Bool) →
        is_none (cond s (behind_option names option None None) (Some (lone_fault names option)))
        ≡ cond s (cond (is_new_option names option None) true false) false
    by true = no-more_fault names option None None true refl
    by false = refl
no-option_fault names switches (option ∷ value ∷ words) =
    by (is_one_of option switches)
    (no-more_fault names option (value_in switches option (value ∷ words)) _ _
    (no-option_fault names switches (value ∷ words)))
    (no-more_fault names option (value_in switches option words) _ _ (no-option_fault names switches words))
  where
    by : (s : Bool) →
        is_none (fault_with names switches option (value ∷ words)) ≡ are_with names switches option (value ∷ words) →
        is_none (fault_with names switches option words) ≡ are_with names switches option words →
        is_none
        (cond s (fault_with names switches option (value ∷ words)) (fault_with names switches option words))
        ≡ cond s (are_with names switches option (value ∷ words)) (are_with names switches option words)
    by true alone paired = alone
    by false alone paired = paired

module _ {A : Type 0} (usual : A) (of : Word → Option A) (switches : OptionNames) (name : Word) (words : List Word)
  where
    -- the value of an option has no fault exactly where the option is absent or its value gives something
    no-value_fault : is_none (value_fault switches name words (is_some (given_or usual of (value_in switches name words))))
        ≡ is_some (given_or usual of (value_in switches name words))
    no-value_fault = by (value_in switches name words) refl
      where
        read : (value : Word) → value_in switches name words ≡ Some value → (found : Option A) →
            is_none (value_fault switches name words (is_some found)) ≡ is_some found
        read value is (Some a) = refl
        read value is None = ap (λ v. is_none (option_map (NotValue name) v)) is

        by : (value : Option Word) → value_in switches name words ≡ value →
            is_none (value_fault switches name words (is_some (given_or usual of value))) ≡ is_some (given_or usual of value)
        by None is = refl
        by (Some value) is = read value is (of value)

-- a word that is no option has no fault exactly where it is right
no-plain_fault : (plain : Plain) (word : Word) (is_right : Bool) → is_none (plain_fault plain word is_right) ≡ is_right
no-plain_fault plain word true = refl
no-plain_fault plain word false = refl

-- ---- each command

module _ (words : List Word) where
  -- the value of `--workers` has no fault exactly where the words give a number of workers
  no-workers_fault : is_none (workers_fault words) ≡ is_some (workers_in words)
  no-workers_fault = no-value_fault 1 workers_of [] (codes "--workers") words

  -- the value of `--places` has no fault exactly where the words give a number of places
  no-places_fault : is_none (places_fault words) ≡ is_some (places_in words)
  no-places_fault = no-value_fault 256 places_of [] (codes "--places") words

  -- the value of `--each` has no fault exactly where the words give a number of links
  no-links_fault : is_none (links_fault words) ≡ is_some (links_in words)
  no-links_fault = no-value_fault 1 links_of [] (codes "--each") words

  -- the value of `--form` has no fault exactly where the words give a form of texts
  no-form_fault : (switches : OptionNames) → is_none (form_fault switches words) ≡ is_some (form_in switches words)
  no-form_fault switches = no-value_fault Free form_of switches (codes "--form") words

-- a run is asked exactly where the workers and the places are given
run-some : (w p : Option ℕ) →
    (is_some w && is_some p) ≡ is_some {T = ExactLine} (applied (option_map Run w) p)
run-some None p = refl
run-some (Some k) None = refl
run-some (Some k) (Some n) = refl

-- the words behind `run` have no fault exactly where they are a command `run`
no-run_fault : (words : List Word) → is_none (run_fault words) ≡ is_some (asked_by words run_row)
no-run_fault words =
    neither _ _ _ _
    (neither _ _ _ _ (no-option_fault run_row.names run_row.switches words) (no-workers_fault words))
    (no-places_fault words)
    ∙ by (are_in run_row.names run_row.switches words) refl
  where
    by : (t : Bool) → are_in run_row.names run_row.switches words ≡ t →
        ((t && is_some (workers_in words)) && is_some (places_in words)) ≡ is_some (asked_by words run_row)
    by true e =
        run-some (workers_in words) (places_in words)
        ∙ ap is_some (sym (asks-run words (workers_in words) (places_in words) e refl refl))
    by false e = ap is_some (sym (run-refused words e))

-- a text command is asked exactly where its form is given
read-some : (text : ExactTextCommand) (style : Option Style) → is_some style ≡ is_some (option_map (Read text) style)
read-some text None = refl
read-some text (Some style) = refl

-- the words behind a command on a text have no fault exactly where they are such a command
no-text_fault : (text : ExactTextCommand) (words : List Word) → is_none (text_fault words) ≡ is_some (asked_by words (text_row text))
no-text_fault text words =
    neither _ _ _ _ (no-option_fault (text_row text).names (text_row text).switches words) (no-form_fault words [])
    ∙ by (are_in (text_row text).names (text_row text).switches words) refl
  where
    by : (t : Bool) → are_in (text_row text).names (text_row text).switches words ≡ t →
        (t && is_some (form_in [] words)) ≡ is_some (asked_by words (text_row text))
    by true e =
        read-some text (form_in [] words) ∙ ap is_some (sym (asks-text words text (form_in [] words) e refl))
    by false e = ap is_some (sym (text-refused words text e))

-- the words behind a command with `--wide` or without have no fault exactly where they are such a command
no-wide_fault : (narrow wide : ExactTextCommand) (words : List Word) →
    is_none (wide_fault words) ≡ is_some (asked_by words (wide_row narrow wide))
no-wide_fault narrow wide words =
    neither _ _ _ _ (no-option_fault (wide_row narrow wide).names wide_switch words) (no-form_fault words wide_switch)
    ∙ by (are_in (wide_row narrow wide).names wide_switch words) refl
  where
    by : (t : Bool) → are_in (wide_row narrow wide).names wide_switch words ≡ t →
        (t && is_some (form_in wide_switch words)) ≡ is_some (asked_by words (wide_row narrow wide))
    by true e =
        read-some (by_width narrow wide (value_in wide_switch (codes "--wide") words)) (form_in wide_switch words)
        ∙ ap is_some (sym (asks-wide words narrow wide (form_in wide_switch words) e refl))
    by false e = ap is_some (sym (wide-refused words narrow wide e))

module _ (x y : Bool) where
  -- tests of which the second is false do not all hold
  no_name : ((x && false) && y) ≡ false
  no_name = by x
    where
      by : (t : Bool) → ((t && false) && y) ≡ false
      by true = refl
      by false = refl

  -- tests of which the third is false do not all hold
  no_options : ((x && true) && (false && y)) ≡ false
  no_options = by x
    where
      by : (t : Bool) → ((t && true) && (false && y)) ≡ false
      by true = refl
      by false = refl

-- a range of one number is a command exactly where the words give cost or right side, and the form of the text
range-some : (name : Word) (moved : Option Moved) (style : Option Style) →
    ((is_some moved && true) && (true && is_some style))
    ≡ is_some (option_and_then (λ w. option_map (Read (Range w name)) style) moved)
range-some name None style = refl
range-some name (Some w) None = refl
range-some name (Some w) (Some style) = refl

-- the words for the range of one number have no fault exactly where they are such a command
no-number_fault : (words : List Word) → is_none (number_fault words) ≡ is_some (asked_by words number_row)
unfolding given_in
no-number_fault [] = refl
no-number_fault (what ∷ []) = refl
no-number_fault (what ∷ name ∷ words) =
    neither _ _ _ _
    (neither _ _ _ _ (no-plain_fault Number what (is_some (moved_of what))) (no-plain_fault Name name (is_plain name)))
    (neither _ _ _ _ (no-option_fault number_row.names number_row.switches words) (no-form_fault words []))
    ∙ by (is_plain name) (are_in number_row.names number_row.switches words) refl refl
  where
    by : (a t : Bool) → is_plain name ≡ a → are_in number_row.names number_row.switches words ≡ t →
        ((is_some (moved_of what) && a) && (t && is_some (form_in [] words)))
        ≡ is_some (asked_by (what ∷ name ∷ words) number_row)
    by false t h e =
        no_name (is_some (moved_of what)) (t && is_some (form_in [] words))
        ∙ ap is_some (sym (no-name what name words (what ∷ name ∷ words) refl h))
    by true false h e =
        no_options (is_some (moved_of what)) (is_some (form_in [] words))
        ∙ ap is_some (sym (number-refused what name words (what ∷ name ∷ words) refl e))
    by true true h e =
        range-some name (moved_of what) (form_in [] words)
        ∙ ap is_some (sym (asks-number what name words (what ∷ name ∷ words) refl (moved_of what) h e refl))

-- the words behind `range` have no fault exactly where they are a command `range`
no-range_fault : (words : List Word) → is_none (range_fault words) ≡ is_some (asked_by words range_row)
unfolding given_in
no-range_fault [] = refl
no-range_fault (what ∷ words) = by (is_all what) refl
  where
    by : (t : Bool) → is_all what ≡ t →
        is_none (cond t (text_fault words) (number_fault (what ∷ words))) ≡ is_some (asked_by (what ∷ words) range_row)
    by true e = no-text_fault RangeAll words ∙ ap is_some (sym (asks-all what words (what ∷ words) refl e))
    by false e = no-number_fault (what ∷ words) ∙ ap is_some (sym (asks-one what words (what ∷ words) refl e))

-- a model is asked of the generator exactly where the seed, the rows and the columns are given
generate-some : (seed rows columns : Option ℕ) →
    (((is_some seed && is_some rows) && is_some columns) && true)
    ≡ is_some {T = ExactLine} (applied (applied (option_map Generate seed) rows) columns)
generate-some None rows columns = refl
generate-some (Some s) None columns = refl
generate-some (Some s) (Some r) None = refl
generate-some (Some s) (Some r) (Some c) = refl

-- where there are no names of options, one or more words are no options
no-option : (word : Word) (words : List Word) → are_in [] [] (word ∷ words) ≡ false
no-option word [] = refl
no-option word (value ∷ words) = refl

-- the words behind `gen` have no fault exactly where they are a command `gen`
no-generate_fault : (words : List Word) → is_none (generate_fault words) ≡ is_some (asked_by words generate_row)
unfolding given_in
no-generate_fault [] = refl
no-generate_fault (seed ∷ []) = refl
no-generate_fault (seed ∷ rows ∷ []) = refl
no-generate_fault (seed ∷ rows ∷ columns ∷ []) =
    neither _ _ _ _
    (neither _ _ _ _
    (neither _ _ _ _ (no-plain_fault Seed seed (is_some (seed_of seed)))
    (no-plain_fault Rows rows (is_some (row_count_of rows))))
    (no-plain_fault Columns columns (is_some (column_count_of columns))))
    refl
    ∙ generate-some (seed_of seed) (row_count_of rows) (column_count_of columns)
    ∙ ap is_some (sym (asks-generate (seed ∷ rows ∷ columns ∷ []) seed rows columns (seed_of seed) (row_count_of rows)
    (column_count_of columns) refl refl refl refl))
no-generate_fault (seed ∷ rows ∷ columns ∷ word ∷ words) =
    let none = no-option word words in
    neither _ _ _ _ refl (no-option_fault [] [] (word ∷ words) ∙ none)
    ∙ and_false _
    ∙ ap is_some (sym (refused generate_row (seed ∷ rows ∷ columns ∷ word ∷ words) (omega arith) none))

-- a server is asked exactly where the workers, the connections and the places are given
serve-some : (w l p : Option ℕ) →
    ((is_some w && is_some l) && is_some p)
    ≡ is_some {T = ExactLine} (applied (applied (option_map Serve w) l) p)
serve-some None l p = refl
serve-some (Some k) None p = refl
serve-some (Some k) (Some c) None = refl
serve-some (Some k) (Some c) (Some n) = refl

-- the words behind `serve` have no fault exactly where they are a command `serve`
no-serve_fault : (words : List Word) → is_none (serve_fault words) ≡ is_some (asked_by words serve_row)
unfolding given_in
no-serve_fault [] = refl
no-serve_fault (address ∷ words) =
    neither _ _ _ _
    (neither _ _ _ _
    (neither _ _ _ _
    (neither _ _ _ _ (no-plain_fault Address address (is_plain address)) (no-option_fault serve_row.names serve_row.switches words))
    (no-workers_fault words))
    (no-links_fault words))
    (no-places_fault words)
    ∙ by (is_plain address) (are_in serve_row.names serve_row.switches words) refl refl
  where
    by : (a t : Bool) → is_plain address ≡ a → are_in serve_row.names serve_row.switches words ≡ t →
        ((((a && t) && is_some (workers_in words)) && is_some (links_in words)) && is_some (places_in words))
        ≡ is_some (asked_by (address ∷ words) serve_row)
    by false t h e = ap is_some (sym (no-address address words (address ∷ words) refl h))
    by true false h e = ap is_some (sym (serve-refused address words (address ∷ words) refl e))
    by true true h e =
        serve-some (workers_in words) (links_in words) (places_in words)
        ∙ ap is_some (sym (asks-serve address words (address ∷ words) refl h e))

-- by whether the first word is that for all numbers
pub all_fault : (what : Word) (words all : List Word) → all ≡ what ∷ words → is_all what ≡ true →
    range_fault all ≡ text_fault words
all_fault what words all cut e =
    ap range_fault cut ∙ ap (λ t. cond t (text_fault words) (number_fault (what ∷ words))) e

pub one_fault : (what : Word) (words all : List Word) → all ≡ what ∷ words → is_all what ≡ false →
    range_fault all ≡ number_fault all
one_fault what words all cut e =
    ap range_fault cut ∙ ap (λ t. cond t (text_fault words) (number_fault (what ∷ words))) e ∙ ap number_fault (sym cut)

-- ---- all of them

-- for a command of the code, what finds the fault of the words behind its word
abbrev pub fault_of : Command → List Word → Option Fault
fault_of command.Run = run_fault
fault_of (command.Read asked) = text_fault
fault_of (command.ByWidth narrow wide) = wide_fault
fault_of command.Range = range_fault
fault_of command.Generate = generate_fault
fault_of command.Serve = serve_fault

-- the fault of a word and the words behind it is that of the command found by the word
by-command : (word : Word) (words : List Word) (found : Option Command) → look_up word command_words ≡ found →
    word_fault (word ∷ words) ≡ fault_by word words (option_map fault_of found)
unfolding word_fault
by-command word words found is =
    ap (fault_by word words) (look_up-map fault_of word command_words)
    ∙ ap (λ found. fault_by word words (option_map fault_of found)) is

-- where there is no word, that is the fault
pub no-word : {X : Type 0} (f : X → Word) (words : List X) → length words < 1 → word_fault (map f words) ≡ Some NoWord
unfolding word_fault
no-word f [] few = refl
no-word f (x ∷ words) few = absurd (omega (arith, few))

-- where the command of the first word is found, or none is, the fault of the words is that of it and the words behind it
pub by-word : (words behind : List Word) (word : Word) (found : Option Command) → words ≡ word ∷ behind →
    look_up word command_words ≡ found → word_fault words ≡ fault_by word behind (option_map fault_of found)
by-word words behind word found cut is = ap word_fault cut ∙ by-command word behind found is

-- words have no fault exactly where they are a command line
no-word_fault : (words : List Word) → is_none (word_fault words) ≡ is_some (command_line_of words)
unfolding word_fault command_line_of
no-word_fault [] = refl
no-word_fault (word ∷ words) =
    ap is_none (by-command word words (look_up word command_words) refl)
    ∙ by (look_up word command_words)
    ∙ ap is_some (sym (asks-command (word ∷ words) words word (look_up word command_words) refl refl))
  where
    by : (found : Option Command) → is_none (fault_by word words (option_map fault_of found))
        ≡ is_some (option_and_then (asked_by words) (option_map row_of found))
    by None = refl
    by (Some command.Run) = no-run_fault words
    by (Some (command.Read asked)) = no-text_fault (spelled_text asked) words
    by (Some (command.ByWidth narrow wide)) = no-wide_fault (spelled_text narrow) (spelled_text wide) words
    by (Some command.Range) = no-range_fault words
    by (Some command.Generate) = no-generate_fault words
    by (Some command.Serve) = no-serve_fault words

-- as it is told of the code's fault
pub no-told_fault : (words : List Word) (found : Option (WordFault (Bor (List ℕ)))) → told found ≡ word_fault words →
    is_none found ≡ is_some (command_line_of words)
no-told_fault words found is = same-told found ∙ ap is_none is ∙ no-word_fault words
  where
    same-told : (found : Option (WordFault (Bor (List ℕ)))) → is_none found ≡ is_none (told found)
    same-told None = refl
    same-told (Some fault) = refl
