-- Which word is at fault where words are no command line: the first one that is, of the command, of its plain words and of
-- its options' names, and else the first value by the order of the command's options.
use Rattle.std.specs.Prelude.{ℕ, Bool, true, false, List, [], ◌∷◌, Option, Some, None, option_map, is_some}
use Rattle.std.specs.Prelude.{codes, if◌then◌else◌}
use denote.Ref.{Bor}
use Rattle.std.specs.Option.{option_or}
use Rattle.spec_mps.specs.Shapes.{look_up}
use Rattle.spec_program.specs.CommandLine.{Word, OptionNames, is_one_of, is_plain, is_all}
use Rattle.spec_program.specs.CommandLine.{seed_of, row_count_of, column_count_of, moved_of}
use Rattle.lp_command_line.specs.Words.{value_in, workers_in, links_in, places_in, form_in, wide_switch}
use Rattle.lp_command_line.specs.declared.fault.Plain.{Plain}
use Rattle.lp_command_line.specs.declared.fault.Plain.TheVariants.{Address, Number, Name, Seed, Rows, Columns}
use Rattle.lp_command_line.specs.declared.fault.WordFault.{WordFault}
use Rattle.lp_command_line.specs.declared.fault.WordFault.TheVariants.{NoWord, NoCommand, TooFew, NotPlain}
use Rattle.lp_command_line.specs.declared.fault.WordFault.TheVariants.{NoOption, Twice, NoValue, NotValue}

-- why words are no command line, with the bytes of the word that is at fault
abbrev pub Fault : Type 0
Fault = WordFault Word

-- the code's fault, with the bytes of its words in place of references to them
abbrev pub spelled : WordFault (Bor (List ℕ)) → Fault
spelled NoWord = NoWord
spelled (NoCommand word) = NoCommand word.now
spelled TooFew = TooFew
spelled (NotPlain plain word) = NotPlain plain word.now
spelled (NoOption word) = NoOption word.now
spelled (Twice word) = Twice word.now
spelled (NoValue word) = NoValue word.now
spelled (NotValue option value) = NotValue option.now value.now

-- the code's fault, if there is one, with the bytes of its words in place of references to them
abbrev pub told : Option (WordFault (Bor (List ℕ))) → Option Fault
told = option_map spelled

-- the fault of the last word, which has no value behind it: its value is missing, or it names no option
abbrev pub lone_fault : OptionNames → Word → Fault
lone_fault names option = if is_one_of option names then NoValue option else NoOption option

-- the fault of an option: that it has none of these names, or that it is given again behind; else the fault of the
-- words behind it, if there is one
abbrev pub behind_option : OptionNames → Word → Option Word → Option Fault → Option Fault
behind_option names option again fault =
    if is_one_of option names then (if is_some again then Some (Twice option) else fault) else Some (NoOption option)

-- the first fault of these options: one of another name, given twice, or without its value; none if there is none.
-- Switches have no value
abbrev pub option_fault : OptionNames → OptionNames → List Word → Option Fault
option_fault names switches [] = None
option_fault names switches (option ∷ []) =
    if is_one_of option switches then behind_option names option None None else Some (lone_fault names option)
option_fault names switches (option ∷ value ∷ words) =
    if is_one_of option switches
    then
    behind_option names option (value_in switches option (value ∷ words)) (option_fault names switches (value ∷ words))
    else
    behind_option names option (value_in switches option words) (option_fault names switches words)

-- the fault of the value of the option with this name; none where the flag says that the value gives something, or
-- where the option is absent
abbrev pub value_fault : OptionNames → Word → List Word → Bool → Option Fault
value_fault switches name words true = None
value_fault switches name words false = option_map (NotValue name) (value_in switches name words)

-- the fault of a word that should be an address, a number or a name; none where the flag says that it is right
abbrev pub plain_fault : Plain → Word → Bool → Option Fault
plain_fault plain word true = None
plain_fault plain word false = Some (NotPlain plain word)

-- ---- the values of options

-- the fault of the value behind `--workers`, if it is no number of workers
abbrev pub workers_fault : List Word → Option Fault
workers_fault words = value_fault [] (codes "--workers") words (is_some (workers_in words))

-- the fault of the value behind `--each`, if it is no number of links
abbrev pub links_fault : List Word → Option Fault
links_fault words = value_fault [] (codes "--each") words (is_some (links_in words))

-- the fault of the value behind `--places`, if it is no number of places
abbrev pub places_fault : List Word → Option Fault
places_fault words = value_fault [] (codes "--places") words (is_some (places_in words))

-- the fault of the value behind `--form`, if it names no form of texts
abbrev pub form_fault : OptionNames → List Word → Option Fault
form_fault switches words = value_fault switches (codes "--form") words (is_some (form_in switches words))

-- ---- the words behind each command's word

-- the fault of the words behind `run`, if one has a fault
abbrev pub run_fault : List Word → Option Fault
run_fault words =
    option_or (option_or (option_fault (codes "--workers" ∷ codes "--places" ∷ []) [] words) (workers_fault words))
    (places_fault words)

-- the fault of the words behind a command on a text, if one has a fault: such a command takes `--form` alone
abbrev pub text_fault : List Word → Option Fault
text_fault words = option_or (option_fault (codes "--form" ∷ []) [] words) (form_fault [] words)

-- the fault of the words behind a command that takes `--form` and `--wide`, if one has a fault
abbrev pub wide_fault : List Word → Option Fault
wide_fault words =
    option_or (option_fault (codes "--form" ∷ codes "--wide" ∷ []) wide_switch words) (form_fault wide_switch words)

-- the fault of the words behind `range` that name one number and may choose a form: that they are too few, or that of
-- the first that has a fault; none if they are right
abbrev pub number_fault : List Word → Option Fault
number_fault (what ∷ name ∷ words) =
    option_or
    (option_or (plain_fault Number what (is_some (moved_of what))) (plain_fault Name name (is_plain name)))
    (text_fault words)
number_fault words = Some TooFew

-- the fault of the words behind `range`, of those behind `all` or of those for one number: that they are too few, or
-- that of the first that has a fault; none if they are right
abbrev pub range_fault : List Word → Option Fault
range_fault [] = Some TooFew
range_fault (what ∷ words) = if is_all what then text_fault words else number_fault (what ∷ words)

-- the fault of the words behind `gen`: that they are too few, or that of the first that has a fault; none if they are
-- right
abbrev pub generate_fault : List Word → Option Fault
generate_fault (seed ∷ rows ∷ columns ∷ words) =
    option_or
    (option_or
    (option_or (plain_fault Seed seed (is_some (seed_of seed))) (plain_fault Rows rows (is_some (row_count_of rows))))
    (plain_fault Columns columns (is_some (column_count_of columns))))
    (option_fault [] [] words)
generate_fault words = Some TooFew

-- the fault of the words behind `serve`: that there is none, or that of a word that has a fault, the address first,
-- then the options' names and then their values; none if they are right
abbrev pub serve_fault : List Word → Option Fault
serve_fault [] = Some TooFew
serve_fault (address ∷ words) =
    option_or
    (option_or
    (option_or
    (option_or (plain_fault Address address (is_plain address))
    (option_fault (codes "--workers" ∷ codes "--each" ∷ codes "--places" ∷ []) [] words))
    (workers_fault words))
    (links_fault words))
    (places_fault words)

-- a table of the commands' words, each with what finds the fault of the words behind it
abbrev pub faults : List (Word × (List Word → Option Fault))
faults =
    (codes "run", run_fault)
    ∷ (codes "solve", wide_fault)
    ∷ (codes "check", wide_fault)
    ∷ (codes "basis", wide_fault)
    ∷ (codes "presolve", text_fault)
    ∷ (codes "iis", text_fault)
    ∷ (codes "range", range_fault)
    ∷ (codes "gen", generate_fault)
    ∷ (codes "serve", serve_fault)
    ∷ []

-- the fault of the words behind a command's word, or that it names no command
abbrev pub fault_by : Word → List Word → Option (List Word → Option Fault) → Option Fault
fault_by word words None = Some (NoCommand word)
fault_by word words (Some fault) = fault words

-- the first fault of the words; none where they are a command line
unfoldable pub word_fault : List Word → Option Fault
word_fault [] = Some NoWord
word_fault (word ∷ words) = fault_by word words (look_up word faults)
