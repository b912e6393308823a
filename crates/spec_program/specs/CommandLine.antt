-- The command lines of the program: the word of a command, its plain words, and after them its options, each a name and
-- a value or a switch, which has none, in any order and each at most once.
use Rattle.std.specs.Prelude.{ℕ, ◌==◌, ◌&&◌, Bool, true, false, not, Option, Some, None, option_map, option_and_then}
use Rattle.std.specs.Prelude.{List, [], ◌∷◌}
use Rattle.std.specs.Prelude.{length, map, take, drop, nat_le, codes, if◌then◌else◌}
use Rattle.std.specs.List.{list_all, list_any}
use Rattle.spec_text.specs.Words.{same}
use Rattle.spec_mps.specs.declared.style.Style.{Style}
use Rattle.spec_mps.specs.declared.style.Style.TheVariants.{Free, Fixed}
use Rattle.spec_mps.specs.Shapes.{look_up}
use Rattle.spec_program.specs.declared.command_line.CommandLine.{CommandLine}
use Rattle.spec_program.specs.declared.command_line.CommandLine.TheVariants.{Run, Read, Generate, Serve}
use Rattle.spec_program.specs.declared.command_line.Moved.{Moved}
use Rattle.spec_program.specs.declared.command_line.Moved.TheVariants.{Cost, RightSide}
use Rattle.spec_program.specs.declared.command_line.TextCommand.{TextCommand}
use Rattle.spec_program.specs.declared.command_line.TextCommand.TheVariants.{Solve, SolveWide, Check, CheckWide, Basis, BasisWide, Presolve, Iis, Range, RangeAll}
use Rattle.spec_server.specs.Command.{number_to}

-- a word of a command line, by its bytes
abbrev pub Word : Type 0
Word = List ℕ

-- what a command line asks; the name of a column or row in it is a word
abbrev pub ExactLine : Type 0
ExactLine = CommandLine Word

-- a command that reads a text; the name of a column or row in it is a word
abbrev pub ExactTextCommand : Type 0
ExactTextCommand = TextCommand Word

-- ---- options

-- the options that are given: their names and their values; that of a switch is the empty word
abbrev pub Options : Type 0
Options = List (Word × Word)

-- the names of the options that a command may have
abbrev pub OptionNames : Type 0
OptionNames = List Word

-- whether a name is one of these
abbrev pub is_one_of : Word → OptionNames → Bool
is_one_of name names = list_any (λ other. same name other) names

-- the options that the words give, each name with the word behind it, or a switch with the empty word; none where the
-- last name lacks its value
abbrev pub in_pairs : OptionNames → List Word → Option Options
in_pairs switches [] = Some []
in_pairs switches (name ∷ []) = if is_one_of name switches then Some ((name, []) ∷ []) else None
in_pairs switches (name ∷ value ∷ words) =
    if is_one_of name switches
    then option_map (λ pairs. (name, []) ∷ pairs) (in_pairs switches (value ∷ words))
    else option_map (λ pairs. (name, value) ∷ pairs) (in_pairs switches words)

-- whether no two names are the same
abbrev pub are_distinct : OptionNames → Bool
are_distinct [] = true
are_distinct (name ∷ names) = not (is_one_of name names) && are_distinct names

-- whether each option has one of these names, and no two have the same
abbrev pub are_options_of : OptionNames → Options → Bool
are_options_of names options =
    list_all (λ option. is_one_of option.0 names) options && are_distinct (map (λ option. option.0) options)

-- the options that the words give; none where a name is not one of `names`, stands twice, or lacks its value. Switches
-- have no value
unfoldable pub options_in : OptionNames → OptionNames → List Word → Option Options
options_in names switches words =
    option_and_then (λ options. if are_options_of names options then Some options else None) (in_pairs switches words)

-- the words behind a command's own word: those that are no options, and the options with their values
pub record Given : Type 0 where
  pub plain : List Word
  pub options : Options

-- the first `plain` words, and the options that the words behind them give; none where the words are too few, or those
-- behind are no such options: another name, a name twice, a value that lacks
unfoldable pub given_in : ℕ → OptionNames → OptionNames → List Word → Option Given
given_in plain names switches words =
    if nat_le plain (length words)
    then option_map (λ options. record { plain = take plain words; options = options })
    (options_in names switches (drop plain words))
    else None

-- ---- the table of commands

-- the form of a text that a word names, `free` or `fixed`; none for any other word
abbrev pub form_of : Word → Option Style
form_of word = look_up word ((codes "free", Free) ∷ (codes "fixed", Fixed) ∷ [])

-- what the word gives by `of`, or none where it gives nothing; the usual where there is no word
abbrev pub given_or : {A : Type 0} → A → (Word → Option A) → Option Word → Option A
given_or usual of None = Some usual
given_or usual of (Some word) = of word

-- the form that the options give by `--form`, or none for a wrong word; the free one where it is not given
abbrev pub form_given : Options → Option Style
form_given options = given_or Free form_of (look_up (codes "--form") options)

-- the number of workers that a word gives, from 1 to 16; none for any other word
unfoldable pub workers_of : Word → Option ℕ
workers_of word = number_to 16 2 word

-- the number of workers that the options give by `--workers`, or none for a wrong word; 1 where it is not given
abbrev pub workers_given : Options → Option ℕ
workers_given options = given_or 1 workers_of (look_up (codes "--workers") options)

-- the number of places that a word gives, from 1 to 1,024; none for any other word
unfoldable pub places_of : Word → Option ℕ
places_of word = number_to 1024 7 word

-- the number of places, which the sessions share, that the options give by `--places`, or none for a wrong word; 256
-- where it is not given
abbrev pub places_given : Options → Option ℕ
places_given options = given_or 256 places_of (look_up (codes "--places") options)

-- the number of links that a word gives, from 1 to 1,000; none for any other word
unfoldable pub links_of : Word → Option ℕ
links_of word = number_to 1000 4 word

-- the number of links, which each worker serves one after the other, that the options give by `--each`, or none for a
-- wrong word; 1 where it is not given
abbrev pub links_given : Options → Option ℕ
links_given options = given_or 1 links_of (look_up (codes "--each") options)

-- whether a word may be an address, or the name of a column or row: it is not empty, and does not begin with `-`
abbrev pub is_plain : Word → Bool
is_plain [] = false
is_plain (b ∷ bs) = not (b == 45)

-- the seed that a word gives, from 0 to 1,000,000; none for any other word
unfoldable pub seed_of : Word → Option ℕ
seed_of word = if same word (codes "0") then Some 0 else number_to 1000000 7 word

-- the number of rows that a word of `gen` gives, from 1 to 256; none for any other word
unfoldable pub row_count_of : Word → Option ℕ
row_count_of word = number_to 256 3 word

-- the number of columns that a word of `gen` gives, from 1 to 512; none for any other word
unfoldable pub column_count_of : Word → Option ℕ
column_count_of word = number_to 512 3 word

-- a command: how many of the words behind its own are plain ones, the names of its options, which of these are switches, and
-- what it asks with all of them
pub record Row : Type 0 where
  pub plain : List Word → ℕ
  pub names : OptionNames
  pub switches : OptionNames
  pub asks : Given → Option ExactLine

-- what a function gives of a value; none where one of the two is absent
abbrev pub applied : {A B : Type 0} → Option (A → B) → Option A → Option B
applied f a = option_and_then (λ g. option_map g a) f

-- the command `run`, which takes the options --workers and --places
abbrev pub run_row : Row
run_row = record {
  plain = λ words. 0;
  names = codes "--workers" ∷ codes "--places" ∷ [];
  switches = [];
  asks = λ given. applied (option_map Run (workers_given given.options)) (places_given given.options);
}

-- the row of a command that reads a text and takes the option --form
abbrev pub text_row : ExactTextCommand → Row
text_row command = record {
  plain = λ words. 0;
  names = codes "--form" ∷ [];
  switches = [];
  asks = λ given. option_map (Read command) (form_given given.options);
}

-- the first command, or the second, for numbers of any width, where `--wide` is given
abbrev pub by_width : ExactTextCommand → ExactTextCommand → Option Word → ExactTextCommand
by_width narrow wide None = narrow
by_width narrow wide (Some given) = wide

-- the row of a command that reads a text and takes --form and --wide, with which it is the second of these two
abbrev pub wide_row : ExactTextCommand → ExactTextCommand → Row
wide_row narrow wide = record {
  plain = λ words. 0;
  names = codes "--form" ∷ codes "--wide" ∷ [];
  switches = codes "--wide" ∷ [];
  asks = λ given. option_map (Read (by_width narrow wide (look_up (codes "--wide") given.options)))
      (form_given given.options);
}

-- which kind of number a word of `range` means, `cost` or `rhs`; none for any other word
abbrev pub moved_of : Word → Option Moved
moved_of word = look_up word ((codes "cost", Cost) ∷ (codes "rhs", RightSide) ∷ [])

-- the name of a column or row that a word is; none where it may be no name
abbrev pub name_of : Word → Option Word
name_of word = if is_plain word then Some word else None

-- whether a word of `range` is `all`, for all numbers
abbrev pub is_all : Word → Bool
is_all word = same word (codes "all")

-- how many plain words `range` takes: one where that is `all`, else two, a kind of number and a name
abbrev pub range_plain : List Word → ℕ
range_plain [] = 2
range_plain (what ∷ words) = if is_all what then 1 else 2

-- the command `range` by its plain words, `all` or a kind of number and a name, and its options;
-- none where they are wrong
abbrev pub range_with : List Word → Options → Option ExactLine
range_with (what ∷ []) options = if is_all what then option_map (Read RangeAll) (form_given options) else None
range_with (what ∷ name ∷ []) options =
    applied (option_map Read (applied (option_map Range (moved_of what)) (name_of name))) (form_given options)
range_with words options = None

-- the command `range`, which takes one word or two and the option --form
abbrev pub range_row : Row
range_row = record {
  plain = range_plain;
  names = codes "--form" ∷ [];
  switches = [];
  asks = λ given. range_with given.plain given.options;
}

-- the command `gen` by its three words; none where they are wrong
abbrev pub generate_with : List Word → Option ExactLine
generate_with (seed ∷ rows ∷ columns ∷ []) =
    applied (applied (option_map Generate (seed_of seed)) (row_count_of rows)) (column_count_of columns)
generate_with words = None

-- the command `gen`, which takes three words and no options
abbrev pub generate_row : Row
generate_row = record { plain = λ words. 3; names = []; switches = []; asks = λ given. generate_with given.plain }

-- the command `serve` by the word for its address and its options; none where they are wrong
abbrev pub serve_with : List Word → Options → Option ExactLine
serve_with (address ∷ []) options =
    if is_plain address
    then applied (applied (option_map Serve (workers_given options)) (links_given options)) (places_given options)
    else None
serve_with words options = None

-- the command `serve`, which takes an address and the options --workers, --each and --places
abbrev pub serve_row : Row
serve_row = record {
  plain = λ words. 1;
  names = codes "--workers" ∷ codes "--each" ∷ codes "--places" ∷ [];
  switches = [];
  asks = λ given. serve_with given.plain given.options;
}

-- the words of all commands, each with its row of the table
abbrev pub commands : List (Word × Row)
commands =
    (codes "run", run_row)
    ∷ (codes "solve", wide_row Solve SolveWide)
    ∷ (codes "check", wide_row Check CheckWide)
    ∷ (codes "basis", wide_row Basis BasisWide)
    ∷ (codes "presolve", text_row Presolve)
    ∷ (codes "iis", text_row Iis)
    ∷ (codes "range", range_row)
    ∷ (codes "gen", generate_row)
    ∷ (codes "serve", serve_row)
    ∷ []

-- the command line that the words behind a command's own word give, by its row of the table;
-- none where they do not fit it
abbrev pub asked_by : List Word → Row → Option ExactLine
asked_by words row = option_and_then row.asks (given_in (row.plain words) row.names row.switches words)

-- the command line that the words behind the program's name give; none where they give none
unfoldable pub command_line_of : List Word → Option ExactLine
command_line_of [] = None
command_line_of (word ∷ words) = option_and_then (asked_by words) (look_up word commands)

-- ---- servers

-- where a server listens, and how many workers serve there
pub record Address : Type 0 where
  pub address : Word
  pub workers : ℕ

-- where these words ask a server to listen, by the second of them, and how many workers serve there; none where the
-- command is not `serve`, or there is no second word
abbrev pub served_at : List Word → Option ExactLine → Option Address
served_at (word ∷ address ∷ words) (Some (Serve workers each places)) =
    Some (record { address = address; workers = workers })
served_at words command = None

-- where these words ask a server to listen, and how many workers serve there; none where they are no command `serve`
unfoldable pub address_of : List Word → Option Address
address_of words = served_at words (command_line_of words)
