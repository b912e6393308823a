-- The words of a command line, as they are cut up.
use Rattle.std.specs.Prelude.{ℕ, ◌&&◌, Bool, true, false, not, List, [], ◌∷◌, map, Option, Some, None, is_some}
use Rattle.std.specs.Prelude.{option_map}
use Rattle.std.specs.Prelude.{codes, string_bytes, if◌then◌else◌}
use Rattle.spec_text.specs.Words.{same}
use denote.Ref.{Bor}
use Rattle.spec_mps.specs.declared.style.Style.{Style}
use Rattle.spec_mps.specs.declared.style.Style.TheVariants.{Free}
use Rattle.spec_program.specs.declared.command_line.CommandLine.TheVariants.{Read, Serve}
use Rattle.spec_program.specs.declared.command_line.Moved.{Moved}
use Rattle.spec_program.specs.declared.command_line.TextCommand.TheVariants.{Range}
use Rattle.spec_program.specs.CommandLine.{ExactLine, OptionNames, Row, is_one_of, range_row}
use Rattle.spec_program.specs.CommandLine.{given_or, workers_of, links_of, places_of, form_of, applied}

-- the texts of names that the code holds behind references
abbrev pub bytes_of : List (Bor (List ℕ)) → List (List ℕ)
bytes_of names = map (λ name. name.now) names

-- what options begin with: the first option, its value, and the words behind them
pub record Cut : Type 0 where
  pub option : List ℕ
  pub value : List ℕ
  pub behind : List (List ℕ)

-- The first option of these words, with its value and the words behind; a switch has the empty value. None where no
-- word is left, or the last one lacks its value.
unfoldable pub first_in : OptionNames → List (List ℕ) → Option Cut
first_in switches [] = None
first_in switches (option ∷ []) =
    if is_one_of option switches then Some (record { option = option; value = []; behind = [] }) else None
first_in switches (option ∷ value ∷ words) =
    if is_one_of option switches
    then Some (record { option = option; value = []; behind = value ∷ words })
    else Some (record { option = option; value = value; behind = words })

-- the value of the first option with this name among these words, empty for a switch; none where it is not there, or is
-- the last word and lacks its value
abbrev pub value_in : OptionNames → List ℕ → List (List ℕ) → Option (List ℕ)
value_in switches name [] = None
value_in switches name (option ∷ []) =
    if is_one_of option switches then (if same name option then Some [] else None) else None
value_in switches name (option ∷ value ∷ words) =
    if is_one_of option switches
    then (if same name option then Some [] else value_in switches name (value ∷ words))
    else (if same name option then Some value else value_in switches name words)

-- the number of workers that these words give by `--workers`, or none for a wrong value; 1 where it is not there
abbrev pub workers_in : List (List ℕ) → Option ℕ
workers_in words = given_or 1 workers_of (value_in [] (codes "--workers") words)

-- the number of links of each worker that these words give by `--each`, or none for a wrong value; 1 where it is not
-- there
abbrev pub links_in : List (List ℕ) → Option ℕ
links_in words = given_or 1 links_of (value_in [] (codes "--each") words)

-- the number of places that these words give by `--places`, or none for a wrong value; 256 where it is not there
abbrev pub places_in : List (List ℕ) → Option ℕ
places_in words = given_or 256 places_of (value_in [] (codes "--places") words)

-- the form of texts that these words give by `--form`, or none for a wrong value; the free one where it is not there
abbrev pub form_in : OptionNames → List (List ℕ) → Option Style
form_in switches words = given_or Free form_of (value_in switches (codes "--form") words)

-- whether an option has one of these names, and is not given again: `again` is its value among the words behind it, or
-- none
abbrev pub is_new_option : OptionNames → List ℕ → Option (List ℕ) → Bool
is_new_option names option again = is_one_of option names && not (is_some again)

-- whether the words are options with these names, each with its value unless it is a switch, and none given twice
abbrev pub are_in : OptionNames → OptionNames → List (List ℕ) → Bool
are_in names switches [] = true
are_in names switches (option ∷ []) =
    if is_one_of option switches then (if is_new_option names option None then true else false) else false
are_in names switches (option ∷ value ∷ words) =
    if is_one_of option switches
    then
    (if is_new_option names option (value_in switches option (value ∷ words))
    then are_in names switches (value ∷ words) else false)
    else
    (if is_new_option names option (value_in switches option words) then are_in names switches words else false)

-- the list of the one switch --wide
abbrev pub wide_switch : OptionNames
wide_switch = codes "--wide" ∷ []

-- the row of `range` for one number: it takes two plain words, a kind of number and a name
abbrev pub number_row : Row
number_row = record {
  plain = λ words. 2;
  names = range_row.names;
  switches = range_row.switches;
  asks = range_row.asks;
}

-- the command line for the range of one number, by these options; none where the form behind --form is wrong
abbrev pub range_in : Moved → List ℕ → List (List ℕ) → Option ExactLine
range_in moved name options = option_map (Read (Range moved name)) (form_in [] options)

-- the command line of a server, by these options; none where one of their values is wrong
abbrev pub serve_in : List (List ℕ) → Option ExactLine
serve_in options =
    applied (applied (option_map Serve (workers_in options)) (links_in options)) (places_in options)
