-- Words that ask for a notice are no command line.
use Rattle.std.proofs.Common.{◌≡◌, Bool, true, false, cond, List, [], ◌∷◌}
use Rattle.std.proofs.Common.{Option, Some, None, refl, sym, ap, ◌∙◌}
use Rattle.std.specs.Prelude.{codes, option_map, option_and_then, IsSome}
use Rattle.std.proofs.lemmas.Option.{none-some}
use Rattle.spec_text.specs.Words.{same}
use Rattle.spec_text.proofs.WordLemmas.{same_true}
use Rattle.spec_mps.specs.Shapes.{look_up}
use Rattle.spec_program.specs.CommandLine.{Word, given_in, asked_by, command_line_of}
use Rattle.lp_command_line.specs.declared.notices.Notice.{Notice}
use Rattle.lp_command_line.specs.declared.notices.Notice.TheVariants.{Usage, Version}
use Rattle.lp_command_line.specs.declared.line.Command.{Command}
use Rattle.lp_command_line.specs.declared.line.Command.TheVariants as command
use Rattle.spec_program.specs.Spelled.{spelled_text}
use Rattle.lp_command_line.specs.Notices.{notice_of}
use Rattle.lp_command_line.proofs.Asking.{run-refused, text-refused, wide-refused, no-address, command_words, row_of, asks-command}

-- a word equal to one that alone is no command line is no command line alone
alone : (word name : Word) → command_line_of (name ∷ []) ≡ None → same word name ≡ true → command_line_of (word ∷ []) ≡ None
alone word name none e = ap (λ w. command_line_of (w ∷ [])) (same_true word name e) ∙ none

-- `--help` alone is no command line
usage_alone : command_line_of (codes "--help" ∷ []) ≡ None
unfolding command_line_of
usage_alone = refl

-- `--version` alone is no command line
version_alone : command_line_of (codes "--version" ∷ []) ≡ None
unfolding command_line_of
version_alone = refl

-- the word `--help` alone behind `gen` is no command
generates_nothing : asked_by (codes "--help" ∷ []) (row_of command.Generate) ≡ None
unfolding given_in
generates_nothing = refl

-- the word `--help` alone behind `range` is no command
ranges_nothing : asked_by (codes "--help" ∷ []) (row_of command.Range) ≡ None
unfolding given_in
ranges_nothing = refl

-- any word with `--help` alone behind it is no command line
usage_behind : (word : Word) → command_line_of (word ∷ codes "--help" ∷ []) ≡ None
usage_behind word =
    asks-command (word ∷ codes "--help" ∷ []) (codes "--help" ∷ []) word (look_up word command_words) refl refl
    ∙ by (look_up word command_words)
  where
    by : (found : Option Command) → option_and_then (asked_by (codes "--help" ∷ [])) (option_map row_of found) ≡ None
    by None = refl
    by (Some command.Run) = run-refused (codes "--help" ∷ []) refl
    by (Some (command.Read asked)) = text-refused (codes "--help" ∷ []) (spelled_text asked) refl
    by (Some (command.ByWidth narrow wide)) =
        wide-refused (codes "--help" ∷ []) (spelled_text narrow) (spelled_text wide) refl
    by (Some command.Range) = ranges_nothing
    by (Some command.Generate) = generates_nothing
    by (Some command.Serve) = no-address (codes "--help") [] (codes "--help" ∷ []) refl refl

-- words for the usage or the version are no command line
no-command : (words : List Word) (notice : Notice) → notice_of words ≡ Some notice → command_line_of words ≡ None
unfolding notice_of
no-command [] notice e = absurd (none-some notice e)
no-command (word ∷ []) notice e = by (same word (codes "--help")) (same word (codes "--version")) refl refl e
  where
    by : (h v : Bool) → same word (codes "--help") ≡ h → same word (codes "--version") ≡ v →
        cond h (Some Usage) (cond v (Some Version) None) ≡ Some notice → command_line_of (word ∷ []) ≡ None
    by true v is_help is_version e = alone word (codes "--help") usage_alone is_help
    by false true is_help is_version e = alone word (codes "--version") version_alone is_version
    by false false is_help is_version e = absurd (none-some notice e)
no-command (word ∷ option ∷ []) notice e = by (same option (codes "--help")) refl e
  where
    by : (h : Bool) → same option (codes "--help") ≡ h → cond h (Some Usage) None ≡ Some notice →
        command_line_of (word ∷ option ∷ []) ≡ None
    by true is_help e =
        ap (λ o. command_line_of (word ∷ o ∷ [])) (same_true option (codes "--help") is_help) ∙ usage_behind word
    by false is_help e = absurd (none-some notice e)
no-command (word ∷ option ∷ more ∷ words) notice e = absurd (none-some notice e)

-- words of which some notice was found are no command line
pub no-command-by : (words : List Word) (found : Option Notice) → found ≡ notice_of words → IsSome found →
    command_line_of words ≡ None
no-command-by words None is some = absurd (let z : false ≡ true = some in cc)
no-command-by words (Some notice) is some = no-command words notice (sym is)
