-- What words ask for in place of a command.
use Rattle.std.specs.Prelude.{List, [], ◌∷◌, Option, Some, None, codes, if◌then◌else◌}
use Rattle.spec_text.specs.Words.{same}
use Rattle.spec_program.specs.CommandLine.{Word}
use Rattle.lp_command_line.specs.declared.notices.Notice.{Notice}
use Rattle.lp_command_line.specs.declared.notices.Notice.TheVariants.{Usage, Version}

-- the notice that a word stands for, the usage for --help and the version for --version; none for any other word
abbrev pub named : Word → Option Notice
named word =
    if same word (codes "--help") then Some Usage else (if same word (codes "--version") then Some Version else None)

-- the notice that these words ask for: the word for it alone, or any word and --help; none for other words
unfoldable pub notice_of : List Word → Option Notice
notice_of [] = None
notice_of (word ∷ []) = named word
notice_of (word ∷ option ∷ []) = if same option (codes "--help") then Some Usage else None
notice_of (word ∷ option ∷ more ∷ words) = None
