-- What is written where the words ask for a notice.
use Rattle.std.specs.Prelude.{ℕ, ◌≡◌, ◌++◌, List, [], ◌∷◌, Option, codes}
use Rattle.std.specs.Io.KnownBytes.{Appends}
use Rattle.lp_base.specs.Beside.{Takes}
use Rattle.lp_command_line.specs.declared.notices.Notice.{Notice}
use Rattle.lp_command_line.specs.declared.notices.Notice.TheVariants.{Usage, Version}

-- the text is the version's line, for that notice; of the text of the usage nothing is asked
abbrev pub IsTextOf : Notice → List ℕ → Type 0
IsTextOf Version text = text ≡ codes "lpd 0.1.0" ++ 10 ∷ []
IsTextOf Usage text = Unit {0}

-- a text of the notice was written, all of it
abbrev pub ShowsAll : Notice → Option (List ℕ) → Option (List ℕ) → Type 0
ShowsAll notice before after = (text : List ℕ) × IsTextOf notice text × Appends before after text

-- a beginning of a text of the notice was written
abbrev pub ShowsPart : Notice → Option (List ℕ) → Option (List ℕ) → Type 0
ShowsPart notice before after = (text : List ℕ) × IsTextOf notice text × Takes before after text
