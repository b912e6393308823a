-- The lines that count for nothing, and those that begin a section.
use Rattle.std.specs.Prelude.{ℕ, ◌==◌, ◌||◌, Bool, true, false, List, [], ◌∷◌}
use Rattle.std.specs.List.{list_all}
use Rattle.std.specs.Str.Lines.{strip_carriage_return}
use Rattle.spec_text.specs.Words.{is_blank}

-- whether a line has a star in column 1, which makes it a comment
abbrev pub begins_with_star : List ℕ → Bool
begins_with_star [] = false
begins_with_star (b ∷ bs) = b == 42

-- whether column 1 of a line is blank or absent; a section's heading has another byte there
abbrev pub begins_with_blank : List ℕ → Bool
begins_with_blank [] = true
begins_with_blank (b ∷ bs) = is_blank b

-- whether a line counts for nothing: a comment, with a star in column 1; or no bytes but blanks and perhaps one
-- carriage return at the end
unfoldable pub is_skipped : List ℕ → Bool
is_skipped line = begins_with_star line || list_all is_blank (strip_carriage_return line)
