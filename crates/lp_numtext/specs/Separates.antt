-- What ends a part of a text.
use Rattle.std.specs.Prelude.{ℕ, Bool}
use Rattle.spec_mps.specs.NumberText.{is_mark, is_point, is_slash}
use Rattle.lp_numtext.specs.declared.pieces.Separator.{Separator}
use Rattle.lp_numtext.specs.declared.pieces.Separator.TheVariants.{Slash, Mark, Point}

-- whether a byte is this separator: a slash, the letter before an exponent, or a point
abbrev pub separates : Separator → ℕ → Bool
separates Slash = is_slash
separates Mark = is_mark
separates Point = is_point
