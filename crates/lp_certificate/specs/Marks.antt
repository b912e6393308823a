-- Which columns and rows were given a number, by the letters of the parts that gave them.
use Rattle.std.specs.Prelude.{◌≡◌, ℕ, Bool, true, false, Some, List, length, get_or, slice_set}
use Rattle.spec_model.specs.Model.{Model, Name}
use Rattle.spec_check.specs.declared.certificate.Letter.{Letter}
use Rattle.spec_check.specs.declared.certificate.Letter.TheVariants.{X, Y, R}
use Rattle.spec_check.specs.Raw.{PartOf}
use Rattle.spec_check.specs.Settle.{place_of, is_given}
use Rattle.lp_certificate.specs.declared.given.Given.{Given}
use Rattle.lp_certificate.specs.Letters.{count_of}

-- for the letter X, Y or R the notes of which columns, or for Y rows, a part with this letter gave a number
abbrev pub marks_of : Letter → Given → List Bool
marks_of X g = g.x
marks_of Y g = g.y
marks_of R g = g.r

-- the notes, with that of number k for this letter set: a part with the letter gave it a number
abbrev pub with_mark : Letter → ℕ → Given → Given
with_mark X k g = record g { x = slice_set g.x k true }
with_mark Y k g = record g { y = slice_set g.y k true }
with_mark R k g = record g { r = slice_set g.r k true }

-- for each letter there is a note for each column or row of the model
abbrev pub HasMarks : Model → Given → Type 0
HasMarks m g = (letter : Letter) → length (marks_of letter g) ≡ count_of m letter

-- for each letter and name, the note at the place of the column or row says whether one of the parts gives it a number
abbrev pub AreMarks : {F : Type 0} → Model → List (PartOf F) → Given → Type 0
AreMarks m parts g =
    (letter : Letter) (name : Name) (k : ℕ) → place_of m letter name ≡ Some k →
    get_or (marks_of letter g) k false ≡ is_given letter name parts
