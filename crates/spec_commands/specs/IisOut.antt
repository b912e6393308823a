-- What the command `iis` writes of the text of a model: what a solve of the model ends with and, where no point is
-- feasible, single limits and bounds that no point meets together, with the certificate of that and for each of them a
-- point that meets all the others.
use Rattle.std.specs.Prelude.{ℕ, ◌≡◌, ◌+◌, Bool, true, false, Ok, Err, List, [], ◌∷◌, ◌++◌, length, map, codes, decimal}
use Rattle.std.specs.Prelude.{if◌then◌else◌}
use Rattle.spec_exact.specs.Fraction.{ℚ}
use Rattle.spec_model.specs.Model.{Model, Name, row, column}
use Rattle.spec_check.specs.declared.certificate.Certificate.{Certificate}
use Rattle.spec_check.specs.declared.certificate.Letter.TheVariants.{X}
use Rattle.spec_certificate.specs.TextWritten.{column_lines, certificate_lines}
use Rattle.spec_runs.specs.Cold.{ExactSolveEnd}
use Rattle.spec_iis.specs.declared.side.Side.{Side}
use Rattle.spec_iis.specs.declared.outcome.Iis.TheVariants.{Found, Other, Stopped}
use Rattle.spec_iis.specs.Only.{only}
use Rattle.spec_iis.specs.Found.{ExactIis, MayFind}
use Rattle.spec_server.specs.declared.asks.Reply.TheVariants as reply
use Rattle.spec_server.specs.declared.asks.Refusal.TheVariants as refusal
use Rattle.spec_server.specs.Machine.{opening_budget, answer_of}
use Rattle.spec_server.specs.Output.{check_line, reply_text, ended_lines}
use Rattle.spec_server.specs.TextSaid.{TextSaid}

-- ---- a side

-- the word `ROW ` where the flag is true, for a side of a row; else `COLUMN `, for one of a column
abbrev pub kind_word : Bool → List ℕ
kind_word true = codes "ROW "
kind_word false = codes "COLUMN "

-- the word `UPPER ` where the flag is true, for an upper side; else `LOWER `, for a lower one
abbrev pub end_word : Bool → List ℕ
end_word true = codes "UPPER "
end_word false = codes "LOWER "

-- the name of the row or column of a side
abbrev pub side_name : Model → Side → Name
side_name m s = if s.row then (row m s.at).name else (column m s.at).name

-- the line of a side: row or column, upper or lower, and the name
unfoldable pub side_line : Model → Side → List ℕ
side_line m s = kind_word s.row ++ end_word s.upper ++ side_name m s

-- ---- points

-- the lines of points: for each its number, from n + 1 on, and its values that are not 0
abbrev pub point_lines : Model → ℕ → List (List ℚ) → List (List ℕ)
point_lines m n [] = []
point_lines m n (z ∷ points) =
    (codes "POINT " ++ decimal (n + 1)) ∷ (column_lines m X z ++ point_lines m (n + 1) points)

-- ---- what is written

-- the lines of an irreducible set: `INFEASIBLE`, its number of sides, the sides, the certificate of the model with
-- these sides alone, the points and `END`
unfoldable pub found_lines : Model → List Side → Certificate (List ℚ) → List (List ℚ) → List (List ℕ)
found_lines m sides cert points =
    codes "INFEASIBLE"
    ∷ (codes "IIS " ++ decimal (length sides))
    ∷ (map (side_line m) sides
    ++ certificate_lines (only m sides) cert
    ++ point_lines m 0 points
    ++ codes "END" ∷ [])

-- the words for what a solve ended with, as the reply of a new session has them
abbrev pub end_words : ExactSolveEnd → List ℕ
end_words end = reply_text (answer_of opening_budget end)

-- the lines that `iis` writes of a search: the set that was found; or the reply to the model's own solve, where that
-- did not end infeasible; or `INFEASIBLE` and with which reply the search stopped
abbrev pub iis_lines : Model → ExactIis → List (List ℕ)
iis_lines m (Found sides cert points) = found_lines m sides cert points
iis_lines m (Other end) = end_words end ∷ []
iis_lines m (Stopped end) = codes "INFEASIBLE" ∷ (codes "STOPPED " ++ end_words end) ∷ []

-- `iis` may write this: the lines of what a search in the model may end with, each solve within the budget of a new
-- session; or the line of the text's fault
abbrev pub IisOut : TextSaid → List ℕ → Type 0
IisOut (Ok m) written =
    (found : ExactIis) × MayFind m opening_budget found × (written ≡ ended_lines (iis_lines m found))
IisOut (Err fault) written = written ≡ check_line (reply.Refused (refusal.Misspelled fault))

-- the status of the command `iis`: 9 where it writes that its text spells no model, else 0
abbrev pub iis_code : TextSaid → ℕ
iis_code (Ok m) = 0
iis_code (Err fault) = 9
