-- Outputs that are false, and the inputs of which they are so.
use Rattle.std.specs.Prelude.{ℕ, List, [], ◌∷◌, ◌++◌, codes}
use Rattle.spec_server.specs.Output.{ended_lines}

-- the text of a model without columns whose row asks that 0 is at most 1, and whose objective is the constant 5;
-- without the last line feed
abbrev pub unended_text : List ℕ
unended_text =
    ended_lines (codes "ROWS" ∷ codes " N COST" ∷ codes " L ROW" ∷ codes "COLUMNS" ∷ codes "RHS" ∷ codes " RHS COST -5 ROW 1" ∷ [])
    ++ codes "ENDATA"

-- `unended_text` with its last line feed
abbrev pub ended_text : List ℕ
ended_text = unended_text ++ 10 ∷ []

-- a false output for the right side of the row of `ended_text`, which asks that 0 is at most 1: the range has no ends,
-- as if 0 were at most each number
abbrev pub too_wide_range : List ℕ
too_wide_range = ended_lines (codes "OPTIMAL 5" ∷ codes "RANGE NONE NONE SLOPE 0" ∷ [])

-- a false output with two ranges for the right side of the row of `ended_text`, which asks that 0 is at most 1: the
-- true one, from 0 upwards, and then one without ends
abbrev pub too_wide_ranges : List ℕ
too_wide_ranges =
    ended_lines (codes "OPTIMAL 5" ∷ codes "rhs ROW RANGE 0 NONE SLOPE 0" ∷ codes "rhs ROW RANGE NONE NONE SLOPE 0" ∷ [])

-- The input of a session that loads the model of `ended_text`, whose value is 5, solves it, asks for the certificate,
-- edits the model so that its value is 6, and solves it again. Four commands `HOW` follow.
abbrev pub asked_twice : List ℕ
asked_twice =
    ended_lines (codes "LOAD FREE" ∷ []) ++ ended_text
    ++ ended_lines (codes "SOLVE" ∷ codes "CERT" ∷ codes "SETRHS COST -6" ∷ codes "SOLVE" ∷ codes "HOW" ∷ codes "HOW" ∷ codes "HOW" ∷ codes "HOW" ∷ [])

-- A false output to `asked_twice`, with this certificate of four lines: behind the edit, the second solve is answered
-- with 5 as the first one was, though the value is 6 by then. Were each line of the certificate taken as a reply, the
-- last line would be the reply to no solve.
abbrev pub answered_as_before : List (List ℕ) → List ℕ
answered_as_before certificate =
    ended_lines (codes "LOADED 1 0" ∷ codes "OPTIMAL 5" ∷ codes "CERT 4" ∷ []) ++ ended_lines certificate
    ++ ended_lines (codes "OK" ∷ codes "OPTIMAL 5" ∷ [])

-- the input of a session that loads `ended_text`, and then solves its model by `WIDE`, with numbers of any width
abbrev pub asked_widely : List ℕ
asked_widely = ended_lines (codes "LOAD FREE" ∷ []) ++ ended_text ++ ended_lines (codes "WIDE" ∷ [])

-- a false output to `asked_widely`: to the wide solve of a model whose optimal value is 5, it replies lines with the
-- value 6
abbrev pub answered_widely : List ℕ
answered_widely = ended_lines (codes "LOADED 1 0" ∷ codes "WIDE 4" ∷ codes "OPTIMAL 6" ∷ [])
