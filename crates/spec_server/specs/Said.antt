-- What is said of an input that is read line by line, each line a step from what was read before it, up to the line at
-- which something is said.
use Rattle.std.specs.Prelude.{ℕ, Option, Some, None, List, [], ◌∷◌}
use Rattle.spec_text.specs.declared.line.Line.{Line}

-- what a line of an input leads to: a further stage S of the reading, or a result R
pub data Step (S R : Type 0) : Type 0 where
  On : (stage : S) → Step S R
  Says : (said : R) → Step S R

-- the result after a line: what `next` gives from the further stage, or the result that the line led to
abbrev pub follow : {S R : Type 0} → Step S R → (S → Option R) → Option R
follow (On stage) next = next stage
follow (Says said) next = Some said

-- the result that lines lead to from a stage of the reading on; none where more lines are needed
abbrev pub said_by : {S R : Type 0} → (S → Line (List ℕ) → Step S R) → S → List (Line (List ℕ)) → Option R
said_by step stage [] = None
said_by step stage (line ∷ lines) = follow (step stage line) (λ next. said_by step next lines)
