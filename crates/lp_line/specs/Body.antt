-- What the lines of a body say, after those that were read.
use Rattle.std.specs.Prelude.{ℕ, ◌≡◌, ◌≤◌, ◌+◌, List, ◌∷◌, Option, Some}
use Rattle.spec_text.specs.declared.line.Line.{Line}
use Rattle.lp_line.specs.declared.body.Body.{Body}
use Rattle.lp_line.specs.declared.body.Body.TheVariants.{Reading, Read}

-- The answer is what these lines say of a body: while it is read, what they say from its stage on; once something was
-- said of it, that, whatever the lines are.
abbrev pub BodySays : {T R : Type 0} → (T → List (Line (List ℕ)) → Option R → Type 0) → Body T R →
    List (Line (List ℕ)) → Option R → Type 0
BodySays Say (Reading stage) lines answer = Say stage lines answer
BodySays Say (Read what) lines answer = answer ≡ Some what

-- how many lines of a body were read; 0 where the reading has ended with a result
abbrev pub count_in : {T R : Type 0} → (T → ℕ) → Body T R → ℕ
count_in count (Reading stage) = count stage
count_in count (Read what) = 0

-- The line `here` takes the body to `next`: what more lines say of `next` is what they say of `body` behind that line.
-- At most one line more is counted.
pub record PassesTo {T R : Type 0} (Say : T → List (Line (List ℕ)) → Option R → Type 0) (count : T → ℕ)
    (body : Body T R) (here : Line (List ℕ)) (next : Body T R) : Type 0 where
  pub behind : (more : List (Line (List ℕ))) (answer : Option R) → BodySays Say next more answer →
      BodySays Say body (here ∷ more) answer
  pub counts : count_in count next ≤ count_in count body + 1
