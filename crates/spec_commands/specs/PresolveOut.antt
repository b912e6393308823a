-- What the command `presolve` writes of the text of a model: how small the model was made or why it was solved as it is,
-- and what the solve ends with.
use Rattle.std.specs.Prelude.{ℕ, ◌≡◌, ◌++◌, Ok, Err, List, [], ◌∷◌, codes, decimal}
use Rattle.spec_exact.specs.Fraction.{ℚ}
use Rattle.spec_model.specs.Model.{Model}
use Rattle.spec_presolve.specs.declared.presolved.Why.TheVariants as why
use Rattle.spec_presolve.specs.declared.presolved.Way.{Way}
use Rattle.spec_presolve.specs.declared.presolved.Way.TheVariants.{Reduced, Plain}
use Rattle.spec_presolve.specs.Presolved.{ExactWhy, ExactPresolved, IsPresolved}
use Rattle.spec_server.specs.declared.asks.Reply.TheVariants as reply
use Rattle.spec_server.specs.declared.asks.Refusal.TheVariants as refusal
use Rattle.spec_server.specs.Machine.{opening_budget}
use Rattle.spec_server.specs.Output.{check_line}
use Rattle.spec_server.specs.TextSaid.{TextSaid}
use Rattle.spec_commands.specs.SolveOut.{solved_lines}

-- the line for why a model was not solved by a smaller one: the refused operation, or that the budget is spent
abbrev pub why_line : ExactWhy → List ℕ
why_line (why.Past q) = check_line (reply.Past q)
why_line why.Spent = codes "SPENT" ++ 10 ∷ []

-- the line for how a model was solved: by a smaller one of so many rows and columns, or as it is, for this reason
abbrev pub way_line : Way ℚ → List ℕ
way_line (Reduced rows columns) = codes "REDUCED " ++ decimal rows ++ codes " " ++ decimal columns ++ 10 ∷ []
way_line (Plain why) = codes "PLAIN " ++ why_line why

-- what `presolve` writes: the line on how the model was reduced, and the lines of a solve of the model
unfoldable pub presolved_lines : Model → ExactPresolved → List ℕ
presolved_lines m p = way_line p.way ++ solved_lines m p.end

-- `presolve` may write this: the lines of an end that a solve of the model may have, by a smaller model or as it is,
-- within the budget of a new session; or the line of the text's fault
abbrev pub PresolveOut : TextSaid → List ℕ → Type 0
PresolveOut (Ok m) written =
    (p : ExactPresolved) × IsPresolved m opening_budget p × (written ≡ presolved_lines m p)
PresolveOut (Err fault) written = written ≡ check_line (reply.Refused (refusal.Misspelled fault))

-- the exit status of `presolve`: 0 where the text spells a model, 9 where the text is refused
abbrev pub presolve_code : TextSaid → ℕ
presolve_code (Ok m) = 0
presolve_code (Err fault) = 9
