-- The bytes of lines that are written.
use Rattle.std.proofs.Common.{◌≡◌, ℕ, List, [], ◌∷◌, ◌++◌}
use Rattle.std.proofs.lemmas.Grind.{flat_map-append}
use Rattle.spec_server.specs.Output.{ended_lines}

-- the bytes of two lists of lines are the bytes of the first and then the bytes of the second
pub ended_append : (xs ys : List (List ℕ)) → ended_lines (xs ++ ys) ≡ ended_lines xs ++ ended_lines ys
unfolding ended_lines
ended_append xs ys = flat_map-append (λ line. line ++ 10 ∷ []) xs ys
