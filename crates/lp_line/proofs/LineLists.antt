-- The text of the first lines of a list with one more line is their text and that line's.
use Rattle.std.proofs.Common.{◌≡◌, ℕ, ◌+◌, List, [], ◌∷◌, ◌++◌, take, Some, ap, ◌∙◌, append-nil, add-one}
use Rattle.std.specs.List.{flat_map, slice_get}
use Rattle.std.proofs.Math.Seq.{take-suc}
use Rattle.std.proofs.lemmas.Grind.{flat_map-append}
use Rattle.std.proofs.lemmas.Option.{slice_get_within, get_or_from_slice_get}
use Rattle.spec_server.specs.Output.{ended_lines}

-- the bytes of the first `at + 1` lines are those of the first `at` lines, the next line and a line feed
pub ended_lines_more : (lines : List (List ℕ)) (at : ℕ) (line : List ℕ) → slice_get lines at ≡ Some line →
    ended_lines (take (at + 1) lines) ≡ ended_lines (take at lines) ++ (line ++ 10 ∷ [])
unfolding ended_lines
ended_lines_more lines at line e =
    let ended : List ℕ → List ℕ = λ l. l ++ 10 ∷ [] in
    ap (λ k. flat_map ended (take k lines)) (add-one at)
    ∙ ap (flat_map ended)
    (take-suc lines at [] (slice_get_within lines at line e)
    ∙ ap (λ l. take at lines ++ l ∷ []) (get_or_from_slice_get lines at line [] e))
    ∙ flat_map-append ended (take at lines) (line ∷ [])
    ∙ ap (λ zs. flat_map ended (take at lines) ++ zs) (append-nil (line ++ 10 ∷ []))
