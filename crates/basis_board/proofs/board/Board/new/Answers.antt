use Rattle.std.proofs.Common.{◌≡◌, ℕ, List, [], get_or, replicate, length, ap, ⊎_elim, ◌<◌, ◌≤◌, arith, rules, ◌∙◌}
use Rattle.std.proofs.lemmas.Bool.{cases_lt}
use Rattle.std.proofs.lemmas.List.{get_or-replicate, get_or_past, length-replicate}
use Rattle.basis_board.proofs.InTime.{begins_in_time}
use Rattle.basis_board.proofs.board.Board.new.Goals as goal

abbrev none_yet : ℕ → List ℕ
none_yet n = replicate n 0

zeros : (n i : ℕ) → get_or (none_yet n) i 0 ≡ 0
zeros n i =
    ⊎_elim (λ (l : i < n). get_or-replicate n i 0 0 l)
    (λ (l : n ≤ i). let s : length (none_yet n) ≡ n = length-replicate n 0 in
    get_or_past (none_yet n) i 0 (omega arith))
    (cases_lt i n)

pub of_words-requires : goal.of_words-requires
of_words-requires c =
    let is = c.in_ok-words.ensures.items_if_clones_equal (λ y e. e) in
    let long = c.in_ok-words.ensures.len in
    begins_in_time _ c.as_slice.result.now [] (search rules)
    (λ i. ap (λ l. get_or l i 0) (c.as_slice.ensures.value ∙ is) ∙ zeros _ i)
