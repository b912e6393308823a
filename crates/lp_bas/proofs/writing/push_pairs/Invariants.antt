use Rattle.std.proofs.Common.{◌≡◌, ◌++◌, map, take}
use Rattle.std.specs.List.{zip}
use Rattle.spec_mps.specs.declared.style.Style.TheVariants.{Free}
use Rattle.spec_mps.specs.Written.{cards_text}
use Rattle.spec_bas.specs.Written.{written_card, pair_card}
use Rattle.lp_bas.proofs.writing.push_pairs.Given as goal

-- the text has grown by the cards of the pairs before this one
abbrev pub invariant-loop-at : goal.invariant-loop-at
invariant-loop-at l =
    l.to ≡ l.initial.to ++ cards_text Free
    (map (λ pair. written_card (pair_card l.model l.form l.basis pair)) (take l.at (zip l.columns l.rows)))
