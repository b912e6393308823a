use Rattle.std.proofs.Common.{◌≡◌, ◌++◌, map, take}
use Rattle.spec_mps.specs.declared.style.Style.TheVariants.{Free}
use Rattle.spec_mps.specs.Written.{cards_text}
use Rattle.spec_bas.specs.Written.{written_card, upper_card}
use Rattle.lp_bas.proofs.writing.push_uppers.Given as goal

-- the text has grown by the cards of the columns of the list before this one
abbrev pub invariant-loop-j : goal.invariant-loop-j
invariant-loop-j l =
    l.to ≡ l.initial.to ++ cards_text Free (map (λ j. written_card (upper_card l.model j)) (take l.j-index l.columns))
