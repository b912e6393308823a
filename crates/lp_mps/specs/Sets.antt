-- Sets and pairs as the code holds them.
use Rattle.std.specs.Prelude.{Option, Some, None}
use Rattle.std.specs.Option.{option_copied}
use Rattle.spec_model.specs.Model.{Name}
use Rattle.spec_mps.specs.Fields.{texts_of}
use Rattle.spec_mps.specs.Reader.{pairs_of}
use Rattle.spec_mps.specs.Sides as sides
use Rattle.lp_mps.specs.declared.read.sets.FirstSet.{FirstSet}
use Rattle.lp_mps.specs.declared.read.sets.FirstSet.TheVariants as first
use Rattle.lp_mps.specs.declared.read.sets.SetAndPairs.{SetAndPairs}

-- the set and the pairs that the code holds of a card, as the definition has them
abbrev pub card_seen : SetAndPairs → sides.SetAndPairs
card_seen card = record { set = option_copied card.set; pairs = pairs_of (texts_of card.pairs.now) }

-- the set of a section's first card, as the code holds it, as the definition has it: no card yet, a card without a set,
-- or a named one
abbrev pub set_of : FirstSet → Option (Option Name)
set_of first.Unseen = None
set_of first.Unnamed = Some None
set_of (first.Named name) = Some (Some name)
