use Rattle.std.proofs.Common.{rules}
use Rattle.std.proofs.lemmas.List.Sorted.{answers_always}
use Rattle.lp_model.proofs.EntryPlaces.{searched}
use Rattle.lp_model.proofs.entries.place_of.Goals as goal

-- the closure gives an entry's row
pub returns : goal.returns
returns c =
    searched c.args.entries.now c.args.row c.requires _ c.binary_search_by_key.ensures.bound
    (c.binary_search_by_key.ensures.position (λ e. e.0) (answers_always _ _ _ (λ f a r g called. search rules)))
