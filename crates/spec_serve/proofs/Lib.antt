-- Lemmas.
pub mod LeftPlaces
pub mod Stays
pub mod InOrder
pub mod OwnPart
pub mod AllDone
pub mod ManyFromOne
pub mod OneOfMany
pub mod Interleaving
pub mod WorkersAgree
pub mod Apart
pub mod UpToQuit
pub mod AloneAsks
pub mod LinkAsks
pub mod FirstAsks
pub mod KeptAsks
pub mod LinksAlone
pub mod SpelledModels
