-- Lemmas.
pub mod HearTurns
pub mod StageLines
pub mod ScriptTurns
pub mod AskTurns
pub mod SmallBounds
pub mod EditStops
pub mod PairsLeft
pub mod NewColumn
pub mod NumberLemmas
pub mod LineLists
