-- Lemmas.
pub mod Simply
pub mod Dues
pub mod HandedBack
pub mod LastFits
pub mod RunLemmas
pub mod Answered
pub mod KeptEdits
pub mod ScriptLemmas
pub mod ScriptBytes
pub mod ScriptKept
pub mod Truth
pub mod ColdAnswers
pub mod Sessions
pub mod Output
