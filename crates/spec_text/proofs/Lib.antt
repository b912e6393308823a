-- Lemmas on lines and words.
pub mod LineLemmas
pub mod WordLemmas
