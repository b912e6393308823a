-- Lemmas.
pub mod SolveStarts
pub mod Works
pub mod Boards
pub mod Formless
