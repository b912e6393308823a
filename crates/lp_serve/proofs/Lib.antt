-- Lemmas.
pub mod Noting
pub mod LinkRuns
pub mod Turning
pub mod AllServed
pub mod UsedPass
pub mod RunsOver
pub mod Finishing
pub mod LinkReading
pub mod LinkSteps
pub mod LinkTurns
pub mod LinkLoop
pub mod NextAsk
