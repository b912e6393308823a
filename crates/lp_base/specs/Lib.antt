-- The definitions that the contracts cite.
pub mod Beside
pub mod Buffer
pub mod Causes
pub mod LinesState
pub mod Memory
pub mod NextLine
pub mod Pieces
pub mod Tables
pub mod Taking
pub mod LinkState
pub mod Listening
pub mod MemListening
pub mod LinkMemory
