-- How many workers serve sessions, and how many places these share.
use Rattle.std.specs.Prelude.{ℕ, ◌≤◌}

-- how many workers there may be: 1 to 16
abbrev pub IsWorkers : ℕ → Type 0
IsWorkers workers = (1 ≤ workers) × (workers ≤ 16)

-- how many places of the board workers may share: 1 to 1,024
abbrev pub IsPlaces : ℕ → Type 0
IsPlaces places = (1 ≤ places) × (places ≤ 1024)
