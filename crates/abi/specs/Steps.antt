-- A step of the exported reads of the sound.
-- Only contracts of private functions cite these; no promise of a public function does. Assumes nothing.
use Rattle.std.specs.Prelude.{ℕ, ◌-◌, ◌^◌, Option, Some, None}
use Rattle.window.specs.declared.window.Window.{Window}

-- the bytes that a read filled, or the largest usize
abbrev pub count_of : Option Window → ℕ
count_of (Some w) = w.at
count_of None = 2 ^ 64 - 1
