-- The absolute start of a file (01: "ABSS if a start is given"; "start (0 if none)"). Assumes nothing.
use Rattle.std.specs.Prelude.{ℕ, Bool, is_some, Option}
use Rattle.std.specs.Option.{unwrap_or}

-- a frame, if one is given
abbrev pub Start : Type 0
Start = Option ℕ

abbrev pub is_given : Start → Bool
is_given start = is_some start

-- 0 if none is given
abbrev pub start_frame : Start → ℕ
start_frame start = unwrap_or start 0
