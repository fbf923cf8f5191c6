-- What the numbers of a switch and of the replacement mean. Assumes nothing.
use Rattle.std.specs.Prelude.{true, false, Option, None, Some, ℕ, Bool, cond, eqb}

-- 0 is unset, 1 on, any other off
abbrev pub switch_of : ℕ → Option Bool
switch_of number = cond (eqb number 0) None (cond (eqb number 1) (Some true) (Some false))

-- a byte, if it is given
abbrev pub replacement_of : Bool → ℕ → Option ℕ
replacement_of given byte = cond given (Some byte) None
