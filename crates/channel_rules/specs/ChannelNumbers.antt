-- 26: "One exceeds 999 (26, 27: the first at fault)". 27: "One repeats". Assumes nothing.
use Rattle.std.specs.Prelude.{ℕ, not, List, [], ◌∷◌, eqb, ltb, length, get_or, take}
use Rattle.refusal.specs.declared.verdict.Refusal.TheVariants.{ChannelNumberTooLarge, ChannelNumberTwice}
use Rattle.refusal.specs.Verdict.{Verdict, refuse_if, first_of}
use Rattle.refusal.specs.Below.{first_refused}
use Rattle.refusal.specs.Orders.{times}

-- 26 and 27 of number k: it is too large, or it is among those before it
abbrev pub number_fault : List ℕ → ℕ → Verdict
number_fault numbers k =
    first_of
    (refuse_if (ltb 999 (get_or numbers k 0)) ChannelNumberTooLarge
    ∷ refuse_if (not (eqb (times (take k numbers) (get_or numbers k 0)) 0)) ChannelNumberTwice
    ∷ [])

unfoldable pub number_faults : List ℕ → Verdict
number_faults numbers = first_refused (number_fault numbers) (length numbers)
