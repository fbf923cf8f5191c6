-- `order::earlier` meets its contract: the derived order of stamps, field by field, is that of their numbers. Assumes nothing.
use mathlib.Core.Path.{◌≡◌, refl, ap, ◌∙◌}
use mathlib.Core.Bool.{Bool, true, false, cond, ◌&&◌, ◌||◌}
use lib.Dec.{ltb, eqb}
use Rattle.std.proofs.Common.{Option, Some, Ordering, Less, Equal, Greater}
use Rattle.std.specs.Ordering.{is_lt, is_some_and, partial_ordering_then}
use Rattle.calendar.specs.Order.{lower}
use Rattle.calendar.proofs.order.earlier.Goals as goal

-- what is told where two numbers are compared, one is less or they are equal
abbrev by : Bool → Bool → Option Ordering
by less same = Some (cond less Less (cond same Equal Greater))

first : (less same : Bool) (rest : Option Ordering) → is_some_and is_lt (partial_ordering_then (by less same) rest) ≡ (less || (same && is_some_and is_lt rest))
first true same rest = refl
first false true rest = refl
first false false rest = refl

last : (less same : Bool) → is_some_and is_lt (by less same) ≡ (less || (same && false))
last true same = refl
last false true = refl
last false false = refl

pub returns : goal.returns
unfolding lower
returns c = let a = c.args.a in let b = c.args.b in
    c.lt.ensures
    ∙ first (ltb a.year b.year) (eqb a.year b.year) _
    ∙ ap (λ (t : Bool). ltb a.year b.year || (eqb a.year b.year && t))
    (first (ltb a.month b.month) (eqb a.month b.month) _
    ∙ ap (λ (t : Bool). ltb a.month b.month || (eqb a.month b.month && t))
    (first (ltb a.day b.day) (eqb a.day b.day) _
    ∙ ap (λ (t : Bool). ltb a.day b.day || (eqb a.day b.day && t))
    (first (ltb a.hour b.hour) (eqb a.hour b.hour) _
    ∙ ap (λ (t : Bool). ltb a.hour b.hour || (eqb a.hour b.hour && t)) (last (ltb a.minutes b.minutes) (eqb a.minutes b.minutes)))))
