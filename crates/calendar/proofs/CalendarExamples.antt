-- The calendar's definitions by figures that stand outside them: 400 years have 146,097 days (97 leap years); dates and windows of request 2's cases. Assumes nothing.
use mathlib.Core.Path.{◌≡◌, refl}
use mathlib.Core.Bool.{true, false}
use mathlib.Core.List.{List, [], ◌∷◌, map}
use Prim.Native.Nat.{ℕ, ◌+◌}
use Rattle.std.specs.Prelude.{Ok, Err}
use Rattle.refusal.specs.Below.{below, how_many}
use Rattle.refusal.specs.Verdict.{number_of}
use Rattle.calendar.specs.declared.date.Stamp.{Stamp}
use Rattle.refusal.specs.declared.verdict.Refusal.TheVariants.{CommentDate, NoDate}
use Rattle.calendar.specs.Date.{is_leap, days_in, note_fault}
use Rattle.calendar.specs.Order.{lower}
use Rattle.calendar.specs.Window.{Falls, falls_in}

-- the days of a year, month by month
abbrev days_of : ℕ → ℕ
days_of year = below ◌+◌ 0 (λ k. days_in year (k + 1)) 12

common_year : days_of 2_023 ≡ 365
unfolding below
common_year = refl

leap_year : days_of 2_024 ≡ 366
unfolding below
leap_year = refl

leap_years : how_many (λ k. is_leap (k + 1)) 400 ≡ 97
unfolding below
leap_years = refl

days_of-400-years : below ◌+◌ 0 (λ k. days_of (k + 1)) 400 ≡ 146_097
unfolding below
days_of-400-years = refl

abbrev at : ℕ → ℕ → ℕ → ℕ → ℕ → Stamp
at year month day hour minutes = record { year = year; month = month; day = day; hour = hour; minutes = minutes }

abbrev on : ℕ → ℕ → ℕ → Stamp
on year month day = at year month day 0 0

abbrev of_notes : List Stamp → List ℕ
of_notes = map (λ (s : Stamp). number_of (note_fault s))

-- 29 February
leap_days : of_notes (on 1_900 2 29 ∷ on 2_000 2 29 ∷ on 2_023 2 29 ∷ on 2_024 2 29 ∷ on 2_100 2 29 ∷ []) ≡ 46 ∷ 0 ∷ 46 ∷ 0 ∷ 46 ∷ []
leap_days = refl

-- the end of April; the last day of the first year and of the last; no year 0
ends : of_notes (on 2_024 4 30 ∷ on 2_024 4 31 ∷ on 1 12 31 ∷ on 65_535 12 31 ∷ on 65_536 12 31 ∷ on 0 12 31 ∷ []) ≡ 0 ∷ 46 ∷ 0 ∷ 0 ∷ 34 ∷ 46 ∷ []
ends = refl

-- undated; month or day alone; 34 before 46
zeros : of_notes (on 0 0 0 ∷ at 2_024 0 0 23 59 ∷ on 2_024 0 1 ∷ on 2_024 1 0 ∷ at 2_024 0 0 24 0 ∷ at 2_023 2 29 0 60 ∷ []) ≡ 0 ∷ 0 ∷ 46 ∷ 46 ∷ 34 ∷ 34 ∷ []
zeros = refl

-- a leap day's window, of notes at its start, at its end, and a minute before either
abbrev leap_day : Stamp → Falls
leap_day note = falls_in (on 2_024 2 29) (on 2_024 3 1) note

borders : map leap_day (on 2_024 2 29 ∷ on 2_024 3 1 ∷ at 2_024 2 28 23 59 ∷ at 2_024 2 29 23 59 ∷ []) ≡ Ok true ∷ Ok false ∷ Ok false ∷ Ok true ∷ []
unfolding falls_in lower
borders = refl

-- an undated note falls in no window; an undated start or end is refused, and so is a note that is no date
undated : leap_day (on 2_024 0 0) ≡ Ok false
unfolding falls_in lower
undated = refl

undated-start : falls_in (on 2_024 0 0) (on 2_024 3 1) (on 2_024 2 29) ≡ Err NoDate
unfolding falls_in
undated-start = refl

undated-end : falls_in (on 2_024 2 29) (on 0 0 0) (on 2_024 2 29) ≡ Err NoDate
unfolding falls_in
undated-end = refl

no_date : leap_day (on 2_024 2 30) ≡ Err NoDate
unfolding falls_in
no_date = refl

-- start, end and note in this order: the end's 34 stands behind the start's 46 and before the note's
first-at_fault : map (λ (start : Stamp). falls_in start (on 2_024 13 1) (on 2_024 2 30)) (on 2_023 2 29 ∷ on 2_024 2 29 ∷ []) ≡ Err NoDate ∷ Err CommentDate ∷ []
unfolding falls_in
first-at_fault = refl

-- the numbers of these refusals
numbers :
    map (λ (f : Falls). number_of f)
    (falls_in (on 2_024 0 0) (on 2_024 3 1) (on 2_024 2 29)
    ∷ falls_in (on 2_024 2 29) (on 0 0 0) (on 2_024 2 29)
    ∷ leap_day (on 2_024 2 30)
    ∷ falls_in (on 2_023 2 29) (on 2_024 13 1) (on 2_024 2 30)
    ∷ falls_in (on 2_024 2 29) (on 2_024 13 1) (on 2_024 2 30)
    ∷ [])
    ≡ 46 ∷ 46 ∷ 46 ∷ 46 ∷ 34 ∷ []
unfolding falls_in
numbers = refl
