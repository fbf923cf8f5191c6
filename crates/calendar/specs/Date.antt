-- Dates. 34: "Comment month over 12, day 31, hour 23 or minutes 59 (34 to 36: the first at fault)"; a year that passes its field is one too. 46: "A comment's date must be a Gregorian date with year 1 or
-- later, or have month and day both zero, the sign for an undated note" (02: "Leap years follow the 4, 100 and 400 rule"; "It refuses with 46 any other date"). Assumes nothing.
use Rattle.std.specs.Prelude.{ℕ, ◌%◌, Bool, cond, not, ◌&&◌, ◌||◌, [], ◌∷◌, eqb, leb, ltb}
use Rattle.refusal.specs.declared.verdict.Refusal.TheVariants.{CommentDate, NoDate}
use Rattle.refusal.specs.Verdict.{Verdict, refuse_if, first_of}
use Rattle.calendar.specs.declared.date.Stamp.{Stamp}

-- a year that 4 divides; of those that 100 divides, only the ones that 400 divides
abbrev pub is_leap : ℕ → Bool
is_leap year = eqb (year % 4) 0 && (not (eqb (year % 100) 0) || eqb (year % 400) 0)

-- April, June, September and November
abbrev pub is_short : ℕ → Bool
is_short month = eqb month 4 || (eqb month 6 || (eqb month 9 || eqb month 11))

-- the days of a month
abbrev pub days_in : ℕ → ℕ → ℕ
days_in year month = cond (eqb month 2) (cond (is_leap year) 29 28) (cond (is_short month) 30 31)

-- a date of the Gregorian calendar, which is taken back to year 1
abbrev pub is_date : Stamp → Bool
is_date s =
    leb 1 s.year
    && (leb 1 s.month && (leb s.month 12 && (leb 1 s.day && leb s.day (days_in s.year s.month))))

-- the sign for an undated note; its year, hour and minutes may say anything that 34 allows
abbrev pub is_undated : Stamp → Bool
is_undated s = eqb s.month 0 && eqb s.day 0

-- a number that passes what 34 allows
abbrev pub out_of_range : Stamp → Bool
out_of_range s = ltb 65_535 s.year || (ltb 12 s.month || (ltb 31 s.day || (ltb 23 s.hour || ltb 59 s.minutes)))

-- 34, then 46 where it is not allowed
abbrev pub stamp_fault : Stamp → Bool → Verdict
stamp_fault s allowed = first_of (refuse_if (out_of_range s) CommentDate ∷ refuse_if (not allowed) NoDate ∷ [])

-- of what must be a date
abbrev pub date_fault : Stamp → Verdict
date_fault s = stamp_fault s (is_date s)

-- of a note, which may be undated
abbrev pub note_fault : Stamp → Verdict
note_fault s = stamp_fault s (is_date s || is_undated s)
