-- Windows (02: "whether a comment falls in a window of date and minute, start counted in and end counted out; an undated note falls in none. Window start, end and comment, in this
-- order, meet 34 or 46; an undated start or end meets 46"). Assumes nothing.
use Rattle.std.specs.Prelude.{Bool, cond, not, ◌&&◌, [], ◌∷◌, ℕ, Result, Ok, Err}
use Rattle.refusal.specs.declared.verdict.Refusal.{Refusal}
use Rattle.refusal.specs.Verdict.{Verdict, first_of, number_of, refusal_detail}
use Rattle.calendar.specs.declared.date.Stamp.{Stamp}
use Rattle.calendar.specs.Date.{is_undated, date_fault, note_fault}
use Rattle.calendar.specs.Order.{earlier}

-- dated, not before the start, and before the end
abbrev pub is_inside : Stamp → Stamp → Stamp → Bool
is_inside start end note = not (is_undated note) && (not (earlier note start) && earlier note end)

abbrev pub window_fault : Stamp → Stamp → Stamp → Verdict
window_fault start end note = first_of (date_fault start ∷ date_fault end ∷ note_fault note ∷ [])

-- whether a note falls in a window, or the refusal
abbrev pub Falls : Type 0
Falls = Result Bool Refusal

-- what is told where nothing is refused
abbrev pub told_unless : Verdict → Bool → Falls
told_unless (Ok done) inside = Ok inside
told_unless (Err r) inside = Err r

unfoldable pub falls_in : Stamp → Stamp → Stamp → Falls
falls_in start end note = told_unless (window_fault start end note) (is_inside start end note)

-- the refusal's number of an answer; 0 stands for one that is told
abbrev pub falls_number : Falls → ℕ
falls_number falls = number_of falls

-- 1 where the note falls in, else 0; or the refusal's detail
abbrev pub falls_value : Falls → ℕ
falls_value (Ok inside) = cond inside 1 0
falls_value (Err r) = refusal_detail r
