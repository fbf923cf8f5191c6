-- 4: "A caller name has a byte outside 0x20 to 0x7E or a space before a non-space (4, 5: the first at fault)". 5: "A caller name is FRM8, FVER, PROP, "DSD ", "DST ",
-- DSTI, COMT, DIIN or MANF". Assumes nothing.
use Rattle.std.specs.Prelude.{ℕ, Bool, true, false, not, ◌&&◌, ◌||◌, List, [], ◌∷◌, eqb, get_or}
use Rattle.chunk.specs.Number.{be}
use Rattle.chunk_names.specs.Name.{Name, reserved}
use Rattle.texts.specs.Text.{printable}
use Rattle.refusal.specs.declared.verdict.Refusal.TheVariants.{CallerName, ReservedName}
use Rattle.rows.specs.declared.row.Row.TheVariants.{Caller}
use Rattle.refusal.specs.Verdict.{Verdict, refuse_if, first_of}
use Rattle.refusal.specs.Below.{first_refused}
use Rattle.rows.specs.Row.{row_at, count_of_rows}

-- whether all bytes are text bytes
abbrev pub all_text : List ℕ → Bool
all_text [] = true
all_text (x ∷ []) = printable x
all_text (x ∷ (y ∷ s)) = printable x && all_text (y ∷ s)

-- a space, and after it something else
abbrev pub space_then_more : ℕ → ℕ → Bool
space_then_more x y = eqb x 0x20 && not (eqb y 0x20)

-- whether a space stands before another byte
abbrev pub spaced : List ℕ → Bool
spaced [] = false
spaced (x ∷ []) = false
spaced (x ∷ (y ∷ [])) = space_then_more x y
spaced (x ∷ (y ∷ (z ∷ s))) = space_then_more x y || spaced (y ∷ (z ∷ s))

abbrev pub is_no_name : Name → Bool
is_no_name name = not (all_text name) || spaced name

-- 4 and 5 of one name
abbrev pub name_fault : Name → Verdict
name_fault name = first_of (refuse_if (is_no_name name) CallerName ∷ refuse_if (reserved name) ReservedName ∷ [])

-- the name of caller chunk k: the four bytes of its row's first word
abbrev pub caller_name : List ℕ → ℕ → Name
caller_name callers k = be 4 (get_or (row_at 3 callers k) 0 0)

-- 4 and 5: the first caller chunk at fault
unfoldable pub caller_faults : List ℕ → Verdict
caller_faults callers = first_refused (λ k. name_fault (caller_name callers k)) (count_of_rows Caller callers)
