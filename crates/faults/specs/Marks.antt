-- 32: "A marker before first or after end (32, 33: the first at fault)"; a kind that 01 does not name is one too. 33: "Its text has a byte outside 0x20 to 0x7E and, under D2, also outside 0xA0 to
-- 0xFF". Assumes nothing.
use Rattle.std.specs.Prelude.{ℕ, ◌/◌, ◌^◌, Bool, not, ◌&&◌, ◌||◌, List, [], ◌∷◌, eqb, ltb, get_or}
use Rattle.texts.specs.Extent.{part}
use Rattle.texts.specs.declared.text.TextRule.{TextRule}
use Rattle.refusal.specs.declared.verdict.Refusal.TheVariants as refused
use Rattle.rows.specs.declared.row.Row.TheVariants.{Marker}
use Rattle.refusal.specs.Verdict.{Verdict, refuse_if, first_of}
use Rattle.refusal.specs.Below.{first_refused}
use Rattle.rows.specs.Row.{row_at, extent_of, count_of_rows}
use Rattle.faults.specs.TextBytes.{has_no_text}

-- a row's second word is kind · 65,536 + flags; the kinds are 0 (track start), 1 (stop), 2 (program start) and 4 (index)
abbrev pub kind_in : ℕ → ℕ
kind_in word = word / 2 ^ 16

abbrev pub is_no_kind : ℕ → Bool
is_no_kind kind = not (eqb kind 0) && (not (eqb kind 1) && (not (eqb kind 2) && not (eqb kind 4)))

module _ (markers raw : List ℕ) (rule : TextRule) (first end : ℕ) where
  -- 32 and 33 of marker k
  abbrev pub marker_fault : ℕ → Verdict
  marker_fault k =
      first_of
      (refuse_if ((ltb (get_or (row_at 4 markers k) 0 0) first || ltb end (get_or (row_at 4 markers k) 0 0)) || is_no_kind (kind_in (get_or (row_at 4 markers k) 1 0))) refused.Marker
      ∷ refuse_if (has_no_text rule (part raw (extent_of 4 (row_at 4 markers k)))) refused.MarkerText
      ∷ [])

  -- the first marker at fault
  unfoldable pub marker_faults : Verdict
  marker_faults = first_refused marker_fault (count_of_rows Marker markers)
