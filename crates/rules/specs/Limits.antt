-- 1: "A text (EMID and marker texts included) exceeds 1,048,576 values, or tracks exceed 65,535, caller chunks 255, custom markers 65,535, or one caller chunk
-- 16,777,216 bytes" (01; the values by 02, job 3, the tracks by 02, job 10). 2: "A stretch runs outside its pool". 3: "A text value is no Unicode scalar". Every text that is given counts,
-- used or not; given markers only if they are wanted. Assumes nothing.
use Rattle.std.specs.Prelude.{ℕ, ◌-◌, ◌^◌, Bool, ◌&&◌, ◌||◌, List, [], ◌∷◌, length}
use Rattle.refusal.specs.Verdict.{Verdict, refuse_if, first_of}
use Rattle.row_extents.specs.Extents.{too_large, outside_pool}
use Rattle.rows.specs.Scalars.{no_scalars}
use Rattle.refusal.specs.declared.verdict.Refusal.TheVariants as refused
use Rattle.rows.specs.declared.row.Row.TheVariants.{Text, Caller, Track, Marker, Comment}
use Rattle.build_options.specs.declared.options.Options.{Options}
use Rattle.build_options.specs.Options.{tag_rows, id_row}

-- the longest text, and the longest data of a caller chunk
abbrev pub longest_text : ℕ
longest_text = 1_048_576

abbrev pub longest_caller_chunk : ℕ
longest_caller_chunk = 16_777_216

abbrev pub most_tracks : ℕ
most_tracks = 65_535

abbrev pub most_caller_chunks : ℕ
most_caller_chunks = 255

abbrev pub most_markers : ℕ
most_markers = 65_535

-- more than any list has
abbrev pub any_number : ℕ
any_number = 2 ^ 64 - 1

module _ (o : Options) where
  abbrev tags : List ℕ
  tags = tag_rows o.album o.track

  abbrev emid_row : List ℕ
  emid_row = id_row o.edited_master_id

  -- 1
  unfoldable pub any_too_large : List ℕ → List ℕ → List ℕ → List ℕ → Bool
  any_too_large tracks markers comments callers =
      too_large Text tags any_number longest_text
      || (too_large Text emid_row any_number longest_text
      || (too_large Track tracks most_tracks longest_text
      || ((o.custom_markers && too_large Marker markers most_markers longest_text)
      || (too_large Comment comments any_number longest_text || too_large Caller callers most_caller_chunks longest_caller_chunk))))

  -- 2, of a text pool and a byte pool of so many elements
  unfoldable pub any_outside : ℕ → ℕ → List ℕ → List ℕ → List ℕ → List ℕ → Bool
  any_outside pool raw tracks markers comments callers =
      outside_pool Text tags pool
      || (outside_pool Text emid_row raw
      || (outside_pool Track tracks pool
      || ((o.custom_markers && outside_pool Marker markers raw) || (outside_pool Comment comments pool || outside_pool Caller callers raw))))

  -- 3
  unfoldable pub any_no_scalar : List ℕ → List ℕ → List ℕ → Bool
  any_no_scalar pool tracks comments = no_scalars Text tags pool || (no_scalars Track tracks pool || no_scalars Comment comments pool)

  -- 1 to 3
  unfoldable pub limit_faults : List ℕ → List ℕ → List ℕ → List ℕ → List ℕ → List ℕ → Verdict
  limit_faults pool raw tracks markers comments callers =
      first_of
      (refuse_if (any_too_large tracks markers comments callers) refused.TooLarge
      ∷ refuse_if (any_outside (length pool) (length raw) tracks markers comments callers) refused.OutsidePool
      ∷ refuse_if (any_no_scalar pool tracks comments) refused.NoScalar
      ∷ [])
