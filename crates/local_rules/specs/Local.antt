-- The order of the local chunks: 37 "Local order repeats" (a count above 5 is a repeat), 38 "It lacks a chunk to be written" (DIIN, COMT and DSTI that are not written need
-- not be named, and names that are not needed are ignored), 39 "PROP after sound". Assumes nothing.
use Rattle.std.specs.Prelude.{ℕ, min, Bool, ◌&&◌, ◌||◌, List, [], ◌∷◌, map, eqb, ltb, length, get_or, take}
use Rattle.comt.specs.Comment.{written_comments, has_comt}
use Rattle.chunk_names.specs.declared.InfoChunk.{InfoChunk}
use Rattle.chunk_names.specs.declared.LocalChunk.{LocalChunk}
use Rattle.chunk_names.specs.declared.LocalChunk.TheVariants.{Property, SoundData, DstIndex, EditedMasterInfo, Comments}
use Rattle.master_info.specs.Diin.{has_diin}
use Rattle.master_info.specs.declared.diin.Info.{Info}
use Rattle.refusal.specs.Verdict.{Verdict, refuse_if, first_of}
use Rattle.refusal.specs.Below.{any}
use Rattle.refusal.specs.Orders.{local_rank, times}
use Rattle.refusal.specs.declared.verdict.Refusal.TheVariants as refused

-- a name is there twice
abbrev pub repeats : List ℕ → Bool
repeats ranks = any (λ rank. ltb 1 (times ranks rank)) 5

-- a name is not there
abbrev pub lacks : List ℕ → ℕ → Bool
lacks ranks rank = eqb (times ranks rank) 0

-- place k names the sound, and no place before it PROP
abbrev pub sound_first : List ℕ → ℕ → Bool
sound_first ranks k = eqb (get_or ranks k 0) (local_rank SoundData) && lacks (take k ranks) (local_rank Property)

-- the sound comes before PROP
abbrev pub sound_before_prop : List ℕ → Bool
sound_before_prop ranks = any (sound_first ranks) (length ranks)

module _ (pool raw tracks markers comments : List ℕ) (order : List InfoChunk) (info : Info) (dsti : Bool) where
  -- a chunk that will be written is not named
  unfoldable pub lacks_any : List ℕ → Bool
  lacks_any ranks =
      lacks ranks (local_rank Property)
      || (lacks ranks (local_rank SoundData)
      || ((dsti && lacks ranks (local_rank DstIndex))
      || ((lacks ranks (local_rank EditedMasterInfo) && has_diin pool raw tracks markers info order)
      || (lacks ranks (local_rank Comments) && has_comt (written_comments pool comments info.text)))))

  -- 37 to 39 of the names that count, where so many are told
  unfoldable pub order_faults : List ℕ → ℕ → Verdict
  order_faults ranks count =
      first_of
      (refuse_if (ltb 5 count || repeats ranks) refused.LocalOrderRepeats
      ∷ refuse_if (lacks_any ranks) refused.LocalOrderLacks
      ∷ refuse_if (sound_before_prop ranks) refused.SoundBeforeProperty
      ∷ [])

  -- 37 to 39
  abbrev pub local_faults : List LocalChunk → ℕ → Verdict
  local_faults local count = order_faults (take (min count 5) (map local_rank local)) count
