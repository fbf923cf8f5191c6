-- The sound chunk, of either kind of sound (01: "DST data is FRTE (frames u32, 75 as u16), then per frame DSTF and, with CRC on, DSTC"; a DSD frame is its
-- plain content). Assumes nothing.
use Rattle.std.specs.Prelude.{◌≡◌, Bool, List, ◌++◌, map, ℕ, ◌*◌, length, replicate}
use Rattle.chunk.specs.Number.{be}
use Rattle.chunk_names.specs.Name.{ascii}
use Rattle.tree.specs.Tree.{Chunks, stop, leaf}
use Rattle.dst.specs.Frame.{Frame, frame_bytes, dsd_sound}
use Rattle.dst.specs.Unit.{sound, lengths, sizes}
use Rattle.dst.specs.Start.{sum}
use Rattle.dst.specs.Head.{head, dst}
use Rattle.prop_fields.specs.declared.compression.Sound.{Sound}
use Rattle.prop_fields.specs.declared.compression.Sound.TheVariants.{Dsd, Dst}
use Rattle.build_options.specs.declared.area.Area.{Area}
use Rattle.build_options.specs.Area.{area_positions}

-- the sound of frames
unfoldable pub sound_bytes : Sound → Bool → List Frame → List ℕ
sound_bytes Dsd crc fs = dsd_sound (map (λ (f : Frame). f.content) fs)
sound_bytes Dst crc fs = sound crc fs

-- the chunk that holds it
unfoldable pub sound_chunk : Sound → Bool → List Frame → Chunks
sound_chunk Dsd crc fs = leaf (ascii "DSD ") (sound_bytes Dsd crc fs) stop
sound_chunk Dst crc fs = dst crc fs stop

-- frames of the lengths that a build is given: of DSD each has a frame's bytes of content, of DST as many DST bytes as its length says
abbrev pub Fits : Sound → Area → List ℕ → List Frame → Type 0
Fits Dsd a ls fs = map (λ (f : Frame). length f.content) fs ≡ replicate (area_positions a) (frame_bytes a.channels)
Fits Dst a ls fs = lengths fs ≡ ls

-- how long the sound of such frames is
unfoldable pub sound_size : Sound → Area → Bool → List ℕ → ℕ
sound_size Dsd a crc ls = area_positions a * frame_bytes a.channels
sound_size Dst a crc ls = sum (sizes crc ls)

-- the sound chunk up to the first sound byte
unfoldable pub sound_head : Sound → Area → Bool → List ℕ → List ℕ
sound_head Dsd a crc ls = ascii "DSD " ++ be 8 (sound_size Dsd a crc ls)
sound_head Dst a crc ls = head crc ls
