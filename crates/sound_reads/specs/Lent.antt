-- The file that a read is of, as far as what is lent says: zeros stand for the frames that it does not need. Assumes nothing.
use Rattle.std.specs.Prelude.{ℕ, ◌*◌, ◌-◌, ◌≡◌, Bool, true, false, cond, ◌&&◌, eqb, length, take, drop, replicate}
use mathlib.Core.List.{List, [], ◌∷◌, ◌++◌, map, flat_map}
use Rattle.chunk_names.specs.Name.{same}
use Rattle.chunk.specs.Rows.{first_rows}
use Rattle.sound_reads.specs.declared.place.Positions.{Positions}
use Rattle.window.specs.declared.window.Window.{Window}
use Rattle.dst.specs.Frame.{Frame, frame_bytes}
use Rattle.dst.specs.Start.{sum}
use Rattle.sound_reads.specs.Positions.{positions_for, number, between}

-- the positions that a read at the place w needs to fill the rest of its buffer, by the units' sizes
abbrev pub needed_at : List ℕ → Window → List ℕ → Positions
needed_at ss w out = positions_for ss w.skip (length out - w.at)

-- whether what is lent for positions of these lengths is theirs: the same lengths, as many DST bytes, and n bytes of content for each
unfoldable pub is_lent : ℕ → List ℕ → List ℕ → List ℕ → List ℕ → Bool
is_lent n needed lengths frames contents =
    same lengths needed && (eqb (sum needed) (length frames) && eqb (n * length needed) (length contents))

-- the frames of these lengths, whose DST bytes are joined and whose contents, n bytes each, are joined
unfoldable pub lent_frames : ℕ → List ℕ → List ℕ → List ℕ → List Frame
lent_frames n [] frames contents = []
lent_frames n (l ∷ ls) frames contents =
    record { code = take l frames; content = take n contents } ∷ lent_frames n ls (drop l frames) (drop n contents)

-- frames of zeros
unfoldable pub zero_frame : ℕ → ℕ → Frame
zero_frame n l = record { code = replicate l 0; content = replicate n 0 }

-- the frames of a file with these lengths, of which those of some positions are lent
unfoldable pub frames_with : ℕ → Positions → List ℕ → List ℕ → List ℕ → List Frame
frames_with n p ls frames contents =
    map (zero_frame n) (take p.first ls) ++ lent_frames n (between p ls) frames contents ++ map (zero_frame n) (drop p.end ls)

-- the contents of n positions, of frame bytes each, of which those of some positions are lent
unfoldable pub contents_with : ℕ → Positions → ℕ → List ℕ → List (List ℕ)
contents_with frame p n contents =
    replicate p.first (replicate frame 0) ++ first_rows frame (number p) contents ++ replicate (n - p.end) (replicate frame 0)

-- What the needed frames of a real file lend: their lengths (`lengths`), their DST bytes joined and, with CRC on, their plain contents joined.
abbrev pub codes : List Frame → List ℕ
codes fs = flat_map (λ (f : Frame). f.code) fs

abbrev pub contents : Bool → List Frame → List ℕ
contents crc fs = cond crc (flat_map (λ (f : Frame). f.content) fs) []

-- frames whose contents have n bytes each
abbrev pub Even : ℕ → List Frame → Type 0
Even n [] = Unit {0}
Even n (f ∷ fs) = (length f.content ≡ n) × Even n fs

-- with CRC on, each content has a frame's length
abbrev pub Plain : Bool → ℕ → List Frame → Type 0
Plain true channels fs = Even (frame_bytes channels) fs
Plain false channels fs = Unit {0}
