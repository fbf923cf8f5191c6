-- The time of a frame (01: "Frame time g: hours g/270,000 (u16), minutes g/4,500 mod 60, seconds g/75 mod 60 (bytes), samples (g mod 75) ×
-- 37,632 (u32)"). Assumes nothing.
use Rattle.std.specs.Prelude.{ℕ, ◌*◌, ◌/◌, ◌%◌, ◌^◌, List, [], ◌∷◌, ◌++◌}
use Rattle.chunk.specs.Number.{be}
use Rattle.frame_time.specs.declared.time.FrameTime.{FrameTime}

abbrev pub frames_per_second : ℕ
frames_per_second = 75

abbrev pub frames_per_minute : ℕ
frames_per_minute = 4_500

abbrev pub frames_per_hour : ℕ
frames_per_hour = 270_000

abbrev pub samples_per_frame : ℕ
samples_per_frame = 37_632

-- hours, minutes, seconds and samples of frame g; of the hours the low 16 bits, which are all that the file's field holds
unfoldable pub time_of : ℕ → FrameTime
time_of g = record {
  hours = g / frames_per_hour % 2 ^ 16;
  minutes = g / frames_per_minute % 60;
  seconds = g / frames_per_second % 60;
  samples = g % frames_per_second * samples_per_frame;
}

-- a time as ABSS and MARK have it: hours u16, minutes and seconds bytes, samples u32
unfoldable pub time_bytes : FrameTime → List ℕ
time_bytes t = be 2 t.hours ++ (t.minutes ∷ []) ++ (t.seconds ∷ []) ++ be 4 t.samples
