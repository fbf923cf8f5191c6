-- The rows of lent markers, read back, are the markers: their frame, kind, flags and text. Assumes nothing.
use mathlib.Core.Path.{◌≡◌, refl, ap, ◌∙◌}
use mathlib.Core.List.{List, [], ◌∷◌, map, flat_map}
use Prim.Native.Nat.{ℕ, ◌+◌, ◌*◌, ◌/◌, ◌%◌, ◌^◌, ◌<◌}
use native.Mathlib.Omega.{arith}
use lib.ListN.{length}
use Rattle.chunk.specs.Rows.{first_rows, rows}
use Rattle.markers.specs.Marker.{kind_number}
use Rattle.markers.specs.Custom.{kind_of, custom_of, customs}
use Rattle.markers.specs.declared.marker.MarkerKind.{MarkerKind}
use Rattle.markers.specs.declared.marker.MarkerKind.TheVariants.{TrackStart, TrackStop, ProgramStart, Index}
use Rattle.markers.specs.declared.marker.MarkerText.TheVariants.{Bytes}
use Rattle.markers.specs.declared.marker.Marker as given
use Rattle.dsdiff.specs.declared.marker.Marker.{Marker}
use Rattle.dsdiff.specs.Marker.{row_of, rows_of}

-- a lent marker, as the markers of DIIN are
abbrev pub as_given : Marker → given.Marker
as_given m = record { frame = m.frame; kind = m.kind; track_flags = m.flags; text = Bytes m.text }

-- flags are numbers of 16 bits, as their field is
abbrev pub SmallFlags : List Marker → Type 0
SmallFlags [] = Unit {0}
SmallFlags (m ∷ ms) = (m.flags < 2 ^ 16) × SmallFlags ms

high : (k f : ℕ) → f < 2 ^ 16 → (k * 2 ^ 16 + f) / 2 ^ 16 ≡ k
high k f small = omega arith

low : (k f : ℕ) → f < 2 ^ 16 → (k * 2 ^ 16 + f) % 2 ^ 16 ≡ f
low k f small = omega arith

kind-back : (k : MarkerKind) → kind_of (kind_number k) ≡ k
unfolding kind_of
kind-back TrackStart = refl
kind-back TrackStop = refl
kind-back ProgramStart = refl
kind-back Index = refl

row_back : (m : Marker) → m.flags < 2 ^ 16 → custom_of (row_of m) ≡ as_given m
unfolding custom_of
row_back m small =
    rw (high (kind_number m.kind) m.flags small, low (kind_number m.kind) m.flags small, kind-back m.kind)

rows_split : (ms : List Marker) → first_rows 4 (length ms) (rows_of ms) ≡ map row_of ms
unfolding first_rows rows_of flat_map
rows_split [] = refl
rows_split (m ∷ ms) = ap (λ (l : List (List ℕ)). row_of m ∷ l) (rows_split ms)

length-rows_of : (ms : List Marker) → length (rows_of ms) ≡ length ms * 4
unfolding rows_of flat_map
length-rows_of [] = refl
length-rows_of (m ∷ ms) = omega (arith, length-rows_of ms)

pub rows_back : (ms : List Marker) → SmallFlags ms → customs (rows_of ms) ≡ map as_given ms
unfolding customs rows
rows_back ms small =
    let count : length (rows_of ms) / 4 ≡ length ms = omega (arith, length-rows_of ms) in
    ap (λ (n : ℕ). map custom_of (first_rows 4 n (rows_of ms))) count ∙ ap (map custom_of) (rows_split ms) ∙ each ms small
  where
    each : (ms : List Marker) → SmallFlags ms → map custom_of (map row_of ms) ≡ map as_given ms
    each [] small = refl
    each (m ∷ ms) small = rw (row_back m small.0, each ms small.1)
