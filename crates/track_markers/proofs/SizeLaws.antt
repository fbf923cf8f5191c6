-- How large DIIN can be, where its texts and markers keep to limits: far below what a size can tell. Assumes nothing.
use mathlib.Core.Path.{◌≡◌, refl}
use mathlib.Core.Bool.{Bool, true, false, cond, ◌&&◌}
use mathlib.Core.List.{List, [], ◌∷◌, ◌++◌, flat_map}
use Prim.Native.Nat.{ℕ, suc, ◌+◌, ◌*◌, ◌-◌, ◌≤◌}
use native.Mathlib.Nat.{le_trans}
use native.Mathlib.Omega.{arith}
use lib.Dec.{eqb}
use lib.ListN.{length, take, drop, length-append, length-take, length-drop}
use Rattle.chunk_names.specs.Name.{ascii}
use Rattle.chunk.specs.Chunk.{chunk, occupied}
use Rattle.tree.specs.Tree.{bytes, each}
use Rattle.chunk.proofs.ChunkLaws.{length-chunk}
use Rattle.tree.proofs.TreeLaws.{bytes-stop, bytes-leaf, bytes-each-cons}
use Rattle.texts.proofs.ExtentLaws.{length_part}
use Rattle.texts.proofs.TextLaws.{extent_short}
use Rattle.markers.specs.Marker.{mark, mark_data, marker_text}
use Rattle.tracks.specs.Track.{clip, kept, clipped, has_frames, any_spans}
use Rattle.track_markers.specs.Program.{track_start, track_stop, stop_unless, track_markers, program, source_span, source_markers, from_toc}
use Rattle.tracks.specs.Order.{has_program}
use Rattle.markers.specs.declared.marker.Marker.{Marker}
use Rattle.markers.specs.declared.marker.Marking.{Marking}
use Rattle.markers.specs.declared.marker.MarkerText.{MarkerText}
use Rattle.markers.specs.declared.marker.MarkerText.TheVariants.{Empty, Bytes, Title}
use Rattle.tracks.specs.declared.order.ProgramOptions.{ProgramOptions}
use Rattle.tracks.specs.declared.track.Span.{Span}
use Rattle.markers.proofs.AllLaws.{All, append_all, if-all, either_all, one_all}
use Rattle.markers.proofs.MarkerLaws.{length-mark_data}

-- a chunk with at most so many bytes of data
pub chunk-room : (name content : List ℕ) (n : ℕ) → length name ≡ 4 → length content ≤ n → length (chunk name content) ≤ 13 + n
unfolding occupied
chunk-room name content n four fits = omega (arith, length-chunk name content four, fits)

module _ (n : ℕ) where
  -- a marker's text, and the texts of markers, have at most n values or bytes
  abbrev pub ShortText : MarkerText → Type 0
  ShortText Empty = Unit {0}
  ShortText (Bytes e) = e.length ≤ n
  ShortText (Title e) = e.length ≤ n

  abbrev pub ShortTexts : List Marker → Type 0
  ShortTexts ms = All (λ m. ShortText m.text) ms

  abbrev pub ShortTitles : List Span → Type 0
  ShortTitles ss = All (λ s. s.title.length ≤ n) ss

  pub text-room : (pool raw : List ℕ) (how : Marking) (t : MarkerText) → ShortText t → length (marker_text pool raw how.text.rule t) ≤ n
  text-room pool raw how Empty h = omega arith
  text-room pool raw how (Bytes e) h = le_trans (length_part raw e) h
  text-room pool raw how (Title e) h = le_trans (extent_short how.text.rule pool e) h

  mark-room : (pool raw : List ℕ) (how : Marking) (m : Marker) → ShortText m.text → length (bytes (mark pool raw how m)) ≤ 36 + n
  unfolding mark
  mark-room pool raw how m h =
      let text = marker_text pool raw how.text.rule m.text in
      let room : length (mark_data how m text) ≤ 23 + n = omega (arith, length-mark_data how m text, text-room pool raw how m.text h) in
      rw (bytes-leaf) (omega (arith, chunk-room (ascii "MARK") (mark_data how m text) (23 + n) refl room))

  pub marks-room : (pool raw : List ℕ) (how : Marking) (ms : List Marker) → ShortTexts ms → length (bytes (each (mark pool raw how) ms)) ≤ (36 + n) * length ms
  unfolding each
  marks-room pool raw how [] h = rw (bytes-stop) (omega arith)
  marks-room pool raw how (m ∷ ms) h =
      rw (bytes-each-cons, length-append) (omega (arith, mark-room pool raw how m h.0, marks-room pool raw how ms h.1))

  -- clipping drops spans, and leaves the others their titles
  clipped-short : (first end : ℕ) (ss : List Span) → ShortTitles ss → ShortTitles (clipped first end ss)
  unfolding clipped flat_map kept clip
  clipped-short first end [] h = tt
  clipped-short first end (s ∷ ss) h = go (has_frames (clip first end s)) (clipped first end ss) (clipped-short first end ss h.1)
    where
      go : (b : Bool) (rest : List Span) → ShortTitles rest → ShortTitles (cond b (clip first end s ∷ []) [] ++ rest)
      go true rest more = (h.0, more)
      go false rest more = more

  stop-short : (s : Span) (ss : List Span) → ShortTexts (stop_unless s ss)
  unfolding stop_unless track_stop
  stop-short s [] = (tt, tt)
  stop-short s (next ∷ ss) = go (eqb next.start s.end)
    where
      go : (b : Bool) → ShortTexts (cond b [] (track_stop s ∷ []))
      go true = tt
      go false = (tt, tt)

  start-short : (titles : Bool) (s : Span) → s.title.length ≤ n → ShortText (track_start titles s).text
  unfolding track_start
  start-short true s h = h
  start-short false s h = tt

  tracks-short : (titles : Bool) (ss : List Span) → ShortTitles ss → ShortTexts (track_markers titles ss)
  unfolding track_markers
  tracks-short titles [] h = tt
  tracks-short titles (s ∷ ss) h =
      (start-short titles s h.0, append_all (λ m. ShortText m.text) (stop_unless s ss) (track_markers titles ss) (stop-short s ss) (tracks-short titles ss h.1))

  program-short : (first : ℕ) (titles : Bool) (ss : List Span) → ShortTitles ss → ShortTexts (program first titles ss)
  unfolding program
  program-short first titles ss h = (tt, tracks-short titles ss h)

  -- markers that are made from tracks
  pub toc_short : (p : ProgramOptions) (ss : List Span) → ShortTitles ss → ShortTexts (from_toc p ss)
  unfolding from_toc source_markers source_span
  toc_short p ss h =
      let left = clipped p.first p.end (source_span p ss) in
      either_all (λ m. ShortText m.text) (eqb p.source_track 0) _ _
      (if-all (λ m. ShortText m.text) (has_program p ss) _ (program-short p.first p.titles _ (clipped-short p.first p.end ss h)))
      (if-all (λ m. ShortText m.text) (p.source_track_markers && any_spans left) _
      (program-short p.first p.titles left (clipped-short p.first p.end (source_span p ss) (one_all (λ s. s.title.length ≤ n) (p.source_track - 1) ss h))))

-- how many markers spans make: at most two each, and the program's start
clipped-few : (first end : ℕ) (ss : List Span) → length (clipped first end ss) ≤ length ss
unfolding clipped flat_map kept
clipped-few first end [] = omega arith
clipped-few first end (s ∷ ss) = go (has_frames (clip first end s)) (clipped-few first end ss)
  where
    go : (b : Bool) → length (clipped first end ss) ≤ length ss → length (cond b (clip first end s ∷ []) [] ++ clipped first end ss) ≤ suc (length ss)
    go true h = omega (arith, h)
    go false h = omega (arith, h)

stop-few : (s : Span) (ss : List Span) → length (stop_unless s ss) ≤ 1
unfolding stop_unless
stop-few s [] = omega arith
stop-few s (next ∷ ss) = go (eqb next.start s.end)
  where
    go : (b : Bool) → length (cond b [] (track_stop s ∷ [])) ≤ 1
    go true = omega arith
    go false = omega arith

tracks-few : (titles : Bool) (ss : List Span) → length (track_markers titles ss) ≤ 2 * length ss
unfolding track_markers
tracks-few titles [] = omega arith
tracks-few titles (s ∷ ss) = rw (length-append) (omega (arith, stop-few s ss, tracks-few titles ss))

program-few : (first : ℕ) (titles : Bool) (ss : List Span) (k : ℕ) → length ss ≤ k → length (program first titles ss) ≤ 1 + 2 * k
unfolding program
program-few first titles ss k h = omega (arith, tracks-few titles ss, h)

if-few : (b : Bool) (ms : List Marker) (k : ℕ) → length ms ≤ k → length (cond b ms []) ≤ k
if-few true ms k h = h
if-few false ms k h = omega arith

either-few : (b : Bool) (ms ns : List Marker) (k : ℕ) → length ms ≤ k → length ns ≤ k → length (cond b ms ns) ≤ k
either-few true ms ns k i j = i
either-few false ms ns k i j = j

one-few : (k : ℕ) (ss : List Span) → length (take 1 (drop k ss)) ≤ length ss
one-few k ss = rw (length-take, length-drop) (omega arith)

pub toc_few : (p : ProgramOptions) (ss : List Span) → length (from_toc p ss) ≤ 1 + 2 * length ss
unfolding from_toc source_markers source_span
toc_few p ss =
    let left = clipped p.first p.end (source_span p ss) in
    either-few (eqb p.source_track 0) _ _ (1 + 2 * length ss)
    (if-few (has_program p ss) _ _ (program-few p.first p.titles _ (length ss) (clipped-few p.first p.end ss)))
    (if-few (p.source_track_markers && any_spans left) _ _
    (program-few p.first p.titles left (length ss) (le_trans (clipped-few p.first p.end (source_span p ss)) (one-few (p.source_track - 1) ss))))
