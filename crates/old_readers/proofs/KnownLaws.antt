-- What a read of a build's file knows, by the kind of sound, where it was given what the build was given and made, and lent the needed frames. Assumes nothing.
use mathlib.Core.Path.{◌≡◌, refl, sym, ap, subst, ◌∙◌}
use mathlib.Core.Bool.{Bool}
use mathlib.Core.List.{List, [], ◌∷◌, map}
use Prim.Native.Nat.{ℕ}
use lib.ListN.{length, replicate, length-map, length-replicate}
use Rattle.dst.specs.Frame.{Frame, frame_bytes, dsd_sound}
use Rattle.dst.specs.Unit.{lengths, sizes}
use Rattle.prop_fields.specs.declared.compression.Sound.{Sound}
use Rattle.prop_fields.specs.declared.compression.Sound.TheVariants.{Dsd, Dst}
use Rattle.sound_reads.specs.declared.place.Positions.{Positions}
use Rattle.sound_reads.specs.Positions.{between}
use Rattle.sound_reads.specs.Lent.{needed_at, Plain}
use Rattle.build_options.specs.Area.{area_positions}
use Rattle.file_tree.specs.Sound.{Fits}
use Rattle.read_rules.specs.Format.{unit_sizes}
use Rattle.file_read.specs.Read.{Request, needed_for}
use Rattle.file_read.proofs.PieceLaws.{behind, needed-behind}
use Rattle.old_readers.specs.Premises.{AcceptedBuild, Recorded, Lent, Told, WasGiven}

-- of DST frames
pub record DstRead (fs : List Frame) (q : Request) (room : ℕ) : Type 0 where
  pub kind : q.format.sound ≡ Dst
  pub told : q.lengths ≡ lengths fs
  pub plain : Plain q.format.crc q.format.channels fs
  pub lent : Lent Dst q.format.crc fs q room

-- of DSD contents
pub record DsdRead (xs : List (List ℕ)) (q : Request) (room : ℕ) : Type 0 where
  pub kind : q.format.sound ≡ Dsd
  pub told : q.format.positions ≡ length xs
  pub even : map (λ (c : List ℕ). length c) xs ≡ replicate (length xs) (frame_bytes q.format.channels)
  pub lent : q.contents ≡ dsd_sound (between (needed_for q room) xs)

abbrev pub contents_of : List Frame → List (List ℕ)
contents_of fs = map (λ (f : Frame). f.content) fs

-- of frames
abbrev pub ReadOf : Sound → List Frame → Request → ℕ → Type 0
ReadOf Dsd fs q room = DsdRead (contents_of fs) q room
ReadOf Dst fs q room = DstRead fs q room

-- the positions that it needs, behind the header, by the units of the frames
module _ (q : Request) (out : List ℕ) where
  needed_of : (ss : List ℕ) → unit_sizes q.format q.lengths ≡ ss → needed_for q (length out) ≡ needed_at ss (behind q out) out
  needed_of ss e = sym (needed-behind q out) ∙ ap (λ (l : List ℕ). needed_at l (behind q out) out) e

  abbrev pub dst_needs : List Frame → Positions
  dst_needs fs = needed_at (sizes q.format.crc (lengths fs)) (behind q out) out

  pub dst-needs : (fs : List Frame) → DstRead fs q (length out) → needed_for q (length out) ≡ dst_needs fs
  dst-needs fs r = needed_of _ (rw (r.kind, r.told))

  abbrev pub dsd_needs : List (List ℕ) → Positions
  dsd_needs xs = needed_at (replicate (length xs) (frame_bytes q.format.channels)) (behind q out) out

  pub dsd-needs : (xs : List (List ℕ)) → DsdRead xs q (length out) → needed_for q (length out) ≡ dsd_needs xs
  dsd-needs xs r = needed_of _ (rw (r.kind, r.told))

map-lengths : (fs : List Frame) → map (λ (c : List ℕ). length c) (contents_of fs) ≡ map (λ (f : Frame). length f.content) fs
map-lengths [] = refl
map-lengths (f ∷ fs) = ap (λ (l : List ℕ). length f.content ∷ l) (map-lengths fs)

module _ (b : AcceptedBuild) (fs : List Frame) (recorded : Recorded b.inputs fs) (q : Request) (room : ℕ) (given : WasGiven b fs q room) where
  by-sound : (s : Sound) → b.inputs.area.sound ≡ s → Told s b.inputs q → Lent s b.inputs.options.dst_crc fs q room
      → Fits s b.inputs.area b.inputs.lengths fs → ReadOf s fs q room
  by-sound Dst e ls lent fits = record {
    kind = given.kind ∙ e;
    told = ls ∙ sym fits;
    plain = rw (given.crc, given.channels) recorded.plain;
    lent = subst (λ (c : Bool). Lent Dst c fs q room) (sym given.crc) lent;
  }
  by-sound Dsd e many lent fits =
      let count = area_positions b.inputs.area in
      let all : map (λ (c : List ℕ). length c) (contents_of fs) ≡ replicate count (frame_bytes b.inputs.area.channels) = map-lengths fs ∙ fits in
      let n : length (contents_of fs) ≡ count = sym (length-map (contents_of fs) (λ (c : List ℕ). length c)) ∙ ap length all ∙ length-replicate count _ in
      record { kind = given.kind ∙ e; told = many ∙ sym n; even = rw (given.channels, n) all; lent = lent }

  pub read_of : ReadOf b.inputs.area.sound fs q room
  read_of = by-sound b.inputs.area.sound refl given.lengths given.frames recorded.fits
