-- THE WHOLE FILE, from the promise of a build and nothing else. Assumes nothing.
use mathlib.Core.Path.{◌≡◌, refl, sym, ap, ◌∙◌}
use mathlib.Core.List.{List, ◌++◌}
use Prim.Native.Nat.{ℕ, ◌-◌, ◌*◌, ◌<◌}
use native.Mathlib.Omega.{arith}
use lib.ListN.{length, take, drop, get_or}
use lib.Seq.{take_at}
use Rattle.chunk.specs.Number.{num}
use Rattle.chunk_names.specs.Name.{ascii}
use Rattle.chunk.specs.Chunk.{chunk}
use Rattle.tree.specs.Tree.{bytes}
use Rattle.dst.specs.Frame.{Frame}
use Rattle.dst.specs.Unit.{lengths}
use Rattle.dst_index.specs.Index.{shift_of, Stands}
use Rattle.prop_fields.specs.declared.compression.Sound.TheVariants.{Dst}
use Rattle.refusal.specs.Verdict.{Verdict}
use Rattle.std.specs.Prelude.{Ok, Err}
use Rattle.refusal.proofs.VerdictLaws.{or-accepted}
use Rattle.build_options.specs.Inputs.{Inputs}
use Rattle.checks.specs.InputVerdict.{verdict}
use Rattle.file_tree.specs.Parts.{parts, index_of}
use Rattle.file_tree.specs.Sound.{Fits, sound_bytes}
use Rattle.file_tree.specs.File.{header_of, trailer_of, file_of}
use Rattle.file_tree.proofs.FileLaws.{length-header}
use Rattle.accepted_file.proofs.AcceptedLaws.{accepted-file}
use Rattle.accepted_file.proofs.IndexLaws.{index-leads}
use Rattle.build_answer.specs.Answer.{Answer}
use Rattle.assemble.specs.Build.{build_verdict, Outcome, Builds}

-- a build that answers lengths was accepted, and its buffers begin with header and trailer
pub record Made (x : Inputs) (h' t' : List ℕ) (a c : ℕ) : Type 0 where
  pub ok : verdict x ≡ Ok tt
  pub header : take a h' ≡ header_of x
  pub trailer : take c t' ≡ trailer_of x

-- the lengths that an answer tells
abbrev header_by : Answer → ℕ
header_by (Ok built) = built.header
header_by (Err f) = 0

abbrev trailer_by : Answer → ℕ
trailer_by (Ok built) = built.trailer
trailer_by (Err f) = 0

pub made : (x : Inputs) (h t : List ℕ) {h' t' : List ℕ} {r : Answer} {a b c : ℕ} → Builds x h h' t t' r → r ≡ Ok (record { header = a; sound = b; trailer = c }) → Made x h' t' a c
made x h t {h'} {t'} {r} {a} {b} {c} outcome e = by (build_verdict x h t) refl outcome
  where
    by : (v : Verdict) → build_verdict x h t ≡ v → Outcome x v h h' t t' r → Made x h' t' a c
    by (Ok tt) k o =
        let n : a ≡ length (header_of x) = ap header_by (sym e ∙ o.answers) in
        let m : c ≡ length (trailer_of x) = ap trailer_by (sym e ∙ o.answers) in
        record {
          ok = (or-accepted (verdict x) _ k).0;
          header = rw o.header (take_at (header_of x) _ a (sym n));
          trailer = rw o.trailer (take_at (trailer_of x) _ c (sym m));
        }
    by (Err f) k o = let z : ◌≡◌ {A = ℕ} 0 1 = cc in absurd (omega arith)

module _ (x : Inputs) (h t : List ℕ) {h' t' : List ℕ} {r : Answer} {a b c : ℕ} (promise : Builds x h h' t t' r) (e : r ≡ Ok (record { header = a; sound = b; trailer = c })) where
  -- THE BUFFERS of an accepted build are the two sides of the sound in the bytes of the file, for any frames of the given lengths
  pub whole : (fs : List Frame) → Fits x.area.sound x.area x.lengths fs
      → take a h' ++ sound_bytes x.area.sound x.options.dst_crc fs ++ take c t' ≡ bytes (file_of x fs)
  whole fs fits = let m = made x h t promise e in rw (m.header, m.trailer) (accepted-file x m.ok promise.orders fs fits)

  -- EACH ENTRY of a DST build's index, less 12 under `FrameData`, is the place of its own frame's DSTF; the header's length is the place from which the offsets count
  pub leads : x.area.sound ≡ Dst → (fs : List Frame) → lengths fs ≡ x.lengths → (i : ℕ) (d : Frame) → i < length fs
      → Stands (bytes (file_of x fs)) (num (take 8 (drop (12 * i) (index_of (parts x) (length (header_of x))))) - shift_of x.options.dst_index_offset)
      (chunk (ascii "DSTF") (get_or fs i d).code)
  leads dst fs same i d l = rw length-header (index-leads x (made x h t promise e).ok promise.orders dst fs same i d l)
