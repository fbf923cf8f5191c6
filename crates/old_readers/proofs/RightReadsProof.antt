-- NO READ OF AN ACCEPTED BUILD IS REFUSED that was given what the build was given and made, and lent just what it needs: the proof of `EveryRightRead`
-- (specs/RightReads.antt). Assumes nothing.
use mathlib.Core.Path.{◌≡◌, refl, sym, subst}
use mathlib.Core.Bool.{true, false}
use mathlib.Core.List.{List}
use Prim.Native.Nat.{ℕ, ◌≤◌}
use native.Mathlib.Omega.{arith}
use borrow.Author.Tests.{eq-eqb, le-ltb}
use lib.ListN.{length, replicate, length-replicate}
use Rattle.dst.specs.Frame.{Frame}
use Rattle.prop_fields.specs.declared.compression.Sound.{Sound}
use Rattle.prop_fields.specs.declared.compression.Sound.TheVariants.{Dsd, Dst}
use Rattle.std.specs.Prelude.{Ok}
use Rattle.dst_reads.proofs.RealLaws as dst
use Rattle.dsd_reads.proofs.RealLaws.{lent-even}
use Rattle.build_options.specs.Inputs.{Inputs}
use Rattle.checks.proofs.AcceptedLaws.{channels-right, lengths-right}
use Rattle.file_tree.specs.File.{Ordered, place, trailer_of}
use Rattle.file_tree.proofs.FileLaws.{length-header}
use Rattle.accepted_file.proofs.SizeLaws.{positions_few, lengths-few, front_low, back_low}
use Rattle.dsdiff.proofs.WholeLaws.{Made, made}
use Rattle.read_rules.specs.Format.{count_by}
use Rattle.read_rules.specs.Fault.{most_positions, longest_side, lengths_wrong_by, format_fault}
use Rattle.file_read.specs.Lent.{is_lent_for}
use Rattle.file_read.specs.Read.{Request, needed_for, read_verdict}
use Rattle.file_read.proofs.PieceLaws.{behind}
use Rattle.old_readers.specs.Premises.{AcceptedBuild, Recorded, Told, WasGiven}
use Rattle.old_readers.specs.RightReads.{LentLengths, EveryRightRead}
use Rattle.old_readers.proofs.KnownLaws.{contents_of, ReadOf, dst-needs, dsd-needs, read_of}

-- 43: what is lent is that of the needed positions
is-lent : (s : Sound) (fs : List Frame) (q : Request) (out : List ℕ) → ReadOf s fs q (length out) → LentLengths s fs q (length out)
    → is_lent_for q.format q.lengths (needed_for q (length out)) q.lent q.frames q.contents ≡ true
is-lent Dst fs q out known lent =
    rw (known.lent.0, known.lent.1, lent, dst-needs q out fs known, known.kind, known.told)
    (dst.given q.format.crc q.format.channels fs known.plain (behind q out) out)
is-lent Dsd fs q out known lent =
    rw (known.lent, lent.0, lent.1, dsd-needs q out (contents_of fs) known, known.kind)
    (eq-eqb _ _ (lent-even q.format.channels (contents_of fs) known.even (behind q out) out))

-- 42: what it is told is that of an accepted build
module _ (b : AcceptedBuild) (fs : List Frame) (q : Request) (room : ℕ) (given : WasGiven b fs q room) where
  abbrev x : Inputs
  x = b.inputs

  built : Made x b.header_buffer b.trailer_buffer b.header_length b.trailer_length
  built = made x b.header_before b.trailer_before b.promise refl

  abbrev sized : Ordered x
  sized = b.promise.orders

  header-low : length q.header ≤ longest_side
  unfolding place
  header-low = rw (given.header, built.header, length-header) (omega (arith, front_low x built.ok sized 0))

  trailer-low : length q.trailer ≤ longest_side
  unfolding trailer_of
  trailer-low = rw (given.trailer, built.trailer) (omega (arith, back_low x built.ok sized (place x)))

  lengths-told : (s : Sound) → Told s x q → lengths_wrong_by s q.lengths ≡ false
  lengths-told Dsd many = refl
  lengths-told Dst ls = rw ls (lengths-right x built.ok)

  few-told : (s : Sound) → Told s x q → count_by q.format q.lengths s ≤ most_positions
  few-told Dsd many = rw many (positions_few x built.ok sized)
  few-told Dst ls = rw ls (lengths-few x built.ok sized)

  format-right : format_fault q.format q.lengths (length q.header) (length q.trailer) ≡ Ok tt
  unfolding format_fault
  format-right =
      let s = x.area.sound in
      rw (
        given.kind,
        given.channels,
        channels-right x built.ok,
        lengths-told s given.lengths,
        le-ltb most_positions (count_by q.format q.lengths s) (few-told s given.lengths),
        le-ltb longest_side (length q.header) header-low,
        le-ltb longest_side (length q.trailer) trailer-low,
      )

-- a read into a buffer
into : (b : AcceptedBuild) (fs : List Frame) → Recorded b.inputs fs → (q : Request) (out : List ℕ) → WasGiven b fs q (length out)
    → LentLengths b.inputs.area.sound fs q (length out) → read_verdict q (length out) ≡ Ok tt
into b fs recorded q out given lent =
    let known = read_of b fs recorded q (length out) given in
    rw (format-right b fs q (length out) given, is-lent b.inputs.area.sound fs q out known lent)

pub every-right-read : EveryRightRead
every-right-read b fs recorded q room given lent =
    let e = length-replicate {A = ℕ} room 0 in
    subst (λ (n : ℕ). read_verdict q n ≡ Ok tt) e
    (into b fs recorded q (replicate room 0) (subst (λ (n : ℕ). WasGiven b fs q n) (sym e) given)
    (subst (λ (n : ℕ). LentLengths b.inputs.area.sound fs q n) (sym e) lent))
