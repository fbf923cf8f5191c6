-- Header, sound and trailer, each put into its part of the buffer, are a read of the file. Assumes nothing.
use mathlib.Core.Path.{◌≡◌, refl, ap, ◌∙◌}
use mathlib.Core.List.{List, append_assoc}
use Prim.Native.Nat.{ℕ, ◌+◌, ◌-◌, min}
use native.Mathlib.Omega.{arith}
use lib.ListN.{length}
use Rattle.window.specs.declared.window.Window.{Window}
use Rattle.window.specs.Window.{after, Wrote}
use Rattle.window.proofs.WindowLaws.{◌then◌, before}
use Rattle.std.specs.Prelude.{Option, Some, None, Ok, Err}
use Rattle.sound_reads.specs.Positions.{positions_for}
use Rattle.sound_reads.specs.Lent.{needed_at}
use Rattle.sound_reads.specs.Fill.{Filling}
use Rattle.read_rules.specs.Format.{unit_sizes}
use Rattle.read_rules.specs.Needed.{needed}
use Rattle.refusal.specs.declared.verdict.Refusal.TheVariants.{NotLent}
use Rattle.file_read.specs.Lent.{is_lent_for, sound_with}
use Rattle.file_read.specs.Read.{Request, needed_for, lent_fault, file_with, Reading}
use Rattle.file_read.proofs.FillLaws.{untouched, put}

module _ (q : Request) (out : List ℕ) where
  -- the place at the start, and behind the header
  abbrev pub begin : Window
  begin = record { at = 0; skip = q.offset }

  abbrev pub behind : Window
  behind = after (length q.header) (length out) begin

  -- the positions that are needed from there on are those that the read needs
  pub needed-behind : needed_at (unit_sizes q.format q.lengths) behind out ≡ needed_for q (length out)
  unfolding after needed
  needed-behind =
      let e : length out - (0 + min (length q.header - q.offset) (length out - 0)) ≡ length out - (length q.header - q.offset) = omega arith in
      ap (λ (n : ℕ). positions_for (unit_sizes q.format q.lengths) (q.offset - length q.header) n) e

  -- what `fill` promises at a place
  abbrev Sounds : Window → List ℕ → Option Window → Type 0
  Sounds w last r =
      let p = needed_at (unit_sizes q.format q.lengths) w out in
      Filling (is_lent_for q.format q.lengths p q.lent q.frames q.contents) (sound_with q.format q.lengths p q.frames q.contents) w out last r

  -- 43: nothing is written
  pub not-lent : {v : Window} {mid : List ℕ} {r : Option Window} → v ≡ behind → Sounds v mid r → r ≡ None → Reading (lent_fault q (length out)) q out mid (Err NotLent)
  not-lent {v} {mid} {r} e s told =
      let u = untouched _ (rw (e, needed-behind) at s) told in
      rw u.wrong (record { answer = refl; buffer = u.same })

  -- the three pieces, of which the header is put last
  pub laid : {v w u t : Window} {mid late last : List ℕ} {r : Option Window} → v ≡ behind → Sounds v mid r → r ≡ Some w → Wrote q.trailer w mid late u
      → Wrote q.header begin late last t → Reading (lent_fault q (length out)) q out last (Ok u.at)
  unfolding after
  laid {v} {w} {u} {t} {mid} {late} {last} {r} e s told trailer header =
      let p = put _ (rw (e, needed-behind) at s) told in
      let sound = sound_with q.format q.lengths (needed_for q (length out)) q.frames q.contents in
      let all : Wrote (file_with q (length out)) begin out last u = rw (append_assoc q.header sound q.trailer) (before refl (p.wrote then trailer) header) in
      let n : 0 + min (length (file_with q (length out)) - q.offset) (length out - 0) ≡ min (length out) (length (file_with q (length out)) - q.offset) = omega arith in
      rw p.right (record { answer = ap Ok (ap (λ (v : Window). v.at) all.place ∙ n); buffer = all.filled })
