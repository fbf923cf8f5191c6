-- The goals that a check leaves.
use Rattle.std.proofs.Common.{◌≡◌, ap₂, ◌∙◌, ℕ, ◌≤◌, ◌/◌, arith, length, Bor, List, ◌++◌}
use Rattle.std.specs.List.{concat}
use Rattle.std.proofs.Math.ListN.{drop_of_length-le}
use Rattle.checksum.specs.Crc.{bytes_of, crc_of}
use Rattle.checksum.proofs.CrcTable.{rule}
use Rattle.checksum.proofs.RingLaws.{step, words_joined, words_first}
use Rattle.checksum.proofs.crc.crc.Goals as goal
use Rattle.checksum.proofs.crc.crc.Goals.{then-whole-ge-SHORT, else-whole-ge-SHORT}

pub words-r-requires : goal.words-r-requires
words-r-requires c = rule

pub loop-byte-init : goal.loop-byte-init
unfolding crc_of
loop-byte-init c = elim c.if-whole-ge-SHORT.branch [
  | then-whole-ge-SHORT w ↦
      let all : concat c.as_chunks.result.0.now ++ c.if-whole-ge-SHORT.rest.now ≡ c.args.content.now =
      rw (c.as_chunks.ensures.front, w.rest-is, c.as_chunks.ensures.back) (words_joined 8 (length c.args.content.now / 8) c.args.content.now) in
      words_first c.args.content.now c.if-whole-ge-SHORT.r (concat c.as_chunks.result.0.now) c.if-whole-ge-SHORT.rest.now (w.r-is ∙ w.words-r.ensures) all
  | else-whole-ge-SHORT w ↦ ap₂ (λ (r : ℕ) (b : Bor (List ℕ)). bytes_of r b.now) w.r-is w.rest-is
]

pub next-r-requires : goal.next-r-requires
next-r-requires c = rule

pub loop-byte-preserved : goal.loop-byte-preserved
loop-byte-preserved c =
    rw c.next-r.ensures (step c.if-whole-ge-SHORT.rest.now c.loop-byte.byte-index c.loop-byte.r c.loop-byte-test.true ∙ c.loop-byte.invariant)

pub returns : goal.returns
unfolding bytes_of
returns c =
    let h : length c.if-whole-ge-SHORT.rest.now ≤ c.loop-byte.byte-index = omega arith in
    rw drop_of_length-le at c.loop-byte.invariant
