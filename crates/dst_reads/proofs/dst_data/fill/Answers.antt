-- `dst_data::fill` meets its contract. Assumes nothing.
use mathlib.Core.Bool.{Bool}
use mathlib.Core.Path.{◌≡◌, refl, sym, ◌∙◌}
use Prim.Native.Nat.{ℕ, ◌-◌, ◌≤◌}
use mathlib.Core.List.{List}
use Rattle.sound_reads.specs.declared.place.Place.{Place}
use Rattle.sound_reads.specs.declared.place.Positions.{Positions}
use Rattle.sound_reads.specs.Place.{place_of}
use Rattle.sound_reads.specs.Steps.{byte_at}
use native.Mathlib.Omega.{arith}
use lib.ListN.{length, take, drop}
use borrow.Author.Rules.{rules}
use Rattle.sound_reads.specs.Lent.{is_lent}
use Rattle.sound_reads.specs.Positions.{positions_for, between}
use Rattle.dst.specs.Unit.{sizes}
use Rattle.dst.specs.Frame.{plain_bytes}
use Rattle.dst_reads.proofs.FillLaws.{needed-known, filled-lent}
use Rattle.sound_reads.proofs.LentLaws.{lent-lengths, mid_slice}
use Rattle.sound_reads.proofs.PlaceLaws.{inside, byte_at_lem}
use Rattle.dst_reads.proofs.dst_data.fill.Goals as goal

-- the positions that were found are those that the read needs
wanted : (ss : List ℕ) (skip n free : ℕ) (place : Place) (p : Positions)
    → place ≡ place_of ss skip → free ≡ n → p ≡ positions_for ss (byte_at ss place) free → p ≡ positions_for ss skip n
wanted ss skip n free place p e f t = rw (← byte_at_lem ss skip, ← e, ← f) t

known : (crc : Bool) (ls : List ℕ) (skip n : ℕ) (p : Positions) → p ≡ positions_for (sizes crc ls) skip n
    → (p.first ≤ p.end) × (p.end ≤ length ls)
known crc ls skip n p e = rw e (needed-known crc ls skip n)

-- the test is of what those positions have
tested : (ls lent frames contents : List ℕ) (bytes n : ℕ) (p q : Positions) (given : Bool) → p ≡ q → n ≡ bytes
    → given ≡ is_lent n (take (p.end - p.first) (drop p.first ls)) lent frames contents
    → given ≡ is_lent bytes (between q ls) lent frames contents
tested ls lent frames contents bytes n p q given e b t = rw (← e, ← b, ← mid_slice p.first p.end ls) t

pub touched-first-requires : goal.touched-first-requires
touched-first-requires c = rw c.locate-place.ensures (inside (sizes c.args.crc c.args.lengths.now) c.args.w.skip)

pub offset_bounds-lengths-first : goal.offset_bounds-lengths-first
offset_bounds-lengths-first c =
    let k = known _ _ _ _ _ (wanted _ _ _ _ _ _ c.locate-place.ensures c.saturating_sub-free.ensures c.touched-first.ensures) in
    let h : c.touched-first.result.first ≤ length c.args.lengths.now = omega (arith, k.0, k.1) in
    search rules

pub slice_bounds-is_lent-count : goal.slice_bounds-is_lent-count
slice_bounds-is_lent-count c =
    let k = known _ _ _ _ _ (wanted _ _ _ _ _ _ c.locate-place.ensures c.saturating_sub-free.ensures c.touched-first.ensures) in
    omega (arith, k.0)

pub slice_bounds-is_lent-start : goal.slice_bounds-is_lent-start
slice_bounds-is_lent-start c =
    let k = known _ _ _ _ _ (wanted _ _ _ _ _ _ c.locate-place.ensures c.saturating_sub-free.ensures c.touched-first.ensures) in
    omega (arith, k.0)

pub slice_bounds-is_lent-end : goal.slice_bounds-is_lent-end
slice_bounds-is_lent-end c =
    let k = known _ _ _ _ _ (wanted _ _ _ _ _ _ c.locate-place.ensures c.saturating_sub-free.ensures c.touched-first.ensures) in
    omega (arith, k.1)

pub returns-then-not-is_lent : goal.returns-then-not-is_lent
returns-then-not-is_lent c =
    let l = tested _ _ _ _ _ _ _ _ _ (wanted _ _ _ _ _ _ c.locate-place.ensures c.saturating_sub-free.ensures c.touched-first.ensures) c.plain_bytes-n.ensures c.is_lent.ensures in
    rw (sym l ∙ c.if-not-is_lent.true) (record { answer = refl; buffer = refl })

pub units-v-requires : goal.units-v-requires
units-v-requires c =
    let l = tested _ _ _ _ _ _ _ _ _ (wanted _ _ _ _ _ _ c.locate-place.ensures c.saturating_sub-free.ensures c.touched-first.ensures) c.plain_bytes-n.ensures c.is_lent.ensures in
    let q = lent-lengths _ _ _ _ _ (sym l ∙ c.if-not-is_lent.false) in
    record { lengths_value = rw q.0 q.1.0; lengths_value_2 = rw (q.0, c.plain_bytes-n.ensures) q.1.1 }

pub returns : goal.returns
returns c =
    let l = tested _ _ _ _ _ _ _ _ _ (wanted _ _ _ _ _ _ c.locate-place.ensures c.saturating_sub-free.ensures c.touched-first.ensures) c.plain_bytes-n.ensures c.is_lent.ensures in
    let given = sym l ∙ c.if-not-is_lent.false in
    rw (given, c.filled.ensures, c.locate-place.ensures)
    (filled-lent c.args.crc c.args.lengths.now (plain_bytes c.args.crc c.args.channels) c.args.lent.now c.args.frames.now c.args.contents.now c.args.w c.args.out.now given {v = c.units-v.result}
    (rw (← c.plain_bytes-n.ensures, ← c.locate-place.ensures) c.units-v.ensures))
