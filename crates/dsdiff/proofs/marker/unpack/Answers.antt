-- The goals that a check leaves.
use mathlib.Core.Path.{◌≡◌, refl, sym, ap, ◌∙◌}
use mathlib.Core.List.{List}
use Prim.Native.Nat.{ℕ, ◌+◌, ◌<◌}
use native.Mathlib.Numerals.{add-one}
use lib.ListN.{length, get_or, drop, drop_of_length-le}
use lib.Seq.{drop-cons}
use Rattle.dsdiff.specs.declared.marker.Marker.{Marker}
use Rattle.dsdiff.specs.Table.{stored, filled}
use Rattle.dsdiff.proofs.marker.unpack.Goals as goal

-- one marker more is stored
stored-left : (ms : List Marker) (ys zs : List ℕ) (i : ℕ) (d : Marker) → i < length ms → zs ≡ stored ys i (get_or ms i d)
    → filled zs (i + 1) (drop (i + 1) ms) ≡ filled ys i (drop i ms)
unfolding filled
stored-left ms ys zs i d within e =
    ap (λ (z : List ℕ). filled z (i + 1) (drop (i + 1) ms)) e
    ∙ ap (λ (k : ℕ). filled (stored ys i (get_or ms i d)) (i + 1) (drop k ms)) (add-one i)
    ∙ ap (λ (l : List Marker). filled ys i l) (sym (drop-cons ms i d within))

pub loop-i-init : goal.loop-i-init
loop-i-init c = refl

pub loop-i-preserved : goal.loop-i-preserved
loop-i-preserved c = stored-left c.args.markers.now c.loop-i.table c.put.new.table c.loop-i.i _ c.loop-i-test.true c.put.ensures ∙ c.loop-i.invariant

pub returns : goal.returns
unfolding filled
returns c = ap (λ (l : List Marker). filled c.loop-i.table c.loop-i.i l) (sym (drop_of_length-le c.args.markers.now c.loop-i-test.false)) ∙ c.loop-i.invariant
