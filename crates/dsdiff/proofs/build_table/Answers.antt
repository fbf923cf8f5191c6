-- `build_table` meets its contract: as many markers as the table has rows for are its first rows; more are refused. Assumes nothing.
use mathlib.Core.Path.{refl}
use Prim.Native.Nat.{◌*◌}
use native.Mathlib.Omega.{arith}
use lib.Dec.{lit≤}
use Rattle.build_options.specs.Inputs.{inputs_of, with_markers}
use Rattle.assemble.proofs.BuildLaws.{refused}
use Rattle.dsdiff.proofs.TableLaws.{looked, looked-none, by_rows, many-refused}
use Rattle.dsdiff.proofs.build_table.Goals as goal

pub returns-then-not-inputs : goal.returns-then-not-inputs
returns-then-not-inputs c = let custom = c.if-not-inputs.true in
    λ ms is count.
    by_rows (λ rows. with_markers rows (inputs_of c.args.inputs.now)) (looked-none c.args.table.now 0 ms c.args.inputs.now.options.custom_markers custom refl) c.build_part.ensures

pub returns-then-n-gt-MOST_MARKERS : goal.returns-then-n-gt-MOST_MARKERS
returns-then-n-gt-MOST_MARKERS c = let o = c.orders.ensures in
    λ ms is count.
    refused _ (record { property = o.property; info = o.info; local = o.local }) _ _ refl
    (many-refused _ ms c.if-not-inputs.false (rw c.if-not-inputs.false) (omega (arith, c.if-n-gt-MOST_MARKERS.true, count)))

pub returns : goal.returns
returns c =
    λ ms is count.
    by_rows (λ rows. with_markers rows (inputs_of c.args.inputs.now))
    (looked 262_140 c.args.table.now c.args.n (c.args.n * 4) ms c.args.inputs.now.options.custom_markers (lit≤ tt) is count c.if-not-inputs.false c.if-n-gt-MOST_MARKERS.false refl)
    c.build_part-2.ensures
