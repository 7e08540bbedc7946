-- The goals of `rebuild_volume::sums_of` that are left. Its invariant is in `Invariants`. Assumes nothing.
use Prim.Native.Nat.{◌/◌}
use native.Mathlib.Omega.{arith}
use mathlib.Core.Path.{ap}
use lib.ListN.{length}
use Rattle.volume.specs.Volume.{lists_length, blocks_length}
use Rattle.volume.proofs.Cutting.{rows_next}
use Rattle.rebuild_volume.proofs.sums_of.Goals as goal

pub loop-i-preserved : goal.loop-i-preserved
loop-i-preserved c =
    let g = c.args in
    let l = c.loop-i in
    let n = length g.index.now / 8 in
    let e = rows_next g.index.now n l.i c.index_row_at-row.ensures (omega arith) in
    (omega arith, omega arith, omega (arith, ap lists_length e, l.invariant.2), omega (arith, ap blocks_length e, l.invariant.3))
