-- The goals of `area::put_plain` that are left. Its invariant is in `Invariants`. Assumes nothing.
use Prim.Native.Nat.{◌+◌}
use native.Mathlib.Omega.{arith}
use mathlib.Core.Path.{◌≡◌}
use lib.ListN.{take, drop}
use Rattle.area.specs.Area.{pasted}
use Rattle.area.proofs.Pasting.{pasted_one, take_one, pasted_next}
use Rattle.std.proofs.Common.{slice_set, slice_index_or}
use Rattle.area.proofs.put_plain.Goals as goal

pub loop-i-preserved : goal.loop-i-preserved
loop-i-preserved c =
    let g = c.args in
    let l = c.loop-i in
    let x = slice_index_or g.src.now l.i 0 in
    let put : slice_set l.area (g.at + l.i) x ≡ pasted (g.at + l.i) (take 1 (drop l.i g.src.now)) l.area =
    rw (take_one l.i g.src.now c.loop-i-test.true) (pasted_one (g.at + l.i) x l.area (omega (arith, l.auto.area))) in
    pasted_next g.at l.i g.src.now g.area.now l.area (omega arith) (omega arith) l.invariant 1 (l.i + 1) _ (omega arith) (omega arith) put
