-- `area::put_blocks` meets its contract. The invariant: the first k blocks of src stand in the area. Assumes nothing.
use Prim.Native.Nat.{◌*◌}
use mathlib.Core.Path.{◌≡◌}
use lib.ListN.{take}
use Rattle.area.specs.Area.{pasted}
use Rattle.area.proofs.put_blocks.Given as goal

abbrev pub invariant-loop-k : goal.invariant-loop-k
invariant-loop-k g l = l.area ≡ pasted l.at (take (g.row.N * l.k) l.src) l.initial.area
