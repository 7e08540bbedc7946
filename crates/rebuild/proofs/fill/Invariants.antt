-- `rebuild::fill` meets its contract. The invariant: `Copied` says what stands in the area before record i and what is to come. Assumes nothing.
use Prim.Native.Nat.{◌/◌}
use lib.ListN.{length}
use Rattle.rebuild.proofs.Copying.{Copied}
use Rattle.rebuild.proofs.fill.Given as goal

abbrev pub invariant-loop-i : goal.invariant-loop-i
invariant-loop-i l = Copied l.list l.block l.store l.initial.area l.area (length l.list / 12) l.i l.used l.out
