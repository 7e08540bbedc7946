-- `volume::fill_volume` meets its contract. The invariant: `Built` says what stands in the area before chunk i and what is to come. Assumes nothing.
use Prim.Native.Nat.{◌/◌}
use lib.ListN.{length}
use Rattle.volume.proofs.Building.{Built}
use Rattle.volume.proofs.fill_volume.Given as goal

abbrev pub invariant-loop-i : goal.invariant-loop-i
invariant-loop-i l = Built l.index l.lists l.blocks l.initial.area l.area (length l.index / 8) l.i l.l l.b l.at
