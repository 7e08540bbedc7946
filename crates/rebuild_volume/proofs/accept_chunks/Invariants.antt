-- `rebuild_volume::accept_chunks` meets its contract. The invariant: `Passed` says what is still to be ruled on before chunk i, and the length so far. Assumes nothing.
use Prim.Native.Nat.{◌/◌}
use lib.ListN.{length}
use Rattle.rebuild_volume.proofs.Passing.{Passed}
use Rattle.rebuild_volume.proofs.accept_chunks.Given as goal

abbrev pub invariant-loop-i : goal.invariant-loop-i
invariant-loop-i l = Passed l.index l.lists l.blocks (length l.index / 8) l.i l.l l.b l.at
