-- `writer::write_block` meets its contract. The invariant: `Storing` says what stands in the block before record i, what is to come, and how many
-- records were new. Assumes nothing.
use Prim.Native.Nat.{◌/◌}
use lib.ListN.{length}
use Rattle.writer.proofs.Writing.{Storing}
use Rattle.writer.proofs.write_block.Given as goal

abbrev pub invariant-loop-i : goal.invariant-loop-i
invariant-loop-i l = Storing l.list l.version l.initial.block_area l.block_area (length l.list / 12) l.i l.at l.out l.fresh
