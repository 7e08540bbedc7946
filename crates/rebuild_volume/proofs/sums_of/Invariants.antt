-- `rebuild_volume::sums_of` meets its contract. The invariant: the sums so far and those of the records left are the index's; each sum stays below 2³² for each
-- record. Assumes nothing.
use Prim.Native.Nat.{◌+◌, ◌*◌, ◌/◌, ◌≤◌}
use lib.ListN.{length}
use mathlib.Core.Path.{◌≡◌}
use Rattle.volume.specs.Volume.{index_rows_of, lists_length, blocks_length}
use Rattle.volume.proofs.Cutting.{rows_from}
use Rattle.rebuild_volume.proofs.sums_of.Given as goal

abbrev pub invariant-loop-i : goal.invariant-loop-i
invariant-loop-i l = (l.lists ≤ 4294967295 * l.i) × (l.blocks ≤ 4294967295 * l.i)
    × (l.lists + lists_length (rows_from l.index (length l.index / 8) l.i) ≡ lists_length (index_rows_of l.index)) × (l.blocks + blocks_length (rows_from l.index (length l.index / 8) l.i) ≡ blocks_length (index_rows_of l.index))
