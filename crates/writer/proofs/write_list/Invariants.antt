-- `writer::write_list` meets its contract. The invariant: `Listing` says what stands in the area before record i, and what is to come. The measure is
-- the number of records left. Assumes nothing.
use Prim.Native.Nat.{◌-◌, ◌/◌, ◌≤◌}
use lib.ListN.{length}
use Rattle.format.specs.Record.{records_of}
use Rattle.choice.specs.Choice.{chosen, bits_of}
use Rattle.emit.proofs.Listing.{Listing}
use Rattle.writer.specs.Write.{chosen_from}
use Rattle.writer.proofs.write_list.Given as goal

abbrev pub invariant-loop-i : goal.invariant-loop-i
invariant-loop-i l = (l.i ≤ l.n) × Listing (chosen (records_of l.list) (bits_of (length l.list / 12) l.choice)) l.fn.list_area l.initial.written l.written (chosen_from l.list l.choice l.n l.i)

abbrev pub decreases-loop-i : goal.decreases-loop-i
decreases-loop-i l = l.n - l.i
