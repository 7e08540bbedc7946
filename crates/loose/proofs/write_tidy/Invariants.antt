-- `loose::write_tidy` meets its contract. The invariant: `Listing` says what stands in the area before record i, and what is to come. Assumes nothing.
use Prim.Native.Nat.{◌/◌}
use lib.ListN.{length}
use Rattle.format.specs.Record.{records_of, records_from}
use Rattle.emit.proofs.Listing.{Listing}
use Rattle.loose.proofs.write_tidy.Given as goal

abbrev pub invariant-loop-i : goal.invariant-loop-i
invariant-loop-i l = Listing (records_of l.list) l.fn.area l.initial.written l.written (records_from l.list (length l.list / 12) l.i)
