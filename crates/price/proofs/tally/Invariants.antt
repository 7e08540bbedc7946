-- `price::tally` meets its contract. The invariant: what is counted and what is to come are the new entries of the list, and no record is counted
-- twice. Assumes nothing.
use Prim.Native.Nat.{◌+◌, ◌/◌, ◌≤◌}
use mathlib.Core.Path.{◌≡◌}
use lib.ListN.{length}
use Rattle.format.specs.Record.{records_of, records_from}
use Rattle.price.specs.Price.{news}
use Rattle.price.proofs.tally.Given as goal

abbrev pub invariant-loop-i : goal.invariant-loop-i
invariant-loop-i l = (l.count ≤ l.i) × (news (records_of l.list) ≡ l.count + news (records_from l.list (length l.list / 12) l.i))
