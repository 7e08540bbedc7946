-- `estimate::count` meets its contract. The invariant: `Counting` says what is counted before record i, and what is to come. Assumes nothing.
use Prim.Native.Nat.{◌/◌}
use lib.ListN.{length}
use Rattle.estimate.proofs.Counting.{Counting}
use Rattle.estimate.proofs.count.Given as goal

abbrev pub invariant-loop-i : goal.invariant-loop-i
invariant-loop-i l = Counting l.list l.choice (length l.list / 12) l.i l.last l.entries l.stored
