-- `words::same_blocks` meets its contract. Invariant: the blocks so far are the same. Measure: the bytes left before the last block. Assumes nothing.
use Prim.Native.Nat.{◌-◌}
use mathlib.Core.Bool.{true}
use Rattle.words.proofs.Stretches.{TellsFirst}
use Rattle.words.proofs.same_blocks.Given as goal

abbrev pub invariant-loop-i : goal.invariant-loop-i
invariant-loop-i l = TellsFirst true l.i l.a l.b

abbrev pub decreases-loop-i : goal.decreases-loop-i
decreases-loop-i l = l.last - l.i
