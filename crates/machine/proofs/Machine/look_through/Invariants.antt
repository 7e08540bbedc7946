-- `machine::Machine::look_through` meets its contract. The invariant: `Round` says that the list is sound, that the looks left are enough, and that the pass comes to
-- what they come to. The measure is the number of looks left. Assumes nothing.
use Prim.Native.Nat.{◌*◌, ◌-◌}
use lib.ListN.{length}
use Rattle.machine.specs.Machine.{right_of}
use Rattle.machine.proofs.Rounds.{Round}
use Rattle.machine.proofs.Machine.look_through.Given as goal

abbrev pub invariant-loop-self : goal.invariant-loop-self
invariant-loop-self l = Round l.rates (right_of l.initial.self) l.self l.looks

abbrev pub decreases-loop-self : goal.decreases-loop-self
decreases-loop-self l = 2 * length (right_of l.initial.self) - l.looks
