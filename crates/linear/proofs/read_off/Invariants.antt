-- `linear::read_off` meets its contract. The invariant: `Off` says which items the records from i on are still to cover, and what stands in the area.
-- Assumes nothing.
use Rattle.linear.proofs.Reading.{Off}
use Rattle.linear.proofs.read_off.Given as goal

abbrev pub invariant-loop-i : goal.invariant-loop-i
invariant-loop-i l = Off l.machine l.list l.initial.choice l.choice l.at l.uncovered l.i
