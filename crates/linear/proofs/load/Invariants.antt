-- `linear::load` meets its contract. The invariant: `Laid` says that the tidy form of the records from i on stands from p's place on. Assumes nothing.
use Rattle.linear.proofs.Loading.{Laid}
use Rattle.linear.proofs.load.Given as goal

abbrev pub invariant-loop-i : goal.invariant-loop-i
invariant-loop-i l = Laid l.list l.loaded l.i
