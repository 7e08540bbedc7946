-- `writer::run_at` meets its contract. The invariant: one new record stands for those so far. Assumes nothing.
use Rattle.format.specs.declared.Record.TheVariants.{New}
use Rattle.writer.specs.Write.{RunOf}
use Rattle.writer.proofs.run_at.Given as goal

abbrev pub invariant-loop-k : goal.invariant-loop-k
invariant-loop-k l = RunOf l.list l.choice l.n l.i (record { entry = New l.size; next = l.k })
