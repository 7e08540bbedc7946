-- `show::stored_before` meets its contract. The invariant: `sum` is the stored bytes of the first i records. Assumes nothing.
use mathlib.Core.Path.{◌≡◌}
use lib.ListN.{take}
use Rattle.format.specs.Record.{records_of}
use Rattle.format.specs.Meaning.{stored}
use Rattle.show.proofs.stored_before.Given as goal

abbrev pub invariant-loop-i : goal.invariant-loop-i
invariant-loop-i l = l.sum ≡ stored (take l.i (records_of l.list))
