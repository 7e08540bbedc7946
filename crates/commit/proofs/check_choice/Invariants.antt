-- `commit::check_choice` meets its contract. The invariant: there is a byte for each record, and the ruling on all of them is the ruling on those from
-- record i on. Assumes nothing.
use mathlib.Core.Path.{◌≡◌}
use lib.ListN.{length, drop}
use Rattle.format.specs.Record.{records_from}
use Rattle.commit.specs.Commit.{bytes_ruling, choice_ruling}
use Rattle.commit.proofs.check_choice.Given as goal

abbrev pub invariant-loop-i : goal.invariant-loop-i
invariant-loop-i l = (length l.choice ≡ l.n) × (choice_ruling l.list l.choice ≡ bytes_ruling l.i (records_from l.list l.n l.i) (drop l.i l.choice))
