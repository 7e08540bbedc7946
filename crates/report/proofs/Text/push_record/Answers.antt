-- `report::Text::push_record` meets its contract: the size of a match, then its address. Assumes nothing.
use native.Mathlib.Omega.{arith}
use Rattle.report.proofs.Composing.{wrote_append}
use Rattle.report.proofs.Text.push_record.Goals as goal

pub returns-in-Match : goal.returns-in-Match
returns-in-Match c = rw c.in-Match.is (wrote_append (omega arith) (rw c.from.ensures at c.push_field.ensures) c.push_last-in-Match.ensures)
