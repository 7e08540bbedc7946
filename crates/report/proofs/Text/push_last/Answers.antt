-- `report::Text::push_last` meets its contract: the field, then the end of the line. Assumes nothing.
use native.Mathlib.Omega.{arith}
use Rattle.report.proofs.Composing.{wrote_append}
use Rattle.report.proofs.Text.push_last.Goals as goal

pub returns : goal.returns
returns c = wrote_append (omega arith) (rw c.from.ensures at c.push_field.ensures) c.push.ensures
