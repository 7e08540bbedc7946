-- `report::Text::push_pass` meets its contract: the cost, then the looks. Assumes nothing.
use native.Mathlib.Omega.{arith}
use Rattle.report.proofs.Composing.{wrote_append}
use Rattle.report.proofs.Text.push_pass.Goals as goal

pub returns : goal.returns
returns c = wrote_append (omega arith) c.push_field.ensures c.push_last.ensures
