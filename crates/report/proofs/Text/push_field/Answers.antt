-- `report::Text::push_field` meets its contract: the word, then the number. Assumes nothing.
use native.Mathlib.Omega.{arith}
use Rattle.report.proofs.Composing.{wrote_append}
use Rattle.report.proofs.Text.push_field.Goals as goal

pub returns : goal.returns
returns c = wrote_append (omega arith) c.push.ensures c.push_number.ensures
