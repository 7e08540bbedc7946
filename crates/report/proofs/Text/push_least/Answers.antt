-- `report::Text::push_least` meets its contract: three fields, one after the other. Assumes nothing.
use native.Mathlib.Omega.{arith}
use Rattle.report.proofs.Composing.{wrote_append}
use Rattle.report.proofs.Text.push_least.Goals as goal

pub returns : goal.returns
returns c =
    let entries = rw c.from.ensures at c.push_field-2.ensures in
    let stored = rw c.from-2.ensures at c.push_field-3.ensures in
    wrote_append (omega arith) (wrote_append (omega arith) c.push_field.ensures entries) stored
